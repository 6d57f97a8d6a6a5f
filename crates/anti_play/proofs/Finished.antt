-- What `finish` makes of a run: turn after turn an entry more, until none is left to make.
use Rattle.std.proofs.Common.{◌≡◌, ℕ, zero, suc, ◌+◌, ◌*◌, ◌<◌, ◌≤◌, ◌++◌, List, [], length, refl, sym, ap, ◌∙◌, subst, arith, append-nil, append_assoc, true}
use Rattle.std.specs.Prelude.{IsTrue, Option, None, Some, option_and_then, option_map, slice_get, unwrap_or}
use Rattle.std.specs.Option.{option_map_or}
use Rattle.anti_ids.specs.declared.limits.TheConstants.{MOST_UNITS}
use Rattle.anti_kind.specs.declared.actor.Actor.TheVariants.{Process as Acting}
use Rattle.anti_kind.specs.declared.actor.Birth.{Birth}
use Rattle.anti_kind.specs.declared.call.Call.{Call}
use Rattle.anti_kind.specs.declared.call.Call.TheVariants as calls
use Rattle.anti_kind.specs.declared.entry.Entry.{Entry}
use Rattle.anti_kind.specs.Objects.{Start}
use Rattle.anti_kind.proofs.Bounds.{length_within}
use Rattle.anti_app.specs.declared.app.App.{App}
use Rattle.anti_app.specs.declared.app.Choice.{Choice}
use Rattle.anti_app.specs.declared.app.Choice.TheVariants.{Take, Repost, Pull, Repull, Ship, Again, Go, Finish}
use Rattle.anti_app.specs.Sound.{is_sound}
use Rattle.anti_object.specs.Starts.{start_of}
use Rattle.anti_object.proofs.Starts.{start_there, start_sound}
use Rattle.anti_trace.specs.Traces.{entries_on, entries_by, put}
use Rattle.anti_trace.proofs.Bounds.{length_bound}
use Rattle.anti_trace.proofs.Puts.{length-put}
use Rattle.anti_proc.specs.Trees.{Tree, Want, Make, Over, want_of}
use Rattle.anti_proc.specs.Meaning.{process_after}
use Rattle.anti_app.specs.Objects.{inbox_number, object_count}
use Rattle.anti_kind.specs.declared.asking.Asking.{Asking}
use Rattle.anti_app.specs.declared.app.SubDef.{SubDef}
use Rattle.anti_app.specs.Subs.{position_on}
use Rattle.anti_play.specs.Schedule.{asking_at, asked_by, bearing, carrying, clock_of, pulling, made_at, chosen, offers, first_made, after_turns, finished}
use Rattle.anti_play.specs.Complete.{IsComplete}
use Rattle.anti_trace.specs.Legal.{IsLegalTrace, bears, carries}
use Rattle.anti_trace.specs.Histories.{GoesOn}
use Rattle.anti_trace.specs.inner.Living.{Gets}
use Rattle.anti_trace.proofs.Followed.{goes_on as histories_go_on}
use Rattle.anti_play.specs.inner.Standing.{IsAsked}
use Rattle.anti_play.proofs.MadeAt.{made_of}
use Rattle.anti_play.proofs.Stepped.{Stepped, stepped}
use Rattle.anti_play.proofs.FirstOf.{first_found, none_found}

-- ---- the run goes on behind an entry that a choice makes

pub record Further (app : App) (trace : List Entry) (e : Entry) : Type 0 where
  pub run : IsLegalTrace app (put e trace)
  pub gets : Gets app trace (put e trace) e
  pub known : e.object < object_count app

module _ (app : App) (sound : IsTrue (is_sound app)) (trace : List Entry) (run : IsLegalTrace app trace) where
  asked_further : (q : Asking) (e : Entry) → IsAsked app trace q → q.clock ≡ clock_of q.actor trace → made_at app trace q ≡ Some e → Further app trace e
  asked_further q e asks clock m =
      let st : Stepped app trace q e = stepped app trace q e sound run asks clock (made_of app trace q e m) in
      let at : e.object ≡ q.object = st.object in
      let known : q.object < object_count app = st.known in
      record { run = st.run; gets = st.gets; known = omega arith }

  module _ (b : Birth) where
    abbrev left : Tree
    left = process_after app (entries_by (Acting b) trace)

    go_further : (e : Entry) (want : Want) → want_of left ≡ want → option_and_then (made_at app trace) (asked_by trace b want) ≡ Some e → Further app trace e
    go_further e (Make object span call) at m =
        asked_further (asking_at trace object (Acting b) span call) e at refl m
    go_further e (Over end) at m = absurd (cc)

  -- a call of the carrier, or one by which a process is born
  pub carry_further : (object : ℕ) (call : Call) (e : Entry) → carries call ≡ true → made_at app trace (carrying trace object call) ≡ Some e → Further app trace e
  carry_further object call e is m = asked_further (carrying trace object call) e (is, refl) refl m

  bear_further : (object : ℕ) (call : Call) (e : Entry) → bears call ≡ true → made_at app trace (bearing trace object call) ≡ Some e → Further app trace e
  bear_further object call e is m = asked_further (bearing trace object call) e (is, refl) refl m

  pull_further : (call : ℕ → Call) (number : ℕ) (e : Entry) → ((n : ℕ) → bears (call n) ≡ true) → (sub : Option SubDef)
      → option_and_then (made_at app trace) (option_map (pulling app trace call number) sub) ≡ Some e → Further app trace e
  pull_further call number e is None m = absurd (cc)
  pull_further call number e is (Some sub) m =
      bear_further sub.store (call (position_on app sub.store number)) e (is (position_on app sub.store number)) m

  pub chosen_further : (c : Choice) (e : Entry) → chosen app trace c ≡ Some e → Further app trace e
  chosen_further (Take service nth) e m = bear_further (inbox_number app service) (calls.Take nth) e refl m
  chosen_further (Repost service number) e m = carry_further (inbox_number app service) (calls.Repost number) e refl m
  chosen_further (Ship store region version part) e m = carry_further store (calls.Ship region version (unwrap_or part 1)) e refl m
  chosen_further (Again store region version part) e m = carry_further store (calls.Again region version (unwrap_or part 1)) e refl m
  chosen_further (Go object place) e m =
      let b : Birth = record { object = object; place = place } in go_further b e (want_of (process_after app (entries_by (Acting b) trace))) refl m
  chosen_further Finish e m = absurd (cc)
  chosen_further (Pull sub) e m = pull_further calls.Pull sub e (λ n. refl) (slice_get app.subs.items sub) m
  chosen_further (Repull sub version) e m = pull_further (λ n. calls.Repull n version) sub e (λ n. refl) (slice_get app.subs.items sub) m

pub goes_further : (one two three : List Entry) → GoesOn one two → GoesOn two three → GoesOn one three
goes_further one two three first second o =
    ((first o).0 ++ (second o).0, (second o).1 ∙ ap (λ (h : List Entry). h ++ (second o).0) (first o).1 ∙ append_assoc (entries_on o one) (first o).0 (second o).0)

-- ---- turns

after_none : (n : ℕ) (app : App) (trace : List Entry) → first_made app trace ≡ None → after_turns n app trace ≡ trace
unfolding after_turns
after_none zero app trace none = refl
after_none (suc n) app trace none = ap (λ (o : Option Entry). option_map_or (λ e. after_turns n app (put e trace)) o trace) none

after_some : (n : ℕ) (app : App) (trace : List Entry) (e : Entry) → first_made app trace ≡ Some e → after_turns (suc n) app trace ≡ after_turns n app (put e trace)
unfolding after_turns
after_some n app trace e is = ap (λ (o : Option Entry). option_map_or (λ e. after_turns n app (put e trace)) o trace) is

module _ (app : App) (sound : IsTrue (is_sound app)) where
  -- no run has more entries than all objects have units
  pub run_within : (trace : List Entry) → IsLegalTrace app trace → length trace ≤ object_count app * MOST_UNITS
  run_within trace run = length_bound (object_count app) MOST_UNITS trace run.there (λ o lt.
      let there : (start : Start) × (start_of app o ≡ Some start) = start_there app o lt in
      length_within there.0 (entries_on o trace) (start_sound app o there.0 sound there.1) (run.histories o there.0 there.1))

  pub made_further : (trace : List Entry) (e : Entry) → IsLegalTrace app trace → first_made app trace ≡ Some e → Further app trace e
  made_further trace e run is =
      let found : (c : Choice) × (chosen app trace c ≡ Some e) = first_found (chosen app trace) (offers app trace) e is in
      chosen_further app sound trace run found.0 e found.1

  -- with as many entries as there are units nothing is left to make
  no_further : (trace : List Entry) (e : Entry) → IsLegalTrace app trace → object_count app * MOST_UNITS ≤ length trace → first_made app trace ≡ Some e → ⊥
  no_further trace e run whole is =
      let more : length (put e trace) ≤ object_count app * MOST_UNITS = run_within (put e trace) (made_further trace e run is).run in
      let longer : length (put e trace) ≡ length trace + 1 = length-put e trace in
      omega arith

  -- a turn more than enough changes nothing
  one_more : (n : ℕ) (trace : List Entry) → IsLegalTrace app trace → object_count app * MOST_UNITS ≤ length trace + n → after_turns (suc n) app trace ≡ after_turns n app trace
  one_more n trace run enough = by_made n trace run enough (first_made app trace) refl
    where
      by_made : (n : ℕ) (trace : List Entry) → IsLegalTrace app trace → object_count app * MOST_UNITS ≤ length trace + n → (o : Option Entry) → first_made app trace ≡ o
          → after_turns (suc n) app trace ≡ after_turns n app trace
      by_made n trace run enough None is = after_none (suc n) app trace is ∙ sym (after_none n app trace is)
      by_made zero trace run enough (Some e) is = absurd (no_further trace e run (omega arith) is)
      by_made (suc n) trace run enough (Some e) is =
          let next : Further app trace e = made_further trace e run is in
          let longer : length (put e trace) ≡ length trace + 1 = length-put e trace in
          after_some (suc n) app trace e is ∙ by_made n (put e trace) next.run (omega arith) (first_made app (put e trace)) refl ∙ sym (after_some n app trace e is)

  record Done (trace after : List Entry) : Type 0 where
    pub run : IsLegalTrace app after
    pub goes_on : GoesOn trace after
    pub none : first_made app after ≡ None

  after_done : (n : ℕ) (trace : List Entry) → IsLegalTrace app trace → object_count app * MOST_UNITS ≤ length trace + n → Done trace (after_turns n app trace)
  after_done n trace run enough = by_made n trace run enough (first_made app trace) refl
    where
      by_made : (n : ℕ) (trace : List Entry) → IsLegalTrace app trace → object_count app * MOST_UNITS ≤ length trace + n → (o : Option Entry) → first_made app trace ≡ o
          → Done trace (after_turns n app trace)
      by_made n trace run enough None is = subst (Done trace) (sym (after_none n app trace is)) (record { run = run; goes_on = λ o. ([], sym (append-nil (entries_on o trace))); none = is })
      by_made zero trace run enough (Some e) is = absurd (no_further trace e run (omega arith) is)
      by_made (suc n) trace run enough (Some e) is =
          let next : Further app trace e = made_further trace e run is in
          let longer : length (put e trace) ≡ length trace + 1 = length-put e trace in
          let done : Done (put e trace) (after_turns n app (put e trace)) = by_made n (put e trace) next.run (omega arith) (first_made app (put e trace)) refl in
          subst (Done trace) (sym (after_some n app trace e is))
          (record { run = done.run; goes_on = goes_further trace (put e trace) (after_turns n app (put e trace)) (histories_go_on app trace (put e trace) e next.gets) done.goes_on; none = done.none })

  -- an entry that is made first
  pub finished_next : (trace : List Entry) (e : Entry) → IsLegalTrace app trace → first_made app trace ≡ Some e → finished app (put e trace) ≡ finished app trace
  unfolding finished
  finished_next trace e run is =
      let n : ℕ = object_count app * MOST_UNITS in
      sym (after_some n app trace e is) ∙ one_more n trace run (omega arith)

  -- nothing is left to make
  pub finished_none : (trace : List Entry) → first_made app trace ≡ None → finished app trace ≡ trace
  unfolding finished
  finished_none trace is = after_none (object_count app * MOST_UNITS) app trace is

  pub complete_none : (trace : List Entry) → first_made app trace ≡ None → IsComplete app trace
  complete_none trace is = none_found (chosen app trace) (offers app trace) is

  finished_done : (trace : List Entry) → IsLegalTrace app trace → Done trace (finished app trace)
  unfolding finished
  finished_done trace run = after_done (object_count app * MOST_UNITS) trace run (omega arith)

  pub finished_complete : (trace : List Entry) → IsLegalTrace app trace → IsComplete app (finished app trace)
  finished_complete trace run = complete_none (finished app trace) (finished_done trace run).none

  pub finished_run : (trace : List Entry) → IsLegalTrace app trace → IsLegalTrace app (finished app trace)
  finished_run trace run = (finished_done trace run).run

  pub finished_goes_on : (trace : List Entry) → IsLegalTrace app trace → GoesOn trace (finished app trace)
  finished_goes_on trace run = (finished_done trace run).goes_on
