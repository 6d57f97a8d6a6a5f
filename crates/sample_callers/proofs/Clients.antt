-- What a client of stores that threads share reads behind a barrier that was clear.
use Rattle.std.proofs.Common.{◌≡◌, ◌==◌, ◌≤◌, ◌<◌, ℕ, Bool, true, false, cond, min, List, [], ◌∷◌, map, Option, None, Some, Result, Ok, Err, refl, sym, ap, ◌∙◌, subst, arith}
use Rattle.std.specs.Prelude.{All, Contains, IfOk, IfSome, slice_get, option_map}
use Rattle.std.specs.Option.{option_and_then}
use Rattle.std.proofs.lemmas.Bool.{eqb-true, false≢true, or_left, or_right}
use Rattle.std.proofs.lemmas.List.Folds.{Any-from_list_any}
use Rattle.std.proofs.lemmas.Option.{slice_get-map}
use Rattle.anti_ids.specs.Ids.{has_id, is_id, with_ids}
use Rattle.anti_ids.specs.List.{Listed}
use Rattle.anti_ids.specs.declared.id.WriteId.{WriteId}
use Rattle.anti_ids.proofs.IdLemmas.{has_id-with_ids}
use Rattle.anti_kind.specs.declared.asking.Asking.{Asking}
use Rattle.anti_kind.specs.declared.call.Call.TheVariants.{Read}
use Rattle.anti_kind.specs.declared.port.Answer.{Answer}
use Rattle.anti_kind.specs.declared.port.Answer.TheVariants as answers
use Rattle.anti_kind.specs.declared.row.Row.{Row}
use Rattle.anti_kind.specs.Inbox.{inbox_ready}
use Rattle.anti_kind.specs.Laws.{KeepsLaws}
use Rattle.anti_kind.specs.Objects.{Start, store, inbox}
use Rattle.anti_kind.specs.Ports.{Answered, View}
use Rattle.anti_kind.specs.Store.{Store}
use Rattle.anti_live.specs.Clients.{Barriers, ClientView, IsFirst, IsOf, LiveView, Stays, id_of_pass, id_of_shared, least_room, starts_in, step_of, views_in}
use Rattle.anti_live.specs.Stores.{here_of, is_among}
use Rattle.anti_object.specs.declared.object.Object.{Object}
use Rattle.anti_object.specs.ObjectLaws.{object_keeps}
use Rattle.anti_object.specs.Standing.{object_start}
use Rattle.anti_shared.specs.Passes.{Identity, PassView, SharedView, first_pass, start_of}
use Rattle.anti_shim.specs.declared.barrier_answer.BarrierAnswer.TheVariants.{Clear}
use Rattle.anti_shim.specs.declared.caller.Caller.{Caller}
use Rattle.anti_shim.specs.declared.caller.Made.{Made}
use Rattle.anti_shim.specs.declared.fault.ShimFault.{ShimFault}
use Rattle.anti_shim.specs.declared.looks.PlannedLook.{PlannedLook}
use Rattle.anti_shim.specs.declared.sight.Sight.{Sight}
use Rattle.anti_shim.specs.Shims.{Gives, IsShown, Reads, brought_by}
use Rattle.anti_shim.specs.Sights.{IsSeen}
use Rattle.anti_shim.specs.Steps.{IsAsked, Step, asking, outcome_of}
use Rattle.sample_callers.specs.Turns.{ShowsEach}
use Rattle.sample_callers.proofs.Behind.{shows_read}

-- ---- what can be read is a store, and keeps its laws

module _ (region : ℕ) (key : List ℕ) where
  -- an inbox makes no read
  of_answer : (start : Option Start) (q : Asking) (old new : View) (answer : Answer) (made : Made) → q.call ≡ Read region key → Answered start q old new answer
      → outcome_of answer ≡ Ok made → (s : Store) × (start ≡ Some (store s))
  of_answer None q old new answer made call answered ok = absurd (let refused : outcome_of answer ≡ outcome_of (answers.Refused _) = ap outcome_of answered.0 in cc)
  of_answer (Some (store s)) q old new answer made call answered ok = (s, refl)
  of_answer (Some (inbox requests)) q old new (answers.Made place stamp reply) made call answered ok =
      absurd (false≢true (ap (inbox_ready requests answered.0.0) (sym call) ∙ answered.0.1.1.follows.is_ready))
  of_answer (Some (inbox requests)) q old new (answers.Refused refusal) made call answered ok = absurd (cc)
  of_answer (Some (inbox requests)) q old new answers.NoMemory made call answered ok = absurd (cc)

  is_store : (step : Step) (number : ℕ) (row : Row) → Reads step number region key (Ok row) → (s : Store) × (step.starts number ≡ Some (store s))
  is_store step number row reads = by_outcome reads.outcome reads.asked reads.gives where
    by_outcome : (outcome : Result Made ShimFault) → IsAsked step number (Read region key) outcome → Gives IsShown outcome (Ok row) → (s : Store) × (step.starts number ≡ Some (store s))
    by_outcome (Ok made) asked gives =
        of_answer (step.starts number) (asking step.before number (Read region key)) (step.old number) (step.new number) asked.answer made refl asked.answered (sym asked.outcome_is)
    by_outcome (Err fault) asked gives = absurd (cc)

keeps : (pass : Option (PassView Object)) (s : Store) → option_and_then (λ p. start_of object_start p.id) pass ≡ Some (store s) → KeepsLaws s
keeps None s is = absurd (cc)
keeps (Some pass) s is = by_first pass.id.first is where
  by_first : (first : Option Object) → option_map object_start first ≡ Some (store s) → KeepsLaws s
  by_first None at = absurd (cc)
  by_first (Some o) at = let same : object_start o ≡ store s = cc in object_keeps o s same

-- ---- the first client has room for others

first_room : (shareds : List (SharedView Object)) → least_room (map (λ s. first_pass (id_of_shared s)) shareds) ≡ 4294967294
first_room [] = refl
first_room (shared ∷ rest) = ap (min 4294967294) (first_room rest)

pub has_room : {E : Type 0} (region : ℕ) (made : Result (LiveView × ClientView) E) → IfOk made (λ m. IsFirst m.0 region m.1) → IfOk made (λ m. 0 < least_room m.1.passes)
has_room region (Ok made) first = let room : least_room made.1.passes ≡ 4294967294 = ap least_room first.passes ∙ first_room made.0.shareds in omega (arith, room)
has_room region (Err fault) first = tt

-- ---- two clients of the same stores

starts_by : (passes : List (PassView Object)) (o : ℕ) → option_and_then (start_of object_start) (slice_get (map id_of_pass passes) o) ≡ starts_in passes o
starts_by passes o = ap (option_and_then (start_of object_start)) (slice_get-map id_of_pass passes o) ∙ by_pass (slice_get passes o) where
  by_pass : (pass : Option (PassView Object)) → option_and_then (start_of object_start) (option_map id_of_pass pass) ≡ option_and_then (λ p. start_of object_start p.id) pass
  by_pass None = refl
  by_pass (Some pass) = refl

starts_stay : (live : LiveView) (old mid : ClientView) → IsOf live old → IsOf live mid → (o : ℕ) → starts_in mid.passes o ≡ starts_in old.passes o
starts_stay live old mid old_of mid_of o =
    sym (starts_by mid.passes o)
    ∙ ap (λ (ids : List (Identity Object)). option_and_then (start_of object_start) (slice_get ids o)) (mid_of.passes ∙ sym old_of.passes)
    ∙ starts_by old.passes o

here_is : (live : LiveView) (old : ClientView) (number : ℕ) → IsOf live old → is_among number old.here ≡ true → Contains (here_of old.region live.stores) number
here_is live old number of is =
    let any = Any-from_list_any (λ n. n == number) old.here is in
    subst (λ (here : List ℕ). Contains here number) of.here (subst (Contains old.here) (eqb-true _ _ any.4) (any.0, any.2, any.3))

-- ---- a read behind a barrier

module _ (reads_show : (step : Step) (who : Caller) (region : ℕ) (look : PlannedLook) (sight : Sight) (s : Store) (key : List ℕ) (row : Row)
    → step.starts look.store ≡ Some (store s) → KeepsLaws s → IsSeen step.old who region look sight → Reads step look.store region key (Ok row)
    → All (λ id. id.key ≡ key → id.version ≤ row.version) look.ids)
    (live : LiveView) (old mid new : ClientView) (sights : Listed Sight) (number : ℕ) (key : List ℕ)
    (old_of : IsOf live old) (here : is_among number old.here ≡ true) (barrier : Barriers live old mid (Clear sights)) (stays : Stays old mid) (mid_of : IsOf live mid) where
  pub shows_each : (read : Result Row ShimFault) → Reads (step_of mid new) number mid.region key read → IfOk read (ShowsEach number key old.lineage)
  shows_each (Err fault) reads = tt
  shows_each (Ok row) reads =
      let its = is_store mid.region key (step_of mid new) number row reads in
      let same = starts_stay live old mid old_of mid_of in
      shows_read reads_show (step_of old new) old.region (here_of old.region live.stores) old.lineage number key (here_is live old number old_of here) (Ok row) (record {
        starts = starts_in mid.passes;
        same = same;
        views = views_in mid.passes;
        who = mid.who;
        first = record { sights = sights.items; each = barrier.1.gives.0; seen = barrier.1.sights };
        second = subst (λ (g : ℕ). Reads (step_of mid new) number g key (Ok row)) stays.region reads;
      }) its.0 (sym (same number) ∙ its.1) (keeps (slice_get mid.passes number) its.0 its.1)

-- ---- a read behind all that a row depends on

-- what is kept beside a row is carried once it was taken over
kept_is_brought : (from : ℕ) (row : Row) (id : WriteId) (is_none : Bool) → has_id id row.lineage ≡ true
    → has_id id (cond is_none row.lineage (record { store = from; key = row.key; version = row.version } ∷ row.lineage)) ≡ true
kept_is_brought from row id true kept = kept
kept_is_brought from row id false kept = or_right (is_id id (record { store = from; key = row.key; version = row.version })) (has_id id row.lineage) kept

pub shows_kept : (from : ℕ) (row : Row) (number : ℕ) (key : List ℕ) (old carried : List WriteId) (read : Option Row) → carried ≡ with_ids (brought_by from row) old
    → IfSome read (ShowsEach number key carried) → IfSome read (ShowsEach number key row.lineage)
shows_kept from row number key old carried None taken shows = tt
shows_kept from row number key old carried (Some shown) taken shows = λ version kept.
    let id : WriteId = record { store = number; key = key; version = version } in
    shows version (ap (has_id id) taken ∙ has_id-with_ids id (brought_by from row) old
    ∙ or_left (has_id id (brought_by from row)) (has_id id old) (kept_is_brought from row id (row.version == 0) kept))
