-- The processes of a trace that gets one entry more: what they are after a birth, after a reply, after a carrier's entry, and after room was
-- made. A trace gets the next entry of a legal one, or one that is put into it, and any list of entries gets one at its end.
use Rattle.std.proofs.Common.{◌≡◌, ℕ, ◌+◌, ◌<◌, ◌≤◌, ◌++◌, List, [], ◌∷◌, true, false, length, map, get_or, refl, sym, ap, ◌∙◌, subst, arith, inl, inr, append-nil}
use Rattle.std.specs.Prelude.{All, Result, Ok, Err, IsErr, MatchResult, OnOk, Option, None, Some, IfSome, IsTrue, slice_get, slice_set, position}
use Rattle.std.proofs.lemmas.Bool.{cases_lt, false_from_ne_true}
use Rattle.std.proofs.lemmas.List.Elements.{filter-append}
use Rattle.std.proofs.lemmas.Option.{slice_get_past, get_or_from_slice_get}
use Rattle.anti_ids.specs.declared.memory.NoMemory.{NoMemory}
use Rattle.anti_kind.specs.declared.actor.Actor.{Actor}
use Rattle.anti_kind.specs.declared.actor.Actor.TheVariants.{Process as Acting}
use Rattle.anti_kind.specs.declared.actor.Birth.{Birth}
use Rattle.anti_kind.specs.declared.call.Call.{Call}
use Rattle.anti_kind.specs.declared.entry.Entry.{Entry}
use Rattle.anti_kind.specs.Objects.{Start, Follows, IsLegal, last_stamp, fits}
use Rattle.anti_kind.proofs.Histories.{below_last}
use Rattle.anti_app.specs.declared.app.App.{App}
use Rattle.anti_app.specs.Objects.{object_count}
use Rattle.anti_app.specs.Sound.{is_sound}
use Rattle.anti_object.specs.Starts.{start_of}
use Rattle.anti_proc.specs.declared.process.Process.{Process}
use Rattle.anti_proc.specs.declared.run.Advance.{Advance}
use Rattle.anti_proc.specs.Births.{birth_at}
use Rattle.anti_proc.specs.Known.{IsEntryOf, IsReplyAt}
use Rattle.anti_proc.specs.Meaning.{process_after, tree_of}
use Rattle.anti_proc.specs.Tasks.{task_of}
use Rattle.anti_proc.specs.Trees.{Want, Make, Over, branch, want_of}
use Rattle.anti_proc.specs.inner.Running.{IsAdvanceOf, IsRunOf}
use Rattle.anti_proc.specs.inner.Standing as standing
use Rattle.anti_proc.specs.inner.Standing.{birth_of, full_by, full_of, process_of}
use Rattle.anti_trace.specs.Histories.{GoesOn}
use Rattle.anti_trace.specs.Traces.{entries_by, entries_on, is_by}
use Rattle.anti_trace.specs.Legal.{IsLegalTrace, IsLife, IsOfActor, bears}
use Rattle.anti_trace.specs.declared.processes.AtObject.{AtObject}
use Rattle.anti_trace.specs.inner.Living.{AreProcessesOf, Becomes, Changes, Gets, IsEnded, IsNewOf, IsNextBy, Lives, LivesOn, MakesRoom, TakesOver, WasFull, born_at, born_in, is_named}
use Rattle.anti_trace.proofs.AllLive.{live_born, live_here, live_kept, live_set, live_went, live_with, no_more}
use Rattle.anti_trace.proofs.AreBorn.{born_kept, born_more, births_set, is_birth_itself, no_birth, same_changed}
use Rattle.anti_trace.proofs.Changed.{room_then}
use Rattle.anti_trace.proofs.FullStays.{never_fits}
use Rattle.anti_trace.proofs.GonePast.{entries_on_next, entries_on_past}
use Rattle.anti_trace.proofs.Living.{decide}
use Rattle.anti_trace.proofs.OfLegal.{actor_cut, along_next, all_start, at_cut, filter_cut, follows_before, known_of_legal, legal_before, object_there, unborn_of_legal}
use Rattle.anti_trace.proofs.Prefix.{legal_front}
use Rattle.anti_trace.proofs.Puts.{filter-no, same_actor_itself, same_actor_true}

-- ---- the trace

-- the histories of all objects go on
pub goes_on : (app : App) (trace after : List Entry) (e : Entry) → Gets app trace after e → GoesOn trace after
goes_on app trace after e gets o =
    elim (decide e.object o) as (λ _. (rest : List Entry) × (entries_on o after ≡ entries_on o trace ++ rest)) [
      | inl here ↦ (e ∷ [], subst (λ (k : ℕ). entries_on k after ≡ entries_on k trace ++ e ∷ []) here gets.grows.here)
      | inr other ↦ ([], gets.grows.others o other ∙ sym (append-nil (entries_on o trace)))
    ]

-- any entry, at the end
pub gets_last : (app : App) (before : List Entry) (e : Entry) → Gets app before (before ++ e ∷ []) e
gets_last app before e = record {
  grows = record { here = entries_on_next before e; others = λ o other. entries_on_past o before e other };
  own = filter_cut (is_by e.actor) before e [] (same_actor_itself e.actor);
  others = λ a other.
      filter-append (is_by a) before (e ∷ [])
      ∙ ap (λ (es : List Entry). entries_by a before ++ es)
      (filter-no (is_by a) e [] (false_from_ne_true (is_by a e) (λ same. other (sym (same_actor_true a e.actor same)))))
      ∙ append-nil (entries_by a before);
}

-- so the next entry of a legal trace
pub gets_next : (app : App) (before : List Entry) (e : Entry) (later : List Entry) → IsLegalTrace app (before ++ e ∷ later) → Gets app before (before ++ e ∷ []) e
gets_next app before e later legal = gets_last app before e

-- ---- the processes, where the trace stays

-- room was made at an object
pub reserved_are : (app : App) (ps ns : List AtObject) (trace : List Entry) (o : ℕ) → AreProcessesOf app ps trace → Changes ps ns o (born_at ps o) → AreProcessesOf app ns trace
reserved_are app ps ns trace o are changes =
    let same : (k : ℕ) → born_at ns k ≡ born_at ps k = same_changed ps ns o changes in
    record {
      count = changes.count ∙ are.count;
      born = λ k. ap (λ (xs : List Process). map birth_of xs) (same k) ∙ are.born k;
      live = λ b. subst (λ (xs : List Process). Lives app trace xs (position (is_named b) xs) (entries_by (Acting b) trace)) (sym (same b.object)) (are.live b);
    }

-- one that was found
module _ (app : App) (ps : List AtObject) (trace : List Entry) (are : AreProcessesOf app ps trace) (b : Birth) (i : ℕ)
    (found : position (is_named b) (born_at ps b.object) ≡ Some i) where
  pub found_lives : (p : Process) → slice_get (born_at ps b.object) i ≡ Some p → LivesOn app trace p (entries_by (Acting b) trace)
  found_lives p is =
      let on : Lives app trace (born_at ps b.object) (Some i) (entries_by (Acting b) trace) =
      subst (λ (o : Option ℕ). Lives app trace (born_at ps b.object) o (entries_by (Acting b) trace)) found (are.live b) in
      subst (λ (x : Process). LivesOn app trace x (entries_by (Acting b) trace)) (get_or_from_slice_get (born_at ps b.object) i p p is) (on p)

  -- room was made for its reply
  pub roomy_are : (ns : List AtObject) → Becomes MakesRoom ps ns b.object i → AreProcessesOf app ns trace
  roomy_are ns becomes =
      let here : List Process = born_at ps b.object in
      let then : Process = becomes.new in
      let on : LivesOn app trace becomes.old (entries_by (Acting b) trace) = found_lives becomes.old becomes.was in
      let named : (d : Process) → birth_of then ≡ birth_of (get_or here i d) =
      λ d. becomes.by.birth ∙ ap (λ (x : Process). birth_of x) (sym (get_or_from_slice_get here i becomes.old d becomes.was)) in
      record {
        count = becomes.changes.count ∙ are.count;
        born = λ o. births_set ps ns b i then becomes.changes named o ∙ are.born o;
        live = live_with app trace trace (no_more trace) ps ns (slice_set here i then) b are.live becomes.changes (λ c off. refl)
            (live_set app trace trace (no_more trace) here b (live_here app ps trace are.live b.object) (λ c off. refl) then i found named
            (record {
              birth = on.birth;
              later = on.later;
              entries_are = on.entries_are;
              run = becomes.by.run app on.run;
              role = on.role ∙ ap Some (sym becomes.by.role);
              tree = λ none. becomes.by.tree app ∙ on.tree (sym becomes.by.full ∙ none);
              clock = becomes.by.clock ∙ on.clock;
              full = subst (λ (o : Option ℕ). IfSome o (IsEnded app trace (want_of (process_after app (entries_by (Acting b) trace))))) (sym becomes.by.full) on.full;
            }));
      }

-- ---- the processes, with one entry more

module _ (app : App) (ps : List AtObject) (trace after : List Entry) (are : AreProcessesOf app ps trace) (e : Entry) (gets : Gets app trace after e) where
  -- a carrier's
  pub carried_are : ((b : Birth) → e.actor ≡ Acting b → ⊥) → AreProcessesOf app ps after
  carried_are none = record {
    count = are.count;
    born = born_kept ps trace after e are.born gets.grows ps (no_birth e (none (birth_at e))) (λ o. refl);
    live = live_kept app ps trace after are.live e (goes_on app trace after e gets) gets.own gets.others none;
  }

  -- the birth of a process
  pub born_are : (ns : List AtObject) (p : Process) → e.actor ≡ Acting (birth_at e) → entries_by (Acting (birth_at e)) trace ≡ [] → IsNewOf app e p
      → Changes ps ns e.object (born_at ps e.object ++ p ∷ []) → AreProcessesOf app ns after
  born_are ns p at unborn new changes = record {
    count = changes.count ∙ are.count;
    born = born_more ps trace after e are.born gets.grows ns p (is_birth_itself e at) new.birth changes;
    live = live_born app ps trace after are.live e (goes_on app trace after e gets) gets.own gets.others (birth_at e) at p new.birth unborn
        new.tree new.clock new.full new.run new.role ns changes;
  }

  -- the reply to a process
  module _ (b : Birth) (at : e.actor ≡ Acting b) (i : ℕ) (found : position (is_named b) (born_at ps b.object) ≡ Some i)
      (other : b ≡ birth_at e → ⊥) (last : All (λ d. d.stamp < e.stamp) (entries_by (Acting b) trace)) where
    pub went_are : (ns : List AtObject) (a : Advance) (becomes : Becomes (TakesOver e.stamp a) ps ns b.object i) → full_of becomes.old ≡ None
        → standing.advanced app becomes.old a ≡ branch (process_of app becomes.old) e.reply → IsAdvanceOf app becomes.old a → full_by a ≡ full_of becomes.old
        → AreProcessesOf app ns after
    went_are ns a becomes going goes spans full =
        let here : List Process = born_at ps b.object in
        let then : Process = becomes.new in
        let by : TakesOver e.stamp a becomes.old then = becomes.by in
        let at_old : (d : Process) → get_or here i d ≡ becomes.old = λ d. get_or_from_slice_get here i becomes.old d becomes.was in
        let named : (d : Process) → birth_of then ≡ birth_of (get_or here i d) = λ d. by.birth ∙ ap (λ (x : Process). birth_of x) (sym (at_old d)) in
        record {
          count = becomes.changes.count ∙ are.count;
          born = born_kept ps trace after e are.born gets.grows ns
              (no_birth e (λ is. other (let both : Acting b ≡ Acting (birth_at e) = sym at ∙ is in cc)))
              (births_set ps ns b i then becomes.changes named);
          live = live_went app ps trace after are.live e (goes_on app trace after e gets) gets.own gets.others b at then i found named
              (λ d. by.tree app ∙ goes ∙ ap (λ (x : Process). branch (process_of app x) e.reply) (sym (at_old d))) by.clock (by.full full ∙ going)
              (λ d. ap (λ (x : Process). full_of x) (at_old d) ∙ going) last (by.run app spans)
              (λ d. by.role ∙ ap (λ (x : Process). standing.its_role x) (sym (at_old d))) ns becomes.changes;
        }

-- ---- what a legal trace says of its next entry

module _ (app : App) (sound : IsTrue (is_sound app)) (before : List Entry) (e : Entry) (later : List Entry) (legal : IsLegalTrace app (before ++ e ∷ later)) where
  abbrev whole : List Entry
  whole = before ++ e ∷ later

  front : IsLegalTrace app before
  front = legal_front app before (e ∷ later) legal

  -- the reply is known, and a birth starts a process
  pub next_known : IsReplyAt app e.object e.reply
  next_known = (at_cut (IsEntryOf app) before e later (known_of_legal app whole legal sound)).reply

  pub next_starts : bears e.call ≡ true → task_of app e ≡ None → ⊥
  next_starts = at_cut (λ x. bears x.call ≡ true → task_of app x ≡ None → ⊥) before e later (all_start app whole legal sound)

  -- its stamp is above those of all that its actor had done
  pub next_above : All (λ d. d.stamp < e.stamp) (entries_by e.actor before)
  next_above k d lt =
      let stamp = legal.stamps before e later refl in
      let low : (get_or (entries_by e.actor before) k d).stamp ≤ last_stamp (entries_by e.actor before) = below_last (entries_by e.actor before) k d lt in
      omega arith

  module _ (b : Birth) (at : e.actor ≡ Acting b) where
    -- its process did it behind what it had done
    did : IsLife app b (entries_by (Acting b) before ++ e ∷ entries_by (Acting b) later)
    did = subst (λ (a : Actor). IsOfActor app a (entries_by a before ++ e ∷ entries_by a later)) at (actor_cut app whole legal before e later refl)

    -- where it did nothing yet this is its birth
    module _ (unborn : entries_by (Acting b) before ≡ []) where
      first : IsLife app b (e ∷ entries_by (Acting b) later)
      first = subst (λ (es : List Entry). IsLife app b (es ++ e ∷ entries_by (Acting b) later)) unborn did

      pub next_named : birth_at e ≡ b
      next_named = first.0.named

      pub next_bears : bears e.call ≡ true
      next_bears = first.0.call

    -- where it did something already it asks for this call
    module _ (p : Process) (on : LivesOn app before p (entries_by (Acting b) before)) where
      pub left_wants : want_of (process_after app (entries_by (Acting b) before)) ≡ Make e.object e.span e.call
      left_wants =
          let life : IsLife app b (on.birth ∷ (on.later ++ e ∷ entries_by (Acting b) later)) =
          subst (λ (es : List Entry). IsLife app b (es ++ e ∷ entries_by (Acting b) later)) on.entries_are did in
          ap (λ (es : List Entry). want_of (process_after app es)) on.entries_are ∙ along_next (tree_of app on.birth) on.later e (entries_by (Acting b) later) life.1

      -- so it was not ended before
      not_full : (want : Want) (full : Option ℕ) → want ≡ Make e.object e.span e.call → IfSome full (IsEnded app before want) → full ≡ None
      not_full want None wants ended = refl
      not_full (Over end) (Some at) wants ended = elim ended [ ]
      not_full (Make object span call) (Some at) wants ended =
          let object_is : object ≡ e.object = cc in
          let call_is : call ≡ e.call = cc in
          let was : WasFull app before e.object e.call =
          subst (λ (c : Call). WasFull app before e.object c) call_is (subst (λ (o : ℕ). WasFull app before o call) object_is ended.1) in
          let none : fits was.start (entries_on e.object before ++ []) e.call ≡ false = never_fits app before front sound e.object e.call was []
          (subst (IsLegal was.start) (sym (append-nil (entries_on e.object before))) (legal_before app whole legal before e later refl was.start was.there)) in
          let off : fits was.start (entries_on e.object before) e.call ≡ false = subst (λ (h : List Entry). fits was.start h e.call ≡ false) (append-nil (entries_on e.object before)) none in
          let follows : Follows was.start (entries_on e.object before) e = follows_before app whole legal before e later refl was.start was.there in
          absurd (let both : false ≡ true = sym off ∙ follows.fits in cc)

      pub next_going : full_of p ≡ None
      next_going = not_full (want_of (process_after app (entries_by (Acting b) before))) (full_of p) left_wants on.full

      -- and this is not its birth
      pub next_other : b ≡ birth_at e → ⊥
      next_other same =
          let there : (start : Start) × (start_of app e.object ≡ Some start) = object_there app whole legal before e later refl in
          let follows : Follows there.0 (entries_on e.object before) e = follows_before app whole legal before e later refl there.0 there.1 in
          let place : e.place ≡ length (entries_on e.object before) + 1 = follows.place in
          let none : entries_by (Acting b) before ≡ [] = unborn_of_legal app before front b
          (subst (λ (x : Birth). length (entries_on x.object before) < x.place) (sym same) (omega arith)) in
          let some : entries_by (Acting b) before ≡ on.birth ∷ on.later = on.entries_are in
          absurd (let both : on.birth ∷ on.later ≡ [] = sym some ∙ none in cc)

-- ---- going past it

-- there was no memory, and the processes stand for what they stood for
pub lost : {T : Type 0} (A B : Type 0) (r : Result T NoMemory) → IsErr r → B → MatchResult r (λ _. A) (λ _. B)
lost A B (Ok x) err b = absurd (cc)
lost A B (Err x) err b = b

-- what comes of it where there was memory
pub done : {T : Type 0} (A B C : Type 0) (r : Result T NoMemory) → MatchResult r (λ _. A) (λ _. B) → (A → C) → OnOk r C
done A B C (Ok x) a so = so a
done A B C (Err x) b so = tt

-- an object at which a process was born is there
object_found : (ps : List AtObject) (o : ℕ) → 0 < length (born_at ps o) → o < length ps
object_found ps o some =
    elim (cases_lt o (length ps)) as (λ _. o < length ps) [
      | inl low ↦ low
      | inr past ↦ absurd (let none : length (born_at ps o) ≡ 0 = ap (λ (here : Option AtObject). length (born_in here)) (slice_get_past ps o past) in omega arith)
    ]

module _ (app : App) (sound : IsTrue (is_sound app)) (ps : List AtObject) (e : Entry) (b : Birth) where
  module _ (before later : List Entry) (legal : IsLegalTrace app (before ++ e ∷ later)) (are : AreProcessesOf app ps before) (at : e.actor ≡ Acting b) where
    -- no process of the birth is there
    module _ (unborn : position (is_named b) (born_at ps b.object) ≡ None) where
      pub none_did : entries_by (Acting b) before ≡ []
      none_did = subst (λ (o : Option ℕ). Lives app before (born_at ps b.object) o (entries_by (Acting b) before)) unborn (are.live b)

      named : birth_at e ≡ b
      named = next_named app sound before e later legal b at none_did

      pub birth_there : b.object < length ps
      birth_there =
          let low : e.object < object_count app = at_cut (λ x. x.object < object_count app) before e later legal.there in
          let same : e.object ≡ b.object = ap (λ (x : Birth). x.object) named in
          let count : length ps ≡ object_count app = are.count in
          omega arith

      pub birth_starts : task_of app e ≡ None → ⊥
      birth_starts = next_starts app sound before e later legal (next_bears app sound before e later legal b at none_did)

      pub bore : (ms ns : List AtObject) (p : Process) → Changes ps ms b.object (born_at ps b.object) → IsNewOf app e p → Changes ms ns b.object (born_at ms b.object ++ p ∷ [])
          → AreProcessesOf app ns (before ++ e ∷ [])
      bore ms ns p room new changes =
          born_are app ms before (before ++ e ∷ []) (reserved_are app ps ms before b.object are room) e (gets_last app before e) ns p
          (at ∙ ap Acting (sym named)) (subst (λ (x : Birth). entries_by (Acting x) before ≡ []) (sym named) none_did) new
          (subst (λ (x : Birth). Changes ms ns x.object (born_at ms x.object ++ p ∷ [])) (sym named) changes)

    -- one is
    module _ (i : ℕ) (found : position (is_named b) (born_at ps b.object) ≡ Some i) (p : Process) (is : slice_get (born_at ps b.object) i ≡ Some p) where
      on : LivesOn app before p (entries_by (Acting b) before)
      on = found_lives app ps before are b i found p is

      pub fed_run : IsRunOf app p
      fed_run = on.run

      pub fed : (ms ns : List AtObject) (a : Advance) → (full_of p ≡ None → standing.advanced app p a ≡ branch (process_of app p) e.reply) → IsAdvanceOf app p a
          → full_by a ≡ full_of p → Becomes MakesRoom ps ms b.object i → Becomes (TakesOver e.stamp a) ms ns b.object i → AreProcessesOf app ns (before ++ e ∷ [])
      fed ms ns a goes spans full room takes =
          let both : Becomes (TakesOver e.stamp a) ps ns b.object i = room_then ps ms ns b.object i e.stamp a room takes in
          let old : p ≡ both.old = (let two : Some p ≡ Some both.old = sym is ∙ both.was in cc) in
          let going : full_of p ≡ None = next_going app sound before e later legal b at p on in
          went_are app ps before (before ++ e ∷ []) are e (gets_last app before e) b at i found
          (next_other app sound before e later legal b at p on) (subst (λ (a : Actor). All (λ d. d.stamp < e.stamp) (entries_by a before)) at (next_above app sound before e later legal)) ns a both
          (subst (λ (x : Process). full_of x ≡ None) old going)
          (subst (λ (x : Process). standing.advanced app x a ≡ branch (process_of app x) e.reply) old (goes going))
          (subst (λ (x : Process). IsAdvanceOf app x a) old spans)
          (subst (λ (x : Process). full_by a ≡ full_of x) old full)

  -- for whatever stands before it
  module _ (n : IsNextBy app ps e b) where
    pub next_there : position (is_named b) (born_at ps b.object) ≡ None → b.object < length ps
    next_there unborn = birth_there n.next.before n.next.after n.next.legal n.next.are n.by unborn

    pub next_task : position (is_named b) (born_at ps b.object) ≡ None → task_of app e ≡ None → ⊥
    next_task unborn = birth_starts n.next.before n.next.after n.next.legal n.next.are n.by unborn

    pub next_reply : IsReplyAt app e.object e.reply
    next_reply = next_known app sound n.next.before e n.next.after n.next.legal

    pub next_run : (i : ℕ) → position (is_named b) (born_at ps b.object) ≡ Some i → (p : Process) → slice_get (born_at ps b.object) i ≡ Some p → IsRunOf app p
    next_run i found p is = fed_run n.next.before n.next.after n.next.legal n.next.are n.by i found p is

-- the object of a process that was found
pub found_there : (ps : List AtObject) (b : Birth) (i : ℕ) → position (is_named b) (born_at ps b.object) ≡ Some i → b.object < length ps
found_there ps b i found = object_found ps b.object (by_items (born_at ps b.object) refl)
  where
    by_items : (xs : List Process) → born_at ps b.object ≡ xs → 0 < length (born_at ps b.object)
    by_items [] is = absurd (let none : None ≡ Some i = sym (ap (position (is_named b)) is) ∙ found in cc)
    by_items (x ∷ xs) is = let count : length (born_at ps b.object) ≡ length (x ∷ xs) = ap length is in omega arith
