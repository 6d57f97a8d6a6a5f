-- A worker that was refused all that it tries left nothing undone that it could do.
use Rattle.std.proofs.Common.{◌≡◌, ℕ, ◌+◌, ◌<◌, ◌≤◌, true, List, [], ◌∷◌, length, refl, sym, ap, ◌∙◌, subst, arith}
use Rattle.std.specs.Prelude.{Contains, None, Some, IsTrue, option_map}
use Rattle.std.proofs.lemmas.Option.{get_or_from_slice_get, slice_get_within}
use Rattle.anti_turn.specs.Lists.{IsFront}
use Rattle.anti_kind.specs.declared.actor.Actor.{Actor}
use Rattle.anti_kind.specs.declared.actor.Actor.TheVariants.{Carrier, Process}
use Rattle.anti_kind.specs.declared.actor.Birth.{Birth}
use Rattle.anti_kind.specs.declared.asking.Asking.{Asking}
use Rattle.anti_kind.specs.declared.call.Call.{Call}
use Rattle.anti_kind.specs.declared.call.Call.TheVariants as calls
use Rattle.anti_kind.specs.declared.entry.Entry.{Entry}
use Rattle.anti_kind.specs.Objects.{Start, last_stamp}
use Rattle.anti_kind.proofs.Finding.{filter_contains}
use Rattle.anti_shared.specs.Passes.{PassView}
use Rattle.anti_app.specs.declared.app.App.{App}
use Rattle.anti_app.specs.Objects.{inbox_number, object_count}
use Rattle.anti_app.specs.Sound.{is_sound}
use Rattle.anti_app.specs.Subs.{position_on}
use Rattle.anti_app.proofs.SoundLemmas.{SoundSub, app_known}
use Rattle.anti_object.specs.Starts.{start_of}
use Rattle.anti_object.specs.declared.object.Object.{Object}
use Rattle.anti_object.proofs.Starts.{start_there}
use Rattle.anti_proc.specs.Calls.{IsMadeOn}
use Rattle.anti_proc.specs.Meaning.{process_after}
use Rattle.anti_proc.specs.Trees.{Want, Make, Over, want_of}
use Rattle.anti_proc.proofs.Knowing.{next_known}
use Rattle.anti_trace.specs.Legal.{IsLegalTrace}
use Rattle.anti_trace.specs.Traces.{IsTrace, entries_by, entries_on, is_by, is_on}
use Rattle.anti_trace.proofs.OfLegal.{known_calls}
use Rattle.anti_trace.proofs.Puts.{same_actor_itself}
use Rattle.anti_play.specs.Schedule.{asked_by, asking_at, bearing, next_call}
use Rattle.anti_work.specs.Workers.{HasTried, IsLeft, IsNextVersion, ShipsFirst, service_of, worker_at, worker_of}
use Rattle.anti_work.specs.inner.Knowing.{number_at, seen_at}
use Rattle.anti_work.specs.inner.Trying.{AllRefused, IsRefusedBy, StartItsOwn}
use Rattle.anti_work.specs.inner.Works.{AreMadeBy}
use Rattle.anti_work.proofs.Left.{clock_short, was_left}
use Rattle.anti_work.proofs.Merged.{by_worker, in_trace, merged_is_legal}
use Rattle.anti_work.proofs.Seats.{left_by_worker, own_actor}

-- ---- the next call of a process

-- the objects of the calls of processes are there
made_there : (app : App) (o : ℕ) (call : Call) → IsMadeOn app o call → o < object_count app
made_there app o (calls.Write key value lineage) made = omega (arith, made)
made_there app o (calls.Read region key) made = omega (arith, made)
made_there app o (calls.Scan region prefix) made = omega (arith, made)
made_there app o (calls.Poll region key) made = omega (arith, made)
made_there app o (calls.Look region ids dry) made = omega (arith, made)
made_there app o (calls.Ack version) made = omega (arith, made)
made_there app o (calls.Nack version) made = omega (arith, made)
made_there app o (calls.Post message) made = made.1
made_there app o (calls.TakeReply number) made = made.1
made_there app o _ made = absurd made

-- what a process asks for next is what it wants, and its clock is its last stamp
asked_is : (trace : List Entry) (b : Birth) (want : Want) (q : Asking) → asked_by trace b want ≡ Some q
    → (want ≡ Make q.object q.span q.call) × (q.clock ≡ last_stamp (entries_by (Process b) trace))
asked_is trace b (Make object span call) q is =
    let same : asking_at trace object (Process b) span call ≡ q = cc in
    (ap (λ (x : Asking). Make x.object x.span x.call) same, sym (ap (λ (x : Asking). x.clock) same))
asked_is trace b (Over end) q is = absurd (cc)

same_asked : (t u : List Entry) (b : Birth) (want : Want) → entries_by (Process b) t ≡ entries_by (Process b) u → asked_by t b want ≡ asked_by u b want
same_asked t u b (Make object span call) same =
    let at : ℕ → Asking = λ n. record { object = object; actor = Process b; span = span; clock = n; call = call } in
    ap (λ (es : List Entry). Some (at (last_stamp es))) same
same_asked t u b (Over end) same = refl

-- it is known by what the process did
same_next : (app : App) (t u : List Entry) (b : Birth) → entries_by (Process b) t ≡ entries_by (Process b) u → next_call app t b ≡ next_call app u b
same_next app t u b same =
    ap (λ (es : List Entry). asked_by t b (want_of (process_after app es))) same
    ∙ same_asked t u b (want_of (process_after app (entries_by (Process b) u))) same

-- ---- what a worker had tried

module _ (app : App) (histories : ℕ → List Entry) (seat : ℕ → ℕ → ℕ) (count : ℕ) (works : ℕ → List Entry)
    (are : AreMadeBy app histories seat count works)
    (trace : List Entry) (order : IsTrace trace) (same : (o : ℕ) → entries_on o trace ≡ histories o)
    (sound : IsTrue (is_sound app))
    (ours : (w : ℕ) → w < count → StartItsOwn app (w + 1) (works w))
    (w : ℕ) (low : w < count) where
  -- what a process of the worker did in the trace it did in the worker's list
  its_entries : (b : Birth) → worker_of app trace (Process b) ≡ Some (w + 1) → entries_by (Process b) trace ≡ entries_by (Process b) (works w)
  its_entries b its = by_entries (entries_by (Process b) trace) refl
    where
      by_entries : (es : List Entry) → entries_by (Process b) trace ≡ es → entries_by (Process b) trace ≡ entries_by (Process b) (works w)
      by_entries [] is =
          let none : worker_of app trace (Process b) ≡ None = ap (λ (es : List Entry). option_map (worker_at app) (service_of app es)) is in
          let both : None ≡ Some (w + 1) = sym none ∙ its in
          absurd (cc)
      by_entries (e ∷ es) is =
          let first : Contains (entries_by (Process b) trace) e = subst (λ (h : List Entry). Contains h e) (sym is) (0, omega arith, refl) in
          let found : (v : ℕ) × ((v < count) × (entries_by (Process b) trace ≡ entries_by (Process b) (works v))) =
          by_worker app histories seat count works are trace order same (Process b) e first in
          let own : Contains (entries_by (Process b) (works found.0)) e = subst (λ (h : List Entry). Contains h e) found.1.1 first in
          let both : Some (found.0 + 1) ≡ Some (w + 1) =
          sym (own_actor app histories seat count works are trace order same sound ours (Process b) found.0 found.1.0 e own) ∙ its in
          let numbers : found.0 + 1 ≡ w + 1 = cc in
          let one : found.0 ≡ w = omega arith in
          found.1.1 ∙ ap (λ (v : ℕ). entries_by (Process b) (works v)) one

  -- The worker's carrier shipped a first part by the trace just where it did by the worker's list.
  ships_same : (o region version : ℕ) → ShipsFirst (w + 1) region (entries_on o trace) version → ShipsFirst (w + 1) region (entries_on o (works w)) version
  ships_same o region version (e, among, actor, call) =
      let parts : Contains trace e × (is_on o e ≡ true) = (filter_contains (is_on o) trace e).0 among in
      let by : is_by (Carrier (w + 1)) e ≡ true = ap (λ (a : Actor). is_by a e) (sym actor) ∙ same_actor_itself e.actor in
      let own : Contains (entries_by (Carrier (w + 1)) trace) e = (filter_contains (is_by (Carrier (w + 1))) trace e).1 (parts.0, by) in
      let found : (v : ℕ) × ((v < count) × (entries_by (Carrier (w + 1)) trace ≡ entries_by (Carrier (w + 1)) (works v))) =
      by_worker app histories seat count works are trace order same (Carrier (w + 1)) e own in
      let there : Contains (entries_by (Carrier (w + 1)) (works found.0)) e = subst (λ (h : List Entry). Contains h e) found.1.1 own in
      let both : Some (found.0 + 1) ≡ Some (w + 1) =
      sym (own_actor app histories seat count works are trace order same sound ours (Carrier (w + 1)) found.0 found.1.0 e there) in
      let numbers : found.0 + 1 ≡ w + 1 = cc in
      let one : found.0 ≡ w = omega arith in
      let called : Contains (works w) e =
      ((filter_contains (is_by (Carrier (w + 1))) (works w) e).0 (subst (λ (v : ℕ). Contains (entries_by (Carrier (w + 1)) (works v)) e) one there)).0 in
      (e, (filter_contains (is_on o) (works w) e).1 (called, parts.1), actor, call)

  ships_again : (o region version : ℕ) → ShipsFirst (w + 1) region (entries_on o (works w)) version → ShipsFirst (w + 1) region (entries_on o trace) version
  ships_again o region version (e, among, actor, call) =
      let parts : Contains (works w) e × (is_on o e ≡ true) = (filter_contains (is_on o) (works w) e).0 among in
      (e, (filter_contains (is_on o) trace e).1 (in_trace app histories seat count works are trace order same w low e parts.0, parts.1), actor, call)

  next_same : (o region version : ℕ) → IsNextVersion (w + 1) region (entries_on o trace) version → IsNextVersion (w + 1) region (entries_on o (works w)) version
  next_same o region version next = record {
    some = next.some;
    not = λ shipped. next.not (ships_again o region version shipped);
    lower = λ v some less. ships_same o region v (next.lower v some less);
  }

  module _ (passes : List (PassView Object))
      (numbered : (o : ℕ) → o < object_count app → number_at passes o ≡ seat w o)
      (fronts : (o : ℕ) → o < object_count app → IsFront (seen_at passes o) (histories o))
      (refused : AllRefused app (w + 1) passes (works w)) where
    left : (q : Asking) → q.object < object_count app → q.clock ≤ length trace → IsRefusedBy app passes (works w) q → IsLeft app trace (w + 1) q.object q.call
    left q there clock was =
        let start : (s : Start) × (start_of app q.object ≡ Some s) = start_there app q.object there in
        left_by_worker app histories seat count works are trace order same sound ours w low q.object q.call
        (was_left app histories seat count works are trace order same sound w low passes q (numbered q.object there) (fronts q.object there) clock (was start.0 start.1))

    next_left : (b : Birth) (q : Asking) → worker_of app trace (Process b) ≡ Some (w + 1) → next_call app trace b ≡ Some q
        → IsLeft app trace (w + 1) q.object q.call
    next_left b q its next =
        let did : entries_by (Process b) trace ≡ entries_by (Process b) (works w) = its_entries b its in
        let own : next_call app (works w) b ≡ Some q = sym (same_next app trace (works w) b did) ∙ next in
        let legal : IsLegalTrace app trace = merged_is_legal app histories seat count works are trace order same in
        let asked : (want_of (process_after app (entries_by (Process b) trace)) ≡ Make q.object q.span q.call) × (q.clock ≡ last_stamp (entries_by (Process b) trace)) =
        asked_is trace b (want_of (process_after app (entries_by (Process b) trace))) q next in
        let made : IsMadeOn app q.object q.call =
        (next_known app (process_after app (entries_by (Process b) trace)) q.object q.span q.call (known_calls app trace legal sound b) asked.0).0.call in
        let short : last_stamp (entries_by (Process b) (works w)) ≤ length trace =
        clock_short app histories seat count works are trace order same (Process b) w low in
        let clock : q.clock ≡ last_stamp (entries_by (Process b) (works w)) = asked.1 ∙ ap last_stamp did in
        left q (made_there app q.object q.call made) (omega arith) (refused.processes b q own)

    pub has_tried : HasTried app trace (w + 1)
    has_tried = record {
      processes = next_left;
      takes = λ s there its. left (bearing (works w) (inbox_number app s) (calls.Take 1)) (omega arith) (omega arith) (refused.takes s there its);
      pulls = λ n sub is its.
          let known : SoundSub app.stores.items app.services.items sub =
          subst (SoundSub app.stores.items app.services.items) (get_or_from_slice_get app.subs.items n sub sub is)
          ((app_known app sound).subs n sub (slice_get_within app.subs.items n sub is)) in
          let there : sub.store < length app.stores.items = slice_get_within app.stores.items sub.store known.store known.stored in
          left (bearing (works w) sub.store (calls.Pull (position_on app sub.store n))) (omega arith) (omega arith) (refused.pulls n sub is its);
      ships = λ o s region version is its here next.
          let there : o < length app.stores.items = slice_get_within app.stores.items o s is in
          let short : last_stamp (entries_by (Carrier (w + 1)) (works w)) ≤ length trace =
          clock_short app histories seat count works are trace order same (Carrier (w + 1)) w low in
          left (asking_at (works w) o (Carrier (w + 1)) 0 (calls.Ship region version 1)) (omega arith) short
          (refused.ships o s region version is its here (next_same o region version next));
    }
