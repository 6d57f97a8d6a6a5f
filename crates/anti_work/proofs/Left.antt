-- What a worker was refused it left undone for a reason that stands in the trace, and nothing that it was answered was foreign.
use Rattle.std.proofs.Common.{◌≡◌, ℕ, ◌-◌, ◌*◌, ◌^◌, ◌<◌, ◌≤◌, ◌++◌, ◌⊎◌, inl, inr, max, false, true, List, [], ◌∷◌, length, get_or, refl, sym, ap, ◌∙◌, subst, append-nil, append_assoc, arith}
use Rattle.std.specs.Prelude.{◌==◌, All, Contains, None, Some, IsTrue}
use Rattle.std.proofs.lemmas.Bool.{eq-eqb}
use Rattle.std.proofs.lemmas.List.{append_cancel_left}
use Rattle.std.proofs.lemmas.List.Elements.{All-contains, All-nil, All-weaker, Contains-get_or, filter-append}
use Rattle.anti_turn.specs.Lists.{IsFront}
use Rattle.anti_kind.specs.declared.actor.Actor.{Actor}
use Rattle.anti_kind.specs.declared.asking.Asking.{Asking}
use Rattle.anti_kind.specs.declared.call.Call.{Call}
use Rattle.anti_kind.specs.declared.entry.Entry.{Entry}
use Rattle.anti_kind.specs.Objects.{Start, fits, last_stamp, ready}
use Rattle.anti_kind.proofs.Histories.{last_stamp-append}
use Rattle.anti_shared.specs.Passes.{PassView, calls_of, seat_of}
use Rattle.anti_app.specs.declared.app.App.{App}
use Rattle.anti_app.specs.Sound.{is_sound}
use Rattle.anti_object.specs.Starts.{start_of}
use Rattle.anti_object.specs.declared.object.Object.{Object}
use Rattle.anti_proc.specs.Foreign.{is_foreign}
use Rattle.anti_proc.specs.Tasks.{task_of}
use Rattle.anti_trace.specs.Legal.{IsLegalTrace, bears}
use Rattle.anti_trace.specs.Traces.{IsTrace, entries_by, entries_on}
use Rattle.anti_trace.proofs.OfLegal.{actor_stamps, all_start, history_stamps, none_foreign}
use Rattle.anti_trace.proofs.Puts.{All-from_filter}
use Rattle.anti_play.proofs.NextEntry.{few_entries}
use Rattle.anti_work.specs.inner.Knowing.{WasRefused, number_at, seen_at}
use Rattle.anti_work.specs.inner.Works.{AreMadeBy}
use Rattle.anti_work.proofs.Merged.{did_same, in_trace, merged_is_legal}

-- where a list has no more entries of a number than its front, none behind the front has it
pub none_behind : (n : ℕ) (front rest : List Entry) → calls_of n (front ++ rest) ≡ calls_of n front → All (λ e. e.seat ≡ n → ⊥) rest
none_behind n front rest same =
    let none : calls_of n rest ≡ [] = append_cancel_left (calls_of n front) (calls_of n rest) []
    (sym (filter-append (λ e. seat_of e == n) front rest) ∙ same ∙ sym (append-nil (calls_of n front))) in
    All-weaker (λ e. (seat_of e == n) ≡ true → ⊥) (λ e. e.seat ≡ n → ⊥) (λ e other is. other (eq-eqb e.seat n is)) rest
    (All-from_filter (λ e. ⊥) (λ e. seat_of e == n) rest (subst (All (λ e. ⊥)) (sym none) (All-nil (λ (e : Entry). ⊥))))

-- A call was left undone by whoever has this seat at the object: at some moment behind its last entry there, the call was not ready or did
-- not fit.
pub record IsLeftBy (app : App) (object seat : ℕ) (history : List Entry) (call : Call) : Type 0 where
  pub start : Start
  pub there : start_of app object ≡ Some start
  pub before : List Entry
  pub after : List Entry
  pub history_is : history ≡ before ++ after
  pub none : All (λ e. e.seat ≡ seat → ⊥) after
  pub blocked : (ready start before call ≡ false) ⊎ (fits start before call ≡ false)

module _ (app : App) (histories : ℕ → List Entry) (seat : ℕ → ℕ → ℕ) (count : ℕ) (works : ℕ → List Entry)
    (are : AreMadeBy app histories seat count works)
    (trace : List Entry) (order : IsTrace trace) (same : (o : ℕ) → entries_on o trace ≡ histories o) where
  legal : IsLegalTrace app trace
  legal = merged_is_legal app histories seat count works are trace order same

  -- what holds of the trace holds of the calls of each worker
  of_trace : (P : Entry → Type 0) → All P trace → (w : ℕ) → w < count → All P (works w)
  of_trace P all w low = λ k d short.
      All-contains P trace (get_or (works w) k d) all
      (in_trace app histories seat count works are trace order same w low (get_or (works w) k d) (Contains-get_or (works w) k d short))

  -- the clock of an actor of a worker
  pub clock_short : (a : Actor) (w : ℕ) → w < count → last_stamp (entries_by a (works w)) ≤ length trace
  clock_short a w low = by_entries (entries_by a (works w)) refl
    where
      by_entries : (es : List Entry) → entries_by a (works w) ≡ es → last_stamp (entries_by a (works w)) ≤ length trace
      by_entries [] is = let none : last_stamp (entries_by a (works w)) ≡ 0 = ap last_stamp is in omega arith
      by_entries (e ∷ es) is =
          let first : Contains (entries_by a (works w)) e = subst (λ (h : List Entry). Contains h e) (sym is) (0, omega arith, refl) in
          let both : entries_by a trace ≡ entries_by a (works w) = did_same app histories seat count works are trace order same a w low e first in
          subst (λ (h : List Entry). last_stamp h ≤ length trace) both (actor_stamps app trace legal a)

  module _ (sound : IsTrue (is_sound app)) where
    -- no worker was answered anything foreign
    pub none_foreign_made : (w : ℕ) → w < count → All (λ e. is_foreign app e.reply ≡ false) (works w)
    none_foreign_made = of_trace (λ e. is_foreign app e.reply ≡ false) (none_foreign app trace legal sound)

    -- each process that a worker was to start could be started
    pub all_made_start : (w : ℕ) → w < count → All (λ e. bears e.call ≡ true → task_of app e ≡ None → ⊥) (works w)
    all_made_start = of_trace (λ e. bears e.call ≡ true → task_of app e ≡ None → ⊥) (all_start app trace legal sound)

    -- what a worker was refused it left undone
    module _ (w : ℕ) (low : w < count) (passes : List (PassView Object)) (q : Asking)
        (number : number_at passes q.object ≡ seat w q.object)
        (front : IsFront (seen_at passes q.object) (histories q.object))
        (clock : q.clock ≤ length trace)
        (refused : WasRefused app passes (works w) q) where
      abbrev rest : List Entry
      rest = refused.later ++ front.0

      whole : histories q.object ≡ refused.seen ++ rest
      whole = front.1 ∙ ap (λ (h : List Entry). h ++ front.0) refused.front ∙ append_assoc refused.seen refused.later front.0

      all_seen : calls_of (seat w q.object) (refused.seen ++ rest) ≡ calls_of (seat w q.object) refused.seen
      all_seen =
          ap (calls_of (seat w q.object)) (sym whole) ∙ are.made w q.object low
          ∙ sym (subst (λ (n : ℕ). calls_of n refused.seen ≡ entries_on q.object (works w)) number refused.own)

      -- there is a stamp left
      not_spent : max q.clock (last_stamp refused.seen) ≡ 2 ^ 64 - 1 → ⊥
      not_spent spent =
          let few : length trace ≤ 32 * 4097 = few_entries app trace sound legal in
          let short : last_stamp (histories q.object) ≤ length trace =
          subst (λ (h : List Entry). last_stamp h ≤ length trace) (same q.object) (history_stamps app trace legal q.object) in
          let parts : last_stamp (histories q.object) ≡ max (last_stamp refused.seen) (last_stamp rest) =
          ap last_stamp whole ∙ last_stamp-append refused.seen rest in
          omega arith

      pub was_left : IsLeftBy app q.object (seat w q.object) (histories q.object) q.call
      was_left = record {
        start = refused.start;
        there = refused.there;
        before = refused.seen;
        after = rest;
        history_is = whole;
        none = none_behind (seat w q.object) refused.seen rest all_seen;
        blocked = elim refused.cause [
          | inl early ↦ inl early
          | inr further ↦ elim further [ inl large ↦ inr large | inr spent ↦ absurd (not_spent spent) ]
        ];
      }
