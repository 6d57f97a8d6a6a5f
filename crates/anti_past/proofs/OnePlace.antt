-- A mark names one place of a legal trace.
use Rattle.std.proofs.Common.{◌≡◌, ℕ, ◌+◌, ◌<◌, List, ◌∷◌, length, sym, ap, ◌∙◌, inl, inr, arith, length-append}
use Rattle.std.specs.Prelude.{Some, slice_get, take}
use Rattle.std.proofs.lemmas.Bool.{cases_lt, eq-eqb}
use Rattle.anti_kind.specs.declared.entry.Entry.{Entry}
use Rattle.anti_app.specs.declared.app.App.{App}
use Rattle.anti_trace.specs.Legal.{IsLegalTrace}
use Rattle.anti_trace.specs.Traces.{entries_on, is_on}
use Rattle.law_causal.proofs.Lists.{kept_between}
use Rattle.law_causal.proofs.Places.{comes, there}

module _ (app : App) (trace : List Entry) (legal : IsLegalTrace app trace) where
  -- an entry is behind those before it in the history of its object
  place_is : (j : ℕ) (e : Entry) → slice_get trace j ≡ Some e → e.place ≡ length (entries_on e.object (take j trace)) + 1
  place_is j e at = let its = there app trace legal j e at in (comes app trace legal j e at its.0 its.1).0.place

  pub place_rises : (i j : ℕ) (a b : Entry) → slice_get trace i ≡ Some a → slice_get trace j ≡ Some b → a.object ≡ b.object → i < j
      → a.place < b.place
  place_rises i j a b at_i at_j same less =
      let more = kept_between (is_on b.object) trace i j a at_i (eq-eqb a.object b.object same) less in
      let longer : length (entries_on b.object (take j trace)) ≡ length (entries_on b.object (take i trace)) + length (a ∷ more.0) =
      ap length more.1 ∙ length-append (entries_on b.object (take i trace)) (a ∷ more.0) in
      let first : a.place ≡ length (entries_on b.object (take i trace)) + 1 =
      place_is i a at_i ∙ ap (λ (o : ℕ). length (entries_on o (take i trace)) + 1) same in
      let second : b.place ≡ length (entries_on b.object (take j trace)) + 1 = place_is j b at_j in
      omega arith

  -- Two entries of an object at one place in its history are at one place of the trace.
  pub one_place : (i j : ℕ) (a b : Entry) → slice_get trace i ≡ Some a → slice_get trace j ≡ Some b → a.object ≡ b.object → a.place ≡ b.place
      → i ≡ j
  one_place i j a b at_i at_j same place =
      elim (cases_lt i j) [
        | inl less ↦ let rises = place_rises i j a b at_i at_j same less in absurd (omega arith)
        | inr above ↦
            elim (cases_lt j i) [
              | inl less ↦ let rises = place_rises j i b a at_j at_i (sym same) less in absurd (omega arith)
              | inr below ↦ omega arith
            ]
      ]
