-- The sets that are kept of the reads tell what is causally before them.
use Rattle.std.proofs.Common.{◌≡◌, ℕ, ◌<◌, true, false, List, length, get_or, sym, ap, ◌∙◌, subst, arith}
use Rattle.std.specs.Prelude.{All, Contains, Option, None, Some, slice_get}
use Rattle.std.specs.Option.{option_and_then, option_map_or}
use Rattle.std.proofs.lemmas.List.{length-map}
use Rattle.std.proofs.lemmas.List.Elements.{All-contains}
use Rattle.std.proofs.lemmas.Option.{slice_get-get_or}
use Rattle.anti_kind.specs.declared.entry.Entry.{Entry}
use Rattle.anti_trace.specs.declared.mark.Mark.{Mark}
use Rattle.law_causal.specs.Reads.{is_at}
use Rattle.law_causal.specs.Words.{reads}
use Rattle.law_serial.specs.Causes.{TellsCauses}
use Rattle.anti_order.specs.Answers.{AreMarksOf, mark_at}
use Rattle.anti_order.specs.inner.NumberSets.{has}
use Rattle.anti_order.specs.inner.Writes.{number_at}
use Rattle.anti_order.proofs.Places.{is_at_within}
use Rattle.anti_doctor.specs.inner.Causes.{AreCausesOf, IsKeptOf, TellsBefore, past_in}

abbrev AreAllReads : List Entry → List ℕ → Type 0
AreAllReads trace rs = All (λ r. is_at (λ e. reads e.call) trace r ≡ true) rs

-- what is kept of the entry at a place
abbrev kept_in : List (Option (List ℕ)) → ℕ → Option (List ℕ)
kept_in sets r = option_and_then (λ kept. kept) (slice_get sets r)

pub past_told : (trace : List Entry) (sets : List (Option (List ℕ))) (r : ℕ) (set : List ℕ) → Some set ≡ kept_in sets r → (i : ℕ)
    → past_in sets trace r i ≡ has set (number_at trace i)
past_told trace sets r set at i = ap (λ (kept : Option (List ℕ)). option_map_or (λ set. has set (number_at trace i)) kept false) (sym at)

-- of each read there is a set
pub record IsSetOf (trace : List Entry) (sets : List (Option (List ℕ))) (r : ℕ) : Type 0 where
  pub set : List ℕ
  pub at : Some set ≡ kept_in sets r
  pub tells : TellsBefore trace r set

module _ (trace : List Entry) (sets : List (Option (List ℕ))) (are : AreCausesOf trace sets) where
  pub set_of : (r : ℕ) → is_at (λ e. reads e.call) trace r ≡ true → IsSetOf trace sets r
  set_of r read = by_kept (get_or sets r None) there (are.each r (get_or sets r None) there)
    where
      there : slice_get sets r ≡ Some (get_or sets r None)
      there = let low = is_at_within (λ e. reads e.call) trace r read in slice_get-get_or sets r None (omega (arith, low, are.count))

      by_kept : (kept : Option (List ℕ)) → slice_get sets r ≡ Some kept → IsKeptOf trace r kept → IsSetOf trace sets r
      by_kept None at no_read = absurd (cc)
      by_kept (Some set) at tells = record { set = set; at = sym (ap (λ (o : Option (Option (List ℕ))). option_and_then (λ (kept : Option (List ℕ)). kept) o) at); tells = tells }

  -- the one that is kept
  pub tells_before : (r : ℕ) (set : List ℕ) → is_at (λ e. reads e.call) trace r ≡ true → Some set ≡ kept_in sets r → TellsBefore trace r set
  tells_before r set read at =
      let its = set_of r read in
      let both : Some its.set ≡ Some set = its.at ∙ sym at in
      let same : its.set ≡ set = cc in
      subst (TellsBefore trace r) same its.tells

  pub always_kept : (r : ℕ) → is_at (λ e. reads e.call) trace r ≡ true → None ≡ kept_in sets r → ⊥
  always_kept r read none = let its = (set_of r read).at ∙ sym none in cc

  pub tells_causes : (rs : List ℕ) → AreAllReads trace rs → TellsCauses trace rs (past_in sets trace)
  tells_causes rs all r among i writes =
      let its = set_of r (All-contains (λ r. is_at (λ e. reads e.call) trace r ≡ true) rs r all among) in
      let told = past_told trace sets r its.set its.at i in
      let decides = its.tells.before i writes in
      (λ past. decides.0 (sym told ∙ past), λ before. told ∙ decides.1 before)

pub reads_inside : (trace : List Entry) (rs : List ℕ) → AreAllReads trace rs → (r : ℕ) → Contains rs r → r < length trace
reads_inside trace rs all r among =
    is_at_within (λ e. reads e.call) trace r (All-contains (λ r. is_at (λ e. reads e.call) trace r ≡ true) rs r all among)

-- ---- marks

pub as_many : (trace : List Entry) (is : List ℕ) (marks : List Mark) → AreMarksOf trace is marks → length marks ≡ length is
as_many trace is marks are = sym (length-map marks Some) ∙ ap length (sym are) ∙ length-map is (mark_at trace)
