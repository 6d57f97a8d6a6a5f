-- A number among those of all regions that changes.
use Rattle.std.proofs.Common.{◌≡◌, ◌≢◌, ℕ, ◌<◌, List, length, slice_set, sym, subst, ⊎_elim, get_or-set_same, get_or-set_other}
use Rattle.std.proofs.lemmas.Bool.{cases_eq}
use Rattle.anti_shared.specs.inner.Marks.{number_at}

-- what is so of the changed number, and of the others as they were, is so of all
pub one_set : (P : ℕ → ℕ → Type 0) (numbers : List ℕ) (at n : ℕ) → at < length numbers → P at n → ((region : ℕ) → region ≢ at → P region (number_at numbers region)) → (region : ℕ)
    → P region (number_at (slice_set numbers at n) region)
one_set P numbers at n within here others region = ⊎_elim
    (λ (same : region ≡ at). subst (λ (r : ℕ). P r (number_at (slice_set numbers at n) r)) (sym same)
    (subst (λ (k : ℕ). P at k) (sym (get_or-set_same numbers at n 0 within)) here))
    (λ (apart : region ≢ at). subst (λ (k : ℕ). P region k) (sym (get_or-set_other numbers at region n 0 apart)) (others region apart))
    (cases_eq region at)
