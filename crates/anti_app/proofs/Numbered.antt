-- The numbers of the subscriptions on a store, from a number of the document on.
use Rattle.std.proofs.Common.{◌≡◌, ℕ, zero, suc, ◌+◌, ◌-◌, ◌<◌, ◌≤◌, true, false, List, [], ◌∷◌, length, refl, ap, ◌∙◌, arith}
use Rattle.std.specs.Prelude.{slice_get, filter}
use Rattle.std.specs.List.{range_with_len}
use Rattle.std.proofs.lemmas.Bool.{cond-true, cond-false}
use Rattle.anti_app.specs.declared.app.App.{App}
use Rattle.anti_app.specs.Subs.{is_number_on}

module _ (app : App) (store : ℕ) where
  -- those from n on
  abbrev pub from : ℕ → List ℕ
  from n = filter (is_number_on app store) (range_with_len n (length app.subs.items - n))

  one_more : (n : ℕ) → n < length app.subs.items → range_with_len n (length app.subs.items - n) ≡ n ∷ range_with_len (n + 1) (length app.subs.items - (n + 1))
  one_more n within =
      let size : length app.subs.items - n ≡ suc (length app.subs.items - (n + 1)) = omega (arith, within) in
      ap (range_with_len n) size

  pub from_it : (n : ℕ) → n < length app.subs.items → is_number_on app store n ≡ true → from n ≡ n ∷ from (n + 1)
  from_it n within on =
      ap (filter (is_number_on app store)) (one_more n within) ∙ cond-true (is_number_on app store n) (n ∷ from (n + 1)) (from (n + 1)) on

  pub from_next : (n : ℕ) → n < length app.subs.items → is_number_on app store n ≡ false → from n ≡ from (n + 1)
  from_next n within off =
      ap (filter (is_number_on app store)) (one_more n within) ∙ cond-false (is_number_on app store n) (n ∷ from (n + 1)) (from (n + 1)) off

  pub none_from : (n : ℕ) → length app.subs.items ≤ n → from n ≡ []
  none_from n past =
      let size : length app.subs.items - n ≡ 0 = omega (arith, past) in
      ap (λ (k : ℕ). filter (is_number_on app store) (range_with_len n k)) size

-- the item behind the first
pub get_behind : {A : Type 0} (x : A) (xs : List A) (i : ℕ) → (i ≡ 0 → ⊥) → slice_get (x ∷ xs) i ≡ slice_get xs (i - 1)
get_behind x xs zero some = absurd (some refl)
get_behind x xs (suc i) some =
    let e : i ≡ suc i - 1 = omega arith in
    ap (slice_get xs) e
