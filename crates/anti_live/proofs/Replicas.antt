-- The stores with a replica in a region are found, one after another.
use Rattle.std.proofs.Common.{◌≡◌, ℕ, ◌+◌, ◌<◌, ◌==◌, Bool, true, false, cond, List, [], ◌∷◌, ◌++◌, length, drop, get_or, sym, ap, ◌∙◌, append_assoc}
use Rattle.std.specs.List.{list_any}
use Rattle.std.proofs.lemmas.List.{drop_more}
use Rattle.anti_live.specs.declared.stores.LiveStore.{LiveStore}
use Rattle.anti_live.specs.Stores.{here_from, here_of}

module _ (region : ℕ) (stores : List LiveStore) (number : ℕ) (store : LiveStore) (low : number < length stores) (is : store ≡ get_or stores number store) (found : List ℕ)
    (so_far : found ++ here_from region number (drop number stores) ≡ here_of region stores) where
  behind : List ℕ
  behind = here_from region (number + 1) (drop (number + 1) stores)

  step_is : found ++ here_from region number (store ∷ drop (number + 1) stores) ≡ here_of region stores
  step_is = ap (λ (xs : List LiveStore). found ++ here_from region number xs) (sym (drop_more stores number store low ∙ ap (λ (s : LiveStore). s ∷ drop (number + 1) stores) (sym is))) ∙ so_far

  pub one_found : list_any (λ g. g == region) store.regions.items ≡ true → (found ++ number ∷ []) ++ here_from region (number + 1) (drop (number + 1) stores) ≡ here_of region stores
  unfolding behind
  one_found there =
      append_assoc found (number ∷ []) behind ∙ ap (λ (b : Bool). found ++ cond b (number ∷ behind) behind) (sym there) ∙ step_is

  pub none_found : list_any (λ g. g == region) store.regions.items ≡ false → found ++ here_from region (number + 1) (drop (number + 1) stores) ≡ here_of region stores
  unfolding behind
  none_found absent = ap (λ (b : Bool). found ++ cond b (number ∷ behind) behind) (sym absent) ∙ step_is
