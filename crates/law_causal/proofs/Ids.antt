-- Ids in lists that are made of others, and the id of a version of a key.
use Rattle.std.proofs.Common.{◌≡◌, ℕ, zero, suc, ◌<◌, ◌⊎◌, ◌↔◌, ◌||◌, Bool, true, false, cond, List, [], ◌∷◌, ◌++◌, Contains, flat_map, length, get_or, refl, sym, ap, ◌∙◌, inl, inr, arith}
use Rattle.std.specs.Prelude.{nat_lt}
use Rattle.std.proofs.lemmas.Bool.{or_cases, or_left, or_right, ltb-true, lt-ltb}
use Rattle.std.proofs.lemmas.List.Folds.{list_any-append}
use Rattle.anti_ids.specs.Ids.{has_id, is_id}
use Rattle.anti_ids.specs.declared.id.WriteId.{WriteId}
use Rattle.anti_ids.proofs.IdLemmas.{is_id-itself, same_id}
use Rattle.anti_kind.proofs.Rows.{or_false}
use Rattle.anti_proc.specs.Local.{id_at}

-- ---- one list behind another

pub has_append : (w : WriteId) (xs ys : List WriteId) → has_id w (xs ++ ys) ≡ (has_id w xs || has_id w ys)
has_append w xs ys = list_any-append (λ j. is_id w j) xs ys

pub in_either : (w : WriteId) (xs ys : List WriteId) → has_id w (xs ++ ys) ≡ true ↔ (has_id w xs ≡ true) ⊎ (has_id w ys ≡ true)
in_either w xs ys =
    let both = has_append w xs ys in (
      λ has. or_cases (has_id w xs) (has_id w ys) (sym both ∙ has),
      λ either. both ∙ elim either [ inl here ↦ or_left (has_id w xs) (has_id w ys) here | inr there ↦ or_right (has_id w xs) (has_id w ys) there ],
    )

pub not_none : {A : Type 0} (w : WriteId) (ids : List WriteId) → ids ≡ [] → has_id w ids ≡ true → A
not_none w ids none has = let never : true ≡ false = sym has ∙ ap (has_id w) none in absurd (cc)

-- ---- lists joined

module _ {X : Type 0} (ids : X → List WriteId) (w : WriteId) where
  -- an id of a joined list is one of an element's, and the other way round
  pub has_joined : (xs : List X) → has_id w (flat_map ids xs) ≡ true → (x : X) × Contains xs x × (has_id w (ids x) ≡ true)
  has_joined [] has = absurd (cc)
  has_joined (x ∷ xs) has =
      elim ((in_either w (ids x) (flat_map ids xs)).0 has) [
        | inl here ↦ (x, (0, omega arith, refl), here)
        | inr there ↦ let (y, at, its) = has_joined xs there in (y, (suc at.0, omega (arith, at.1), at.2), its)
      ]

  pub joined_has : (xs : List X) (x : X) → Contains xs x → has_id w (ids x) ≡ true → has_id w (flat_map ids xs) ≡ true
  joined_has [] x at has = absurd (omega (arith, at.1))
  joined_has (y ∷ ys) x at has = (in_either w (ids y) (flat_map ids ys)).1 (first at.0 at.1 at.2 (λ further. joined_has ys x further has))
    where
      first : (k : ℕ) → k < length (y ∷ ys) → get_or (y ∷ ys) k x ≡ x → (Contains ys x → has_id w (flat_map ids ys) ≡ true)
          → (has_id w (ids y) ≡ true) ⊎ (has_id w (flat_map ids ys) ≡ true)
      first zero low is later = inl (ap (λ (z : X). has_id w (ids z)) is ∙ has)
      first (suc k) low is later = inr (later (k, omega (arith, low), is))

-- ---- the id of a version

-- the id of a version of a key of a store
abbrev pub id_for : ℕ → List ℕ → ℕ → WriteId
id_for o key version = record { store = o; key = key; version = version }

-- an id that a version has is its own, and the version is 1 or later
pub in_id_at : (w : WriteId) (o : ℕ) (key : List ℕ) (version : ℕ) → has_id w (id_at o key version) ≡ true → (0 < version) × (w ≡ id_for o key version)
in_id_at w o key version has = by_test (nat_lt 0 version) refl has
  where
    by_test : (t : Bool) → nat_lt 0 version ≡ t → has_id w (cond t (id_for o key version ∷ []) []) ≡ true → (0 < version) × (w ≡ id_for o key version)
    by_test true some has = (ltb-true 0 version some, same_id w (id_for o key version) (sym (or_false (is_id w (id_for o key version))) ∙ has))
    by_test false none has = absurd (cc)

pub has_id_at : (o : ℕ) (key : List ℕ) (version : ℕ) → 0 < version → has_id (id_for o key version) (id_at o key version) ≡ true
has_id_at o key version some =
    ap (λ (t : Bool). has_id (id_for o key version) (cond t (id_for o key version ∷ []) [])) (lt-ltb 0 version some)
    ∙ or_left (is_id (id_for o key version) (id_for o key version)) false (is_id-itself (id_for o key version))
