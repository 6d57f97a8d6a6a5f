-- What a route tells behind a first part that was shipped.
use Rattle.std.proofs.Common.{◌≡◌, ℕ, ◌+◌, ◌<◌, ◌≤◌, ◌⊎◌, ◌++◌, List, [], ◌∷◌, zero, suc, length, map, refl, sym, ap, ◌∙◌, subst, inl, inr, slice_index_or, arith}
use Rattle.std.specs.Prelude.{IsPermutation, None, Option, Some, slice_get, slice_set}
use Rattle.std.specs.List.{Contains, swap_remove}
use Rattle.std.proofs.lemmas.Bool.{cases_eq, cases_lt}
use Rattle.std.proofs.lemmas.List.{length-set}
use Rattle.std.proofs.lemmas.List.Elements.{All-cons, All-contains, All-nil, Contains-append_cases, Contains-append_left, Contains-append_right, Contains-get_or, Contains-push, Contains-push_cases}
use Rattle.std.proofs.lemmas.List.Sorted.{Contains-permutation, IsPermutation-swap_remove, IsPermutation-sym}
use Rattle.std.proofs.lemmas.Option.{get_or_from_slice_get, slice_get_within}
use Rattle.anti_trace.proofs.Changed.{set_here, set_other}
use Rattle.anti_trace.proofs.Living.{decide}
use Rattle.anti_work.specs.declared.worker.Route.{Route}
use Rattle.anti_work.specs.inner.Rounds.{ends_of}
use Rattle.anti_work.specs.inner.Shipping.{FirstHaveNoted, GoesUp, HasNoted, HasNotedAt, HasShipped, HaveNoted}

-- ---- a version of a list

is_one : (x v : ℕ) → Contains (x ∷ []) v → v ≡ x
is_one x v among = All-contains (λ y. y ≡ x) (x ∷ []) v (All-cons (λ y. y ≡ x) x [] refl (All-nil (λ y. y ≡ x))) among

pub stands_among : (xs : List ℕ) (at x : ℕ) → slice_get xs at ≡ Some x → Contains xs x
stands_among xs at x is =
    subst (Contains xs) (get_or_from_slice_get xs at x x is) (Contains-get_or xs at x (slice_get_within xs at x is))

-- where one was taken out the others are left
module _ (xs rest : List ℕ) (x v : ℕ) (out : IsPermutation xs (x ∷ rest)) where
  taken_cases : Contains xs v → (v ≡ x) ⊎ Contains rest v
  taken_cases among =
      elim (Contains-append_cases (x ∷ []) rest v (Contains-permutation xs (x ∷ rest) v out among)) as (λ _. (v ≡ x) ⊎ Contains rest v) [
        | inl first ↦ inl (is_one x v first)
        | inr left ↦ inr left
      ]

  taken_left : Contains rest v → Contains xs v
  taken_left among = Contains-permutation (x ∷ rest) xs v (IsPermutation-sym xs (x ∷ rest) out) (Contains-append_right (x ∷ []) rest v among)

-- what was taken out is what stood there
pub taken_out : (xs rest : List ℕ) (at x version : ℕ) → at < length xs → x ≡ slice_index_or xs at x → rest ≡ swap_remove xs at x → slice_get xs at ≡ Some version
    → IsPermutation xs (version ∷ rest)
taken_out xs rest at x version low value is there =
    let same : x ≡ version = value ∙ get_or_from_slice_get xs at version x there in
    subst (λ (y : ℕ). IsPermutation xs (y ∷ rest)) same
    (subst (λ (ys : List ℕ). IsPermutation xs (x ∷ ys)) (sym is) (IsPermutation-swap_remove xs at x low value))

-- ---- a route that is told of a version

module _ (old : Route) (version : ℕ) where
  -- it was shipped before
  noted_same : HasShipped old version → HasNoted version old old
  noted_same was = record {
    store = refl;
    region = refl;
    some = omega arith;
    has = λ v. (
      λ has. inl has,
      λ has. elim has as (λ _. HasShipped old v) [
        | inl before ↦ before
        | inr is ↦ subst (HasShipped old) (sym is) was
      ],
    );
  }

  pub noted_low : version < old.next → HasNoted version old old
  noted_low low = noted_same (inl low)

  pub noted_ahead : old.next < version → Contains old.ahead.items version → HasNoted version old old
  noted_ahead above among = noted_same (inr (above, among))

  -- it stands ahead now
  pub noted_push : (new : Route) → old.next < version → new.store ≡ old.store → new.region ≡ old.region → new.next ≡ old.next
      → new.ahead.items ≡ old.ahead.items ++ version ∷ [] → HasNoted version old new
  noted_push new above store region next ahead = record {
    store = store;
    region = region;
    some = omega (arith, next);
    has = λ v. (
      λ has. elim has as (λ _. HasShipped old v ⊎ (v ≡ version)) [
        | inl low ↦ inl (inl (omega (arith, low, next)))
        | inr high ↦
            elim (Contains-push_cases old.ahead.items version v (subst (λ (xs : List ℕ). Contains xs v) ahead high.1)) as (λ _. HasShipped old v ⊎ (v ≡ version)) [
              | inl among ↦ inl (inr (omega (arith, high.0, next), among))
              | inr is ↦ inr (sym is)
            ]
      ],
      λ has. elim has as (λ _. HasShipped new v) [
        | inl before ↦ elim before as (λ _. HasShipped new v) [
          | inl low ↦ inl (omega (arith, low, next))
          | inr high ↦
              inr (
                omega (arith, high.0, next),
                subst (λ (xs : List ℕ). Contains xs v) (sym ahead) (Contains-append_left old.ahead.items (version ∷ []) v high.1),
              )
        ]
        | inr is ↦
            inr (
              omega (arith, above, is, next),
              subst (Contains new.ahead.items) (sym is)
                  (subst (λ (xs : List ℕ). Contains xs version) (sym ahead) (Contains-push old.ahead.items version)),
            )
      ],
    );
  }

-- ---- a route that goes up

module _ (old : Route) where
  pub up_first : (next : ℕ) → next ≡ old.next + 1 → GoesUp old next old.ahead.items
  up_first next is = record {
    some = omega (arith, is);
    has = λ v. (
      λ has. elim has as (λ _. HasShipped old v ⊎ (v ≡ old.next)) [
        | inl low ↦ elim (cases_eq v old.next) as (λ _. HasShipped old v ⊎ (v ≡ old.next)) [
          | inl same ↦ inr same
          | inr other ↦ inl (inl (omega (arith, low, is, other)))
        ]
        | inr among ↦ elim (cases_lt old.next v) as (λ _. HasShipped old v ⊎ (v ≡ old.next)) [
          | inl above ↦ inl (inr (above, among))
          | inr low ↦ elim (cases_eq v old.next) as (λ _. HasShipped old v ⊎ (v ≡ old.next)) [
            | inl same ↦ inr same
            | inr other ↦ inl (inl (omega (arith, low, other)))
          ]
        ]
      ],
      λ has. elim has as (λ _. (v < next) ⊎ Contains old.ahead.items v) [
        | inl before ↦ elim before as (λ _. (v < next) ⊎ Contains old.ahead.items v) [
          | inl low ↦ inl (omega (arith, low, is))
          | inr high ↦ inr high.1
        ]
        | inr same ↦ inl (omega (arith, same, is))
      ],
    );
  }

  module _ (next : ℕ) (ahead : List ℕ) (up : GoesUp old next ahead) where
    -- the next version was ahead
    pub up_more : (rest : List ℕ) (then : ℕ) → then ≡ next + 1 → Contains ahead next → IsPermutation ahead (next ∷ rest) → GoesUp old then rest
    up_more rest then is among out = record {
      some = let some = up.some in omega (arith, some, is);
      has = λ v. (
        λ has. elim has as (λ _. HasShipped old v ⊎ (v ≡ old.next)) [
          | inl low ↦ elim (cases_eq v next) as (λ _. HasShipped old v ⊎ (v ≡ old.next)) [
            | inl same ↦ (up.has v).0 (inr (subst (Contains ahead) (sym same) among))
            | inr other ↦ (up.has v).0 (inl (omega (arith, low, is, other)))
          ]
          | inr left ↦ (up.has v).0 (inr (taken_left ahead rest next v out left))
        ],
        λ has. elim ((up.has v).1 has) as (λ _. (v < then) ⊎ Contains rest v) [
          | inl low ↦ inl (omega (arith, low, is))
          | inr was ↦ elim (taken_cases ahead rest next v out was) as (λ _. (v < then) ⊎ Contains rest v) [
            | inl same ↦ inl (omega (arith, same, is))
            | inr left ↦ inr left
          ]
        ],
      );
    }

    -- it was not
    pub up_done : (version : ℕ) → version ≡ old.next → (new : Route) → new.store ≡ old.store → new.region ≡ old.region → new.next ≡ next → new.ahead.items ≡ ahead
        → (Contains ahead next → ⊥) → HasNoted version old new
    up_done version is new store region next_is ahead_is none = subst (λ (v : ℕ). HasNoted v old new) (sym is) (record {
      store = store;
      region = region;
      some = let some = up.some in omega (arith, some, next_is);
      has = λ v. (
        λ has. elim has as (λ _. HasShipped old v ⊎ (v ≡ old.next)) [
          | inl low ↦ (up.has v).0 (inl (omega (arith, low, next_is)))
          | inr high ↦ (up.has v).0 (inr (subst (λ (xs : List ℕ). Contains xs v) ahead_is high.1))
        ],
        λ has. elim ((up.has v).1 has) as (λ _. HasShipped new v) [
          | inl low ↦ inl (omega (arith, low, next_is))
          | inr among ↦ elim (cases_lt v next) as (λ _. HasShipped new v) [
            | inl low ↦ inl (omega (arith, low, next_is))
            | inr from ↦ elim (cases_eq v next) as (λ _. HasShipped new v) [
              | inl same ↦ absurd (none (subst (Contains ahead) same among))
              | inr other ↦ inr (omega (arith, from, other, next_is), subst (λ (xs : List ℕ). Contains xs v) (sym ahead_is) among)
            ]
          ]
        ],
      );
    })

-- ---- a route that goes from a store to a region, or not

module _ (store region version : ℕ) (was is : Route) where
  pub noted_there : was.store ≡ store → was.region ≡ region → HasNoted version was is → HasNotedAt store region version was is
  noted_there here to noted = inl ((here, to), noted)

module _ (store region version : ℕ) (was : Route) where
  pub noted_from_other : (was.store ≡ store → ⊥) → HasNotedAt store region version was was
  noted_from_other other = inr (λ of. other of.0, refl)

  pub noted_to_other : (was.region ≡ region → ⊥) → HasNotedAt store region version was was
  noted_to_other other = inr (λ of. other of.1, refl)

-- ---- a list of routes

module _ (store region version : ℕ) (old : List Route) where
  pub noted_none : FirstHaveNoted 0 store region version old old
  noted_none = (refl, λ i was is at now. (λ low. absurd (omega (arith, low)), λ from. let both : Some was ≡ Some is = sym at ∙ now in cc))

  pub noted_next : (n next : ℕ) (new : List Route) (was is : Route) → FirstHaveNoted n store region version old new → next ≡ n + 1 → slice_get new n ≡ Some was
      → HasNotedAt store region version was is → FirstHaveNoted next store region version old (slice_set new n is)
  noted_next n next new was is noted next_is there then = (
    length-set new n is ∙ noted.0,
    λ i one two at now.
        elim (decide n i) as (λ _. (i < next → HasNotedAt store region version one two) × (next ≤ i → two ≡ one)) [
          | inl here ↦
              let at_n : slice_get old n ≡ Some one = subst (λ (k : ℕ). slice_get old k ≡ Some one) (sym here) at in
              let same : was ≡ one = (noted.1 n one was at_n there).1 (omega arith) in
              let set : slice_get (slice_set new n is) n ≡ Some is = set_here new n is (slice_get_within new n was there) in
              let last : is ≡ two =
              (let both : Some is ≡ Some two = sym set ∙ subst (λ (k : ℕ). slice_get (slice_set new n is) k ≡ Some two) (sym here) now in cc) in (
                λ low. subst (HasNotedAt store region version one) last (subst (λ (x : Route). HasNotedAt store region version x is) same then),
                λ from. absurd (omega (arith, from, here, next_is)),
              )
          | inr other ↦
              let before = noted.1 i one two at (sym (set_other new n is i other) ∙ now) in
              (λ low. before.0 (omega (arith, low, other, next_is)), λ from. before.1 (omega (arith, from, next_is)))
        ],
  )

-- ---- where routes go

-- each goes where it went
same_ends : (store region version : ℕ) (was is : Route) → HasNotedAt store region version was is → ends_of is ≡ ends_of was
same_ends store region version was is noted =
    elim noted as (λ _. ends_of is ≡ ends_of was) [
      | inl on ↦ (let s : is.store ≡ was.store = on.1.store in let r : is.region ≡ was.region = on.1.region in cc)
      | inr off ↦ ap ends_of off.1
    ]

ends_by : (old new : List Route) → length new ≡ length old
    → ((i : ℕ) (was is : Route) → slice_get old i ≡ Some was → slice_get new i ≡ Some is → ends_of is ≡ ends_of was) → map ends_of new ≡ map ends_of old
ends_by [] [] many each = refl
ends_by [] (is ∷ new) many each = absurd (omega (arith, many))
ends_by (was ∷ old) [] many each = absurd (omega (arith, many))
ends_by (was ∷ old) (is ∷ new) many each =
    let here : ends_of is ≡ ends_of was = each zero was is refl refl in
    let behind : map ends_of new ≡ map ends_of old = ends_by old new (omega (arith, many)) (λ i a b at to. each (suc i) a b at to) in
    cc

pub noted_ends : (store : ℕ) (first : Option (ℕ × ℕ)) (old new : List Route) → HaveNoted store first old new → map ends_of new ≡ map ends_of old
noted_ends store None old new noted = ap (map ends_of) noted
noted_ends store (Some (region, version)) old new noted =
    ends_by old new noted.0 (λ i was is at to. same_ends store region version was is ((noted.1 i was is at to).0 (slice_get_within old i was at)))
