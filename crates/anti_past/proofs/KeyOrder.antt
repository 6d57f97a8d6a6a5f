-- The order of the keys of spans.
use Rattle.std.proofs.Common.{◌≡◌, ℕ, ◌<◌, ◌⊎◌, Bool, true, false, cond, nat_lt, refl, ap, ◌∙◌, inl, inr}
use Rattle.std.specs.Prelude.{◌==◌}
use Rattle.std.specs.Cmp.{IsTotalOrder, Equal-is}
use Rattle.std.specs.declared.cmp.Ordering.{Ordering}
use Rattle.std.specs.declared.cmp.Ordering.TheVariants.{Less, Equal, Greater}
use Rattle.std.specs.Ordering.{is_eq, nat_cmp, ordering_then}
use Rattle.std.proofs.lemmas.Bool.{ltb-true}
use Rattle.std.proofs.lemmas.Cmp.{nat_cmp_total, on_total, then_total, tied_itself}
use Rattle.std.proofs.lemmas.Map.Lookups.{exact_unsigned}
use Rattle.anti_past.specs.declared.span_keys.SpanKey.{SpanKey}
use Rattle.anti_past.specs.Spans.{IsBefore}
use Rattle.anti_past.specs.inner.Keys.{key_cmp, same_key, span_of}

pub key_total : IsTotalOrder key_cmp
key_total = then_total (on_total (λ (k : SpanKey). k.object) nat_cmp_total) (then_total (on_total (λ (k : SpanKey). k.place) nat_cmp_total) (on_total (λ (k : SpanKey). k.span) nat_cmp_total))

-- ---- keys that tie are the same

then_ties : (a b : Ordering) → ordering_then a b ≡ Equal → (a ≡ Equal) × (b ≡ Equal)
then_ties Less b e = absurd (cc)
then_ties Equal b e = (refl, e)
then_ties Greater b e = absurd (cc)

abbrev key_at : ℕ → ℕ → ℕ → SpanKey
key_at object place span = record { object = object; place = place; span = span }

pub same_from_tie : (a b : SpanKey) → key_cmp a b ≡ Equal → a ≡ b
same_from_tie a b tie =
    let first = then_ties (nat_cmp a.object b.object) (ordering_then (nat_cmp a.place b.place) (nat_cmp a.span b.span)) tie in
    let later = then_ties (nat_cmp a.place b.place) (nat_cmp a.span b.span) first.1 in
    ap (λ (x : ℕ). key_at x a.place a.span) (exact_unsigned a.object b.object first.0)
    ∙ ap (λ (x : ℕ). key_at b.object x a.span) (exact_unsigned a.place b.place later.0)
    ∙ ap (λ (x : ℕ). key_at b.object b.place x) (exact_unsigned a.span b.span later.1)

pub same_key_is : (a b : SpanKey) → same_key a b ≡ true → a ≡ b
same_key_is a b same = same_from_tie a b ((Equal-is (key_cmp a b)).0 same)

pub same_key_itself : (a : SpanKey) → same_key a a ≡ true
same_key_itself a = ap is_eq (tied_itself key_total a)

-- ---- the order of keys is that of spans

then_less : (a b : Ordering) → ordering_then a b ≡ Less → (a ≡ Less) ⊎ ((a ≡ Equal) × (b ≡ Less))
then_less Less b less = inl refl
then_less Equal b less = inr (refl, less)
then_less Greater b less = absurd (cc)

less_is : (x y : ℕ) → nat_cmp x y ≡ Less → x < y
less_is x y less = by_test (nat_lt x y) refl less
  where
    of_rest : (t : Bool) → cond t Equal Greater ≡ Less → x < y
    of_rest true never = absurd (cc)
    of_rest false never = absurd (cc)

    by_test : (t : Bool) → nat_lt x y ≡ t → cond t Less (cond (x == y) Equal Greater) ≡ Less → x < y
    by_test true low is = ltb-true x y low
    by_test false low is = of_rest (x == y) is

pub before_is : (a b : SpanKey) → key_cmp a b ≡ Less → IsBefore (span_of a) (span_of b)
before_is a b less =
    elim (then_less (nat_cmp a.object b.object) (ordering_then (nat_cmp a.place b.place) (nat_cmp a.span b.span)) less) [
      | inl object ↦ inl (less_is a.object b.object object)
      | inr rest ↦
          inr (
            exact_unsigned a.object b.object rest.0,
            elim (then_less (nat_cmp a.place b.place) (nat_cmp a.span b.span) rest.1) [
              | inl place ↦ inl (less_is a.place b.place place)
              | inr last ↦ inr (exact_unsigned a.place b.place last.0, less_is a.span b.span last.1)
            ],
          )
    ]
