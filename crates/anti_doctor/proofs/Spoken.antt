-- The keys of which a read speaks stand one behind another in the order of keys, from the least on.
use Rattle.std.proofs.Common.{◌≡◌, ℕ, ◌<◌, true, List, [], ◌∷◌, length, take, refl, sym, ap, ◌∙◌, subst, inl, inr, eqb-true, arith}
use Rattle.std.specs.Prelude.{◌==◌, bytes_eq, Some}
use Rattle.std.specs.Cmp.Lexicographic.{slice_cmp}
use Rattle.std.specs.Ordering.{is_le, nat_cmp, ordering_reverse, ordering_then, MatchOrdering}
use Rattle.std.specs.declared.cmp.Ordering.{Ordering}
use Rattle.std.specs.declared.cmp.Ordering.TheVariants.{Less, Equal, Greater}
use Rattle.std.proofs.lemmas.Bool.{and_from, and_parts, cases_order, eq-eqb}
use Rattle.std.proofs.lemmas.Cmp.{nat_cmp_total, nat_list_cmp_total, ranked, tied_itself}
use Rattle.anti_kind.specs.declared.call.Call.{Call}
use Rattle.anti_kind.specs.declared.call.Call.TheVariants.{Read, Scan, Poll}
use Rattle.anti_kind.specs.declared.entry.Entry.{Entry}
use Rattle.anti_kind.specs.Replies.{speaks_of}
use Rattle.anti_kind.proofs.Showing.{bytes_same}
use Rattle.anti_doctor.specs.declared.write_index.StoreKey.{StoreKey}
use Rattle.anti_doctor.specs.inner.Indexes.{key_cmp}
use Rattle.anti_doctor.specs.inner.Missing.{is_spoken, key_from}

-- ---- numbers

same_ties : (a b : ℕ) → a ≡ b → nat_cmp a b ≡ Equal
same_ties a b same = ap (nat_cmp a) (sym same) ∙ tied_itself nat_cmp_total a

greater_is : (a b : ℕ) → b < a → nat_cmp a b ≡ Greater
greater_is a b low = by_order (nat_cmp a b) refl (ranked a b (nat_cmp a b) refl)
  where
    by_order : (o : Ordering) → o ≡ nat_cmp a b → MatchOrdering o (a < b) (a ≡ b) (b < a) → nat_cmp a b ≡ Greater
    by_order Less is less = absurd (omega (arith, low, less))
    by_order Equal is same = absurd (omega (arith, low, same))
    by_order Greater is greater = sym is

-- from one number up to the next and below the first again there is but the first
between_same : (a b : ℕ) (r s : Ordering) → is_le (ordering_then (nat_cmp a b) r) ≡ true → ordering_then (nat_cmp b a) s ≡ Less
    → (a ≡ b) × (is_le r ≡ true) × (s ≡ Less)
between_same a b r s le less =
    elim (cases_order a b) [
      | inl same ↦ (
        same,
        ap (λ (o : Ordering). is_le (ordering_then o r)) (sym (same_ties a b same)) ∙ le,
        ap (λ (o : Ordering). ordering_then o s) (sym (same_ties b a (sym same))) ∙ less,
      )
      | inr (inl before) ↦ let never = ap (λ (o : Ordering). ordering_then o s) (sym (greater_is b a before)) ∙ less in absurd (cc)
      | inr (inr behind) ↦ let never = ap (λ (o : Ordering). is_le (ordering_then o r)) (sym (greater_is a b behind)) ∙ le in absurd (cc)
    ]

-- ---- bytes

-- a prefix is not behind the words that begin with it
prefix_first : (p k : List ℕ) → bytes_eq p (take (length p) k) ≡ true → is_le (slice_cmp nat_cmp p k) ≡ true
prefix_first [] [] begins = refl
prefix_first [] (y ∷ k) begins = refl
prefix_first (x ∷ p) [] begins = absurd (cc)
prefix_first (x ∷ p) (y ∷ k) begins =
    let parts = and_parts (x == y) (bytes_eq p (take (length p) k)) begins in
    ap (λ (o : Ordering). is_le (ordering_then o (slice_cmp nat_cmp p k))) (same_ties x y (eqb-true x y parts.0)) ∙ prefix_first p k parts.1

-- and what stands between it and one of them begins with it too
prefix_between : (p x k : List ℕ) → is_le (slice_cmp nat_cmp p x) ≡ true → slice_cmp nat_cmp x k ≡ Less
    → bytes_eq p (take (length p) k) ≡ true
    → bytes_eq p (take (length p) x) ≡ true
prefix_between [] [] k le less begins = refl
prefix_between [] (b ∷ x) k le less begins = refl
prefix_between (a ∷ p) [] k le less begins = absurd (cc)
prefix_between (a ∷ p) (b ∷ x) [] le less begins = absurd (cc)
prefix_between (a ∷ p) (b ∷ x) (c ∷ k) le less begins =
    let parts = and_parts (a == c) (bytes_eq p (take (length p) k)) begins in
    let first : a ≡ c = eqb-true a c parts.0 in
    let less' : ordering_then (nat_cmp b a) (slice_cmp nat_cmp x k) ≡ Less = ap (λ (n : ℕ). ordering_then (nat_cmp b n) (slice_cmp nat_cmp x k)) first ∙ less in
    let both = between_same a b (slice_cmp nat_cmp p x) (slice_cmp nat_cmp x k) le less' in
    and_from (a == b) (bytes_eq p (take (length p) x)) (eq-eqb a b both.0) (prefix_between p x k both.1 both.2 parts.1)

-- ---- calls

record BeginsAt (c : Call) (o : ℕ) (first : StoreKey) : Type 0 where
  store : first.store ≡ o
  least : (k : List ℕ) → speaks_of k c ≡ true → is_le (slice_cmp nat_cmp first.key k) ≡ true
  between : (x y : List ℕ) → is_le (slice_cmp nat_cmp first.key x) ≡ true → slice_cmp nat_cmp x y ≡ Less → speaks_of y c ≡ true
      → speaks_of x c ≡ true

-- of one key
one_least : (key k : List ℕ) → bytes_eq key k ≡ true → is_le (slice_cmp nat_cmp key k) ≡ true
one_least key k same =
    ap (λ (z : List ℕ). is_le (slice_cmp nat_cmp key z)) (sym (bytes_same key k same)) ∙ ap is_le (tied_itself nat_list_cmp_total key)

one_between : (key x y : List ℕ) → is_le (slice_cmp nat_cmp key x) ≡ true → slice_cmp nat_cmp x y ≡ Less → bytes_eq key y ≡ true
    → bytes_eq key x ≡ true
one_between key x y le less same =
    let below : slice_cmp nat_cmp x key ≡ Less = ap (slice_cmp nat_cmp x) (bytes_same key y same) ∙ less in
    let above : slice_cmp nat_cmp key x ≡ Greater = nat_list_cmp_total.antisymm key x ∙ ap ordering_reverse below in
    let never = ap is_le (sym above) ∙ le in
    absurd (cc)

begins_at : (c : Call) (o : ℕ) (first : StoreKey) → key_from o c ≡ Some first → BeginsAt c o first
begins_at (Read region key) o first is =
    let same : record { store = o; key = key } ≡ first = cc in
    subst (BeginsAt (Read region key) o) same (record { store = refl; least = one_least key; between = one_between key })
begins_at (Poll region key) o first is =
    let same : record { store = o; key = key } ≡ first = cc in
    subst (BeginsAt (Poll region key) o) same (record { store = refl; least = one_least key; between = one_between key })
begins_at (Scan region prefix) o first is =
    let same : record { store = o; key = prefix } ≡ first = cc in
    subst (BeginsAt (Scan region prefix) o) same (record { store = refl; least = prefix_first prefix; between = prefix_between prefix })
begins_at _ o first is = absurd (cc)

-- ---- keys of stores

module _ (e : Entry) (first : StoreKey) (is : key_from e.object e.call ≡ Some first) where
  pub spoken_first : (q : StoreKey) → is_spoken e q ≡ true → is_le (key_cmp first q) ≡ true
  spoken_first q spoken =
      let begins = begins_at e.call e.object first is in
      let parts = and_parts (q.store == e.object) (speaks_of q.key e.call) spoken in
      let same : first.store ≡ q.store = begins.store ∙ sym (eqb-true q.store e.object parts.0) in
      ap (λ (o : Ordering). is_le (ordering_then o (slice_cmp nat_cmp first.key q.key))) (same_ties first.store q.store same) ∙ begins.least q.key parts.1

  pub spoken_between : (x y : StoreKey) → is_le (key_cmp first x) ≡ true → key_cmp x y ≡ Less → is_spoken e y ≡ true → is_spoken e x ≡ true
  spoken_between x y le less spoken =
      let begins = begins_at e.call e.object first is in
      let parts = and_parts (y.store == e.object) (speaks_of y.key e.call) spoken in
      let same : first.store ≡ y.store = begins.store ∙ sym (eqb-true y.store e.object parts.0) in
      let less' : ordering_then (nat_cmp x.store first.store) (slice_cmp nat_cmp x.key y.key) ≡ Less =
      ap (λ (n : ℕ). ordering_then (nat_cmp x.store n) (slice_cmp nat_cmp x.key y.key)) same ∙ less in
      let both = between_same first.store x.store (slice_cmp nat_cmp first.key x.key) (slice_cmp nat_cmp x.key y.key) le less' in
      and_from (x.store == e.object) (speaks_of x.key e.call) (eq-eqb x.store e.object (sym both.0 ∙ begins.store))
      (begins.between x.key y.key both.1 both.2 parts.1)
