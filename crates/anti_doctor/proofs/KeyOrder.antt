-- The order of the keys of stores.
use Rattle.std.proofs.Common.{◌≡◌, ℕ, List, true, refl, ap, ◌∙◌}
use Rattle.std.specs.Cmp.{IsTotalOrder, Equal-is}
use Rattle.std.specs.Cmp.Lexicographic.{slice_cmp}
use Rattle.std.specs.declared.cmp.Ordering.{Ordering}
use Rattle.std.specs.declared.cmp.Ordering.TheVariants.{Less, Equal, Greater}
use Rattle.std.specs.Ordering.{is_eq, nat_cmp, ordering_then}
use Rattle.std.proofs.lemmas.Cmp.{nat_cmp_total, nat_list_cmp_total, on_total, then_total, tied_itself}
use Rattle.std.proofs.lemmas.Map.Lookups.{exact_bytes, exact_unsigned}
use Rattle.anti_doctor.specs.declared.write_index.StoreKey.{StoreKey}
use Rattle.anti_doctor.specs.inner.Indexes.{key_cmp, same_key}

pub key_total : IsTotalOrder key_cmp
key_total = then_total (on_total (λ (k : StoreKey). k.store) nat_cmp_total) (on_total (λ (k : StoreKey). k.key) nat_list_cmp_total)

pub then_ties : (a b : Ordering) → ordering_then a b ≡ Equal → (a ≡ Equal) × (b ≡ Equal)
then_ties Less b e = absurd (cc)
then_ties Equal b e = (refl, e)
then_ties Greater b e = absurd (cc)

abbrev key_at : ℕ → List ℕ → StoreKey
key_at store key = record { store = store; key = key }

pub same_from_tie : (a b : StoreKey) → key_cmp a b ≡ Equal → a ≡ b
same_from_tie a b tie =
    let parts = then_ties (nat_cmp a.store b.store) (slice_cmp nat_cmp a.key b.key) tie in
    ap (λ (x : ℕ). key_at x a.key) (exact_unsigned a.store b.store parts.0) ∙ ap (λ (x : List ℕ). key_at b.store x) (exact_bytes a.key b.key parts.1)

pub same_key_is : (a b : StoreKey) → same_key a b ≡ true → a ≡ b
same_key_is a b same = same_from_tie a b ((Equal-is (key_cmp a b)).0 same)

pub same_key_itself : (a : StoreKey) → same_key a a ≡ true
same_key_itself a = ap is_eq (tied_itself key_total a)
