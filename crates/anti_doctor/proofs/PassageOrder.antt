-- The order of passages.
use Rattle.std.proofs.Common.{◌≡◌, ℕ, true, refl, ap, ◌∙◌}
use Rattle.std.specs.Cmp.{IsTotalOrder, Equal-is}
use Rattle.std.specs.declared.cmp.Ordering.{Ordering}
use Rattle.std.specs.declared.cmp.Ordering.TheVariants.{Less, Equal, Greater}
use Rattle.std.specs.Ordering.{is_eq, nat_cmp, ordering_then}
use Rattle.std.proofs.lemmas.Cmp.{nat_cmp_total, on_total, then_total, tied_itself}
use Rattle.std.proofs.lemmas.Map.Lookups.{exact_unsigned}
use Rattle.anti_doctor.specs.declared.passages.Passage.{Passage}
use Rattle.anti_doctor.specs.inner.Passages.{passage_cmp, same_passage}

passage_total : IsTotalOrder passage_cmp
passage_total =
    then_total (on_total (λ (p : Passage). p.kind) nat_cmp_total)
    (then_total (on_total (λ (p : Passage). p.object) nat_cmp_total)
    (then_total (on_total (λ (p : Passage). p.number) nat_cmp_total) (on_total (λ (p : Passage). p.span) nat_cmp_total)))

then_ties : (a b : Ordering) → ordering_then a b ≡ Equal → (a ≡ Equal) × (b ≡ Equal)
then_ties Less b e = absurd (cc)
then_ties Equal b e = (refl, e)
then_ties Greater b e = absurd (cc)

abbrev passage_at : ℕ → ℕ → ℕ → ℕ → Passage
passage_at kind object number span = record { kind = kind; object = object; number = number; span = span }

-- passages that tie are the same
same_from_tie : (a b : Passage) → passage_cmp a b ≡ Equal → a ≡ b
same_from_tie a b tie =
    let kind = then_ties (nat_cmp a.kind b.kind)
    (ordering_then (nat_cmp a.object b.object) (ordering_then (nat_cmp a.number b.number) (nat_cmp a.span b.span))) tie in
    let object = then_ties (nat_cmp a.object b.object) (ordering_then (nat_cmp a.number b.number) (nat_cmp a.span b.span)) kind.1 in
    let number = then_ties (nat_cmp a.number b.number) (nat_cmp a.span b.span) object.1 in
    ap (λ (x : ℕ). passage_at x a.object a.number a.span) (exact_unsigned a.kind b.kind kind.0)
    ∙ ap (λ (x : ℕ). passage_at b.kind x a.number a.span) (exact_unsigned a.object b.object object.0)
    ∙ ap (λ (x : ℕ). passage_at b.kind b.object x a.span) (exact_unsigned a.number b.number number.0)
    ∙ ap (λ (x : ℕ). passage_at b.kind b.object b.number x) (exact_unsigned a.span b.span number.1)

pub same_passage_is : (a b : Passage) → same_passage a b ≡ true → a ≡ b
same_passage_is a b same = same_from_tie a b ((Equal-is (passage_cmp a b)).0 same)

pub same_passage_itself : (a : Passage) → same_passage a a ≡ true
same_passage_itself a = ap is_eq (tied_itself passage_total a)
