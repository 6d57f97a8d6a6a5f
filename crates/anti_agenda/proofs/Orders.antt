-- The orders of offers and of sleepers, which are derived, in plain words.
use Rattle.std.proofs.Common.{◌≡◌, ℕ, ◌<◌, ◌⊎◌, true, false, refl, sym, ap, ◌∙◌, inl, inr, arith}
use Rattle.std.specs.declared.cmp.Ordering.{Ordering}
use Rattle.std.specs.declared.cmp.Ordering.TheVariants.{Less, Equal, Greater}
use Rattle.std.specs.Ordering.{is_eq, is_gt, nat_cmp, ordering_then}
use Rattle.std.specs.Cmp.{IsTotalOrder}
use Rattle.std.proofs.lemmas.Bool.{false≢true, true≢false}
use Rattle.std.proofs.lemmas.Cmp.{by_ranked, ranked, tied_itself, nat_cmp_total}
use Rattle.std.proofs.lemmas.Map.Lookups.{CmpEqualImpliesEq, exact_unsigned}
use Rattle.anti_kind.specs.contracts.awaited.AwaitedOrd.TheImpl as awaited_order
use Rattle.anti_kind.specs.declared.awaited.Awaited.{Awaited}
use Rattle.anti_kind.specs.declared.awaited.Awaited.TheVariants.{Delivery, Handout, Reply, Version, Writing}
use Rattle.anti_agenda.specs.Agendas.{IsBefore, IsBelow}
use Rattle.anti_agenda.specs.contracts.offer.OfferOrd.TheImpl.Laws as offer_laws
use Rattle.anti_agenda.specs.contracts.offer.SleeperOrd.TheImpl as sleeper_order
use Rattle.anti_agenda.specs.contracts.offer.SleeperOrd.TheImpl.Laws as sleeper_laws
use Rattle.anti_agenda.specs.declared.offer.Offer.{Offer}
use Rattle.anti_agenda.specs.declared.offer.Offer.TheVariants.{Go, Take, Pull, Ship, Again}
use Rattle.anti_agenda.specs.declared.offer.Sleeper.{Sleeper}
use Rattle.anti_agenda.specs.inner.Front.{offer_cmp}

-- ---- by one part and then by another

equal_parts : (o p : Ordering) → ordering_then o p ≡ Equal → (o ≡ Equal) × (p ≡ Equal)
equal_parts Less p is = absurd (false≢true (ap is_eq is))
equal_parts Equal p is = (refl, is)
equal_parts Greater p is = absurd (false≢true (ap is_eq is))

pub up_to_first : (o p : Ordering) → is_gt (ordering_then o p) ≡ false → is_gt o ≡ false
up_to_first Less p is = refl
up_to_first Equal p is = refl
up_to_first Greater p is = is

pub up_to_second : (o p : Ordering) → o ≡ Equal → is_gt (ordering_then o p) ≡ false → is_gt p ≡ false
up_to_second o p same is = ap (λ (first : Ordering). is_gt (ordering_then first p)) (sym same) ∙ is

pub up_to_both : (o p : Ordering) → is_gt o ≡ false → is_gt p ≡ false → is_gt (ordering_then o p) ≡ false
up_to_both Less p first second = refl
up_to_both Equal p first second = second
up_to_both Greater p first second = first

pub at_most : (a b : ℕ) → is_gt (nat_cmp a b) ≡ false → (a < b) ⊎ (a ≡ b)
at_most a b is =
    by_ranked (a < b) (a ≡ b) (b < a) (nat_cmp a b) (ranked a b (nat_cmp a b) refl) (λ o low. inl low) (λ o same. inr same)
    (λ o past. absurd (let beyond : is_gt (nat_cmp a b) ≡ true = ap is_gt o in cc))

pub tied : (a b : ℕ) → a ≡ b → nat_cmp a b ≡ Equal
tied a b same = ap (nat_cmp a) (sym same) ∙ tied_itself nat_cmp_total a

pub least : (n : ℕ) → is_gt (nat_cmp 0 n) ≡ false
least n = grind (arith)

-- ---- offers

pub offers_total : IsTotalOrder offer_cmp
offers_total = offer_laws.total-law

pub offers_exact : CmpEqualImpliesEq offer_cmp
offers_exact (Go a b) (Go x y) is =
    let parts = equal_parts (nat_cmp a x) (nat_cmp b y) is in
    λ i. Go (exact_unsigned a x parts.0 i) (exact_unsigned b y parts.1 i)
offers_exact (Take a) (Take x) is = ap Take (exact_unsigned a x is)
offers_exact (Pull a) (Pull x) is = ap Pull (exact_unsigned a x is)
offers_exact (Ship a b) (Ship x y) is =
    let parts = equal_parts (nat_cmp a x) (nat_cmp b y) is in
    λ i. Ship (exact_unsigned a x parts.0 i) (exact_unsigned b y parts.1 i)
offers_exact (Again a b) (Again x y) is =
    let parts = equal_parts (nat_cmp a x) (nat_cmp b y) is in
    λ i. Again (exact_unsigned a x parts.0 i) (exact_unsigned b y parts.1 i)
offers_exact first second is = absurd (false≢true (ap is_eq is))

-- the first of all
pub none_before : (offer : Offer) → is_gt (offer_cmp (Go 0 0) offer) ≡ false
none_before (Go x y) = up_to_both (nat_cmp 0 x) (nat_cmp 0 y) (least x) (least y)
none_before other = refl

numbers : (offer : ℕ → Offer) (a x : ℕ) → is_gt (nat_cmp a x) ≡ false → (offer x ≡ offer a) ⊎ (a < x)
numbers offer a x is =
    elim (at_most a x is) [
      | inl low ↦ inr low
      | inr same ↦ inl (ap offer (sym same))
    ]

pairs : (offer : ℕ → ℕ → Offer) (a b x y : ℕ) → is_gt (ordering_then (nat_cmp a x) (nat_cmp b y)) ≡ false
    → (offer x y ≡ offer a b) ⊎ IsBelow a b x y
pairs offer a b x y is =
    elim (at_most a x (up_to_first (nat_cmp a x) (nat_cmp b y) is)) [
      | inl low ↦ inr (inl low)
      | inr same ↦ second same (at_most b y (up_to_second (nat_cmp a x) (nat_cmp b y) (tied a x same) is))
    ]
  where
    second : a ≡ x → (b < y) ⊎ (b ≡ y) → (offer x y ≡ offer a b) ⊎ IsBelow a b x y
    second same (inl low) = inr (inr (same, low))
    second same (inr alike) = inl (λ i. offer (sym same i) (sym alike i))

-- what is not behind another is it, or before it
pub before_or_same : (first second : Offer) → is_gt (offer_cmp first second) ≡ false → (second ≡ first) ⊎ IsBefore first second
before_or_same (Go a b) (Go x y) is = pairs Go a b x y is
before_or_same (Take a) (Take x) is = numbers Take a x is
before_or_same (Pull a) (Pull x) is = numbers Pull a x is
before_or_same (Ship a b) (Ship x y) is = pairs Ship a b x y is
before_or_same (Again a b) (Again x y) is = pairs Again a b x y is
before_or_same (Go a b) second is = inr tt
before_or_same (Take a) (Go x y) is = absurd (true≢false is)
before_or_same (Take a) second is = inr tt
before_or_same (Pull a) (Ship x y) is = inr tt
before_or_same (Pull a) (Again x y) is = inr tt
before_or_same (Pull a) second is = absurd (true≢false is)
before_or_same (Ship a b) (Again x y) is = inr tt
before_or_same (Ship a b) second is = absurd (true≢false is)
before_or_same (Again a b) second is = absurd (true≢false is)

-- ---- sleepers

abbrev pub awaited_cmp : Awaited → Awaited → Ordering
awaited_cmp = awaited_order.ghosts.cmp

awaited_exact : CmpEqualImpliesEq awaited_cmp
awaited_exact Delivery Delivery is = refl
awaited_exact (Reply a) (Reply x) is = ap Reply (exact_unsigned a x is)
awaited_exact (Handout a) (Handout x) is = ap Handout (exact_unsigned a x is)
awaited_exact (Version a b) (Version x y) is =
    let parts = equal_parts (nat_cmp a x) (nat_cmp b y) is in
    λ i. Version (exact_unsigned a x parts.0 i) (exact_unsigned b y parts.1 i)
awaited_exact Writing Writing is = refl
awaited_exact first second is = absurd (false≢true (ap is_eq is))

abbrev pub sleeper_cmp : Sleeper → Sleeper → Ordering
sleeper_cmp = sleeper_order.ghosts.cmp

pub sleepers_total : IsTotalOrder sleeper_cmp
sleepers_total = sleeper_laws.total-law

pub sleepers_exact : CmpEqualImpliesEq sleeper_cmp
sleepers_exact s t is =
    let parts = equal_parts (nat_cmp s.object t.object) (ordering_then (awaited_cmp s.awaited t.awaited) (offer_cmp s.offer t.offer)) is in
    let rest = equal_parts (awaited_cmp s.awaited t.awaited) (offer_cmp s.offer t.offer) parts.1 in
    let objects = exact_unsigned s.object t.object parts.0 in
    let awaited = awaited_exact s.awaited t.awaited rest.0 in
    let offers = offers_exact s.offer t.offer rest.1 in
    λ i. record { object = objects i; awaited = awaited i; offer = offers i }
