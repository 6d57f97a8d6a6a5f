-- The first who is awake stands before the others.
use Rattle.std.specs.Prelude.{◌≡◌, ◌⊎◌, ◌↔◌, ◌∷◌, Contains, Option, None, Some}
use Rattle.std.specs.BTreeSet.{BTreeSet, keys}
use Rattle.std.specs.declared.cmp.Ordering.{Ordering}
use Rattle.std.specs.declared.cmp.Ordering.TheVariants.{Less}
use Rattle.anti_agenda.specs.contracts.offer.OfferOrd.TheImpl as offer_order
use Rattle.anti_agenda.specs.declared.offer.Offer.{Offer}

-- the order of offers
abbrev pub offer_cmp : Offer → Offer → Ordering
offer_cmp = offer_order.ghosts.cmp

-- the set of all
abbrev pub with_first : Option Offer → BTreeSet Offer → BTreeSet Offer
with_first None others = others
with_first (Some first) others = record { keys = first ∷ keys others }

-- the first is before each of the others
abbrev pub IsBeforeEach : Option Offer → BTreeSet Offer → Type 0
IsBeforeEach None others = Unit {0}
IsBeforeEach (Some first) others = (other : Offer) → Contains (keys others) other → offer_cmp first other ≡ Less

-- An offer is awake with them: who stands before the others then, and who is one of them.
pub record IsPlaced (first : Option Offer) (offer : Offer) (others : BTreeSet Offer) (front behind : Option Offer) : Type 0 where
  pub members : (one : Offer) → ((front ≡ Some one) ⊎ (behind ≡ Some one)) ↔ ((one ≡ offer) ⊎ (first ≡ Some one))
  pub before : IsBeforeEach front others
  pub apart : (one other : Offer) → front ≡ Some one → behind ≡ Some other → offer_cmp one other ≡ Less
