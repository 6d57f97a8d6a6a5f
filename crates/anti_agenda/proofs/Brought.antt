-- What is brought is awaited by sleepers that stand one behind another.
use Rattle.std.proofs.Common.{◌≡◌, ℕ, ◌≤◌, true, false, refl, sym, ap, ◌∙◌, arith, None, IfSome}
use Rattle.std.specs.Ordering.{is_gt, nat_cmp}
use Rattle.std.proofs.lemmas.Bool.{and_from, and_parts, eq-eqb, eqb-true, false≢true, le-leb, leb-true, true≢false}
use Rattle.std.proofs.lemmas.Option.{none-some}
use Rattle.anti_kind.specs.declared.awaited.Awaited.{Awaited}
use Rattle.anti_kind.specs.declared.awaited.Awaited.TheVariants.{Delivery, Handout, Reply, Version, Writing}
use Rattle.anti_kind.specs.declared.awaited.Brought.{Brought}
use Rattle.anti_kind.specs.declared.awaited.Brought.TheVariants as came
use Rattle.anti_kind.specs.Waiting.{reaches}
use Rattle.anti_agenda.specs.inner.Waking.{brings, first_brought}
use Rattle.anti_agenda.proofs.Orders.{at_most, awaited_cmp, least, tied, up_to_both, up_to_first, up_to_second}

pub brings_none : (what : Brought) → first_brought what ≡ None → (awaited : Awaited) → brings what awaited ≡ false
brings_none came.Nothing none awaited = refl
brings_none what none awaited = absurd (none-some _ (sym none))

-- whether an awaited stands at the first that is brought, or behind it
abbrev pub IsFromFirst : Brought → Awaited → Type 0
IsFromFirst what awaited = IfSome (first_brought what) (λ first. is_gt (awaited_cmp first awaited) ≡ false)

pub from_first : (what : Brought) (awaited : Awaited) → brings what awaited ≡ true → IsFromFirst what awaited
from_first came.Delivered Delivery is = refl
from_first (came.Answered to) (Reply number) is = ap is_gt (tied to number (eqb-true to number is))
from_first came.Written Writing is = refl
from_first (came.Shipped region version) (Version at awaited) is =
    let parts = and_parts _ _ is in
    up_to_both (nat_cmp region at) (nat_cmp 0 awaited) (ap is_gt (tied region at (eqb-true region at parts.0))) (least awaited)
from_first came.HandedBack (Handout sub) is = least sub
from_first what awaited is = absurd (false≢true is)

-- who stands between the first and one for whom it is brought waits for it too
pub brings_between : (what : Brought) (awaited last : Awaited) → IsFromFirst what awaited → is_gt (awaited_cmp awaited last) ≡ false
    → brings what last ≡ true → brings what awaited ≡ true
brings_between came.Delivered Delivery last from upto is = refl
brings_between came.Delivered awaited Delivery from upto is = absurd (true≢false upto)
brings_between (came.Answered to) (Reply number) (Reply last) from upto is =
    let same : to ≡ last = eqb-true to last is in
    let one = at_most to number from in
    let two = at_most number last upto in
    eq-eqb to number (grind (arith, same, one, two))
brings_between (came.Answered to) awaited (Reply last) from upto is = absurd (cc)
brings_between came.Written Writing last from upto is = refl
brings_between came.Written awaited Writing from upto is = absurd (true≢false from)
brings_between (came.Shipped region version) (Version at awaited) (Version there last) from upto is =
    let parts = and_parts _ _ is in
    let same : region ≡ there = eqb-true region there parts.0 in
    let low : last ≤ version = leb-true last version parts.1 in
    let one = at_most region at (up_to_first (nat_cmp region at) (nat_cmp 0 awaited) from) in
    let two = at_most at there (up_to_first (nat_cmp at there) (nat_cmp awaited last) upto) in
    let here : region ≡ at = grind (arith, same, one, two) in
    let alike : at ≡ there = sym here ∙ same in
    let up = at_most awaited last (up_to_second (nat_cmp at there) (nat_cmp awaited last) (tied at there alike) upto) in
    and_from _ _ (eq-eqb region at here) (le-leb awaited version (grind (arith, up, low)))
brings_between (came.Shipped region version) awaited (Version there last) from upto is = absurd (cc)
brings_between came.HandedBack (Handout sub) last from upto is = refl
brings_between came.HandedBack awaited (Handout last) from upto is = absurd (cc)
brings_between what awaited last from upto is = absurd (false≢true is)

-- what is brought reaches whom it is brought, and a shipment those too who wait for a handout
pub reaches_alike : (what : Brought) (awaited : Awaited) → ((region version : ℕ) → what ≡ came.Shipped region version → ⊥)
    → brings what awaited ≡ reaches what awaited
reaches_alike (came.Shipped region version) awaited apart = absurd (apart region version refl)
reaches_alike came.Nothing awaited apart = refl
reaches_alike what Delivery apart = refl
reaches_alike what (Reply number) apart = refl
reaches_alike what (Handout sub) apart = refl
reaches_alike what (Version region version) apart = refl
reaches_alike what Writing apart = refl

pub shipped_reaches : (region version : ℕ) (awaited : Awaited) → brings came.HandedBack awaited ≡ false
    → brings (came.Shipped region version) awaited ≡ false → reaches (came.Shipped region version) awaited ≡ false
shipped_reaches region version (Handout sub) handed shipped = absurd (true≢false handed)
shipped_reaches region version (Version at awaited) handed shipped = shipped
shipped_reaches region version awaited handed shipped = refl

-- a shipment reaches whom it is brought, and whom a handing back is
pub shipped_brings : (region version : ℕ) (awaited : Awaited) → brings (came.Shipped region version) awaited ≡ true
    → reaches (came.Shipped region version) awaited ≡ true
shipped_brings region version (Version at awaited) is = is
shipped_brings region version awaited is = absurd (false≢true is)

pub shipped_hands_out : (region version : ℕ) (awaited : Awaited) → brings came.HandedBack awaited ≡ true
    → reaches (came.Shipped region version) awaited ≡ true
shipped_hands_out region version (Handout sub) is = refl
shipped_hands_out region version awaited is = absurd (false≢true is)
