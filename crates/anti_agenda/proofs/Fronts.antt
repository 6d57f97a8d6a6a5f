-- The first who is awake, and the others.
use Rattle.std.proofs.Common.{◌≡◌, zero, suc, ◌⊎◌, ◌↔◌, false, List, ◌∷◌, Contains, Option, None, Some, refl, sym, ap, ◌∙◌, subst, inl, inr, arith}
use Rattle.std.specs.BTreeSet.{BTreeSet, keys}
use Rattle.std.specs.Ordering.{is_gt}
use Rattle.std.specs.declared.cmp.Ordering.{Ordering}
use Rattle.std.specs.declared.cmp.Ordering.TheVariants.{Less, Equal}
use Rattle.std.proofs.lemmas.Cmp.{tied_itself}
use Rattle.anti_agenda.specs.declared.offer.Offer.{Offer}
use Rattle.anti_agenda.specs.inner.Front.{IsBeforeEach, IsPlaced, offer_cmp, with_first}
use Rattle.anti_agenda.specs.inner.Waking.{IsFirstOf}
use Rattle.anti_agenda.proofs.Orders.{before_or_same, offers_total}

-- ---- lists

cons_cases : (x : Offer) (xs : List Offer) (q : Offer) → Contains (x ∷ xs) q → (x ≡ q) ⊎ Contains xs q
cons_cases x xs q (zero, within, is) = inl is
cons_cases x xs q (suc i, within, is) = inr (i, omega (arith, within), is)

cons_head : (x : Offer) (xs : List Offer) → Contains (x ∷ xs) x
cons_head x xs = (zero, omega arith, refl)

cons_tail : (x : Offer) (xs : List Offer) (q : Offer) → Contains xs q → Contains (x ∷ xs) q
cons_tail x xs q (i, within, is) = (suc i, omega (arith, within), is)

-- ---- all of them

pub of_all : (first : Option Offer) (others : BTreeSet Offer) (q : Offer)
    → Contains (keys (with_first first others)) q ↔ ((first ≡ Some q) ⊎ Contains (keys others) q)
of_all None others q = (λ is. inr is, λ is. elim is [ inl none ↦ absurd (cc) | inr in_others ↦ in_others ])
of_all (Some x) others q = (
  λ is. elim (cons_cases x (keys others) q is) [ inl it ↦ inl (ap Some it) | inr in_others ↦ inr in_others ],
  λ is.
      elim is [
        | inl it ↦ let same : x ≡ q = cc in subst (Contains (x ∷ keys others)) same (cons_head x (keys others))
        | inr in_others ↦ cons_tail x (keys others) q in_others
      ],
)

-- ---- the order

not_after : (o : Ordering) → o ≡ Less → is_gt o ≡ false
not_after o less = ap is_gt less

never_itself : (x : Offer) → offer_cmp x x ≡ Less → ⊥
never_itself x less = let same : offer_cmp x x ≡ Equal = tied_itself offers_total x in let both : Less ≡ Equal = sym less ∙ same in absurd (cc)

-- the first of all
pub front_first : (first : Offer) (others : BTreeSet Offer) → IsBeforeEach (Some first) others → IsFirstOf (with_first (Some first) others) (Some first)
front_first first others before = (
  cons_head first (keys others),
  λ other is.
      elim (cons_cases first (keys others) other is) [
        | inl it ↦ inl (sym it)
        | inr in_others ↦ before_or_same first other (not_after (offer_cmp first other) (before other in_others))
      ],
)

-- ---- one who is placed

-- who stands before the one that did
module _ (first offer : Offer) (others : BTreeSet Offer) (before : IsBeforeEach (Some first) others) where
  pub in_front : offer_cmp offer first ≡ Less → IsPlaced (Some first) offer others (Some offer) (Some first)
  in_front less = record {
    members = λ one. (
      λ is. elim is [ inl it ↦ inl (let same : offer ≡ one = cc in sym same) | inr it ↦ inr it ],
      λ is. elim is [ inl it ↦ inl (ap Some (sym it)) | inr it ↦ inr it ],
    );
    before = λ other is. offers_total.trans offer first other less (before other is);
    apart = λ one other f b. let x : offer ≡ one = cc in let y : first ≡ other = cc in ap (λ o. offer_cmp o other) (sym x) ∙ ap (offer_cmp offer) (sym y) ∙ less;
  }

-- the others with the one who is one of them
pub with_behind : (old new : BTreeSet Offer) (behind : Option Offer) (one : Offer) → behind ≡ Some one
    → ((q : Offer) → Contains (keys new) q ↔ ((q ≡ one) ⊎ Contains (keys old) q))
    → (q : Offer) → Contains (keys new) q ↔ ((behind ≡ Some q) ⊎ Contains (keys old) q)
with_behind old new behind one is more q = (
  λ has. elim ((more q).0 has) [ inl it ↦ inl (is ∙ ap Some (sym it)) | inr had ↦ inr had ],
  λ has.
      (more q).1
      (elim has [
        | inl it ↦ inl (let both : Some one ≡ Some q = sym is ∙ it in let same : one ≡ q = cc in sym same)
        | inr had ↦ inr had
      ]),
)

-- the same others
pub before_same : (first : Option Offer) (old new : BTreeSet Offer) → keys new ≡ keys old → IsBeforeEach first old → IsBeforeEach first new
before_same first old new same before = subst (λ (ks : List Offer). IsBeforeEach first (record { keys = ks })) (sym same) before

-- the set with one who was placed
module _ (first : Option Offer) (offer : Offer) (others new : BTreeSet Offer) (front behind : Option Offer) (placed : IsPlaced first offer others front behind)
    (more : (q : Offer) → Contains (keys new) q ↔ ((behind ≡ Some q) ⊎ Contains (keys others) q)) where
  pub still_before : IsBeforeEach front new
  still_before = by_front front refl placed.before
    where
      by_front : (f : Option Offer) → front ≡ f → IsBeforeEach f others → IsBeforeEach f new
      by_front None is before = tt
      by_front (Some x) is before = λ other in_new.
          elim ((more other).0 in_new) [
            | inl it ↦ placed.apart x other is it
            | inr in_others ↦ before other in_others
          ]

  pub with_one : (q : Offer) → Contains (keys (with_first front new)) q ↔ ((q ≡ offer) ⊎ Contains (keys (with_first first others)) q)
  with_one q = (
    λ is.
        elim ((of_all front new q).0 is) [
          | inl in_front ↦ was ((placed.members q).0 (inl in_front))
          | inr in_new ↦ elim ((more q).0 in_new) [
            | inl in_behind ↦ was ((placed.members q).0 (inr in_behind))
            | inr in_others ↦ inr ((of_all first others q).1 (inr in_others))
          ]
        ],
    λ is.
        elim is [
          | inl it ↦ now ((placed.members q).1 (inl it))
          | inr had ↦ elim ((of_all first others q).0 had) [
            | inl was_first ↦ now ((placed.members q).1 (inr was_first))
            | inr in_others ↦ (of_all front new q).1 (inr ((more q).1 (inr in_others)))
          ]
        ],
  )
    where
      was : (q ≡ offer) ⊎ (first ≡ Some q) → (q ≡ offer) ⊎ Contains (keys (with_first first others)) q
      was (inl it) = inl it
      was (inr was_first) = inr ((of_all first others q).1 (inl was_first))

      now : (front ≡ Some q) ⊎ (behind ≡ Some q) → Contains (keys (with_first front new)) q
      now (inl in_front) = (of_all front new q).1 (inl in_front)
      now (inr in_behind) = (of_all front new q).1 (inr ((more q).1 (inl in_behind)))

-- ---- one who is taken out

-- who stood before the others
pub without_first : (first : Offer) (others : BTreeSet Offer) → IsBeforeEach (Some first) others → (q : Offer)
    → Contains (keys others) q ↔ (Contains (first ∷ keys others) q × (q ≡ first → ⊥))
without_first first others before q = (
  λ is. (cons_tail first (keys others) q is, λ same. never_itself first (ap (offer_cmp first) (sym same) ∙ before q is)),
  λ is. elim (cons_cases first (keys others) q is.0) [ inl it ↦ absurd (is.1 (sym it)) | inr in_others ↦ in_others ],
)

-- one of the others
module _ (first : Option Offer) (others new : BTreeSet Offer) (offer : Offer) (apart : first ≡ Some offer → ⊥)
    (less : (q : Offer) → Contains (keys new) q ↔ (Contains (keys others) q × (q ≡ offer → ⊥))) where
  pub before_less : IsBeforeEach first others → IsBeforeEach first new
  before_less before = by_first first before
    where
      by_first : (f : Option Offer) → IsBeforeEach f others → IsBeforeEach f new
      by_first None was = tt
      by_first (Some x) was = λ other is. was other ((less other).0 is).0

  pub without_one : (q : Offer) → Contains (keys (with_first first new)) q ↔ (Contains (keys (with_first first others)) q × (q ≡ offer → ⊥))
  without_one q = (
    λ is.
        elim ((of_all first new q).0 is) [
          | inl it ↦ ((of_all first others q).1 (inl it), λ same. apart (it ∙ ap Some same))
          | inr in_new ↦ let kept = (less q).0 in_new in ((of_all first others q).1 (inr kept.0), kept.1)
        ],
    λ is.
        elim ((of_all first others q).0 is.0) [
          | inl it ↦ (of_all first new q).1 (inl it)
          | inr in_others ↦ (of_all first new q).1 (inr ((less q).1 (in_others, is.1)))
        ],
  )
