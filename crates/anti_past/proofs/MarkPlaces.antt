-- The places of the entries of a legal trace, by their marks, where one more entry is noted.
use Rattle.std.proofs.Common.{◌≡◌, ℕ, ◌+◌, ◌<◌, ◌≤◌, ◌↔◌, Bool, true, false, List, length, refl, sym, ap, ◌∙◌, inl, inr, arith}
use Rattle.std.specs.Prelude.{Some, None, Option, option_map, slice_get}
use Rattle.std.specs.BTreeMap as tree
use Rattle.std.specs.Map.{lookup}
use Rattle.std.specs.Cmp.{Equal-is}
use Rattle.std.specs.Ordering.{is_eq, nat_cmp}
use Rattle.std.proofs.lemmas.Bool.{cases_lt, cond-true}
use Rattle.std.proofs.lemmas.Cmp.{nat_cmp_total, on_total, then_total, tied_itself}
use Rattle.std.proofs.lemmas.Map.Lookups.{exact_pairs, exact_unsigned}
use Rattle.std.proofs.lemmas.Option.{slice_get_within}
use Rattle.anti_kind.specs.declared.entry.Entry.{Entry}
use Rattle.anti_app.specs.declared.app.App.{App}
use Rattle.anti_trace.specs.Legal.{IsLegalTrace}
use Rattle.anti_trace.specs.declared.mark.Mark.{Mark}
use Rattle.anti_past.specs.Losses.{mark_of}
use Rattle.anti_past.specs.declared.marks.PlaceByMark.{PlaceByMark}
use Rattle.anti_past.specs.inner.Marks.{IsMarked, KnowsBefore, KnowsPlaces, pair_cmp, place_known}
use Rattle.anti_past.proofs.OnePlace.{one_place}

-- ---- marks

-- there is an entry at a place that is marked
pub marked : (trace : List Entry) (i : ℕ) (mark : Mark) → IsMarked trace i mark → (a : Entry) × (slice_get trace i ≡ Some a) × (mark_of a ≡ mark)
marked trace i mark is = by_entry (slice_get trace i) is
  where
    by_entry : (found : Option Entry) → option_map mark_of found ≡ Some mark → (a : Entry) × (found ≡ Some a) × (mark_of a ≡ mark)
    by_entry None is = absurd (cc)
    by_entry (Some a) is = (a, refl, cc)

pub marked_at : (trace : List Entry) (i : ℕ) (a : Entry) → slice_get trace i ≡ Some a → IsMarked trace i (mark_of a)
marked_at trace i a at = ap (option_map mark_of) at

-- a mark names one place
pub one_marked : (app : App) (trace : List Entry) → IsLegalTrace app trace → (mark : Mark) (i j : ℕ) → IsMarked trace i mark → IsMarked trace j mark → i ≡ j
one_marked app trace legal mark i j at_i at_j =
    let a = marked trace i mark at_i in
    let b = marked trace j mark at_j in
    let same : mark_of a.0 ≡ mark_of b.0 = a.2 ∙ sym b.2 in
    one_place app trace legal i j a.0 b.0 a.1 b.1 (ap (λ (m : Mark). m.object) same) (ap (λ (m : Mark). m.place) same)

-- ---- places that are known

pub tied_marks : (a b : Mark) → is_eq (pair_cmp (a.object, a.place) (b.object, b.place)) ≡ true → a ≡ b
tied_marks a b tie =
    let pairs : (a.object, a.place) ≡ (b.object, b.place) =
    exact_pairs nat_cmp nat_cmp exact_unsigned exact_unsigned (a.object, a.place) (b.object, b.place) ((Equal-is (pair_cmp (a.object, a.place) (b.object, b.place))).0 tie) in
    ap (λ (p : ℕ × ℕ). record { object = p.0; place = p.1 }) pairs

pub mark_ties : (a : Mark) → is_eq (pair_cmp (a.object, a.place) (a.object, a.place)) ≡ true
mark_ties a = ap is_eq (tied_itself (then_total (on_total (λ (p : ℕ × ℕ). p.0) nat_cmp_total) (on_total (λ (p : ℕ × ℕ). p.1) nat_cmp_total)) (a.object, a.place))

-- with the entry at index k
module _ (app : App) (trace : List Entry) (legal : IsLegalTrace app trace) (k : ℕ) (e : Entry) (at : slice_get trace k ≡ Some e) (m n : PlaceByMark)
    (updates : tree.Updates pair_cmp m.places n.places (e.object, e.place) (Some k)) (known : KnowsBefore trace k m) where
  pub knows_more : KnowsBefore trace (k + 1) n
  knows_more mark i = by_test (is_eq (pair_cmp (e.object, e.place) (mark.object, mark.place))) refl
    where
      by_test : (t : Bool) → is_eq (pair_cmp (e.object, e.place) (mark.object, mark.place)) ≡ t
          → (place_known n mark ≡ Some i) ↔ ((i < k + 1) × IsMarked trace i mark)
      by_test true tie =
          let same : mark_of e ≡ mark = tied_marks (mark_of e) mark tie in
          let new : place_known n mark ≡ Some k = updates.0 (mark.object, mark.place) ∙ cond-true _ _ _ tie in
          let here : IsMarked trace k mark = marked_at trace k e at ∙ ap Some same in (
            λ is. let last : k ≡ i = cc in (omega arith, ap (λ (j : ℕ). option_map mark_of (slice_get trace j)) (sym last) ∙ here),
            λ has. new ∙ ap Some (one_marked app trace legal mark k i here has.1),
          )
      by_test false off =
          let old : place_known n mark ≡ place_known m mark = updates.2 (mark.object, mark.place) off in (
            λ is. let had = (known mark i).0 (sym old ∙ is) in let low = had.0 in (omega arith, had.1),
            λ has. old ∙ (known mark i).1 (earlier has.0 has.1, has.1),
          )
        where
          earlier : i < k + 1 → IsMarked trace i mark → i < k
          earlier low is =
              elim (cases_lt i k) [
                | inl less ↦ less
                | inr above ↦
                    let last : i ≡ k = omega arith in
                    let its : Some (mark_of e) ≡ Some mark = sym (marked_at trace k e at) ∙ ap (λ (j : ℕ). option_map mark_of (slice_get trace j)) (sym last) ∙ is in
                    let same : mark_of e ≡ mark = cc in
                    let tie : is_eq (pair_cmp (e.object, e.place) (mark.object, mark.place)) ≡ true =
                    ap (λ (x : Mark). is_eq (pair_cmp (e.object, e.place) (x.object, x.place))) (sym same) ∙ mark_ties (mark_of e) in
                    absurd (cc)
              ]

-- behind the last entry all places are known
pub knows_all : (trace : List Entry) (k : ℕ) (known : PlaceByMark) → length trace ≤ k → KnowsBefore trace k known → KnowsPlaces trace known
knows_all trace k known long before mark i = (
  λ is. ((before mark i).0 is).1,
  λ is.
      let a = marked trace i mark is in
      let low : i < length trace = slice_get_within trace i a.0 a.1 in
      (before mark i).1 (omega arith, is),
)

-- before the first entry none is known
pub none_known : (trace : List Entry) (known : PlaceByMark) → tree.IsEmpty known.places → KnowsBefore trace 0 known
none_known trace known empty mark i = (
  λ is.
      let none : place_known known mark ≡ None = ap (λ es. lookup (λ k. is_eq (pair_cmp (mark.object, mark.place) k)) es) empty in
      absurd (cc),
  λ has. let low = has.0 in absurd (omega arith),
)
