-- What is known of what is causally before the entries of a trace, with one entry more.
use Rattle.std.proofs.Common.{◌≡◌, ℕ, ◌+◌, ◌<◌, ◌↔◌, ◌||◌, ◌&&◌, ◌++◌, Bool, true, false, cond, List, [], ◌∷◌, length, length-append, refl, sym, ap, ◌∙◌, subst, inl, inr, arith}
use Rattle.std.specs.Prelude.{◌==◌, Option, None, Some, slice_get}
use Rattle.std.specs.BTreeMap as tree
use Rattle.std.proofs.lemmas.Bool.{and_from, and_parts, cases_lt, eq-eqb, eqb-true, or_cases, or_left, or_right}
use Rattle.std.proofs.lemmas.Option.{same_Some, slice_get_within}
use Rattle.anti_kind.specs.declared.entry.Entry.{Entry}
use Rattle.anti_kind.proofs.Deliveries.{slice_get_left}
use Rattle.law_causal.specs.Words as words
use Rattle.law_causal.specs.Words.{wrote}
use Rattle.law_causal.proofs.Lists.{same_at}
use Rattle.law_serial.specs.Order.{is_some_id, writes_at}
use Rattle.anti_order.specs.inner.NumberSets.{has, room}
use Rattle.anti_order.specs.inner.Writes.{number_at}
use Rattle.anti_order.proofs.Numbers.{own_number}
use Rattle.anti_order.proofs.Places.{is_at_entry, is_at_within}
use Rattle.anti_doctor.specs.declared.causes.Causes.{Causes}
use Rattle.anti_doctor.specs.declared.passages.Passage.{Passage}
use Rattle.anti_doctor.specs.inner.Causes.{IsKeptOf, TellsBefore}
use Rattle.anti_doctor.specs.inner.Gathered.{AreClosed, HasPassed, IsUpTo, KnowsCauses, Notes, has_in}
use Rattle.anti_doctor.specs.inner.Passages.{feeds, passage_cmp}
use Rattle.anti_doctor.proofs.Knowing.{number_before, number_fits, number_more}
use Rattle.anti_doctor.proofs.Passing.{item_last}

module _ (trace : List Entry) (j : ℕ) (e : Entry) (at : slice_get trace j ≡ Some e) (set : List ℕ) (tells : TellsBefore trace j set)
    (old new : Causes) (notes : Notes e set old new) (knows : KnowsCauses trace j old) where
  -- whether the entry is a write
  abbrev write : Bool
  write = is_some_id (wrote e)

  writes_here : writes_at trace j ≡ write
  writes_here = is_at_entry (λ a. is_some_id (wrote a)) trace j e at

  low_number : (i : ℕ) → writes_at trace i ≡ true → number_at trace i < room set
  low_number i is =
      let within = is_at_within (λ a. is_some_id (wrote a)) trace i is in
      let low = number_fits trace i (omega (arith, within)) in
      let size = tells.room in
      omega (arith, low, size)

  -- the entry's own set has what is before it, and the entry where it is a write
  own_is : (i : ℕ) → writes_at trace i ≡ true → has notes.own (number_at trace i) ≡ true ↔ IsUpTo trace i j
  own_is i is = (told, untold)
    where
      adds : has notes.own (number_at trace i) ≡ (has set (number_at trace i) || (write && (number_at trace i == length old.kept.items)))
      adds = notes.adds (number_at trace i) (low_number i is)

      told : has notes.own (number_at trace i) ≡ true → IsUpTo trace i j
      told it_has =
          elim (or_cases (has set (number_at trace i)) (write && (number_at trace i == length old.kept.items)) (sym adds ∙ it_has)) [
            | inl before ↦ inr ((tells.before i is).0 before)
            | inr here ↦
                let both = and_parts write (number_at trace i == length old.kept.items) here in
                inl (own_number trace i j is (writes_here ∙ both.0)
                (eqb-true (number_at trace i) (length old.kept.items) both.1 ∙ knows.count))
          ]

      untold : IsUpTo trace i j → has notes.own (number_at trace i) ≡ true
      untold upto =
          adds
          ∙ elim upto [
            | inl same ↦
                or_right (has set (number_at trace i)) (write && (number_at trace i == length old.kept.items))
                (and_from write (number_at trace i == length old.kept.items) (sym writes_here ∙ ap (writes_at trace) (sym same) ∙ is)
                (eq-eqb (number_at trace i) (length old.kept.items) (ap (number_at trace) same ∙ sym knows.count)))
            | inr before ↦
                or_left (has set (number_at trace i)) (write && (number_at trace i == length old.kept.items)) ((tells.before i is).1 before)
          ]

  -- ---- what is kept

  as_many : (t : Bool) → length (cond t (notes.own ∷ []) []) ≡ length (cond t (j ∷ []) [])
  as_many true = refl
  as_many false = refl

  count_more : length new.kept.items ≡ number_at trace (j + 1)
  count_more =
      ap length notes.kept
      ∙ length-append old.kept.items (cond write (notes.own ∷ []) [])
      ∙ ap (λ (n : ℕ). n + length (cond write (notes.own ∷ []) [])) knows.count
      ∙ ap (λ (n : ℕ). number_at trace j + n) (as_many write)
      ∙ sym (number_more trace j write writes_here)

  front : (k : ℕ) → writes_at trace k ≡ true → k < j
      → slice_get new.kept.items (number_at trace k) ≡ slice_get old.kept.items (number_at trace k)
  front k is low =
      let before = number_before trace k j is low in
      let count = knows.count in
      ap (λ (sets : List (List ℕ)). slice_get sets (number_at trace k)) notes.kept
      ∙ slice_get_left old.kept.items (cond write (notes.own ∷ []) []) (number_at trace k) (omega (arith, before, count))

  last : write ≡ true → slice_get new.kept.items (number_at trace j) ≡ Some notes.own
  last is =
      ap (slice_get new.kept.items) (sym knows.count)
      ∙ ap (λ (sets : List (List ℕ)). slice_get sets (length old.kept.items))
      (notes.kept ∙ ap (λ (t : Bool). old.kept.items ++ cond t (notes.own ∷ []) []) is)
      ∙ item_last old.kept.items notes.own

  kept_more : (i k : ℕ) → writes_at trace i ≡ true → writes_at trace k ≡ true → k < j + 1
      → has_in (slice_get new.kept.items (number_at trace k)) (number_at trace i) ≡ true ↔ IsUpTo trace i k
  kept_more i k is other low =
      elim (cases_lt k j) [
        | inl less ↦
            let same = ap (λ found. has_in found (number_at trace i)) (front k other less) in
            let was = knows.kept i k is other less in
            (λ it_has. was.0 (sym same ∙ it_has), λ upto. same ∙ was.1 upto)
        | inr past ↦
            let here : j ≡ k = omega (arith, low, past) in
            let write_here : write ≡ true = sym writes_here ∙ ap (writes_at trace) here ∙ other in
            subst (λ (m : ℕ). has_in (slice_get new.kept.items (number_at trace m)) (number_at trace i) ≡ true ↔ IsUpTo trace i m) here
            (subst (λ (found : Option (List ℕ)). has_in found (number_at trace i) ≡ true ↔ IsUpTo trace i j) (sym (last write_here))
            (own_is i is))
      ]

  -- ---- what came by passages

  passed_more : (i : ℕ) (q : Passage) → writes_at trace i ≡ true
      → has_in (tree.get passage_cmp new.passed q) (number_at trace i) ≡ true ↔ HasPassed trace (j + 1) q i
  passed_more i q is = (came, came_by)
    where
      came : has_in (tree.get passage_cmp new.passed q) (number_at trace i) ≡ true → HasPassed trace (j + 1) q i
      came it_has =
          elim (or_cases (has_in (tree.get passage_cmp old.passed q) (number_at trace i)) (feeds q e && has notes.own (number_at trace i))
          (sym (notes.passed q (number_at trace i)) ∙ it_has)) [
            | inl earlier ↦
                let its : HasPassed trace j q i = (knows.passed i q is).0 earlier in
                let low = its.low in
                record {
                  place = its.place;
                  entry = its.entry;
                  there = its.there;
                  low = omega (arith, low);
                  feeds = its.feeds;
                  upto = its.upto;
                }
            | inr here ↦
                let both = and_parts (feeds q e) (has notes.own (number_at trace i)) here in
                record { place = j; entry = e; there = at; low = omega arith; feeds = both.0; upto = (own_is i is).0 both.1 }
          ]

      came_by : HasPassed trace (j + 1) q i → has_in (tree.get passage_cmp new.passed q) (number_at trace i) ≡ true
      came_by its =
          notes.passed q (number_at trace i)
          ∙ elim (cases_lt its.place j) [
            | inl less ↦
                or_left (has_in (tree.get passage_cmp old.passed q) (number_at trace i)) (feeds q e && has notes.own (number_at trace i))
                ((knows.passed i q is).1
                (record { place = its.place; entry = its.entry; there = its.there; low = less; feeds = its.feeds; upto = its.upto }))
            | inr past ↦
                let low = its.low in
                let here : its.place ≡ j = omega (arith, low, past) in
                let same : its.entry ≡ e = same_at trace j its.entry e (ap (slice_get trace) (sym here) ∙ its.there) at in
                or_right (has_in (tree.get passage_cmp old.passed q) (number_at trace i)) (feeds q e && has notes.own (number_at trace i))
                (and_from (feeds q e) (has notes.own (number_at trace i)) (ap (feeds q) (sym same) ∙ its.feeds)
                ((own_is i is).1 (subst (IsUpTo trace i) here its.upto)))
          ]

  pub knows_more : KnowsCauses trace (j + 1) new
  knows_more = record {
    closed = subst (λ (r : ℕ). AreClosed r new) tells.room notes.closed;
    count = count_more;
    kept = kept_more;
    passed = passed_more;
  }

-- ---- what is kept of reads

module _ (trace : List Entry) (j : ℕ) (e : Entry) (at : slice_get trace j ≡ Some e) (set : List ℕ) (tells : TellsBefore trace j set) where
  kept_by : (t : Bool) → words.reads e.call ≡ t → IsKeptOf trace j (cond t (Some set) None)
  kept_by true is = tells
  kept_by false is = is_at_entry (λ a. words.reads a.call) trace j e at ∙ is

  pub its_kept : (kept : Option (List ℕ)) → kept ≡ cond (words.reads e.call) (Some set) None → IsKeptOf trace j kept
  its_kept kept is = subst (IsKeptOf trace j) (sym is) (kept_by (words.reads e.call) refl)

abbrev pub AreKept : List Entry → List (Option (List ℕ)) → Type 0
AreKept trace sets = (j : ℕ) (kept : Option (List ℕ)) → slice_get sets j ≡ Some kept → IsKeptOf trace j kept

pub each_more : (trace : List Entry) (j : ℕ) (sets new : List (Option (List ℕ))) (kept : Option (List ℕ)) → new ≡ sets ++ kept ∷ []
    → length sets ≡ j → AreKept trace sets → IsKeptOf trace j kept → (length new ≡ j + 1) × AreKept trace new
each_more trace j sets new kept more count each is = (count_more, λ k its there. by_place k its there)
  where
    longer : length new ≡ length sets + 1
    longer = ap length more ∙ length-append sets (kept ∷ [])

    count_more : length new ≡ j + 1
    count_more = omega (arith, longer, count)

    by_place : (k : ℕ) (its : Option (List ℕ)) → slice_get new k ≡ Some its → IsKeptOf trace k its
    by_place k its there =
        elim (cases_lt k (length sets)) [
          | inl low ↦
              each k its (sym (ap (λ (all : List (Option (List ℕ))). slice_get all k) more ∙ slice_get_left sets (kept ∷ []) k low) ∙ there)
          | inr past ↦
              let within = slice_get_within new k its there in
              let here : k ≡ length sets = omega (arith, longer, within, past) in
              let last : slice_get new k ≡ Some kept =
              ap (slice_get new) here ∙ ap (λ (all : List (Option (List ℕ))). slice_get all (length sets)) more ∙ item_last sets kept in
              let same : kept ≡ its = same_Some kept its (sym last ∙ there) in
              subst (IsKeptOf trace k) same (subst (λ (m : ℕ). IsKeptOf trace m kept) (sym (here ∙ count)) is)
        ]
