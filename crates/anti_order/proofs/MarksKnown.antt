-- The places of marks, where the marks of a trace are known.
use Rattle.std.proofs.Common.{◌≡◌, ℕ, ◌+◌, ◌<◌, ◌++◌, List, [], ◌∷◌, length, get_or, map, refl, sym, ap, ◌∙◌, subst}
use Rattle.std.specs.Prelude.{All, IsSome, None, Option, Some, take}
use Rattle.std.proofs.lemmas.List.{map_more, map_push}
use Rattle.std.proofs.lemmas.List.Elements.{All-cons, All-nil}
use Rattle.anti_kind.specs.declared.entry.Entry.{Entry}
use Rattle.anti_trace.specs.declared.mark.Mark.{Mark}
use Rattle.anti_past.specs.declared.marks.PlaceByMark.{PlaceByMark}
use Rattle.anti_past.specs.inner.Marks.{KnowsPlaces, place_known}
use Rattle.anti_order.specs.Answers.{AreMarksOf, mark_at}

module _ (trace : List Entry) (known : PlaceByMark) (knows : KnowsPlaces trace known) where
  -- each mark of an entry is known
  pub all_known : (places : List ℕ) (marks : List Mark) → AreMarksOf trace places marks → All (λ m. IsSome (place_known known m)) marks
  all_known [] [] are = All-nil (λ (m : Mark). IsSome (place_known known m))
  all_known [] (m ∷ ms) are = absurd (cc)
  all_known (i ∷ is) [] are = absurd (cc)
  all_known (i ∷ is) (m ∷ ms) are =
      let here : mark_at trace i ≡ Some m = cc in
      let rest : AreMarksOf trace is ms = cc in
      All-cons (λ x. IsSome (place_known known x)) m ms (subst (λ (o : Option ℕ). IsSome o) (sym ((knows m i).1 here)) refl) (all_known is ms rest)

  -- and the places that are known are those of the entries
  pub same_places : (places found : List ℕ) (marks : List Mark) → AreMarksOf trace places marks → map Some found ≡ map (place_known known) marks
      → found ≡ places
  same_places [] [] marks are is = refl
  same_places [] (j ∷ js) [] are is = absurd (cc)
  same_places [] (j ∷ js) (m ∷ ms) are is = absurd (cc)
  same_places (i ∷ is) [] [] are its = absurd (cc)
  same_places (i ∷ is) [] (m ∷ ms) are its = absurd (cc)
  same_places (i ∷ is) (j ∷ js) [] are its = absurd (cc)
  same_places (i ∷ is) (j ∷ js) (m ∷ ms) are its =
      let here : mark_at trace i ≡ Some m = cc in
      let rest : AreMarksOf trace is ms = cc in
      let place : place_known known m ≡ Some i = (knows m i).1 here in
      let first : Some j ≡ place_known known m = cc in
      let others : map Some js ≡ map (place_known known) ms = cc in
      let same : j ≡ i = cc in
      ap (λ (x : ℕ). x ∷ js) same ∙ ap (λ (xs : List ℕ). i ∷ xs) (same_places is js ms rest others)

-- ---- one mark more

pub never_none : (o : Option ℕ) → IsSome o → None ≡ o → ⊥
never_none None some is = absurd (cc)
never_none (Some x) some is = absurd (cc)

pub places_more : (known : PlaceByMark) (marks : List Mark) (k : ℕ) (d : Mark) (found : List ℕ) (i : ℕ) → k < length marks
    → map Some found ≡ map (place_known known) (take k marks) → Some i ≡ place_known known (get_or marks k d)
    → map Some (found ++ i ∷ []) ≡ map (place_known known) (take (k + 1) marks)
places_more known marks k d found i low so_far is =
    map_push Some found i
    ∙ ap (λ (os : List (Option ℕ)). os ++ Some i ∷ []) so_far
    ∙ ap (λ (o : Option ℕ). map (place_known known) (take k marks) ++ o ∷ []) is
    ∙ sym (map_more (place_known known) marks k d low)
