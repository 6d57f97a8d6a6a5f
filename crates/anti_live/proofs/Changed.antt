-- A list of which each item is changed in its place, one after another.
use Rattle.std.proofs.Common.{◌≡◌, ℕ, ◌+◌, ◌<◌, ◌≤◌, List, length, take, get_or, refl, sym, ap, subst, ◌∙◌, arith}
use Rattle.std.specs.Prelude.{Some, slice_get, slice_set}
use Rattle.std.specs.List.{AllZip}
use Rattle.std.proofs.lemmas.Grind.{drop_more_same}
use Rattle.std.proofs.lemmas.List.{drop-set-lt, get_or-drop, length-set, take_all, take_more_set}
use Rattle.std.proofs.lemmas.List.Elements.{AllZip-get_or, all_zip_more}
use Rattle.std.proofs.lemmas.Option.{get_or_from_slice_get, slice_get_within}
use Rattle.anti_live.specs.inner.Changing.{HaveChanged}

module _ {X : Type 0} (R : X → X → Type 0) where
  pub changed_first : (old : List X) → HaveChanged R old 0 old
  changed_first old = record { long = refl; behind = tt; ahead = refl }

  module _ (old : List X) (at : ℕ) (now : List X) (low : at < length old) (changed : HaveChanged R old at now) where
    -- the next one is as it was
    pub next_same : (next : X) → next ≡ get_or now at next → next ≡ get_or old at next
    next_same next is =
        let here : at ≡ at + 0 = omega arith in
        is ∙ ap (λ (k : ℕ). get_or now k next) here ∙ sym (get_or-drop at now 0 next) ∙ ap (λ (xs : List X). get_or xs 0 next) changed.ahead
        ∙ get_or-drop at old 0 next ∙ ap (λ (k : ℕ). get_or old k next) (sym here)

    pub changed_more : (was next : X) → was ≡ get_or now at was → R was next → HaveChanged R old (at + 1) (slice_set now at next)
    changed_more was next is by =
        let long = changed.long in
        record {
          long = length-set now at next ∙ changed.long;
          behind = subst (AllZip R (take (at + 1) old)) (sym (take_more_set now at next (omega arith)))
              (all_zip_more R old (take at now) at was next low (next_same was is) changed.behind by);
          ahead = drop-set-lt (at + 1) now at next (omega arith) ∙ drop_more_same now old at changed.ahead;
        }

  pub changed_all : (old : List X) (at : ℕ) (now : List X) → length old ≤ at → HaveChanged R old at now → AllZip R old now
  changed_all old at now past changed =
      let long = changed.long in
      subst (λ (z : List X × List X). AllZip R z.0 z.1) (λ i. (take_all at old past i, take_all at now (omega arith) i)) changed.behind

  -- what stands at a place of both lists
  pub zipped_at : (xs ys : List X) → AllZip R xs ys → (o : ℕ) (x y : X) → slice_get xs o ≡ Some x → slice_get ys o ≡ Some y → R x y
  zipped_at xs ys zipped o x y first second =
      subst (λ (z : X × X). R z.0 z.1) (λ i. (get_or_from_slice_get xs o x x first i, get_or_from_slice_get ys o y x second i))
      (AllZip-get_or R xs ys o x x zipped (slice_get_within xs o x first))
