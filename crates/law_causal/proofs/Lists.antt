-- Lists that are cut at an item, and what a test keeps of them.
use Rattle.std.proofs.Common.{◌≡◌, ℕ, zero, suc, ◌+◌, ◌<◌, ◌++◌, Bool, true, false, List, [], ◌∷◌, length, refl, sym, ap, ◌∙◌, arith}
use Rattle.std.specs.Prelude.{Contains, Some, slice_get, take, drop}
use Rattle.std.specs.List.{filter}
use Rattle.std.proofs.lemmas.Bool.{cond-true, cond-false}
use Rattle.std.proofs.lemmas.List.{append_assoc, length-append, length-take, take-append-drop}
use Rattle.std.proofs.lemmas.List.Elements.{filter-append}
use Rattle.std.proofs.lemmas.Option.{slice_get-get_or, slice_get_read}
use Rattle.std.proofs.Math.Seq.{get_or-append_seam, take-append_seam}
use Rattle.anti_trace.proofs.Filters.{IsKeptAt, filter_at}

-- ---- places

-- a list is what stands before a place, what stands there, and the rest
pub cut_at : {X : Type 0} (xs : List X) (j : ℕ) (x : X) → slice_get xs j ≡ Some x → xs ≡ take j xs ++ x ∷ drop (suc j) xs
cut_at [] j x at = absurd (cc)
cut_at (y ∷ ys) zero x at = let same : y ≡ x = cc in ap (λ z. z ∷ ys) same
cut_at (y ∷ ys) (suc j) x at = ap (λ zs. y ∷ zs) (cut_at ys j x at)

-- one place has one item
pub same_at : {X : Type 0} (xs : List X) (j : ℕ) (x y : X) → slice_get xs j ≡ Some x → slice_get xs j ≡ Some y → x ≡ y
same_at xs j x y one other = cc

-- an element is at a place
pub place_of : {X : Type 0} (xs : List X) (x : X) → Contains xs x → (i : ℕ) × (slice_get xs i ≡ Some x)
place_of xs x (i, lt, is) = (i, slice_get_read xs (length xs) i x refl lt (sym is))

-- and the list can be cut there
pub cut_of : {X : Type 0} (xs : List X) (x : X) → Contains xs x → (before after : List X) × (xs ≡ before ++ x ∷ after)
cut_of xs x among = let place = place_of xs x among in (take place.0 xs, drop (suc place.0) xs, cut_at xs place.0 x place.1)

-- ---- what a test keeps

-- the item at a place of the list that passes the test, with what the test keeps of the items before it
pub record IsKept {X : Type 0} (p : X → Bool) (xs : List X) (j : ℕ) (before : List X) (a : X) : Type 0 where
  pub place : ℕ
  pub early : place < j
  pub there : slice_get xs place ≡ Some a
  pub passes : p a ≡ true
  pub kept : before ≡ filter p (take place xs)

module _ {X : Type 0} (p : X → Bool) where
  -- Of what the test keeps of the items before place j, each stands at a place before j, and those before it are kept of the items before
  -- this place.
  pub kept_at : (xs : List X) (j : ℕ) (before : List X) (a : X) (after : List X) → filter p (take j xs) ≡ before ++ a ∷ after → IsKept p xs j before a
  kept_at xs j before a after is =
      let at : IsKeptAt p (take j xs) before a after = filter_at p (take j xs) before a after is in
      let rest : List X = at.after ++ drop j xs in
      let count : length (take j xs) ≡ length at.before + suc (length at.after) = ap length at.cut ∙ length-append at.before (a ∷ at.after) in
      let whole : xs ≡ at.before ++ a ∷ rest =
      sym (take-append-drop j xs) ∙ ap (λ ys. ys ++ drop j xs) at.cut ∙ append_assoc at.before (a ∷ at.after) (drop j xs) in
      let here : slice_get (at.before ++ a ∷ rest) (length at.before) ≡ Some a =
      slice_get-get_or (at.before ++ a ∷ rest) (length at.before) a (let more = length-append at.before (a ∷ rest) in omega arith)
      ∙ ap Some (get_or-append_seam at.before a rest a) in
      record {
        place = length at.before;
        early = let most = length-take j xs in omega arith;
        there = ap (λ ys. slice_get ys (length at.before)) whole ∙ here;
        passes = at.passes;
        kept = sym at.front_is ∙ ap (filter p) (sym (take-append_seam at.before (a ∷ rest)) ∙ ap (take (length at.before)) (sym whole));
      }

  -- What the test keeps of the items before a later place goes on with the item at an earlier one, where this passes.
  pub kept_between : (xs : List X) (j k : ℕ) (x : X) → slice_get xs j ≡ Some x → p x ≡ true → j < k
      → (more : List X) × (filter p (take k xs) ≡ filter p (take j xs) ++ x ∷ more)
  kept_between xs j zero x at passes less = absurd (omega arith)
  kept_between [] j (suc k) x at passes less = absurd (cc)
  kept_between (y ∷ ys) zero (suc k) x at passes less =
      let same : y ≡ x = cc in
      (filter p (take k ys), cond-true _ _ _ (ap p same ∙ passes) ∙ ap (λ z. z ∷ filter p (take k ys)) same)
  kept_between (y ∷ ys) (suc j) (suc k) x at passes less =
      let rest = kept_between ys j k x at passes (omega arith) in (rest.0, by_test rest.0 (p y) refl rest.1)
    where
      by_test : (more : List X) (t : Bool) → p y ≡ t → filter p (take k ys) ≡ filter p (take j ys) ++ x ∷ more
          → filter p (take (suc k) (y ∷ ys)) ≡ filter p (take (suc j) (y ∷ ys)) ++ x ∷ more
      by_test more true on is =
          cond-true _ _ _ on ∙ ap (λ zs. y ∷ zs) is ∙ ap (λ zs. zs ++ x ∷ more) (sym (cond-true _ _ _ on))
      by_test more false off is = cond-false _ _ _ off ∙ is ∙ ap (λ zs. zs ++ x ∷ more) (sym (cond-false _ _ _ off))

  -- What the test keeps of a front is a front of all that it keeps.
  pub kept_in_front : (xs : List X) (j : ℕ) → filter p xs ≡ filter p (take j xs) ++ filter p (drop j xs)
  kept_in_front xs j = ap (filter p) (sym (take-append-drop j xs)) ∙ filter-append p (take j xs) (drop j xs)
