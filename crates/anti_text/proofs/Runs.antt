-- A run with one more text, and another run behind it.
use Rattle.std.proofs.Common.{◌≡◌, ℕ, ◌+◌, ◌-◌, ◌<◌, ◌≤◌, zero, suc, List, [], ◌∷◌, ◌++◌, Some, length, map, take, drop, get_or, slice_get, option_map, sym, ap, ◌∙◌, arith}
use Rattle.std.specs.List.{concat, flat_map}
use Rattle.std.proofs.lemmas.List.{append-nil, append_assoc, get_or-drop, length-drop}
use Rattle.std.proofs.lemmas.List.Folds.{concat-append}
use Rattle.std.proofs.lemmas.Option.{get_or_from_slice_get, slice_get-map, slice_get_within}
use Rattle.std.proofs.Math.Seq.{take-suc}

-- the texts from one on, and one more
more_is : (pieces : List (List ℕ)) (from n : ℕ) → from + n < length pieces
    → concat (take (suc n) (drop from pieces)) ≡ concat (take n (drop from pieces)) ++ get_or pieces (from + n) []
more_is pieces from n within =
    let left : n < length (drop from pieces) = omega (arith, within, length-drop from pieces) in
    let next : get_or (drop from pieces) n [] ≡ get_or pieces (from + n) [] = get_or-drop from pieces n [] in
    ap concat (take-suc (drop from pieces) n [] left)
    ∙ concat-append (take n (drop from pieces)) (get_or (drop from pieces) n [] ∷ [])
    ∙ ap (λ (t : List ℕ). concat (take n (drop from pieces)) ++ t) (append-nil (get_or (drop from pieces) n []) ∙ next)

-- behind what was written
pub one_more : (out : List ℕ) (pieces : List (List ℕ)) (from to : ℕ) → from ≤ to → to < length pieces
    → out ++ concat (take ((to + 1) - from) (drop from pieces)) ≡ (out ++ concat (take (to - from) (drop from pieces))) ++ get_or pieces to []
one_more out pieces from to ascends within =
    let count : (to + 1) - from ≡ suc (to - from) = omega (arith, ascends) in
    let place : from + (to - from) ≡ to = omega (arith, ascends) in
    let more : concat (take ((to + 1) - from) (drop from pieces)) ≡ concat (take (to - from) (drop from pieces)) ++ get_or pieces to [] =
    ap (λ (n : ℕ). concat (take n (drop from pieces))) count
    ∙ more_is pieces from (to - from) (omega (arith, ascends, within))
    ∙ ap (λ (n : ℕ). concat (take (to - from) (drop from pieces)) ++ get_or pieces n []) place in
    ap (λ (t : List ℕ). out ++ t) more ∙ sym (append_assoc out (concat (take (to - from) (drop from pieces))) (get_or pieces to []))

-- a run of one text
pub another : (pieces : List (List ℕ)) (number : ℕ) → number < length pieces → concat (take ((number + 1) - number) (drop number pieces)) ≡ get_or pieces number []
another pieces number within =
    let one : (number + 1) - number ≡ suc 0 = omega arith in
    let place : number + 0 ≡ number = omega arith in
    ap (λ (n : ℕ). concat (take n (drop number pieces))) one
    ∙ more_is pieces number 0 (omega (arith, within)) ∙ ap (λ (n : ℕ). get_or pieces n []) place

-- the text that is kept of an item
pub is_kept : {X : Type 0} (f : X → List ℕ) (pieces : List (List ℕ)) (items : List X) (number : ℕ) (x : X)
    → pieces ≡ map f items → slice_get items number ≡ Some x → slice_get pieces number ≡ Some (f x)
is_kept f pieces items number x kept there =
    ap (λ (ps : List (List ℕ)). slice_get ps number) kept ∙ slice_get-map f items number ∙ ap (option_map f) there

-- the first of the items behind a number, and those behind it
pub first_behind : {X : Type 0} (number : ℕ) (items : List X) (x : X) (xs : List X) → drop number items ≡ x ∷ xs
    → (slice_get items number ≡ Some x) × (drop (suc number) items ≡ xs)
first_behind {X} zero items x xs is = (ap (λ (ys : List X). slice_get ys 0) is, ap (λ (ys : List X). drop 1 ys) is)
first_behind (suc n) [] x xs is = absurd (cc)
first_behind (suc n) (y ∷ ys) x xs is = first_behind n ys x xs is

-- Of items that are left the first goes over to the run before them, where its text is kept behind that.
pub goes_over : {X : Type 0} (f : X → List ℕ) (pieces : List (List ℕ)) (from to : ℕ) (x : X) (left rest : List X)
    → from ≤ to → slice_get pieces to ≡ Some (f x) → left ≡ x ∷ rest
    → concat (take ((to + 1) - from) (drop from pieces)) ++ flat_map f rest ≡ concat (take (to - from) (drop from pieces)) ++ flat_map f left
goes_over {X} f pieces from to x left rest ascends there is =
    let run = concat (take (to - from) (drop from pieces)) in
    ap (λ (t : List ℕ). t ++ flat_map f rest)
    (one_more [] pieces from to ascends (slice_get_within pieces to (f x) there)
    ∙ ap (λ (t : List ℕ). run ++ t) (get_or_from_slice_get pieces to (f x) [] there))
    ∙ append_assoc run (f x) (flat_map f rest)
    ∙ ap (λ (xs : List X). run ++ flat_map f xs) (sym is)
