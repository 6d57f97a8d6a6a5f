-- Texts that stand one behind another in one text, and the places where they end.
use Rattle.std.proofs.Common.{◌≡◌, ℕ, ◌+◌, ◌-◌, ◌<◌, ◌≤◌, zero, suc, List, [], ◌∷◌, ◌++◌, length, take, drop, get_or, refl, sym, ap, ◌∙◌, arith}
use Rattle.std.specs.List.{concat}
use Rattle.std.proofs.lemmas.List.{drop-drop, take_all, length-drop, length-append, take-append-le, drop-append-le}
use Rattle.std.proofs.Math.Seq.{take-add, drop-append_seam}
use Rattle.anti_text.specs.inner.Cut.{cut, Rise, edge}

-- as many texts as ends
pub cut_length : (text : List ℕ) (start : ℕ) (ends : List ℕ) → length (cut text start ends) ≡ length ends
cut_length text start [] = refl
cut_length text start (end ∷ ends) = ap suc (cut_length text end ends)

-- the last place is none before the first, and the places between ascend
rise_le : (start : ℕ) (ends : List ℕ) (last : ℕ) → Rise start ends last → start ≤ last
rise_le start [] last r = omega (arith, r)
rise_le start (end ∷ ends) last r = omega (arith, r.0, rise_le end ends last r.1)

edge_le : (start : ℕ) (ends : List ℕ) (last n : ℕ) → Rise start ends last → start ≤ edge start ends n
edge_le start ends last zero r = omega arith
edge_le start [] last (suc n) r = omega arith
edge_le start (end ∷ ends) last (suc n) r = omega (arith, r.0, edge_le end ends last n r.1)

pub edge_within : (start : ℕ) (ends : List ℕ) (last n : ℕ) → Rise start ends last → edge start ends n ≤ last
edge_within start ends last zero r = rise_le start ends last r
edge_within start [] last (suc n) r = omega (arith, r)
edge_within start (end ∷ ends) last (suc n) r = edge_within end ends last n r.1

pub edge_ascends : (start : ℕ) (ends : List ℕ) (last from to : ℕ) → Rise start ends last → from ≤ to → edge start ends from ≤ edge start ends to
edge_ascends start ends last zero to r h = edge_le start ends last to r
edge_ascends start ends last (suc from) zero r h = absurd (omega (arith, h))
edge_ascends start [] last (suc from) (suc to) r h = omega arith
edge_ascends start (end ∷ ends) last (suc from) (suc to) r h = edge_ascends end ends last from to r.1 (omega (arith, h))

-- a text begins where the one before ends
ends_at : (start : ℕ) (ends : List ℕ) (before : ℕ) → before < length ends → get_or ends before 0 ≡ edge start ends (suc before)
ends_at start [] before within = absurd (omega (arith, within))
ends_at start (end ∷ ends) zero within = refl
ends_at start (end ∷ ends) (suc before) within = ends_at end ends before (omega (arith, within))

pub edge_at : (start : ℕ) (ends : List ℕ) (n : ℕ) → 0 < n → n ≤ length ends → get_or ends (n - 1) 0 ≡ edge start ends n
edge_at start ends n some within =
    let next : suc (n - 1) ≡ n = omega (arith, some) in
    ends_at start ends (n - 1) (omega (arith, some, within)) ∙ ap (λ (m : ℕ). edge start ends m) next

-- a part of the text, and the one behind it
parts : (text : List ℕ) (a b c : ℕ) → a ≤ b → b ≤ c → take (b - a) (drop a text) ++ take (c - b) (drop b text) ≡ take (c - a) (drop a text)
parts text a b c first next =
    let whole : c - a ≡ (b - a) + (c - b) = omega (arith, first, next) in
    let place : a + (b - a) ≡ b = omega (arith, first) in
    let behind : drop (b - a) (drop a text) ≡ drop b text = drop-drop (b - a) a text ∙ ap (λ (n : ℕ). drop n text) place in
    sym (ap (λ (n : ℕ). take n (drop a text)) whole ∙ take-add (b - a) (c - b) (drop a text) ∙ ap (λ (t : List ℕ). take (b - a) (drop a text) ++ take (c - b) t) behind)

-- the first texts as one
front_is : (text : List ℕ) (start : ℕ) (ends : List ℕ) (last n : ℕ) → Rise start ends last
    → concat (take n (cut text start ends)) ≡ take (edge start ends n - start) (drop start text)
front_is text start ends last zero r = let none : start - start ≡ 0 = omega arith in sym (ap (λ (m : ℕ). take m (drop start text)) none)
front_is text start [] last (suc n) r = let none : start - start ≡ 0 = omega arith in sym (ap (λ (m : ℕ). take m (drop start text)) none)
front_is text start (end ∷ ends) last (suc n) r =
    ap (λ (t : List ℕ). take (end - start) (drop start text) ++ t) (front_is text end ends last n r.1)
    ∙ parts text start end (edge end ends n) r.0 (edge_le end ends last n r.1)

-- the texts of a run as one
counted : (text : List ℕ) (start : ℕ) (ends : List ℕ) (last from to n : ℕ) → Rise start ends last → to ≡ from + n
    → concat (take n (drop from (cut text start ends))) ≡ take (edge start ends to - edge start ends from) (drop (edge start ends from) text)
counted text start ends last zero to n r e =
    let all : n ≡ to = omega (arith, e) in
    ap (λ (m : ℕ). concat (take m (cut text start ends))) all ∙ front_is text start ends last to r
counted text start ends last (suc from) zero n r e = absurd (omega (arith, e))
counted text start [] last (suc from) (suc to) zero r e = let none : start - start ≡ 0 = omega arith in sym (ap (λ (m : ℕ). take m (drop start text)) none)
counted text start [] last (suc from) (suc to) (suc n) r e = let none : start - start ≡ 0 = omega arith in sym (ap (λ (m : ℕ). take m (drop start text)) none)
counted text start (end ∷ ends) last (suc from) (suc to) n r e = counted text end ends last from to n r.1 (omega (arith, e))

pub run_is : (text : List ℕ) (start : ℕ) (ends : List ℕ) (last from to : ℕ) → Rise start ends last → from ≤ to
    → concat (take (to - from) (drop from (cut text start ends))) ≡ take (edge start ends to - edge start ends from) (drop (edge start ends from) text)
run_is text start ends last from to r h = counted text start ends last from to (to - from) r (omega (arith, h))

-- one more text behind the others
cut_more : (text more : List ℕ) (start : ℕ) (ends : List ℕ) → Rise start ends (length text)
    → cut (text ++ more) start (ends ++ length (text ++ more) ∷ []) ≡ cut text start ends ++ more ∷ []
cut_more text more start [] r =
    let behind : drop start (text ++ more) ≡ more = ap (λ (n : ℕ). drop n (text ++ more)) r ∙ drop-append_seam text more in
    let many : length (text ++ more) - start ≡ length more = omega (arith, r, length-append text more) in
    let all : take (length more) more ≡ more = take_all (length more) more (omega arith) in
    ap (λ (t : List ℕ). t ∷ []) (ap (λ (t : List ℕ). take (length (text ++ more) - start) t) behind ∙ ap (λ (n : ℕ). take n more) many ∙ all)
cut_more text more start (end ∷ ends) r =
    let within : end ≤ length text = rise_le end ends (length text) r.1 in
    let begun : drop start (text ++ more) ≡ drop start text ++ more = drop-append-le start text more (omega (arith, r.0, within)) in
    let long : end - start ≤ length (drop start text) = omega (arith, within, length-drop start text) in
    let head : take (end - start) (drop start (text ++ more)) ≡ take (end - start) (drop start text) =
    ap (λ (t : List ℕ). take (end - start) t) begun ∙ take-append-le (end - start) (drop start text) more long in
    ap (λ (t : List ℕ). t ∷ cut (text ++ more) end (ends ++ length (text ++ more) ∷ [])) head
    ∙ ap (λ (ts : List (List ℕ)). take (end - start) (drop start text) ∷ ts) (cut_more text more end ends r.1)

rise_more : (start : ℕ) (ends : List ℕ) (last next : ℕ) → Rise start ends last → last ≤ next → Rise start (ends ++ next ∷ []) next
rise_more start [] last next r more = (omega (arith, r, more), refl)
rise_more start (end ∷ ends) last next r more = (r.0, rise_more end ends last next r.1 more)

-- the same by what the text and the ends became
pub risen : (text more new ends items : List ℕ) → new ≡ text ++ more → items ≡ ends ++ length new ∷ [] → Rise 0 ends (length text) → Rise 0 items (length new)
risen text more new ends items written ended r =
    rw (ended, written) (rise_more 0 ends (length text) (length (text ++ more)) r (omega (arith, length-append text more)))

pub closed : (text more new ends items : List ℕ) → new ≡ text ++ more → items ≡ ends ++ length new ∷ [] → Rise 0 ends (length text)
    → cut new 0 items ≡ cut text 0 ends ++ more ∷ []
closed text more new ends items written ended r = rw (ended, written) (cut_more text more 0 ends r)
