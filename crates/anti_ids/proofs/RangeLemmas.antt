-- Ranges of lists of ids.
use Rattle.std.proofs.Common.{◌≡◌, ℕ, ◌+◌, ◌-◌, ◌≤◌, List, ◌∷◌, length, take, drop, sym, ap, ◌∙◌, arith}
use Rattle.std.proofs.lemmas.List.{drop-drop, drop-take, length-append, length-drop, length-take-le, take-take, take_all}
use Rattle.anti_ids.specs.declared.id.WriteId.{WriteId}
use Rattle.anti_ids.specs.inner.Parts.{put_at}

pub length_range : (ids : List WriteId) (from len : ℕ) → from + len ≤ length ids → length (take len (drop from ids)) ≡ len
length_range ids from len within = length-take-le len (drop from ids) (omega (arith, within, length-drop from ids))

-- a range of a range
pub range_range : (ids : List WriteId) (start most from len : ℕ) → from + len ≤ most → take len (drop (start + from) ids) ≡ take len (drop from (take most (drop start ids)))
range_range ids start most from len within =
    let behind = drop start ids in
    let sum : from + (most - from) ≡ most = omega (arith, within) in
    ap (λ (x : List WriteId). take len x) (sym (drop-drop from start ids))
    ∙ sym (take-take len (most - from) (drop from behind) (omega (arith, within)))
    ∙ ap (λ (x : List WriteId). take len x) (sym (drop-take from (most - from) behind) ∙ ap (λ (n : ℕ). drop from (take n behind)) sum)

-- all that there is
pub range_all : (ids : List WriteId) (from len : ℕ) → length ids ≡ len → from ≡ 0 → take len (drop from ids) ≡ ids
range_all ids from len all none = ap (λ (n : ℕ). take len (drop n ids)) none ∙ take_all len ids (omega (arith, all))

pub length_put : (ids : List WriteId) (at : ℕ) (i : WriteId) → at ≤ length ids → length (put_at at i ids) ≡ length ids + 1
length_put ids at i within = omega (arith, within, length-append (take at ids) (i ∷ drop at ids), length-take-le at ids within, length-drop at ids)
