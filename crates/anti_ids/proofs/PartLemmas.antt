-- Lists in parts.
use Rattle.std.proofs.Common.{◌≡◌, ℕ, zero, suc, ◌+◌, ◌-◌, ◌<◌, ◌≤◌, ◌++◌, List, [], ◌∷◌, Bool, true, length, take, drop, get_or, set, refl, sym, ap, ◌∙◌, subst, arith}
use Rattle.std.specs.Prelude.{Result, Ok, Err, Some, slice_get, IsTrue, ◌↔◌}
use Rattle.std.specs.declared.cmp.Ordering.{Ordering}
use Rattle.std.specs.declared.cmp.Ordering.TheVariants.{Less, Equal, Greater}
use Rattle.std.specs.Ordering.{is_gt}
use Rattle.std.proofs.Math.Seq.{take-append-add, drop-append-add}
use Rattle.std.proofs.lemmas.List.{append-nil, append_assoc, length-append, get_or_append_left, get_or-append-add, take-append-le, drop-append-le, take-append-drop, take-take, drop_at, length-take-le, drop_more, take_more, set_split}
use Rattle.std.proofs.lemmas.Option.{get_or_from_slice_get, slice_get-get_or}
use Rattle.anti_ids.specs.Each.{Each}
use Rattle.anti_ids.specs.declared.id.WriteId.{WriteId}
use Rattle.anti_ids.specs.Ids.{id_cmp}
use Rattle.anti_ids.specs.Invariants.{IsAscending}
use Rattle.anti_ids.specs.inner.Parts.{joined, put_at, put_in, shifted}
use Rattle.anti_ids.specs.inner.Places.{IsPlace}
use Rattle.anti_ids.proofs.IdLemmas.{id_total, turned, turned_back, each_weaker, each_further}
use Rattle.anti_ids.proofs.Places.{above_behind, stands_at, goes_to}

pub joined-append : (ps qs : List (List WriteId)) → joined (ps ++ qs) ≡ joined ps ++ joined qs
joined-append [] qs = refl
joined-append (p ∷ ps) qs = ap (λ (x : List WriteId). p ++ x) (joined-append ps qs) ∙ sym (append_assoc p (joined ps) (joined qs))

-- a part on from one that is not the last
pub joined_more : (ps : List (List WriteId)) (n : ℕ) (d : List WriteId) → n < length ps → joined (take (n + 1) ps) ≡ joined (take n ps) ++ get_or ps n d
joined_more ps n d within =
    ap joined (take_more ps n d within) ∙ joined-append (take n ps) (get_or ps n d ∷ []) ∙ ap (λ (x : List WriteId). joined (take n ps) ++ x) (append-nil (get_or ps n d))

pub joined_behind : (ps : List (List WriteId)) (n : ℕ) (d : List WriteId) → n < length ps → joined (drop n ps) ≡ get_or ps n d ++ joined (drop (n + 1) ps)
joined_behind ps n d within = ap joined (drop_more ps n d within)

-- the whole about one of its parts
pub about : (ps : List (List WriteId)) (n : ℕ) (d : List WriteId) → n < length ps → joined ps ≡ joined (take n ps) ++ (get_or ps n d ++ joined (drop (n + 1) ps))
about ps n d within =
    ap joined (sym (take-append-drop n ps)) ∙ joined-append (take n ps) (drop n ps) ∙ ap (λ (x : List WriteId). joined (take n ps) ++ x) (joined_behind ps n d within)

-- a part in place of another
pub joined-set : (ps : List (List WriteId)) (n : ℕ) (p : List WriteId) → n < length ps → joined (set ps n p) ≡ joined (take n ps) ++ (p ++ joined (drop (n + 1) ps))
joined-set ps n p within =
    let next : suc n ≡ n + 1 = omega arith in
    ap joined (set_split ps n p within) ∙ joined-append (take n ps) (p ∷ drop (suc n) ps) ∙ ap (λ (m : ℕ). joined (take n ps) ++ (p ++ joined (drop m ps))) next

-- One part back, from those up to a number.
module _ (ps : List (List WriteId)) (n : ℕ) (part d : List WriteId) (some : 0 < n) (among : n ≤ length ps) (is : part ≡ get_or ps (n - 1) d) where
  pub step_front : joined (take n ps) ≡ joined (take (n - 1) ps) ++ part
  step_front =
      let last : n ≡ n - 1 + 1 = omega (arith, some) in
      let below : n - 1 < length ps = omega (arith, some, among) in
      ap (λ (m : ℕ). joined (take m ps)) last ∙ joined_more ps (n - 1) d below ∙ ap (λ (x : List WriteId). joined (take (n - 1) ps) ++ x) (sym is)

  pub step_length : length (joined (take (n - 1) ps)) + length part ≡ length (joined (take n ps))
  step_length = sym (ap length step_front ∙ length-append (joined (take (n - 1) ps)) part)

  pub step_behind : joined (drop (n - 1) ps) ≡ part ++ joined (drop n ps)
  step_behind =
      let last : n - 1 + 1 ≡ n = omega (arith, some) in
      let below : n - 1 < length ps = omega (arith, some, among) in
      joined_behind ps (n - 1) d below
      ∙ ap (λ (x : List WriteId). x ++ joined (drop (n - 1 + 1) ps)) (sym is)
      ∙ ap (λ (m : ℕ). part ++ joined (drop m ps)) last

  pub step_whole : joined ps ≡ joined (take (n - 1) ps) ++ (part ++ joined (drop n ps))
  step_whole =
      ap joined (sym (take-append-drop (n - 1) ps))
      ∙ joined-append (take (n - 1) ps) (drop (n - 1) ps)
      ∙ ap (λ (x : List WriteId). joined (take (n - 1) ps) ++ x) step_behind

-- An index of a part, seen from the whole.
module _ (front part back : List WriteId) (k : ℕ) (within : k ≤ length part) where
  pub take_within : take (length front + k) (front ++ (part ++ back)) ≡ front ++ take k part
  take_within = take-append-add front (part ++ back) k ∙ ap (λ (x : List WriteId). front ++ x) (take-append-le k part back within)

  pub drop_within : drop (length front + k) (front ++ (part ++ back)) ≡ drop k part ++ back
  drop_within = drop-append-add front (part ++ back) k ∙ drop-append-le k part back within

  pub put_within : (i : WriteId) → front ++ (put_at k i part ++ back) ≡ put_at (length front + k) i (front ++ (part ++ back))
  put_within i =
      ap (λ (x : List WriteId). front ++ x) (append_assoc (take k part) (i ∷ drop k part) back)
      ∙ sym (append_assoc front (take k part) (i ∷ (drop k part ++ back)))
      ∙ ap (λ (x : List WriteId). x ++ i ∷ (drop k part ++ back)) (sym take_within)
      ∙ ap (λ (x : List WriteId). take (length front + k) (front ++ (part ++ back)) ++ i ∷ x) (sym drop_within)

-- an id of a part, seen from the whole
pub at_within : (front part back : List WriteId) (k : ℕ) (d : WriteId) → k < length part → slice_get (front ++ (part ++ back)) (length front + k) ≡ Some (get_or part k d)
at_within front part back k d within =
    let whole = front ++ (part ++ back) in
    let inside : length front + k < length whole = omega (arith, within, length-append front (part ++ back), length-append part back) in
    slice_get-get_or whole (length front + k) d inside
    ∙ ap (λ (x : WriteId). Some x) (get_or-append-add front (part ++ back) k d ∙ get_or_append_left part back d k within)

-- an id that is put into a part is put into the whole
pub put_whole : (ps : List (List WriteId)) (n k : ℕ) (d : List WriteId) (i : WriteId) → n < length ps → k ≤ length (get_or ps n d)
    → joined (take n ps) ++ (put_at k i (get_or ps n d) ++ joined (drop (n + 1) ps)) ≡ put_in ps n k i
put_whole ps n k d i within inside =
    put_within (joined (take n ps)) (get_or ps n d) (joined (drop (n + 1) ps)) k inside i
    ∙ ap (λ (x : List WriteId). put_at (length (joined (take n ps)) + k) i x) (sym (about ps n d within))

-- two parts in place of one
pub joined_two : (ps : List (List WriteId)) (n : ℕ) (one two : List WriteId) → n < length ps
    → joined (set (take (n + 1) ps ++ two ∷ drop (n + 1) ps) n one) ≡ joined (take n ps) ++ ((one ++ two) ++ joined (drop (n + 1) ps))
joined_two ps n one two within =
    let qs = take (n + 1) ps ++ two ∷ drop (n + 1) ps in
    let size : length (take (n + 1) ps) ≡ n + 1 = length-take-le (n + 1) ps (omega arith) in
    let longer : n < length qs = omega (arith, size, length-append (take (n + 1) ps) (two ∷ drop (n + 1) ps)) in
    let front : take n qs ≡ take n ps = take-append-le n (take (n + 1) ps) (two ∷ drop (n + 1) ps) (omega (arith, size)) ∙ take-take n (n + 1) ps (omega arith) in
    let back : drop (n + 1) qs ≡ two ∷ drop (n + 1) ps = drop_at (take (n + 1) ps) (two ∷ drop (n + 1) ps) (n + 1) size in
    joined-set qs n one longer
    ∙ ap (λ (x : List (List WriteId)). joined x ++ (one ++ joined (drop (n + 1) qs))) front
    ∙ ap (λ (x : List (List WriteId)). joined (take n ps) ++ (one ++ joined x)) back
    ∙ ap (λ (x : List WriteId). joined (take n ps) ++ x) (sym (append_assoc one two (joined (drop (n + 1) ps))))

-- Facts of each id of parts.
pub each_append : (P : WriteId → Type 0) (xs ys : List WriteId) → Each P xs → Each P ys → Each P (xs ++ ys)
each_append P [] ys each more = more
each_append P (x ∷ xs) ys each more = (each.0, each_append P xs ys each.1 more)

pub ascending_front : (xs ys : List WriteId) → IsAscending (xs ++ ys) → IsAscending xs
ascending_front [] ys asc = tt
ascending_front (x ∷ xs) ys asc = (each_front (λ j. id_cmp x j ≡ Less) xs ys asc.0, ascending_front xs ys asc.1)
  where
    each_front : (P : WriteId → Type 0) (xs ys : List WriteId) → Each P (xs ++ ys) → Each P xs
    each_front P [] ys each = tt
    each_front P (x ∷ xs) ys each = (each.0, each_front P xs ys each.1)

pub ascending_back : (xs ys : List WriteId) → IsAscending (xs ++ ys) → IsAscending ys
ascending_back [] ys asc = asc
ascending_back (x ∷ xs) ys asc = ascending_back xs ys asc.1

-- a part of ascending ids is ascending
pub ascending_part : (front part back : List WriteId) → IsAscending (front ++ (part ++ back)) → IsAscending part
ascending_part front part back asc = ascending_front part back (ascending_back front (part ++ back) asc)

-- where the first id goes behind another, all do
pub all_behind : (i first : WriteId) (rest : List WriteId) → IsAscending (first ∷ rest) → id_cmp first i ≡ Greater → Each (λ j. id_cmp j i ≡ Greater) (first ∷ rest)
all_behind i first rest asc e =
    (e, each_weaker (λ j. id_cmp i j ≡ Less) (λ j. id_cmp j i ≡ Greater) (λ j l. turned_back i j l) rest (each_further i first rest (turned first i e) asc.0))

-- all before an id are less
before_it : (front rest : List WriteId) (y : WriteId) → IsAscending (front ++ y ∷ rest) → Each (λ x. id_cmp x y ≡ Less) front
before_it [] rest y asc = tt
before_it (x ∷ xs) rest y asc = (above_behind (λ j. id_cmp x j ≡ Less) y xs rest asc.0, before_it xs rest y asc.1)

-- A place in the last part that does not begin behind an id is its place in the whole.
pub place_whole : (i : WriteId) (front part back : List WriteId) (r : Result ℕ ℕ) → IsAscending (front ++ (part ++ back))
    → Each (λ j. id_cmp j i ≡ Greater) back → (Each (λ j. id_cmp j i ≡ Greater) part → ⊥) → IsPlace i part r → IsPlace i (front ++ (part ++ back)) (shifted (length front) r)
place_whole i front part back (Ok at) asc behind begun place =
    let here : get_or part at i ≡ i = get_or_from_slice_get part at i i place.is in
    stands_at i (front ++ (part ++ back)) (length front + at) i asc (omega (arith, place.within, length-append front (part ++ back), length-append part back))
    (get_or-append-add front (part ++ back) at i ∙ get_or_append_left part back i at place.within ∙ here)
place_whole i front [] back (Err at) asc behind begun place = absurd (begun tt)
place_whole i front (y ∷ ys) back (Err zero) asc behind begun place = absurd (begun place.high)
place_whole i front (y ∷ ys) back (Err (suc at)) asc behind begun place =
    let part = y ∷ ys in
    let whole = front ++ (part ++ back) in
    let low : Each (λ x. id_cmp x i ≡ Less) front =
    each_weaker (λ x. id_cmp x y ≡ Less) (λ x. id_cmp x i ≡ Less) (λ x l. id_total.trans x y i l place.low.0) front (before_it front (ys ++ back) y asc) in
    goes_to i whole (length front + suc at) (omega (arith, place.within, length-append front (part ++ back), length-append part back))
    (subst (λ (x : List WriteId). Each (λ j. id_cmp j i ≡ Less) x) (sym (take_within front part back (suc at) place.within)) (each_append (λ j. id_cmp j i ≡ Less) front (take (suc at) part) low place.low))
    (subst (λ (x : List WriteId). Each (λ j. id_cmp j i ≡ Greater) x) (sym (drop_within front part back (suc at) place.within)) (each_append (λ j. id_cmp j i ≡ Greater) (drop (suc at) part) back place.high behind))

is_greater : (o : Ordering) → is_gt o ≡ true → o ≡ Greater
is_greater Less t = absurd (cc)
is_greater Equal t = absurd (cc)
is_greater Greater t = refl

-- whether the first id goes behind another tells it of all
pub begins_so : (i first : WriteId) (ids : List WriteId) (o : Ordering) (higher : Bool) → IsAscending ids → slice_get ids 0 ≡ Some first → o ≡ id_cmp first i → higher ≡ is_gt o
    → IsTrue higher ↔ Each (λ j. id_cmp j i ≡ Greater) ids
begins_so i first [] o higher asc at e t = absurd (cc)
begins_so i first (j ∷ js) o higher asc at e t =
    let is : j ≡ first = cc in
    let named : o ≡ id_cmp j i = e ∙ ap (λ (k : WriteId). id_cmp k i) (sym is) in (
      λ is_higher. all_behind i j js asc (sym named ∙ is_greater o (sym t ∙ is_higher)),
      λ each. t ∙ ap is_gt (named ∙ each.0),
    )

-- one part more, of what is left
pub joined_push : (ps : List (List WriteId)) (part behind : List WriteId) → joined (ps ++ part ∷ []) ++ behind ≡ joined ps ++ (part ++ behind)
joined_push ps part behind =
    ap (λ (x : List WriteId). x ++ behind) (joined-append ps (part ∷ []) ∙ ap (λ (x : List WriteId). joined ps ++ x) (append-nil part)) ∙ append_assoc (joined ps) part behind
