-- The places of the entries of a trace, by their marks.
use Rattle.std.specs.Prelude.{ℕ, ◌≡◌, ◌<◌, ◌↔◌, List, Option, Some, option_map, slice_get}
use Rattle.std.specs.BTreeMap as tree
use Rattle.std.specs.Ordering.{nat_cmp, ordering_then}
use Rattle.std.specs.declared.cmp.Ordering.{Ordering}
use Rattle.anti_kind.specs.declared.entry.Entry.{Entry}
use Rattle.anti_trace.specs.declared.mark.Mark.{Mark}
use Rattle.anti_past.specs.Losses.{mark_of}
use Rattle.anti_past.specs.declared.marks.PlaceByMark.{PlaceByMark}

-- by the object, and the place in its history
abbrev pub pair_cmp : ℕ × ℕ → ℕ × ℕ → Ordering
pair_cmp a b = ordering_then (nat_cmp a.0 b.0) (nat_cmp a.1 b.1)

-- the place that is known for a mark
abbrev pub place_known : PlaceByMark → Mark → Option ℕ
place_known known mark = tree.get pair_cmp known.places (mark.object, mark.place)

-- the entry at a place has a mark
abbrev pub IsMarked : List Entry → ℕ → Mark → Type 0
IsMarked trace i mark = option_map mark_of (slice_get trace i) ≡ Some mark

-- Of each entry the place is known, by its mark, and no other mark is known.
abbrev pub KnowsPlaces : List Entry → PlaceByMark → Type 0
KnowsPlaces trace known = (mark : Mark) (i : ℕ) → (place_known known mark ≡ Some i) ↔ IsMarked trace i mark

-- the same of the entries before index k
abbrev pub KnowsBefore : List Entry → ℕ → PlaceByMark → Type 0
KnowsBefore trace k known = (mark : Mark) (i : ℕ) → (place_known known mark ≡ Some i) ↔ ((i < k) × IsMarked trace i mark)
