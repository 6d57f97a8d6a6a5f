-- An order of all writes and some reads, as it is made read by read.
use Rattle.std.specs.Prelude.{ℕ, ◌≡◌, ◌<◌, ◌++◌, Bool, true, not, List, Some, All, length, map}
use Rattle.anti_kind.specs.declared.entry.Entry.{Entry}
use Rattle.law_causal.specs.Reads.{places}
use Rattle.law_serial.specs.Order.{listing, order_by, writes_at}
use Rattle.anti_order.specs.Answers.{mark_at}
use Rattle.anti_order.specs.declared.order_listing.Arranging.{Arranging}
use Rattle.anti_order.specs.declared.writes.Writes.{Writes}
use Rattle.anti_order.specs.inner.NumberSets.{has, room, room_for}
use Rattle.anti_order.specs.inner.Pieces.{IsWithin, marks_of}
use Rattle.anti_order.specs.inner.Writes.{number_at}

-- whether the write at a place is listed: its number is none of those that are left
abbrev pub is_listed : List Entry → List ℕ → ℕ → Bool
is_listed trace left i = not (has left (number_at trace i))

-- The writes that are left, and some reads, in the order by a test that tells which writes are in the past of which read.
abbrev pub still_to_list : List Entry → (ℕ → ℕ → Bool) → List ℕ → List ℕ → List ℕ
still_to_list trace past reads left = listing (writes_at trace) past (places trace) reads (is_listed trace left)

-- The order so far and what is left of the writes name no others.
pub record IsOver (writes : Writes) (arranging : Arranging) : Type 0 where
  pub pieces : All (IsWithin writes.marks.items) arranging.pieces.items
  pub left : (n : ℕ) → has arranging.left n ≡ true → n < length writes.marks.items
  pub room : room arranging.left ≡ room_for (length writes.marks.items)

-- Behind what stands in the order so far come the marks of what is still to be listed: the reads that are left, and the writes.
pub record Arranges (trace : List Entry) (writes : Writes) (past : ℕ → ℕ → Bool) (all rest : List ℕ) (arranging : Arranging) : Type 0 where
  pub over : IsOver writes arranging
  pub order : map Some (marks_of writes.marks.items arranging.pieces.items)
      ++ map (mark_at trace) (still_to_list trace past rest arranging.left)
      ≡ map (mark_at trace) (order_by trace past all)
