use Rattle.std.proofs.Common.{◌≡◌, take}
use Rattle.anti_order.specs.inner.Pieces.{marks_of}
use Rattle.anti_order.proofs.pieces.Marks.to_list.Given as goal

-- the marks of the pieces so far are listed
abbrev pub invariant-loop-piece : goal.invariant-loop-piece
invariant-loop-piece l = l.list.items ≡ marks_of l.writes (take l.piece-index l.pieces)
