-- Everything that a process may do, as a tree: a call, and what follows on each reply to it; or its end.
use Rattle.std.specs.Prelude.{ℕ, Option, Some, None, List, [], ◌∷◌}
use Rattle.anti_ids.specs.declared.id.WriteId.{WriteId}
use Rattle.anti_kind.specs.declared.call.Call.{Call}
use Rattle.anti_kind.specs.declared.call.Reply.{Reply}
use Rattle.anti_shim.specs.declared.looks.PlannedLook.{PlannedLook}
use Rattle.anti_proc.specs.declared.end.BodyEnd.{BodyEnd}
use Rattle.anti_proc.specs.declared.end.BodyEnd.TheVariants as body_ends
use Rattle.anti_proc.specs.declared.end.End.{End}
use Rattle.anti_proc.specs.declared.end.End.TheVariants as ends

-- A call at an object, in a span, with the lineage that the process carries as it makes it. A look of a barrier or a dry run has the looks
-- of the same barrier that are left after it, in their order; a call that is no such look has none.
pub record Ask : Type 0 where
  pub object : ℕ
  pub span : ℕ
  pub call : Call
  pub carried : List WriteId
  pub left : Option (List PlannedLook)

pub data Tree : Type 0 where
  Asks : (ask : Ask) → (Reply → Tree) → Tree
  Ends : (end : BodyEnd) → Tree

-- what follows on a reply; after the end there is nothing more
abbrev pub branch : Tree → Reply → Tree
branch (Asks ask go) reply = go reply
branch (Ends end) reply = Ends end

-- what follows on these replies
abbrev pub after : Tree → List Reply → Tree
after tree [] = tree
after tree (reply ∷ replies) = after (branch tree reply) replies

-- the next call, where there is one
abbrev pub ask_of : Tree → Option Ask
ask_of (Asks ask go) = Some ask
ask_of (Ends end) = None

-- how a process ends by its body
abbrev pub end_as : BodyEnd → End
end_as body_ends.Fine = ends.Fine
end_as body_ends.Depth = ends.Depth
end_as body_ends.BadKey = ends.BadKey
end_as body_ends.LineageFull = ends.LineageFull

-- what a process does next: a call, or it has ended
pub data Want : Type 0 where
  Make : (object span : ℕ) (call : Call) → Want
  Over : (end : End) → Want

abbrev pub want_of : Tree → Want
want_of (Asks ask go) = Make ask.object ask.span ask.call
want_of (Ends end) = Over (end_as end)
