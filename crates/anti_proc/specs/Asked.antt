-- What a process does after some replies: its next call, where that is made, or its end.
use Rattle.std.specs.Prelude.{List, Option, Some, None, ℕ, ◌≡◌}
use Rattle.anti_kind.specs.declared.call.Reply.{Reply}
use Rattle.anti_proc.specs.Trees.{Tree, after, Want, want_of, Asks, Ends, end_as}
use Rattle.anti_proc.specs.declared.end.End.{End}

-- the next call after these replies, or the end
abbrev pub next_of : Tree → List Reply → Want
next_of tree replies = want_of (after tree replies)

-- the end, where there is no further call
abbrev pub end_of : Tree → Option End
end_of (Asks ask go) = None
end_of (Ends end) = Some (end_as end)

-- the next call is one at this object
abbrev pub IsAskedAt : ℕ → Tree → Type 0
IsAskedAt object (Asks ask go) = ask.object ≡ object
IsAskedAt object (Ends end) = ⊥
