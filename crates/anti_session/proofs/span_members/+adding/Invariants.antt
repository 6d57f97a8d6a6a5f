use Rattle.std.proofs.Common.{◌≡◌, ◌+◌, ◌-◌, ◌*◌, ◌++◌, take}
use Rattle.std.specs.Prelude.{flat_map}
use Rattle.anti_session.specs.Members.{adds_at, members_in}
use Rattle.anti_session.proofs.span_members.+adding.Given as goal

abbrev pub decreases-add_entry : goal.decreases-add_entry
decreases-add_entry l = 2 * l.depth + 1

abbrev pub decreases-add_members : goal.decreases-add_members
decreases-add_members l = 2 * l.depth

-- what the entries so far add is added
abbrev pub invariant-add_members-loop-number : goal.invariant-add_members-loop-number
invariant-add_members-loop-number l =
    l.members.items ≡ l.initial.members.items ++ flat_map (adds_at (λ b. members_in (l.depth - 1) l.trace b 1) l.trace l.fn.birth l.span)
    (take l.number l.places)
