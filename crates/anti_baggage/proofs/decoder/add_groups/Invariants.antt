use Rattle.std.proofs.Common.{◌++◌}
use Rattle.anti_baggage.specs.Reading.{between_bars}
use Rattle.anti_baggage.specs.Steps.{read_behind}
use Rattle.anti_baggage.proofs.Behind.{GroupsLeft}
use Rattle.anti_baggage.proofs.decoder.add_groups.Given as goal

-- the ids so far, and those of the groups to come, are those of all groups
abbrev pub invariant-loop-group : goal.invariant-loop-group
invariant-loop-group l =
    GroupsLeft (goal.iterator-loop-group).next_gives (λ x. x.now) l.stores (λ rest. read_behind l.stores l.initial.lineage (between_bars l.text ++ rest)) l.group-iterator l.lineage
