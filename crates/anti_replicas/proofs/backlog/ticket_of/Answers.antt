use Rattle.std.proofs.Common.{arith}
use Rattle.anti_replicas.proofs.Backlogs.{past_holds, past_found, past_next, past_some, past_all}
use Rattle.anti_replicas.proofs.backlog.ticket_of.Goals as goal

pub unreachable-requires : goal.unreachable-requires
unreachable-requires c =
    past_some c.args.group c.loop.counter c.loop.at c.args.flight.now.pairs c.loop.invariant c.in_default.not-Some (omega (arith, c.loop-test.true, c.len-end.ensures.len))

pub item-requires : goal.item-requires
item-requires c = past_holds c.args.group c.loop.counter c.loop.at c.args.flight.now.pairs c.loop.invariant c.in-Some.ticket c.in-Some.is

pub after-at-requires : goal.after-at-requires
after-at-requires c = past_holds c.args.group c.loop.counter c.loop.at c.args.flight.now.pairs c.loop.invariant c.in-Some.ticket c.in-Some.is

pub returns-then-item-group-clause-some : goal.returns-then-item-group-clause-some
returns-then-item-group-clause-some c =
    past_found c.args.group c.loop.counter c.loop.at c.args.flight.now.pairs c.loop.invariant c.in-Some.ticket c.in-Some.is c.item.result.now c.item.ensures c.if-item-group.true

pub loop-preserved : goal.loop-preserved
loop-preserved c =
    past_next c.args.group c.loop.counter c.loop.at c.args.flight.now.pairs c.loop.invariant c.in-Some.ticket c.in-Some.is c.item.result.now c.item.ensures c.if-item-group.false
    c.after-at.result c.after-at.ensures.next

pub returns-clause-none : goal.returns-clause-none
returns-clause-none c =
    past_all c.args.group c.loop.counter c.loop.at c.args.flight.now.pairs c.loop.invariant (omega (arith, c.loop-test.false, c.len-end.ensures.len))
