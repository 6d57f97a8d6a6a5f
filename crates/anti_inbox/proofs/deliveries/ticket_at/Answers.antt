use Rattle.std.proofs.Common.{◌+◌, sym, ◌∙◌, arith}
use Rattle.anti_inbox.proofs.Leaving.{some_ticket, next_at}
use Rattle.anti_inbox.proofs.deliveries.ticket_at.Goals as goal

pub unreachable-requires-in_default-after : goal.unreachable-requires-in_default-after
unreachable-requires-in_default-after c =
    let ps = c.args.flight.now.pairs in let i = c.loop.counter in
    let on = some_ticket (i + 1) ps (omega (arith, c.loop-test.true, c.requires)) in
    c.in_default-after.not-Some on.0 (next_at i ps c.loop.at c.after.result c.loop.invariant.0 c.after.ensures.next ∙ on.1)

pub loop-preserved : goal.loop-preserved
loop-preserved c =
    let ps = c.args.flight.now.pairs in let i = c.loop.counter in
    let next = next_at i ps c.loop.at c.after.result c.loop.invariant.0 c.after.ensures.next in
    (sym next ∙ c.in-Some-after.is, c.in-Some-after.ensures.held)
