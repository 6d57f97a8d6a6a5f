use Rattle.std.proofs.Common.{◌≡◌, ℕ, ◌+◌, Some, sym, ap, ◌∙◌, subst, drop, arith}
use Rattle.anti_flight.specs.Tickets.{InFlight, first_ticket}
use Rattle.anti_inbox.proofs.Leaving.{Pairs, Cleared, none_at, next_in, cleared_kept, cleared_left}
use Rattle.anti_inbox.proofs.deliveries.unlink_all.Goals as goal
use Rattle.anti_inbox.proofs.deliveries.unlink_all.Goals.{then-item-number, else-item-number}

pub unreachable-requires : goal.unreachable-requires
unreachable-requires c =
    none_at c.loop.counter c.args.flight.now.pairs c.loop.at c.loop.invariant.here c.in_default.not-Some (omega (arith, c.loop-test.true, c.len-end.ensures.len))

pub loop-preserved : goal.loop-preserved
loop-preserved c =
    let n : ℕ = c.args.number in let i : ℕ = c.loop.counter in
    let olds : Pairs = c.args.flight.now.pairs in let now : Pairs = c.loop.flight.pairs in
    let t = c.in-Some.ticket in
    let e : first_ticket (drop i olds) ≡ Some t = sym c.loop.invariant.here ∙ c.in-Some.is in
    let was = c.loop.invariant.cleared in
    let here = next_in n i olds now t c.after-at.result e was c.after-at.ensures.next in
    elim c.if-item-number.branch [
      | then-item-number w ↦
          let left = cleared_left n i olds now t c.item.result.now e was c.item.ensures w.if-item-number.true c.loop.flight.next w.unlink.result w.unlink.new.self w.unlink.ensures.left in
          record {
            here = here;
            next = ap (λ (f : InFlight ℕ). f.next) w.flight-is ∙ left.1 ∙ c.loop.invariant.next;
            cleared = subst (λ (f : InFlight ℕ). Cleared n olds (i + 1) f.pairs) (sym w.flight-is) left.0;
          }
      | else-item-number w ↦ record {
        here = here;
        next = ap (λ (f : InFlight ℕ). f.next) w.flight-is ∙ c.loop.invariant.next;
        cleared = subst (λ (f : InFlight ℕ). Cleared n olds (i + 1) f.pairs) (sym w.flight-is) (cleared_kept n i olds now t c.item.result.now e was c.item.ensures w.if-item-number.false);
      }
    ]
