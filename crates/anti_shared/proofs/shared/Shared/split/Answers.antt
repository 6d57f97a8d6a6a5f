use Rattle.std.proofs.Common.{refl}
use Rattle.anti_shared.proofs.Seated.{seated_new, seated_room, split_pass}
use Rattle.anti_shared.proofs.shared.Shared.split.Goals as goal

pub invariant_of-result : goal.invariant_of-result
invariant_of-result g c =
    let s = c.in_ok-seat.ensures.ok in
    seated_new g.M.Machine.start c.pass.inside.seat c.in_ok-seat.seat c.pass.inside.raised _ s.new_is s.positive c.pass.invariant

pub invariant_of-pass-2 : goal.invariant_of-pass-2
invariant_of-pass-2 g c =
    seated_room g.M.Machine.start c.pass.inside.seat c.split.new.seat c.pass.inside.raised _ c.in_ok-seat.ensures.ok.rest_is c.pass.invariant

pub returns-clause-ok : goal.returns-clause-ok
returns-clause-ok g c =
    split_pass c.pass.inside.seat c.split.new.seat c.in_ok-seat.seat c.args.pass.now _ _ c.pass.view_is refl refl c.in_ok-seat.ensures.ok
