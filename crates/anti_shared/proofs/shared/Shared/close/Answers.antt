use Rattle.anti_shared.proofs.Seated.{seated_count, closed_pass}
use Rattle.anti_shared.proofs.shared.Shared.close.Goals as goal

pub invariant_of-result-in-Err : goal.invariant_of-result-in-Err
invariant_of-result-in-Err g c =
    seated_count g.M.Machine.start c.pass.inside.seat c.in-Err.seat c.pass.inside.raised c.in-Err.seat.out c.in-Err.ensures.seat c.pass.invariant

pub returns-in-Ok-clause-ok : goal.returns-in-Ok-clause-ok
returns-in-Ok-clause-ok g c =
    closed_pass g.M.Machine.start c.pass.inside.seat c.pass.inside.raised c.args.pass c.in-Ok.kept c.pass.view_is c.pass.invariant c.in-Ok.ensures.ok c.in-Ok.ensures.loaded
