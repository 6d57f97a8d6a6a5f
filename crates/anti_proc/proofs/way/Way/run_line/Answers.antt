use Rattle.std.proofs.Common.{List, ap, ◌∙◌}
use Rattle.anti_ids.specs.declared.id.WriteId.{WriteId}
use Rattle.anti_app.specs.Objects.{stores_here}
use Rattle.anti_shim.specs.Plans.{plan}
use Rattle.anti_proc.specs.inner.Standing.{setting_in}
use Rattle.anti_proc.proofs.NoneHere.{plan_removed}
use Rattle.anti_proc.proofs.way.Way.run_line.Goals as goal

pub returns-in-Remove-clause-known : goal.returns-in-Remove-clause-known
returns-in-Remove-clause-known c = λ known.
    let s = setting_in c.args.self.now in
    let here = stores_here s.app s.role.region in
    ap (λ (ids : List WriteId). plan here ids) c.take_out.ensures
    ∙ plan_removed here _ c.args.quiet.now.carried (c.requires.known known)
