use Rattle.std.proofs.Common.{◌≡◌, length, map, arith}
use Rattle.std.proofs.lemmas.Result.{IfOk-weaker}
use Rattle.anti_work.specs.inner.Firsts.{HaveWorked, given}
use Rattle.anti_work.proofs.Ran.{have_worked}
use Rattle.anti_work.proofs.running.work_all.Goals as goal

pub returns-clause-worked : goal.returns-clause-worked
returns-clause-worked g c =
    let results = c.in_ok-results.results.items in
    let long : length results ≡ length c.args.starts.items =
    omega (arith, c.in_ok-results.ensures.len, c.in_ok-results.results.ok.0, c.args.starts.ok.0) in
    IfOk-weaker c.all_given.result (λ all. results ≡ map given all.items) (λ all. HaveWorked c.args.app.now c.args.shared.now all.items)
    (λ all is. have_worked c.args.app.now c.args.shared.now c.args.starts.items results all.items c.requires.starts long is
    (λ w start back low. c.in_ok-results.ensures.each w start back (omega (arith, low, c.args.starts.ok.0))))
    c.all_given.ensures.items
