use Rattle.std.proofs.Common.{Option, subst}
use Rattle.std.specs.Prelude.{IfOk, IfSome}
use Rattle.anti_app.specs.declared.app.App.{App}
use Rattle.anti_adversary.specs.Verdicts.{IsVerdict}
use Rattle.anti_adversary.specs.declared.verdict.Verdict.{Verdict}
use Rattle.anti_adversary.proofs.searching.search.Goals as goal

pub returns-in-Some-clause-verdict : goal.returns-in-Some-clause-verdict
returns-in-Some-clause-verdict c =
    let back = c.in_ok-back.back in
    let found : IsVerdict c.loop-number.app back c.in-Some.verdict =
    subst (λ (o : Option Verdict). IfSome o (IsVerdict c.loop-number.app back)) c.in-Some.is c.in_ok-back.ensures.some in
    subst (λ (app : App). IsVerdict app back c.in-Some.verdict) c.loop-number.invariant.same found

pub returns-clause-verdict : goal.returns-clause-verdict
returns-clause-verdict c =
    subst (λ (app : App). IfOk c.verdict.result (λ r. IsVerdict app r.0 r.1)) c.loop-number.invariant.same c.verdict.ensures.verdict
