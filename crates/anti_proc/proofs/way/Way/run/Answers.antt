use Rattle.std.proofs.Common.{sym, ap, ◌∙◌, subst}
use Rattle.std.specs.Prelude.{IfOk}
use Rattle.anti_lang.specs.Bodies.{step_in, step_of}
use Rattle.anti_lang.specs.Program.{Step}
use Rattle.anti_lang.specs.declared.statement.Statement.TheFolds.{fold-roll-Statement}
use Rattle.anti_lang.specs.declared.statement.Statement.TheOpen as open_statement
use Rattle.anti_lang.specs.declared.statement.Statement.TheVariants as statements
use Rattle.anti_proc.specs.declared.way.Way.{Way}
use Rattle.anti_proc.specs.inner.Statements.{ComesTo}
use Rattle.anti_proc.proofs.way.Way.run.Goals as goal

pub returns-in-Call-clause-goes : goal.returns-in-Call-clause-goes
returns-in-Call-clause-goes c =
    let service = c.in-Call.service in
    let handler = c.in-Call.handler in
    let value = c.in-Call.value in
    let variable = c.in-Call.variable in
    let goes = subst (λ (s : Step). IfOk c.post.result (λ stage. ComesTo s c.args.self.now c.args.self.now stage))
    (sym (ap step_of (c.in-Call.is ∙ sym (statements.rolls-Call service handler value variable)) ∙ fold-roll-Statement Step step_in (open_statement.Call service handler value variable)))
    c.post.ensures.goes in
    subst (λ (way : Way). IfOk c.post.result (λ stage. ComesTo (step_of c.args.statement.now) c.args.self.now way stage)) (sym c.post.ensures.same) goes

pub returns-in-Send-clause-goes : goal.returns-in-Send-clause-goes
returns-in-Send-clause-goes c =
    let service = c.in-Send.service in
    let handler = c.in-Send.handler in
    let value = c.in-Send.value in
    let goes = subst (λ (s : Step). IfOk c.post-in-Send.result (λ stage. ComesTo s c.args.self.now c.args.self.now stage))
    (sym (ap step_of (c.in-Send.is ∙ sym (statements.rolls-Send service handler value)) ∙ fold-roll-Statement Step step_in (open_statement.Send service handler value)))
    c.post-in-Send.ensures.goes in
    subst (λ (way : Way). IfOk c.post-in-Send.result (λ stage. ComesTo (step_of c.args.statement.now) c.args.self.now way stage)) (sym c.post-in-Send.ensures.same) goes
