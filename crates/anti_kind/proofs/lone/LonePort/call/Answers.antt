use Rattle.std.proofs.lemmas.Grind.{common_steps}
use Rattle.std.proofs.Common.{refl, arith}
use Rattle.anti_kind.specs.declared.asking.Asking.{Asking}
use Rattle.anti_kind.proofs.Making.{given_answers, answered}
use Rattle.anti_kind.proofs.lone.LonePort.call.Goals as goal

pub returns-clause-answer : goal.returns-clause-answer
returns-clause-answer g c =
    let start = g.M.Machine.start c.self.inside.recorded.machine in
    let h = c.self.inside.recorded.history in
    let q : Asking = record { object = c.args.object; actor = c.args.actor; span = c.args.span; clock = c.args.clock; call = c.args.c } in
    let answers = given_answers start h q c.self.inside.visits c.saturating_add-self-inside.result (omega arith) c.saturating_add-self-inside.ensures c.ask.new.self.history c.ask.result c.ask.ensures.gives in
    rw (← c.self.view_is)
    (answered g.M.Machine.start (record { object = c.self.inside.object; machine = c.self.inside.recorded.machine; history = h; visits = c.self.inside.visits })
    (record { object = c.self.inside.object; machine = c.ask.new.self.machine; history = c.ask.new.self.history; visits = c.saturating_add-self-inside.result }) q
    c.if-object-self.false refl c.ask.result answers c.ask.ensures.before c.ask.ensures.after)

pub invariant_of-self : goal.invariant_of-self
invariant_of-self g c = grind (arith, common_steps)
