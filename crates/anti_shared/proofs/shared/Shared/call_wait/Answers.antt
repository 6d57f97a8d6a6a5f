use Rattle.std.proofs.Common.{◌≡◌, Option, IfNone, ◌∙◌, ap, subst, sym}
use Rattle.anti_kind.specs.declared.asking.Asking.{Asking}
use Rattle.anti_kind.specs.declared.port.Answer.TheVariants.{Refused}
use Rattle.anti_kind.specs.declared.refusal.Refusal.TheVariants.{NotYet}
use Rattle.anti_kind.specs.Ports.{Answered}
use Rattle.anti_shared.specs.Passes.{Identity, SharedView, start_of, view_of}
use Rattle.anti_shared.proofs.Waiting.{since_answered}
use Rattle.anti_shared.proofs.shared.Shared.call_wait.Goals as goal

pub returns-in-None-waiting-clause-answer : goal.returns-in-None-waiting-clause-answer
returns-in-None-waiting-clause-answer g c =
    let start = g.M.Machine.start in
    let old = c.args.pass.now in
    let own = c.self.invariant ∙ ap (λ (v : SharedView g.row.M.Denot). v.id.object) c.self.view_is in
    let here = own ∙ sym (ap (λ (i : Identity g.row.M.Denot). i.object) c.requires) in
    let asked : Asking = record { object = old.id.object; actor = c.args.actor; span = c.args.span; clock = c.args.clock; call = c.args.c } in
    let same : c.loop.asking ≡ asked = c.loop.invariant.0 ∙ (λ i. record asked { object = here i }) in
    let made = subst (λ (o : Option Asking). IfNone o (c.visit-answer.result ≡ Refused NotYet → ⊥)) c.in-None-waiting.is c.visit-answer.ensures.waits in
    subst (λ (q : Asking). Answered (start_of start old.id) q (view_of old) (view_of c.visit-answer.new.pass) c.visit-answer.result) same
    (since_answered start c.loop.asking old c.loop.pass c.visit-answer.new.pass c.visit-answer.result c.loop.invariant.1 made c.visit-answer.ensures.answered)
