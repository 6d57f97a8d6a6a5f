use Rattle.std.proofs.Common.{Bool, not, ◌&&◌, ltb, sym, ap, ap₂, ◌∙◌}
use Rattle.anti_kind.specs.Store.{is_acked, pulls}
use Rattle.anti_queue.proofs.Reading.{message_is}
use Rattle.anti_queue.proofs.message_states.MessageStates.can_go_out.Goals as goal

pub returns-then-not-message-2 : goal.returns-then-not-message-2
returns-then-not-message-2 c = λ h are first within.
    let v = c.args.version in
    let is = message_is c.args.self.now h are v c.in-Some.message.now c.in-Some.ensures.first c.in-Some.ensures.message in
    ap (λ n. ltb n c.args.tries) (c.from.ensures ∙ is.pulls_are)
    ∙ sym (ap₂ (λ (b d : Bool). not b && (not d && ltb (pulls h v) c.args.tries)) (sym is.out ∙ c.if-not-message.true) (sym is.acked ∙ c.if-not-message-2.true))

pub returns-else-not-message-2 : goal.returns-else-not-message-2
returns-else-not-message-2 c = λ h are first within.
    let v = c.args.version in
    let is = message_is c.args.self.now h are v c.in-Some.message.now c.in-Some.ensures.first c.in-Some.ensures.message in
    ap not c.if-not-message-2.false
    ∙ sym (ap₂ (λ (b d : Bool). not b && (not d && ltb (pulls h v) c.args.tries)) (sym is.out ∙ c.if-not-message.true) (sym is.acked ∙ c.if-not-message-2.false))

pub returns-else-not-message : goal.returns-else-not-message
returns-else-not-message c = λ h are first within.
    let v = c.args.version in
    let is = message_is c.args.self.now h are v c.in-Some.message.now c.in-Some.ensures.first c.in-Some.ensures.message in
    ap not c.if-not-message.false
    ∙ sym (ap (λ (b : Bool). not b && (not (is_acked h v) && ltb (pulls h v) c.args.tries)) (sym is.out ∙ c.if-not-message.false))
