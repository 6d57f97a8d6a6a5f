use Rattle.std.proofs.Common.{◌≡◌, ◌<◌, ◌⊎◌, sym, subst}
use Rattle.anti_queue.proofs.Reading.{message_is, never_out}
use Rattle.anti_queue.proofs.message_states.MessageStates.is_out.Goals as goal

pub returns-in-Some : goal.returns-in-Some
returns-in-Some c = λ s h queue l are. (message_is c.args.self.now h are c.args.version c.in-Some.message.now c.in-Some.ensures.first c.in-Some.ensures.message).out

pub returns-in-None : goal.returns-in-None
returns-in-None c = λ s h queue l are. sym (never_out s h queue l c.args.version (subst (λ n. (c.args.version ≡ 0) ⊎ (n < c.args.version)) are.many c.in-None.ensures.none))
