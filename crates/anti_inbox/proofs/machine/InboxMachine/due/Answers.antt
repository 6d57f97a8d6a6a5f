use Rattle.std.proofs.Common.{arith}
use Rattle.anti_inbox.proofs.Reading.{its_few}
use Rattle.anti_inbox.proofs.machine.InboxMachine.due.Goals as goal

pub overflow_cast-result : goal.overflow_cast-result
overflow_cast-result c = omega (arith, its_few c.args.self.now c.requires.history c.requires.stands_for)

pub overflow_add-result : goal.overflow_add-result
overflow_add-result c = omega (arith, its_few c.args.self.now c.requires.history c.requires.stands_for)
