use Rattle.std.proofs.Common.{arith}
use Rattle.std.proofs.lemmas.Grind.{common_steps}
use Rattle.anti_text.proofs.call_words.call_text.Goals as goal

pub returns-in-Read : goal.returns-in-Read
returns-in-Read c = grind (arith, common_steps)

pub returns-in-Poll : goal.returns-in-Poll
returns-in-Poll c = grind (arith, common_steps)

pub returns-in-Again : goal.returns-in-Again
returns-in-Again c = grind (arith, common_steps)

pub returns-in-Post : goal.returns-in-Post
returns-in-Post c = grind (arith, common_steps)

pub returns-in-Nack : goal.returns-in-Nack
returns-in-Nack c = grind (arith, common_steps)

pub returns-in-Write : goal.returns-in-Write
returns-in-Write c = grind (arith, common_steps)

pub returns-in-Scan : goal.returns-in-Scan
returns-in-Scan c = grind (arith, common_steps)

pub returns-in-Take : goal.returns-in-Take
returns-in-Take c = grind (arith, common_steps)

pub returns-in-Repost : goal.returns-in-Repost
returns-in-Repost c = grind (arith, common_steps)

pub returns-in-Look : goal.returns-in-Look
returns-in-Look c = grind (arith, common_steps)

pub returns-in-TakeReply : goal.returns-in-TakeReply
returns-in-TakeReply c = grind (arith, common_steps)

pub returns-in-Ack : goal.returns-in-Ack
returns-in-Ack c = grind (arith, common_steps)

pub returns-in-Ship : goal.returns-in-Ship
returns-in-Ship c = grind (arith, common_steps)
