use Rattle.std.proofs.lemmas.Grind.{common_steps}
use Rattle.std.proofs.Common.{ap, length, arith}
use Rattle.anti_inbox.proofs.Reading.{reposting_within, few_came}
use Rattle.anti_inbox.proofs.inbox.Inbox.repost.Goals as goal

pub deliver-requires : goal.deliver-requires
deliver-requires c = omega (arith, few_came c.args.self.now c.requires.history c.requires.stands_for)

pub index_mut-requires : goal.index_mut-requires
index_mut-requires c =
    let m = c.args.self.now in
    let at = c.requires.stands_for in
    let turns = c.in_ok-deliver.ensures.ok c.requires.history at in
    let there = reposting_within m c.requires.history c.args.number at c.requires.is_ready in
    omega (arith, there, ap length turns.fates_are, c.deliver.new.self.fates.ok.0)

pub returns-clause-ok : goal.returns-clause-ok
returns-clause-ok c = grind (arith, common_steps)
