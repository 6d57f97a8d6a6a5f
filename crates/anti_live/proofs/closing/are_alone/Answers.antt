use Rattle.std.proofs.Common.{◌<◌, length, arith}
use Rattle.anti_live.proofs.Belonging.{same_long}
use Rattle.anti_live.proofs.Closings.{asking_all, asking_first, asking_id, asking_more}
use Rattle.anti_live.proofs.closing.are_alone.Goals as goal

pub loop-at-init : goal.loop-at-init
loop-at-init c = asking_first c.args.passes.now.items

low_at : (c : goal.After-index_mut) → c.loop-at.at < length c.args.passes.now.items
low_at c = omega (arith, c.loop-at-test.true, same_long c.args.shareds.now c.args.passes.now.items c.requires)

pub alone-alone-requires : goal.alone-alone-requires
alone-alone-requires c =
    asking_id c.args.passes.now.items c.loop-at.at c.loop-at.passes.items c.loop-at.alone (low_at c) c.loop-at.invariant c.index_mut.result.now c.index_mut.ensures.value
    c.args.shareds.now c.index-shareds-at.result c.requires c.index-shareds-at.is

pub loop-at-preserved : goal.loop-at-preserved
loop-at-preserved c =
    asking_more c.args.passes.now.items c.loop-at.at c.loop-at.passes.items c.loop-at.alone
    (omega (arith, c.loop-at-test.true, same_long c.args.shareds.now c.args.passes.now.items c.requires)) c.loop-at.invariant c.index_mut.result.now c.index_mut.ensures.value
    c.alone-alone.new.pass c.alone-alone.result c.alone-alone.ensures.pass c.alone-alone.ensures.some c.alone-alone.ensures.noted

pub returns-clause-asked : goal.returns-clause-asked
returns-clause-asked c =
    asking_all c.args.passes.now.items c.loop-at.at c.loop-at.passes.items c.loop-at.alone
    (omega (arith, c.loop-at-test.false, same_long c.args.shareds.now c.args.passes.now.items c.requires)) c.loop-at.invariant
