use Rattle.std.proofs.Common.{◌∙◌}
use Rattle.anti_ids.proofs.NameOrder.{differing, same_eight}
use Rattle.anti_ids.proofs.name.order.Goals as goal

pub returns-then-this-that : goal.returns-then-this-that
returns-then-this-that c =
    c.cmp.ensures
    ∙ differing c.args.one.now c.args.other.now c.loop-at.at c.word-this.result c.word-that.result c.told-one c.told-other c.fits-one c.fits-other c.word-this.ensures c.word-that.ensures
    c.loop-at-test.true c.loop-at.invariant c.if-this-that.true

pub loop-at-preserved : goal.loop-at-preserved
loop-at-preserved c =
    same_eight c.args.one.now c.args.other.now c.loop-at.at c.word-this.result c.word-that.result c.told-one c.told-other c.fits-one c.fits-other c.word-this.ensures c.word-that.ensures
    c.loop-at-test.true c.loop-at.invariant c.if-this-that.false
