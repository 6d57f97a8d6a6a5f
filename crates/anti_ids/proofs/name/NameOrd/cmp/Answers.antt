use Rattle.std.proofs.Common.{◌∙◌}
use Rattle.anti_ids.proofs.NameOrder.{texts_order}
use Rattle.anti_ids.proofs.name.NameOrd.cmp.Goals as goal

pub returns : goal.returns
returns c =
    c.order.ensures
    ∙ texts_order c.self.inside.text c.other.inside.text c.self.inside.len c.other.inside.len c.args.self.now c.args.other.now c.self.invariant c.other.invariant c.self.view_is c.other.view_is
