use Rattle.std.proofs.Common.{◌∙◌}
use Rattle.anti_ids.proofs.NameOrder.{texts_same}
use Rattle.anti_ids.proofs.name.NamePartialEq.eq.Goals as goal

pub returns : goal.returns
returns c =
    c.are_same.ensures
    ∙ texts_same c.self.inside.text c.other.inside.text c.self.inside.len c.other.inside.len c.args.self.now c.args.other.now c.self.invariant c.other.invariant c.self.view_is c.other.view_is
