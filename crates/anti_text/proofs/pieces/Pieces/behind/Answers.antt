use Rattle.std.proofs.Common.{◌≡◌, length, sym, ap, ◌∙◌, arith}
use Rattle.anti_text.proofs.Cuts.{cut_length}
use Rattle.anti_text.proofs.pieces.Pieces.behind.Goals as goal

pub overflow_add-result : goal.overflow_add-result
overflow_add-result c =
    let many : length c.args.self.now ≡ length c.self.inside.ends.items = ap length (sym c.self.view_is) ∙ cut_length c.self.inside.text 0 c.self.inside.ends.items in
    omega (arith, many, c.requires, c.len-count.ensures, c.len-count.type_inv)
