use Rattle.std.proofs.Common.{◌≡◌, ◌∙◌, sym, ap, rules, reverse}
use Rattle.anti_lang.specs.Stated.{stated}
use Rattle.anti_lang.specs.Lines.{Close}
use Rattle.anti_lang.specs.Faults.{blocks_below}
use Rattle.anti_lang.proofs.TurnLemmas.{closed_turns}
use Rattle.anti_lang.proofs.block_faults.pass.Goals as goal

pub returns-in-End : goal.returns-in-End
returns-in-End c = λ behind right.
    let e : stated c.args.line.now ≡ Close = search rules in
    closed_turns c.args.blocks.now c.pop-closed.new.self c.pop-closed.result c.pop-closed.ensures.none c.pop-closed.ensures.unchanged c.pop-closed.ensures.some
    ∙ ap (blocks_below (reverse c.args.blocks.now.items)) (sym e)
