use Rattle.std.proofs.Common.{arith}
use Rattle.std.proofs.lemmas.Grind.{common_steps}
use Rattle.anti_ids.specs.Names.{is_name}
use Rattle.anti_lang.proofs.word.cell_of.Goals as goal

pub returns-in-36 : goal.returns-in-36
returns-in-36 c = let behind = c.key_behind.ensures is_name in grind (arith, common_steps)

pub bounds-word-0 : goal.bounds-word-0
bounds-word-0 c = grind arith

pub slice_bounds-name-count : goal.slice_bounds-name-count
slice_bounds-name-count c = grind arith

pub slice_bounds-name-start : goal.slice_bounds-name-start
slice_bounds-name-start c = grind arith

pub slice_bounds-name-end : goal.slice_bounds-name-end
slice_bounds-name-end c = grind arith

pub returns-in_err-any_name-in_default : goal.returns-in_err-any_name-in_default
returns-in_err-any_name-in_default c = grind arith

pub returns-in_ok-any_name-in_default : goal.returns-in_ok-any_name-in_default
returns-in_ok-any_name-in_default c = grind arith
