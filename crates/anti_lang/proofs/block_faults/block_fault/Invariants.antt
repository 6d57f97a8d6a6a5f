use Rattle.std.proofs.Common.{◌≡◌, ◌+◌, drop, reverse}
use Rattle.anti_lang.specs.Stated.{all_stated}
use Rattle.anti_lang.specs.Faults.{first_wrong, has_wrong_block, blocks_below, block_fault}
use Rattle.anti_lang.proofs.block_faults.block_fault.Given as goal

abbrev pub invariant-loop-i : goal.invariant-loop-i
invariant-loop-i l = first_wrong has_wrong_block blocks_below (reverse l.blocks.items) (l.i + 1) (all_stated (drop l.i l.lines)) ≡ block_fault (all_stated l.lines)
