use Rattle.std.proofs.Common.{◌≡◌, ◌++◌, reverse, length}
use Rattle.anti_lang.proofs.blocks.turned.Given as goal

abbrev pub invariant-loop-statement : goal.invariant-loop-statement
invariant-loop-statement l = record {
  none : l.again.spare ≡ 0;
  moved : l.again.items ++ reverse l.body.items ≡ reverse l.fn.body.items;
}

abbrev pub decreases-loop-statement : goal.decreases-loop-statement
decreases-loop-statement l = length l.body.items
