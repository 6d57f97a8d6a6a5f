use Rattle.std.proofs.Common.{◌≡◌, length, take}
use Rattle.std.specs.Prelude.{IsTrue}
use Rattle.anti_text.proofs.mark_texts.are_same.Given as goal

-- the marks so far are the same, where no other was met
abbrev pub invariant-loop-mark : goal.invariant-loop-mark
invariant-loop-mark l = record {
  at : l.at ≡ l.mark-index;
  same : IsTrue l.same → take l.mark-index l.one ≡ take l.mark-index l.other;
  long : length l.one ≡ length l.other;
}
