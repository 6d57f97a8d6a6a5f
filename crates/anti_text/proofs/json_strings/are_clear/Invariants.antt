use Rattle.std.proofs.Common.{take}
use Rattle.std.specs.Prelude.{IsTrue}
use Rattle.anti_text.specs.inner.Quoting.{AreClear}
use Rattle.anti_text.proofs.json_strings.are_clear.Given as goal

-- where no byte so far needs an escape, the bytes so far stand as they are
abbrev pub invariant-loop-byte : goal.invariant-loop-byte
invariant-loop-byte l = IsTrue l.clear → AreClear (take l.byte-index l.bytes)
