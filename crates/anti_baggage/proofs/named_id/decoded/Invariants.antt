use Rattle.std.proofs.Common.{◌≡◌, ◌≤◌, ◌++◌, length, take}
use Rattle.percent_encoding.specs.Iter.{decoded_bytes}
use Rattle.percent_encoding.specs.Percent.{percent_decode}
use Rattle.anti_baggage.proofs.named_id.decoded.Given as goal

-- the bytes so far and those to come are those of the text
abbrev pub invariant-loop-byte : goal.invariant-loop-byte
invariant-loop-byte l = record {
  parts : take l.len l.bytes ++ decoded_bytes l.byte-iterator ≡ percent_decode l.text;
  within : l.len ≤ 32;
  size : length l.bytes ≡ 32;
}
