use Rattle.std.proofs.Common.{◌≡◌, length, take}
use Rattle.anti_ids.specs.ListCalls.{extended}
use Rattle.anti_baggage.specs.Escapes.{escaped}
use Rattle.anti_baggage.proofs.escapes.escape.Given as goal

-- the bytes so far are added
abbrev pub invariant-loop-byte : goal.invariant-loop-byte
invariant-loop-byte l = l.out ≡ extended l.initial.out (escaped (take l.byte-index l.bytes)) (length (escaped (take l.byte-index l.bytes)))
