use Rattle.std.proofs.Common.{◌≡◌, take}
use Rattle.anti_baggage.specs.Escapes.{escaped}
use Rattle.anti_text.proofs.plain.is_plain.Given as goal

-- the bytes so far are their own escaped form
abbrev pub invariant-loop-byte : goal.invariant-loop-byte
invariant-loop-byte l = escaped (take l.byte-index l.bytes) ≡ take l.byte-index l.bytes
