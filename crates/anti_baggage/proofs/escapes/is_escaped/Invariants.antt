use Rattle.std.proofs.Common.{◌≡◌, drop}
use Rattle.std.specs.Str.{bytes_eq}
use Rattle.anti_baggage.specs.Escapes.{escaped}
use Rattle.anti_baggage.proofs.escapes.is_escaped.Given as goal

-- the whole text is as it should be where the rest of it is
abbrev pub invariant-loop-byte : goal.invariant-loop-byte
invariant-loop-byte l = bytes_eq (escaped (drop l.byte-index l.bytes)) l.rest ≡ bytes_eq (escaped l.bytes) l.fn.text
