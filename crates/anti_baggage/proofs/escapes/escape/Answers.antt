use Rattle.std.proofs.Common.{◌≡◌, ◌≤◌, ◌+◌, length, take, get_or, arith, ap}
use Rattle.std.proofs.lemmas.Bool.{false≢true}
use Rattle.anti_baggage.specs.Escapes.{escaped, escaped_byte}
use Rattle.anti_baggage.proofs.Bytes.{escaped_within}
use Rattle.anti_baggage.proofs.escapes.escape.Goals as goal

pub returns-in_err-append-clause-room : goal.returns-in_err-append-clause-room
returns-in_err-append-clause-room c = λ room.
    let bytes = c.args.bytes.now in
    let at = c.loop-byte.byte-index in
    let so_far : length (escaped (take at bytes)) + length (escaped_byte (get_or bytes at 0)) ≤ length (escaped bytes) = escaped_within bytes at c.loop-byte-test.true in
    let next : length c.escaped_byte.result.now ≡ length (escaped_byte (get_or bytes at 0)) = ap length c.escaped_byte.ensures in
    absurd (false≢true (c.in_err-append.ensures.room (omega (arith, room, ap (λ l. l.spare) c.loop-byte.invariant, next, so_far))))
