use Rattle.std.proofs.Common.{List, ℕ, drop, sym, ◌∙◌, ◌+◌, get_or}
use Rattle.std.specs.Str.{bytes_eq}
use Rattle.std.proofs.lemmas.List.{at_drop_more}
use Rattle.anti_baggage.specs.Escapes.{escaped}
use Rattle.anti_baggage.proofs.Bytes.{behind_byte, other_byte}
use Rattle.anti_baggage.proofs.escapes.is_escaped.Goals as goal

pub returns-in-None : goal.returns-in-None
returns-in-None c =
    let bytes = c.args.bytes.now in
    let at = c.loop-byte.byte-index in
    let rest = c.loop-byte.rest.now in
    sym (other_byte (get_or bytes at 0) (drop (at + 1) bytes) c.escaped_byte.result.now rest c.escaped_byte.ensures c.in-None.ensures.cases)
    ∙ sym (at_drop_more (λ (x : List ℕ). bytes_eq (escaped x) rest) bytes at 0 c.loop-byte-test.true) ∙ c.loop-byte.invariant

pub loop-byte-preserved : goal.loop-byte-preserved
loop-byte-preserved c =
    let bytes = c.args.bytes.now in
    let at = c.loop-byte.byte-index in
    let rest = c.loop-byte.rest.now in
    sym (behind_byte (get_or bytes at 0) (drop (at + 1) bytes) c.escaped_byte.result.now rest c.in-Some.behind.now c.escaped_byte.ensures c.in-Some.ensures.cases.0 c.in-Some.ensures.cases.1)
    ∙ sym (at_drop_more (λ (x : List ℕ). bytes_eq (escaped x) rest) bytes at 0 c.loop-byte-test.true) ∙ c.loop-byte.invariant
