use Rattle.std.proofs.Common.{◌≡◌, ◌≤◌, length, sym, ap, ◌∙◌, arith}
use Rattle.anti_ids.specs.declared.limits.TheConstants.{LONGEST_VALUE}
use Rattle.anti_ids.specs.declared.value.ValueFault.TheVariants.{TooLong, BadUtf8, NoMemory}
use Rattle.anti_app.proofs.Payloads.{only_memory}
use Rattle.anti_app.proofs.request.value_of.Goals as goal

too_long : TooLong ≡ NoMemory → ⊥
too_long same = absurd (cc)

bad : BadUtf8 ≡ NoMemory → ⊥
bad same = absurd (cc)

pub unreachable-requires : goal.unreachable-requires
unreachable-requires c =
    let as_long = ap length c.as_bytes.ensures.value in
    let short : length c.as_bytes.result.now ≤ LONGEST_VALUE = omega (arith, as_long, c.requires) in
    only_memory c.as_bytes.result.now c.in-Err-TooLong.field-0 c.as_bytes.ensures.utf8 short c.in-Err-TooLong.ensures (λ same. too_long (sym c.in-Err-TooLong.field-0-is ∙ same))

pub unreachable-requires-in-Err-BadUtf8 : goal.unreachable-requires-in-Err-BadUtf8
unreachable-requires-in-Err-BadUtf8 c =
    let as_long = ap length c.as_bytes.ensures.value in
    let short : length c.as_bytes.result.now ≤ LONGEST_VALUE = omega (arith, as_long, c.requires) in
    only_memory c.as_bytes.result.now c.in-Err-BadUtf8.field-0 c.as_bytes.ensures.utf8 short c.in-Err-BadUtf8.ensures (λ same. bad (sym c.in-Err-BadUtf8.field-0-is ∙ same))
