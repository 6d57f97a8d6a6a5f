use Rattle.std.proofs.Common.{◌≡◌, ◌<◌, Some, length, ap, arith}
use Rattle.std.specs.Prelude.{slice_get}
use Rattle.anti_shared.specs.Passes.{rest_of}
use Rattle.anti_live.specs.Clients.{id_of_pass}
use Rattle.anti_live.proofs.Belonging.{same_long}
use Rattle.anti_live.proofs.Places.{found_at}
use Rattle.anti_live.proofs.PassCalls.{is_answered, others_stay, rests_stay, same_id, starts_stay, still_are}
use Rattle.anti_live.proofs.port.LivePortPort.call.Goals as goal

pub call-requires : goal.call-requires
call-requires g c =
    let shareds = c.self.inside.shareds.now in
    let passes = c.self.inside.passes.items in
    let many = same_long shareds passes c.self.invariant.ids in
    let within : c.args.object < length shareds = omega arith in
    let x_is : slice_get shareds c.args.object ≡ Some c.index-shareds-at.result = found_at shareds c.args.object c.index-shareds-at.result within c.index-shareds-at.is in
    let pass_is : slice_get passes c.args.object ≡ Some c.index_mut.result.now = found_at passes c.args.object c.index_mut.result.now (omega (arith, many, within)) c.index_mut.ensures.value in
    same_id shareds passes c.args.object c.index-shareds-at.result c.index_mut.result.now c.self.invariant x_is pass_is

pub invariant_of-self : goal.invariant_of-self
invariant_of-self g c =
    let shareds = c.self.inside.shareds.now in
    let passes = c.self.inside.passes.items in
    let many = same_long shareds passes c.self.invariant.ids in
    let within : c.args.object < length shareds = omega arith in
    let x_is : slice_get shareds c.args.object ≡ Some c.index-shareds-at.result = found_at shareds c.args.object c.index-shareds-at.result within c.index-shareds-at.is in
    let pass_is : slice_get passes c.args.object ≡ Some c.index_mut.result.now = found_at passes c.args.object c.index_mut.result.now (omega (arith, many, within)) c.index_mut.ensures.value in
    still_are shareds passes c.args.object c.index-shareds-at.result c.index_mut.result.now c.self.invariant x_is pass_is c.call.new.pass (ap id_of_pass c.call.ensures.pass)

pub returns-clause-answer : goal.returns-clause-answer
returns-clause-answer g c =
    let shareds = c.self.inside.shareds.now in
    let passes = c.self.inside.passes.items in
    let many = same_long shareds passes c.self.invariant.ids in
    let within : c.args.object < length shareds = omega arith in
    let x_is : slice_get shareds c.args.object ≡ Some c.index-shareds-at.result = found_at shareds c.args.object c.index-shareds-at.result within c.index-shareds-at.is in
    let pass_is : slice_get passes c.args.object ≡ Some c.index_mut.result.now = found_at passes c.args.object c.index_mut.result.now (omega (arith, many, within)) c.index_mut.ensures.value in
    rw (← c.self.view_is) (is_answered shareds passes c.args.object c.index-shareds-at.result c.index_mut.result.now c.self.invariant x_is pass_is c.call.new.pass c.args.actor c.args.span c.args.clock c.args.c c.call.result c.call.ensures.answer)

pub returns-clause-others : goal.returns-clause-others
returns-clause-others g c =
    let shareds = c.self.inside.shareds.now in
    let passes = c.self.inside.passes.items in
    let many = same_long shareds passes c.self.invariant.ids in
    let within : c.args.object < length shareds = omega arith in
    let x_is : slice_get shareds c.args.object ≡ Some c.index-shareds-at.result = found_at shareds c.args.object c.index-shareds-at.result within c.index-shareds-at.is in
    let pass_is : slice_get passes c.args.object ≡ Some c.index_mut.result.now = found_at passes c.args.object c.index_mut.result.now (omega (arith, many, within)) c.index_mut.ensures.value in
    rw (← c.self.view_is) (others_stay shareds passes c.args.object c.index-shareds-at.result c.index_mut.result.now c.self.invariant x_is pass_is c.call.new.pass)

pub returns-clause-fixed : goal.returns-clause-fixed
returns-clause-fixed g c =
    let shareds = c.self.inside.shareds.now in
    let passes = c.self.inside.passes.items in
    let many = same_long shareds passes c.self.invariant.ids in
    let within : c.args.object < length shareds = omega arith in
    let x_is : slice_get shareds c.args.object ≡ Some c.index-shareds-at.result = found_at shareds c.args.object c.index-shareds-at.result within c.index-shareds-at.is in
    let pass_is : slice_get passes c.args.object ≡ Some c.index_mut.result.now = found_at passes c.args.object c.index_mut.result.now (omega (arith, many, within)) c.index_mut.ensures.value in
    rw (← c.self.view_is) (starts_stay shareds passes c.args.object c.index-shareds-at.result c.index_mut.result.now c.self.invariant x_is pass_is c.call.new.pass (ap id_of_pass c.call.ensures.pass))

pub returns-clause-rest : goal.returns-clause-rest
returns-clause-rest g c =
    let shareds = c.self.inside.shareds.now in
    let passes = c.self.inside.passes.items in
    let many = same_long shareds passes c.self.invariant.ids in
    let within : c.args.object < length shareds = omega arith in
    let x_is : slice_get shareds c.args.object ≡ Some c.index-shareds-at.result = found_at shareds c.args.object c.index-shareds-at.result within c.index-shareds-at.is in
    let pass_is : slice_get passes c.args.object ≡ Some c.index_mut.result.now = found_at passes c.args.object c.index_mut.result.now (omega (arith, many, within)) c.index_mut.ensures.value in
    rw (← c.self.view_is) (rests_stay shareds passes c.args.object c.index-shareds-at.result c.index_mut.result.now c.self.invariant x_is pass_is c.call.new.pass (ap rest_of c.call.ensures.pass))
