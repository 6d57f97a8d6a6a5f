use Rattle.std.proofs.Common.{◌≡◌, List, Some, ap, ◌∙◌, arith}
use Rattle.std.specs.Prelude.{is_some, slice_get}
use Rattle.anti_object.specs.declared.object.Object.{Object}
use Rattle.anti_shared.specs.Passes.{PassView, rest_of}
use Rattle.anti_live.specs.Clients.{id_of_pass, id_of_shared, starts_in}
use Rattle.anti_live.proofs.Belonging.{same_long}
use Rattle.anti_live.proofs.Places.{found_at}
use Rattle.anti_live.proofs.PassCalls.{is_answered, others_stay, rests_stay, same_id, starts_stay, still_are, there}
use Rattle.anti_live.proofs.port.LivePortWaitPort.call_wait.Goals as goal

pub call_wait-requires : goal.call_wait-requires
call_wait-requires g c =
    let shareds = c.self.inside.shareds.now in
    let passes = c.self.inside.passes.items in
    let many = same_long shareds passes c.self.invariant.ids in
    let within = there passes c.args.object (ap (λ (v : List (PassView Object)). is_some (starts_in v c.args.object)) c.self.view_is ∙ c.requires) in
    let x_is : slice_get shareds c.args.object ≡ Some c.index-self-at.result = found_at shareds c.args.object c.index-self-at.result (omega (arith, many, within)) c.index-self-at.is in
    let pass_is : slice_get passes c.args.object ≡ Some c.index_mut.result.now = found_at passes c.args.object c.index_mut.result.now within c.index_mut.ensures.value in
    same_id shareds passes c.args.object c.index-self-at.result c.index_mut.result.now c.self.invariant x_is pass_is ∙ ap id_of_shared c.index-self-at.is

pub invariant_of-self : goal.invariant_of-self
invariant_of-self g c =
    let shareds = c.self.inside.shareds.now in
    let passes = c.self.inside.passes.items in
    let many = same_long shareds passes c.self.invariant.ids in
    let within = there passes c.args.object (ap (λ (v : List (PassView Object)). is_some (starts_in v c.args.object)) c.self.view_is ∙ c.requires) in
    let x_is : slice_get shareds c.args.object ≡ Some c.index-self-at.result = found_at shareds c.args.object c.index-self-at.result (omega (arith, many, within)) c.index-self-at.is in
    let pass_is : slice_get passes c.args.object ≡ Some c.index_mut.result.now = found_at passes c.args.object c.index_mut.result.now within c.index_mut.ensures.value in
    still_are shareds passes c.args.object c.index-self-at.result c.index_mut.result.now c.self.invariant x_is pass_is c.call_wait.new.pass (ap id_of_pass c.call_wait.ensures.pass)

pub returns-clause-answer : goal.returns-clause-answer
returns-clause-answer g c =
    let shareds = c.self.inside.shareds.now in
    let passes = c.self.inside.passes.items in
    let many = same_long shareds passes c.self.invariant.ids in
    let within = there passes c.args.object (ap (λ (v : List (PassView Object)). is_some (starts_in v c.args.object)) c.self.view_is ∙ c.requires) in
    let x_is : slice_get shareds c.args.object ≡ Some c.index-self-at.result = found_at shareds c.args.object c.index-self-at.result (omega (arith, many, within)) c.index-self-at.is in
    let pass_is : slice_get passes c.args.object ≡ Some c.index_mut.result.now = found_at passes c.args.object c.index_mut.result.now within c.index_mut.ensures.value in
    rw (← c.self.view_is) (is_answered shareds passes c.args.object c.index-self-at.result c.index_mut.result.now c.self.invariant x_is pass_is c.call_wait.new.pass c.args.actor c.args.span c.args.clock c.args.c c.call_wait.result c.call_wait.ensures.answer)

pub returns-clause-others : goal.returns-clause-others
returns-clause-others g c =
    let shareds = c.self.inside.shareds.now in
    let passes = c.self.inside.passes.items in
    let many = same_long shareds passes c.self.invariant.ids in
    let within = there passes c.args.object (ap (λ (v : List (PassView Object)). is_some (starts_in v c.args.object)) c.self.view_is ∙ c.requires) in
    let x_is : slice_get shareds c.args.object ≡ Some c.index-self-at.result = found_at shareds c.args.object c.index-self-at.result (omega (arith, many, within)) c.index-self-at.is in
    let pass_is : slice_get passes c.args.object ≡ Some c.index_mut.result.now = found_at passes c.args.object c.index_mut.result.now within c.index_mut.ensures.value in
    rw (← c.self.view_is) (others_stay shareds passes c.args.object c.index-self-at.result c.index_mut.result.now c.self.invariant x_is pass_is c.call_wait.new.pass)

pub returns-clause-fixed : goal.returns-clause-fixed
returns-clause-fixed g c =
    let shareds = c.self.inside.shareds.now in
    let passes = c.self.inside.passes.items in
    let many = same_long shareds passes c.self.invariant.ids in
    let within = there passes c.args.object (ap (λ (v : List (PassView Object)). is_some (starts_in v c.args.object)) c.self.view_is ∙ c.requires) in
    let x_is : slice_get shareds c.args.object ≡ Some c.index-self-at.result = found_at shareds c.args.object c.index-self-at.result (omega (arith, many, within)) c.index-self-at.is in
    let pass_is : slice_get passes c.args.object ≡ Some c.index_mut.result.now = found_at passes c.args.object c.index_mut.result.now within c.index_mut.ensures.value in
    rw (← c.self.view_is) (starts_stay shareds passes c.args.object c.index-self-at.result c.index_mut.result.now c.self.invariant x_is pass_is c.call_wait.new.pass (ap id_of_pass c.call_wait.ensures.pass))

pub returns-clause-rest : goal.returns-clause-rest
returns-clause-rest g c =
    let shareds = c.self.inside.shareds.now in
    let passes = c.self.inside.passes.items in
    let many = same_long shareds passes c.self.invariant.ids in
    let within = there passes c.args.object (ap (λ (v : List (PassView Object)). is_some (starts_in v c.args.object)) c.self.view_is ∙ c.requires) in
    let x_is : slice_get shareds c.args.object ≡ Some c.index-self-at.result = found_at shareds c.args.object c.index-self-at.result (omega (arith, many, within)) c.index-self-at.is in
    let pass_is : slice_get passes c.args.object ≡ Some c.index_mut.result.now = found_at passes c.args.object c.index_mut.result.now within c.index_mut.ensures.value in
    rw (← c.self.view_is) (rests_stay shareds passes c.args.object c.index-self-at.result c.index_mut.result.now c.self.invariant x_is pass_is c.call_wait.new.pass (ap rest_of c.call_wait.ensures.pass))
