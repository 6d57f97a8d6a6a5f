use Rattle.std.proofs.Common.{ℕ, ◌<◌, List, length, ◌∙◌, subst}
use Rattle.std.specs.Prelude.{IfOk}
use Rattle.std.proofs.lemmas.List.Elements.{All-same}
use Rattle.anti_order.specs.Answers.{AreMarksOf}
use Rattle.anti_session.specs.Members.{members}
use Rattle.anti_session.proofs.Adding.{all_within}
use Rattle.anti_session.proofs.span_members.members.Goals as goal

pub marks_of-requires : goal.marks_of-requires
marks_of-requires c =
    let trace = c.args.trace.now in
    All-same (λ x. x < length trace) c.as_slice.result.now (members trace c.args.birth c.args.span)
    (c.as_slice.ensures.value ∙ c.in_ok-places.ensures)
    (all_within trace (c.members_are_a_chain.ensures.chain c.args.app.now trace c.requires.legal) c.args.birth c.args.span)

pub returns : goal.returns
returns c =
    subst (λ (xs : List ℕ). IfOk c.marks_of.result (λ marks. AreMarksOf c.args.trace.now xs marks.items))
    (c.as_slice.ensures.value ∙ c.in_ok-places.ensures) c.marks_of.ensures
