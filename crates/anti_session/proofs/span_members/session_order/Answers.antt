use Rattle.std.proofs.Common.{◌≡◌, ℕ, List, true, ◌∙◌, subst}
use Rattle.std.specs.Prelude.{IfOk}
use Rattle.std.proofs.lemmas.List.Elements.{All-same}
use Rattle.law_causal.specs.Reads.{is_at}
use Rattle.law_causal.specs.Words.{reads}
use Rattle.anti_order.specs.Answers.{IsAnswer}
use Rattle.anti_session.specs.Members.{members}
use Rattle.anti_session.proofs.Adding.{all_reads}
use Rattle.anti_session.proofs.span_members.session_order.Goals as goal

pub answer-requires-clause-reads : goal.answer-requires-clause-reads
answer-requires-clause-reads c =
    let trace = c.args.trace.now in
    All-same (λ r. is_at (λ e. reads e.call) trace r ≡ true) c.as_slice.result.now (members trace c.args.birth c.args.span)
    (c.as_slice.ensures.value ∙ c.in_ok-places.ensures)
    (all_reads trace (c.members_are_a_chain.ensures.chain c.args.app.now trace c.requires.legal) c.args.birth c.args.span)

pub returns : goal.returns
returns c =
    subst (λ (rs : List ℕ). IfOk c.answer.result (IsAnswer c.args.app.now c.args.trace.now rs))
    (c.as_slice.ensures.value ∙ c.in_ok-places.ensures)
    (c.answer.ensures c.args.app.now c.in_ok-grounds.ensures)
