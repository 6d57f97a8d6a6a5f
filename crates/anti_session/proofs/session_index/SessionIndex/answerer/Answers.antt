use Rattle.std.proofs.Common.{true, false, sym, ap, ◌∙◌}
use Rattle.std.specs.List.{list_any}
use Rattle.law_causal.specs.Reads.{is_at}
use Rattle.anti_session.specs.Members.{answers}
use Rattle.anti_session.proofs.Indexing.{one_answers}
use Rattle.anti_session.proofs.session_index.SessionIndex.answerer.Goals as goal

pub returns-then-some_answers : goal.returns-then-some_answers
returns-then-some_answers c =
    let trace = c.args.trace.now in
    one_answers trace c.args.inbox c.args.number c.in-Some.birth true (sym (c.taker.ensures trace c.requires) ∙ c.in-Some.is)
    (ap (list_any (is_at (answers c.args.inbox c.args.number) trace)) (sym (c.places.ensures trace c.requires))
    ∙ sym c.some_answers.ensures
    ∙ c.if-some_answers.true)

pub returns : goal.returns
returns c =
    let trace = c.args.trace.now in
    one_answers trace c.args.inbox c.args.number c.in-Some.birth false (sym (c.taker.ensures trace c.requires) ∙ c.in-Some.is)
    (ap (list_any (is_at (answers c.args.inbox c.args.number) trace)) (sym (c.places.ensures trace c.requires))
    ∙ sym c.some_answers.ensures
    ∙ c.if-some_answers.false)
