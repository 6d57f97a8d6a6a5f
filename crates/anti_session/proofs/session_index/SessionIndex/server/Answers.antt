use Rattle.std.proofs.Common.{true, false, sym, ◌∙◌}
use Rattle.anti_session.proofs.Indexing.{served_at}
use Rattle.anti_session.proofs.session_index.SessionIndex.server.Goals as goal

pub returns-then-is_heard : goal.returns-then-is_heard
returns-then-is_heard c = λ birth span is.
    c.answerer.ensures
    ∙ served_at c.args.trace.now birth span c.args.places.now c.args.place c.in-Some.inbox c.in-Some.call true
    (sym c.call_at.ensures ∙ c.in-Some.is) is
    (sym c.is_heard.ensures ∙ c.if-is_heard.true)

pub returns : goal.returns
returns c = λ birth span is.
    served_at c.args.trace.now birth span c.args.places.now c.args.place c.in-Some.inbox c.in-Some.call false
    (sym c.call_at.ensures ∙ c.in-Some.is) is
    (sym c.is_heard.ensures ∙ c.if-is_heard.false)
