use Rattle.anti_session.specs.Members.{members}
use Rattle.anti_session.proofs.laws.sessions_are_explained.Goals as goal

pub returns : goal.returns
returns c = λ app trace sound legal birth span.
    c.answered_orders_explain.ensures.chains app trace sound legal (members trace birth span)
    (c.members_are_a_chain.ensures.chain app trace legal birth span).1
