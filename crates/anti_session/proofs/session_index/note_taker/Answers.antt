use Rattle.std.proofs.Common.{sym, ◌∙◌}
use Rattle.anti_session.proofs.Indexing.{had, had_not}
use Rattle.anti_session.proofs.session_index.note_taker.Goals as goal

pub returns-then-contains_key : goal.returns-then-contains_key
returns-then-contains_key c = λ inbox number.
    had c.args.entry.now c.in-Some.message (sym c.taken_of.ensures ∙ c.in-Some.is) c.args.takers.now inbox number
    (sym c.contains_key.ensures ∙ c.if-contains_key.true)

pub returns-in-Ok : goal.returns-in-Ok
returns-in-Ok c = λ inbox number.
    had_not c.args.entry.now c.in-Some.message (sym c.taken_of.ensures ∙ c.in-Some.is) c.args.takers.now inbox number c.insert.new.self
    (sym c.contains_key.ensures ∙ c.if-contains_key.false) c.in-Ok.ensures.updates
