use Rattle.std.proofs.Common.{sym, ◌∙◌}
use Rattle.anti_session.proofs.Requests.{none_requested, one_requested}
use Rattle.anti_session.proofs.session_index.SessionIndex.is_requested.Goals as goal

pub returns-in-Some : goal.returns-in-Some
returns-in-Some c =
    c.takes_request_at.ensures
    ∙ one_requested c.args.trace.now c.args.self.now.marks c.requires.marks c.args.birth c.in-Some.place (sym c.in-Some.ensures)

pub returns-in-None : goal.returns-in-None
returns-in-None c = none_requested c.args.trace.now c.args.self.now.marks c.requires.marks c.args.birth (sym c.in-None.ensures)
