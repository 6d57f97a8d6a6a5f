use Rattle.std.proofs.Common.{map, sym, ap, ◌∙◌, subst}
use Rattle.std.proofs.lemmas.Result.{IfOk-weaker}
use Rattle.anti_session.specs.Sessions.{AreSessionsOf}
use Rattle.anti_session.proofs.session_spans.session_answers.Goals as goal

pub returns : goal.returns
returns c =
    let trace = c.args.trace.now in
    IfOk-weaker c.answered_of.result _ _
    (λ answers are. record {
      sessions = subst (AreSessionsOf trace) (sym
          (are.spans ∙ ap (map (λ s. s.span)) c.as_slice.ensures.value)) c.in_ok-listed.ensures.sessions;
      answered = are.answered;
    })
    c.answered_of.ensures
