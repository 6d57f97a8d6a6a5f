use Rattle.std.proofs.Common.{map, sym, ap, ◌∙◌, subst}
use Rattle.std.proofs.lemmas.Result.{IfOk-weaker}
use Rattle.anti_past.specs.Spans.{AreSpansOf}
use Rattle.anti_doctor.proofs.examining.diagnoses.Goals as goal

pub returns : goal.returns
returns c =
    let trace = c.args.trace.now in
    IfOk-weaker c.diagnosed_of.result _ _
    (λ diagnoses are. record {
      spans = subst (AreSpansOf trace) (sym (are.spans ∙ ap (map (λ s. s.span)) c.as_slice.ensures.value)) c.in_ok-spans.ensures.spans;
      diagnosed = are.diagnosed;
    })
    c.diagnosed_of.ensures
