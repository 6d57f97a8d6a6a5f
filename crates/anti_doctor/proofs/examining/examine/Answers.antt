use Rattle.std.proofs.Common.{◌≡◌, ℕ, List, true, ◌∙◌, subst}
use Rattle.std.specs.Prelude.{IfOk}
use Rattle.std.proofs.lemmas.List.Elements.{All-same}
use Rattle.law_causal.specs.Reads.{is_at, reads_of}
use Rattle.law_causal.specs.Words.{reads}
use Rattle.anti_order.proofs.ReadPlaces.{are_reads}
use Rattle.anti_doctor.specs.Diagnoses.{IsDiagnosis}
use Rattle.anti_doctor.proofs.examining.examine.Goals as goal

pub diagnosis-requires-clause-reads : goal.diagnosis-requires-clause-reads
diagnosis-requires-clause-reads c =
    let trace = c.args.trace.now in
    All-same (λ r. is_at (λ e. reads e.call) trace r ≡ true) c.as_slice.result.now (reads_of trace c.args.birth c.args.span)
    (c.as_slice.ensures.value ∙ c.in_ok-reads.ensures) (are_reads trace c.args.birth c.args.span)

pub returns : goal.returns
returns c =
    subst (λ (rs : List ℕ). IfOk c.diagnosis.result (IsDiagnosis c.args.trace.now rs)) (c.as_slice.ensures.value ∙ c.in_ok-reads.ensures) c.diagnosis.ensures
