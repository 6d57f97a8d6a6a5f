use Rattle.std.proofs.Common.{◌≡◌, ℕ, ◌+◌, ◌<◌, List, length, get_or, take, refl, sym, ap, ◌∙◌, subst}
use Rattle.std.specs.Prelude.{All, true}
use Rattle.std.proofs.lemmas.List.{take_all}
use Rattle.std.proofs.lemmas.List.Elements.{All-same}
use Rattle.anti_kind.specs.declared.entry.Entry.{Entry}
use Rattle.law_causal.specs.Reads.{is_at, reads_of}
use Rattle.law_causal.specs.Words.{reads}
use Rattle.anti_past.specs.declared.span_reads.ReadsOfSpan.{ReadsOfSpan}
use Rattle.anti_order.proofs.ReadPlaces.{are_reads}
use Rattle.anti_doctor.specs.Diagnoses.{IsDiagnosis}
use Rattle.anti_doctor.specs.declared.diagnosis.SpanDiagnosis.{SpanDiagnosis}
use Rattle.anti_doctor.specs.inner.Diagnosed.{AreDiagnosesFor}
use Rattle.anti_doctor.proofs.DiagnosesMore.{diagnoses_more}
use Rattle.anti_doctor.proofs.examining.diagnosed.Goals as goal

-- what is known of all spans is known of one
reads_in : (trace : List Entry) (spans : List ReadsOfSpan) (k : ℕ) (s : ReadsOfSpan) → k < length spans → s ≡ get_or spans k s
    → All (λ x. x.reads.items ≡ reads_of trace x.span.birth x.span.span) spans → s.reads.items ≡ reads_of trace s.span.birth s.span.span
reads_in trace spans k s low is all =
    subst (λ (x : ReadsOfSpan). x.reads.items ≡ reads_of trace x.span.birth x.span.span) (sym is) (all k s low)

pub diagnosis-requires-clause-reads : goal.diagnosis-requires-clause-reads
diagnosis-requires-clause-reads c =
    let trace = c.args.trace.now in
    let s = c.reads-item.result in
    let its = reads_in trace c.args.spans.now c.loop-reads.reads-index s c.loop-reads-test.true c.reads-item.is c.requires.reads in
    All-same (λ r. is_at (λ e. reads e.call) trace r ≡ true) c.as_slice.result.now (reads_of trace s.span.birth s.span.span)
    (c.as_slice.ensures.value ∙ its) (are_reads trace s.span.birth s.span.span)

pub loop-reads-preserved : goal.loop-reads-preserved
loop-reads-preserved c =
    let trace = c.args.trace.now in
    let s = c.reads-item.result in
    let d : SpanDiagnosis = record { span = s.span; diagnosis = c.in_ok-diagnosis.field-0 } in
    let its = reads_in trace c.args.spans.now c.loop-reads.reads-index s c.loop-reads-test.true c.reads-item.is c.requires.reads in
    let examined = subst (λ (rs : List ℕ). IsDiagnosis trace rs c.in_ok-diagnosis.field-0) (c.as_slice.ensures.value ∙ its) c.in_ok-diagnosis.ensures in
    subst (λ (all : List SpanDiagnosis). AreDiagnosesFor trace (take (c.loop-reads.reads-index + 1) c.args.spans.now) all) (sym (ap (λ l. l.items) c.in_ok-add.ensures))
    (diagnoses_more trace c.args.spans.now c.loop-reads.reads-index s c.loop-reads.diagnoses.items d c.loop-reads-test.true c.reads-item.is
    c.loop-reads.invariant refl examined)

pub returns : goal.returns
returns c =
    let past = c.loop-reads-test.false in
    subst (λ (ss : List ReadsOfSpan). AreDiagnosesFor c.args.trace.now ss c.loop-reads.diagnoses.items)
    (take_all c.loop-reads.reads-index c.args.spans.now past) c.loop-reads.invariant
