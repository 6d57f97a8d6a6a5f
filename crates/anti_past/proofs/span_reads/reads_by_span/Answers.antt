use Rattle.std.proofs.Common.{arith, ◌≡◌, ◌++◌, map, refl, sym, ap, ◌∙◌, subst}
use Rattle.std.proofs.lemmas.Grind.{common_steps}
use Rattle.std.proofs.lemmas.List.{append-nil}
use Rattle.anti_past.specs.Told.{AreReadsBySpan}
use Rattle.anti_past.specs.inner.Reading.{reads_under}
use Rattle.anti_past.proofs.SpansRead.{are_reads_by_span}
use Rattle.anti_past.proofs.span_reads.reads_by_span.Goals as goal

pub returns : goal.returns
returns c =
    let trace = c.args.trace.now in
    let noted = c.in_ok-items.items in
    let gives = c.into_iter-key-iterator.ensures.into_iter_gives in
    let spans = c.loop-key.spans.items in
    let all : spans ≡ map reads_under noted.entries =
    sym (append-nil spans)
    ∙ ap (λ es. spans ++ map reads_under es) (sym c.in-None.ensures.steps.0)
    ∙ c.loop-key.invariant
    ∙ ap (map reads_under) gives.0 in
    subst (AreReadsBySpan trace) (sym all) (are_reads_by_span trace _ noted refl gives.5 c.in_ok-items.ensures)

pub loop-key-preserved : goal.loop-key-preserved
loop-key-preserved c = grind (arith, common_steps)
