use Rattle.std.proofs.Common.{◌≡◌, ◌++◌, ℕ, List, [], ◌∷◌, Some, map, refl, sym, ap, ◌∙◌, append-nil}
use Rattle.std.specs.Prelude.{Option}
use Rattle.anti_kind.specs.declared.entry.Entry.{Entry}
use Rattle.anti_trace.specs.declared.mark.Mark.{Mark}
use Rattle.anti_order.specs.Answers.{mark_at}
use Rattle.anti_doctor.specs.declared.diagnosis.Finding.{Finding}
use Rattle.anti_doctor.specs.Missed.{Pair}
use Rattle.anti_doctor.specs.inner.Findings.{pair_of}
use Rattle.anti_doctor.proofs.findings.told.Goals as goal

-- the marks of pairs, by the entries of the map
reads_of : (trace : List Entry) (es : List (ℕ × ℕ))
    → map (λ (p : Pair). mark_at trace p.read) (map pair_of es) ≡ map (λ (e : ℕ × ℕ). mark_at trace e.1) es
reads_of trace [] = refl
reads_of trace (e ∷ es) = ap (λ (ms : List (Option Mark)). mark_at trace e.1 ∷ ms) (reads_of trace es)

writes_of : (trace : List Entry) (es : List (ℕ × ℕ))
    → map (λ (p : Pair). mark_at trace p.write) (map pair_of es) ≡ map (λ (e : ℕ × ℕ). mark_at trace e.0) es
writes_of trace [] = refl
writes_of trace (e ∷ es) = ap (λ (ms : List (Option Mark)). mark_at trace e.0 ∷ ms) (writes_of trace es)

pub returns : goal.returns
returns c =
    let trace = c.args.trace.now in
    let es = c.args.found.now.entries in
    let findings = c.loop-write.findings.items in
    let gives = c.into_iter-write-iterator.ensures.into_iter_gives in
    let read : Finding → Option Mark = λ f. Some f.read in
    let write : Finding → Option Mark = λ f. Some f.write in (
      reads_of trace es
          ∙ ap (map (λ (e : ℕ × ℕ). mark_at trace e.1)) (sym gives.0)
          ∙ sym c.loop-write.invariant.reads
          ∙ ap (λ (xs : List (ℕ × ℕ)). map read findings ++ map (λ (e : ℕ × ℕ). mark_at trace e.1) xs) c.in-None.ensures.steps.0
          ∙ append-nil (map read findings),
      writes_of trace es
          ∙ ap (map (λ (e : ℕ × ℕ). mark_at trace e.0)) (sym gives.0)
          ∙ sym c.loop-write.invariant.writes
          ∙ ap (λ (xs : List (ℕ × ℕ)). map write findings ++ map (λ (e : ℕ × ℕ). mark_at trace e.0) xs) c.in-None.ensures.steps.0
          ∙ append-nil (map write findings),
    )
