use Rattle.std.proofs.Common.{◌≡◌, ℕ, List, ap, ◌∙◌}
use Rattle.std.specs.Prelude.{Option, Some, slice_get}
use Rattle.std.specs.Option.{option_and_then}
use Rattle.std.proofs.lemmas.Result.{on_ok_weaker}
use Rattle.anti_doctor.specs.inner.Findings.{past_by, with_findings}
use Rattle.anti_doctor.proofs.Telling.{always_kept, past_told}
use Rattle.anti_doctor.proofs.grounds.Grounds.note_read.Goals as goal

pub unreachable-requires : goal.unreachable-requires
unreachable-requires c =
    always_kept c.args.trace.now c.args.self.now.sets.items c.requires.grounds.sets c.args.read c.requires.read
    (c.in_default.ensures
    ∙ ap (λ (xs : List (Option (List ℕ))). option_and_then (λ (kept : Option (List ℕ)). kept) (slice_get xs c.args.read)) c.as_slice.ensures.value)

pub returns : goal.returns
returns c =
    let trace = c.args.trace.now in
    let sets = c.args.self.now.sets.items in
    let set : List ℕ = c.in-Some.set.now in
    let kept : Some set ≡ option_and_then (λ (kept : Option (List ℕ)). kept) (slice_get sets c.args.read) =
    c.in-Some.ensures
    ∙ ap (λ (xs : List (Option (List ℕ))). option_and_then (λ (kept : Option (List ℕ)). kept) (slice_get xs c.args.read)) c.as_slice.ensures.value in
    let missed = c.in_ok-missed.ensures (past_by c.args.self.now trace) (λ i writes. past_told trace sets c.args.read set kept i) in
    on_ok_weaker c.note_all.result
    (λ is. (
      c.in_ok-missed.missed.items,
      missed,
      is ∙ ap (λ (xs : List ℕ). with_findings c.args.read xs c.args.found.now.entries) c.as_slice-2.ensures.value,
    ))
    c.note_all.ensures
