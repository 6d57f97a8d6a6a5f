use Rattle.std.proofs.Common.{◌≡◌, ℕ, List, sym, ap, ◌∙◌}
use Rattle.std.specs.Prelude.{Option, Some, slice_get}
use Rattle.std.specs.Option.{option_and_then}
use Rattle.law_causal.specs.Words.{reads}
use Rattle.anti_order.specs.inner.NumberSets.{has, room, room_for}
use Rattle.anti_order.specs.inner.Writes.{number_at, write_places}
use Rattle.anti_order.proofs.Places.{is_at_within}
use Rattle.anti_doctor.specs.inner.Findings.{past_by}
use Rattle.anti_doctor.proofs.Telling.{always_kept, as_many, past_told, tells_before}
use Rattle.anti_doctor.proofs.grounds.Grounds.add_read.Goals as goal

pub unreachable-requires : goal.unreachable-requires
unreachable-requires c =
    always_kept c.args.trace.now c.args.self.now.sets.items c.requires.grounds.sets c.args.read c.requires.read
    (c.in_default.ensures
    ∙ ap (λ (xs : List (Option (List ℕ))). option_and_then (λ (kept : Option (List ℕ)). kept) (slice_get xs c.args.read)) c.as_slice.ensures.value)

pub add_read-requires-clause-read : goal.add_read-requires-clause-read
add_read-requires-clause-read c = is_at_within (λ e. reads e.call) c.args.trace.now c.args.read c.requires.read

pub add_read-requires-clause-room : goal.add_read-requires-clause-room
add_read-requires-clause-room c =
    let trace = c.args.trace.now in
    let sets = c.args.self.now.sets.items in
    let set : List ℕ = c.in-Some.set.now in
    let kept : Some set ≡ option_and_then (λ (kept : Option (List ℕ)). kept) (slice_get sets c.args.read) =
    c.in-Some.ensures
    ∙ ap (λ (xs : List (Option (List ℕ))). option_and_then (λ (kept : Option (List ℕ)). kept) (slice_get xs c.args.read)) c.as_slice.ensures.value in
    let tells = tells_before trace sets c.requires.grounds.sets c.args.read set c.requires.read kept in
    let count = as_many trace (write_places trace) c.args.self.now.writes.marks.items c.requires.grounds.writes.marks in
    ap room c.in_ok-copied.ensures ∙ tells.room ∙ ap room_for (sym count) ∙ sym c.requires.over.room

pub returns-clause-over : goal.returns-clause-over
returns-clause-over c = c.add_read.ensures.over c.args.self.now.writes c.requires.over

pub returns-clause-added : goal.returns-clause-added
returns-clause-added c = λ all rest so_far.
    let trace = c.args.trace.now in
    let sets = c.args.self.now.sets.items in
    let set : List ℕ = c.in-Some.set.now in
    let kept : Some set ≡ option_and_then (λ (kept : Option (List ℕ)). kept) (slice_get sets c.args.read) =
    c.in-Some.ensures
    ∙ ap (λ (xs : List (Option (List ℕ))). option_and_then (λ (kept : Option (List ℕ)). kept) (slice_get xs c.args.read)) c.as_slice.ensures.value in
    c.add_read.ensures.added c.args.self.now.writes (past_by c.args.self.now trace) all rest c.requires.grounds.writes so_far
    (λ i writes.
    ap (λ (xs : List ℕ). has xs (number_at trace i)) c.in_ok-copied.ensures ∙ sym (past_told trace sets c.args.read set kept i))
