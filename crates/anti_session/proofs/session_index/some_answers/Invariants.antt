use Rattle.std.proofs.Common.{◌≡◌, drop}
use Rattle.std.specs.List.{list_any}
use Rattle.law_causal.specs.Reads.{is_at}
use Rattle.anti_session.specs.Members.{answers}
use Rattle.anti_session.proofs.session_index.some_answers.Given as goal

-- whether one of those to come does is whether one does
abbrev pub invariant-loop-place : goal.invariant-loop-place
invariant-loop-place l =
    list_any (is_at (answers l.inbox l.number) l.trace) (drop l.place-index l.places)
    ≡ list_any (is_at (answers l.inbox l.number) l.trace) l.places
