use Rattle.std.proofs.Common.{◌≡◌, ◌+◌, ◌==◌, drop}
use Rattle.std.specs.List.{position_or_len}
use Rattle.anti_ids.specs.Ascii.{dot}
use Rattle.anti_app.proofs.choice.first_dot.Given as goal

-- no dot stands before
abbrev pub invariant-loop-place : goal.invariant-loop-place
invariant-loop-place l =
    position_or_len (λ byte. byte == dot) l.word ≡ l.place + position_or_len (λ byte. byte == dot) (drop l.place l.word)
