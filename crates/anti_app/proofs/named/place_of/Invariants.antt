use Rattle.std.proofs.Common.{◌≡◌, ◌+◌, drop}
use Rattle.std.specs.List.{position_or_len}
use Rattle.std.specs.Str.{bytes_eq}
use Rattle.anti_app.proofs.named.place_of.Given as goal

-- none of those before has the name
abbrev pub invariant-loop-place : goal.invariant-loop-place
invariant-loop-place g l =
    position_or_len (λ thing. bytes_eq (g.T.Named.named thing) l.name) l.things ≡ l.place + position_or_len (λ thing. bytes_eq (g.T.Named.named thing) l.name) (drop l.place l.things)
