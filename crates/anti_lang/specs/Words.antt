-- The words of a line.
use Rattle.std.specs.Prelude.{ℕ, List, not, ◌==◌, length, filter}
use Rattle.std.specs.List.{slice_split}
use Rattle.anti_ids.specs.Ascii.{space}

-- What stands between spaces and has a byte.
abbrev pub words : List ℕ → List (List ℕ)
words text = filter (λ piece. not (length piece == 0)) (slice_split (λ b. b == space) text)
