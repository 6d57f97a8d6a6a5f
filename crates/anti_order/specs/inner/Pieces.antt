-- Lists of marks in pieces over the marks of all writes.
use Rattle.std.specs.Prelude.{ℕ, ◌≡◌, ◌+◌, ◌≤◌, Bool, cond, List, [], ◌∷◌, ◌++◌, All, Option, length}
use Rattle.std.specs.Global.{Vec}
use Rattle.std.specs.List.{flat_map, slice_range}
use Rattle.std.specs.Option.{option_map_or}
use Rattle.anti_trace.specs.declared.mark.Mark.{Mark}
use Rattle.anti_order.specs.declared.pieces.Piece.{Piece}
use Rattle.anti_order.specs.declared.pieces.Piece.TheVariants.{Alone, Writes}

-- the marks of all writes, where they are shared
abbrev pub shared : Option (Vec Mark) → List Mark
shared writes = option_map_or (λ marks. marks.items) writes []

-- the marks of a piece
abbrev pub marks_in : List Mark → Piece → List Mark
marks_in writes (Alone mark) = mark ∷ []
marks_in writes (Writes from to) = slice_range writes from to

abbrev pub marks_of : List Mark → List Piece → List Mark
marks_of writes pieces = flat_map (marks_in writes) pieces

-- a piece that names no write beyond the last
abbrev pub IsWithin : List Mark → Piece → Type 0
IsWithin writes (Alone mark) = Unit {0}
IsWithin writes (Writes from to) = (from ≤ to) × (to ≤ length writes)

-- of a list whose first item has the number k, the items whose numbers pass a test
abbrev pub kept_at : {X : Type 0} → (ℕ → Bool) → ℕ → List X → List X
kept_at test k [] = []
kept_at test k (x ∷ xs) = cond (test k) (x ∷ kept_at test (k + 1) xs) (kept_at test (k + 1) xs)

-- to some pieces the writes were added whose numbers pass a test
pub record AddsRuns (writes : List Mark) (test : ℕ → Bool) (old new : List Piece) : Type 0 where
  pub marks : marks_of writes new ≡ marks_of writes old ++ kept_at test 0 writes
  pub within : All (IsWithin writes) old → All (IsWithin writes) new
