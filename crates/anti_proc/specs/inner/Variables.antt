-- Where a variable stands among others.
use Rattle.std.specs.Prelude.{ℕ, suc, List, [], ◌∷◌, if◌then◌else◌}
use Rattle.std.specs.Str.{bytes_eq}
use Rattle.anti_proc.specs.declared.variables.Variable.{Variable}

-- the place of the variable with a name among these, counted from 0; how many they are, where none has the name
abbrev pub place_among : List Variable → List ℕ → ℕ
place_among [] name = 0
place_among (v ∷ vs) name = if bytes_eq v.name name then 0 else suc (place_among vs name)
