-- How a list stands in parts.
use Rattle.std.specs.Prelude.{◌≡◌, ℕ, ◌+◌, ◌<◌, ◌≤◌, List, [], ◌∷◌, ◌++◌, length, take, drop, get_or, Option, None, Some, Result, Ok, Err}
use Rattle.anti_ids.specs.declared.id.WriteId.{WriteId}

-- the parts, one after another
abbrev pub joined : List (List WriteId) → List WriteId
joined [] = []
joined (part ∷ parts) = part ++ joined parts

-- a list with an id at an index
abbrev pub put_at : ℕ → WriteId → List WriteId → List WriteId
put_at at i ids = take at ids ++ i ∷ drop at ids

-- the list with an id at an index of a part
abbrev pub put_in : List (List WriteId) → ℕ → ℕ → WriteId → List WriteId
put_in parts number within i = put_at (length (joined (take number parts)) + within) i (joined parts)

-- an index of the list is one of a part, or the end of it
pub record IsPartAt (parts : List (List WriteId)) (at number within : ℕ) : Type 0 where
  pub among : number < length parts
  pub inside : within ≤ length (get_or parts number [])
  pub place : length (joined (take number parts)) + within ≡ at

-- where an index stands in parts; where there are none it stands in none
abbrev pub FindsPart : List (List WriteId) → ℕ → Option (ℕ × ℕ) → Type 0
FindsPart parts at None = parts ≡ []
FindsPart parts at (Some place) = IsPartAt parts at place.0 place.1

-- a place in a part, counted from the first of all parts
abbrev pub shifted : ℕ → Result ℕ ℕ → Result ℕ ℕ
shifted start (Ok at) = Ok (start + at)
shifted start (Err at) = Err (start + at)
