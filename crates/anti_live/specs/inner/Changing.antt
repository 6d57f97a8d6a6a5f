-- Lists of which each item is changed in its place, one after another.
use Rattle.std.specs.Prelude.{◌≡◌, ℕ, List, length, take, drop}
use Rattle.std.specs.List.{AllZip}

-- The items before a place have changed, and those from there on are as they were.
pub record HaveChanged {X : Type 0} (R : X → X → Type 0) (old : List X) (at : ℕ) (now : List X) : Type 0 where
  pub long : length now ≡ length old
  pub behind : AllZip R (take at old) (take at now)
  pub ahead : drop at now ≡ drop at old
