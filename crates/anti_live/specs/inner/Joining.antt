-- How the passes of a client are joined into those of another, from the last one on.
use Rattle.std.specs.Prelude.{◌≡◌, List, [], ◌∷◌, ◌++◌, length, take, drop}
use Rattle.anti_object.specs.declared.object.Object.{Object}
use Rattle.anti_shared.specs.Passes.{IsJoined, PassView}

-- Each was joined into the one at its place.
abbrev pub AllJoined : List (PassView Object) → List (PassView Object) → List (PassView Object) → Type 0
AllJoined [] [] [] = Unit {0}
AllJoined (one ∷ old) (other ∷ from) (both ∷ new) = IsJoined one other both × AllJoined old from new
AllJoined _ _ _ = ⊥

-- Of the passes to be joined these are left, and those behind them were joined.
pub record AreJoining (old from left new : List (PassView Object)) : Type 0 where
  pub gone : List (PassView Object)
  pub done : List (PassView Object)
  pub whole : from ≡ left ++ gone
  pub now : new ≡ take (length left) old ++ done
  pub joined : AllJoined (drop (length left) old) gone done
