-- How a seat in code stands for its view.
use Rattle.std.specs.Prelude.{◌≡◌, ℕ, ◌<◌, ◌≤◌, Bool, true, false, List, [], ◌∷◌, Option, None}
use Rattle.anti_turn.specs.inner.Views.{IsAtRest}
use Rattle.anti_turn.specs.inner.Steps.{Hand}

-- the slot, where the seat has the turn: the value was moved out of it
abbrev pub held_slots : {T : Type 0} → Bool → List (ℕ × Option T)
held_slots true = (0, None) ∷ []
held_slots false = []

pub record Sits {T E F : Type 0} (me : Hand T E F) (room number : ℕ) : Type 0 where
  pub rest : IsAtRest me.0
  pub room_is : room ≡ me.0.room
  pub few : room ≤ 4294967294
  pub number_is : number ≡ me.0.number
  pub positive : 0 < number
  pub slots : me.1 ≡ held_slots me.0.holds
