-- What came of a try to make an entry.
use Rattle.std.proofs.Common.{◌≡◌, Bool, true, false, List, refl, subst}
use Rattle.std.specs.Prelude.{Option, None, Some, Result, Ok, Err, IsErr}
use Rattle.anti_ids.specs.declared.memory.NoMemory.{NoMemory}
use Rattle.anti_kind.specs.declared.entry.Entry.{Entry}
use Rattle.anti_app.specs.declared.app.App.{App}
use Rattle.anti_trace.specs.Traces.{put}
use Rattle.anti_play.specs.declared.world.World.{World}
use Rattle.anti_play.specs.inner.Standing.{Chose, WorldStands}

pub chose_false : (app : App) (trace : List Entry) (o : Option Entry) (n : World) → Chose app trace o (Ok false) n → (o ≡ None) × WorldStands app n trace
chose_false app trace None n chose = (refl, chose.1)
chose_false app trace (Some e) n chose = absurd (cc (chose.0))

pub record MadeOne (app : App) (trace : List Entry) (o : Option Entry) (n : World) : Type 0 where
  pub entry : Entry
  pub is : o ≡ Some entry
  pub stands : WorldStands app n (put entry trace)

pub chose_true : (app : App) (trace : List Entry) (o : Option Entry) (n : World) → Chose app trace o (Ok true) n → MadeOne app trace o n
chose_true app trace None n chose = absurd (cc (chose.0))
chose_true app trace (Some e) n chose = record { entry = e; is = refl; stands = chose.1 }

pub chose_lost : (app : App) (trace : List Entry) (o : Option Entry) (r : Result Bool NoMemory) (n : World) → IsErr r → Chose app trace o r n → WorldStands app n trace
chose_lost app trace o (Ok x) n err chose = absurd (cc)
chose_lost app trace None (Err x) n err chose = chose
chose_lost app trace (Some e) (Err x) n err chose = chose

-- whether an entry was made, told in two ways
pub came_as : (app : App) (trace : List Entry) (o : Option Entry) (n : World) (found then : Bool) → found ≡ then → Chose app trace o (Ok found) n → Chose app trace o (Ok then) n
came_as app trace o n found then is chose = subst (λ (b : Bool). Chose app trace o (Ok b) n) is chose

-- the same of an entry that is told in another way
pub chose_of : (app : App) (trace : List Entry) (o p : Option Entry) (r : Result Bool NoMemory) (n : World) → o ≡ p → Chose app trace o r n → Chose app trace p r n
chose_of app trace o p r n is chose = subst (λ (x : Option Entry). Chose app trace x r n) is chose
