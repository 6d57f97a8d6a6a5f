use Rattle.std.proofs.Common.{◌≡◌, List}
use Rattle.std.specs.Prelude.{IsTrue}
use Rattle.anti_kind.specs.declared.entry.Entry.{Entry}
use Rattle.anti_app.specs.declared.app.App.{App}
use Rattle.anti_app.specs.Sound.{is_sound}
use Rattle.anti_agenda.specs.declared.offer.Offer.TheVariants.{Go}
use Rattle.anti_play.specs.inner.Attending.{Below, Wakes}
use Rattle.anti_play.specs.inner.Standing.{WorldStands}
use Rattle.anti_play.proofs.world.World.wake_goes.Given as goal

-- the processes so far are awake, or past
abbrev pub invariant-loop-at : goal.invariant-loop-at
invariant-loop-at l =
    (app : App) (trace : List Entry) → IsTrue (is_sound app) → WorldStands app l.self trace
    → Wakes app trace (Below (λ at offer. offer ≡ Go l.object at) l.at) l.fn.agenda l.agenda
