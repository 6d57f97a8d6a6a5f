use Rattle.std.proofs.Common.{◌≡◌, ℕ, length, sym, ◌∙◌, subst, arith}
use Rattle.anti_agenda.specs.declared.offer.Offer.{Offer}
use Rattle.anti_agenda.specs.declared.offer.Offer.TheVariants.{Go}
use Rattle.anti_agenda.specs.declared.agenda.Agenda.{Agenda}
use Rattle.anti_trace.specs.Traces.{entries_on}
use Rattle.anti_trace.specs.inner.Living.{HasEnded}
use Rattle.anti_proc.specs.Births.{births}
use Rattle.anti_play.specs.inner.Attending.{Below, Wakes}
use Rattle.anti_play.proofs.Filling.{wakes_goes_at, wakes_more, wakes_none, wakes_one, wakes_past}
use Rattle.anti_play.proofs.GoFirst.{born_length}
use Rattle.anti_play.proofs.Passing.{if_none, over_past}
use Rattle.anti_play.proofs.world.World.wake_goes.Goals as goal
use Rattle.anti_play.proofs.world.World.wake_goes.Goals.{then-is_some+in_ok-wake, else-is_some}

pub loop-at-init : goal.loop-at-init
loop-at-init c = λ app trace sound s. wakes_none app trace (λ (at : ℕ) (offer : Offer). offer ≡ Go c.args.object at) c.args.agenda.now

pub loop-at-preserved : goal.loop-at-preserved
loop-at-preserved c = λ app trace sound s.
    let at = c.loop-at.at in
    let now = c.loop-at.agenda in
    let this = Go c.args.object at in
    let one : Wakes app trace (λ offer. offer ≡ this) now c.if-is_some.agenda = elim c.if-is_some.branch [
      | then-is_some+in_ok-wake w ↦
          subst (λ (later : Agenda). Wakes app trace (λ offer. offer ≡ this) now later) (sym w.agenda-is) (wakes_one app trace this now w.wake.new.self w.in_ok-wake.ensures.ok)
      | else-is_some w ↦
          let ended : HasEnded app c.get.result.now = if_none c.next.result (HasEnded app c.get.result.now) (sym c.is_some.ensures ∙ w.if-is_some.false) (c.next.ensures.none app) in
          subst (λ (later : Agenda). Wakes app trace (λ offer. offer ≡ this) now later) (sym w.agenda-is)
          (wakes_past app trace this now (over_past app c.args.self.now trace s sound c.args.object at c.get.result.now c.get.ensures ended))
    ] in
    wakes_more app trace (λ (at : ℕ) (offer : Offer). offer ≡ Go c.args.object at) at c.args.agenda.now now c.if-is_some.agenda (c.loop-at.invariant app trace sound s) one

pub returns : goal.returns
returns c = λ app trace sound s.
    let many : ℕ = length (births (entries_on c.args.object trace)) in
    let all : c.loop-at.at ≡ many = omega (arith, born_length app c.args.self.now trace c.args.object s, c.born_count-at-end.ensures) in
    wakes_goes_at app trace c.args.object c.args.agenda.now c.loop-at.agenda
    (subst (λ (n : ℕ). Wakes app trace (Below (λ at offer. offer ≡ Go c.args.object at) n) c.args.agenda.now c.loop-at.agenda) all (c.loop-at.invariant app trace sound s))
