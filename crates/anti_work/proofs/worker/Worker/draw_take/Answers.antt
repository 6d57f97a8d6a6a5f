-- What a delivery to the service starts is the worker's own.
use Rattle.std.proofs.Common.{ℕ, ◌+◌, sym, subst}
use Rattle.anti_kind.specs.declared.actor.Actor.TheVariants.{Carrier}
use Rattle.anti_kind.specs.declared.call.Call.TheVariants.{Repost, Take}
use Rattle.anti_app.proofs.Runnable.{can_run}
use Rattle.anti_app.proofs.SoundLemmas.{app_known}
use Rattle.anti_play.specs.Schedule.{asking_at, bearing}
use Rattle.anti_work.specs.inner.Tries.{BearsOwn}
use Rattle.anti_work.specs.inner.Working.{IsRefusedAt}
use Rattle.anti_work.proofs.AnyCame.{any_itself, any_of}
use Rattle.anti_work.proofs.Owned.{take_bears}
use Rattle.anti_work.proofs.worker.Worker.draw_take.Goals as goal

pub is_dealt-requires-clause-some : goal.is_dealt-requires-clause-some
is_dealt-requires-clause-some g c = (app_known c.args.app.now c.requires.sound).some_worker

pub is_dealt-requires-clause-few : goal.is_dealt-requires-clause-few
is_dealt-requires-clause-few g c = (app_known c.args.app.now c.requires.sound).few_workers

pub returns-then-behind-eq0 : goal.returns-then-behind-eq0
returns-then-behind-eq0 g c = any_itself c.args.app.now c.args.shared.now c.args.self.now c.requires.of

pub returns-then-not-is_dealt : goal.returns-then-not-is_dealt
returns-then-not-is_dealt g c = any_itself c.args.app.now c.args.shared.now c.args.self.now c.requires.of

pub inbox_number-inbox-requires-clause-runs : goal.inbox_number-inbox-requires-clause-runs
inbox_number-inbox-requires-clause-runs g c = can_run c.args.app.now c.requires.sound

pub returns-then-repeats : goal.returns-then-repeats
returns-then-repeats g c =
    any_of c.args.app.now c.args.shared.now c.args.self.now c.carry.new.self
    (λ calls. IsRefusedAt c.args.app.now c.carry.new.self calls (asking_at calls c.inbox_number-inbox.result (Carrier c.args.self.now.number) 0 (Repost c.behind-behind.result))) c.carry.result
    (record { of = c.carry.ensures.of; number = c.carry.ensures.number; routes = c.carry.ensures.routes; came = c.carry.ensures.tried c.args.app.now })

pub bear-requires-clause-own : goal.bear-requires-clause-own
bear-requires-clause-own g c =
    subst (λ (o : ℕ). BearsOwn c.args.app.now c.args.self.now.number o (Take (c.behind-behind.result + 1))) (sym c.inbox_number-inbox.ensures)
    (take_bears c.args.app.now c.args.self.now.number c.args.service (c.is_dealt.ensures.yes c.if-not-is_dealt.false) (c.behind-behind.result + 1))

pub returns : goal.returns
returns g c =
    any_of c.args.app.now c.args.shared.now c.args.self.now c.bear.new.self
    (λ calls. IsRefusedAt c.args.app.now c.bear.new.self calls (bearing calls c.inbox_number-inbox.result (Take (c.behind-behind.result + 1)))) c.bear.result
    (record { of = c.bear.ensures.of; number = c.bear.ensures.number; routes = c.bear.ensures.routes; came = c.bear.ensures.tried })
