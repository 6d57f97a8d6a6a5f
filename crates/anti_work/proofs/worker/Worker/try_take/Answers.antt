-- What a delivery to the service starts is the worker's own.
use Rattle.std.proofs.Common.{ℕ, sym, subst}
use Rattle.anti_kind.specs.declared.call.Call.TheVariants.{Take}
use Rattle.anti_app.proofs.Runnable.{can_run}
use Rattle.anti_app.proofs.SoundLemmas.{app_known}
use Rattle.anti_play.specs.Schedule.{bearing}
use Rattle.anti_work.specs.inner.Rounds.{TakeRefused}
use Rattle.anti_work.specs.inner.Tries.{BearsOwn}
use Rattle.anti_work.specs.inner.Working.{IsRefusedAt}
use Rattle.anti_work.proofs.Many.{comes_as, comes_itself}
use Rattle.anti_work.proofs.Owned.{take_bears}
use Rattle.anti_work.proofs.worker.Worker.try_take.Goals as goal

pub is_dealt-requires-clause-some : goal.is_dealt-requires-clause-some
is_dealt-requires-clause-some g c = (app_known c.args.app.now c.requires.sound).some_worker

pub is_dealt-requires-clause-few : goal.is_dealt-requires-clause-few
is_dealt-requires-clause-few g c = (app_known c.args.app.now c.requires.sound).few_workers

pub returns-then-not-is_dealt : goal.returns-then-not-is_dealt
returns-then-not-is_dealt g c =
    comes_itself c.args.app.now c.args.shared.now c.args.self.now (TakeRefused c.args.app.now c.args.self.now.number c.args.self.now c.args.service) c.requires.of
    (λ calls stands dealt. absurd (c.is_dealt.ensures.no c.if-not-is_dealt.true dealt))

pub inbox_number-inbox-requires-clause-runs : goal.inbox_number-inbox-requires-clause-runs
inbox_number-inbox-requires-clause-runs g c = can_run c.args.app.now c.requires.sound

pub bear-requires-clause-own : goal.bear-requires-clause-own
bear-requires-clause-own g c =
    subst (λ (o : ℕ). BearsOwn c.args.app.now c.args.self.now.number o (Take 1)) (sym c.inbox_number-inbox.ensures)
    (take_bears c.args.app.now c.args.self.now.number c.args.service (c.is_dealt.ensures.yes c.if-not-is_dealt.false) 1)

pub returns : goal.returns
returns g c =
    comes_as c.args.app.now c.args.shared.now c.args.self.now c.bear.new.self
    (λ calls. IsRefusedAt c.args.app.now c.bear.new.self calls (bearing calls c.inbox_number-inbox.result (Take 1)))
    (TakeRefused c.args.app.now c.args.self.now.number c.bear.new.self c.args.service) c.bear.result
    (record { of = c.bear.ensures.of; number = c.bear.ensures.number; routes = c.bear.ensures.routes; came = c.bear.ensures.tried })
    (λ calls stands stays refused dealt.
    subst (λ (o : ℕ). IsRefusedAt c.args.app.now c.bear.new.self calls (bearing calls o (Take 1))) c.inbox_number-inbox.ensures refused)
