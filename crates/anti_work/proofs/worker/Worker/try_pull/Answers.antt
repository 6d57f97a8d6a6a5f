-- What a pull of the subscription starts is the worker's own.
use Rattle.std.proofs.Common.{ℕ, sym, subst}
use Rattle.anti_kind.specs.declared.call.Call.TheVariants.{Pull}
use Rattle.anti_app.proofs.SoundLemmas.{app_known}
use Rattle.anti_play.specs.Schedule.{bearing}
use Rattle.anti_work.specs.inner.Rounds.{PullRefused}
use Rattle.anti_work.specs.inner.Tries.{BearsOwn}
use Rattle.anti_work.specs.inner.Working.{IsRefusedAt}
use Rattle.anti_work.proofs.Loops.{pull_as, pull_not}
use Rattle.anti_work.proofs.Many.{comes_as, comes_itself}
use Rattle.anti_work.proofs.Owned.{pull_bears}
use Rattle.anti_work.proofs.worker.Worker.try_pull.Goals as goal

pub is_dealt-requires-clause-some : goal.is_dealt-requires-clause-some
is_dealt-requires-clause-some g c = (app_known c.args.app.now c.requires.sound).some_worker

pub is_dealt-requires-clause-few : goal.is_dealt-requires-clause-few
is_dealt-requires-clause-few g c = (app_known c.args.app.now c.requires.sound).few_workers

pub returns-then-not-is_dealt : goal.returns-then-not-is_dealt
returns-then-not-is_dealt g c =
    comes_itself c.args.app.now c.args.shared.now c.args.self.now (PullRefused c.args.app.now c.args.self.now.number c.args.self.now c.args.sub) c.requires.of
    (λ calls stands. pull_not c.args.app.now c.args.self.now.number c.args.self.now c.args.sub c.at-stated.result.now calls c.at-stated.ensures
    (c.is_dealt.ensures.no c.if-not-is_dealt.true))

pub bear-requires-clause-own : goal.bear-requires-clause-own
bear-requires-clause-own g c =
    subst (λ (k : ℕ). BearsOwn c.args.app.now c.args.self.now.number c.at-stated.result.now.store (Pull k)) (sym c.position_on-position.ensures)
    (pull_bears c.args.app.now c.args.self.now.number c.args.sub c.at-stated.result.now c.at-stated.ensures (c.is_dealt.ensures.yes c.if-not-is_dealt.false))

pub returns : goal.returns
returns g c =
    comes_as c.args.app.now c.args.shared.now c.args.self.now c.bear.new.self
    (λ calls. IsRefusedAt c.args.app.now c.bear.new.self calls (bearing calls c.at-stated.result.now.store (Pull c.position_on-position.result)))
    (PullRefused c.args.app.now c.args.self.now.number c.bear.new.self c.args.sub) c.bear.result
    (record { of = c.bear.ensures.of; number = c.bear.ensures.number; routes = c.bear.ensures.routes; came = c.bear.ensures.tried })
    (λ calls stands stays refused.
    pull_as c.args.app.now c.args.self.now.number c.bear.new.self c.args.sub c.at-stated.result.now calls c.at-stated.ensures
    (subst (λ (k : ℕ). IsRefusedAt c.args.app.now c.bear.new.self calls (bearing calls c.at-stated.result.now.store (Pull k))) c.position_on-position.ensures refused))
