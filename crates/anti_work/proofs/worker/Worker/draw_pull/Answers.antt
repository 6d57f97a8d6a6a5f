-- What a pull of the subscription starts is the worker's own.
use Rattle.std.proofs.Common.{ℕ, ◌+◌, sym, subst}
use Rattle.anti_kind.specs.declared.call.Call.TheVariants.{Repull}
use Rattle.anti_app.proofs.SoundLemmas.{app_known}
use Rattle.anti_play.specs.Schedule.{bearing}
use Rattle.anti_work.specs.inner.Tries.{BearsOwn}
use Rattle.anti_work.specs.inner.Working.{IsRefusedAt}
use Rattle.anti_work.proofs.AnyCame.{any_itself, any_of}
use Rattle.anti_work.proofs.Owned.{repull_bears}
use Rattle.anti_work.proofs.worker.Worker.draw_pull.Goals as goal

pub is_dealt-requires-clause-some : goal.is_dealt-requires-clause-some
is_dealt-requires-clause-some g c = (app_known c.args.app.now c.requires.sound).some_worker

pub is_dealt-requires-clause-few : goal.is_dealt-requires-clause-few
is_dealt-requires-clause-few g c = (app_known c.args.app.now c.requires.sound).few_workers

pub returns-then-not-is_dealt : goal.returns-then-not-is_dealt
returns-then-not-is_dealt g c = any_itself c.args.app.now c.args.shared.now c.args.self.now c.requires.of

pub returns-then-not-repeats : goal.returns-then-not-repeats
returns-then-not-repeats g c = any_itself c.args.app.now c.args.shared.now c.args.self.now c.requires.of

pub bear-requires-clause-own : goal.bear-requires-clause-own
bear-requires-clause-own g c =
    subst (λ (k : ℕ). BearsOwn c.args.app.now c.args.self.now.number c.at-stated.result.now.store (Repull k (c.from-version.result + 1))) (sym c.position_on-sub.ensures)
    (repull_bears c.args.app.now c.args.self.now.number c.args.sub c.at-stated.result.now c.at-stated.ensures (c.is_dealt.ensures.yes c.if-not-is_dealt.false) (c.from-version.result + 1))

pub returns : goal.returns
returns g c =
    any_of c.args.app.now c.args.shared.now c.args.self.now c.bear.new.self
    (λ calls. IsRefusedAt c.args.app.now c.bear.new.self calls (bearing calls c.at-stated.result.now.store (Repull c.position_on-sub.result (c.from-version.result + 1)))) c.bear.result
    (record { of = c.bear.ensures.of; number = c.bear.ensures.number; routes = c.bear.ensures.routes; came = c.bear.ensures.tried })
