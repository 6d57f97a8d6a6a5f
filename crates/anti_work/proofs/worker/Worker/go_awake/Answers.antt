use Rattle.anti_app.proofs.Runnable.{can_run}
use Rattle.anti_work.specs.inner.Tries.{IsGoRefused}
use Rattle.anti_work.proofs.AnyCame.{any_itself, any_of}
use Rattle.anti_work.proofs.worker.Worker.go_awake.Goals as goal

pub object_count-requires : goal.object_count-requires
object_count-requires g c = can_run c.args.app.now c.requires.sound

pub returns-then-awake-object_count : goal.returns-then-awake-object_count
returns-then-awake-object_count g c = any_itself c.args.app.now c.args.shared.now c.args.self.now c.requires.of

pub returns-then-awake-born_count : goal.returns-then-awake-born_count
returns-then-awake-born_count g c = any_itself c.args.app.now c.args.shared.now c.args.self.now c.requires.of

pub returns : goal.returns
returns g c =
    any_of c.args.app.now c.args.shared.now c.args.self.now c.go.new.self (λ calls. IsGoRefused c.args.app.now c.go.new.self calls c.args.awake.object c.args.awake.at) c.go.result
    (record { of = c.go.ensures.of; number = c.go.ensures.number; routes = c.go.ensures.routes; came = c.go.ensures.tried })
