use Rattle.std.proofs.Common.{sym, ap, subst, ◌∙◌}
use Rattle.anti_kind.specs.declared.call.Call.{Call}
use Rattle.anti_kind.specs.declared.call.Reply.TheVariants.{Pulled}
use Rattle.anti_kind.specs.Objects.{weight}
use Rattle.anti_kind.specs.Store.{store_due}
use Rattle.anti_kind.proofs.Sources.{next_given}
use Rattle.anti_replicas.specs.declared.replicas.Replicas.{Replicas}
use Rattle.anti_replicas.specs.Stores.{At as BaseAt, IsOther}
use Rattle.anti_topic.specs.TopicStates.{its_store}
use Rattle.anti_topic.proofs.Pulling.{topic_base}
use Rattle.anti_topic.proofs.Standing.{stands_pull}
use Rattle.anti_topic.proofs.topic_store.Topic.pull.Goals as goal

pub returns-clause-stands : goal.returns-clause-stands
returns-clause-stands c = λ h e at f is given.
    let m = c.args.self.now in
    let moves = c.move_on.ensures in
    let noted = c.note.ensures in
    stands_pull m h e at f c.args.number c.get.result.now.version is
    (next_given (its_store m) h e at.legal f c.args.number is c.get.result.now (given ∙ c.in-Pulled.is ∙ ap Pulled (sym c.get.ensures))) c.move_on.new.self moves c.note.new.self noted.number noted.regions
    (noted.stands (its_store m) h e (subst (λ (b : Replicas). BaseAt b (its_store m) h) (sym moves.base_is) (topic_base m h at)) f
    (subst IsOther (sym is) tt) (ap weight (f.reply ∙ ap (λ (call : Call). store_due (its_store m) h call) is)))
