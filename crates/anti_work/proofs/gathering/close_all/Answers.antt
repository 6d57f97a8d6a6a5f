use Rattle.std.proofs.Common.{ℕ, List, subst}
use Rattle.std.specs.Prelude.{map}
use Rattle.std.proofs.lemmas.Result.{IfOk-weaker}
use Rattle.anti_kind.specs.declared.entry.Entry.{Entry}
use Rattle.anti_app.specs.declared.app.App.{App}
use Rattle.anti_object.specs.declared.object.Object.{Object}
use Rattle.anti_shared.specs.Passes.{SharedView}
use Rattle.anti_play.specs.inner.Kepts.{AreKept, history_at}
use Rattle.anti_work.specs.inner.Closing.{AreClosedBy, AreSharedBy, KnowAll}
use Rattle.anti_work.specs.inner.Gathering.{HaveEnded}
use Rattle.anti_work.specs.inner.Joining.{passes_of}
use Rattle.anti_work.specs.inner.Knowing.{AreOf}
use Rattle.anti_work.proofs.Closed.{have_ended, have_kept}
use Rattle.anti_work.proofs.gathering.close_all.Goals as goal

pub returns-clause-kept : goal.returns-clause-kept
returns-clause-kept c =
    let of = subst (λ (ss : List (SharedView Object)). AreOf ss c.join_all.new.firsts.items) c.as_slice.ensures.value c.join_all.ensures.of in
    IfOk-weaker c.close_each.result (λ kepts. AreClosedBy c.join_all.new.firsts.items kepts.items) (λ kepts. (app : App) → AreSharedBy app c.args.shared.items → AreKept app kepts.items)
    (λ kepts closed app is. have_kept app c.args.shared.items c.join_all.new.firsts.items kepts.items is of closed)
    c.close_each.ensures

pub returns-clause-ended : goal.returns-clause-ended
returns-clause-ended c =
    let all = map passes_of c.args.all.items in
    let of = subst (λ (ss : List (SharedView Object)). AreOf ss c.join_all.new.firsts.items) c.as_slice.ensures.value c.join_all.ensures.of in
    IfOk-weaker c.close_each.result (λ kepts. AreClosedBy c.join_all.new.firsts.items kepts.items)
    (λ kepts. (app : App) (works : ℕ → List Entry) → AreSharedBy app c.args.shared.items → KnowAll app all works → HaveEnded app all (history_at kepts.items) works)
    (λ kepts closed app works is know.
    have_ended app c.args.shared.items c.join_all.new.firsts.items kepts.items is of closed all c.join_all.ensures.joined works know)
    c.close_each.ensures
