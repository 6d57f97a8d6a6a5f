-- The objects are closed with what the workers made of them, so there is a run of workers, and the world stands for it.
use Rattle.std.proofs.Common.{◌≡◌, List, length, subst, arith}
use Rattle.std.proofs.lemmas.Result.{IfOk-weaker}
use Rattle.anti_kind.specs.declared.entry.Entry.{Entry}
use Rattle.anti_object.specs.declared.object.Object.{Object}
use Rattle.anti_shared.specs.Passes.{SharedView}
use Rattle.anti_play.specs.inner.Kepts.{HasHistories, history_at}
use Rattle.anti_play.specs.inner.Standing.{WorldStands}
use Rattle.anti_work.specs.Workers.{IsWorkersRun}
use Rattle.anti_work.specs.inner.Firsts.{HaveWorked}
use Rattle.anti_work.proofs.Ran.{are_done, has_run, know_all, run_legal, works}
use Rattle.anti_work.proofs.running.run_workers.Goals as goal

pub close_all-requires-clause-done : goal.close_all-requires-clause-done
close_all-requires-clause-done g c =
    let app = c.args.app.now in
    let shared = c.in_ok-shared.shared.items in
    are_done app shared c.in_ok-all.all.items
    (subst (λ (ss : List (SharedView Object)). HaveWorked app ss c.in_ok-all.all.items) c.as_slice-2.ensures.value c.in_ok-all.ensures.worked)

pub of-requires-clause-objects : goal.of-requires-clause-objects
of-requires-clause-objects g c = c.in_ok-kepts.ensures.kept c.args.app.now c.in_ok-shared.ensures.shared

pub of-requires-clause-legal : goal.of-requires-clause-legal
of-requires-clause-legal g c trace order same =
    let app = c.args.app.now in
    let shared = c.in_ok-shared.shared.items in
    let all = c.in_ok-all.all.items in
    let have = subst (λ (ss : List (SharedView Object)). HaveWorked app ss all) c.as_slice-2.ensures.value c.in_ok-all.ensures.worked in
    let ended = c.in_ok-kepts.ensures.ended app (works app shared all have) c.in_ok-shared.ensures.shared (know_all app shared all have) in
    run_legal app shared all have c.requires (history_at c.in_ok-kepts.kepts.items) ended trace order same

pub returns : goal.returns
returns g c =
    let app = c.args.app.now in
    let shared = c.in_ok-shared.shared.items in
    let all = c.in_ok-all.all.items in
    let kepts = c.in_ok-kepts.kepts.items in
    let have = subst (λ (ss : List (SharedView Object)). HaveWorked app ss all) c.as_slice-2.ensures.value c.in_ok-all.ensures.worked in
    let ended = c.in_ok-kepts.ensures.ended app (works app shared all have) c.in_ok-shared.ensures.shared (know_all app shared all have) in
    let many : length all ≡ app.workers =
    omega (arith, c.in_ok-all.ensures.len, c.in_ok-starts.ensures.many, c.in_ok-all.all.ok.0) in
    IfOk-weaker c.of.result (λ w. (t : List Entry) × WorldStands app w t × HasHistories t kepts) (λ w. (t : List Entry) × WorldStands app w t × IsWorkersRun app t)
    (λ w s. (s.0, s.1, has_run app shared all have c.requires (history_at kepts) ended s.0 s.1.run.order s.2 many))
    c.of.ensures
