-- The routes are added where the store was dealt to the worker.
use Rattle.std.proofs.Common.{ℕ, List, length, subst}
use Rattle.anti_app.proofs.SoundLemmas.{app_known}
use Rattle.anti_work.specs.inner.Rounds.{HasAdded}
use Rattle.anti_work.proofs.AtWork.{dealt_one, not_dealt}
use Rattle.anti_work.proofs.ships.add_store.Goals as goal

pub is_dealt-requires-clause-some : goal.is_dealt-requires-clause-some
is_dealt-requires-clause-some c = (app_known c.args.app.now c.requires.sound).some_worker

pub is_dealt-requires-clause-few : goal.is_dealt-requires-clause-few
is_dealt-requires-clause-few c = (app_known c.args.app.now c.requires.sound).few_workers

pub returns-then-not-is_dealt : goal.returns-then-not-is_dealt
returns-then-not-is_dealt c =
    not_dealt c.args.app.now c.args.number c.args.store c.args.routes.now.items c.requires.before (c.is_dealt.ensures.no c.if-not-is_dealt.true)

pub returns : goal.returns
returns c =
    dealt_one c.args.app.now c.args.number c.args.store c.at-stated.result.now c.args.routes.now.items c.add_routes.new.routes.items c.requires.before c.at-stated.ensures
    (subst (λ (regions : List ℕ). HasAdded c.args.store regions (length regions) c.args.routes.now.items c.add_routes.new.routes.items) c.as_slice-regions.ensures
    c.in_ok-add_routes.ensures)
