use Rattle.std.proofs.Common.{true, false}
use Rattle.anti_play.specs.Schedule.{first_made}
use Rattle.anti_play.specs.inner.Finishing.{WentOn}
use Rattle.anti_play.proofs.Attempting.{went_nowhere}
use Rattle.anti_play.proofs.MakeEntry.{on_err}
use Rattle.anti_play.proofs.Reached.{reached_all, reached_lost, turn_less, is_complete}
use Rattle.anti_play.proofs.Finished.{finished_complete}
use Rattle.anti_play.proofs.Tried.{came_as}
use Rattle.anti_play.proofs.Turning.{attended_now, first_under_way, more_under_way}
use Rattle.anti_play.proofs.world.World.finish.Goals as goal

pub returns-in_err-agenda-clause-kept : goal.returns-in_err-agenda-clause-kept
returns-in_err-agenda-clause-kept c = λ trace s. on_err _ (WentOn c.args.app.now trace c.args.self.now) (went_nowhere c.args.app.now trace c.args.self.now s)

pub loop-agenda-init : goal.loop-agenda-init
loop-agenda-init c = λ trace s. first_under_way c.args.app.now trace c.args.self.now c.in_ok-agenda.agenda s c.in_ok-agenda.ensures

pub turn-requires-clause-attended : goal.turn-requires-clause-attended
turn-requires-clause-attended c =
    attended_now c.args.app.now c.requires.sound c.requires.world.trace c.loop-agenda.self c.loop-agenda.agenda (c.loop-agenda.invariant c.requires.world.trace c.requires.world.stands)

pub returns-in_err-turn-clause-kept : goal.returns-in_err-turn-clause-kept
returns-in_err-turn-clause-kept c = λ trace s.
    let way = c.loop-agenda.invariant trace s in
    let r = way.reached in
    on_err _ (WentOn c.args.app.now trace c.turn.new.self)
    (reached_lost c.args.app.now c.requires.sound trace c.loop-agenda.self r c.turn.new.self (c.in_err-turn.ensures.chose r.after r.stands way.attends))

pub loop-agenda-smaller : goal.loop-agenda-smaller
loop-agenda-smaller c =
    let w = c.requires.world in
    let way = c.loop-agenda.invariant w.trace w.stands in
    let r = way.reached in
    turn_less c.args.app.now c.requires.sound w.trace c.loop-agenda.self r c.turn.new.self
    (came_as c.args.app.now r.after (first_made c.args.app.now r.after) c.turn.new.self c.in_ok-turn.field-0 true c.if-branch.true (c.in_ok-turn.ensures.chose r.after r.stands way.attends))

pub loop-agenda-preserved : goal.loop-agenda-preserved
loop-agenda-preserved c = λ trace s.
    let way = c.loop-agenda.invariant trace s in
    let r = way.reached in
    more_under_way c.args.app.now c.requires.sound trace c.loop-agenda.self c.loop-agenda.agenda way c.turn.new.self c.turn.new.agenda
    (came_as c.args.app.now r.after (first_made c.args.app.now r.after) c.turn.new.self c.in_ok-turn.field-0 true c.if-branch.true (c.in_ok-turn.ensures.chose r.after r.stands way.attends))
    (c.in_ok-turn.ensures.attends r.after r.stands way.attends)

pub returns-clause-finished : goal.returns-clause-finished
returns-clause-finished c = λ trace s.
    let way = c.loop-agenda.invariant trace s in
    let r = way.reached in
    reached_all c.args.app.now c.requires.sound trace c.loop-agenda.self r c.turn.new.self
    (came_as c.args.app.now r.after (first_made c.args.app.now r.after) c.turn.new.self c.in_ok-turn.field-0 false c.if-branch.false (c.in_ok-turn.ensures.chose r.after r.stands way.attends))

pub returns-clause-complete : goal.returns-clause-complete
returns-clause-complete c = λ trace s.
    let w = c.requires.world in
    let app = c.args.app.now in
    let way = c.loop-agenda.invariant w.trace w.stands in
    let r = way.reached in
    is_complete app c.requires.sound c.turn.new.self w.trace trace
    (reached_all app c.requires.sound w.trace c.loop-agenda.self r c.turn.new.self
    (came_as app r.after (first_made app r.after) c.turn.new.self c.in_ok-turn.field-0 false c.if-branch.false (c.in_ok-turn.ensures.chose r.after r.stands way.attends)))
    s (finished_complete app c.requires.sound w.trace w.stands.run)
