use Rattle.std.proofs.Common.{arith, List, length, ◌<◌, ◌≡◌, refl, ap, sym, ◌∙◌, subst}
use Rattle.std.proofs.lemmas.Grind.{common_steps}
use Rattle.std.specs.Prelude.{None, Option}
use Rattle.anti_kind.specs.declared.entry.Entry.{Entry}
use Rattle.anti_kind.specs.declared.actor.Actor.TheVariants.{Process as Acting}
use Rattle.anti_ids.specs.declared.id.WriteId.{WriteId}
use Rattle.anti_proc.specs.inner.Standing.{advanced, full_by, full_of, process_of}
use Rattle.anti_proc.specs.inner.Running.{IsAdvanceOf, IsRunOf}
use Rattle.anti_proc.specs.Trees.{ask_of, branch}
use Rattle.anti_proc.specs.declared.process.Process.{Process}
use Rattle.anti_play.specs.Schedule.{asking_at}
use Rattle.anti_trace.specs.inner.Living.{born_at, lists}
use Rattle.anti_trace.specs.inner.Trails.{TrailBecomes, footprint_in, trail_at, with_footprint}
use Rattle.anti_play.specs.inner.Standing.{IsAsked, WorldStands}
use Rattle.anti_trace.proofs.Changed.{room_then}
use Rattle.anti_trace.proofs.Trails.{becomes_then, trail_kept_if}
use Rattle.anti_play.proofs.Chose.{chose_kept, chose_lost}
use Rattle.anti_play.proofs.GoNext.{is_next_found}
use Rattle.anti_play.proofs.GoOn.{IsFound, found_again, go_done, go_lost, goes_asked, goes_run, stops_made}
use Rattle.anti_play.proofs.Stepped.{has_trail, may_grow, reply_of}
use Rattle.anti_play.proofs.world.World.go_past.Goals as goal
use Rattle.anti_play.proofs.world.World.go_past.Goals.{After-get-process}

-- the process that goes on, which was found again
going : (c : After-get-process) → IsFound c.args.self.now c.args.birth c.args.at c.requires.entry.next.process
going c = is_next_found c.args.self.now c.args.birth c.args.at c.requires.entry.asking c.requires.found c.requires.entry.next

again : (c : After-get-process) → c.get-process.result.now ≡ c.requires.entry.next.process
again c = found_again (born_at (lists c.args.self.now.processes) c.args.birth.object) c.args.at c.requires.entry.next.process c.get-process.result.now c.requires.entry.next.there c.get-process.ensures

-- what it asks for
asks : (c : After-get-process) (trace : List Entry) → WorldStands c.args.app.now c.args.self.now trace
    → IsAsked c.args.app.now trace (asking_at trace c.requires.entry.asking.object (Acting c.args.birth) c.requires.entry.asking.span c.requires.entry.asking.call)
asks c trace s =
    let q = c.requires.entry.asking in
    let next = c.requires.entry.next in
    goes_asked c.args.app.now c.args.self.now trace c.args.birth c.args.at next.process s (going c) q.object q.span q.call next.going (next.asks c.args.app.now)

pub advance-requires-clause-run : goal.advance-requires-clause-run
advance-requires-clause-run c =
    let it = (goal.at.advance-requires-clause-run c).After-get-process in
    subst (IsRunOf c.args.app.now) (sym (again it))
    (goes_run c.args.app.now c.args.self.now c.requires.world.trace c.args.birth c.args.at c.requires.entry.next.process c.requires.world.stands (going it))

pub advance-requires-clause-known : goal.advance-requires-clause-known
advance-requires-clause-known c =
    let it = (goal.at.advance-requires-clause-known c).After-get-process in
    let trace = c.requires.world.trace in
    let s = c.requires.world.stands in
    let q = c.requires.entry.asking in
    reply_of c.args.app.now c.requires.sound c.args.self.now trace s (asking_at trace q.object (Acting c.args.birth) q.span q.call) (asks it trace s) refl
    c.args.due.entry (c.requires.entry.made trace s)

pub prepare-requires : goal.prepare-requires
prepare-requires c =
    let it = (goal.at.prepare-requires c).After-get-process in
    let trace = c.requires.world.trace in
    let s = c.requires.world.stands in
    let q = c.requires.entry.asking in
    has_trail c.args.app.now c.requires.sound c.args.self.now trace s (asking_at trace q.object (Acting c.args.birth) q.span q.call) (asks it trace s) refl
    c.args.due.entry (c.requires.entry.made trace s)

pub make_entry-requires-clause-grow : goal.make_entry-requires-clause-grow
make_entry-requires-clause-grow c =
    let it = (goal.at.make_entry-requires-clause-grow c).After-get-process in
    let trace = c.requires.world.trace in
    let s = c.requires.world.stands in
    let q = c.requires.entry.asking in
    may_grow c.args.app.now c.requires.sound c.args.self.now trace s (asking_at trace q.object (Acting c.args.birth) q.span q.call) (asks it trace s) refl
    c.args.due.entry (c.requires.entry.made trace s)

pub put-requires-clause-object : goal.put-requires-clause-object
put-requires-clause-object c =
    let it = (goal.at.put-requires-clause-object c).After-get-process in
    let trace = c.requires.world.trace in
    let s = c.requires.world.stands in
    let q = c.requires.entry.asking in
    let there : c.args.due.entry.object < length c.args.self.now.trail.at.items =
    has_trail c.args.app.now c.requires.sound c.args.self.now trace s (asking_at trace q.object (Acting c.args.birth) q.span q.call) (asks it trace s) refl
    c.args.due.entry (c.requires.entry.made trace s) in
    omega (arith, there, c.prepare.ensures.same.count)

pub returns-in_err-carried-clause-chose : goal.returns-in_err-carried-clause-chose
returns-in_err-carried-clause-chose c = λ trace s.
    chose_kept c.args.app.now c.args.self.now _ trace _ _ c.from_residual-in_err-carried.ensures.0 s s.objects s.processes
    (trail_kept_if c.args.app.now trace c.args.self.now.trail _ c.args.due.entry.object s.trail c.prepare.ensures.same) refl

pub returns-in_err-make_room-clause-chose : goal.returns-in_err-make_room-clause-chose
returns-in_err-make_room-clause-chose c = λ trace s.
    let it = (goal.at.returns-in_err-make_room-clause-chose c).After-get-process in
    go_lost c.args.app.now c.args.self.now trace c.args.birth c.args.at c.requires.entry.next.process s (going it)
    _ _ c.from_residual-in_err-make_room.ensures.0 s.objects c.make_room.ensures.becomes
    (trail_kept_if c.args.app.now trace c.args.self.now.trail _ c.args.due.entry.object s.trail c.prepare.ensures.same) refl

pub returns-in_err-make_entry-clause-chose : goal.returns-in_err-make_entry-clause-chose
returns-in_err-make_entry-clause-chose c = λ trace s.
    let it = (goal.at.returns-in_err-make_entry-clause-chose c).After-get-process in
    go_lost c.args.app.now c.args.self.now trace c.args.birth c.args.at c.requires.entry.next.process s (going it)
    _ _ c.from_residual-in_err-make_entry.ensures.0 (c.in_err-make_entry.ensures.err c.args.app.now trace s.objects) c.make_room.ensures.becomes
    (trail_kept_if c.args.app.now trace c.args.self.now.trail _ c.args.due.entry.object s.trail c.prepare.ensures.same) refl

pub returns-clause-chose : goal.returns-clause-chose
returns-clause-chose c = λ trace s.
    let it = (goal.at.returns-clause-chose c).After-get-process in
    let app = c.args.app.now in
    let w = c.args.self.now in
    let p = c.requires.entry.next.process in
    let q = c.requires.entry.asking in
    let a = c.in_ok-advance.advance in
    let e = c.args.due.entry in
    let same = again it in
    let left = becomes_then w.trail c.prepare.new.self c.put.new.self e.object c.in_ok-carried.carried c.prepare.ensures.same c.put.ensures in
    go_done app w trace c.args.birth c.args.at p s (going it)
    q.object q.span q.call c.requires.entry.next.going (c.requires.entry.next.asks app)
    c.requires.sound _ e a (c.requires.entry.made trace s)
    (c.in_ok-make_entry.ensures.stand app)
    (room_then (lists w.processes) (lists c.make_room.new.self) (lists c.take_over.new.self) c.args.birth.object c.args.at e.stamp a c.make_room.ensures.becomes c.take_over.ensures)
    (subst (λ (ids : Option (List WriteId)). TrailBecomes w.trail c.put.new.self e.object (with_footprint (trail_at w.trail e.object) ids))
    (c.in_ok-carried.ensures.carried app ∙ ap (λ (x : Process). footprint_in w.trail (ask_of (process_of app x))) same) left)
    refl
    (subst (λ (x : Process). full_of x ≡ None → advanced app x a ≡ branch (process_of app x) e.reply) same c.in_ok-advance.ensures.goes c.requires.entry.next.going)
    (subst (λ (x : Process). IsAdvanceOf app x a) same c.in_ok-advance.ensures.run)
    (subst (λ (x : Process). full_by a ≡ full_of x) same c.in_ok-advance.ensures.full)

pub returns-clause-ended : goal.returns-clause-ended
returns-clause-ended c = λ trace s.
    let it = (goal.at.returns-clause-ended c).After-get-process in
    let q = c.requires.entry.asking in
    let next = c.requires.entry.next in
    stops_made c.args.app.now c.args.self.now trace c.args.birth c.args.at next.process s (going it)
    q.object q.span q.call next.going (next.asks c.args.app.now) _ c.args.due.entry (c.requires.entry.made trace s)

pub returns-in_err-advance-clause-chose : goal.returns-in_err-advance-clause-chose
returns-in_err-advance-clause-chose c = λ trace s.
    chose_lost c.args.app.now c.args.self.now trace _ _ c.from_residual.ensures.0 s

pub get-process-requires-clause-at : goal.get-process-requires-clause-at
get-process-requires-clause-at c = grind (arith, common_steps)

pub take_over-requires-clause-at : goal.take_over-requires-clause-at
take_over-requires-clause-at c = grind (arith, common_steps)

pub make_room-requires-clause-at : goal.make_room-requires-clause-at
make_room-requires-clause-at c = grind (arith, common_steps)
