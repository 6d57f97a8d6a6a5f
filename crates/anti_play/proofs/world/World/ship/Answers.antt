use Rattle.std.proofs.Common.{◌≡◌, ◌+◌, ◌<◌, Some, length, refl, sym, ap, ◌∙◌, subst, arith}
use Rattle.std.specs.Prelude.{IsTrue}
use Rattle.anti_kind.specs.declared.call.Call.{Call}
use Rattle.anti_kind.specs.declared.call.Call.TheVariants.{Ship}
use Rattle.anti_kind.specs.Machines.{StandsFor}
use Rattle.anti_kind.specs.Objects.{need, owed}
use Rattle.anti_object.specs.declared.object.Object.{Object}
use Rattle.anti_object.specs.Standing.{ObjectStands, object_start}
use Rattle.anti_kind.specs.declared.entry.Entry.{Entry}
use Rattle.anti_app.specs.declared.app.App.{App}
use Rattle.anti_app.specs.Sound.{is_sound}
use Rattle.anti_trace.specs.Histories.{Entries}
use Rattle.anti_play.specs.Schedule.{carrying, made_at}
use Rattle.anti_play.specs.inner.Standing.{WorldStands}
use Rattle.anti_play.proofs.Chose.{carry_done, kept_stands}
use Rattle.anti_play.proofs.MakeEntry.{on_err}
use Rattle.anti_play.proofs.NextEntry.{wants_room}
use Rattle.anti_play.proofs.NextShipment.{found_next, room_owed, ship_made, stamp_left}
use Rattle.anti_play.proofs.Stepped.{may_grow}
use Rattle.anti_play.proofs.world.World.ship.Goals as goal
use Rattle.anti_play.proofs.world.World.ship.Goals.{After-entry-entry}

-- the entry is that of the call
made : (c : After-entry-entry) (app : App) (trace : Entries) → IsTrue (is_sound app) → WorldStands app c.args.self.now trace
    → made_at app trace (carrying trace c.args.store (Ship c.args.region c.args.version c.args.part)) ≡ Some c.entry-entry.result
made c app trace sound s =
    ship_made app sound c.args.self.now trace s c.args.store c.args.region c.args.version c.args.part c.requires.next
    c.index-recorded.result.now c.index-recorded.ensures (omega (arith, c.requires.store, c.args.self.now.objects.ok.0))
    ∙ ap Some (sym c.entry-entry.ensures)

pub entry-entry-requires : goal.entry-entry-requires
entry-entry-requires c =
    let w = c.requires.world in
    stamp_left w.app w.sound c.args.self.now w.trace w.stands c.args.store c.args.region c.args.version c.args.part c.requires.next
    c.index-recorded.result.now c.index-recorded.ensures (omega (arith, c.requires.store, c.args.self.now.objects.ok.0))

pub make_entry-requires-clause-grow : goal.make_entry-requires-clause-grow
make_entry-requires-clause-grow c =
    let w = c.requires.world in
    may_grow w.app w.sound c.args.self.now w.trace w.stands (carrying w.trace c.args.store (Ship c.args.region c.args.version c.args.part))
    (refl, refl) refl c.entry-entry.result
    (made ((goal.at.make_entry-requires-clause-grow c).After-entry-entry) w.app w.trace w.sound w.stands)

pub returns-in_err-make_entry-clause-kept : goal.returns-in_err-make_entry-clause-kept
returns-in_err-make_entry-clause-kept c = λ app trace s.
    on_err c.from_residual.result _
    (kept_stands app c.args.self.now _ trace s (c.in_err-make_entry.ensures.err app trace s.objects) s.processes s.trail refl)

pub returns-clause-made : goal.returns-clause-made
returns-clause-made c = λ app trace sound s.
    carry_done app sound c.args.self.now _ trace c.args.store (Ship c.args.region c.args.version c.args.part) c.entry-entry.result s refl
    (made ((goal.at.returns-clause-made c).After-entry-entry) app trace sound s)
    (c.in_ok-make_entry.ensures.stand app) s.processes s.trail refl

pub make_entry-requires-clause-room : goal.make_entry-requires-clause-room
make_entry-requires-clause-room c =
    let objects = c.args.self.now.objects.items in
    let r = c.index-recorded.result.now in
    let inside : c.args.store < length objects = omega (arith, c.requires.store, c.args.self.now.objects.ok.0) in
    let next = found_next objects c.args.store c.args.region c.args.version c.args.part c.requires.next r c.index-recorded.ensures inside in
    let same = c.machine.ensures.machine in
    let stands = subst (λ (m : Object). StandsFor (object_start m) (ObjectStands m) r.history) (sym same) c.machine.ensures.stands in
    let owes = subst (λ (m : Object). c.owed-room.result ≡ owed (object_start m) r.history) same (c.owed-room.ensures r.history stands) in
    wants_room objects c.args.store r c.index-recorded.ensures inside
    (record { entry = c.entry-entry.result; room = c.owed-room.result }) (ap (λ (e : Entry). e.object) c.entry-entry.ensures)
    (subst (λ (call : Call). c.owed-room.result ≡ owed (object_start r.machine) r.history + need (object_start r.machine) r.history call)
    (sym (ap (λ (e : Entry). e.call) c.entry-entry.ensures))
    (room_owed (object_start r.machine) r.history c.args.region c.args.version c.args.part c.owed-room.result next owes))
