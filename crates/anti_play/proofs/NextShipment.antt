-- The next shipment of an object to a region is made.
use Rattle.std.proofs.Common.{◌≡◌, ℕ, ◌+◌, ◌-◌, ◌*◌, ◌<◌, ◌≤◌, ◌^◌, max, List, length, get_or, refl, sym, ap, ◌∙◌, subst, arith}
use Rattle.std.specs.Prelude.{Some, IsTrue}
use Rattle.std.proofs.lemmas.List.{get_or_default}
use Rattle.std.proofs.lemmas.Option.{none-some}
use Rattle.anti_kind.specs.declared.asking.Asking.{Asking}
use Rattle.anti_kind.specs.declared.actor.Actor.TheVariants.{Carrier}
use Rattle.anti_kind.specs.declared.call.Call.TheVariants.{Ship}
use Rattle.anti_kind.specs.declared.call.Reply.TheVariants.{Moved}
use Rattle.anti_kind.specs.declared.entry.Entry.{Entry}
use Rattle.anti_kind.specs.Entries.{entry_of}
use Rattle.anti_kind.specs.Objects.{Start, inbox, last_stamp, need, owed, store}
use Rattle.anti_kind.specs.Records.{Record}
use Rattle.anti_kind.specs.Shipments.{next_ship}
use Rattle.anti_kind.proofs.NextShipments.{next_is_ready}
use Rattle.anti_app.specs.declared.app.App.{App}
use Rattle.anti_app.specs.Sound.{is_sound}
use Rattle.anti_object.specs.declared.object.Object.{Object}
use Rattle.anti_object.specs.Standing.{object_start}
use Rattle.anti_object.specs.Starts.{start_of}
use Rattle.anti_object.proofs.Starts.{start_sound}
use Rattle.anti_trace.specs.Traces.{entries_on}
use Rattle.anti_trace.proofs.OfLegal.{history_stamps}
use Rattle.anti_play.specs.declared.world.World.{World}
use Rattle.anti_play.specs.Schedule.{carrying, clock_of, made_at}
use Rattle.anti_play.specs.inner.Choosing.{IsNextShipment}
use Rattle.anti_play.specs.inner.Standing.{IsObject, WorldStands}
use Rattle.anti_play.proofs.MadeAt.{free_fits, ready_made}
use Rattle.anti_play.proofs.NextEntry.{few_entries}
use Rattle.anti_play.proofs.RunMore.{clock_within}

-- it is the next one of the object that is found there
pub found_next : (objects : List (Record Object)) (o region version part : ℕ) → IsNextShipment objects o region version part
    → (r : Record Object) → r ≡ get_or objects o r → o < length objects → next_ship (object_start r.machine) r.history region ≡ Some (version, part)
found_next objects o region version part n r at inside =
    let same : n.recorded ≡ r = n.at ∙ get_or_default objects o n.recorded r inside ∙ sym at in
    subst (λ (x : Record Object). next_ship (object_start x.machine) x.history region ≡ Some (version, part)) same n.next

-- it needs no units, so its history wants room for what it owes
pub room_owed : (start : Start) (h : List Entry) (region version part room : ℕ) → next_ship start h region ≡ Some (version, part) → room ≡ owed start h
    → room ≡ owed start h + need start h (Ship region version part)
room_owed (store st) h region version part room next is = omega (arith, is)
room_owed (inbox requests) h region version part room next is = absurd (none-some _ next)

module _ (app : App) (sound : IsTrue (is_sound app)) (w : World) (trace : List Entry) (s : WorldStands app w trace) (o region version part : ℕ)
    (next : IsNextShipment w.objects.items o region version part) (r : Record Object) (at : r ≡ get_or w.objects.items o r)
    (inside : o < length w.objects.items) where
  abbrev q : Asking
  q = carrying trace o (Ship region version part)

  here : IsObject app o r (entries_on o trace)
  here = subst (λ (x : Record Object). IsObject app o x (entries_on o trace)) (sym at) (s.objects.each o r inside)

  -- stamps are never spent
  pub stamp_left : max w.carrier (last_stamp r.history) < 2 ^ 64 - 1
  stamp_left =
      let short : length trace ≤ 32 * 4097 = few_entries app trace sound s.run in
      let own : clock_of (Carrier 0) trace ≤ length trace = clock_within app trace s.run (Carrier 0) in
      let its_own : last_stamp (entries_on o trace) ≤ length trace = history_stamps app trace s.run o in
      let clock : w.carrier ≡ clock_of (Carrier 0) trace = s.carrier in
      let last : last_stamp r.history ≡ last_stamp (entries_on o trace) = ap last_stamp here.history in
      omega arith

  -- the entry that the call makes, with these clocks
  abbrev entry : ℕ → List Entry → Entry
  entry clock h = entry_of q 0 (length h + 1) (max clock (last_stamp h) + 1) Moved

  at_start : (start : Start) → start_of app o ≡ Some start → next_ship start (entries_on o trace) region ≡ Some (version, part)
      → made_at app trace q ≡ Some (entry (clock_of (Carrier 0) trace) (entries_on o trace))
  at_start (store st) there its_next =
      ready_made app trace q (store st) there (next_is_ready st (entries_on o trace) region version part its_next)
      (free_fits (store st) (entries_on o trace) q.call (start_sound app o (store st) sound there) (s.run.histories o (store st) there) refl)
  at_start (inbox requests) there its_next = absurd (none-some _ its_next)

  pub ship_made : made_at app trace q ≡ Some (entry w.carrier r.history)
  ship_made =
      at_start (object_start r.machine) here.start
      (subst (λ (h : List Entry). next_ship (object_start r.machine) h region ≡ Some (version, part)) here.history
      (found_next w.objects.items o region version part next r at inside))
      ∙ (λ i. Some (entry (sym s.carrier i) (sym here.history i)))
