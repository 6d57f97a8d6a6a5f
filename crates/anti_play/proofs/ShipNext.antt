-- The first shipment that is left on the way to a region is the next one there.
use Rattle.std.proofs.Common.{◌≡◌, ℕ, Bool, true, false, cond, List, [], ◌∷◌, ◌++◌, map, refl, sym, ap, ◌∙◌}
use Rattle.std.specs.Prelude.{IsTrue, Option, None, Some, find, flat_map, option_map, option_and_then, slice_get}
use Rattle.std.specs.Option.{option_or, option_map_or}
use Rattle.std.proofs.lemmas.List.{map-append}
use Rattle.std.proofs.lemmas.List.Concat.{flat_map-cons}
use Rattle.std.proofs.lemmas.Option.{slice_get_within}
use Rattle.anti_kind.specs.declared.asking.Asking.{Asking}
use Rattle.anti_kind.specs.declared.call.Call.TheVariants as calls
use Rattle.anti_kind.specs.declared.row.Row.{Row}
use Rattle.anti_kind.specs.declared.store_kind.StoreKind.{StoreKind}
use Rattle.anti_kind.specs.declared.entry.Entry.{Entry}
use Rattle.anti_kind.specs.Caches.{store_with}
use Rattle.anti_kind.specs.Objects.{Start, store, fits}
use Rattle.anti_kind.specs.Shipments.{next_ship, shipment, shipments, next_shipment}
use Rattle.anti_kind.specs.Store.{Store, can_ship}
use Rattle.anti_kind.specs.Stored.{parts, rows}
use Rattle.anti_app.specs.declared.app.App.{App}
use Rattle.anti_app.specs.declared.app.Choice.{Choice}
use Rattle.anti_app.specs.declared.app.Choice.TheVariants.{Ship}
use Rattle.anti_app.specs.declared.app.StoreDef.{StoreDef}
use Rattle.anti_app.specs.Sound.{is_sound}
use Rattle.anti_app.specs.Subs.{subs_on}
use Rattle.anti_object.specs.Starts.{room_of, start_of, store_start, tries_of}
use Rattle.anti_object.proofs.Starts.{start_of-store, start_sound}
use Rattle.anti_trace.specs.Traces.{entries_on}
use Rattle.anti_play.specs.Schedule.{carrying, chosen, first_of, next_entry, ships_at, ships_of, ships_to}
use Rattle.anti_trace.specs.Legal.{IsLegalTrace}
use Rattle.anti_kind.specs.Records.{Record}
use Rattle.anti_object.specs.declared.object.Object.{Object}
use Rattle.anti_object.specs.Standing.{object_start}
use Rattle.anti_play.specs.inner.Standing.{IsObject}
use Rattle.anti_play.specs.inner.Finishing.{next_shipped, shipped, ships_from}
use Rattle.anti_play.proofs.MadeAt.{free_fits, unready, ready_made}
use Rattle.anti_play.proofs.FirstOf.{first_of-flat_map, first_of-map, first_of-same}

-- ---- the first that passes a test

module _ {X : Type 0} (test : X → Bool) (entry : X → Option Entry) (none : (x : X) → test x ≡ false → entry x ≡ None)
    (some : (x : X) → test x ≡ true → (e : Entry) × (entry x ≡ Some e)) where
  first_passing : (xs : List X) → first_of entry xs ≡ option_and_then entry (find test xs)
  first_passing [] = refl
  first_passing (x ∷ xs) = by_test (test x) refl (first_passing xs)
    where
      by_test : (t : Bool) → test x ≡ t → first_of entry xs ≡ option_and_then entry (find test xs) → option_or (entry x) (first_of entry xs) ≡ option_and_then entry (cond t (Some x) (find test xs))
      by_test true on later =
          let made : (e : Entry) × (entry x ≡ Some e) = some x on in
          ap (λ (o : Option Entry). option_or o (first_of entry xs)) made.1 ∙ sym made.1
      by_test false off later = ap (λ (o : Option Entry). option_or o (first_of entry xs)) (none x off) ∙ later

-- ---- a store

abbrev pub store_at : App → ℕ → StoreDef → Store
store_at app o d = store_with d.kind o d.replicas.items (subs_on app o) (tries_of d) (room_of d)

pub start_is : (app : App) (o : ℕ) (d : StoreDef) → slice_get app.stores.items o ≡ Some d → start_of app o ≡ Some (store (store_at app o d))
start_is app o d found = start_of-store app o (slice_get_within app.stores.items o d found) ∙ ap (option_map (store_start app o)) found

-- ---- the shipments to a region

-- a shipment, by its version and its part, as a choice
abbrev ship_of : ℕ → ℕ → ℕ × ℕ → Choice
ship_of o g x = Ship o g x.0 (Some x.1)

parts_are : (o g v : ℕ) (ps : List ℕ) → map (λ part. Ship o g v (Some part)) ps ≡ map (ship_of o g) (map (shipment v) ps)
parts_are o g v [] = refl
parts_are o g v (p ∷ ps) = ap (λ (cs : List Choice). Ship o g v (Some p) ∷ cs) (parts_are o g v ps)

ships_are : (kind : StoreKind) (o g : ℕ) (rs : List Row) → flat_map (ships_of kind o g) rs ≡ map (ship_of o g) (flat_map (shipments kind) rs)
ships_are kind o g [] = refl
ships_are kind o g (r ∷ rs) =
    flat_map-cons (ships_of kind o g) r rs
    ∙ ap (λ (cs : List Choice). cs ++ flat_map (ships_of kind o g) rs) (parts_are o g r.version (parts kind r))
    ∙ ap (λ (cs : List Choice). map (ship_of o g) (shipments kind r) ++ cs) (ships_are kind o g rs)
    ∙ sym (map-append (ship_of o g) (shipments kind r) (flat_map (shipments kind) rs))
    ∙ ap (map (ship_of o g)) (sym (flat_map-cons (shipments kind) r rs))

module _ (app : App) (sound : IsTrue (is_sound app)) (trace : List Entry) (run : IsLegalTrace app trace) (o : ℕ) where
  abbrev h : List Entry
  h = entries_on o trace

  module _ (s : Store) (there : start_of app o ≡ Some (store s)) (g : ℕ) where
    -- a shipment needs no units
    has_units : (x : ℕ × ℕ) → fits (store s) h (calls.Ship g x.0 x.1) ≡ true
    has_units x =
        free_fits (store s) h (calls.Ship g x.0 x.1) (start_sound app o (store s) sound there) (run.histories o (store s) there) refl

    abbrev ship : ℕ × ℕ → Asking
    ship x = carrying trace o (calls.Ship g x.0 x.1)

    next_is : next_shipped app trace o g ≡ option_and_then (shipped app trace o g) (next_shipment s h g)
    next_is = ap (λ (start : Option Start). option_and_then (shipped app trace o g) (option_and_then (λ x. next_ship x h g) start)) there

    pub first_to : first_of (chosen app trace) (ships_to s.kind o h g) ≡ next_shipped app trace o g
    first_to =
        ap (first_of (chosen app trace)) (ships_are s.kind o g (rows h))
        ∙ first_of-map (chosen app trace) (ship_of o g) (flat_map (shipments s.kind) (rows h))
        ∙ first_passing (λ x. can_ship s h g x.0 x.1) (shipped app trace o g) (λ x off. unready app trace (ship x) (store s) there off)
        (λ x on. (next_entry (store s) h (ship x), ready_made app trace (ship x) (store s) there on (has_units x))) (flat_map (shipments s.kind) (rows h))
        ∙ sym next_is

  -- the shipments of a store, to each of its replicas
  pub first_from : (d : StoreDef) → slice_get app.stores.items o ≡ Some d → first_of (next_shipped app trace o) d.replicas.items ≡ first_of (chosen app trace) (ships_from app trace o)
  first_from d found =
      let s : Store = store_at app o d in
      let there : start_of app o ≡ Some (store s) = start_is app o d found in
      first_of-same (next_shipped app trace o) (λ g. first_of (chosen app trace) (ships_to s.kind o h g)) (λ g. sym (first_to s there g)) d.replicas.items
      ∙ sym (first_of-flat_map (chosen app trace) (ships_to s.kind o h) s.regions)
      ∙ ap (λ (start : Option Start). first_of (chosen app trace) (option_map_or (ships_at o h) start [])) (sym there)

-- what the next shipment of an object makes
pub shipped_is : (app : App) (trace : List Entry) (o g : ℕ) (r : Record Object) (named : Option (ℕ × ℕ)) → IsObject app o r (entries_on o trace)
    → named ≡ next_ship (object_start r.machine) r.history g → next_shipped app trace o g ≡ option_and_then (shipped app trace o g) named
shipped_is app trace o g r named is next =
    ap (λ (start : Option Start). option_and_then (shipped app trace o g) (option_and_then (λ x. next_ship x (entries_on o trace) g) start)) is.start
    ∙ ap (λ (h : List Entry). option_and_then (shipped app trace o g) (next_ship (object_start r.machine) h g)) (sym is.history)
    ∙ ap (option_and_then (shipped app trace o g)) (sym next)
