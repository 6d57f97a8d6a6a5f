-- What comes again first to the caches of a store is what comes again next to their regions.
use Rattle.std.proofs.Common.{◌≡◌, ℕ, Bool, true, false, cond, List, [], ◌∷◌, refl, sym, ap, ◌∙◌}
use Rattle.std.specs.Prelude.{Option, None, Some, option_and_then, option_map, slice_get}
use Rattle.std.specs.Option.{option_map_or, option_or}
use Rattle.anti_kind.specs.declared.call.Call.TheVariants as calls
use Rattle.anti_kind.specs.declared.entry.Entry.{Entry}
use Rattle.anti_kind.specs.Caches.{stale, stale_in}
use Rattle.anti_kind.specs.Kinds.{facts_of}
use Rattle.anti_kind.specs.Objects.{Start, store}
use Rattle.anti_kind.specs.Store.{Store}
use Rattle.anti_app.specs.declared.app.App.{App}
use Rattle.anti_app.specs.declared.app.StoreDef.{StoreDef}
use Rattle.anti_object.specs.Starts.{start_of}
use Rattle.anti_trace.specs.Traces.{entries_on}
use Rattle.anti_play.specs.Schedule.{again_of, agains_at, agains_to, carrying, chosen, first_of, made_at}
use Rattle.anti_play.specs.inner.Attending.{caches}
use Rattle.anti_play.specs.inner.Finishing.{agains_from, next_again}
use Rattle.anti_play.proofs.FirstAwake.{none_awake}
use Rattle.anti_play.proofs.FirstOf.{first_of-flat_map, first_of-same}
use Rattle.anti_play.proofs.ShipNext.{start_is, store_at}

-- the entry of what comes again next to a region
abbrev pub again_made : App → List Entry → ℕ → ℕ → Option Entry
again_made app trace o g = option_and_then (made_at app trace) (next_again app trace o g)

or_none : (x : Option Entry) → option_or x None ≡ x
or_none None = refl
or_none (Some e) = refl

module _ (app : App) (trace : List Entry) where
  -- by the version that comes again
  of_version : (o g : ℕ) (version : Option ℕ) → first_of (chosen app trace) (option_map_or (λ v. again_of o g v ∷ []) version [])
      ≡ option_and_then (made_at app trace) (option_map (λ v. carrying trace o (calls.Again g v 1)) version)
  of_version o g None = refl
  of_version o g (Some v) = or_none (made_at app trace (carrying trace o (calls.Again g v 1)))

  -- by the start of the object
  of_start : (o g : ℕ) (start : Start) → start_of app o ≡ Some start
      → again_made app trace o g ≡ option_and_then (made_at app trace) (option_map (λ v. carrying trace o (calls.Again g v 1)) (stale start (entries_on o trace) g))
  of_start o g start there =
      ap (λ (s : Option Start). option_and_then (made_at app trace)
      (option_map (λ v. carrying trace o (calls.Again g v 1)) (option_and_then (λ x. stale x (entries_on o trace) g) s))) there

  module _ (o : ℕ) (d : StoreDef) (found : slice_get app.stores.items o ≡ Some d) where
    abbrev s : Store
    s = store_at app o d

    there : start_of app o ≡ Some (store s)
    there = start_is app o d found

    again_to : (g : ℕ) → again_made app trace o g ≡ first_of (chosen app trace) (agains_to o (entries_on o trace) (store s) g)
    again_to g = of_start o g (store s) there ∙ sym (of_version o g (stale (store s) (entries_on o trace) g))

    -- without a cache nothing comes again
    none_again : (facts_of d.kind).cached ≡ false → (g : ℕ) → again_made app trace o g ≡ None
    none_again off g =
        of_start o g (store s) there
        ∙ ap (λ (cached : Bool). option_and_then (made_at app trace)
        (option_map (λ v. carrying trace o (calls.Again g v 1)) (cond cached (stale_in s (entries_on o trace) g) None))) off

    among_caches : (cached : Bool) → (facts_of d.kind).cached ≡ cached
        → first_of (again_made app trace o) (cond cached d.replicas.items []) ≡ first_of (again_made app trace o) d.replicas.items
    among_caches true is = refl
    among_caches false is = sym (none_awake (again_made app trace o) d.replicas.items (λ g among. none_again is g))

    -- what comes again to the caches of a store
    pub again_from : first_of (again_made app trace o) (caches d) ≡ first_of (chosen app trace) (agains_from app trace o)
    again_from =
        among_caches (facts_of d.kind).cached refl
        ∙ first_of-same (again_made app trace o) (λ g. first_of (chosen app trace) (agains_to o (entries_on o trace) (store s) g)) again_to d.replicas.items
        ∙ sym (first_of-flat_map (chosen app trace) (agains_to o (entries_on o trace) (store s)) s.regions)
        ∙ ap (λ (start : Option Start). first_of (chosen app trace) (option_map_or (agains_at o (entries_on o trace)) start [])) (sym there)
