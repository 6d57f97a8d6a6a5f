-- The barriers of a legal trace found all that is carried, and its dry runs name what is not visible.
use Rattle.std.proofs.Common.{◌≡◌, ℕ, ◌≤◌, ◌==◌, ◌↔◌, true, false, List, [], refl, sym, ap, ◌∙◌, eq-eqb, arith}
use Rattle.std.specs.Prelude.{IsTrue, Some, slice_get, take}
use Rattle.std.proofs.lemmas.Bool.{and_from}
use Rattle.anti_ids.specs.Ids.{has_id}
use Rattle.anti_ids.proofs.IdLemmas.{has_id-ids_of}
use Rattle.anti_ids.specs.declared.id.WriteId.{WriteId}
use Rattle.anti_kind.specs.declared.call.Call.{Call}
use Rattle.anti_kind.specs.declared.call.Call.TheVariants as calls
use Rattle.anti_kind.specs.declared.entry.Entry.{Entry}
use Rattle.anti_kind.specs.Replies.{named_missing}
use Rattle.anti_kind.specs.Store.{is_written}
use Rattle.anti_app.specs.declared.app.App.{App}
use Rattle.anti_app.specs.Objects.{is_store_here}
use Rattle.anti_app.specs.Sound.{is_sound}
use Rattle.anti_trace.specs.Legal.{IsLegalTrace}
use Rattle.anti_trace.specs.Traces.{entries_on}
use Rattle.law_causal.specs.Carried.{carried_at}
use Rattle.law_causal.specs.Settled.{AskedFor, BarriersFindAll, DryRunsName, is_barrier_look, is_dry_look, is_visible_after, left_at, region_named}
use Rattle.law_causal.proofs.Legal.{facts}
use Rattle.law_causal.proofs.Looks.{all_looked, as_asked, look_ids, looked_id}
use Rattle.law_causal.proofs.Stores.{dry_names, look_store, looked_visible_after, visible_after}
use Rattle.law_causal.proofs.Written.{carried_is_written}

module _ (app : App) (trace : List Entry) (legal : IsLegalTrace app trace) where
  -- what a look of a barrier asks for is carried, so it is written
  asked_is_written : IsTrue (is_sound app) → (i : ℕ) (d : Entry) → slice_get trace i ≡ Some d → (region : ℕ) (ids : List WriteId)
      → d.call ≡ calls.Look region ids false → (v : WriteId) → has_id v ids ≡ true → is_written (entries_on v.store (take i trace)) v ≡ true
  asked_is_written sound i d at region ids is v asked =
      carried_is_written app trace (facts app trace sound legal) i d at v (looked_id app trace legal i d at region ids false is v asked).0

  -- Each id that is carried was asked for by a look of the barrier, which found all that it asked for.
  pub barriers_find_all : IsTrue (is_sound app) → BarriersFindAll app trace
  barriers_find_all sound j e at barrier left w has here = by_call e.call refl barrier here
    where
      by_call : (call : Call) → e.call ≡ call → is_barrier_look call ≡ true → is_store_here app (region_named call) w.store ≡ true
          → (a : AskedFor app trace j e w) × (is_visible_after app (take a.place trace) (region_named call) w ≡ true)
          × (is_visible_after app (take j trace) (region_named call) w ≡ true)
      by_call (calls.Look region ids false) is barrier here =
          let a : AskedFor app trace j e w = all_looked app trace legal j e at region ids false is left w has here in
          let call : a.look.call ≡ calls.Look region a.ids false = a.call ∙ as_asked e.call region ids false is a.ids in
          let written : (v : WriteId) → has_id v a.ids ≡ true → is_written (entries_on v.store (take a.place trace)) v ≡ true =
          λ v asked. asked_is_written sound a.place a.look a.there region a.ids call v asked in
          let seen : (k : ℕ) → a.place ≤ k → is_visible_after app (take k trace) region w ≡ true =
          λ k le. looked_visible_after app trace legal a.place a.look a.there region a.ids call written w a.asked k le in
          (a, seen a.place (omega arith), seen j a.upto)
      by_call (calls.Look region ids true) is barrier here = absurd (cc)
      by_call call is barrier here = absurd (cc)

  -- What a look of a dry run asks for is carried and of its store, and it names what of this is not visible. The looks of a dry run that is
  -- finished asked for all.
  pub dry_runs_name : DryRunsName app trace
  dry_runs_name j e at dry w = by_call e.call refl dry
    where
      by_call : (call : Call) → e.call ≡ call → is_dry_look call ≡ true
          → ((has_id w (named_missing e.reply) ≡ true)
          ↔ ((has_id w (carried_at app trace j e) ≡ true) × (w.store ≡ e.object) × (is_visible_after app (take j trace) (region_named call) w ≡ false)))
          × (left_at app trace j e ≡ Some [] → has_id w (carried_at app trace j e) ≡ true → is_store_here app (region_named call) w.store ≡ true
          → AskedFor app trace j e w)
      by_call (calls.Look region ids true) is dry =
          let carried : List WriteId = carried_at app trace j e in
          let found = look_store app trace legal j e at region ids true is in
          let names = dry_names app trace legal j e at region ids is found.0 found.1 w in (
            (
              λ named.
                  let its = names.0 named in
                  let own = looked_id app trace legal j e at region ids true is w its.0 in
                  (own.0, own.1, visible_after app (take j trace) region w e.object own.1 found.0 found.1 ∙ its.1),
              λ its. names.1 (
                ap (has_id w) (look_ids app trace legal j e at region ids true is)
                    ∙ has_id-ids_of w e.object carried ∙ and_from (has_id w carried) (w.store == e.object) its.0 (eq-eqb w.store e.object its.1),
                sym (visible_after app (take j trace) region w e.object its.1 found.0 found.1) ∙ its.2,
              ),
            ),
            λ left has here. all_looked app trace legal j e at region ids true is left w has here,
          )
      by_call (calls.Look region ids false) is dry = absurd (cc)
      by_call call is dry = absurd (cc)
