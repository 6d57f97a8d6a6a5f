-- The processes that requests began, by the marks of their first entries.
use Rattle.std.proofs.Common.{◌≡◌, ℕ, ◌&&◌, Bool, true, false, List, refl, sym, ap, ◌∙◌, eqb-true}
use Rattle.std.specs.Prelude.{◌==◌, None, Some, option_map, slice_get}
use Rattle.std.specs.Cmp.{both_ways}
use Rattle.std.specs.Option.{option_map_or}
use Rattle.std.proofs.lemmas.Bool.{and_from, and_parts, eq-eqb}
use Rattle.std.proofs.lemmas.List.Folds.{Any-from_list_any}
use Rattle.std.proofs.lemmas.Map.Keys.{any_passes_from_place}
use Rattle.std.proofs.lemmas.Option.{slice_get-get_or}
use Rattle.anti_kind.specs.declared.actor.Birth.{Birth}
use Rattle.anti_kind.specs.declared.entry.Entry.{Entry}
use Rattle.anti_trace.specs.declared.mark.Mark.{Mark}
use Rattle.law_causal.specs.Reads.{is_at}
use Rattle.anti_past.specs.Losses.{mark_of}
use Rattle.anti_past.specs.declared.marks.PlaceByMark.{PlaceByMark}
use Rattle.anti_past.specs.inner.Marks.{KnowsPlaces, place_known}
use Rattle.anti_past.proofs.MarkPlaces.{marked}
use Rattle.anti_session.specs.Sessions.{is_requested, takes_request}

module _ (trace : List Entry) (marks : PlaceByMark) (knows : KnowsPlaces trace marks) (birth : Birth) where
  abbrev begins : Entry → Bool
  begins e = e.object == birth.object && (e.place == birth.place && takes_request e.call e.reply)

  abbrev first : Mark
  first = record { object = birth.object; place = birth.place }

  -- where a request is taken, with the mark of the birth
  taken_at : is_requested trace birth ≡ true
      → (j : ℕ) × (e : Entry) × (slice_get trace j ≡ Some e) × (takes_request e.call e.reply ≡ true) × (place_known marks first ≡ Some j)
  taken_at is =
      let any = Any-from_list_any begins trace is in
      let e : Entry = any.1 in
      let at : slice_get trace any.0 ≡ Some e = slice_get-get_or trace any.0 e any.2 ∙ ap Some any.3 in
      let parts = and_parts (e.object == birth.object) (e.place == birth.place && takes_request e.call e.reply) any.4 in
      let rest = and_parts (e.place == birth.place) (takes_request e.call e.reply) parts.1 in
      let same : mark_of e ≡ first =
      ap (λ (x : ℕ). record { object = x; place = e.place }) (eqb-true e.object birth.object parts.0)
      ∙ ap (λ (x : ℕ). record { object = birth.object; place = x }) (eqb-true e.place birth.place rest.0) in
      (any.0, e, at, rest.1, (knows first any.0).1 (ap (option_map mark_of) at ∙ ap Some same))

  pub none_requested : place_known marks first ≡ None → false ≡ is_requested trace birth
  none_requested none = by_test (is_requested trace birth) refl
    where
      by_test : (t : Bool) → is_requested trace birth ≡ t → false ≡ is_requested trace birth
      by_test true on = let found = taken_at on in let never : None ≡ Some found.0 = sym none ∙ found.4 in absurd (cc)
      by_test false off = sym off

  pub one_requested : (i : ℕ) → place_known marks first ≡ Some i
      → is_at (λ e. takes_request e.call e.reply) trace i ≡ is_requested trace birth
  one_requested i some =
      both_ways (is_at (λ e. takes_request e.call e.reply) trace i) (is_requested trace birth)
      (λ on.
      let its = marked trace i first ((knows first i).0 some) in
      let a : Entry = its.0 in
      let takes : takes_request a.call a.reply ≡ true = sym (ap
      (λ found. option_map_or (λ (e : Entry). takes_request e.call e.reply) found false) its.1) ∙ on in
      any_passes_from_place begins trace i a its.1
      (and_from (a.object == birth.object) (a.place == birth.place && takes_request a.call a.reply)
      (eq-eqb a.object birth.object (ap (λ (m : Mark). m.object) its.2))
      (and_from (a.place == birth.place) (takes_request a.call a.reply)
      (eq-eqb a.place birth.place (ap (λ (m : Mark). m.place) its.2)) takes)))
      (λ on.
      let found = taken_at on in
      let both : Some i ≡ Some found.0 = sym some ∙ found.4 in
      let same : i ≡ found.0 = cc in
      ap (is_at (λ e. takes_request e.call e.reply) trace) same
      ∙ ap (λ o. option_map_or (λ (e : Entry). takes_request e.call e.reply) o false) found.2
      ∙ found.3)
