-- The processes of a placed application at the places of a legal trace: no entry loses an id, and each read is settled.
use Rattle.std.proofs.Common.{◌≡◌, ℕ, ◌++◌, ◌⊎◌, true, false, List, [], ◌∷◌, IsTrue, inl, inr, refl, sym, ap, ◌∙◌, subst}
use Rattle.std.specs.Prelude.{Contains, None, Option, Some, slice_get, take, ◌==◌, ◌&&◌}
use Rattle.std.specs.Option.{option_map_or}
use Rattle.std.proofs.lemmas.Bool.{and_parts}
use Rattle.std.proofs.lemmas.List.Elements.{filter_passes}
use Rattle.anti_ids.specs.Ids.{has_id}
use Rattle.anti_ids.specs.declared.id.WriteId.{WriteId}
use Rattle.anti_kind.specs.declared.actor.Actor.TheVariants.{Process}
use Rattle.anti_kind.specs.declared.actor.Birth.{Birth}
use Rattle.anti_kind.specs.declared.call.Call.{Call}
use Rattle.anti_kind.specs.declared.call.Call.TheVariants as calls
use Rattle.anti_kind.specs.declared.entry.Entry.{Entry}
use Rattle.anti_app.specs.declared.app.App.{App}
use Rattle.anti_app.specs.Objects.{is_store_here}
use Rattle.anti_app.specs.Sound.{is_sound}
use Rattle.anti_place.specs.declared.placement.Placement.TheVariants.{Yes}
use Rattle.anti_place.specs.Placements.{placement}
use Rattle.anti_proc.specs.Meaning.{tree_of}
use Rattle.anti_trace.specs.Legal.{IsLegalTrace}
use Rattle.anti_trace.specs.Traces.{entries_by, is_by}
use Rattle.anti_trace.proofs.Puts.{same_actor_itself}
use Rattle.law_causal.specs.Causal.{is_process}
use Rattle.law_causal.specs.Reads.{is_at, is_read_of, places, reads_of}
use Rattle.law_causal.specs.Carried.{Brought, IsLossless, carried_at}
use Rattle.law_causal.specs.Settled.{IsSettled, Looked, region_named}
use Rattle.law_causal.specs.Words.{hands_all, reads}
use Rattle.law_causal.proofs.Lists.{kept_between}
use Rattle.law_causal.proofs.Places.{made_at}
use Rattle.law_causal.proofs.Processes.{IsAsked, carried_is, hands_asked, tree_asks}
use Rattle.law_serial.specs.Causes.{IsChain}
use Rattle.law_serial.specs.Chains.{OrdersAreSerial}
use Rattle.law_serial.specs.Serial.{IsSettledRead}
use Rattle.law_placed.specs.Guarded.{AllExplained, AllSettled}
use Rattle.law_placed.proofs.Arriving.{came_by_name}
use Rattle.law_placed.proofs.Histories.{History, IsFoundBy, IsGoodAsk, along, brought_along, found_along, more, nothing, reached, waited_along}
use Rattle.law_placed.proofs.Starting.{process_good}
use Rattle.law_placed.proofs.Waiting.{has_waited}

-- a read hands on what is carried
reads_hand : (call : Call) → reads call ≡ true → hands_all call ≡ true
reads_hand (calls.Read region key) is = refl
reads_hand (calls.Scan region prefix) is = refl
reads_hand (calls.Poll region key) is = refl
reads_hand call is = absurd (cc)

module _ (app : App) (sound : IsTrue (is_sound app)) (placed : placement app ≡ Yes)
    (trace : List Entry) (legal : IsLegalTrace app trace) where
  module _ (j : ℕ) (e : Entry) (at : slice_get trace j ≡ Some e) (a : IsAsked app trace j e) where
    -- what its process did before
    abbrev before : List Entry
    before = entries_by e.actor (take j trace)

    abbrev history : History
    history = along app nothing before

    good_ask : IsGoodAsk app history a.ask
    good_ask =
        let birth : Entry = a.birth in
        let place = made_at trace e.actor j [] birth a.later a.before in
        let good = process_good app sound placed birth a.first_span
        (λ task starts. came_by_name app trace sound legal place.0 birth place.2 task starts) in
        subst (λ (es : List Entry). IsGoodAsk app (along app nothing es) a.ask) (sym a.before)
        (reached app (more app nothing birth.object birth.span birth.call birth.reply) (tree_of app birth) a.later a.ask good a.along
        (tree_asks app trace j e a))

    -- what came to the span before came to it in the history
    came_then : (w : WriteId) → Brought app trace j e w → history.came a.ask.span w ≡ true
    came_then w b =
        let by : is_by e.actor b.entry ≡ true = ap (λ actor. is_by actor b.entry) (sym b.earlier.actor) ∙ same_actor_itself b.entry.actor in
        let cut = kept_between (is_by e.actor) trace b.place j b.entry b.there by b.earlier.before in
        let front : List Entry = entries_by e.actor (take b.place trace) in
        let brought : (along app nothing (front ++ b.entry ∷ cut.0)).came b.entry.span w ≡ true =
        brought_along app front b.entry cut.0 nothing w b.came in
        subst (λ (n : ℕ). history.came n w ≡ true) (b.earlier.span ∙ a.span)
        (subst (λ (es : List Entry). (along app nothing es).came b.entry.span w ≡ true) (sym cut.1) brought)

    waited_then : history.waited ≡ true
    waited_then =
        waited_along app before nothing refl (λ front d back cut.
        let place = made_at trace e.actor j front d back cut in has_waited app trace sound legal place.0 d place.2)

    -- what was found in the history an earlier look of the span found
    looked_then : (w : WriteId) → history.found a.ask.span w ≡ true → Looked trace j e w
    looked_then w found = by_entry (found_along app before nothing a.ask.span w found)
      where
        by_entry : (false ≡ true) ⊎ IsFoundBy app a.ask.span w before → Looked trace j e w
        by_entry (inl none) = absurd (cc)
        by_entry (inr f) =
            let place = made_at trace e.actor j f.front f.entry f.back f.cut in
            record {
              place = place.0;
              entry = f.entry;
              there = place.2;
              earlier = record {
                before = place.1;
                process = ap is_process place.3 ∙ a.process;
                actor = place.3;
                span = f.span ∙ sym a.span;
              };
              found = f.found;
            }

    -- its process carries what came
    pub loses_none : hands_all e.call ≡ true → (w : WriteId) → Brought app trace j e w → has_id w (carried_at app trace j e) ≡ true
    loses_none hands w b =
        ap (has_id w) (carried_is app trace j e a) ∙ good_ask.keeps (ap hands_all (sym a.call) ∙ hands) w (came_then w b)

    -- and where it reads, looks found what it carries
    pub is_settled : reads e.call ≡ true → IsSettled app trace j e
    is_settled reading w has near =
        looked_then w
        (good_ask.guarded waited_then (ap reads (sym a.call) ∙ reading) w (sym (ap (has_id w) (carried_is app trace j e a)) ∙ has)
        (ap (λ (call : Call). is_store_here app (region_named call) w.store) (sym a.call) ∙ near))

  -- No entry loses an id.
  pub placed_is_lossless : IsLossless app trace
  placed_is_lossless j e at hands w b = loses_none j e at (hands_asked app trace legal j e at hands) hands w b

  -- Each read is settled.
  pub placed_is_settled : AllSettled app trace
  placed_is_settled j e at reading = is_settled j e at (hands_asked app trace legal j e at (reads_hand e.call reading)) reading

  -- So each read of a span is a settled read.
  reads_settled : (birth : Birth) (span : ℕ) (r : ℕ) → Contains (reads_of trace birth span) r → IsSettledRead app trace r
  reads_settled birth span r among = by_entry (slice_get trace r) refl (passes r among)
    where
      passes : (r : ℕ) → Contains (reads_of trace birth span) r → is_at (is_read_of birth span) trace r ≡ true
      passes r (k, short, is) =
          ap (is_at (is_read_of birth span) trace) (sym is) ∙ filter_passes (is_at (is_read_of birth span) trace) (places trace) k r short

      by_entry : (found : Option Entry) → slice_get trace r ≡ found → option_map_or (is_read_of birth span) found false ≡ true
          → IsSettledRead app trace r
      by_entry None at is = absurd (cc)
      by_entry (Some e) at is =
          let reading : reads e.call ≡ true = (and_parts (reads e.call) (is_by (Process birth) e && e.span == span) is).0 in
          record { entry = e; there = at; read = reading; settled = placed_is_settled r e at reading }

  -- And the order of the reads of each span explains them.
  pub placed_is_explained : OrdersAreSerial app trace → ((birth : Birth) (span : ℕ) → IsChain trace (reads_of trace birth span))
      → AllExplained app trace
  placed_is_explained serial chain birth span = serial (reads_of trace birth span) (reads_settled birth span) (chain birth span)
