-- Whether an entry loses an id, by what is known to have come to its span, and what is known behind it.
use Rattle.std.proofs.Common.{◌≡◌, ℕ, ◌+◌, ◌<◌, ◌≤◌, ◌&&◌, ◌||◌, ◌++◌, Bool, true, false, not, cond, List, [], ◌∷◌, refl, sym, ap, ◌∙◌, subst, inl, inr, arith, length}
use Rattle.std.specs.Prelude.{None, Option, Some, flat_map, slice_get, take, unwrap_or}
use Rattle.std.specs.BTreeMap as tree
use Rattle.std.specs.Cmp.{both_ways}
use Rattle.std.specs.List.{filter}
use Rattle.std.specs.Option.{option_map_or}
use Rattle.std.proofs.lemmas.Bool.{cases_lt, or_left, or_right}
use Rattle.std.proofs.lemmas.Grind.{flat_map-append}
use Rattle.std.proofs.lemmas.List.Elements.{filter-append}
use Rattle.std.proofs.lemmas.Option.{slice_get_within}
use Rattle.anti_ids.specs.Ids.{has_id}
use Rattle.anti_ids.specs.declared.id.WriteId.{WriteId}
use Rattle.anti_kind.specs.declared.entry.Entry.{Entry}
use Rattle.anti_app.specs.declared.app.App.{App}
use Rattle.anti_trace.specs.Legal.{IsLegalTrace}
use Rattle.law_causal.specs.Words.{brings, hands_all}
use Rattle.law_causal.specs.Causal.{is_process}
use Rattle.law_causal.specs.Carried.{Brought, IsLossless, carried_at}
use Rattle.law_causal.proofs.Ids.{has_append, has_joined}
use Rattle.law_causal.proofs.Lists.{IsKept, cut_of, kept_at, kept_between, same_at}
use Rattle.law_causal.proofs.Processes.{came}
use Rattle.anti_past.specs.Losses.{Loses}
use Rattle.anti_past.specs.declared.came.AllCame.{AllCame}
use Rattle.anti_past.specs.declared.came.Came.{Came}
use Rattle.anti_past.specs.declared.span_keys.SpanKey.{SpanKey}
use Rattle.anti_past.specs.inner.Came.{AllCameBefore, Follows, IsKnown, NoneLoses, TellsLoss, brought_at, came_ids, came_to, holds, ids_known}
use Rattle.anti_past.specs.inner.Keys.{is_in, key_cmp, key_of, same_key}
use Rattle.anti_past.specs.inner.Walking.{IsHanded}
use Rattle.anti_past.proofs.Fronts.{taken}
use Rattle.anti_past.proofs.Grown.{begun, grown, has_alone, or_none, set_anew}
use Rattle.anti_past.proofs.Held.{all_has, lost_one}
use Rattle.anti_past.proofs.InSpan.{earlier_from, earlier_in, in_by_key, in_none, no_process}
use Rattle.anti_past.proofs.KeyOrder.{same_key_is}

module _ (app : App) (trace : List Entry) (k : ℕ) (e : Entry) (at : slice_get trace k ≡ Some e) where
  -- ---- what came to a span

  came_behind : (q : SpanKey) (xs ys : List Entry) → came_to app q (xs ++ ys) ≡ came_to app q xs ++ came_to app q ys
  came_behind q xs ys = ap (flat_map (brings app)) (filter-append (is_in q) xs ys) ∙ flat_map-append (brings app) (filter (is_in q) xs) (filter (is_in q) ys)

  came_alone : (q : SpanKey) (w : WriteId) → has_id w (came_to app q (e ∷ [])) ≡ (is_in q e && has_id w (brings app e))
  came_alone q w = by_test (is_in q e)
    where
      by_test : (t : Bool) → has_id w (flat_map (brings app) (cond t (e ∷ []) [])) ≡ (t && has_id w (brings app e))
      by_test true = has_alone w (brings app e)
      by_test false = refl

  came_more : (q : SpanKey) (w : WriteId) → has_id w (came_to app q (take (k + 1) trace)) ≡ (has_id w (came_to app q (take k trace)) || is_in q e && has_id w (brings app e))
  came_more q w =
      ap (λ (es : List Entry). has_id w (came_to app q es)) (taken trace k e at)
      ∙ ap (has_id w) (came_behind q (take k trace) (e ∷ []))
      ∙ has_append w (came_to app q (take k trace)) (came_to app q (e ∷ []))
      ∙ ap (λ (t : Bool). has_id w (came_to app q (take k trace)) || t) (came_alone q w)

  its_ids : (w : WriteId) → has_id w (brought_at app trace k) ≡ has_id w (brings app e)
  its_ids w = ap (λ found. has_id w (option_map_or (brings app) found [])) at

  -- ---- an entry of no process

  pub none_lost : key_of e ≡ None → Loses app trace k e → ⊥
  none_lost none loses =
      let earlier = loses.brought.earlier in
      no_process e.actor e.span none (ap is_process (sym earlier.actor) ∙ earlier.process)

  pub none_known : key_of e ≡ None → (all : AllCame) → IsKnown app trace k all → IsKnown app trace (k + 1) all
  none_known none all known q w =
      known q w ∙ sym (came_more q w
      ∙ ap (λ (t : Bool). has_id w (came_to app q (take k trace)) || t && has_id w (brings app e)) (in_none e none q)
      ∙ or_none (has_id w (came_to app q (take k trace))))

  -- ---- an entry at which nothing is to be carried

  pub unchecked_lost : hands_all e.call ≡ false → Loses app trace k e → ⊥
  unchecked_lost off loses = let on = loses.hands in absurd (let both : false ≡ true = sym off ∙ on in cc)

  module _ (key : SpanKey) (is : key_of e ≡ Some key) where
    pub added_known : (old new : AllCame) → IsKnown app trace k old
        → ((q : SpanKey) (w : WriteId) → has_id w (ids_known app trace new q) ≡ (has_id w (ids_known app trace old q) || same_key key q && has_id w (brought_at app trace k)))
        → IsKnown app trace (k + 1) new
    added_known old new known adds q w =
        adds q w
        ∙ ap (λ (t : Bool). t || same_key key q && has_id w (brought_at app trace k)) (known q w)
        ∙ ap (λ (t : Bool). has_id w (came_to app q (take k trace)) || same_key key q && t) (its_ids w)
        ∙ ap (λ (t : Bool). has_id w (came_to app q (take k trace)) || t && has_id w (brings app e)) (sym (in_by_key e key is q))
        ∙ sym (came_more q w)

    -- ---- what came to its span

    brought_came : (w : WriteId) → Brought app trace k e w → has_id w (came_to app key (take k trace)) ≡ true
    brought_came w b =
        let within : is_in key b.entry ≡ true = earlier_in key b.place b.entry k e is b.earlier in
        let kept = kept_between (is_in key) trace b.place k b.entry b.there within b.earlier.before in
        let front : List WriteId = came_to app key (take b.place trace) in
        let later : List WriteId = flat_map (brings app) kept.0 in
        ap (λ (es : List Entry). has_id w (flat_map (brings app) es)) kept.1
        ∙ ap (has_id w) (flat_map-append (brings app) (filter (is_in key) (take b.place trace)) (b.entry ∷ kept.0))
        ∙ has_append w front (brings app b.entry ++ later)
        ∙ or_right (has_id w front) (has_id w (brings app b.entry ++ later))
        (has_append w (brings app b.entry) later ∙ or_left (has_id w (brings app b.entry)) (has_id w later) b.came)

    came_brought : (w : WriteId) → has_id w (came_to app key (take k trace)) ≡ true → Brought app trace k e w
    came_brought w has =
        let joined = has_joined (brings app) w (filter (is_in key) (take k trace)) has in
        let a : Entry = joined.0 in
        let cut = cut_of (filter (is_in key) (take k trace)) a joined.1 in
        let kept : IsKept (is_in key) trace k cut.0 a = kept_at (is_in key) trace k cut.0 a cut.1 cut.2 in
        let earlier = earlier_from key kept.place a k e is kept.passes kept.early in
        record { place = kept.place; entry = a; there = kept.there; earlier = earlier; came = joined.2 }

    -- what is carried into it came before
    pub carried_came : IsLegalTrace app trace → (w : WriteId) → has_id w (carried_at app trace k e) ≡ true → has_id w (came_to app key (take k trace)) ≡ true
    carried_came legal w has = brought_came w (came app trace legal k e at w has)

    -- ---- an entry at which all is to be carried

    module _ (carried : List WriteId) (carries : carried ≡ carried_at app trace k e) (all : AllCame) (known : IsKnown app trace k all) where
      pub found_lost : hands_all e.call ≡ true → holds carried (ids_known app trace all key) ≡ false → Loses app trace k e
      found_lost hands lost =
          let one = lost_one carried (ids_known app trace all key) lost in
          record {
            hands = hands;
            id = one.0;
            brought = came_brought one.0 (sym (known key one.0) ∙ one.1);
            lost = ap (has_id one.0) (sym carries) ∙ one.2;
          }

      module _ (held : holds carried (ids_known app trace all key) ≡ true) where
        came_held : (w : WriteId) → has_id w (came_to app key (take k trace)) ≡ true → has_id w carried ≡ true
        came_held w has = all_has (λ i. has_id i carried) (ids_known app trace all key) held w (known key w ∙ has)

        pub held_lost : Loses app trace k e → ⊥
        held_lost loses =
            let on : has_id loses.id carried ≡ true = came_held loses.id (brought_came loses.id loses.brought) in
            absurd (let both : true ≡ false = sym on ∙ ap (has_id loses.id) carries ∙ loses.lost in cc)

        -- all that came is what is carried
        all_held : IsLegalTrace app trace → (w : WriteId) → has_id w carried ≡ has_id w (came_to app key (take k trace))
        all_held legal w =
            both_ways (has_id w carried) (has_id w (came_to app key (take k trace)))
            (λ has. carried_came legal w (ap (has_id w) (sym carries) ∙ has))
            (came_held w)

        pub held_known : IsLegalTrace app trace → (new : AllCame)
            → ((q : SpanKey) → ids_known app trace new q ≡ cond (same_key key q) (carried ++ (brought_at app trace k ++ [])) (ids_known app trace all q))
            → IsKnown app trace (k + 1) new
        held_known legal new sets q w =
            ap (has_id w) (sets q)
            ∙ by_test (same_key key q) refl
            ∙ ap (λ (t : Bool). has_id w (came_to app q (take k trace)) || t && has_id w (brings app e)) (sym (in_by_key e key is q))
            ∙ sym (came_more q w)
          where
            by_test : (t : Bool) → same_key key q ≡ t
                → has_id w (cond t (carried ++ (brought_at app trace k ++ [])) (ids_known app trace all q))
                ≡ (has_id w (came_to app q (take k trace)) || t && has_id w (brings app e))
            by_test false off = known q w ∙ sym (or_none (has_id w (came_to app q (take k trace))))
            by_test true on =
                let same : key ≡ q = same_key_is key q on in
                has_append w carried (brought_at app trace k ++ [])
                ∙ ap (λ (t : Bool). has_id w carried || t) (has_alone w (brought_at app trace k) ∙ its_ids w)
                ∙ ap (λ (t : Bool). t || has_id w (brings app e)) (all_held legal w ∙ ap (λ (z : SpanKey). has_id w (came_to app z (take k trace))) same)

      -- ---- what is told of the entry

      pub tells : hands_all e.call ≡ true → (held : Bool) → held ≡ holds carried (ids_known app trace all key)
          → TellsLoss app trace k e (not held)
      tells hands true is = held_lost (sym is)
      tells hands false is = found_lost hands (sym is)

    -- ---- what is known behind it

    module _ (all new : AllCame) (known : IsKnown app trace k all) (legal : IsLegalTrace app trace) where
      -- the first entry of its span
      pub first_told : (handed : Option (List WriteId)) → IsHanded app trace k e handed → tree.get key_cmp all.spans key ≡ None
          → ((q : SpanKey) → ids_known app trace new q ≡ cond (same_key key q) (unwrap_or handed [] ++ (brought_at app trace k ++ [])) (ids_known app trace all q))
          → TellsLoss app trace k e false × IsKnown app trace (k + 1) new
      first_told (Some ids) its none sets =
          let held : holds ids (ids_known app trace all key) ≡ true = ap (λ found. holds ids (option_map_or (came_ids app trace) found [])) none in
          (held_lost ids its.1 all known held, held_known ids its.1 all known held legal new sets)
      first_told None off none sets = (unchecked_lost off, added_known all new known (λ q w. begun app trace w all new key k none q (sets q)))

      -- and a further one
      module _ (was now : Came) (there : tree.get key_cmp all.spans key ≡ Some was) (updates : tree.Updates key_cmp all.spans new.spans key (Some now)) where
        its_known : ids_known app trace all key ≡ came_ids app trace was
        its_known = ap (λ found. option_map_or (came_ids app trace) found []) there

        pub handed_came : (handed : Option (List WriteId)) → IsHanded app trace k e handed → AllCameBefore app trace handed was
        handed_came (Some ids) its = λ w has.
            ap (has_id w) (sym its_known) ∙ known key w ∙ carried_came legal w (ap (has_id w) (sym its.1) ∙ has)
        handed_came None off = tt

        was_held : (t : Bool) → not t ≡ false → t ≡ true
        was_held true is = refl
        was_held false is = absurd (cc)

        pub further_told : (handed : Option (List WriteId)) → IsHanded app trace k e handed → (lost : Bool) → Follows app trace k handed was now lost
            → TellsLoss app trace k e lost × (lost ≡ false → IsKnown app trace (k + 1) new)
        further_told (Some ids) its lost follows =
            let held : Bool = holds ids (came_ids app trace was) in (
              subst (TellsLoss app trace k e) (sym follows.0) (tells ids its.1 all known its.0 held (ap (holds ids) (sym its_known))),
              λ none.
                  let all_held : holds ids (ids_known app trace all key) ≡ true = ap (holds ids) its_known ∙ was_held held (sym follows.0 ∙ none) in
                  let set = follows.1 none in
                  held_known ids its.1 all known all_held legal new (set_anew app trace all new key ids now k updates set.0 set.1),
            )
        further_told None off lost follows = (
          subst (TellsLoss app trace k e) (sym follows.0) (unchecked_lost off),
          λ none. added_known all new known (λ q w. grown app trace w all new key was now k updates there follows.1 follows.2 q),
        )

  -- ---- the entries so far

  pub none_more : NoneLoses app trace k → (Loses app trace k e → ⊥) → NoneLoses app trace (k + 1)
  none_more none its i a low there =
      elim (cases_lt i k) as (λ _. Loses app trace i a → ⊥) [
        | inl less ↦ none i a less there
        | inr past ↦
            let same : k ≡ i = omega arith in
            subst (λ (n : ℕ). slice_get trace n ≡ Some a → Loses app trace n a → ⊥) same
            (λ here loses. its (subst (λ (x : Entry). Loses app trace k x) (same_at trace k a e here at) loses)) there
      ]

-- where none of all entries loses an id, the trace is lossless
pub lossless : (app : App) (trace : List Entry) (n : ℕ) → length trace ≤ n → NoneLoses app trace n → IsLossless app trace
lossless app trace n past none j e at hands w brought = by_test (has_id w (carried_at app trace j e)) refl
  where
    by_test : (t : Bool) → has_id w (carried_at app trace j e) ≡ t → has_id w (carried_at app trace j e) ≡ true
    by_test true has = has
    by_test false lost =
        let low : j < length trace = slice_get_within trace j e at in
        absurd (none j e (omega arith) at (record { hands = hands; id = w; brought = brought; lost = lost }))
