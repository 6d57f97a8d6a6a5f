-- A settled read misses no write: what is carried into it is visible where it reads, and so is what comes with its rows.
use Rattle.std.proofs.Common.{◌≡◌, ℕ, ◌<◌, Bool, true, false, List, [], get_or, Contains, refl, sym, ap, ◌∙◌, subst, inl, inr, arith}
use Rattle.std.specs.Prelude.{Some, slice_get, take}
use Rattle.std.proofs.lemmas.Bool.{both_ways, le-leb, leb-true, true_from_ne_false}
use Rattle.std.proofs.lemmas.List.Elements.{All-contains, Contains-get_or}
use Rattle.anti_ids.specs.Ids.{has_id}
use Rattle.anti_ids.specs.declared.id.WriteId.{WriteId}
use Rattle.anti_ids.proofs.IdLemmas.{Contains-from_has_id, has_id-from_Contains}
use Rattle.anti_kind.specs.declared.call.Call.{Call}
use Rattle.anti_kind.specs.declared.call.Call.TheVariants as calls
use Rattle.anti_kind.specs.declared.call.Reply.{Reply}
use Rattle.anti_kind.specs.declared.call.Reply.TheVariants as replies
use Rattle.anti_kind.specs.declared.entry.Entry.{Entry}
use Rattle.anti_kind.specs.declared.row.Row.{Row}
use Rattle.anti_kind.specs.Laws.{IsTogether, OwnIdsWritten}
use Rattle.anti_kind.specs.Replies.{named_missing, shown, speaks_of}
use Rattle.anti_kind.specs.Objects.{due, store}
use Rattle.anti_kind.specs.Store.{Store, is_visible, is_written}
use Rattle.anti_kind.specs.Stored.{stored}
use Rattle.anti_kind.proofs.Lineages.{own_after}
use Rattle.anti_app.specs.declared.app.App.{App}
use Rattle.anti_app.specs.Objects.{is_store_here}
use Rattle.anti_object.specs.Starts.{start_of}
use Rattle.anti_trace.specs.Legal.{IsLegalTrace}
use Rattle.anti_trace.specs.Traces.{entries_on}
use Rattle.law_causal.specs.Words.{reads, rows_in}
use Rattle.law_causal.specs.Pasts.{kept_with, InPast}
use Rattle.law_causal.specs.inner.Taken.{taken, taken_in, told, told_in}
use Rattle.law_causal.specs.Causal.{Earlier}
use Rattle.law_causal.specs.Carried.{IsLossless, carried_at}
use Rattle.law_causal.specs.Settled.{IsSettled, Looked, found_in, is_visible_after, region_named}
use Rattle.law_causal.proofs.Brings.{Part, of_kept, of_lineage, of_message, of_row, of_write, part_of, writes_only}
use Rattle.law_causal.proofs.Causes.{carried_is_causal}
use Rattle.law_causal.proofs.Facts.{Facts}
use Rattle.law_causal.proofs.Ids.{id_for, in_id_at, not_none}
use Rattle.law_causal.proofs.Looks.{is_regional, one_region}
use Rattle.law_causal.proofs.Places.{seen_at}
use Rattle.law_causal.proofs.Stores.{look_names, look_own, look_store, visible_after, visible_stays}
use Rattle.law_causal.proofs.Written.{kept_is_written}
use Rattle.law_serial.specs.Chains.{NothingMissed}
use Rattle.law_serial.proofs.Readings.{IsReadOf, is_visible_there, read_of, rows_shown, shows_row_version, shows_version, version_there}

-- ---- calls and replies

-- a look that found all that it asked for, and the id among this
record FoundAll (c : Call) (y : Reply) (w : WriteId) : Type 0 where
  region : ℕ
  ids : List WriteId
  dry : Bool
  unwritten : List WriteId
  call : c ≡ calls.Look region ids dry
  reply : y ≡ replies.Missing [] unwritten
  has : has_id w ids ≡ true

found_all : (c : Call) (y : Reply) (w : WriteId) → has_id w (found_in c y) ≡ true → FoundAll c y w
found_all (calls.Look region ids dry) (replies.Missing [] unwritten) w has =
    record { region = region; ids = ids; dry = dry; unwritten = unwritten; call = refl; reply = refl; has = has }
found_all c y w has = absurd (cc)

reads_regional : (c : Call) → reads c ≡ true → is_regional c ≡ true
reads_regional (calls.Read region key) is = refl
reads_regional (calls.Scan region prefix) is = refl
reads_regional (calls.Poll region key) is = refl
reads_regional c is = absurd (cc)

-- a read takes no message
reads_take_none : (app : App) (c : Call) (y : Reply) → reads c ≡ true → taken_in app c y ≡ []
reads_take_none app (calls.Read region key) y is = refl
reads_take_none app (calls.Scan region prefix) y is = refl
reads_take_none app (calls.Poll region key) y is = refl
reads_take_none app c y is = absurd (cc)

-- and is told of nothing that is kept beside a write
reads_tell_none : (c : Call) (y : Reply) → reads c ≡ true → told_in c y ≡ []
reads_tell_none (calls.Read region key) y is = refl
reads_tell_none (calls.Scan region prefix) y is = refl
reads_tell_none (calls.Poll region key) y is = refl
reads_tell_none c y is = absurd (cc)

module _ (app : App) (trace : List Entry) (legal : IsLegalTrace app trace) where
  -- ---- what is carried into a settled read

  module _ (j : ℕ) (b : Entry) (at : slice_get trace j ≡ Some b) (is_read : reads b.call ≡ true) (w : WriteId) where
    -- What an earlier look of the span found is visible at the read, in the region that this names,
    looked_before : (i : ℕ) (d : Entry) → slice_get trace i ≡ Some d → Earlier i d j b → FoundAll d.call d.reply w
        → is_visible_after app (take j trace) (region_named b.call) w ≡ true
    looked_before i d there earlier all =
        let found = look_store app trace legal i d there all.region all.ids all.dry all.call in
        let s : Store = found.0 in
        let own : w.store ≡ d.object = look_own app trace legal i d there all.region all.ids all.dry all.call s found.1 w all.has in
        let names = look_names app trace legal i d there all.region all.ids all.dry all.call s found.1 w in
        let none : has_id w (named_missing d.reply) ≡ false = ap (λ (reply : Reply). has_id w (named_missing reply)) all.reply in
        let was : is_visible s (entries_on d.object (take i trace)) all.region w ≡ true =
        true_from_ne_false (is_visible s (entries_on d.object (take i trace)) all.region w)
        (λ off. both_ways (has_id w (named_missing d.reply)) none (names.1 (all.has, off))) in
        let early : i < j = earlier.before in
        let now = visible_stays app trace legal s d.object found.1 i j (omega (arith, early)) all.region w was in
        let one = one_region app trace legal i d there j b at earlier.actor (ap is_regional all.call) (reads_regional b.call is_read) in
        subst (λ (g : ℕ). is_visible_after app (take j trace) g w ≡ true) (sym (ap region_named all.call) ∙ one)
        (visible_after app (take j trace) all.region w d.object own s found.1 ∙ now)

    -- and so is all that is carried into a settled read.
    carried_visible : (s : Store) → IsReadOf app trace j b s → w.store ≡ b.object → IsSettled app trace j b
        → has_id w (carried_at app trace j b) ≡ true → is_visible_there trace j b s w ≡ true
    carried_visible s read own settled has =
        let here : is_store_here app (region_named b.call) w.store ≡ true = ap (is_store_here app (region_named b.call)) own ∙ read.here in
        let looked : Looked trace j b w = settled w has here in
        let d : Entry = looked.entry in
        sym (visible_after app (take j trace) (region_named b.call) w b.object own s read.start)
        ∙ looked_before looked.place d looked.there looked.earlier (found_all d.call d.reply w looked.found)

  -- ---- what comes with the rows of a read

  module _ (facts : Facts app trace) where
    -- Of its own store, the lineages that a history keeps hold only what was written before.
    own_written : (o : ℕ) (s : Store) → start_of app o ≡ Some (store s) → s.number ≡ o → (j : ℕ)
        → OwnIdsWritten s (entries_on o (take j trace))
    own_written o s start number j before e after is k d short own =
        let seen = seen_at trace o j before e after is in
        let i : ℕ = seen.0 in
        let id : WriteId = get_or (stored e.call e.reply) k d in
        let has : has_id id (kept_with e) ≡ true =
        has_id-from_Contains id (kept_with e) (Contains-get_or (stored e.call e.reply) k d short) in
        let front : before ≡ entries_on id.store (take i trace) =
        seen.4 ∙ ap (λ (n : ℕ). entries_on n (take i trace)) (sym (own ∙ number)) in
        ap (λ (h : List Entry). is_written h id) front ∙ kept_is_written app trace facts i e seen.2 id has

    module _ (j : ℕ) (b : Entry) (s : Store) (read : IsReadOf app trace j b s) (is_read : reads b.call ≡ true) where
      its_row : (r : Row) → Contains (rows_in b.call b.reply) r → Contains (shown b.reply) r
      its_row r in' = subst (λ (rs : List Row). Contains rs r) (rows_shown b.call b.reply is_read) in'

      -- a row itself
      row_visible : (r : Row) (w : WriteId) → Contains (rows_in b.call b.reply) r → w ≡ id_for b.object r.key r.version
          → is_visible_there trace j b s w ≡ true
      row_visible r w in' is =
          let shows = shows_row_version app trace j b s read r (its_row r in') in
          let version : w.version ≡ r.version = ap (λ (x : WriteId). x.version) is in
          let key : version_there trace j b s w.key ≡ version_there trace j b s r.key =
          ap (λ (x : WriteId). version_there trace j b s x.key) is in
          le-leb w.version (version_there trace j b s w.key) (omega (arith, shows, version, key))

      module _ (w : WriteId) (own : w.store ≡ b.object) (spoken : speaks_of w.key b.call ≡ true) where
        -- what the lineage of a row holds
        lineage_visible : (r : Row) → Contains (rows_in b.call b.reply) r → has_id w r.lineage ≡ true
            → is_visible_there trace j b s w ≡ true
        lineage_visible r in' has =
            let h : List Entry = entries_on b.object (take j trace) in
            let g : ℕ = region_named b.call in
            let all = read.laws.reads_together h g b.call read.reading (own_after s h (own_written b.object s read.start read.number j)) in
            let row : Contains (shown (due (store s) h b.call)) r =
            subst (λ (y : Reply). Contains (shown y) r) read.reply (its_row r in') in
            let together : IsTogether s h g b.call r = All-contains (IsTogether s h g b.call) (shown (due (store s) h b.call)) r all row in
            All-contains (λ (id : WriteId). id.store ≡ s.number → speaks_of id.key b.call ≡ true → is_visible s h g id ≡ true) r.lineage w
            together (Contains-from_has_id w r.lineage has) (own ∙ sym read.number) spoken

        part_visible : Part app b w → is_visible_there trace j b s w ≡ true
        part_visible (of_write has) = absurd (both_ways (reads b.call) (writes_only app b w has).no_read is_read)
        part_visible (of_kept has) = not_none w (told b) (reads_tell_none b.call b.reply is_read) has
        part_visible (of_row r in' has) = row_visible r w in' (in_id_at w b.object r.key r.version has).1
        part_visible (of_lineage r in' has) = lineage_visible r in' has
        part_visible (of_message has) = not_none w (taken app b) (reads_take_none app b.call b.reply is_read) has

        -- ---- the past of a settled read

        past_visible : slice_get trace j ≡ Some b → IsSettled app trace j b → InPast app trace j b w
            → is_visible_there trace j b s w ≡ true
        past_visible at settled (inl carried) = carried_visible j b at is_read w s read own settled carried
        past_visible at settled (inr came) = part_visible (part_of app b w came)

    pub nothing_missed : IsLossless app trace → NothingMissed app trace
    nothing_missed lossless j b at_j is_read settled i a w at_i has before own spoken =
        let (s, read) = read_of app trace legal j b at_j is_read in
        let past : InPast app trace j b w = ((carried_is_causal app trace facts lossless i a w at_i has j b at_j).0 is_read).0 before in
        let visible = past_visible j b s read is_read w own spoken at_j settled past in
        let shows = shows_version app trace j b s read w.key spoken in
        omega (arith, shows, leb-true w.version (version_there trace j b s w.key) visible)
