-- The order of reads that miss nothing, of which each is causally before the next, is serial, by any test that tells what is causally
-- before them.
use Rattle.std.proofs.Common.{◌≡◌, ◌≢◌, ℕ, ◌<◌, ◌≤◌, ◌++◌, ◌⊎◌, Bool, true, false, List, ◌∷◌, AllPairs, Contains, refl, sym, ap, ◌∙◌, subst, inl, inr, arith}
use Rattle.std.specs.Prelude.{Option, Some, None, length, slice_get, bytes_eq}
use Rattle.std.specs.List.{find}
use Rattle.std.specs.Option.{option_map_or}
use Rattle.std.proofs.lemmas.Bool.{both_ways, cases_eq, false_from_ne_true}
use Rattle.std.proofs.lemmas.Option.{slice_get_within}
use Rattle.anti_ids.specs.Ids.{has_id}
use Rattle.anti_ids.specs.declared.id.WriteId.{WriteId}
use Rattle.anti_kind.specs.declared.entry.Entry.{Entry}
use Rattle.anti_kind.specs.declared.row.Row.{Row}
use Rattle.anti_kind.specs.Replies.{shown, speaks_of}
use Rattle.anti_kind.proofs.Finding.{find_found}
use Rattle.anti_kind.proofs.Showing.{bytes_same}
use Rattle.anti_app.specs.declared.app.App.{App}
use Rattle.anti_proc.specs.Local.{id_at}
use Rattle.anti_trace.specs.Legal.{IsLegalTrace}
use Rattle.law_causal.specs.Words.{reads, rows_in, wrote}
use Rattle.law_causal.specs.Causal.{Before, row, through}
use Rattle.law_causal.proofs.Brings.{shows_row, writes_only}
use Rattle.law_causal.proofs.Facts.{Facts, RowSource}
use Rattle.law_causal.proofs.Ids.{has_id_at}
use Rattle.law_causal.proofs.Known.{forward}
use Rattle.law_serial.specs.Causes.{IsChain, TellsCauses}
use Rattle.law_serial.specs.Chains.{AreReads, MissesNothing}
use Rattle.law_serial.specs.Order.{order_by, writes_at}
use Rattle.law_serial.specs.Serial.{IsLast, IsSerial, IsWrittenAmong, id_of, version_shown}
use Rattle.law_serial.proofs.Chains.{chain_pairs}
use Rattle.law_serial.proofs.Last.{IsGreatest, last_of}
use Rattle.law_serial.proofs.Listing.{is_listed, listed_is, listed_once}
use Rattle.law_serial.proofs.Pasts.{IsWriteAt, is_at_there, there_writes, write_there}
use Rattle.law_serial.proofs.Placing.{HasPasts, Placed, placed_in}
use Rattle.law_serial.proofs.Readings.{rows_shown}

module _ (app : App) (trace : List Entry) (legal : IsLegalTrace app trace) (facts : Facts app trace) (rs : List ℕ) (past : ℕ → ℕ → Bool)
    (are_reads : AreReads trace rs) (chain : IsChain trace rs) (tells : TellsCauses trace rs past)
    (misses_nothing : (r : ℕ) (b : Entry) → Contains rs r → slice_get trace r ≡ Some b → MissesNothing trace r b) where
  -- ---- the reads, and the writes in their pasts

  read_at : (r : ℕ) (e : Entry) → Contains rs r → slice_get trace r ≡ Some e → reads e.call ≡ true
  read_at r e in' at = sym (is_at_there (λ d. reads d.call) trace r e at) ∙ are_reads r in'

  reads_write_none : (r : ℕ) → Contains rs r → writes_at trace r ≡ false
  reads_write_none r in' =
      false_from_ne_true (writes_at trace r) (λ writes.
      let write : IsWriteAt trace r = write_there trace r writes in
      both_ways (reads write.entry.call) (writes_only app write.entry write.id write.has).no_read (read_at r write.entry in' write.there))

  pasts : HasPasts (writes_at trace) past rs (Before trace)
  pasts = record {
    earlier = λ x y before. forward app trace facts before;
    through = λ x y z one other. through one other;
    decides = λ r i in' writes. tells r in' i writes;
    apart = reads_write_none;
  }

  linked : AllPairs (Before trace) rs
  linked = chain_pairs trace rs chain

  distinct : AllPairs (λ x y. x ≢ y) rs
  distinct i j d low short same = omega (arith, forward app trace facts (linked i j d low short), same)

  -- ---- members

  write_or_read : (x : ℕ) → Contains (order_by trace past rs) x → ((x < length trace) × (writes_at trace x ≡ true)) ⊎ Contains rs x
  write_or_read x in' =
      elim (listed_is (writes_at trace) past (length trace) rs (λ i. false) x in') [
        | inl write ↦ inl (write.0, write.1)
        | inr read ↦ inr read
      ]

  member : (x : ℕ) → (writes_at trace x ≡ true) ⊎ Contains rs x → Contains (order_by trace past rs) x
  member x either = is_listed (writes_at trace) past (length trace) rs (λ i. false) x (by_kind either)
    where
      by_kind : (writes_at trace x ≡ true) ⊎ Contains rs x
          → ((x < length trace) × (writes_at trace x ≡ true) × (false ≡ false)) ⊎ Contains rs x
      by_kind (inl writes) =
          let write : IsWriteAt trace x = write_there trace x writes in inl (slice_get_within trace x write.entry write.there, writes, refl)
      by_kind (inr read) = inr read

  once : AllPairs (λ x y. x ≢ y) (order_by trace past rs)
  once = listed_once (writes_at trace) past (length trace) rs (λ i. false) distinct reads_write_none

  -- ---- what stands before a member

  causes_before : (before : List ℕ) (x : ℕ) (after : List ℕ) → order_by trace past rs ≡ before ++ x ∷ after
      → Placed (writes_at trace) (length trace) rs (Before trace) before x
  causes_before before x after is =
      placed_in (writes_at trace) past (length trace) rs (Before trace) pasts linked before x after is

  respects : (before : List ℕ) (x : ℕ) (after : List ℕ) → order_by trace past rs ≡ before ++ x ∷ after
      → (y : ℕ) → Contains (order_by trace past rs) y → Before trace y x → Contains before y
  respects before x after is y in' cause = (causes_before before x after is).causes y (write_or_read y in') cause

  module _ (before : List ℕ) (x : ℕ) (after : List ℕ) (is : order_by trace past rs ≡ before ++ x ∷ after) where
    place : Placed (writes_at trace) (length trace) rs (Before trace) before x
    place = causes_before before x after is

    module _ (in' : Contains rs x) (e : Entry) (at : slice_get trace x ≡ Some e) where
      -- a read shows no less than what is written before it
      no_less : (key : List ℕ) → speaks_of key e.call ≡ true → (v : ℕ) → IsWrittenAmong trace before (id_of e.object key v)
          → v ≤ version_shown e.reply key
      no_less key spoken v w =
          let id : WriteId = id_of e.object key v in
          let cause : Before trace w.place x = place.only in' w.place w.in_list (there_writes trace w.place w.entry id w.there w.wrote) in
          misses_nothing x e in' at w.place w.entry id w.there w.wrote cause refl spoken

      -- the write of a row that it shows stands before it
      written_before : (r : Row) → Contains (shown e.reply) r → 0 < r.version → IsWrittenAmong trace before (id_of e.object r.key r.version)
      written_before r shows some =
          let its : Contains (rows_in e.call e.reply) r =
          subst (λ (rows : List Row). Contains rows r) (sym (rows_shown e.call e.reply (read_at x e in' at))) shows in
          let from : RowSource trace x e r = facts.rows x e r at its some in
          let id : WriteId = id_of e.object r.key r.version in
          let own : has_id id (id_at e.object r.key r.version) ≡ true = has_id_at e.object r.key r.version some in
          let wrote : has_id id (wrote from.entry) ≡ true = ap (has_id id) from.wrote ∙ own in
          let cause : Before trace from.place x = row from.entry e id from.there at wrote (shows_row e id r its own) in
          let low : from.place < length trace = slice_get_within trace from.place from.entry from.there in
          let writes : writes_at trace from.place ≡ true = there_writes trace from.place from.entry id from.there wrote in
          record {
            place = from.place;
            entry = from.entry;
            in_list = place.causes from.place (inl (low, writes)) cause;
            there = from.there;
            wrote = wrote;
          }

      by_row : (key : List ℕ) (found : Option Row) → find (λ r. bytes_eq r.key key) (shown e.reply) ≡ found
          → (option_map_or (λ r. r.version) found 0 ≡ 0)
          ⊎ IsWrittenAmong trace before (id_of e.object key (option_map_or (λ r. r.version) found 0))
      by_row key None is = inl refl
      by_row key (Some r) is =
          let found = find_found (λ r. bytes_eq r.key key) (shown e.reply) r is in
          let same : r.key ≡ key = bytes_same r.key key found.passes in
          elim (cases_eq r.version 0) [
            | inl none ↦ inl none
            | inr some ↦
                let it = written_before r (found.index, found.within, found.at r) (omega (arith, some)) in
                inr (subst (λ (k : List ℕ). IsWrittenAmong trace before (id_of e.object k r.version)) same it)
          ]

      shows_greatest : (key : List ℕ) → speaks_of key e.call ≡ true → IsGreatest trace before e.object key (version_shown e.reply key)
      shows_greatest key spoken =
          record { made = by_row key (find (λ r. bytes_eq r.key key) (shown e.reply)) refl; bound = no_less key spoken }

      -- which is the last
      shows_last : (key : List ℕ) → speaks_of key e.call ≡ true → IsLast trace before e.object key (version_shown e.reply key)
      shows_last key spoken =
          last_of app trace legal (order_by trace past rs) once respects e.object key (version_shown e.reply key) before x after is
          (shows_greatest key spoken)

  pub explained : IsSerial trace rs (order_by trace past rs)
  explained = record {
    members = λ x. (λ in'. elim (write_or_read x in') [ inl write ↦ inl write.1 | inr read ↦ inr read ], member x);
    once = once;
    respects = respects;
    explains = λ before r after is in' e at key spoken. shows_last before r after is in' e at key spoken;
  }
