-- The reads of a legal trace: of which store they are, and which versions they show.
use Rattle.std.proofs.Common.{◌≡◌, ℕ, ◌-◌, ◌==◌, Bool, true, false, List, length, [], Contains, refl, sym, ap, ◌∙◌, subst, inl, inr}
use Rattle.std.specs.Prelude.{Option, Some, None, slice_get, take, bytes_eq, option_map}
use Rattle.std.specs.List.{find}
use Rattle.std.specs.Option.{option_map_or}
use Rattle.std.proofs.lemmas.Bool.{both_ways, cases_lt, eq-eqb}
use Rattle.std.proofs.lemmas.List.Elements.{All-contains}
use Rattle.std.proofs.lemmas.List.Folds.{list_any_at}
use Rattle.anti_ids.specs.declared.id.WriteId.{WriteId}
use Rattle.anti_kind.specs.declared.call.Call.{Call}
use Rattle.anti_kind.specs.declared.call.Call.TheVariants as calls
use Rattle.anti_kind.specs.declared.call.Reply.{Reply}
use Rattle.anti_kind.specs.declared.call.Reply.TheVariants as replies
use Rattle.anti_kind.specs.declared.entry.Entry.{Entry}
use Rattle.anti_kind.specs.declared.row.Row.{Row}
use Rattle.anti_kind.specs.Laws.{IsReading, IsRight, KeepsLaws, NamesOwn, ShowsWritten, is_read_at}
use Rattle.anti_kind.specs.Replies.{shown, speaks_of}
use Rattle.anti_kind.specs.Objects.{Start, Follows, IsLegal, due, inbox, ready, store}
use Rattle.anti_kind.specs.Store.{Store, is_visible, shown_row}
use Rattle.anti_kind.proofs.Finding.{find_found, none_passes}
use Rattle.anti_kind.proofs.Showing.{bytes_same, is_shown, same_bytes}
use Rattle.anti_app.specs.declared.app.App.{App}
use Rattle.anti_app.specs.declared.app.ServiceDef.{ServiceDef}
use Rattle.anti_app.specs.declared.app.StoreDef.{StoreDef}
use Rattle.anti_app.specs.Objects.{is_here as has_replica, is_store_here}
use Rattle.anti_object.specs.Starts.{inbox_start, start_of, store_start}
use Rattle.anti_object.proofs.Starts.{start_of-inbox, start_of-store}
use Rattle.anti_trace.specs.Legal.{IsLegalTrace}
use Rattle.anti_trace.specs.Traces.{entries_on}
use Rattle.law_causal.specs.Settled.{region_named}
use Rattle.law_causal.specs.Words.{reads, rows_in}
use Rattle.law_causal.proofs.Objects.{follows_at, legal_at, start_is_of_app}
use Rattle.law_causal.proofs.Places.{there}
use Rattle.law_serial.specs.Serial.{version_shown}

-- ---- calls

-- a read is one at a store
store_read : (start : Start) (h : List Entry) (c : Call) → reads c ≡ true → ready start h c ≡ true → (s : Store) × (start ≡ store s)
store_read (store s) h c is can = (s, refl)
store_read (inbox requests) h (calls.Read region key) is can = absurd (cc)
store_read (inbox requests) h (calls.Scan region prefix) is can = absurd (cc)
store_read (inbox requests) h (calls.Poll region key) is can = absurd (cc)
store_read (inbox requests) h c is can = absurd (cc)

-- at the region that it names
reads_at : (c : Call) → reads c ≡ true → is_read_at (region_named c) c ≡ true
reads_at (calls.Read region key) is = eq-eqb region region refl
reads_at (calls.Scan region prefix) is = eq-eqb region region refl
reads_at (calls.Poll region key) is = eq-eqb region region refl
reads_at c is = absurd (cc)

-- which is one of a replica
reads_replica : (s : Store) (c : Call) → reads c ≡ true → NamesOwn s c → Contains s.regions (region_named c)
reads_replica s (calls.Read region key) is own = own
reads_replica s (calls.Scan region prefix) is own = own
reads_replica s (calls.Poll region key) is own = own
reads_replica s c is own = absurd (cc)

-- its rows are those that the reply shows
pub rows_shown : (c : Call) (reply : Reply) → reads c ≡ true → rows_in c reply ≡ shown reply
rows_shown (calls.Read region key) (replies.Shown rows) is = refl
rows_shown (calls.Scan region prefix) (replies.Shown rows) is = refl
rows_shown (calls.Poll region key) (replies.Shown rows) is = refl
rows_shown (calls.Read region key) reply is = refl
rows_shown (calls.Scan region prefix) reply is = refl
rows_shown (calls.Poll region key) reply is = refl
rows_shown c reply is = absurd (cc)

-- ---- replicas

module _ (app : App) (o : ℕ) (s : Store) (region : ℕ) (replica : Contains s.regions region) where
  of_store : (found : Option StoreDef) → option_map (store_start app o) found ≡ Some (store s) → option_map_or (has_replica region) found false ≡ true
  of_store None is = absurd (cc)
  of_store (Some d) is =
      let same : store_start app o d ≡ store s = cc in
      let regions : d.replicas.items ≡ s.regions = ap regions_of same in
      let at : Contains d.replicas.items region = subst (λ (xs : List ℕ). Contains xs region) (sym regions) replica in
      list_any_at (λ g. g == region) d.replicas.items at.0 region at.1 (eq-eqb _ region at.2)
    where
      regions_of : Start → List ℕ
      regions_of (store t) = t.regions
      regions_of (inbox requests) = []

  -- where a store has a replica, the application says so
  is_here : start_of app o ≡ Some (store s) → is_store_here app region o ≡ true
  is_here start =
      elim (cases_lt o (length app.stores.items)) [
        | inl low ↦ of_store (slice_get app.stores.items o) (sym (start_of-store app o low) ∙ start)
        | inr high ↦ no_store (slice_get app.services.items (o - length app.stores.items)) (sym (start_of-inbox app o high) ∙ start)
      ]
    where
      no_store : (found : Option ServiceDef) → option_map (inbox_start app (o - length app.stores.items)) found ≡ Some (store s)
          → is_store_here app region o ≡ true
      no_store None is = absurd (cc)
      no_store (Some d) is = absurd (cc)

-- ---- a read at its place

-- The entry b, at place j, reads from the store s.
pub record IsReadOf (app : App) (trace : List Entry) (j : ℕ) (b : Entry) (s : Store) : Type 0 where
  pub start : start_of app b.object ≡ Some (store s)
  pub number : s.number ≡ b.object
  pub laws : KeepsLaws s
  pub reading : IsReading s (entries_on b.object (take j trace)) (region_named b.call) b.call
  pub reply : b.reply ≡ due (store s) (entries_on b.object (take j trace)) b.call
  pub here : is_store_here app (region_named b.call) b.object ≡ true

pub read_of : (app : App) (trace : List Entry) → IsLegalTrace app trace → (j : ℕ) (b : Entry) → slice_get trace j ≡ Some b
    → reads b.call ≡ true → (s : Store) × IsReadOf app trace j b s
read_of app trace legal j b at is =
    let h : List Entry = entries_on b.object (take j trace) in
    let object = there app trace legal j b at in
    let f : Follows object.0 h b = follows_at app trace legal b.object object.0 object.1 j b at refl in
    let found = store_read object.0 h b.call is f.is_ready in
    let s : Store = found.0 in
    let start : start_of app b.object ≡ Some (store s) = object.1 ∙ ap Some found.1 in
    let follows : Follows (store s) h b = follows_at app trace legal b.object (store s) start j b at refl in
    let legal_before : IsLegal (store s) h = legal_at app trace legal b.object (store s) start j in
    let known = start_is_of_app app b.object (store s) start in
    let laws : KeepsLaws s = known.1 in
    let names : NamesOwn s b.call = laws.calls_name_own h b.call legal_before follows.is_ready in (
      s,
      record {
        start = start;
        number = known.0;
        laws = laws;
        reading = record { legal = legal_before; is_ready = follows.is_ready; is_read = reads_at b.call is };
        reply = follows.reply;
        here = is_here app b.object s (region_named b.call) (reads_replica s b.call is names) start;
      },
    )

-- what its region shows for a key there, and whether an id is visible there
abbrev pub version_there : List Entry → ℕ → Entry → Store → List ℕ → ℕ
version_there trace j b s key = s.shows (entries_on b.object (take j trace)) (region_named b.call) key

abbrev pub is_visible_there : List Entry → ℕ → Entry → Store → WriteId → Bool
is_visible_there trace j b s w = is_visible s (entries_on b.object (take j trace)) (region_named b.call) w

-- ---- what it shows

module _ (s : Store) (h : List Entry) (region : ℕ) (c : Call) (list : List Row) (right : IsRight s h region c list)
    (written : ShowsWritten s) (legal : IsLegal (store s) h) where
  -- a row has the version that the region shows for its key
  row_version : (r : Row) → Contains list r → r.version ≡ s.shows h region r.key
  row_version r in' =
      let its = All-contains (λ (x : Row). (speaks_of x.key c ≡ true) × (x ≡ shown_row s h region x.key)) list r right.rows_are in' in
      ap (λ (x : Row). x.version) its.1 ∙ (is_shown s h region r.key written legal).version

  -- and where there is none, the region shows nothing
  first_version : (key : List ℕ) → speaks_of key c ≡ true → (found : Option Row) → find (λ r. bytes_eq r.key key) list ≡ found
      → option_map_or (λ r. r.version) found 0 ≡ s.shows h region key
  first_version key spoken None is =
      let none = none_passes (λ r. bytes_eq r.key key) list is in
      sym (right.absent key spoken (λ i d short same. absurd (both_ways _ (none i d short) (same_bytes _ key same))))
  first_version key spoken (Some r) is =
      let found = find_found (λ r. bytes_eq r.key key) list r is in
      row_version r (found.index, found.within, found.at r) ∙ ap (s.shows h region) (bytes_same r.key key found.passes)

module _ (app : App) (trace : List Entry) (j : ℕ) (b : Entry) (s : Store) (read : IsReadOf app trace j b s) where
  shows_right : IsRight s (entries_on b.object (take j trace)) (region_named b.call) b.call (shown b.reply)
  shows_right =
      let h : List Entry = entries_on b.object (take j trace) in
      subst (λ (reply : Reply). IsRight s h (region_named b.call) b.call (shown reply)) (sym read.reply)
      (read.laws.reads_right h (region_named b.call) b.call read.reading)

  -- Of a key that it speaks of, the read shows the version that its region shows,
  pub shows_version : (key : List ℕ) → speaks_of key b.call ≡ true → version_shown b.reply key ≡ version_there trace j b s key
  shows_version key spoken =
      first_version s (entries_on b.object (take j trace)) (region_named b.call) b.call (shown b.reply) shows_right read.laws.shows_written
      read.reading.legal key spoken (find (λ r. bytes_eq r.key key) (shown b.reply)) refl

  -- and each of its rows has the version that its region shows for the row's key.
  pub shows_row_version : (r : Row) → Contains (shown b.reply) r → r.version ≡ version_there trace j b s r.key
  shows_row_version r in' =
      row_version s (entries_on b.object (take j trace)) (region_named b.call) b.call (shown b.reply) shows_right read.laws.shows_written
      read.reading.legal r in'
