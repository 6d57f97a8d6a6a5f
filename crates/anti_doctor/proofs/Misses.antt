-- What it says that a read misses a write by a test of what is before it, and when it does.
use Rattle.std.proofs.Common.{◌≡◌, ℕ, ◌<◌, ◌==◌, ◌&&◌, Bool, true, false, List, [], ◌∷◌, Contains, eqb-true, refl, sym, ap, ◌∙◌}
use Rattle.std.specs.Prelude.{Option, Some, None, slice_get, nat_lt, bytes_eq, if◌then◌else◌}
use Rattle.std.specs.Option.{option_and_then, option_map_or}
use Rattle.std.proofs.lemmas.Bool.{and_from, and_parts, eq-eqb, lt-ltb, ltb-true, or_left}
use Rattle.anti_ids.specs.Ids.{has_id, is_id}
use Rattle.anti_ids.specs.declared.id.WriteId.{WriteId}
use Rattle.anti_ids.proofs.IdLemmas.{is_id-itself}
use Rattle.anti_kind.specs.declared.call.Call.{Call}
use Rattle.anti_kind.specs.declared.call.Call.TheVariants as calls
use Rattle.anti_kind.specs.declared.call.Reply.{Reply}
use Rattle.anti_kind.specs.declared.entry.Entry.{Entry}
use Rattle.anti_kind.specs.Replies.{speaks_of}
use Rattle.anti_kind.proofs.Showing.{bytes_same}
use Rattle.anti_proc.specs.Local.{id_at}
use Rattle.law_causal.specs.Words.{id_written, wrote}
use Rattle.law_causal.specs.Causal.{Before}
use Rattle.law_causal.proofs.Ids.{id_for}
use Rattle.law_causal.proofs.Stores.{IsWrite, write_parts}
use Rattle.law_serial.specs.Causes.{TellsCauses}
use Rattle.law_serial.specs.Serial.{version_shown}
use Rattle.law_serial.proofs.Pasts.{there_writes}
use Rattle.anti_doctor.specs.Missed.{first_of, is_later, is_newer, is_over_at, misses, write_at}

-- ---- the write at a place

first_has : (ids : List WriteId) (w : WriteId) → first_of ids ≡ Some w → has_id w ids ≡ true
first_has [] w is = absurd (cc)
first_has (v ∷ vs) w is = let same : v ≡ w = cc in or_left (is_id w v) (has_id w vs) (ap (is_id w) same ∙ is_id-itself w)

-- the write of an id stands at a place
pub record IsIdAt (trace : List Entry) (i : ℕ) (w : WriteId) : Type 0 where
  pub entry : Entry
  pub there : slice_get trace i ≡ Some entry
  pub wrote : has_id w (wrote entry) ≡ true

pub id_there : (trace : List Entry) (i : ℕ) (w : WriteId) → write_at trace i ≡ Some w → IsIdAt trace i w
id_there trace i w is = by_found (slice_get trace i) refl is
  where
    by_found : (found : Option Entry) → slice_get trace i ≡ found → option_and_then (λ e. first_of (wrote e)) found ≡ Some w
        → IsIdAt trace i w
    by_found None at is = absurd (cc)
    by_found (Some e) at is = record { entry = e; there = at; wrote = first_has (wrote e) w is }

first_made : (o : ℕ) (name : List ℕ) (version : ℕ) → 0 < version → first_of (id_at o name version) ≡ Some (id_for o name version)
first_made o name version some =
    ap (λ (t : Bool). first_of (if t then id_for o name version ∷ [] else [])) (lt-ltb 0 version some)

pub there_id : (trace : List Entry) (i : ℕ) (a : Entry) (w : WriteId) → slice_get trace i ≡ Some a → has_id w (wrote a) ≡ true
    → write_at trace i ≡ Some w
there_id trace i a w at has =
    let it : IsWrite a.object a.call a.reply w = write_parts a.object a.call a.reply w has in
    ap (λ (found : Option Entry). option_and_then (λ e. first_of (wrote e)) found) at
    ∙ ap (λ (call : Call). first_of (id_written a.object call a.reply)) it.call
    ∙ ap (λ (reply : Reply). first_of (id_written a.object (calls.Write it.key it.value it.lineage) reply)) it.reply
    ∙ first_made a.object it.name it.version it.some
    ∙ ap (λ (v : WriteId). Some v) (sym it.id)

-- ---- a later write of the same key

-- writes of one key stand at both places, and the second is of a greater version
pub record IsLater (trace : List Entry) (i j : ℕ) : Type 0 where
  pub first : WriteId
  pub second : WriteId
  pub first_there : IsIdAt trace i first
  pub second_there : IsIdAt trace j second
  pub store : first.store ≡ second.store
  pub key : first.key ≡ second.key
  pub less : first.version < second.version

pub later : (trace : List Entry) (i j : ℕ) → is_over_at trace i j ≡ true → IsLater trace i j
later trace i j over = in_first (write_at trace i) refl over
  where
    in_second : (v : WriteId) → write_at trace i ≡ Some v → (found : Option WriteId) → write_at trace j ≡ found
        → option_map_or (is_later v) found false ≡ true → IsLater trace i j
    in_second v at_i None at_j is = absurd (cc)
    in_second v at_i (Some w) at_j is =
        let its = and_parts (w.store == v.store) (bytes_eq w.key v.key && nat_lt v.version w.version) is in
        let parts = and_parts (bytes_eq w.key v.key) (nat_lt v.version w.version) its.1 in
        record {
          first = v;
          second = w;
          first_there = id_there trace i v at_i;
          second_there = id_there trace j w at_j;
          store = sym (eqb-true w.store v.store its.0);
          key = sym (bytes_same w.key v.key parts.0);
          less = ltb-true v.version w.version parts.1;
        }

    in_first : (found : Option WriteId) → write_at trace i ≡ found
        → option_map_or (λ v. option_map_or (is_later v) (write_at trace j) false) found false ≡ true → IsLater trace i j
    in_first None at_i is = absurd (cc)
    in_first (Some v) at_i is = in_second v at_i (write_at trace j) refl is

-- ---- what is missed

-- The read at place r misses the write at place i, which is causally before it.
pub record IsMiss (trace : List Entry) (r i : ℕ) : Type 0 where
  pub entry : Entry
  pub there : slice_get trace r ≡ Some entry
  pub id : WriteId
  pub stands : IsIdAt trace i id
  pub before : Before trace i r
  pub store : id.store ≡ entry.object
  pub spoken : speaks_of id.key entry.call ≡ true
  pub newer : version_shown entry.reply id.key < id.version

module _ (trace : List Entry) (reads : List ℕ) (past : ℕ → ℕ → Bool) (tells : TellsCauses trace reads past) (r : ℕ)
    (among : Contains reads r) (i : ℕ) where
  -- whether the write at place i is newer than what a read shows
  abbrev newer_at : Entry → Bool
  newer_at e = option_map_or (is_newer e) (write_at trace i) false

  in_write : (e : Entry) → slice_get trace r ≡ Some e → (found : Option WriteId) → write_at trace i ≡ found → past r i ≡ true
      → option_map_or (is_newer e) found false ≡ true → IsMiss trace r i
  in_write e at None is before newer = absurd (cc)
  in_write e at (Some w) is before newer =
      let stands : IsIdAt trace i w = id_there trace i w is in
      let its = and_parts (w.store == e.object) (speaks_of w.key e.call && nat_lt (version_shown e.reply w.key) w.version) newer in
      let parts = and_parts (speaks_of w.key e.call) (nat_lt (version_shown e.reply w.key) w.version) its.1 in
      record {
        entry = e;
        there = at;
        id = w;
        stands = stands;
        before = (tells r among i (there_writes trace i stands.entry w stands.there stands.wrote)).0 before;
        store = eqb-true w.store e.object its.0;
        spoken = parts.0;
        newer = ltb-true (version_shown e.reply w.key) w.version parts.1;
      }

  in_read : (found : Option Entry) → slice_get trace r ≡ found → past r i ≡ true
      → option_map_or newer_at found false ≡ true → IsMiss trace r i
  in_read None at before newer = absurd (cc)
  in_read (Some e) at before newer = in_write e at (write_at trace i) refl before newer

  pub miss : misses trace past r i ≡ true → IsMiss trace r i
  miss is =
      let its = and_parts (past r i) (option_map_or newer_at (slice_get trace r) false) is in
      in_read (slice_get trace r) refl its.0 its.1

  -- A newer write that is causally before the read is missed.
  pub missed : (b a : Entry) (w : WriteId) → slice_get trace r ≡ Some b → slice_get trace i ≡ Some a → has_id w (wrote a) ≡ true
      → Before trace i r → w.store ≡ b.object → speaks_of w.key b.call ≡ true → nat_lt (version_shown b.reply w.key) w.version ≡ true
      → misses trace past r i ≡ true
  missed b a w at_r at_i has before own spoken newer =
      let spoken_newer = and_from (speaks_of w.key b.call) (nat_lt (version_shown b.reply w.key) w.version) spoken newer in
      let is : newer_at b ≡ true =
      ap (λ (found : Option WriteId). option_map_or (is_newer b) found false) (there_id trace i a w at_i has)
      ∙ and_from (w.store == b.object) (speaks_of w.key b.call && nat_lt (version_shown b.reply w.key) w.version)
      (eq-eqb w.store b.object own) spoken_newer in
      and_from (past r i) (option_map_or newer_at (slice_get trace r) false)
      ((tells r among i (there_writes trace i a w at_i has)).1 before)
      (ap (λ (read : Option Entry). option_map_or newer_at read false) at_r ∙ is)
