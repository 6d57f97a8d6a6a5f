-- What is known at an entry, and the writes that it comes from.
use Rattle.std.proofs.Common.{◌≡◌, ℕ, zero, suc, ◌<◌, ◌⊎◌, true, List, Contains, Some, slice_get, take, refl, sym, ap, ◌∙◌, subst, subst₂, inl, inr, arith}
use Rattle.std.proofs.lemmas.Bool.{cases_eq}
use Rattle.anti_ids.specs.Ids.{has_id}
use Rattle.anti_ids.specs.declared.id.WriteId.{WriteId}
use Rattle.anti_kind.specs.declared.entry.Entry.{Entry}
use Rattle.anti_kind.specs.declared.row.Row.{Row}
use Rattle.anti_app.specs.declared.app.App.{App}
use Rattle.law_causal.specs.Words.{brings, rows_in, wrote}
use Rattle.law_causal.specs.inner.Taken.{told}
use Rattle.law_causal.specs.Pasts.{FromReplaced, kept_with}
use Rattle.law_causal.specs.Causal.{Before, Delivers, Earlier, id_replaced, lineage, message, over, program, row, through}
use Rattle.law_causal.specs.Carried.{Brought, IsLossless}
use Rattle.law_causal.proofs.Facts.{Facts, Replaces, RowSource}
use Rattle.law_causal.proofs.Ids.{has_id_at, id_for, in_either, in_id_at, not_none}
use Rattle.law_causal.proofs.Lists.{same_at}
use Rattle.law_causal.proofs.Brings.{Part, part_comes, of_kept, of_lineage, of_message, of_row, of_write, part_of, posts_bring_none, row_beside, row_shown, shows_row, told_kept, writes_only}

-- An id is known at the entry b, at place j: it came to the span before, or comes with the entry.
pub data Knows (app : App) (trace : List Entry) (j : ℕ) (b : Entry) (w : WriteId) : Type 0 where
  before_it : Brought app trace j b w → Knows app trace j b w
  with_it : has_id w (brings app b) ≡ true → Knows app trace j b w

-- The write that an id which is known at the entry b, at place j, comes from: it is this entry, or causally before it. Where no lineage
-- loses a write, all that is known at the write is known here.
pub record Source (app : App) (trace : List Entry) (j : ℕ) (b : Entry) (w : WriteId) : Type 0 where
  pub place : ℕ
  pub entry : Entry
  pub there : slice_get trace place ≡ Some entry
  pub wrote : has_id w (wrote entry) ≡ true
  pub order : (place ≡ j) ⊎ (place < j) × Before trace place j
  pub flows : IsLossless app trace → (v : WriteId) → Knows app trace place entry v → Knows app trace j b v

further : (h i j : ℕ) (d a b : Entry) → Earlier h d i a → Earlier i a j b → Earlier h d j b
further h i j d a b e f = record {
  before = omega (arith, e.before, f.before);
  process = e.process;
  actor = e.actor ∙ f.actor;
  span = e.span ∙ f.span;
}

module _ (app : App) (trace : List Entry) (facts : Facts app trace) where
  -- ---- what is known goes on

  -- along a span
  along : (i j : ℕ) (a b : Entry) → slice_get trace i ≡ Some a → Earlier i a j b → (v : WriteId) → Knows app trace i a v → Knows app trace j b v
  along i j a b at_i e v (before_it k) =
      before_it (record { place = k.place; entry = k.entry; there = k.there; earlier = further k.place i j k.entry a b k.earlier e; came = k.came })
  along i j a b at_i e v (with_it came) = before_it (record { place = i; entry = a; there = at_i; earlier = e; came = came })

  -- Where no lineage loses a write, what came to the span of a write is kept beside it.
  pub keeps : IsLossless app trace → (j : ℕ) (e : Entry) (v : WriteId) → slice_get trace j ≡ Some e → has_id v (wrote e) ≡ true
      → (w : WriteId) → Brought app trace j e w → has_id w (kept_with e) ≡ true
  keeps lossless j e v at has w brought = (facts.writes j e v at has).keeps w (lossless j e at (writes_only app e v has).hands w brought)

  -- what comes with a write is its id, or kept beside it
  pub own_or_kept : (e : Entry) (v : WriteId) → has_id v (wrote e) ≡ true → (w : WriteId) → has_id w (brings app e) ≡ true
      → (has_id w (wrote e) ≡ true) ⊎ (has_id w (kept_with e) ≡ true)
  own_or_kept e v has w came =
      elim ((in_either w (wrote e) (told e)).0 (sym (ap (has_id w) (writes_only app e v has).own) ∙ came)) [ inl own ↦ inl own | inr tells ↦ inr (told_kept e w tells) ]

  -- what is kept beside a write is known at it
  pub knows_kept : (j : ℕ) (b : Entry) (w : WriteId) → slice_get trace j ≡ Some b → has_id w (kept_with b) ≡ true → Knows app trace j b w
  knows_kept j b w at kept =
      let write = facts.keeper j b w at kept in
      elim ((facts.writes j b write.0 at write.1).tells w kept) [
        | inl tells ↦ with_it (part_comes app b w (of_kept tells))
        | inr carried ↦ before_it (facts.came j b at w carried)
      ]

  -- from a post to what takes its message
  to_letter : IsLossless app trace → (i j : ℕ) (a b : Entry) → slice_get trace i ≡ Some a → slice_get trace j ≡ Some b → Delivers a b
      → (v : WriteId) → Knows app trace i a v → has_id v (brings app b) ≡ true
  to_letter lossless i j a b at_i at_j d v (before_it k) =
      let p = facts.passes i j a b at_i at_j d in
      part_comes app b v (of_message (p.same v ∙ lossless i a at_i p.hands v k))
  to_letter lossless i j a b at_i at_j d v (with_it came) = not_none v (brings app a) (posts_bring_none app a d.letter d.posted) came

  -- from a write to the one that replaces it
  module _ (i j : ℕ) (a b : Entry) (w : WriteId) (at_i : slice_get trace i ≡ Some a) (at_j : slice_get trace j ≡ Some b)
      (has : has_id w (wrote a) ≡ true) (replaced : has_id w (id_replaced (take j trace) b) ≡ true) where
    abbrev its_replacer : Replaces i a j b
    its_replacer = facts.replaces i j a b w at_i at_j has replaced

    to_replacer : IsLossless app trace → (v : WriteId) → Knows app trace i a v → Knows app trace j b v
    to_replacer lossless v (before_it k) = knows_kept j b v at_j (its_replacer.kept v (keeps lossless i a w at_i has v k))
    to_replacer lossless v (with_it came) =
        elim (own_or_kept a w has v came) [
          | inl own ↦ knows_kept j b v at_j (its_replacer.id v own)
          | inr kept ↦ knows_kept j b v at_j (its_replacer.kept v kept)
        ]

  -- ---- rows of version 1 or later

  module _ (j : ℕ) (b : Entry) (r : Row) (at : slice_get trace j ≡ Some b) (in_it : Contains (rows_in b.call b.reply) r) (some : 0 < r.version) where
    abbrev its_write : RowSource trace j b r
    its_write = facts.rows j b r at in_it some

    abbrev its_id : WriteId
    its_id = id_for b.object r.key r.version

    has_its_id : has_id its_id (wrote its_write.entry) ≡ true
    has_its_id = ap (has_id its_id) its_write.wrote ∙ has_id_at b.object r.key r.version some

    -- what is kept beside its write is beside the row
    to_lineage : (v : WriteId) → has_id v (kept_with its_write.entry) ≡ true → has_id v (brings app b) ≡ true
    to_lineage v kept = part_comes app b v (of_lineage r in_it (sym (ap (has_id v) its_write.kept) ∙ kept))

    -- from its write to what shows the row
    to_row : IsLossless app trace → (v : WriteId) → Knows app trace its_write.place its_write.entry v → has_id v (brings app b) ≡ true
    to_row lossless v (before_it k) = to_lineage v (keeps lossless its_write.place its_write.entry its_id its_write.there has_its_id v k)
    to_row lossless v (with_it came) =
        elim (own_or_kept its_write.entry its_id has_its_id v came) [
          | inl own ↦ part_comes app b v (of_row r in_it (sym (ap (has_id v) its_write.wrote) ∙ own))
          | inr kept ↦ to_lineage v kept
        ]

    row_before : Before trace its_write.place j
    row_before = row its_write.entry b its_id its_write.there at has_its_id (shows_row b its_id r in_it (has_id_at b.object r.key r.version some))

  -- ---- sources

  farther : (h i j : ℕ) → (h ≡ i) ⊎ (h < i) × Before trace h i → i < j → Before trace i j → (h < j) × Before trace h j
  farther h i j (inl same) low before = (omega (arith, same, low), subst (λ (n : ℕ). Before trace n j) (sym same) before)
  farther h i j (inr p) low before = (omega (arith, p.0, low), through p.1 before)

  onward : (i j : ℕ) (a b : Entry) (w : WriteId) → i < j → Before trace i j
      → (IsLossless app trace → (v : WriteId) → Knows app trace i a v → Knows app trace j b v)
      → Source app trace i a w → Source app trace j b w
  onward i j a b w low before flows s = record {
    place = s.place;
    entry = s.entry;
    there = s.there;
    wrote = s.wrote;
    order = inr (farther s.place i j s.order low before);
    flows = λ lossless v k. flows lossless v (s.flows lossless v k);
  }

  from_row : (j : ℕ) (b : Entry) (r : Row) (at : slice_get trace j ≡ Some b) (in_it : Contains (rows_in b.call b.reply) r) (some : 0 < r.version) (w : WriteId)
      → Source app trace (its_write j b r at in_it some).place (its_write j b r at in_it some).entry w → Source app trace j b w
  from_row j b r at in_it some w s =
      let from = its_write j b r at in_it some in
      onward from.place j from.entry b w from.before (row_before j b r at in_it some) (λ lossless v k. with_it (to_row j b r at in_it some lossless v k)) s

  -- a row with a lineage is of version 1 or later
  has_version : (j : ℕ) (b : Entry) (r : Row) (w : WriteId) → slice_get trace j ≡ Some b → Contains (rows_in b.call b.reply) r
      → has_id w r.lineage ≡ true → 0 < r.version
  has_version j b r w at in_it has =
      elim (cases_eq r.version 0) [
        | inl none ↦ not_none w r.lineage (facts.absent j b r at in_it none) has
        | inr some ↦ omega (arith, some)
      ]

  abbrev Sources : ℕ → WriteId → Type 0
  Sources j w = (i : ℕ) (a : Entry) → i < j → slice_get trace i ≡ Some a → Knows app trace i a w → Source app trace i a w

  itself : (j : ℕ) (b : Entry) (w : WriteId) → slice_get trace j ≡ Some b → has_id w (wrote b) ≡ true → Source app trace j b w
  itself j b w at has = record { place = j; entry = b; there = at; wrote = has; order = inl refl; flows = λ lossless v k. k }

  of_before : (j : ℕ) (b : Entry) (w : WriteId) → slice_get trace j ≡ Some b → Sources j w → Brought app trace j b w
      → Source app trace j b w
  of_before j b w at below k =
      onward k.place j k.entry b w k.earlier.before (program k.entry b k.there at k.earlier)
      (λ lossless v x. along k.place j k.entry b k.there k.earlier v x)
      (below k.place k.entry k.earlier.before k.there (with_it k.came))

  -- what the write that is replaced leaves is known at it
  left_known : (j : ℕ) (b : Entry) (w : WriteId) (f : FromReplaced trace j b w) → Knows app trace f.place f.entry w
  left_known j b w f =
      elim f.leaves [
        | inl same ↦ with_it (part_comes app f.entry w (of_write (ap (λ (i : WriteId). has_id i (wrote f.entry)) same ∙ f.wrote)))
        | inr kept ↦ knows_kept f.place f.entry w f.there kept
      ]

  of_replaced : (j : ℕ) (b : Entry) (w : WriteId) → slice_get trace j ≡ Some b → Sources j w → FromReplaced trace j b w
      → Source app trace j b w
  of_replaced j b w at below f =
      let before = (facts.replaces f.place j f.entry b f.id f.there at f.wrote f.replaced).before in
      onward f.place j f.entry b w before (over f.entry b f.id f.there at f.wrote f.replaced)
      (λ lossless v k. to_replacer f.place j f.entry b f.id f.there at f.wrote f.replaced lossless v k)
      (below f.place f.entry before f.there (left_known j b w f))

  of_part : (j : ℕ) (b : Entry) (w : WriteId) → slice_get trace j ≡ Some b → Sources j w → Part app b w → Source app trace j b w
  of_part j b w at below (of_write has) = itself j b w at has
  of_part j b w at below (of_kept has) =
      let kept = told_kept b w has in
      let write = facts.keeper j b w at kept in
      elim ((facts.writes j b write.0 at write.1).from w kept) [
        | inl carried ↦ of_before j b w at below (facts.came j b at w carried)
        | inr left ↦ of_replaced j b w at below left
      ]
  of_part j b w at below (of_row r in_it has) =
      let some = (in_id_at w b.object r.key r.version has).0 in
      let from = facts.rows j b r at in_it some in
      from_row j b r at in_it some w (itself from.place from.entry w from.there (ap (has_id w) from.wrote ∙ has))
  of_part j b w at below (of_lineage r in_it has) =
      let some = has_version j b r w at in_it has in
      let from = facts.rows j b r at in_it some in
      from_row j b r at in_it some w (below from.place from.entry from.before from.there (knows_kept from.place from.entry w from.there (ap (has_id w) from.kept ∙ has)))
  of_part j b w at below (of_message has) =
      let from = facts.letters j b w at has in
      let p = facts.passes from.place j from.entry b from.there at from.delivers in
      let came = facts.came from.place from.entry from.there w (sym (p.same w) ∙ has) in
      onward from.place j from.entry b w p.before (message from.entry b from.there at from.delivers)
      (λ lossless v k. with_it (to_letter lossless from.place j from.entry b from.there at from.delivers v k))
      (below from.place from.entry p.before from.there (before_it came))

  step : (j : ℕ) (b : Entry) (w : WriteId) → slice_get trace j ≡ Some b → Sources j w → Knows app trace j b w → Source app trace j b w
  step j b w at below (before_it k) = of_before j b w at below k
  step j b w at below (with_it came) = of_part j b w at below (part_of app b w came)

  sources : (n : ℕ) (w : WriteId) (j : ℕ) (b : Entry) → j < n → slice_get trace j ≡ Some b → Knows app trace j b w → Source app trace j b w
  sources zero w j b low at k = absurd (omega (arith, low))
  sources (suc n) w j b low at k = step j b w at (λ i a less at_i x. sources n w i a (omega (arith, low, less)) at_i x) k

  -- What is known comes from its write, with all that is known there.
  pub source : (j : ℕ) (b : Entry) (w : WriteId) → slice_get trace j ≡ Some b → Knows app trace j b w → Source app trace j b w
  source j b w at k = sources (suc j) w j b (omega arith) at k

  -- ---- a write and what knows it

  module _ (i : ℕ) (a : Entry) (w : WriteId) (at_i : slice_get trace i ≡ Some a) (has : has_id w (wrote a) ≡ true) where
    -- a source is the write of its id
    its_place : (j : ℕ) (b : Entry) (s : Source app trace j b w) → s.place ≡ i
    its_place j b s = facts.once s.place i s.entry a w s.there at_i s.wrote has

    pub source_order : (j : ℕ) (b : Entry) → Source app trace j b w → (i ≡ j) ⊎ (i < j) × Before trace i j
    source_order j b s = subst (λ (n : ℕ). (n ≡ j) ⊎ (n < j) × Before trace n j) (its_place j b s) s.order

    source_flows : (j : ℕ) (b : Entry) → Source app trace j b w → IsLossless app trace → (v : WriteId) → Knows app trace i a v → Knows app trace j b v
    source_flows j b s lossless v k =
        let place = its_place j b s in
        let entry = same_at trace i s.entry a (ap (slice_get trace) (sym place) ∙ s.there) at_i in
        s.flows lossless v (subst₂ (λ (n : ℕ) (e : Entry). Knows app trace n e v) (sym place) (sym entry) k)

    -- what came to a span was written causally before
    pub brought_before : (j : ℕ) (b : Entry) → slice_get trace j ≡ Some b → Brought app trace j b w → (i < j) × Before trace i j
    brought_before j b at_j k =
        let order = source_order k.place k.entry (source k.place k.entry w k.there (with_it k.came)) in
        farther i k.place j order k.earlier.before (program k.entry b k.there at_j k.earlier)

    -- and so was what a write keeps
    pub kept_before : (j : ℕ) (b : Entry) → slice_get trace j ≡ Some b → has_id w (kept_with b) ≡ true → (i < j) × Before trace i j
    kept_before j b at_j kept =
        let write = facts.keeper j b w at_j kept in
        elim ((facts.writes j b write.0 at_j write.1).from w kept) [
          | inl carried ↦ brought_before j b at_j (facts.came j b at_j w carried)
          | inr f ↦
              let order = source_order f.place f.entry (source f.place f.entry w f.there (left_known j b w f)) in
              farther i f.place j order (facts.replaces f.place j f.entry b f.id f.there at_j f.wrote f.replaced).before
              (over f.entry b f.id f.there at_j f.wrote f.replaced)
        ]

    -- what a reply with a row brings, and did not write, was written causally before
    module _ (j : ℕ) (b : Entry) (r : Row) (at_j : slice_get trace j ≡ Some b) (in_it : Contains (rows_in b.call b.reply) r) (came : has_id w (brings app b) ≡ true) where
      abbrev shown_source : Source app trace j b w
      shown_source = source j b w at_j (with_it came)

      other : i ≡ j → (i < j) × Before trace i j
      other same =
          let here : a ≡ b = same_at trace j a b (ap (slice_get trace) (sym same) ∙ at_i) at_j in
          let none = (writes_only app b w (ap (λ (e : Entry). has_id w (wrote e)) (sym here) ∙ has)).no_rows in
          absurd (omega (arith, (subst (λ (rows : List Row). Contains rows r) none in_it).1))

      shown_before : (i < j) × Before trace i j
      shown_before = elim (source_order j b shown_source) [ inl same ↦ other same | inr before ↦ before ]

      shown_flows : IsLossless app trace → (v : WriteId) → Knows app trace i a v → Knows app trace j b v
      shown_flows = source_flows j b shown_source

  -- ---- along the causal order

  -- The causal order goes with the trace. This holds where lineages lose writes too.
  pub forward : {i j : ℕ} → Before trace i j → i < j
  forward (program a b at_i at_j e) = e.before
  forward (message {i = i} {j = j} a b at_i at_j d) = (facts.passes i j a b at_i at_j d).before
  forward (row {i = i} {j = j} a b w at_i at_j has shows) =
      let (r, in_it, came) = row_shown app b w shows in
      (shown_before i a w at_i has j b r at_j in_it came).0
  forward (lineage {i = i} {j = j} a b w at_i at_j has shows) =
      let (r, in_it, came) = row_beside app b w shows in
      (shown_before i a w at_i has j b r at_j in_it came).0
  forward (over {i = i} {j = j} a b w at_i at_j has replaced) = (facts.replaces i j a b w at_i at_j has replaced).before
  forward (through p q) = let low = forward p in let high = forward q in omega (arith, low, high)

  -- an id is known at the entry at a place
  abbrev KnowsAt : ℕ → WriteId → Type 0
  KnowsAt j v = (b : Entry) → slice_get trace j ≡ Some b → Knows app trace j b v

  known_at : (j : ℕ) (b : Entry) (v : WriteId) → slice_get trace j ≡ Some b → Knows app trace j b v → KnowsAt j v
  known_at j b v at k c at_c = subst (λ (e : Entry). Knows app trace j e v) (same_at trace j b c at at_c) k

  goes_along : IsLossless app trace → {i j : ℕ} → Before trace i j → (v : WriteId) → KnowsAt i v → KnowsAt j v
  goes_along lossless (program {i = i} {j = j} a b at_i at_j e) v k = known_at j b v at_j (along i j a b at_i e v (k a at_i))
  goes_along lossless (message {i = i} {j = j} a b at_i at_j d) v k = known_at j b v at_j (with_it (to_letter lossless i j a b at_i at_j d v (k a at_i)))
  goes_along lossless (row {i = i} {j = j} a b w at_i at_j has shows) v k =
      let (r, in_it, came) = row_shown app b w shows in
      known_at j b v at_j (shown_flows i a w at_i has j b r at_j in_it came lossless v (k a at_i))
  goes_along lossless (lineage {i = i} {j = j} a b w at_i at_j has shows) v k =
      let (r, in_it, came) = row_beside app b w shows in
      known_at j b v at_j (shown_flows i a w at_i has j b r at_j in_it came lossless v (k a at_i))
  goes_along lossless (over {i = i} {j = j} a b w at_i at_j has replaced) v k =
      known_at j b v at_j (to_replacer i j a b w at_i at_j has replaced lossless v (k a at_i))
  goes_along lossless (through p q) v k = goes_along lossless q v (goes_along lossless p v k)

  -- What is known goes along it, where no lineage loses a write.
  pub flow : IsLossless app trace → {i j : ℕ} → Before trace i j → (a b : Entry) → slice_get trace i ≡ Some a → slice_get trace j ≡ Some b
      → (v : WriteId) → Knows app trace i a v → Knows app trace j b v
  flow lossless {i} before a b at_i at_j v k = goes_along lossless before v (known_at i a v at_i k) b at_j
