-- The laws of a kind. Looks are right at every store; reads are right, and show together what belongs together, at every store whose
-- regions show the greatest version that is whole.
use Rattle.std.proofs.Common.{◌≡◌, ℕ, zero, suc, ◌<◌, Bool, true, false, not, List, [], ◌∷◌, get_or, Option, Some, None, All, refl, sym, ap, subst, ◌∙◌, ◌==◌, leb, eqb-true, arith, unwrap_or}
use Rattle.std.specs.Prelude.{◌↔◌, bytes_eq, Contains}
use Rattle.std.proofs.lemmas.List.Elements.{All-nil, All-cons, All-contains}
use Rattle.std.proofs.lemmas.Bool.{and_parts, both_ways, not-true, true_from_ne_false, le-leb, false≢true}
use Rattle.anti_ids.specs.declared.id.WriteId.{WriteId}
use Rattle.anti_kind.specs.Kinds.{facts_of}
use Rattle.anti_kind.specs.declared.call.Call.{Call}
use Rattle.anti_kind.specs.declared.call.Call.TheVariants.{Read, Scan, Poll, Look}
use Rattle.anti_kind.specs.declared.entry.Entry.{Entry}
use Rattle.anti_kind.specs.declared.row.Row.{Row}
use Rattle.anti_kind.specs.Stored.{rows, row_of, is_shipped, shows_of}
use Rattle.anti_kind.proofs.FactLaws.{scanned_ordered, scanned_uncached}
use Rattle.anti_kind.specs.Store.{Store, is_replica, is_visible, is_written, shown_row, scanned, absent}
use Rattle.anti_kind.specs.Objects.{store, due, ready, IsLegal}
use Rattle.anti_kind.specs.Laws.{NeverFalls, ShowsWritten, LooksRight, is_read_at, IsRight, ReadsRight, OwnAfter, IsTogether, ReadsTogether, KeepsLaws}
use Rattle.anti_kind.specs.Replies.{named_missing, speaks_of, shown}
use Rattle.anti_kind.proofs.Rows.{versions_grow}
use Rattle.anti_kind.proofs.Lineages.{IsEarlier, earlier}
use Rattle.anti_kind.proofs.Scans.{all_scanned, scan_right}
use Rattle.anti_kind.proofs.Tables.{shown_came, visible_below}
use Rattle.anti_kind.proofs.Sources.{rows_have_sources, calls_name_own}
use Rattle.anti_kind.proofs.Finding.{Found, find_found, filter_contains}
use Rattle.anti_kind.proofs.Showing.{bytes_same, same_bytes, never_falls, shows_written, IsShown, is_shown}

-- Looks.

pub looks_right : (s : Store) → LooksRight s
looks_right s h l g ids dry id =
    let both = filter_contains (λ x. not (is_visible s h g x)) ids id in (
      λ in'. ((both.0 in').0, not-true (is_visible s h g id) (both.0 in').1),
      λ off. both.1 (off.0, ap not off.1),
    )

-- so an id of a look is outside what it names as missing exactly where it is visible
pub outside_missing : (s : Store) → LooksRight s → (h : List Entry) → IsLegal (store s) h → (g : ℕ) (ids : List WriteId) (dry : Bool) (id : WriteId)
    → Contains ids id → (Contains (named_missing (due (store s) h (Look g ids dry))) id → ⊥) ↔ (is_visible s h g id ≡ true)
outside_missing s right h l g ids dry id in' = (
  λ outside. true_from_ne_false (is_visible s h g id) (λ off. outside ((right h l g ids dry id).1 (in', off))),
  λ on named. both_ways (is_visible s h g id) ((right h l g ids dry id).0 named).1 on,
)

-- Reads of one key.

module _ (s : Store) (h : List Entry) (g : ℕ) (k : List ℕ) (c : Call) (says : (x : List ℕ) → speaks_of x c ≡ bytes_eq k x) where
  reads_row : ShowsWritten s → IsLegal (store s) h → IsRight s h g c (shown_row s h g k ∷ [])
  reads_row written l =
      let is : IsShown s h g k = is_shown s h g k written l in
      record {
        rows_are = λ i d short.
            subst (λ (r : Row). (speaks_of r.key c ≡ true) × (r ≡ shown_row s h g r.key)) (only (shown_row s h g k) i d short)
            (says (shown_row s h g k).key ∙ same_bytes k (shown_row s h g k).key (sym is.key), ap (shown_row s h g) (sym is.key));
        absent = λ x spoken none.
            let same : k ≡ x = bytes_same k x (sym (says x) ∙ spoken) in
            ap (s.shows h g) (sym same) ∙ sym is.version ∙ none 0 (shown_row s h g k) (omega arith) (is.key ∙ same);
      }
    where
      only : (r : Row) (i : ℕ) (d : Row) → i < 1 → r ≡ get_or (r ∷ []) i d
      only r zero d short = refl
      only r (suc i) d short = absurd (omega arith)

-- What a read shows, by the kinds of call.

right_by : (s : Store) (h : List Entry) (g : ℕ) (c : Call) → ShowsWritten s → IsLegal (store s) h → is_read_at g c ≡ true → IsRight s h g c (shown (due (store s) h c))
right_by s h g (Read region key) written l here =
    subst (λ (n : ℕ). IsRight s h n (Read region key) (shown_row s h region key ∷ [])) (eqb-true region g here) (reads_row s h region key (Read region key) (λ x. refl) written l)
right_by s h g (Poll region key) written l here =
    subst (λ (n : ℕ). IsRight s h n (Poll region key) (shown_row s h region key ∷ [])) (eqb-true region g here) (reads_row s h region key (Poll region key) (λ x. refl) written l)
right_by s h g (Scan region prefix) written l here =
    subst (λ (n : ℕ). IsRight s h n (Scan region prefix) (scanned s h region prefix)) (eqb-true region g here) (scan_right s h l region prefix written)
right_by s h g _ written l here = absurd (false≢true here)

pub reads_right : (s : Store) → ShowsWritten s → ReadsRight s
reads_right s written h g c reading = right_by s h g c written reading.legal reading.is_read

-- What is shown together.

-- the row that is shown for a key has, of that key, only ids that are visible
row_together : (s : Store) (h : List Entry) (g : ℕ) (k : List ℕ) → IsLegal (store s) h → OwnAfter s [] h → (o : Option Row) → row_of h (s.shows h g k) ≡ o
    → All (λ id. id.store ≡ s.number → id.key ≡ k → is_visible s h g id ≡ true) (unwrap_or o (absent k)).lineage
row_together s h g k l own None is i d short same key = absurd (omega arith)
row_together s h g k l own (Some r) is i d short same key =
    let found : Found (λ x. x.version == s.shows h g k) (rows h) r = find_found (λ x. x.version == s.shows h g k) (rows h) r is in
    let before : IsEarlier s h (get_or (rows h) found.index r) = earlier s h l own found.index r found.within in
    let before' : IsEarlier s h r = subst (IsEarlier s h) (found.at r) before in
    let less : (get_or r.lineage i d).version < r.version = (before' i d short same).0 in
    let version : r.version ≡ s.shows h g k = eqb-true r.version (s.shows h g k) found.passes in
    ap (λ (x : List ℕ). leb (get_or r.lineage i d).version (s.shows h g x)) key ∙ le-leb (get_or r.lineage i d).version (s.shows h g k) (omega arith)

-- so does a read of one key
read_together : (s : Store) (h : List Entry) (g : ℕ) (k : List ℕ) (c : Call) → ((x : List ℕ) → speaks_of x c ≡ bytes_eq k x) → IsLegal (store s) h → OwnAfter s [] h → All (IsTogether s h g c) (shown_row s h g k ∷ [])
read_together s h g k c says l own =
    All-cons (IsTogether s h g c) (shown_row s h g k) []
    (λ i d short same spoken.
    row_together s h g k l own (row_of h (s.shows h g k)) refl i d short same
    (sym (bytes_same k (get_or (shown_row s h g k).lineage i d).key (sym (says (get_or (shown_row s h g k).lineage i d).key) ∙ spoken))))
    (All-nil (IsTogether s h g c))

-- a row that a scan of a table shows came there, and so all that was written before it
scan_together : (s : Store) → s.shows ≡ shows_of s.kind → (facts_of s.kind).ordered ≡ true → (h : List Entry) → IsLegal (store s) h → OwnAfter s [] h → (g : ℕ) (prefix : List ℕ) → All (IsTogether s h g (Scan g prefix)) (scanned s h g prefix)
scan_together s is table h l own g prefix =
    all_scanned s h l g prefix (IsTogether s h g (Scan g prefix)) (λ r in' prefixed shown i d short same spoken.
    let id : WriteId = get_or r.lineage i d in
    let before : (id.version < r.version) × (is_written h id ≡ true) = All-contains (IsEarlier s h) (rows h) r (earlier s h l own) in' i d short same in
    let version : shows_of s.kind h g r.key ≡ r.version = ap (λ (shows : List Entry → ℕ → List ℕ → ℕ). shows h g r.key) (sym is) ∙ shown in
    let came : is_shipped h g r.version 1 ≡ true = subst (λ (v : ℕ). is_shipped h g v 1 ≡ true) version (shown_came s.kind h g r.key (omega (arith, before.0))) in
    visible_below s is table h l g r.version 1 id came before.0 before.1)

together_by : (s : Store) → ((facts_of s.kind).cached ≡ false → s.shows ≡ shows_of s.kind) → (h : List Entry) (g : ℕ) (c : Call) → IsLegal (store s) h → OwnAfter s [] h → ready (store s) h c ≡ true → is_read_at g c ≡ true → All (IsTogether s h g c) (shown (due (store s) h c))
together_by s is h g (Read region key) l own can here =
    subst (λ (n : ℕ). All (IsTogether s h n (Read region key)) (shown_row s h region key ∷ [])) (eqb-true region g here) (read_together s h region key (Read region key) (λ x. refl) l own)
together_by s is h g (Poll region key) l own can here =
    subst (λ (n : ℕ). All (IsTogether s h n (Poll region key)) (shown_row s h region key ∷ [])) (eqb-true region g here) (read_together s h region key (Poll region key) (λ x. refl) l own)
together_by s is h g (Scan region prefix) l own can here =
    subst (λ (n : ℕ). All (IsTogether s h n (Scan region prefix)) (scanned s h region prefix)) (eqb-true region g here)
    (scan_together s (is (scanned_uncached s.kind (and_parts (facts_of s.kind).scanned (is_replica s region) can).0))
    (scanned_ordered s.kind (and_parts (facts_of s.kind).scanned (is_replica s region) can).0) h l own region prefix)
together_by s is h g _ l own can here = absurd (false≢true here)

pub reads_together : (s : Store) → ((facts_of s.kind).cached ≡ false → s.shows ≡ shows_of s.kind) → ReadsTogether s
reads_together s is h g c reading own = together_by s is h g c reading.legal own reading.is_ready reading.is_read

-- The laws together, of a store whose regions show what was written and never less, and where there are no caches what is whole.
pub laws_of_shows : (s : Store) → NeverFalls s → ShowsWritten s → ((facts_of s.kind).cached ≡ false → s.shows ≡ shows_of s.kind) → KeepsLaws s
laws_of_shows s falls written is = record {
  never_falls = falls;
  shows_written = written;
  looks_right = looks_right s;
  reads_right = reads_right s written;
  reads_together = reads_together s is;
  rows_have_sources = rows_have_sources s;
  versions_grow = versions_grow s;
  calls_name_own = calls_name_own s;
}

pub keeps_laws : (s : Store) → s.shows ≡ shows_of s.kind → KeepsLaws s
keeps_laws s is = laws_of_shows s (never_falls s is) (shows_written s is) (λ _. is)

-- A start is that of one store alone: so what a machine's store keeps, each store keeps that its start is.
pub laws_of_start : (s t : Store) → store s ≡ store t → KeepsLaws s → KeepsLaws t
laws_of_start s t same laws = let is : s ≡ t = cc in subst KeepsLaws is laws
