-- What the stores of a legal trace give the causal order: each write has an id of its own, each row is that of an earlier write, and what a
-- look found visible stays visible.
use Rattle.std.proofs.Common.{◌≡◌, ℕ, zero, suc, ◌+◌, ◌<◌, ◌≤◌, ◌++◌, ◌⊎◌, ◌&&◌, ◌||◌, ◌==◌, Bool, true, false, not, List, [], ◌∷◌, length, length-append, get_or, refl, sym, ap, ap₂, ◌∙◌, subst, inl, inr, ⊎_elim, arith}
use Rattle.std.specs.Prelude.{◌↔◌, Contains, Option, Some, unwrap_or, slice_get, take, bytes_eq}
use Rattle.std.specs.List.{list_all, list_any, Any}
use Rattle.std.proofs.lemmas.Bool.{and_from, and_parts, both_ways, cases_order, eq-eqb, le-leb, leb-true, not-true, or_cases, or_left, or_right}
use Rattle.std.proofs.lemmas.List.Elements.{All-contains, Contains-get_or}
use Rattle.std.proofs.lemmas.List.Folds.{list_any-append}
use Rattle.std.proofs.lemmas.List.Sums.{AllPass-from_list_all, list_all-from_AllPass}
use Rattle.anti_ids.specs.Ids.{has_id}
use Rattle.anti_ids.specs.declared.id.WriteId.{WriteId}
use Rattle.anti_ids.proofs.IdLemmas.{Contains-from_has_id, has_id-from_Contains}
use Rattle.anti_kind.specs.declared.call.Call.{Call}
use Rattle.anti_kind.specs.declared.call.Call.TheVariants as calls
use Rattle.anti_kind.specs.declared.call.Reply.{Reply}
use Rattle.anti_kind.specs.declared.call.Reply.TheVariants as replies
use Rattle.anti_kind.specs.declared.entry.Entry.{Entry}
use Rattle.anti_kind.specs.declared.message.Message.{Message}
use Rattle.anti_kind.specs.declared.row.Row.{Row}
use Rattle.anti_kind.specs.Inbox.{inbox_ready}
use Rattle.anti_kind.specs.Laws.{AreSourced, IsOfWrite}
use Rattle.anti_kind.specs.Replies.{named_missing}
use Rattle.anti_kind.specs.Objects.{Start, store, inbox, Follows, IsLegal, ready}
use Rattle.anti_kind.specs.Store.{Store, absent, can_look, is_replica, is_visible, is_written, key_for, store_due, store_ready, told_over}
use Rattle.anti_kind.specs.Stored.{rows, stored, wrote as wrote_row}
use Rattle.anti_kind.proofs.Finding.{Found, find_found, joined_from}
use Rattle.anti_kind.proofs.Keeping.{looks_right}
use Rattle.anti_kind.proofs.Rows.{version_at}
use Rattle.anti_kind.proofs.Showing.{rows-append, same_bytes}
use Rattle.anti_kind.proofs.Sources.{calls_name_own, rows_have_sources}
use Rattle.anti_app.specs.declared.app.App.{App}
use Rattle.anti_object.specs.Starts.{start_of}
use Rattle.anti_proc.specs.Local.{id_at}
use Rattle.anti_trace.specs.Legal.{IsLegalTrace}
use Rattle.anti_trace.specs.Traces.{entries_on}
use Rattle.law_causal.specs.Settled.{is_visible_after, is_visible_in}
use Rattle.law_causal.specs.Words.{id_written, rows_in, wrote}
use Rattle.law_causal.proofs.Facts.{RowSource}
use Rattle.law_causal.proofs.Ids.{id_for, in_id_at}
use Rattle.law_causal.proofs.Objects.{follows_at, history_cut, history_longer, legal_at, only, start_is_of_app}
use Rattle.law_causal.proofs.Places.{seen, there}

-- ---- writes

-- the call and the reply of a write, with its id
pub record IsWrite (o : ℕ) (c : Call) (y : Reply) (w : WriteId) : Type 0 where
  pub key : List ℕ
  pub value : List ℕ
  pub lineage : List WriteId
  pub name : List ℕ
  pub version : ℕ
  pub over : Option (List WriteId)
  pub call : c ≡ calls.Write key value lineage
  pub reply : y ≡ replies.Written name version over
  pub some : 0 < version
  pub id : w ≡ id_for o name version

pub write_parts : (o : ℕ) (c : Call) (y : Reply) (w : WriteId) → has_id w (id_written o c y) ≡ true → IsWrite o c y w
write_parts o (calls.Write key value lineage) (replies.Written name version over) w has =
    let known = in_id_at w o name version has in
    record {
      key = key;
      value = value;
      lineage = lineage;
      name = name;
      version = version;
      over = over;
      call = refl;
      reply = refl;
      some = known.0;
      id = known.1;
    }
write_parts o _ _ w has = absurd (cc)

-- the row that it adds
abbrev pub row_made : {o : ℕ} {c : Call} {y : Reply} {w : WriteId} → IsWrite o c y w → Row
row_made it = record { key = it.name; version = it.version; value = it.value; lineage = unwrap_or it.over it.lineage }

row_added : (o : ℕ) (c : Call) (y : Reply) (w : WriteId) (it : IsWrite o c y w) → wrote_row c y ≡ row_made it ∷ []
row_added o c y w it = ap₂ wrote_row it.call it.reply

-- a write gets the version after those that are there
next_version : (start : Start) (h : List Entry) (e : Entry) (w : WriteId) → Follows start h e → IsWrite e.object e.call e.reply w → w.version ≡ length (rows h) + 1
next_version (store s) h e w f it =
    let due : replies.Written it.name it.version it.over
    ≡ replies.Written (key_for s.kind h it.key) (length (rows h) + 1) (told_over s h it.key it.lineage) =
    sym it.reply ∙ f.reply ∙ ap (λ (c : Call). store_due s h c) it.call in
    let same : it.version ≡ length (rows h) + 1 = cc in
    ap (λ (x : WriteId). x.version) it.id ∙ same
next_version (inbox requests) h e w f it =
    let never : inbox_ready requests h (calls.Write it.key it.value it.lineage) ≡ true = ap (λ (c : Call). inbox_ready requests h c) (sym it.call) ∙ f.is_ready in
    absurd (cc)

-- the rows of a history with a write among its entries
pub rows_cut : (before : List Entry) (a : Entry) (rest : List Entry) (o : ℕ) (w : WriteId) (it : IsWrite o a.call a.reply w)
    → rows (before ++ a ∷ rest) ≡ rows before ++ row_made it ∷ rows rest
rows_cut before a rest o w it =
    rows-append before (a ∷ rest) ∙ ap (λ (rs : List Row). rows before ++ (rs ++ rows rest)) (row_added o a.call a.reply w it)

-- ---- rows

-- where a row that is shown or handed out comes from
row_sourced : (h : List Entry) (c : Call) (y : Reply) (r : Row) → AreSourced h y → Contains (rows_in c y) r → (r ≡ absent r.key) ⊎ IsOfWrite h r
row_sourced h (calls.Read region key) (replies.Shown rows) r sourced in' = All-contains (λ x. (x ≡ absent x.key) ⊎ IsOfWrite h x) rows.items r sourced in'
row_sourced h (calls.Scan region prefix) (replies.Shown rows) r sourced in' = All-contains (λ x. (x ≡ absent x.key) ⊎ IsOfWrite h x) rows.items r sourced in'
row_sourced h (calls.Poll region key) (replies.Shown rows) r sourced in' = All-contains (λ x. (x ≡ absent x.key) ⊎ IsOfWrite h x) rows.items r sourced in'
row_sourced h (calls.Pull sub) (replies.Pulled row) r sourced in' = inr (subst (IsOfWrite h) (only row r in') sourced)
row_sourced h (calls.Repull sub version) (replies.Pulled row) r sourced in' = inr (subst (IsOfWrite h) (only row r in') sourced)
row_sourced h _ _ r sourced in' = absurd (omega (arith, in'.1))

-- an inbox hands out no rows
no_rows : (requests : List Message) (h : List Entry) (c : Call) (y : Reply) (r : Row) → inbox_ready requests h c ≡ true → Contains (rows_in c y) r → ⊥
no_rows requests h (calls.Post m) y r can in' = omega (arith, in'.1)
no_rows requests h (calls.Take nth) y r can in' = omega (arith, in'.1)
no_rows requests h (calls.Repost number) y r can in' = omega (arith, in'.1)
no_rows requests h (calls.TakeReply number) y r can in' = omega (arith, in'.1)
no_rows requests h _ y r can in' = absurd (cc)

-- the row of a write stands among the rows of the history, and has a version
row_there : (s : Store) (h : List Entry) → IsLegal (store s) h → (r : Row) → IsOfWrite h r → Contains (rows h) r × (0 < r.version)
row_there s h l r is =
    let found : Found (λ (x : Row). x.version == r.version) (rows h) r = find_found (λ (x : Row). x.version == r.version) (rows h) r is in
    let version : r.version ≡ found.index + 1 = ap (λ (x : Row). x.version) (sym (found.at r)) ∙ version_at s h l found.index r found.within in
    ((found.index, found.within, found.at r), omega (arith, version))

-- a row of a reply is one of the history, or absent
row_from : (start : Start) (h : List Entry) (e : Entry) (r : Row) → IsLegal start h → Follows start h e → Contains (rows_in e.call e.reply) r
    → (r ≡ absent r.key) ⊎ (Contains (rows h) r × (0 < r.version))
row_from (store s) h e r l f in' =
    let sourced : AreSourced h e.reply = subst (AreSourced h) (sym f.reply) (rows_have_sources s h e.call l f.is_ready) in
    ⊎_elim (λ (none : r ≡ absent r.key). inl none) (λ (is : IsOfWrite h r). inr (row_there s h l r is)) (row_sourced h e.call e.reply r sourced in')
row_from (inbox requests) h e r l f in' = absurd (no_rows requests h e.call e.reply r f.is_ready in')

-- the write of a row
row_written : (o : ℕ) (c : Call) (y : Reply) (r : Row) → Contains (wrote_row c y) r → (id_written o c y ≡ id_at o r.key r.version) × (stored c y ≡ r.lineage)
row_written o (calls.Write key value lineage) (replies.Written name version over) r (zero, short, is) =
    (ap (λ (x : Row). id_at o x.key x.version) is, ap (λ (x : Row). x.lineage) is)
row_written o (calls.Write key value lineage) (replies.Written name version over) r (suc k, short, is) = absurd (omega (arith, short))
row_written o _ _ r in' = absurd (omega (arith, in'.1))

-- ---- looks

all_pass : (p : WriteId → Bool) (ids : List WriteId) → ((w : WriteId) → has_id w ids ≡ true → p w ≡ true) → list_all p ids ≡ true
all_pass p ids each = list_all-from_AllPass p ids (λ k d short. each (get_or ids k d) (has_id-from_Contains (get_or ids k d) ids (Contains-get_or ids k d short)))

one_passes : (p : WriteId → Bool) (ids : List WriteId) → list_all p ids ≡ true → (w : WriteId) → has_id w ids ≡ true → p w ≡ true
one_passes p ids all w has = All-contains (λ (x : WriteId). p x ≡ true) ids w (AllPass-from_list_all p ids all) (Contains-from_has_id w ids has)

-- a look is one at a store
look_at_store : (start : Start) (h : List Entry) (region : ℕ) (ids : List WriteId) (dry : Bool) → ready start h (calls.Look region ids dry) ≡ true
    → (s : Store) × (start ≡ store s)
look_at_store (store s) h region ids dry can = (s, refl)
look_at_store (inbox requests) h region ids dry can = absurd (cc)

-- a look that is ready and not dry misses nothing, where each of its ids is written
look_misses_none : (s : Store) (h : List Entry) (region : ℕ) (ids : List WriteId) → can_look s h region ids false ≡ true
    → ((w : WriteId) → has_id w ids ≡ true → is_written h w ≡ true) → (w : WriteId) → has_id w ids ≡ true → is_visible s h region w ≡ true
look_misses_none s h region ids can written w has =
    let own = and_parts (is_replica s region) _ can in
    let found = and_parts (list_all (λ (id : WriteId). id.store == s.number) ids) (list_all (is_visible s h region) ids || not (list_all (is_written h) ids)) own.1 in
    ⊎_elim (λ (all : list_all (is_visible s h region) ids ≡ true). one_passes (is_visible s h region) ids all w has)
    (λ (some : not (list_all (is_written h) ids) ≡ true). absurd (both_ways (list_all (is_written h) ids) (not-true (list_all (is_written h) ids) some) (all_pass (is_written h) ids written)))
    (or_cases (list_all (is_visible s h region) ids) (not (list_all (is_written h) ids)) found.1)

-- what is visible after a trace is what its store shows
pub visible_after : (app : App) (trace : List Entry) (region : ℕ) (w : WriteId) (o : ℕ) → w.store ≡ o → (s : Store) → start_of app o ≡ Some (store s)
    → is_visible_after app trace region w ≡ is_visible s (entries_on o trace) region w
visible_after app trace region w o own s start =
    let found : start_of app w.store ≡ Some (store s) = ap (start_of app) own ∙ start in
    λ i. is_visible_in (entries_on (own i) trace) region w (found i)

-- ---- of a legal trace

module _ (app : App) (trace : List Entry) (legal : IsLegalTrace app trace) where
  -- the id of a write: its store, and the version after those before it
  pub write_at : (j : ℕ) (e : Entry) (w : WriteId) → slice_get trace j ≡ Some e → has_id w (wrote e) ≡ true
      → (e.object ≡ w.store) × (w.version ≡ length (rows (entries_on w.store (take j trace))) + 1)
  write_at j e w at has =
      let it : IsWrite e.object e.call e.reply w = write_parts e.object e.call e.reply w has in
      let own : e.object ≡ w.store = sym (ap (λ (x : WriteId). x.store) it.id) in
      let start = there app trace legal j e at in
      let f = follows_at app trace legal e.object start.0 start.1 j e at refl in
      (own, subst (λ (n : ℕ). w.version ≡ length (rows (entries_on n (take j trace))) + 1) own (next_version start.0 (entries_on e.object (take j trace)) e w f it))

  not_later : (i j : ℕ) (a b : Entry) (w : WriteId) → i < j → slice_get trace i ≡ Some a → slice_get trace j ≡ Some b
      → has_id w (wrote a) ≡ true → has_id w (wrote b) ≡ true → ⊥
  not_later i j a b w less at_i at_j one other =
      let first = write_at i a w at_i one in
      let second = write_at j b w at_j other in
      let it : IsWrite a.object a.call a.reply w = write_parts a.object a.call a.reply w one in
      let cut = history_cut trace w.store i j a less at_i first.0 in
      let before : List Entry = entries_on w.store (take i trace) in
      let more : length (rows (entries_on w.store (take j trace))) ≡ length (rows before) + suc (length (rows cut.0)) =
      ap (λ (h : List Entry). length (rows h)) cut.1 ∙ ap length (rows_cut before a cut.0 a.object w it) ∙ length-append (rows before) (row_made it ∷ rows cut.0) in
      omega (arith, first.1, second.1, more)

  -- Two places that wrote one id are one.
  pub once : (i j : ℕ) (a b : Entry) (w : WriteId) → slice_get trace i ≡ Some a → slice_get trace j ≡ Some b
      → has_id w (wrote a) ≡ true → has_id w (wrote b) ≡ true → i ≡ j
  once i j a b w at_i at_j one other =
      elim (cases_order i j) [
        | inl same ↦ same
        | inr (inl less) ↦ absurd (not_later i j a b w less at_i at_j one other)
        | inr (inr more) ↦ absurd (not_later j i b a w more at_j at_i other one)
      ]

  -- What an entry wrote is written in each later history of its store.
  pub written_is : (i : ℕ) (a : Entry) (w : WriteId) → slice_get trace i ≡ Some a → has_id w (wrote a) ≡ true
      → (k : ℕ) → i < k → is_written (entries_on w.store (take k trace)) w ≡ true
  written_is i a w at has k less =
      let it : IsWrite a.object a.call a.reply w = write_parts a.object a.call a.reply w has in
      let cut = history_cut trace w.store i k a less at (write_at i a w at has).0 in
      let before : List Entry = entries_on w.store (take i trace) in
      let test : Row → Bool = λ r. (r.version == w.version) && bytes_eq r.key w.key in
      let new : Row = row_made it in
      let passes : test new ≡ true = and_from (it.version == w.version) (bytes_eq it.name w.key)
      (eq-eqb it.version w.version (sym (ap (λ (x : WriteId). x.version) it.id))) (same_bytes it.name w.key (sym (ap (λ (x : WriteId). x.key) it.id))) in
      ap (list_any test) (ap rows cut.1 ∙ rows_cut before a cut.0 a.object w it)
      ∙ list_any-append test (rows before) (new ∷ rows cut.0)
      ∙ or_right (list_any test (rows before)) (list_any test (new ∷ rows cut.0)) (or_left (test new) (list_any test (rows cut.0)) passes)

  -- ---- rows

  row_at : (j : ℕ) (b : Entry) (r : Row) → slice_get trace j ≡ Some b → Contains (rows_in b.call b.reply) r
      → (r ≡ absent r.key) ⊎ (Contains (rows (entries_on b.object (take j trace))) r × (0 < r.version))
  row_at j b r at in' =
      let start = there app trace legal j b at in
      row_from start.0 (entries_on b.object (take j trace)) b r (legal_at app trace legal b.object start.0 start.1 j)
      (follows_at app trace legal b.object start.0 start.1 j b at refl) in'

  -- a row of the history is that of an earlier write
  pub source_in : (j : ℕ) (b : Entry) (r : Row) → Contains (rows (entries_on b.object (take j trace))) r → RowSource trace j b r
  source_in j b r in' =
      let h : List Entry = entries_on b.object (take j trace) in
      let found : Any (λ (e : Entry). Contains (wrote_row e.call e.reply) r) h = joined_from (λ (e : Entry). wrote_row e.call e.reply) h r in' in
      let a : Entry = found.1 in
      let place = seen trace b.object j a (found.0, found.2, found.3) in
      let is = row_written b.object a.call a.reply r found.4 in
      record {
        place = place.0;
        entry = a;
        there = place.2;
        before = place.1;
        wrote = ap (λ (n : ℕ). id_written n a.call a.reply) place.3 ∙ is.0;
        kept = is.1;
      }

  -- A row with a version is that of an earlier write.
  pub row_source : (j : ℕ) (b : Entry) (r : Row) → slice_get trace j ≡ Some b → Contains (rows_in b.call b.reply) r → 0 < r.version → RowSource trace j b r
  row_source j b r at in' some =
      elim (row_at j b r at in') [
        | inl none ↦ absurd (omega (arith, some, ap (λ (x : Row). x.version) none))
        | inr found ↦ source_in j b r found.0
      ]

  -- A row of version 0 has no lineage.
  pub row_absent : (j : ℕ) (b : Entry) (r : Row) → slice_get trace j ≡ Some b → Contains (rows_in b.call b.reply) r → r.version ≡ 0 → r.lineage ≡ []
  row_absent j b r at in' zero_version =
      elim (row_at j b r at in') [
        | inl none ↦ ap (λ (x : Row). x.lineage) none
        | inr found ↦ absurd (omega (arith, zero_version, found.1))
      ]

  -- ---- looks

  module _ (j : ℕ) (e : Entry) (at : slice_get trace j ≡ Some e) (region : ℕ) (ids : List WriteId) (dry : Bool) (is : e.call ≡ calls.Look region ids dry)
      (s : Store) (start : start_of app e.object ≡ Some (store s)) where
    look_follows : Follows (store s) (entries_on e.object (take j trace)) e
    look_follows = follows_at app trace legal e.object (store s) start j e at refl

    look_ready : can_look s (entries_on e.object (take j trace)) region ids dry ≡ true
    look_ready = ap (λ (c : Call). store_ready s (entries_on e.object (take j trace)) c) (sym is) ∙ look_follows.is_ready

    -- A look is at a replica, and its ids are of its store.
    pub look_region : Contains s.regions region
    look_region = (calls_name_own s (entries_on e.object (take j trace)) (calls.Look region ids dry) (legal_at app trace legal e.object (store s) start j) look_ready).0

    pub look_own : (w : WriteId) → has_id w ids ≡ true → w.store ≡ e.object
    look_own w has =
        All-contains (λ (x : WriteId). x.store ≡ s.number) ids w
        (calls_name_own s (entries_on e.object (take j trace)) (calls.Look region ids dry) (legal_at app trace legal e.object (store s) start j) look_ready).1
        (Contains-from_has_id w ids has)
        ∙ (start_is_of_app app e.object (store s) start).0

    -- It names just those of its ids that are not visible.
    pub look_names : (w : WriteId) → (has_id w (named_missing e.reply) ≡ true) ↔ ((has_id w ids ≡ true) × (is_visible s (entries_on e.object (take j trace)) region w ≡ false))
    look_names w =
        let h : List Entry = entries_on e.object (take j trace) in
        let due : named_missing e.reply ≡ named_missing (store_due s h (calls.Look region ids dry)) =
        ap named_missing (look_follows.reply ∙ ap (λ (c : Call). store_due s h c) is) in
        let right = looks_right s h (legal_at app trace legal e.object (store s) start j) region ids dry w in (
          λ named.
              let both = right.0 (Contains-from_has_id w _ (ap (has_id w) (sym due) ∙ named)) in
              (has_id-from_Contains w ids both.0, both.1),
          λ both. ap (has_id w) due ∙ has_id-from_Contains w _ (right.1 (Contains-from_has_id w ids both.0, both.1)),
        )

  -- what is visible stays visible
  pub visible_stays : (s : Store) (o : ℕ) → start_of app o ≡ Some (store s) → (i k : ℕ) → i ≤ k → (region : ℕ) (w : WriteId)
      → is_visible s (entries_on o (take i trace)) region w ≡ true → is_visible s (entries_on o (take k trace)) region w ≡ true
  visible_stays s o start i k le region w was =
      let cut = history_longer trace o i k le in
      let known = start_is_of_app app o (store s) start in
      let l = legal_at app trace legal o (store s) start k in
      let more : s.shows (entries_on o (take i trace)) region w.key ≤ s.shows (entries_on o (take i trace) ++ cut.0) region w.key =
      known.1.never_falls (entries_on o (take i trace)) cut.0 (subst (IsLegal (store s)) cut.1 l) region w.key in
      let low : w.version ≤ s.shows (entries_on o (take i trace)) region w.key = leb-true w.version _ was in
      ap (λ (h : List Entry). is_visible s h region w) cut.1 ∙ le-leb w.version _ (omega (arith, more, low))

  -- What a look that is not dry looks at is visible from then on, where all of it is written.
  pub looked_visible : (i : ℕ) (e : Entry) → slice_get trace i ≡ Some e → (region : ℕ) (ids : List WriteId) → e.call ≡ calls.Look region ids false
      → (s : Store) → start_of app e.object ≡ Some (store s) → ((v : WriteId) → has_id v ids ≡ true → is_written (entries_on e.object (take i trace)) v ≡ true)
      → (w : WriteId) → has_id w ids ≡ true → (k : ℕ) → i ≤ k → is_visible s (entries_on e.object (take k trace)) region w ≡ true
  looked_visible i e at region ids is s start written w has k le =
      visible_stays s e.object start i k le region w
      (look_misses_none s (entries_on e.object (take i trace)) region ids (look_ready i e at region ids false is s start) written w has)

  -- where a look is, there is a store
  pub look_store : (j : ℕ) (e : Entry) → slice_get trace j ≡ Some e → (region : ℕ) (ids : List WriteId) (dry : Bool) → e.call ≡ calls.Look region ids dry
      → (s : Store) × (start_of app e.object ≡ Some (store s))
  look_store j e at region ids dry is =
      let start = there app trace legal j e at in
      let f = follows_at app trace legal e.object start.0 start.1 j e at refl in
      let can : ready start.0 (entries_on e.object (take j trace)) (calls.Look region ids dry) ≡ true =
      ap (λ (c : Call). ready start.0 (entries_on e.object (take j trace)) c) (sym is) ∙ f.is_ready in
      let found = look_at_store start.0 (entries_on e.object (take j trace)) region ids dry can in
      (found.0, start.1 ∙ ap Some found.1)

  -- The same by the store of the id.
  pub looked_visible_after : (i : ℕ) (e : Entry) → slice_get trace i ≡ Some e → (region : ℕ) (ids : List WriteId) → e.call ≡ calls.Look region ids false
      → ((v : WriteId) → has_id v ids ≡ true → is_written (entries_on v.store (take i trace)) v ≡ true)
      → (w : WriteId) → has_id w ids ≡ true → (k : ℕ) → i ≤ k → is_visible_after app (take k trace) region w ≡ true
  looked_visible_after i e at region ids is written w has k le =
      let found = look_store i e at region ids false is in
      let own : (v : WriteId) → has_id v ids ≡ true → v.store ≡ e.object = look_own i e at region ids false is found.0 found.1 in
      visible_after app (take k trace) region w e.object (own w has) found.0 found.1
      ∙ looked_visible i e at region ids is found.0 found.1
      (λ v in'. subst (λ (o : ℕ). is_written (entries_on o (take i trace)) v ≡ true) (own v in') (written v in')) w has k le

  -- A dry look names just those of its ids that are not visible.
  pub dry_names : (j : ℕ) (e : Entry) → slice_get trace j ≡ Some e → (region : ℕ) (ids : List WriteId) → e.call ≡ calls.Look region ids true
      → (s : Store) → start_of app e.object ≡ Some (store s) → (w : WriteId)
      → (has_id w (named_missing e.reply) ≡ true) ↔ ((has_id w ids ≡ true) × (is_visible s (entries_on e.object (take j trace)) region w ≡ false))
  dry_names j e at region ids is s start w = look_names j e at region ids true is s start w
