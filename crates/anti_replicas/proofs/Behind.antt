-- The backlogs beside a history: how far a region has everything, by its backlog, and what a write and a shipment make of them.
use Rattle.std.proofs.Common.{◌≡◌, ℕ, ◌+◌, ◌*◌, ◌/◌, ◌<◌, ◌≤◌, Bool, true, false, List, [], ◌∷◌, ◌++◌, length, map, get_or, set, replicate, sym, ap, ◌∙◌, ⊎_elim, ◌==◌, true≢false, arith}
use Rattle.std.specs.List.{prefix_len, list_any, range_with_len}
use Rattle.std.proofs.lemmas.Bool.{cases_eq, cases_lt}
use Rattle.std.proofs.lemmas.List.{length_push, length-map, map-set, get_or-map, length-set}
use Rattle.std.proofs.lemmas.List.Sums.{prefix_len_passes, prefix_len_stops}
use Rattle.std.proofs.lemmas.List.Folds.{list_all_at}
use Rattle.std.proofs.lemmas.List.FromFn.{get_or-range_with_len, length-range_with_len}
use Rattle.anti_flight.specs.Queued.{Queued}
use Rattle.anti_kind.specs.declared.entry.Entry.{Entry}
use Rattle.anti_kind.specs.declared.row.Row.{Row}
use Rattle.anti_kind.specs.Stored.{rows, is_whole}
use Rattle.anti_kind.specs.Shipments.{upto_of}
use Rattle.anti_kind.specs.Store.{Store}
use Rattle.anti_kind.specs.Objects.{store, IsLegal}
use Rattle.anti_kind.proofs.Rows.{version_at}
use Rattle.anti_replicas.specs.declared.replicas.Replicas.{Replicas}
use Rattle.anti_replicas.specs.declared.kept_write.KeptWrite.{KeptWrite}
use Rattle.anti_replicas.specs.declared.newest.Newest.{Newest}
use Rattle.anti_replicas.specs.inner.Backlogs.{passed, remove_first, without, places_off, group_whole, wholes, IsBehind, AreBehind, HaveNext}
use Rattle.anti_replicas.specs.inner.Marks.{came, has_all}
use Rattle.anti_replicas.specs.inner.Standing.{AreKept}
use Rattle.anti_replicas.specs.Stores.{At}
use Rattle.anti_replicas.proofs.Masks.{unmarked}
use Rattle.anti_replicas.proofs.Numbers.{prefix_alike}
use Rattle.anti_replicas.proofs.Groups.{groups, groups_length, group_there, group_was, groups_set, groups_same, groups_prefix}
use Rattle.anti_replicas.proofs.Backlogs.{off_set, off_passed, wholes_kept, wholes_same, wholes_prefix}
use Rattle.anti_replicas.proofs.Bringing.{whole_of}

-- How far a region has everything, by the marks.
module _ (s : Store) (h : List Entry) (newest : Newest) (ks : List KeptWrite) (legal : IsLegal (store s) h) (rows_are : map (λ (k : KeptWrite). k.row) ks ≡ rows h) (kept : AreKept s h newest ks) (g : ℕ) (low : g < 8) where
  pub kept_whole : (i : ℕ) (d : KeptWrite) (e : Row) → i < length ks → has_all g (get_or ks i d) ≡ is_whole s.kind h g (get_or (rows h) i e)
  kept_whole i d e short =
      let row : (get_or ks i d).row ≡ get_or (rows h) i e = sym (get_or-map (λ (k : KeptWrite). k.row) ks i d e short) ∙ ap (λ (rs : List Row). get_or rs i e) rows_are in
      let within : i < length (rows h) = omega (arith, length-map ks (λ (k : KeptWrite). k.row), ap (λ (rs : List Row). length rs) rows_are) in
      whole_of s h newest (i + 1) (get_or ks i d) (kept i d short) (ap (λ (r : Row). r.version) row ∙ version_at s h legal i e within) g low
      ∙ ap (is_whole s.kind h g) row

  pub upto_by : prefix_len (has_all g) ks ≡ upto_of s.kind h g
  upto_by =
      prefix_alike (has_all g) (is_whole s.kind h g) ks (rows h) (sym (length-map ks (λ (k : KeptWrite). k.row)) ∙ ap (λ (rs : List Row). length rs) rows_are)
      (λ i d e short. kept_whole i d e short)

-- the versions of the groups that a backlog has passed are whole
pub known_is : (g : ℕ) (ks : List KeptWrite) (backlog : Queued ℕ) → IsBehind g ks backlog → passed backlog.items backlog.next * 8 ≤ prefix_len (has_all g) ks
known_is g ks backlog behind =
    let bs : List Bool = map (has_all g) ks in
    let count : passed backlog.items backlog.next ≡ prefix_len (λ b. b) (wholes g ks backlog.next) =
    ap (λ (items : List ℕ). passed items backlog.next) behind.items
    ∙ ap (passed (places_off 1 (wholes g ks backlog.next))) (sym (groups_length bs backlog.next))
    ∙ off_passed (wholes g ks backlog.next) in
    omega (arith, count, groups_prefix bs backlog.next, wholes_prefix g ks)

pub upto_marks : (m : Replicas) (s : Store) (h : List Entry) → At m s h → (g : ℕ) → g < 8 → prefix_len (has_all g) m.kept.items ≡ upto_of s.kind h g
upto_marks m s h at g low = upto_by s h m.newest m.kept.items at.legal at.state.rows_are at.state.kept_are g low

-- One more that passes, and the first that does not.
module _ (p : KeptWrite → Bool) (ks : List KeptWrite) (i : ℕ) (d : KeptWrite) (here : i < length ks) (up : i ≤ prefix_len p ks) where
  pub reaches_next : p (get_or ks i d) ≡ true → i + 1 ≤ prefix_len p ks
  reaches_next on = ⊎_elim
      (λ (at : i ≡ prefix_len p ks).
      let stops : p (get_or ks (prefix_len p ks) d) ≡ false = prefix_len_stops p ks d (omega (arith, at)) in
      absurd (true≢false (sym on ∙ ap (λ (k : ℕ). p (get_or ks k d)) at ∙ stops)))
      (λ (other : i ≡ prefix_len p ks → ⊥). omega (arith, other))
      (cases_eq i (prefix_len p ks))

  pub stops_here : p (get_or ks i d) ≡ false → i ≡ prefix_len p ks
  stops_here off = ⊎_elim
      (λ (less : i < prefix_len p ks). absurd (true≢false (sym (prefix_len_passes p ks i d less) ∙ off)))
      (λ (more : prefix_len p ks ≤ i). omega arith)
      (cases_lt i (prefix_len p ks))

-- A write.

-- a write that came nowhere yet is whole nowhere
pub fresh_elsewhere : (k : KeptWrite) (g : ℕ) → k.marks ≡ replicate 8 0 → 1 ≤ k.parts → g < 8 → has_all g k ≡ false
fresh_elsewhere k g none some low =
    let one : get_or (range_with_len 1 k.parts) 0 0 ≡ 1 + 0 = get_or-range_with_len 1 k.parts 0 0 (omega arith) in
    list_all_at (came k g) (range_with_len 1 k.parts) 0 0 (omega (arith, length-range_with_len 1 k.parts))
    (ap (came k g) one ∙ unmarked k g 1 none low)

pub behind_kept : (regions : List ℕ) (ks : List KeptWrite) (k : KeptWrite) (backlogs : List (Queued ℕ))
    → ((g : ℕ) → g < 8 → list_any (λ region. region == g) regions ≡ true → has_all g k ≡ false)
    → AreBehind regions ks backlogs → HaveNext regions ks backlogs → AreBehind regions (ks ++ k ∷ []) backlogs
behind_kept regions ks k backlogs fresh were next = record {
  count = were.count;
  behind = λ g d low among.
      let backlog : Queued ℕ = get_or backlogs g d in
      let was : IsBehind g ks backlog = were.behind g d low among in
      record {
        items = was.items ∙ ap (places_off 1) (sym (wholes_kept g ks k backlog.next (fresh g low among)));
        least = omega (arith, next g d among, length_push ks k);
        most = omega (arith, was.most, length_push ks k);
      };
  none = were.none;
}

-- A mark of the write at the index i.
module _ (g i : ℕ) (ks : List KeptWrite) (now d : KeptWrite) (here : i < length ks) (backlog : Queued ℕ) (was : IsBehind g ks backlog) where
  as_many : length (set ks i now) ≡ length ks
  as_many = length-set ks i now

  -- where the region has the version now as it had it before
  pub behind_same : has_all g now ≡ has_all g (get_or ks i d) → IsBehind g (set ks i now) backlog
  behind_same same = record {
    items = was.items ∙ ap (places_off 1) (sym (wholes_same g i ks now d backlog.next here same));
    least = omega (arith, as_many, was.least);
    most = omega (arith, as_many, was.most);
  }

  -- where it is whole now, and was not
  module _ (on : has_all g now ≡ true) (off : has_all g (get_or ks i d) ≡ false) where
    abbrev bs : List Bool
    bs = map (has_all g) ks

    within : i < length bs
    within = omega (arith, here, length-map ks (has_all g))

    was_off : get_or bs i false ≡ false
    was_off = get_or-map (has_all g) ks i d false here ∙ off

    now_on : map (has_all g) (set ks i now) ≡ set bs i true
    now_on = map-set (has_all g) ks i now ∙ ap (set bs i) on

    -- and its group is not
    pub behind_still : group_whole (map (has_all g) (set ks i now)) (i / 8) ≡ false → IsBehind g (set ks i now) backlog
    behind_still short = record {
      items = was.items
          ∙ sym (ap (λ (cs : List Bool). places_off 1 (groups cs backlog.next)) now_on
          ∙ ap (places_off 1) (groups_same i bs within was_off backlog.next (ap (λ (cs : List Bool). group_whole cs (i / 8)) (sym now_on) ∙ short)));
      least = omega (arith, as_many, was.least);
      most = omega (arith, as_many, was.most);
    }

    -- and so is its group
    pub behind_left : group_whole (map (has_all g) (set ks i now)) (i / 8) ≡ true → IsBehind g (set ks i now) (without (i / 8 + 1) backlog)
    behind_left whole =
        let inside : i / 8 < backlog.next = omega (arith, here, was.least) in
        record {
          items =
              ap (remove_first (i / 8 + 1)) was.items
              ∙ ap (λ (v : ℕ). remove_first v (places_off 1 (groups bs backlog.next))) (omega arith)
              ∙ sym (off_set 1 (i / 8) (groups bs backlog.next) (omega (arith, groups_length bs backlog.next, inside))
              (group_there bs backlog.next (i / 8) true inside ∙ group_was i bs within was_off))
              ∙ ap (places_off 1) (sym (groups_set i bs within was_off backlog.next inside (ap (λ (cs : List Bool). group_whole cs (i / 8)) (sym now_on) ∙ whole)))
              ∙ ap (λ (cs : List Bool). places_off 1 (groups cs backlog.next)) (sym now_on);
          least = omega (arith, as_many, was.least);
          most = omega (arith, as_many, was.most);
        }
