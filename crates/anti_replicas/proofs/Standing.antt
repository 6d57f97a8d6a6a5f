-- A base that made one call more stands for the history with that call.
use Rattle.std.proofs.Common.{◌≡◌, ◌≢◌, ℕ, ◌+◌, ◌-◌, ◌*◌, ◌<◌, ◌≤◌, max, min, Bool, true, false, cond, ◌&&◌, List, [], ◌∷◌, ◌++◌, length, map, get_or, set, replicate, All, Option, Some, refl, sym, ap, subst, ◌∙◌, inr, ⊎_elim, ◌==◌, eq-eqb, ne_eqb, leb-true, true≢false, arith}
use Rattle.std.specs.Prelude.{bytes_eq, unwrap_or, ◌^◌}
use Rattle.std.specs.List.{range_with_len, prefix_len}
use Rattle.anti_flight.specs.Queued.{Queued, queued}
use Rattle.std.proofs.lemmas.Bool.{cases_lt, cases_eq, both_ways}
use Rattle.std.proofs.lemmas.List.{map_push, length_push, get_or_append_left, get_or_push, map-set, set-get_or, get_or-set_same, get_or-set_other, length-set}
use Rattle.std.proofs.lemmas.List.Elements.{All-push, All-weaker}
use Rattle.std.proofs.lemmas.List.Folds.{list_all_at}
use Rattle.std.proofs.lemmas.List.Sums.{prefix_len_passes}
use Rattle.std.proofs.lemmas.List.FromFn.{get_or-range_with_len, length-range_with_len}
use Rattle.std.proofs.lemmas.Option.{slice_get-get_or}
use Rattle.anti_ids.specs.declared.limits.TheConstants.{MOST_UNITS}
use Rattle.anti_ids.specs.declared.id.WriteId.{WriteId}
use Rattle.anti_kind.specs.Kinds.{facts_of}
use Rattle.anti_kind.specs.declared.call.Call.{Call}
use Rattle.anti_kind.specs.declared.call.Call.TheVariants.{Write, Ship}
use Rattle.anti_kind.specs.declared.call.Reply.{Reply}
use Rattle.anti_kind.specs.declared.call.Reply.TheVariants.{Written}
use Rattle.anti_kind.specs.declared.entry.Entry.{Entry}
use Rattle.anti_kind.specs.declared.row.Row.{Row}
use Rattle.anti_kind.specs.declared.store_kind.StoreKind.{StoreKind}
use Rattle.anti_kind.specs.Stored.{rows, is_shipped, parts_of, is_whole, greatest, shows_of}
use Rattle.anti_kind.specs.Store.{Store, is_replica, has_part, absent, key_for, store_due, store_need, owed_shipments, outs, told_over}
use Rattle.anti_kind.specs.Objects.{store, Follows, IsLegal, weight, held}
use Rattle.anti_kind.proofs.Histories.{held_more, legal_more}
use Rattle.anti_kind.proofs.Bounds.{held_within}
use Rattle.anti_kind.proofs.Overs.{fitting, greatest_push}
use Rattle.anti_kind.proofs.Rows.{rows_held, is_write, is_shipping, new_row, rows_write, rows_other, shipped_other, shipped_ship, version_at}
use Rattle.anti_kind.proofs.Shipped.{IsReadyShipment, ready_ship, ready_shipment}
use Rattle.anti_kind.proofs.Units.{owed_write, owed_ship, owed_other, ship_owed}
use Rattle.anti_replicas.specs.declared.replicas.Replicas.{Replicas}
use Rattle.anti_replicas.specs.declared.kept_write.KeptWrite.{KeptWrite}
use Rattle.anti_replicas.specs.declared.newest.Newest.{Newest}
use Rattle.anti_replicas.specs.inner.Backlogs.{without, group_whole, IsBehind, AreBehind, AreBelow}
use Rattle.anti_replicas.specs.inner.Marks.{came, has_all, marked}
use Rattle.anti_replicas.specs.inner.Newest.{key_number, newest_at, AreNumbered, MakesPlace}
use Rattle.anti_replicas.specs.inner.Standing.{IsKept, AreKept, HasFew, Stands, its_number, Keeps, BringsIf, Marks, Shippable, Writable, LeavesIf, CanReach, ReachesIf, group_at}
use Rattle.anti_replicas.specs.Stores.{At, MayShip, MayWrite, IsOther, IsPassing}
use Rattle.anti_replicas.proofs.Masks.{unmarked, mark_same, mark_part, mark_region}
use Rattle.anti_replicas.proofs.Numbers.{all_numbers, prefix_push, prefix_set_same, prefix_set_behind, prefix_set_first}
use Rattle.anti_replicas.proofs.Places.{and_true, and_false, or_true, max_zero, brought_numbers, brought_numbered, brought}
use Rattle.anti_replicas.proofs.Reading.{row_is, count_is, row_there}
use Rattle.anti_replicas.proofs.Behind.{known_is, fresh_elsewhere, behind_kept, behind_same, behind_still, behind_left}
use Rattle.anti_replicas.proofs.Bringing.{no_kept, part_of_some, replica_below, whole_of, its_part, no_version}
use Rattle.anti_replicas.proofs.Shows.{shows_write, shows_ship, shows_other, elsewhere, of_another, another_part}

-- What is kept of a write stays, where nothing of its version is shipped and no key loses its place.
kept_later : (s : Store) (h k : List Entry) (old new : Newest) (v : ℕ) (x : KeptWrite) → ((g p : ℕ) → is_shipped k g v p ≡ is_shipped h g v p)
    → ((key : List ℕ) (i : ℕ) → key_number old key ≡ Some i → key_number new key ≡ Some i) → IsKept s h old v x → IsKept s k new v x
kept_later s h k old new v x same numbers kept = record {
  marks = λ g p low first last. kept.marks g p low first last ∙ sym (same g p);
  size = kept.size;
  parts = kept.parts;
  some = kept.some;
  few = kept.few;
  number = numbers x.row.key x.number kept.number;
}

-- what an entry weighs, from the reply that it is due
weighs_due : (s : Store) (h : List Entry) (e : Entry) (c : Call) → Follows (store s) h e → e.call ≡ c → weight (store_due s h c) ≡ 1 → held (h ++ e ∷ []) ≡ held h + 1
weighs_due s h e c f is one =
    let due : e.reply ≡ store_due s h c = f.reply ∙ ap (λ (x : Call). store_due s h x) is in
    let weighs : weight e.reply ≡ 1 = ap weight due ∙ one in
    omega (arith, held_more h e)

-- A write.

-- the greatest of two versions, whichever is told first
either : (b : Bool) (v g : ℕ) → max (cond b v 0) g ≡ max g (cond (b && true) v 0)
either true v g = omega arith
either false v g = omega arith

module _ (m n : Replicas) (s : Store) (h : List Entry) (e : Entry) (name key value : List ℕ) (lineage : List WriteId) (told : Option (List WriteId)) (v w : ℕ)
    (at : At m s h) (f : Follows (store s) h e) (is : e.call ≡ Write name value lineage) (given : e.reply ≡ Written key w told) (v_is : v ≡ length m.kept.items + 1)
    (keeps : Keeps m n (record { key = key; version = v; value = value; lineage = unwrap_or told lineage })) where
  abbrev the_row : Row
  the_row = record { key = key; version = v; value = value; lineage = unwrap_or told lineage }

  abbrev one_kept : KeptWrite
  one_kept = record { row = the_row; marks = replicate 8 0; parts = parts_of m.kind value; number = its_number keeps.placed key }

  row_now : the_row ≡ new_row s h name value lineage
  row_now =
      let due : Written key w told ≡ Written (key_for s.kind h name) (length (rows h) + 1) (told_over s h name lineage) = sym given ∙ f.reply ∙ ap (λ (c : Call). store_due s h c) is in
      let key_is : key ≡ key_for s.kind h name = cc in
      let told_is : told ≡ told_over s h name lineage = cc in
      let number : v ≡ length (rows h) + 1 = omega (arith, count_is m s h at.state) in
      ap (λ (x : ℕ). let r : Row = record { key = key; version = x; value = value; lineage = unwrap_or told lineage } in r) number
      ∙ ap (λ (x : List ℕ). let r : Row = record { key = x; version = length (rows h) + 1; value = value; lineage = unwrap_or told lineage } in r) key_is
      ∙ ap (λ (x : Option (List WriteId)). let r : Row = record { key = key_for s.kind h name; version = length (rows h) + 1; value = value; lineage = unwrap_or x lineage } in r) told_is

  rows_now : rows (h ++ e ∷ []) ≡ rows h ++ the_row ∷ []
  rows_now = rows_write s h e name value lineage f is ∙ ap (λ (r : Row). rows h ++ r ∷ []) (sym row_now)

  wrote_rows : map (λ (k : KeptWrite). k.row) n.kept.items ≡ rows (h ++ e ∷ [])
  wrote_rows =
      ap (map (λ (k : KeptWrite). k.row)) keeps.kept_is ∙ map_push (λ (k : KeptWrite). k.row) m.kept.items one_kept
      ∙ ap (λ (rs : List Row). rs ++ the_row ∷ []) at.state.rows_are
      ∙ sym rows_now

  -- the versions of the keys now: the write is the last of its key, and no region shows it

  versions_now : (g : ℕ) (k : List ℕ) → newest_at n.newest g k ≡ max (cond ((8 == g) && bytes_eq key k) v 0) (newest_at m.newest g k)
  versions_now g k =
      brought keeps.placed n.newest 8 (its_number keeps.placed key) v keeps.brings keeps.makes.numbered key keeps.number g k
      ∙ ap (λ (x : ℕ). max (cond ((8 == g) && bytes_eq key k) v 0) x) (keeps.makes.same g k)

  wrote_shows : (g : ℕ) (k : List ℕ) → g < 8 → newest_at n.newest g k ≡ shows_of s.kind (h ++ e ∷ []) g k
  wrote_shows g k low =
      let off : (8 == g) ≡ false = ne_eqb 8 g (λ same. omega (arith, same)) in
      versions_now g k
      ∙ ap (λ (b : Bool). max (cond (b && bytes_eq key k) v 0) (newest_at m.newest g k)) off
      ∙ sym (max_zero (newest_at m.newest g k))
      ∙ at.state.shows g k low ∙ sym (shows_write s h e at.legal f g name value lineage is k)

  wrote_last : (k : List ℕ) → newest_at n.newest 8 k ≡ greatest (λ r. true) k (rows (h ++ e ∷ []))
  wrote_last k =
      versions_now 8 k
      ∙ ap (λ (x : ℕ). max (cond (bytes_eq key k) v 0) x) (at.state.last_is k)
      ∙ either (bytes_eq key k) v (greatest (λ r. true) k (rows h))
      ∙ sym (ap (greatest (λ r. true) k) rows_now ∙ greatest_push (λ r. true) k (rows h) the_row)

  -- and no write has more ids beside it than were counted
  wrote_longest : All (HasFew n.longest) (rows (h ++ e ∷ []))
  wrote_longest =
      subst (All (HasFew n.longest)) (sym rows_now)
      (All-push (HasFew n.longest) (rows h) the_row
      (All-weaker (HasFew m.longest) (HasFew n.longest) (λ r few. omega (arith, few, keeps.longest_is)) (rows h) at.state.longest_is)
      (omega (arith, keeps.longest_is)))

  numbers_kept : (k : List ℕ) (i : ℕ) → key_number m.newest k ≡ Some i → key_number n.newest k ≡ Some i
  numbers_kept k i number = brought_numbers keeps.placed n.newest 8 (its_number keeps.placed key) v keeps.brings k i (keeps.makes.numbers k i number)

  stays : (g w p : ℕ) → is_shipped (h ++ e ∷ []) g w p ≡ is_shipped h g w p
  stays g w p = shipped_other h e g w p (ap is_shipping is)

  new_marks : (g p : ℕ) → g < 8 → 1 ≤ p → p ≤ 4 → came one_kept g p ≡ is_shipped (h ++ e ∷ []) g (length m.kept.items + 1) p
  new_marks g p low first last =
      unmarked one_kept g p refl low
      ∙ sym (stays g (length m.kept.items + 1) p ∙ no_version m s h at g (length m.kept.items + 1) p (inr (omega arith)))

  new_kept : IsKept s (h ++ e ∷ []) n.newest (length m.kept.items + 1) one_kept
  new_kept = record {
    marks = new_marks;
    size = refl;
    parts = ap (λ (kind : StoreKind). parts_of kind value) at.state.kind_is;
    some = keeps.some;
    few = keeps.few;
    number = brought_numbers keeps.placed n.newest 8 (its_number keeps.placed key) v keeps.brings key (its_number keeps.placed key) keeps.number;
  }

  wrote_kept : AreKept s (h ++ e ∷ []) n.newest (m.kept.items ++ one_kept ∷ [])
  wrote_kept i d short =
      ⊎_elim (λ (before : i < length m.kept.items).
      subst (IsKept s (h ++ e ∷ []) n.newest (i + 1)) (sym (get_or_append_left m.kept.items (one_kept ∷ []) d i before))
      (kept_later s h (h ++ e ∷ []) m.newest n.newest (i + 1) (get_or m.kept.items i d) (λ g p. stays g (i + 1) p) numbers_kept (at.state.kept_are i d before)))
      (λ (last : length m.kept.items ≤ i).
      let here : length m.kept.items ≡ i = omega (arith, length_push m.kept.items one_kept) in
      subst (IsKept s (h ++ e ∷ []) n.newest (i + 1)) (sym (get_or_push m.kept.items one_kept d i here))
      (subst (λ (x : ℕ). IsKept s (h ++ e ∷ []) n.newest (x + 1) one_kept) here new_kept))
      (cases_lt i (length m.kept.items))

  wrote_owed : n.owed ≡ owed_shipments s (h ++ e ∷ [])
  wrote_owed =
      keeps.owed_is
      ∙ ap (λ (x : ℕ). x + m.replicas * parts_of m.kind value) at.state.owed_is
      ∙ ap (λ (x : ℕ). owed_shipments s h + x * parts_of m.kind value) at.state.replicas_are
      ∙ ap (λ (kind : StoreKind). owed_shipments s h + length s.regions * parts_of kind value) at.state.kind_is
      ∙ sym (owed_write s h e name value lineage at.legal f is)

  wrote_behind : AreBehind s.regions n.kept.items n.backlogs.items
  wrote_behind =
      subst (λ (regions : List ℕ). AreBehind regions n.kept.items n.backlogs.items) at.state.regions_are
      (subst (λ (ks : List KeptWrite). AreBehind m.regions.items ks n.backlogs.items) (sym keeps.kept_is)
      (behind_kept m.regions.items m.kept.items one_kept n.backlogs.items (λ g low among. fresh_elsewhere one_kept g refl keeps.some low)
      keeps.behind keeps.have_next))

  wrote_upto : (g : ℕ) → g < 8 → get_or n.upto g 0 ≡ prefix_len (has_all g) n.kept.items
  wrote_upto g low =
      ap (λ (us : List ℕ). get_or us g 0) keeps.upto_is ∙ at.state.upto_is g low
      ∙ sym (ap (prefix_len (has_all g)) keeps.kept_is ∙ prefix_push (has_all g) m.kept.items one_kept (fresh_elsewhere one_kept g refl keeps.some low))

  pub stands_write : Stands n s (h ++ e ∷ [])
  stands_write = record {
    kind_is = keeps.kind_is ∙ at.state.kind_is;
    number_is = keeps.store_is ∙ at.state.number_is;
    regions_are = ap (λ (v : _). v.items) keeps.regions_are ∙ at.state.regions_are;
    replicas_are = keeps.replicas_are ∙ at.state.replicas_are;
    rows_are = wrote_rows;
    kept_are = subst (AreKept s (h ++ e ∷ []) n.newest) (sym keeps.kept_is) wrote_kept;
    behind = wrote_behind;
    uptos = ap (λ (us : List ℕ). length us) keeps.upto_is ∙ at.state.uptos;
    upto_is = wrote_upto;
    numbered = brought_numbered keeps.placed n.newest 8 (its_number keeps.placed key) v keeps.brings keeps.makes.numbered;
    shows = wrote_shows;
    last_is = wrote_last;
    longest_is = wrote_longest;
    held_is = omega (arith, keeps.held_is, at.state.held_is, weighs_due s h e (Write name value lineage) f is refl);
    owed_is = wrote_owed;
  }

-- A shipment.

numbers_if : (b : Bool) (m n : Newest) (g number v : ℕ) → BringsIf b m n g number v → (k : List ℕ) (i : ℕ) → key_number m k ≡ Some i → key_number n k ≡ Some i
numbers_if true m n g number v brings k i is = brought_numbers m n g number v brings k i is
numbers_if false m n g number v brings k i is = subst (λ (x : Newest). key_number x k ≡ Some i) (sym brings) is

numbered_if : (b : Bool) (m n : Newest) (g number v : ℕ) → BringsIf b m n g number v → AreNumbered m → AreNumbered n
numbered_if true m n g number v brings numbered = brought_numbered m n g number v brings numbered
numbered_if false m n g number v brings numbered = subst AreNumbered (sym brings) numbered

now_if : (b : Bool) (m n : Newest) (region number v : ℕ) (key : List ℕ) → BringsIf b m n region number v → AreNumbered m → key_number m key ≡ Some number
    → (g : ℕ) (k : List ℕ) → newest_at n g k ≡ max (cond ((region == g) && (bytes_eq key k && b)) v 0) (newest_at m g k)
now_if true m n region number v key brings numbered its g k =
    brought m n region number v brings numbered key its g k ∙ ap (λ (b : Bool). max (cond ((region == g) && b) v 0) (newest_at m g k)) (sym (and_true (bytes_eq key k)))
now_if false m n region number v key brings numbered its g k =
    ap (λ (x : Newest). newest_at x g k) brings ∙ max_zero (newest_at m g k)
    ∙ ap (λ (b : Bool). max (cond b v 0) (newest_at m g k)) (sym (ap (λ (b : Bool). (region == g) && b) (and_false (bytes_eq key k)) ∙ and_false (region == g)))

module _ (m n : Replicas) (s : Store) (h : List Entry) (e : Entry) (region version part : ℕ) (at : At m s h) (f : Follows (store s) h e) (is : e.call ≡ Ship region version part) (marks : Marks m n region version part) where
  ready_part : IsReadyShipment s h region version part
  ready_part = ready_ship s h e region version part f is

  low : region < 8
  low = replica_below m s h at region ready_part.shipment.replica

  there : (1 ≤ version) × (version ≤ length m.kept.items) × (1 ≤ part) × (part ≤ 4)
  there = its_part m s h at version part ready_part.shipment.part

  here : version - 1 < length m.kept.items
  here = omega (arith, there.0, there.1)

  legal : IsLegal (store s) (h ++ e ∷ [])
  legal = legal_more (store s) h e at.legal f

  abbrev was : KeptWrite → KeptWrite
  was d = get_or m.kept.items (version - 1) d

  abbrev new_one : KeptWrite
  new_one = marked region part (was no_kept)

  shipped_rows : map (λ (k : KeptWrite). k.row) n.kept.items ≡ rows (h ++ e ∷ [])
  shipped_rows =
      ap (map (λ (k : KeptWrite). k.row)) (marks.kept_is no_kept)
      ∙ map-set (λ (k : KeptWrite). k.row) m.kept.items (version - 1) new_one
      ∙ sym (map-set (λ (k : KeptWrite). k.row) m.kept.items (version - 1) (was no_kept))
      ∙ ap (map (λ (k : KeptWrite). k.row)) (set-get_or m.kept.items (version - 1) no_kept)
      ∙ at.state.rows_are ∙ sym (rows_other h e (ap is_write is))

  was_kept : IsKept s h m.newest version (was no_kept)
  was_kept = subst (λ (v : ℕ). IsKept s h m.newest v (was no_kept)) (omega (arith, there.0)) (at.state.kept_are (version - 1) no_kept here)

  now_shipped : is_shipped (h ++ e ∷ []) region version part ≡ true
  now_shipped =
      let a : (region == region) ≡ true = eq-eqb region region refl in
      let b : (version == version) ≡ true = eq-eqb version version refl in
      let c : (part == part) ≡ true = eq-eqb part part refl in
      shipped_ship h e region version part region version part is ∙ rw (a, b, c) (or_true (is_shipped h region version part))

  mark_here : (g p : ℕ) → g < 8 → 1 ≤ p → p ≤ 4 → came new_one g p ≡ is_shipped (h ++ e ∷ []) g version p
  mark_here g p low' first last =
      ⊎_elim (λ (same : region ≡ g).
      ap (λ (x : ℕ). came new_one x p) (sym same) ∙ part_here p first last ∙ ap (λ (x : ℕ). is_shipped (h ++ e ∷ []) x version p) same)
      (λ (other : region ≡ g → ⊥).
      mark_region (was no_kept) region part there.2 there.3 g p (λ same. other (sym same))
      ∙ was_kept.marks g p low' first last ∙ sym (elsewhere s h e at.legal f g region version part is other version p))
      (cases_eq region g)
    where
      within : region < length (was no_kept).marks
      within = omega (arith, low, was_kept.size)

      part_here : (p : ℕ) → 1 ≤ p → p ≤ 4 → came new_one region p ≡ is_shipped (h ++ e ∷ []) region version p
      part_here p first last =
          ⊎_elim (λ (same : p ≡ part).
          ap (came new_one region) same ∙ mark_same (was no_kept) region part there.2 there.3 within
          ∙ sym (ap (is_shipped (h ++ e ∷ []) region version) same ∙ now_shipped))
          (λ (other : p ≢ part).
          mark_part (was no_kept) region part there.2 there.3 p within first other
          ∙ was_kept.marks region p low first last ∙ sym (another_part s h e at.legal f region region version part is version p (λ same. other (sym same))))
          (cases_eq p part)

  abbrev full : Bool
  full = has_all region new_one

  brings : BringsIf full m.newest n.newest region (was no_kept).number version
  brings = marks.brings no_kept

  numbers : (k : List ℕ) (i : ℕ) → key_number m.newest k ≡ Some i → key_number n.newest k ≡ Some i
  numbers = numbers_if full m.newest n.newest region (was no_kept).number version brings

  one_kept' : IsKept s (h ++ e ∷ []) n.newest version new_one
  one_kept' = record {
    marks = mark_here;
    size = length-set (was no_kept).marks region _ ∙ was_kept.size;
    parts = was_kept.parts;
    some = was_kept.some;
    few = was_kept.few;
    number = numbers (was no_kept).row.key (was no_kept).number was_kept.number;
  }

  shipped_kept : AreKept s (h ++ e ∷ []) n.newest (set m.kept.items (version - 1) new_one)
  shipped_kept i d short =
      ⊎_elim (λ (same : i ≡ version - 1).
      let is' : get_or (set m.kept.items (version - 1) new_one) i d ≡ new_one =
      ap (λ (x : ℕ). get_or (set m.kept.items (version - 1) new_one) x d) same ∙ get_or-set_same m.kept.items (version - 1) new_one d here in
      subst (IsKept s (h ++ e ∷ []) n.newest (i + 1)) (sym is')
      (subst (λ (v : ℕ). IsKept s (h ++ e ∷ []) n.newest v new_one) (omega (arith, there.0)) one_kept'))
      (λ (other : i ≢ version - 1).
      let within : i < length m.kept.items = omega (arith, length-set m.kept.items (version - 1) new_one) in
      subst (IsKept s (h ++ e ∷ []) n.newest (i + 1)) (sym (get_or-set_other m.kept.items (version - 1) i new_one d other))
      (kept_later s h (h ++ e ∷ []) m.newest n.newest (i + 1) (get_or m.kept.items i d)
      (λ g p. of_another s h e at.legal f g region version part is (i + 1) p (λ eq. other (omega (arith, eq))))
      numbers (at.state.kept_are i d within)))
      (cases_eq i (version - 1))

  kept_now : AreKept s (h ++ e ∷ []) n.newest n.kept.items
  kept_now = subst (AreKept s (h ++ e ∷ []) n.newest) (sym (marks.kept_is no_kept)) shipped_kept

  -- The region did not have the version yet, and other regions have of it what they had.

  was_short : has_all region (was no_kept) ≡ false
  was_short =
      let k : KeptWrite = was no_kept in
      let row = part_of_some s.kind k.row part (ap (λ (o : Option Row). has_part s.kind o part) (sym (row_there m s h at version k there.0 (slice_get-get_or m.kept.items (version - 1) no_kept here))) ∙ ready_part.shipment.part) in
      let last : part ≤ k.parts = omega (arith, row.1, was_kept.parts) in
      let at_part : get_or (range_with_len 1 k.parts) (part - 1) 0 ≡ 1 + (part - 1) = get_or-range_with_len 1 k.parts (part - 1) 0 (omega (arith, last, there.2)) in
      let it : 1 + (part - 1) ≡ part = omega (arith, there.2) in
      list_all_at (came k region) (range_with_len 1 k.parts) (part - 1) 0 (omega (arith, last, there.2, length-range_with_len 1 k.parts))
      (ap (came k region) (at_part ∙ it) ∙ was_kept.marks region part low there.2 there.3 ∙ ready_part.new)

  alike : (g : ℕ) → (region ≡ g → ⊥) → has_all g new_one ≡ has_all g (was no_kept)
  alike g other =
      let k : KeptWrite = was no_kept in
      all_numbers (came new_one g) (came k g) k.parts (λ p first last.
      mark_region k region part there.2 there.3 g p (λ same. other (sym same)))

  abbrev backlog : Queued ℕ → Queued ℕ
  backlog d = get_or m.backlogs.items region d

  was_behind : (d : Queued ℕ) → IsBehind region m.kept.items (backlog d)
  was_behind d = at.state.behind.behind region d low ready_part.shipment.replica

  region_within : region < length m.backlogs.items
  region_within = omega (arith, low, at.state.behind.count)

  abbrev now_kept : List KeptWrite
  now_kept = set m.kept.items (version - 1) new_one

  abbrev group_full : Bool
  group_full = group_whole (map (has_all region) now_kept) (group_at version)

  -- the backlog of the region, by whether it has the version, and its group, now
  left_by : (b c : Bool) → full ≡ b → group_full ≡ c → LeavesIf (b && c) m.backlogs.items n.backlogs.items region (group_at version) → (d : Queued ℕ)
      → (get_or n.backlogs.items region d ≡ cond (b && c) (without (group_at version + 1) (backlog d)) (backlog d))
      × IsBehind region now_kept (cond (b && c) (without (group_at version + 1) (backlog d)) (backlog d))
  left_by true true on whole leaves d = (
    ap (λ (bs : List (Queued ℕ)). get_or bs region d) (leaves d) ∙ get_or-set_same m.backlogs.items region (without (group_at version + 1) (backlog d)) d region_within,
    behind_left region (version - 1) m.kept.items new_one no_kept here (backlog d) (was_behind d) on was_short whole,
  )
  left_by true false on off leaves d = (
    ap (λ (bs : List (Queued ℕ)). get_or bs region d) leaves,
    behind_still region (version - 1) m.kept.items new_one no_kept here (backlog d) (was_behind d) on was_short off,
  )
  left_by false c off whole leaves d = (
    ap (λ (bs : List (Queued ℕ)). get_or bs region d) leaves,
    behind_same region (version - 1) m.kept.items new_one no_kept here (backlog d) (was_behind d) (off ∙ sym was_short),
  )

  others_by : (b : Bool) → LeavesIf b m.backlogs.items n.backlogs.items region (group_at version) → (g : ℕ) (d : Queued ℕ) → (region ≡ g → ⊥) → get_or n.backlogs.items g d ≡ get_or m.backlogs.items g d
  others_by true leaves g d other =
      ap (λ (bs : List (Queued ℕ)). get_or bs g d) (leaves d)
      ∙ get_or-set_other m.backlogs.items region g (without (group_at version + 1) (backlog d)) d (λ same. other (sym same))
  others_by false leaves g d other = ap (λ (bs : List (Queued ℕ)). get_or bs g d) leaves

  count_by : (b : Bool) → LeavesIf b m.backlogs.items n.backlogs.items region (group_at version) → length n.backlogs.items ≡ length m.backlogs.items
  count_by true leaves =
      let d : Queued ℕ = queued [] 0 in
      ap (λ (bs : List (Queued ℕ)). length bs) (leaves d) ∙ length-set m.backlogs.items region (without (group_at version + 1) (backlog d))
  count_by false leaves = ap (λ (bs : List (Queued ℕ)). length bs) leaves

  leaves : LeavesIf (full && group_full) m.backlogs.items n.backlogs.items region (group_at version)
  leaves = subst (λ (ks : List KeptWrite). LeavesIf (full && group_whole (map (has_all region) ks) (group_at version)) m.backlogs.items n.backlogs.items region (group_at version)) (marks.kept_is no_kept) (marks.leaves no_kept)

  -- the backlogs of the regions now
  behind_now : (g : ℕ) (d : Queued ℕ) → g < 8 → is_replica s g ≡ true → IsBehind g (set m.kept.items (version - 1) new_one) (get_or n.backlogs.items g d)
  behind_now g d low' replica =
      ⊎_elim (λ (same : region ≡ g).
      let at_region = left_by full group_full refl refl leaves d in
      subst (λ (x : ℕ). IsBehind x (set m.kept.items (version - 1) new_one) (get_or n.backlogs.items x d)) same
      (subst (IsBehind region (set m.kept.items (version - 1) new_one)) (sym at_region.0) at_region.1))
      (λ (other : region ≡ g → ⊥).
      subst (IsBehind g (set m.kept.items (version - 1) new_one)) (sym (others_by (full && group_full) leaves g d other))
      (behind_same g (version - 1) m.kept.items new_one no_kept here (get_or m.backlogs.items g d) (at.state.behind.behind g d low' replica) (alike g other)))
      (cases_eq region g)

  shipped_behind : AreBehind s.regions n.kept.items n.backlogs.items
  shipped_behind = subst (λ (ks : List KeptWrite). AreBehind s.regions ks n.backlogs.items) (sym (marks.kept_is no_kept)) (record {
    count = count_by (full && group_full) leaves ∙ at.state.behind.count;
    behind = behind_now;
    none = λ g d below off.
        let other : region ≡ g → ⊥ = λ same. both_ways (is_replica s g) off (ap (is_replica s) (sym same) ∙ ready_part.shipment.replica) in
        others_by (full && group_full) leaves g d other ∙ at.state.behind.none g d below off;
  })

  -- how far the region has everything, where it has the version now
  can_reach : full ≡ true → (d : Queued ℕ) → CanReach (get_or m.upto region 0) n.kept.items (get_or n.backlogs.items region d) region version
  can_reach on d = record {
    next = λ first.
        let at' : version - 1 ≡ prefix_len (has_all region) m.kept.items = omega (arith, first, at.state.upto_is region low) in
        omega (arith, there.0, ap (prefix_len (has_all region)) (marks.kept_is no_kept), prefix_set_first (has_all region) m.kept.items (version - 1) new_one here at' on);
    same = λ other.
        let behind : prefix_len (has_all region) m.kept.items < version - 1 = ⊎_elim
        (λ (less : version - 1 < prefix_len (has_all region) m.kept.items).
        absurd (true≢false (sym (prefix_len_passes (has_all region) m.kept.items (version - 1) no_kept less) ∙ was_short)))
        (λ (more : prefix_len (has_all region) m.kept.items ≤ version - 1). let apart : version - 1 ≢ prefix_len (has_all region) m.kept.items = λ at'. other (omega (arith, at', at.state.upto_is region low, there.0)) in omega (arith, apart))
        (cases_lt (version - 1) (prefix_len (has_all region) m.kept.items)) in
        at.state.upto_is region low
        ∙ sym (ap (prefix_len (has_all region)) (marks.kept_is no_kept) ∙ prefix_set_behind (has_all region) m.kept.items (version - 1) new_one behind);
    groups = known_is region n.kept.items (get_or n.backlogs.items region d) (shipped_behind.behind region d low ready_part.shipment.replica);
  }

  -- other regions have as much as before
  upto_stays : (g : ℕ) → g < 8 → has_all g new_one ≡ has_all g (was no_kept) → get_or m.upto g 0 ≡ prefix_len (has_all g) n.kept.items
  upto_stays g low' same =
      at.state.upto_is g low'
      ∙ sym (ap (prefix_len (has_all g)) (marks.kept_is no_kept) ∙ prefix_set_same (has_all g) m.kept.items (version - 1) new_one no_kept here same)

  upto_by_whole : (b : Bool) → full ≡ b → ReachesIf b m.upto n.upto n.kept.items n.backlogs.items region version → (g : ℕ) → g < 8 → get_or n.upto g 0 ≡ prefix_len (has_all g) n.kept.items
  upto_by_whole true on reaches g low' =
      let now : n.upto ≡ set m.upto region (prefix_len (has_all region) n.kept.items) = reaches (queued [] 0) (can_reach on (queued [] 0)) in
      ap (λ (us : List ℕ). get_or us g 0) now
      ∙ ⊎_elim (λ (same : g ≡ region).
      ap (λ (x : ℕ). get_or (set m.upto region (prefix_len (has_all region) n.kept.items)) x 0) same
      ∙ get_or-set_same m.upto region (prefix_len (has_all region) n.kept.items) 0 (omega (arith, low, at.state.uptos))
      ∙ ap (λ (x : ℕ). prefix_len (has_all x) n.kept.items) (sym same))
      (λ (other : g ≢ region).
      get_or-set_other m.upto region g (prefix_len (has_all region) n.kept.items) 0 other ∙ upto_stays g low' (alike g (λ same. other (sym same))))
      (cases_eq g region)
  upto_by_whole false off same g low' =
      ap (λ (us : List ℕ). get_or us g 0) same
      ∙ upto_stays g low' (⊎_elim (λ (here' : region ≡ g). ap (λ (x : ℕ). has_all x new_one) (sym here') ∙ off ∙ sym (ap (λ (x : ℕ). has_all x (was no_kept)) (sym here') ∙ was_short))
      (λ (other : region ≡ g → ⊥). alike g other)
      (cases_eq region g))

  uptos_by_whole : (b : Bool) → full ≡ b → ReachesIf b m.upto n.upto n.kept.items n.backlogs.items region version → length n.upto ≡ 8
  uptos_by_whole true on reaches =
      ap (λ (us : List ℕ). length us) (reaches (queued [] 0) (can_reach on (queued [] 0)))
      ∙ length-set m.upto region (prefix_len (has_all region) n.kept.items) ∙ at.state.uptos
  uptos_by_whole false off same = ap (λ (us : List ℕ). length us) same ∙ at.state.uptos

  -- the version now stands beside its key, if it is whole
  shipped_shows : (g : ℕ) (k : List ℕ) → g < 8 → newest_at n.newest g k ≡ shows_of s.kind (h ++ e ∷ []) g k
  shipped_shows g k low' =
      let short : version - 1 < length (rows h) = omega (arith, here, count_is m s h at.state) in
      let place : version ≡ version - 1 + 1 = omega (arith, there.0) in
      let row : get_or (rows h) (version - 1) (absent []) ≡ (was no_kept).row = row_is m s h at.state (version - 1) no_kept (absent []) here in
      let number : (was no_kept).row.version ≡ version = ap (λ (r : Row). r.version) (sym row) ∙ version_at s h at.legal (version - 1) (absent []) short ∙ sym place in
      now_if full m.newest n.newest region (was no_kept).number version (was no_kept).row.key brings at.state.numbered was_kept.number g k
      ∙ ap (λ (v : ℕ). max (cond ((region == g) && (bytes_eq (was no_kept).row.key k && full)) version 0) v) (at.state.shows g k low')
      ∙ ap (λ (b : Bool). max (cond ((region == g) && (bytes_eq (was no_kept).row.key k && b)) version 0) (shows_of s.kind h g k))
      (whole_of s (h ++ e ∷ []) n.newest version new_one one_kept' number region low)
      ∙ ap (λ (r : Row). max (cond ((region == g) && (bytes_eq r.key k && is_whole s.kind (h ++ e ∷ []) region r)) version 0) (shows_of s.kind h g k)) (sym row)
      ∙ sym (shows_ship s h e at.legal f g region version part is (version - 1) (absent []) place short k)

  -- a shipment writes nothing
  shipped_last : (k : List ℕ) → newest_at n.newest 8 k ≡ greatest (λ r. true) k (rows (h ++ e ∷ []))
  shipped_last k =
      let off : (region == 8) ≡ false = ne_eqb region 8 (λ same. omega (arith, same, low)) in
      now_if full m.newest n.newest region (was no_kept).number version (was no_kept).row.key brings at.state.numbered was_kept.number 8 k
      ∙ ap (λ (b : Bool). max (cond (b && (bytes_eq (was no_kept).row.key k && full)) version 0) (newest_at m.newest 8 k)) off
      ∙ sym (max_zero (newest_at m.newest 8 k))
      ∙ at.state.last_is k ∙ sym (ap (greatest (λ r. true) k) (rows_other h e (ap is_write is)))

  pub stands_ship : Stands n s (h ++ e ∷ [])
  stands_ship = record {
    kind_is = marks.kind_is ∙ at.state.kind_is;
    number_is = marks.store_is ∙ at.state.number_is;
    regions_are = ap (λ (v : _). v.items) marks.regions_are ∙ at.state.regions_are;
    replicas_are = marks.replicas_are ∙ at.state.replicas_are;
    rows_are = shipped_rows;
    kept_are = kept_now;
    behind = shipped_behind;
    uptos = uptos_by_whole full refl (marks.reaches no_kept);
    upto_is = upto_by_whole full refl (marks.reaches no_kept);
    numbered = numbered_if full m.newest n.newest region (was no_kept).number version brings at.state.numbered;
    shows = shipped_shows;
    last_is = shipped_last;
    longest_is =
        subst (λ (n : ℕ). All (HasFew n) (rows (h ++ e ∷ []))) (sym marks.longest_is)
        (subst (All (HasFew m.longest)) (sym (rows_other h e (ap is_write is))) at.state.longest_is);
    held_is = omega (arith, marks.held_is, at.state.held_is, weighs_due s h e (Ship region version part) f is refl);
    owed_is =
        let less : owed_shipments s h ≡ owed_shipments s (h ++ e ∷ []) + 1 = owed_ship s h e region version part at.sane at.legal f is in
        omega (arith, marks.owed_is, at.state.owed_is);
  }

-- Any other call: only the units that are held grow.

pub other_write : (c : Call) → IsOther c → is_write c ≡ false
other_write (Write key value lineage) other = absurd other
other_write _ other = refl

pub other_ship : (c : Call) → IsOther c → is_shipping c ≡ false
other_ship (Ship region version part) other = absurd other
other_ship _ other = refl

module _ (m n : Replicas) (s : Store) (h : List Entry) (e : Entry) (units : ℕ) (at : At m s h) (f : Follows (store s) h e) (other : IsOther e.call) (weighs : weight e.reply ≡ units)
    (is : n ≡ record m { held = min (m.held + units) (2 ^ 32 - 1) }) where
  writes : is_write e.call ≡ false
  writes = other_write e.call other

  ships : is_shipping e.call ≡ false
  ships = other_ship e.call other

  pub stands_other : Stands n s (h ++ e ∷ [])
  stands_other = subst (λ (x : Replicas). Stands x s (h ++ e ∷ [])) (sym is) (record {
    kind_is = at.state.kind_is;
    number_is = at.state.number_is;
    regions_are = at.state.regions_are;
    replicas_are = at.state.replicas_are;
    rows_are = at.state.rows_are ∙ sym (rows_other h e writes);
    kept_are = λ i d short.
        kept_later s h (h ++ e ∷ []) m.newest m.newest (i + 1) (get_or m.kept.items i d) (λ g p. shipped_other h e g (i + 1) p ships) (λ k j number. number) (at.state.kept_are i d short);
    behind = at.state.behind;
    uptos = at.state.uptos;
    upto_is = at.state.upto_is;
    numbered = at.state.numbered;
    shows = λ g k low. at.state.shows g k low ∙ sym (shows_other s h e at.legal f g writes ships k);
    last_is = λ k. at.state.last_is k ∙ sym (ap (greatest (λ r. true) k) (rows_other h e writes));
    longest_is = subst (All (HasFew m.longest)) (sym (rows_other h e writes)) at.state.longest_is;
    held_is =
        let within : held (h ++ e ∷ []) ≤ MOST_UNITS = held_within (store s) (h ++ e ∷ []) at.sane (legal_more (store s) h e at.legal f) in
        omega (arith, at.state.held_is, held_more h e);
    owed_is = at.state.owed_is ∙ sym (owed_other s h e writes ships);
  })

-- A write that found no memory: the key may have got its place, and some backlogs the group of the next version.

pub stands_with_place : (m n : Replicas) (s : Store) (h : List Entry) → Stands m s h → MakesPlace m.newest n.newest → n.kept.items ≡ m.kept.items
    → AreBehind m.regions.items m.kept.items n.backlogs.items → n ≡ record m { newest = n.newest; kept = n.kept; backlogs = n.backlogs } → Stands n s h
stands_with_place m n s h state makes kept behind is = subst (λ (x : Replicas). Stands x s h) (sym is) (record {
  kind_is = state.kind_is;
  number_is = state.number_is;
  regions_are = state.regions_are;
  replicas_are = state.replicas_are;
  rows_are = ap (map (λ (k : KeptWrite). k.row)) kept ∙ state.rows_are;
  kept_are = subst (AreKept s h n.newest) (sym kept) (λ i d short.
      kept_later s h h m.newest n.newest (i + 1) (get_or m.kept.items i d) (λ g p. refl) makes.numbers (state.kept_are i d short));
  behind =
      subst (λ (ks : List KeptWrite). AreBehind s.regions ks n.backlogs.items) (sym kept)
      (subst (λ (regions : List ℕ). AreBehind regions m.kept.items n.backlogs.items) state.regions_are behind);
  uptos = state.uptos;
  upto_is = λ g low. state.upto_is g low ∙ sym (ap (prefix_len (has_all g)) kept);
  numbered = makes.numbered;
  shows = λ g k low. makes.same g k ∙ state.shows g k low;
  last_is = λ k. makes.same 8 k ∙ state.last_is k;
  longest_is = state.longest_is;
  held_is = state.held_is;
  owed_is = state.owed_is;
})

-- What a call finds that may be made.

pub shippable : (m : Replicas) (g v p : ℕ) → MayShip m g v p → Shippable m g v p
shippable m g v p may =
    let s : Store = may.0 in
    let h : List Entry = may.1.history in
    let at : At m s h = may.1.stands_for in
    let can = ready_shipment s h g v p may.1.is_ready in
    let there = its_part m s h at v p can.shipment.part in
    let low : g < 8 = replica_below m s h at g can.shipment.replica in
    let owes : 1 ≤ owed_shipments s h = ship_owed s h g v p at.sane at.legal may.1.is_ready in
    let units : held h + (owed_shipments s h + cond (facts_of s.kind).tried (outs h) 0) + 0 ≤ MOST_UNITS = leb-true _ _ may.1.fits in
    record {
      region = low;
      first = there.0;
      kept = there.1;
      part = (there.2, there.3);
      backlogs = at.state.behind.count;
      number = λ d. at.state.numbered.below _ _ (at.state.kept_are (v - 1) d (omega (arith, there.0, there.1))).number;
      owed = omega (arith, at.state.owed_is);
      held = omega (arith, at.state.held_is);
    }

pub writable : (m : Replicas) (value : List ℕ) (lineage : List WriteId) (reply : Reply) → MayWrite m value lineage reply → Writable m (parts_of m.kind value)
writable m value lineage reply may =
    let s : Store = may.0 in
    let may' = may.2.may in
    let h : List Entry = may'.history in
    let at : At m s h = may'.stands_for in
    let fits : held h + (owed_shipments s h + cond (facts_of s.kind).tried (outs h) 0) + store_need s h (Write may.1 value lineage) ≤ MOST_UNITS = leb-true _ _ may'.fits in
    let need : store_need s h (Write may.1 value lineage) ≡ 1 + length s.regions * parts_of s.kind value = (fitting s h may.1 value lineage (omega arith)).1 in
    let units : held h + (owed_shipments s h + cond (facts_of s.kind).tried (outs h) 0) + (1 + length s.regions * parts_of s.kind value) ≤ MOST_UNITS = omega arith in
    let same : m.replicas * parts_of m.kind value ≡ length s.regions * parts_of s.kind value =
    ap (λ (x : ℕ). x * parts_of m.kind value) at.state.replicas_are ∙ ap (λ (kind : StoreKind). length s.regions * parts_of kind value) at.state.kind_is in
    record {
      numbered = at.state.numbered;
      units = omega (arith, at.state.held_is, at.state.owed_is);
      regions = subst AreBelow (sym at.state.regions_are) at.sane.below;
      behind = subst (λ (regions : List ℕ). AreBehind regions m.kept.items m.backlogs.items) (sym at.state.regions_are) at.state.behind;
      few = omega (arith, count_is m s h at.state, rows_held h);
    }

-- A call that writes nothing and is no shipment.
pub passing_other : (c : Call) → IsPassing c → ((g v p : ℕ) → c ≡ Ship g v p → ⊥) → IsOther c
passing_other (Write key value lineage) passing none = passing
passing_other (Ship g v p) passing none = none g v p refl
passing_other _ passing none = tt
