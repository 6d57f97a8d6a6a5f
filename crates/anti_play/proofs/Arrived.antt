-- Where no shipment of a store can be made, each write is whole at each replica.
use Rattle.std.proofs.Common.{◌≡◌, ℕ, zero, suc, ◌<◌, ◌≤◌, Bool, true, false, not, leb, ◌&&◌, ◌||◌, List, ◌==◌, refl, sym, ap, ◌∙◌, ⊎_elim, subst, arith}
use Rattle.std.specs.Prelude.{All, Contains, Option, IsTrue}
use Rattle.std.specs.List.{range_with_len}
use Rattle.std.proofs.lemmas.Bool.{and_from, cases_lt, eq-eqb, false≢true, le-leb, or_left, or_right}
use Rattle.std.proofs.lemmas.List.Elements.{All-contains_itself, All-weaker}
use Rattle.std.proofs.lemmas.List.Folds.{list_any_at}
use Rattle.std.proofs.lemmas.List.FromFn.{get_or-range_with_len, length-range_with_len}
use Rattle.std.proofs.lemmas.List.Sums.{list_all-from_AllPass}
use Rattle.anti_kind.specs.Kinds.{facts_of}
use Rattle.anti_kind.specs.declared.entry.Entry.{Entry}
use Rattle.anti_kind.specs.declared.row.Row.{Row}
use Rattle.anti_kind.specs.declared.store_kind.StoreKind.{StoreKind}
use Rattle.anti_kind.specs.Objects.{store, IsLegal}
use Rattle.anti_kind.specs.Store.{Store, can_ship, has_part, is_next, is_replica}
use Rattle.anti_kind.specs.Stored.{is_shipped, is_whole, parts, parts_of, row_of, rows}
use Rattle.anti_kind.proofs.FactLaws.{ordered_whole}
use Rattle.anti_kind.proofs.Rows.{row_in}
use Rattle.anti_play.specs.Over.{IsEverywhere}

-- a row of a table has one part
one_part : (kind : StoreKind) (r : Row) → (facts_of kind).ordered ≡ true → Contains (parts kind r) 1
one_part kind r is = subst (λ (n : ℕ). Contains (range_with_len 1 n) 1) (sym (ordered_whole kind r.value is)) (0, omega arith, refl)

-- a part of a row is counted from 1
part_within : (kind : StoreKind) (r : Row) (p : ℕ) → Contains (parts kind r) p → (1 ≤ p) × (p ≤ parts_of kind r.value)
part_within kind r p part =
    let n : ℕ = parts_of kind r.value in
    let short : part.0 < n = omega (arith, part.1, length-range_with_len 1 n) in
    let number = get_or-range_with_len 1 n part.0 p short in
    (omega (arith, part.2), omega (arith, part.2))

-- what cannot be, where all else is given, is not given
the_other : (a b : Bool) → (a && b) ≡ false → a ≡ true → b ≡ false
the_other true b off on = off
the_other false b off on = absurd (cc)

was_true : (a b : Bool) → (not a && b) ≡ false → b ≡ true → a ≡ true
was_true true b off on = refl
was_true false b off on = absurd (false≢true (sym off ∙ on))

module _ (s : Store) (h : List Entry) (legal : IsLegal (store s) h) where
  module _ (g : ℕ) (replica : Contains s.regions g)
      (none : (r : Row) → Contains (rows h) r → (p : ℕ) → Contains (parts s.kind r) p → can_ship s h g r.version p ≡ false) where
    replica_is : is_replica s g ≡ true
    replica_is = list_any_at (λ region. region == g) s.regions replica.0 g replica.1 (eq-eqb _ g replica.2)

    part_is : (r : Row) → Contains (rows h) r → (p : ℕ) → Contains (parts s.kind r) p → has_part s.kind (row_of h r.version) p ≡ true
    part_is r written p part =
        let within : (1 ≤ p) × (p ≤ parts_of s.kind r.value) = part_within s.kind r p part in
        ap (λ (o : Option Row). has_part s.kind o p) (row_in s h legal r written)
        ∙ and_from _ _ (le-leb 1 p within.0) (le-leb p (parts_of s.kind r.value) within.1)

    -- what could be shipped next was shipped
    shipped_by : (r : Row) → Contains (rows h) r → (p : ℕ) → Contains (parts s.kind r) p
        → (not (facts_of s.kind).ordered || is_next h g r.version) ≡ true → is_shipped h g r.version p ≡ true
    shipped_by r written p part turn =
        was_true (is_shipped h g r.version p) (not (facts_of s.kind).ordered || is_next h g r.version)
        (the_other (has_part s.kind (row_of h r.version) p) _
        (the_other (is_replica s g) _ (none r written p part) replica_is) (part_is r written p part))
        turn

    -- in a table a version is next to be shipped, where all below it were shipped
    next_is : (n : ℕ) → ((r : Row) → Contains (rows h) r → r.version < n → is_shipped h g r.version 1 ≡ true) → is_next h g n ≡ true
    next_is n below =
        list_all-from_AllPass (λ r. leb n r.version || is_shipped h g r.version 1) (rows h)
        (All-weaker (Contains (rows h)) (λ r. (leb n r.version || is_shipped h g r.version 1) ≡ true)
        (λ r written.
        ⊎_elim (λ (low : r.version < n). or_right (leb n r.version) (is_shipped h g r.version 1) (below r written low))
        (λ (high : n ≤ r.version). or_left (leb n r.version) (is_shipped h g r.version 1) (le-leb n r.version high)) (cases_lt r.version n))
        (rows h) (All-contains_itself (rows h)))

    -- so all its versions were shipped, one after another
    table_shipped : (facts_of s.kind).ordered ≡ true → (n : ℕ) → (r : Row) → Contains (rows h) r → r.version ≤ n → is_shipped h g r.version 1 ≡ true
    table_shipped table zero r written within =
        shipped_by r written 1 (one_part s.kind r table) (or_right (not (facts_of s.kind).ordered) _ (next_is r.version (λ x there low. absurd (omega arith))))
    table_shipped table (suc n) r written within =
        shipped_by r written 1 (one_part s.kind r table)
        (or_right (not (facts_of s.kind).ordered) _ (next_is r.version (λ x there low. table_shipped table n x there (omega arith))))

    -- nothing holds a shipment back but those that were made
    in_turn : (r : Row) → Contains (rows h) r → (not (facts_of s.kind).ordered || is_next h g r.version) ≡ true
    in_turn r written = by_kind (facts_of s.kind).ordered refl
      where
        by_kind : (b : Bool) → (facts_of s.kind).ordered ≡ b → (not (facts_of s.kind).ordered || is_next h g r.version) ≡ true
        by_kind false off = or_left (not (facts_of s.kind).ordered) (is_next h g r.version) (ap not off)
        by_kind true table =
            or_right (not (facts_of s.kind).ordered) (is_next h g r.version)
            (next_is r.version (λ x there low. table_shipped table r.version x there (omega arith)))

    is_here : (r : Row) → Contains (rows h) r → is_whole s.kind h g r ≡ true
    is_here r written =
        list_all-from_AllPass (λ p. is_shipped h g r.version p) (parts s.kind r)
        (All-weaker (Contains (parts s.kind r)) (λ p. is_shipped h g r.version p ≡ true) (λ p part. shipped_by r written p part (in_turn r written))
        (parts s.kind r) (All-contains_itself (parts s.kind r)))

    pub all_here : All (λ r. IsTrue (is_whole s.kind h g r)) (rows h)
    all_here = All-weaker (Contains (rows h)) (λ r. IsTrue (is_whole s.kind h g r)) is_here (rows h) (All-contains_itself (rows h))

  pub everywhere : ((region : ℕ) → Contains s.regions region → (r : Row) → Contains (rows h) r → (p : ℕ) → Contains (parts s.kind r) p → can_ship s h region r.version p ≡ false)
      → IsEverywhere s h
  everywhere none =
      All-weaker (Contains s.regions) (λ region. All (λ r. IsTrue (is_whole s.kind h region r)) (rows h))
      (λ region replica. all_here region replica (none region replica)) s.regions (All-contains_itself s.regions)
