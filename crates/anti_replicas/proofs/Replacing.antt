-- What a write to a key replaces, and what it keeps of it, by the last version of the key.
use Rattle.std.proofs.Common.{◌≡◌, ℕ, ◌+◌, ◌-◌, ◌<◌, ◌≤◌, Bool, true, false, List, ◌∷◌, length, get_or, Option, Some, None, refl, sym, ap, ◌∙◌, ◌⊎◌, inl, inr, arith, ◌==◌, eq-eqb, eqb-true, cond, subst}
use Rattle.std.specs.Prelude.{slice_get, unwrap_or}
use Rattle.std.specs.List.{list_all}
use Rattle.std.proofs.lemmas.Bool.{cases_Bool, false≢true}
use Rattle.std.proofs.lemmas.Option.{get_or_from_slice_get, slice_get_within}
use Rattle.anti_ids.specs.Ids.{has_id, with_id, with_ids}
use Rattle.anti_ids.specs.Invariants.{IsAscending}
use Rattle.anti_ids.specs.declared.id.WriteId.{WriteId}
use Rattle.anti_ids.specs.declared.limits.TheConstants.{MOST_IDS}
use Rattle.anti_ids.proofs.IdLemmas.{length-with_id-le, length-with_ids-le, le-length-with_ids}
use Rattle.anti_kind.specs.declared.entry.Entry.{Entry}
use Rattle.anti_kind.specs.declared.row.Row.{Row}
use Rattle.anti_kind.specs.Stored.{rows, row_of, greatest}
use Rattle.anti_kind.specs.Store.{Store, left_by, over, replaced, with_left, with_replaced}
use Rattle.anti_kind.proofs.Finding.{find_found}
use Rattle.anti_kind.proofs.Overs.{length-over, there-with_ids, with_ids-there}
use Rattle.anti_kind.proofs.Rows.{version_at}
use Rattle.anti_replicas.specs.declared.replicas.Replicas.{Replicas}
use Rattle.anti_replicas.specs.declared.kept_write.KeptWrite.{KeptWrite}
use Rattle.anti_replicas.specs.inner.Newest.{last_at}
use Rattle.anti_replicas.specs.inner.Standing.{HasFew}
use Rattle.anti_replicas.specs.Stores.{At}
use Rattle.anti_replicas.proofs.Reading.{row_is, count_is, row_there, row_absent}

module _ (m : Replicas) (s : Store) (h : List Entry) (at : At m s h) (key : List ℕ) (v : ℕ) (last : v ≡ last_at m.newest key) where
  -- the row that is kept of the last version of the key is replaced
  pub last_there : (k : KeptWrite) → 1 ≤ v → slice_get m.kept.items (v - 1) ≡ Some k → replaced h key ≡ Some k.row
  last_there k first is = ap (row_of h) (sym (last ∙ at.state.last_is key)) ∙ row_there m s h at v k first is

  pub last_absent : (v ≡ 0) ⊎ (length m.kept.items < v) → replaced h key ≡ None
  last_absent out = ap (row_of h) (sym (last ∙ at.state.last_is key)) ∙ row_absent m s h at v out

-- versions count from 1
pub kept_version : (m : Replicas) (s : Store) (h : List Entry) → At m s h → (v : ℕ) (k : KeptWrite) → slice_get m.kept.items (v - 1) ≡ Some k → 1 ≤ k.row.version
kept_version m s h at v k is =
    let within : v - 1 < length m.kept.items = slice_get_within m.kept.items (v - 1) k is in
    let short : v - 1 < length (rows h) = omega (arith, count_is m s h at.state) in
    let row : get_or (rows h) (v - 1) k.row ≡ k.row =
    row_is m s h at.state (v - 1) k k.row within ∙ ap (λ (x : KeptWrite). x.row) (get_or_from_slice_get m.kept.items (v - 1) k k is) in
    let number : k.row.version ≡ v - 1 + 1 = ap (λ (r : Row). r.version) (sym row) ∙ version_at s h at.legal (v - 1) k.row short in
    omega arith

-- all that is left is there exactly where the id is, and the union has no more ids
pub left_by_length : (is js : List WriteId) → IsAscending js → (b : Bool) → b ≡ (length (with_ids is js) == length js) → b ≡ list_all (λ i. has_id i js) is
left_by_length is js asc true same = sym (there-with_ids is js asc (eqb-true (length (with_ids is js)) (length js) (sym same)))
left_by_length is js asc false new =
    elim (cases_Bool (list_all (λ i. has_id i js) is)) [
      | inl all ↦ absurd (false≢true (new ∙ eq-eqb (length (with_ids is js)) (length js) (ap length (with_ids-there is js asc all))))
      | inr some ↦ sym some
    ]

-- so few ids together have no more than a lineage may have
pub few_together : (i : WriteId) (is js : List WriteId) → length js + length is < MOST_IDS → length (with_ids (i ∷ is) js) ≤ MOST_IDS
few_together i is js few = omega (arith, length-with_ids-le is (with_id i js), length-with_id-le i js)

-- a write keeps few where the union has few
few_left : (left lineage : List WriteId) → length (with_ids left lineage) ≤ MOST_IDS → length (unwrap_or (with_left left lineage) lineage) ≤ MOST_IDS
few_left left lineage few = by_test (list_all (λ i. has_id i lineage) left) where
  by_test : (all : Bool) → length (unwrap_or (cond all None (Some (with_ids left lineage))) lineage) ≤ MOST_IDS
  by_test true = omega (arith, few, le-length-with_ids left lineage)
  by_test false = few

-- where no write has so many ids beside it, whichever is replaced leaves few
pub few_over : (m : Replicas) (s : Store) (h : List Entry) → At m s h → (key : List ℕ) (lineage : List WriteId) → length lineage + m.longest < MOST_IDS → length (over s h key lineage) ≤ MOST_IDS
few_over m s h at key lineage few = by_row (replaced h key) refl where
  by_row : (o : Option Row) → replaced h key ≡ o → length (with_replaced s.number o lineage) ≤ MOST_IDS
  by_row None is = omega (arith, few)
  by_row (Some r) is =
      let found = find_found (λ (x : Row). x.version == greatest (λ x. true) key (rows h)) (rows h) r is in
      let short : length r.lineage ≤ m.longest = subst (HasFew m.longest) (found.at r) (at.state.longest_is found.index r found.within) in
      few_left (left_by s.number (Some r)) lineage (few_together (record { store = s.number; key = r.key; version = r.version }) r.lineage lineage (omega (arith, few, short)))

-- as many ids as the union with what the row leaves has
pub over_length : (s : Store) (h : List Entry) (key : List ℕ) (lineage : List WriteId) (o : Option Row) → IsAscending lineage → replaced h key ≡ o
    → length (over s h key lineage) ≡ length (with_ids (left_by s.number o) lineage)
over_length s h key lineage o asc is = length-over s h key lineage asc ∙ ap (λ (x : Option Row). length (with_ids (left_by s.number x) lineage)) is
