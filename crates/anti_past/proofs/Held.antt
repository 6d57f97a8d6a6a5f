-- Whether ids are all in a lineage, in the parts of lists.
use Rattle.std.proofs.Common.{◌≡◌, ℕ, ◌&&◌, ◌++◌, Bool, true, false, List, [], ◌∷◌, refl, sym, ap, ◌∙◌, inl, inr}
use Rattle.std.specs.List.{list_all}
use Rattle.std.proofs.lemmas.Bool.{and_from, and_parts, or_cases, or_left, or_right}
use Rattle.std.proofs.lemmas.List.{append_assoc}
use Rattle.std.proofs.lemmas.List.Folds.{list_all-append, list_any-append}
use Rattle.anti_ids.specs.Ids.{has_id, is_id}
use Rattle.anti_ids.specs.List.{Listed}
use Rattle.anti_ids.specs.declared.id.WriteId.{WriteId}
use Rattle.anti_ids.proofs.IdLemmas.{is_id-itself, same_id}
use Rattle.anti_kind.specs.declared.call.Call.{Call}
use Rattle.anti_kind.specs.declared.call.Call.TheVariants as calls
use Rattle.anti_kind.specs.declared.call.Reply.{Reply}
use Rattle.anti_kind.specs.declared.call.Reply.TheVariants as replies
use Rattle.anti_kind.specs.declared.row.Row.{Row}
use Rattle.anti_app.specs.declared.app.App.{App}
use Rattle.anti_proc.specs.Local.{row_ids, rows_ids}
use Rattle.law_causal.specs.Words.{comes_with, reads}
use Rattle.anti_past.specs.inner.Came.{IsRear, holds}

pub holds_both : (lineage xs ys : List WriteId) → holds lineage (xs ++ ys) ≡ (holds lineage xs && holds lineage ys)
holds_both lineage xs ys = list_all-append (λ w. has_id w lineage) xs ys

pub holds_rows_ids : (lineage : List WriteId) (store : ℕ) (rows : List Row)
    → holds lineage (rows_ids store rows) ≡ list_all (λ row. holds lineage (row_ids store row)) rows
holds_rows_ids lineage store [] = refl
holds_rows_ids lineage store (row ∷ rows) =
    holds_both lineage (row_ids store row) (rows_ids store rows)
    ∙ ap (λ (t : Bool). holds lineage (row_ids store row) && t) (holds_rows_ids lineage store rows)

-- the rear of a lineage, whose next id is met
pub rear_met : (lineage rest met : List WriteId) (i : WriteId) → IsRear lineage rest → rest ≡ i ∷ met → IsRear lineage met
rear_met lineage rest met i rear is =
    (rear.0 ++ i ∷ [], rear.1 ∙ ap (λ (t : List WriteId). rear.0 ++ t) is ∙ sym (append_assoc rear.0 (i ∷ []) met))

pub rear_has : (lineage rest met : List WriteId) (i : WriteId) → IsRear lineage rest → rest ≡ i ∷ met → has_id i lineage ≡ true
rear_has lineage rest met i rear is =
    ap (has_id i) (rear.1 ∙ ap (λ (t : List WriteId). rear.0 ++ t) is)
    ∙ list_any-append (λ j. is_id i j) rear.0 (i ∷ met)
    ∙ or_right (has_id i rear.0) (has_id i (i ∷ met)) (or_left (is_id i i) (has_id i met) (is_id-itself i))

-- what is so of all ids is so of each that is among them, and the other way round
module _ (p : WriteId → Bool) where
  pub all_has : (ids : List WriteId) → list_all p ids ≡ true → (w : WriteId) → has_id w ids ≡ true → p w ≡ true
  all_has [] all w has = absurd (cc)
  all_has (i ∷ is) all w has =
      let parts = and_parts (p i) (list_all p is) all in
      elim (or_cases (is_id w i) (has_id w is) has) [
        | inl same ↦ ap p (same_id w i same) ∙ parts.0
        | inr later ↦ all_has is parts.1 w later
      ]

  pub has_all : (ids : List WriteId) → ((w : WriteId) → has_id w ids ≡ true → p w ≡ true) → list_all p ids ≡ true
  has_all [] each = refl
  has_all (i ∷ is) each =
      and_from (p i) (list_all p is) (each i (or_left (is_id i i) (has_id i is) (is_id-itself i)))
      (has_all is (λ w has. each w (or_right (is_id w i) (has_id w is) has)))

-- where not all are in a lineage, one of them is not
module _ (lineage : List WriteId) where
  pub lost_one : (ids : List WriteId) → holds lineage ids ≡ false → (w : WriteId) × (has_id w ids ≡ true) × (has_id w lineage ≡ false)
  lost_one [] lost = absurd (cc)
  lost_one (x ∷ xs) lost = by_test (has_id x lineage) refl lost (λ rest. lost_one xs rest)
    where
      by_test : (t : Bool) → has_id x lineage ≡ t → (t && holds lineage xs) ≡ false
          → (holds lineage xs ≡ false → (w : WriteId) × (has_id w xs ≡ true) × (has_id w lineage ≡ false))
          → (w : WriteId) × (has_id w (x ∷ xs) ≡ true) × (has_id w lineage ≡ false)
      by_test true is rest one =
          let (w, among, none) = one rest in (w, or_right (is_id w x) (has_id w xs) among, none)
      by_test false is rest one = (x, or_left (is_id x x) (has_id x xs) (is_id-itself x), is)

-- ---- rows that are shown

module _ (app : App) (lineage : List WriteId) (o : ℕ) (rows : Listed Row) where
  of_call : (call : Call) → reads call ≡ true → holds lineage (comes_with app o call (replies.Shown rows)) ≡ list_all (λ row. holds lineage (row_ids o row)) rows.items
  of_call (calls.Read region key) is = holds_rows_ids lineage o rows.items
  of_call (calls.Scan region prefix) is = holds_rows_ids lineage o rows.items
  of_call (calls.Poll region key) is = holds_rows_ids lineage o rows.items
  of_call call is = absurd (cc)

  pub holds_shown : (call : Call) (reply : Reply) → reads call ≡ true → reply ≡ replies.Shown rows
      → list_all (λ row. holds lineage (row_ids o row)) rows.items ≡ holds lineage (comes_with app o call reply)
  holds_shown call reply is shown = sym (ap (λ (r : Reply). holds lineage (comes_with app o call r)) shown ∙ of_call call is)
