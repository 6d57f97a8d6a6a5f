-- A text that is kept beside its lineage is that of it as long as the lineage is the same.
use Rattle.std.proofs.Common.{IfSome, ◌≡◌, ℕ, List, [], ◌∷◌, Bool, true, false, not, ◌&&◌, Option, Some, None, Ok, length, refl, sym, ap, subst, ◌∙◌, inl, inr, arith}
use Rattle.std.specs.Arc.{arc_value}
use Rattle.std.specs.declared.alloc.Global.{Global}
use Rattle.std.specs.declared.sync.Arc.{Arc}
use Rattle.std.proofs.lemmas.Bool.{cases_Bool}
use Rattle.anti_ids.specs.Ids.{has_id, is_id, with_id, with_ids, without_id}
use Rattle.anti_ids.specs.Invariants.{IsAscending}
use Rattle.anti_ids.specs.List.{Listed, plain}
use Rattle.anti_ids.specs.declared.id.WriteId.{WriteId}
use Rattle.anti_ids.proofs.IdLemmas.{ascending_filter, has_id-without_id, le-length-with_ids, length-with_id, same_id, same_ids, with_id-there}
use Rattle.anti_baggage.specs.Reading.{read_lineage}
use Rattle.anti_baggage.specs.Texts.{lineage_text, lineage_text_one}
use Rattle.anti_baggage.specs.declared.held.Stated.{Stated}
use Rattle.anti_baggage.specs.inner.Kept.{IsStated, IsTextOf, IsTold, StatesOver}
use Rattle.anti_baggage.proofs.TextLaws.{is_its_text}

-- ---- what changes nothing

-- without an id that is not there
pub without_id-absent : (i : WriteId) (js : List WriteId) → IsAscending js → has_id i js ≡ false → without_id i js ≡ js
without_id-absent i js asc none = same_ids (without_id i js) js (ascending_filter (λ k. not (is_id i k)) js asc) asc (λ k. has_id-without_id k i js ∙ held k)
  where
    and_true : (b : Bool) → (b && true) ≡ b
    and_true true = refl
    and_true false = refl

    held : (k : WriteId) → (has_id k js && not (is_id k i)) ≡ has_id k js
    held k =
        elim (cases_Bool (is_id k i)) [
          | inl here ↦
              let gone : has_id k js ≡ false = ap (λ (x : WriteId). has_id x js) (same_id k i here) ∙ none in
              cc
          | inr other ↦ ap (λ (b : Bool). has_id k js && not b) other ∙ and_true (has_id k js)
        ]

-- with ids of which none is new
pub with_ids-same : (is js : List WriteId) → IsAscending js → length (with_ids is js) ≡ length js → with_ids is js ≡ js
with_ids-same [] js asc same = refl
with_ids-same (i ∷ is) js asc same =
    elim (cases_Bool (has_id i js)) [
      | inl there ↦
          let old : with_id i js ≡ js = with_id-there i js asc there in
          ap (with_ids is) old ∙ with_ids-same is js asc (sym (ap (λ (ids : List WriteId). length (with_ids is ids)) old) ∙ same)
      | inr new ↦ absurd (omega (arith, same, length-with_id i js new, le-length-with_ids is (with_id i js)))
    ]

-- ---- what is kept

pub kept_ascends : (ids : List WriteId) (kept : Arc Stated Global) → IsTextOf ids kept → IsAscending ids
kept_ascends ids kept is =
    let s = arc_value kept in
    subst IsAscending is.1 (is_its_text s.stores.items s.text.items s.lineage is.0.1.states).0.lineage.ascending

pub told_stays : (old new : List WriteId) (told : Option (Arc Stated Global)) → (IsAscending old → new ≡ old) → IsTold old told → IsTold new told
told_stays old new None same is = tt
told_stays old new (Some kept) same is = (is.0, is.1 ∙ sym (same (kept_ascends old kept is)))

-- ---- texts of what they state

-- a text without room with the items of a text
pub plain_text : (text : Listed ℕ) (items : List ℕ) → text.spare ≡ 0 → text.items ≡ items → text ≡ plain items
plain_text text items spare is = λ i. record { items = is i; spare = spare i }

-- the text of no ids is theirs over any names
pub root_anywhere : (kept : Stated) (stores : List (List ℕ)) → length kept.lineage ≡ 0 → StatesOver kept.stores.items kept → StatesOver stores kept
root_anywhere kept stores none is =
    let empty = no_ids kept.lineage none in
    let text : kept.text.items ≡ lineage_text stores [] = is.is ∙ ap (lineage_text kept.stores.items) empty in
    record {
      states = ap (read_lineage stores) text ∙ sym (ap (λ (ids : List WriteId). Ok ids) empty);
      is = text ∙ sym (ap (lineage_text stores) empty);
      one = if_some kept.text_one (λ one e. e ∙ ap (lineage_text_one kept.stores.items) empty ∙ sym (ap (lineage_text_one stores) empty)) is.one;
    }
  where
    if_some : {P Q : Listed ℕ → Type 0} (one : Option (Listed ℕ)) → ((text : Listed ℕ) → P text → Q text) → IfSome one P → IfSome one Q
    if_some None weaker is = tt
    if_some (Some text) weaker is = weaker text is

    no_ids : (ids : List WriteId) → length ids ≡ 0 → ids ≡ []
    no_ids [] none = refl
    no_ids (i ∷ is) none = absurd (omega (arith, none))

-- what is kept of a lineage is its text over each names over which it states it
pub kept_text : (ids now : List WriteId) (kept : Arc Stated Global) (value : Stated) (stores : List (List ℕ)) → IsTextOf ids kept → value ≡ arc_value kept
    → (IsStated value → StatesOver stores value) → ids ≡ now → (arc_value kept).text ≡ plain (lineage_text stores now)
kept_text ids now kept value stores told is states same =
    let stated = subst (λ (s : Stated). IsStated s → StatesOver stores s) is states told.0 in
    plain_text (arc_value kept).text (lineage_text stores now) told.0.0 (stated.is ∙ ap (lineage_text stores) (told.1 ∙ same))
