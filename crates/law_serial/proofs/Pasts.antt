-- Whether a write is in the past of a read, told by ids, decides whether it is causally before the read.
use Rattle.std.proofs.Common.{◌≡◌, ℕ, ◌↔◌, Bool, true, false, List, [], ◌∷◌, refl, sym, ap, ◌∙◌}
use Rattle.std.specs.Prelude.{Option, Some, None, slice_get}
use Rattle.std.specs.List.{list_any}
use Rattle.std.specs.Option.{option_map_or}
use Rattle.std.proofs.lemmas.Bool.{or_left}
use Rattle.std.proofs.lemmas.List.Folds.{Any-from_list_any, list_any_at}
use Rattle.anti_ids.specs.Ids.{has_id, is_id}
use Rattle.anti_ids.specs.declared.id.WriteId.{WriteId}
use Rattle.anti_ids.proofs.IdLemmas.{Contains-from_has_id, has_id-from_Contains, is_id-itself}
use Rattle.anti_kind.specs.declared.entry.Entry.{Entry}
use Rattle.anti_app.specs.declared.app.App.{App}
use Rattle.law_causal.specs.Words.{brings, reads, wrote}
use Rattle.law_causal.specs.Reads.{is_at}
use Rattle.law_causal.specs.Causal.{Before}
use Rattle.law_causal.specs.Pasts.{InPast}
use Rattle.law_causal.specs.Carried.{IsLossless, carried_at}
use Rattle.law_causal.proofs.Causes.{carried_is_causal}
use Rattle.law_causal.proofs.Facts.{Facts}
use Rattle.law_causal.proofs.Ids.{in_either}
use Rattle.law_serial.specs.Order.{is_in_past, is_some_id, past_of, writes_at}

-- ---- tests at a place

pub is_at_there : (test : Entry → Bool) (trace : List Entry) (i : ℕ) (e : Entry) → slice_get trace i ≡ Some e → is_at test trace i ≡ test e
is_at_there test trace i e at = ap (λ (found : Option Entry). option_map_or test found false) at

-- a write at a place, with its id
pub record IsWriteAt (trace : List Entry) (i : ℕ) : Type 0 where
  pub entry : Entry
  pub there : slice_get trace i ≡ Some entry
  pub id : WriteId
  pub has : has_id id (wrote entry) ≡ true

first_id : (ids : List WriteId) → is_some_id ids ≡ true → (w : WriteId) × (has_id w ids ≡ true)
first_id [] some = absurd (cc)
first_id (w ∷ ws) some = (w, or_left (is_id w w) (has_id w ws) (is_id-itself w))

some_of : (w : WriteId) (ids : List WriteId) → has_id w ids ≡ true → is_some_id ids ≡ true
some_of w [] has = absurd (cc)
some_of w (v ∷ vs) has = refl

pub write_there : (trace : List Entry) (i : ℕ) → writes_at trace i ≡ true → IsWriteAt trace i
write_there trace i writes = by_found (slice_get trace i) refl writes
  where
    by_found : (found : Option Entry) → slice_get trace i ≡ found → option_map_or (λ a. is_some_id (wrote a)) found false ≡ true
        → IsWriteAt trace i
    by_found None at some = absurd (cc)
    by_found (Some a) at some = let first = first_id (wrote a) some in record { entry = a; there = at; id = first.0; has = first.1 }

pub there_writes : (trace : List Entry) (i : ℕ) (a : Entry) (w : WriteId) → slice_get trace i ≡ Some a → has_id w (wrote a) ≡ true
    → writes_at trace i ≡ true
there_writes trace i a w at has = is_at_there (λ e. is_some_id (wrote e)) trace i a at ∙ some_of w (wrote a) has

-- ---- the past of a read

-- the past as a list of ids, and as a fact
pub in_past_of : (app : App) (trace : List Entry) (r : ℕ) (e : Entry) (w : WriteId)
    → has_id w (past_of app trace r e) ≡ true ↔ InPast app trace r e w
in_past_of app trace r e w = in_either w (carried_at app trace r e) (brings app e)

-- the test for some id that passes, and the id
pub some_passes : (p : WriteId → Bool) (ids : List WriteId) → list_any p ids ≡ true → (w : WriteId) × (has_id w ids ≡ true) × (p w ≡ true)
some_passes p ids some =
    let found = Any-from_list_any p ids some in
    (found.1, has_id-from_Contains found.1 ids (found.0, found.2, found.3), found.4)

pub passes_some : (p : WriteId → Bool) (ids : List WriteId) (w : WriteId) → has_id w ids ≡ true → p w ≡ true → list_any p ids ≡ true
passes_some p ids w has passes = let at = Contains-from_has_id w ids has in list_any_at p ids at.0 w at.1 (ap p at.2 ∙ passes)

-- A write is in the past of a read just where it is causally before the read.
pub past_decides : (app : App) (trace : List Entry) → Facts app trace → IsLossless app trace → (r i : ℕ) (e : Entry)
    → slice_get trace r ≡ Some e → reads e.call ≡ true → writes_at trace i ≡ true → is_in_past app trace r i ≡ true ↔ Before trace i r
past_decides app trace facts lossless r i e at is_read writes =
    let write : IsWriteAt trace i = write_there trace i writes in
    let a : Entry = write.entry in
    let test : WriteId → Bool = λ w. has_id w (past_of app trace r e) in
    let tested : is_in_past app trace r i ≡ list_any test (wrote a) =
    is_at_there (λ e. is_at (λ a. list_any (λ w. has_id w (past_of app trace r e)) (wrote a)) trace i) trace r e at
    ∙ is_at_there (λ a. list_any test (wrote a)) trace i a write.there in
    let causal : (w : WriteId) → has_id w (wrote a) ≡ true → Before trace i r ↔ InPast app trace r e w =
    λ w has. (carried_is_causal app trace facts lossless i a w write.there has r e at).0 is_read in (
      λ in'.
          let found = some_passes test (wrote a) (sym tested ∙ in') in
          (causal found.0 found.1).1 ((in_past_of app trace r e found.0).0 found.2),
      λ before.
          let past : InPast app trace r e write.id = (causal write.id write.has).0 before in
          tested ∙ passes_some test (wrote a) write.id write.has ((in_past_of app trace r e write.id).1 past),
    )
