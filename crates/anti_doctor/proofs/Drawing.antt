-- What is causally before an entry: what it draws from directly, or what is before that. An entry draws from its span, from the post of
-- the letter that it takes, from the writes that it shows, and from those that its reply tells are kept beside it. What is in the lineage
-- beside a row is before the write of this; what else a write keeps was carried, and so came to the span.
use Rattle.std.proofs.Common.{◌≡◌, ℕ, ◌<◌, true, List, Contains, Some, slice_get, refl, sym, ap, ◌∙◌, subst, inl, inr, arith}
use Rattle.std.proofs.lemmas.Bool.{cases_eq}
use Rattle.anti_ids.specs.Ids.{has_id}
use Rattle.anti_ids.specs.declared.id.WriteId.{WriteId}
use Rattle.anti_kind.specs.declared.entry.Entry.{Entry}
use Rattle.anti_kind.specs.declared.row.Row.{Row}
use Rattle.anti_app.specs.declared.app.App.{App}
use Rattle.law_causal.specs.Words.{beside, rows_in, shown, wrote}
use Rattle.law_causal.specs.inner.Taken.{told}
use Rattle.law_causal.specs.Pasts.{kept_with}
use Rattle.law_causal.specs.Causal.{Before, Delivers, Earlier, lineage, message, over, program, row, through}
use Rattle.law_causal.proofs.Brings.{shows_row, told_kept}
use Rattle.law_causal.proofs.Facts.{Facts, RowSource}
use Rattle.law_causal.proofs.Ids.{has_id_at, has_joined, id_for, not_none}
use Rattle.law_causal.proofs.Lists.{same_at}
use Rattle.law_causal.proofs.Known.{Knows, forward, knows_kept, source, source_order, with_it}
use Rattle.anti_doctor.specs.inner.Gathered.{IsUpTo}

-- from what the entry b, at place j, draws
pub data Draws (i : ℕ) (a : Entry) (j : ℕ) (b : Entry) : Type 0 where
  by_span : Earlier i a j b → Draws i a j b
  by_letter : Delivers a b → Draws i a j b
  by_shown : (w : WriteId) → has_id w (wrote a) ≡ true → has_id w (shown b) ≡ true → Draws i a j b
  by_told : (w : WriteId) → has_id w (wrote a) ≡ true → has_id w (told b) ≡ true → Draws i a j b

-- It draws from an earlier entry, which is what stands at place i, or before which that is.
pub record LastStep (trace : List Entry) (i j : ℕ) (b : Entry) : Type 0 where
  pub place : ℕ
  pub entry : Entry
  pub there : slice_get trace place ≡ Some entry
  pub low : place < j
  pub draws : Draws place entry j b
  pub upto : IsUpTo trace i place

module _ (app : App) (trace : List Entry) (facts : Facts app trace) where
  -- ---- what is drawn from is before

  -- what is known of a write is known at it, or behind it
  up_to : (i : ℕ) (a : Entry) (w : WriteId) → slice_get trace i ≡ Some a → has_id w (wrote a) ≡ true
      → (k : ℕ) (d : Entry) → slice_get trace k ≡ Some d → Knows app trace k d w → IsUpTo trace i k
  up_to i a w at_i has k d at_k knows =
      elim (source_order app trace facts i a w at_i has k d (source app trace facts k d w at_k knows)) [
        | inl same ↦ inl same
        | inr before ↦ inr before.1
      ]

  pub drawn_before : (i j : ℕ) (a b : Entry) → slice_get trace i ≡ Some a → slice_get trace j ≡ Some b → i < j → Draws i a j b
      → Before trace i j
  drawn_before i j a b at_i at_j low (by_span e) = program a b at_i at_j e
  drawn_before i j a b at_i at_j low (by_letter d) = message a b at_i at_j d
  drawn_before i j a b at_i at_j low (by_shown w has shows) = row a b w at_i at_j has shows
  drawn_before i j a b at_i at_j low (by_told w has tells) =
      elim (up_to i a w at_i has j b at_j (knows_kept app trace facts j b w at_j (told_kept b w tells))) [
        | inl same ↦ absurd (omega (arith, low, same))
        | inr before ↦ before
      ]

  pub step_before : (i j : ℕ) (b : Entry) → slice_get trace j ≡ Some b → LastStep trace i j b → Before trace i j
  step_before i j b at_j s =
      let last : Before trace s.place j = drawn_before s.place j s.entry b s.there at_j s.low s.draws in
      elim s.upto [ inl same ↦ subst (λ (n : ℕ). Before trace n j) (sym same) last | inr earlier ↦ through earlier last ]

  -- ---- what is before is drawn

  -- at the entry itself
  directly : (i j : ℕ) (a b : Entry) → slice_get trace i ≡ Some a → i < j → Draws i a j b → LastStep trace i j b
  directly i j a b at_i low draws = record { place = i; entry = a; there = at_i; low = low; draws = draws; upto = inl refl }

  -- an id of the lineage beside a row
  of_lineage : (i j : ℕ) (a b : Entry) (w : WriteId) → slice_get trace i ≡ Some a → slice_get trace j ≡ Some b → has_id w (wrote a) ≡ true
      → (r : Row) → Contains (rows_in b.call b.reply) r → has_id w r.lineage ≡ true → LastStep trace i j b
  of_lineage i j a b w at_i at_j has r in_it beside =
      elim (cases_eq r.version 0) [
        | inl none ↦ not_none w r.lineage (facts.absent j b r at_j in_it none) beside
        | inr some ↦ from_write (omega (arith, some))
      ]
    where
      from_write : 0 < r.version → LastStep trace i j b
      from_write some =
          let from : RowSource trace j b r = facts.rows j b r at_j in_it some in
          let id : WriteId = id_for b.object r.key r.version in
          let own = has_id_at b.object r.key r.version some in
          record {
            place = from.place;
            entry = from.entry;
            there = from.there;
            low = from.before;
            draws = by_shown id (ap (has_id id) from.wrote ∙ own) (shows_row b id r in_it own);
            upto = up_to i a w at_i has from.place from.entry from.there
                (knows_kept app trace facts from.place from.entry w from.there (ap (has_id w) from.kept ∙ beside));
          }

  -- what is kept beside a write
  of_kept : (i j : ℕ) (a b : Entry) (w : WriteId) → slice_get trace i ≡ Some a → slice_get trace j ≡ Some b → i < j
      → has_id w (wrote a) ≡ true → has_id w (kept_with b) ≡ true → LastStep trace i j b
  of_kept i j a b w at_i at_j low has kept =
      let write = facts.keeper j b w at_j kept in
      elim ((facts.writes j b write.0 at_j write.1).tells w kept) [
        | inl tells ↦ directly i j a b at_i low (by_told w has tells)
        | inr carried ↦
            let k = facts.came j b at_j w carried in
            record {
              place = k.place;
              entry = k.entry;
              there = k.there;
              low = k.earlier.before;
              draws = by_span k.earlier;
              upto = up_to i a w at_i has k.place k.entry k.there (with_it k.came);
            }
      ]

  pub last_step : {i j : ℕ} → Before trace i j → (b : Entry) → slice_get trace j ≡ Some b → LastStep trace i j b
  last_step (program {i = i} {j = j} a d at_i at_j e) b at =
      directly i j a b at_i e.before (by_span (subst (λ (x : Entry). Earlier i a j x) (same_at trace j d b at_j at) e))
  last_step (message {i = i} {j = j} a d at_i at_j e) b at =
      directly i j a b at_i (facts.passes i j a d at_i at_j e).before
      (by_letter (subst (λ (x : Entry). Delivers a x) (same_at trace j d b at_j at) e))
  last_step (row {i = i} {j = j} a d w at_i at_j has shows) b at =
      directly i j a b at_i (forward app trace facts (row a d w at_i at_j has shows))
      (by_shown w has (ap (λ (x : Entry). has_id w (shown x)) (same_at trace j b d at at_j) ∙ shows))
  last_step (lineage {i = i} {j = j} a d w at_i at_j has shows) b at =
      let found = has_joined (λ (r : Row). r.lineage) w (rows_in b.call b.reply)
      (ap (λ (x : Entry). has_id w (beside x)) (same_at trace j b d at at_j) ∙ shows) in
      of_lineage i j a b w at_i at has found.0 found.1 found.2
  last_step (over {i = i} {j = j} a d w at_i at_j has replaced) b at =
      let its = facts.replaces i j a d w at_i at_j has replaced in
      of_kept i j a b w at_i at its.before has (ap (λ (x : Entry). has_id w (kept_with x)) (same_at trace j b d at at_j) ∙ its.id w has)
  last_step (through {i = i} {k = k} {j = j} p q) b at = further (last_step q b at)
    where
      further : LastStep trace k j b → LastStep trace i j b
      further s = record {
        place = s.place;
        entry = s.entry;
        there = s.there;
        low = s.low;
        draws = s.draws;
        upto = inr (elim s.upto [ inl same ↦ subst (Before trace i) same p | inr later ↦ through p later ]);
      }
