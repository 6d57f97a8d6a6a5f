-- Carried lineages are the causal past.
use Rattle.std.proofs.Common.{◌≡◌, ℕ, ◌<◌, ◌↔◌, true, List, Some, slice_get, sym, ap, ◌∙◌, inl, inr, arith}
use Rattle.anti_ids.specs.Ids.{has_id}
use Rattle.anti_ids.specs.declared.id.WriteId.{WriteId}
use Rattle.anti_kind.specs.declared.entry.Entry.{Entry}
use Rattle.anti_app.specs.declared.app.App.{App}
use Rattle.law_causal.specs.Pasts.{kept_with, CarriedIsCausal, CarriedWasWritten, InPast, WrittenBefore}
use Rattle.law_causal.specs.Words.{reads, wrote}
use Rattle.law_causal.specs.Causal.{Before}
use Rattle.law_causal.specs.Carried.{Brought, IsLossless}
use Rattle.law_causal.proofs.Facts.{Facts}
use Rattle.law_causal.proofs.Brings.{part_comes, of_write, reads_hand, writes_only}
use Rattle.law_causal.proofs.Lists.{same_at}
use Rattle.law_causal.proofs.Known.{Knows, before_it, brought_before, flow, forward, keeps, kept_before, knows_kept, own_or_kept, source, source_order, with_it}

module _ (app : App) (trace : List Entry) (facts : Facts app trace) where
  -- ---- what is carried was written

  pub brought_was_written : (j : ℕ) (b : Entry) (w : WriteId) → slice_get trace j ≡ Some b → Brought app trace j b w → WrittenBefore trace j w
  brought_was_written j b w at k =
      let s = source app trace facts k.place k.entry w k.there (with_it k.came) in
      let before = brought_before app trace facts s.place s.entry w s.there s.wrote j b at k in
      record { place = s.place; entry = s.entry; there = s.there; wrote = s.wrote; before = before.1 }

  pub carried_was_written : CarriedWasWritten app trace
  carried_was_written j e at w has = brought_was_written j e w at (facts.came j e at w has)

  -- and so was what is kept
  pub kept_was_written : (j : ℕ) (b : Entry) (w : WriteId) → slice_get trace j ≡ Some b → has_id w (kept_with b) ≡ true
      → WrittenBefore trace j w
  kept_was_written j b w at kept =
      let s = source app trace facts j b w at (knows_kept app trace facts j b w at kept) in
      let before = kept_before app trace facts s.place s.entry w s.there s.wrote j b at kept in
      record { place = s.place; entry = s.entry; there = s.there; wrote = s.wrote; before = before.1 }

  -- ---- what is carried is causally before

  module _ (lossless : IsLossless app trace) (i : ℕ) (a : Entry) (w : WriteId) (at_i : slice_get trace i ≡ Some a) (has : has_id w (wrote a) ≡ true)
      (j : ℕ) (b : Entry) (at_j : slice_get trace j ≡ Some b) where
    -- a write is known after it
    known_after : Before trace i j → Knows app trace j b w
    known_after before = flow app trace facts lossless before a b at_i at_j w (with_it (part_comes app a w (of_write has)))

    module _ (is_read : reads b.call ≡ true) where
      past_of : Knows app trace j b w → InPast app trace j b w
      past_of (before_it k) = inl (lossless j b at_j (reads_hand b.call is_read) w k)
      past_of (with_it came) = inr came

      not_itself : i ≡ j → Before trace i j
      not_itself same =
          let here : a ≡ b = same_at trace j a b (ap (slice_get trace) (sym same) ∙ at_i) at_j in
          let never = (writes_only app b w (ap (λ (e : Entry). has_id w (wrote e)) (sym here) ∙ has)).no_read in
          absurd (cc)

      before_past : InPast app trace j b w → Before trace i j
      before_past (inl carried) = (brought_before app trace facts i a w at_i has j b at_j (facts.came j b at_j w carried)).1
      before_past (inr came) =
          elim (source_order app trace facts i a w at_i has j b (source app trace facts j b w at_j (with_it came))) [
            | inl same ↦ not_itself same
            | inr before ↦ before.1
          ]

      into_read : Before trace i j ↔ InPast app trace j b w
      into_read = (λ before. past_of (known_after before), before_past)

    module _ (v : WriteId) (writes : has_id v (wrote b) ≡ true) where
      kept_of : i < j → Knows app trace j b w → has_id w (kept_with b) ≡ true
      kept_of low (before_it k) = keeps app trace facts lossless j b v at_j writes w k
      kept_of low (with_it came) =
          elim (own_or_kept app trace facts b v writes w came) [
            | inl own ↦ absurd (let same = facts.once i j a b w at_i at_j has own in omega (arith, same, low))
            | inr kept ↦ kept
          ]

      into_write : Before trace i j ↔ (has_id w (kept_with b) ≡ true)
      into_write = (
        λ before. kept_of (forward app trace facts before) (known_after before),
        λ kept. (kept_before app trace facts i a w at_i has j b at_j kept).1,
      )

  pub carried_is_causal : IsLossless app trace → CarriedIsCausal app trace
  carried_is_causal lossless i a w at_i has j b at_j =
      (λ is_read. into_read lossless i a w at_i has j b at_j is_read, λ v writes. into_write lossless i a w at_i has j b at_j v writes)
