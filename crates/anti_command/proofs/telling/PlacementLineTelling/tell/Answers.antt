use Rattle.std.proofs.Common.{ℕ, ◌≡◌, ◌∙◌, ap}
use Rattle.std.specs.Prelude.{IfOk, Result, Ok, Err}
use Rattle.anti_ids.specs.List.{Listed, plain}
use Rattle.anti_app.specs.declared.app.App.{App}
use Rattle.anti_text.specs.Placements.{placement_line}
use Rattle.anti_command.specs.Placed.{TellsPlacement}
use Rattle.anti_command.specs.inner.Stated.{IsPlayable}
use Rattle.anti_command.proofs.Worth.{misses_nothing}
use Rattle.anti_command.proofs.telling.PlacementLineTelling.tell.Goals as goal

pub returns : goal.returns
unfolding IsPlayable
returns c = go c.placement_line.result c.placement_line.ensures
  where
    app : App
    app = c.args.app

    go : {E : Type 0} → (result : Result (Listed ℕ) E) → IfOk result (λ line. line ≡ plain (placement_line app c.placed.result)) → IfOk result (λ t. TellsPlacement app t.items)
    go (Err fault) is = tt
    go (Ok line) is =
        let keep = c.placed_applications_keep_all.ensures in record {
          line = ap (λ (l : Listed ℕ). l.items) is ∙ ap (placement_line app) c.placed.ensures;
          worth = λ placed trace legal. record {
            lossless = keep.lossless app c.requires placed trace legal;
            settled = keep.settled app c.requires placed trace legal;
            explained = keep.explained app c.requires placed trace legal;
            sound = misses_nothing app trace (c.diagnoses_decide.ensures.spans app trace c.requires legal) (keep.explained app c.requires placed trace legal);
          };
        }
