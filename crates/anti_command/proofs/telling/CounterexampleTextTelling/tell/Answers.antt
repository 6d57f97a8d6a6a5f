use Rattle.std.proofs.Common.{ℕ, ◌≡◌, ◌∙◌, ap}
use Rattle.std.specs.Prelude.{IfOk, Result, Ok, Err}
use Rattle.anti_ids.specs.List.{Listed, plain}
use Rattle.anti_app.specs.declared.app.App.{App}
use Rattle.anti_adversary.specs.Verdicts.{IsVerdict}
use Rattle.anti_adversary.specs.declared.verdict.Verdict.{Verdict}
use Rattle.anti_text.specs.Counterexamples.{verdict_text}
use Rattle.anti_command.specs.Placed.{TellsCounterexample}
use Rattle.anti_command.specs.inner.Stated.{IsPlayable}
use Rattle.anti_command.proofs.Worth.{misses_nothing, none_for, right_for}
use Rattle.anti_command.proofs.telling.CounterexampleTextTelling.tell.Goals as goal

pub returns : goal.returns
unfolding IsPlayable
returns c = go c.verdict_text.result c.verdict_text.ensures
  where
    app : App
    app = c.args.app

    now : App
    now = c.in_ok-app.app

    verdict : Verdict
    verdict = c.in_ok-app.verdict

    said : IsVerdict app now verdict
    said = c.in_ok-app.ensures.verdict

    go : {E : Type 0} → (result : Result (Listed ℕ) E) → IfOk result (λ text. text ≡ plain (verdict_text now verdict)) → IfOk result (λ t. TellsCounterexample app t.items)
    go (Err fault) is = tt
    go (Ok text) is =
        let keep = c.placed_applications_keep_all.ensures in
        let text_is : text.items ≡ verdict_text now verdict = ap (λ (l : Listed ℕ). l.items) is in record {
          now = now;
          verdict = verdict;
          said = said;
          right = right_for app now verdict (λ trace legal. c.diagnoses_decide.ensures.spans now trace c.in_ok-app.ensures.sound legal) said;
          text_is = text_is;
          none = λ placed. text_is ∙ none_for app now verdict said placed;
          worth = λ placed trace legal.
              misses_nothing app trace (c.diagnoses_decide.ensures.spans app trace c.requires legal) (keep.explained app c.requires placed trace legal);
        }
