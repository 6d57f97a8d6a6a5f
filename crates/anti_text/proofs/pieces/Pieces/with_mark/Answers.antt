use Rattle.std.proofs.Common.{◌≡◌, ℕ, List, ◌∷◌, ◌++◌, [], length, ap, ◌∙◌}
use Rattle.anti_text.specs.Spans.{spaced_mark}
use Rattle.anti_text.proofs.Cuts.{closed, risen}
use Rattle.anti_text.proofs.pieces.Pieces.with_mark.Goals as goal
use Rattle.anti_text.proofs.pieces.Pieces.with_mark.Goals.{In_ok-push}

-- what was written, and where it ends
written : (c : In_ok-push) → c.spaced_mark.new.out ≡ c.self.inside.text ++ spaced_mark c.args.app.now c.args.mark
written c = c.in_ok-spaced_mark.ensures

ended : (c : In_ok-push) → c.push.new.self.items ≡ c.self.inside.ends.items ++ length c.spaced_mark.new.out ∷ []
ended c = c.in_ok-push.ensures.items ∙ ap (λ (n : ℕ). c.self.inside.ends.items ++ n ∷ []) c.len.ensures

pub invariant_of-result : goal.invariant_of-result
invariant_of-result c =
    risen c.self.inside.text (spaced_mark c.args.app.now c.args.mark) c.spaced_mark.new.out c.self.inside.ends.items c.push.new.self.items (written c) (ended c) c.self.invariant

pub returns : goal.returns
returns c =
    let more = spaced_mark c.args.app.now c.args.mark in
    closed c.self.inside.text more c.spaced_mark.new.out c.self.inside.ends.items c.push.new.self.items (written c) (ended c) c.self.invariant
    ∙ ap (λ (ps : List (List ℕ)). ps ++ more ∷ []) c.self.view_is
