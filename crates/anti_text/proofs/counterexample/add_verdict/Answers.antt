use Rattle.std.proofs.Common.{ℕ, ◌≡◌, ◌∙◌, List, ◌++◌, ap, subst, sym}
use Rattle.std.specs.Prelude.{OnOk, codes}
use Rattle.std.proofs.lemmas.List.{append_assoc}
use Rattle.anti_app.specs.declared.app.App.{App}
use Rattle.anti_adversary.specs.declared.verdict.Verdict.{Verdict}
use Rattle.anti_text.specs.Counterexamples.{found_text, numbered_line, verdict_text}
use Rattle.anti_text.proofs.counterexample.add_verdict.Goals as goal

pub returns-in_ok-numbered_line-in-Found : goal.returns-in_ok-numbered_line-in-Found
returns-in_ok-numbered_line-in-Found c =
    subst (λ (verdict : Verdict). OnOk c.found_text.result (c.found_text.new.out ≡ c.args.out.now ++ verdict_text app verdict)) (sym c.in-Found.is)
    (subst (λ (text : List ℕ). OnOk c.found_text.result (c.found_text.new.out ≡ text))
    (ap (λ (text : List ℕ). text ++ behind) c.in_ok-numbered_line-in-Found.ensures ∙ append_assoc c.args.out.now first behind)
    c.found_text.ensures)
  where
    app : App
    app = c.args.app.now

    first : List ℕ
    first = numbered_line (codes "counterexample ") c.in-Found.number

    behind : List ℕ
    behind = found_text app c.in-Found.shown c.in-Found.missed
