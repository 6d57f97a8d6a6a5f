use Rattle.std.proofs.Common.{ℕ, ◌≡◌, ◌∙◌, List, [], ◌∷◌, ◌++◌, ap, subst}
use Rattle.std.specs.Prelude.{OnOk, codes}
use Rattle.anti_app.specs.declared.app.App.{App}
use Rattle.anti_text.specs.Counterexamples.{made_lines, shown_text}
use Rattle.anti_text.proofs.Added.{added_is}
use Rattle.anti_text.proofs.counterexample.printed.Goals as goal

pub returns : goal.returns
unfolding shown_text
returns c =
    subst (λ (text : List ℕ). OnOk c.put-2.result (c.put-2.new.self ≡ text))
    (ap (λ (text : List ℕ). text ++ tail)
    (c.in_ok-made_lines.ensures
    ∙ (λ i. c.put.new.self ++ made_lines app (c.as_slice.ensures.entries i) (c.as_slice-2.ensures i) (c.as_slice-3.ensures i))
    ∙ ap (λ (text : List ℕ). text ++ lines) c.in_ok-put.ensures)
    ∙ added_is c.args.out.now (codes "choices = [\n") (lines ∷ tail ∷ []))
    c.put-2.ensures
  where
    app : App
    app = c.args.printer.now.app.now

    lines : List ℕ
    lines = made_lines app c.args.shown.now.trace app.choices.items c.args.shown.now.marks.items

    tail : List ℕ
    tail = codes "]\n"
