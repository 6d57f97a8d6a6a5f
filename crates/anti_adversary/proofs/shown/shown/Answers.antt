use Rattle.std.proofs.Common.{◌≤◌, List, [], length, take, subst}
use Rattle.std.proofs.lemmas.List.{take_all}
use Rattle.anti_app.specs.declared.app.Choice.{Choice}
use Rattle.anti_adversary.specs.Runs.{MakesMarks}
use Rattle.anti_adversary.proofs.Marks.{shown_of}
use Rattle.anti_adversary.proofs.shown.shown.Goals as goal

pub returns : goal.returns
returns c =
    let app = c.args.app.now in
    let k = c.loop-choice.choice-index in
    let past : length app.choices.items ≤ k =
    subst (λ (choices : List Choice). length choices ≤ k) c.as_slice-choice-items.ensures c.loop-choice-test.false in
    shown_of app c.in_ok-marks.marks.items c.in_ok-marks.trace c.requires
    (subst (λ (choices : List Choice). MakesMarks app [] choices c.in_ok-marks.marks.items c.in_ok-marks.trace)
    (take_all k app.choices.items past)
    (c.in_ok-marks.ensures.made (take k app.choices.items) c.loop-choice.invariant))
    c.in_ok-marks.ensures.legal
