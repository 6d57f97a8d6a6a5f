use Rattle.std.proofs.Common.{ℕ, ◌-◌, ◌++◌, List, [], take, drop, get_or, ap, ◌∙◌, arith}
use Rattle.std.specs.List.{concat}
use Rattle.anti_text.proofs.Runs.{one_more, another}
use Rattle.anti_text.proofs.pieces.Pieces.go_on.Goals as goal

pub returns-then-number-run-clause-text : goal.returns-then-number-run-clause-text
returns-then-number-run-clause-text c =
    let pieces = c.args.self.now in
    let out = c.args.out.now in
    let from = c.args.run.from in
    let number = c.args.number in
    ap (λ (n : ℕ). out ++ concat (take (n - from) (drop from pieces))) c.behind.ensures
    ∙ one_more out pieces from number (omega (arith, c.if-number-run.true, c.requires.run.ascends)) c.requires.number
    ∙ ap (λ (n : ℕ). (out ++ concat (take (n - from) (drop from pieces))) ++ get_or pieces number []) c.if-number-run.true

pub returns-clause-text : goal.returns-clause-text
returns-clause-text c =
    let pieces = c.args.self.now in
    let written = c.write.new.out in
    let number = c.args.number in
    ap (λ (n : ℕ). written ++ concat (take (n - number) (drop number pieces))) c.behind-2.ensures
    ∙ ap (λ (t : List ℕ). written ++ t) (another pieces number c.requires.number)
    ∙ ap (λ (t : List ℕ). t ++ get_or pieces number []) c.in_ok-write.ensures
