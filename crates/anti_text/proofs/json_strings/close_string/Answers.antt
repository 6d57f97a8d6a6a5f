use Rattle.std.proofs.Common.{◌≡◌, drop, ap, ◌∙◌, subst, rules}
use Rattle.std.proofs.lemmas.List.{take_rest}
use Rattle.std.proofs.lemmas.Result.{on_ok_weaker}
use Rattle.anti_text.specs.inner.Quoting.{AreClear}
use Rattle.anti_text.proofs.Quoted.{closing}
use Rattle.anti_text.proofs.json_strings.close_string.Goals as goal

pub returns-then-are_clear : goal.returns-then-are_clear
returns-then-are_clear c =
    let clear : AreClear c.in-Some.said.now = search rules in
    let left : c.in-Some.said.now ≡ drop c.args.begun c.args.out.now =
    c.in-Some.ensures.lookup.0.2 ∙ take_rest c.bytes.result.now c.args.begun ∙ ap (drop c.args.begun) c.bytes.ensures in
    on_ok_weaker c.put.result (λ added front said is begins. added ∙ closing c.args.out.now front said c.args.begun is begins (subst AreClear left clear)) c.put.ensures
