use Rattle.std.proofs.Common.{◌∙◌, rules}
use Rattle.std.proofs.lemmas.Result.{on_ok_weaker}
use Rattle.anti_text.specs.inner.Quoting.{AreClear}
use Rattle.anti_text.proofs.Quoted.{quoted_whole}
use Rattle.anti_text.proofs.json_strings.put_string.Goals as goal

pub returns-then-are_clear : goal.returns-then-are_clear
returns-then-are_clear c =
    let clear : AreClear c.args.said.now = search rules in
    on_ok_weaker c.put_all.result (λ added. added ∙ quoted_whole c.args.out.now c.args.before.now c.args.said.now clear) c.put_all.ensures
