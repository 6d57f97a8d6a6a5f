use Rattle.std.proofs.Common.{◌==◌}
use Rattle.anti_baggage.proofs.Readable.{cut_before, cut_behind, whole_before, none_behind}
use Rattle.anti_baggage.proofs.named_id.cut.Goals as goal

pub returns-in-Some-clause-before : goal.returns-in-Some-clause-before
returns-in-Some-clause-before c = cut_before (λ b. b == c.args.mark) c.args.text.now c.in-Some.at c.in-Some.ensures

pub returns-in-Some-clause-behind : goal.returns-in-Some-clause-behind
returns-in-Some-clause-behind c = cut_behind (λ b. b == c.args.mark) c.args.text.now c.in-Some.at c.in-Some.ensures

pub returns-in-None-clause-before : goal.returns-in-None-clause-before
returns-in-None-clause-before c = whole_before (λ b. b == c.args.mark) c.args.text.now c.in-None.ensures

pub returns-in-None-clause-behind : goal.returns-in-None-clause-behind
returns-in-None-clause-behind c = none_behind (λ b. b == c.args.mark) c.args.text.now c.in-None.ensures
