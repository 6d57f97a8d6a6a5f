use Rattle.std.proofs.Common.{◌≡◌, ◌<◌, ◌∷◌, List, length, sym, ap, ◌∙◌, arith, rules}
use Rattle.std.specs.Prelude.{IsErrOf}
use Rattle.anti_ids.specs.declared.id.WriteId.{WriteId}
use Rattle.anti_ids.specs.declared.limits.TheConstants.{MOST_IDS}
use Rattle.anti_ids.specs.declared.lineage.LineageRefused.TheVariants.{Full}
use Rattle.anti_ids.specs.Ids.{with_id, with_ids}
use Rattle.anti_ids.proofs.IdLemmas.{le-length-with_ids}
use Rattle.anti_ids.proofs.unions.add_each.Goals as goal

pub returns-in_err-add_to-clause-full : goal.returns-in_err-add_to-clause-full
returns-in_err-add_to-clause-full c = λ full.
    let ids = c.loop-id.block in
    let was_full : IsErrOf c.add_to.result Full = search rules in
    let step : c.loop-id.id-iterator ≡ c.in-Some.id.now ∷ c.next.new.self = search rules in
    let all : with_ids c.loop-id.id-iterator ids ≡ with_ids c.args.further c.args.block.now = search rules in
    let rest : with_ids c.next.new.self (with_id c.in-Some.id.now ids) ≡ with_ids c.args.further c.args.block.now = sym (ap (λ (x : List WriteId). with_ids x ids) step) ∙ all in
    let many : MOST_IDS < length (with_id c.in-Some.id.now ids) = c.add_to.ensures.too_many was_full in
    omega (arith, many, le-length-with_ids c.next.new.self (with_id c.in-Some.id.now ids), ap length rest)
