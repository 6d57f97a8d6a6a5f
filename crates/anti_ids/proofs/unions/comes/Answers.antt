use Rattle.std.proofs.Common.{◌≡◌, List, true, sym, ap, ◌∙◌, rules}
use Rattle.std.proofs.lemmas.Bool.{or_left}
use Rattle.anti_ids.specs.declared.id.WriteId.{WriteId}
use Rattle.anti_ids.specs.Ids.{is_id, has_id}
use Rattle.anti_ids.proofs.IdLemmas.{is_id-itself}
use Rattle.anti_ids.proofs.unions.comes.Goals as goal

pub returns-then-eq-clause-there : goal.returns-then-eq-clause-there
returns-then-eq-clause-there c = λ _.
    let id = c.args.id.now in
    let next = c.in-Some.next.now in
    let equal = sym c.eq.ensures ∙ c.if-eq.true in
    let same : next ≡ id = search rules in
    let here : is_id id next ≡ true = ap (λ (x : WriteId). is_id id x) same ∙ is_id-itself id in
    c.loop-next.invariant id (ap (λ (x : List WriteId). has_id id x) c.in-Some.ensures.steps ∙ or_left (is_id id next) (has_id id c.next.new.self) here)
