use Rattle.std.proofs.Common.{ap, ◌∙◌, arith}
use Rattle.anti_app.specs.declared.app.RequestDef.{RequestDef}
use Rattle.anti_ids.specs.List.{Listed}
use Rattle.anti_load.proofs.Drawn.{draws_next, all_drawn}
use Rattle.anti_load.proofs.requests.requests_drawn.Goals as goal

pub loop-preserved : goal.loop-preserved
loop-preserved c =
    let added = c.in_ok-add.ensures.ok in
    let next = draws_next c.args.n c.loop.counter c.loop.drawn c.next_word.new.self c.next_word.result c.in_ok-request.request
    c.loop.requests c.add.new.self c.loop-test.true c.next_word.ensures c.in_ok-request.ensures added in
    record {
      made = next ∙ c.loop.invariant.made;
      spare = omega (arith, ap (λ (l : Listed RequestDef). l.spare) added, c.loop.invariant.spare);
    }

pub returns : goal.returns
returns c = all_drawn c.args.n c.loop.counter c.loop.drawn c.loop.requests _ c.loop-test.false c.loop.invariant.made c.loop.invariant.spare
