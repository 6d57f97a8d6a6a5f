use Rattle.std.proofs.Common.{ap, arith}
use Rattle.anti_ids.specs.Ids.{has_id}
use Rattle.anti_past.proofs.walk.Walk.new.Goals as goal

pub returns : goal.returns
returns c = λ trace legal. record {
  sound = c.requires;
  legal = legal;
  cursor = c.in_ok-cursor.ensures trace;
  known = λ q w. ap (has_id w) (c.new-came.ensures c.args.app.now trace q);
  none = λ i a low there loses. absurd (omega arith);
  found = c.new-found.ensures;
}
