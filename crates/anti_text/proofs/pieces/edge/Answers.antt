use Rattle.std.proofs.Common.{arith}
use Rattle.anti_text.proofs.Cuts.{edge_at}
use Rattle.anti_text.proofs.pieces.edge.Goals as goal

pub returns : goal.returns
returns c = edge_at 0 c.args.ends.now c.args.number (omega (arith, c.if-number-eq0.false)) c.requires
