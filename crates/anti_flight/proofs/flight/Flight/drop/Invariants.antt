use Rattle.std.proofs.Common.{length}
use Rattle.anti_flight.proofs.flight.Flight.drop.Given as goal

abbrev pub decreases-loop-ticket : goal.decreases-loop-ticket
decreases-loop-ticket g l = length l.self.pairs
