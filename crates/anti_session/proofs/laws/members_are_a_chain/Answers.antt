use Rattle.std.proofs.Common.{arith}
use Rattle.std.specs.Prelude.{length}
use Rattle.law_causal.proofs.Legal.{facts}
use Rattle.law_serial.proofs.Chains.{pairs_chain}
use Rattle.anti_session.specs.Members.{members}
use Rattle.anti_session.proofs.Chained.{are_ordered}
use Rattle.anti_session.proofs.Deep.{deep_enough}
use Rattle.anti_session.proofs.laws.members_are_a_chain.Goals as goal

pub returns-clause-chain : goal.returns-clause-chain
returns-clause-chain c = λ app trace legal birth span.
    let its = are_ordered app trace legal (length trace) in
    (its.read birth span, pairs_chain trace (members trace birth span) (its.ordered birth span))

pub returns-clause-unfold : goal.returns-clause-unfold
returns-clause-unfold c = λ app trace sound legal birth span.
    deep_enough app trace legal (facts app trace sound legal) (length trace) 0 birth span (λ x among. omega arith) (omega arith)
