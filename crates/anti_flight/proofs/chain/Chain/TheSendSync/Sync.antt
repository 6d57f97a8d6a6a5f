use denote.RattleType.{RattleType}
use denote.Param.Send.{IsSync}
use Rattle.anti_flight.proofs.Crosses.{Chain-sync}
use Rattle.anti_flight.specs.contracts.chain.Chain.{the_row}

pub sync : (T : RattleType) → IsSync T → IsSync (the_row T)
sync = Chain-sync
