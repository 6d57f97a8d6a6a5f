use denote.RattleType.{RattleType}
use denote.Param.Send.{IsSend}
use Rattle.anti_flight.proofs.Crosses.{Chain-send}
use Rattle.anti_flight.specs.contracts.chain.Chain.{the_row}

pub send : (T : RattleType) → IsSend T → IsSend (the_row T)
send = Chain-send
