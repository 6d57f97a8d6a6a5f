use Rattle.sample_callers.proofs.Clients.{has_room}
use Rattle.sample_callers.proofs.live.start.Goals as goal

pub returns-clause-room : goal.returns-clause-room
returns-clause-room c = has_room 0 c.start.result c.start.ensures.client
