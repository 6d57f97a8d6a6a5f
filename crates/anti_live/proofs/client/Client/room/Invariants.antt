use Rattle.std.proofs.Common.{◌≡◌, take}
use Rattle.anti_live.specs.Clients.{least_room}
use Rattle.anti_live.proofs.client.Client.room.Given as goal

-- the least room of the passes so far
abbrev pub invariant-loop-pass : goal.invariant-loop-pass
invariant-loop-pass l = l.least ≡ least_room (take l.pass-index l.pass-items)
