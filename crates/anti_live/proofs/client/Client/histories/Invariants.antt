use Rattle.std.proofs.Common.{All, take}
use Rattle.anti_object.specs.Standing.{object_start}
use Rattle.anti_shared.specs.Passes.{IsPass}
use Rattle.anti_live.proofs.client.Client.histories.Given as goal

-- of each pass so far the client has seen a legal history
abbrev pub invariant-loop-pass : goal.invariant-loop-pass
invariant-loop-pass l = All (IsPass object_start) (take l.pass-index l.pass-items)
