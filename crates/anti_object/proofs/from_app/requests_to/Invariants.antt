use Rattle.std.proofs.Common.{◌≡◌, take}
use Rattle.std.specs.Prelude.{flat_map}
use Rattle.anti_ids.specs.List.{plain}
use Rattle.anti_object.specs.Starts.{message_of}
use Rattle.anti_object.proofs.from_app.requests_to.Given as goal

-- the messages of the requests so far
abbrev pub invariant-loop-request : goal.invariant-loop-request
invariant-loop-request l = l.messages ≡ plain (flat_map (message_of l.service l.number) (take l.request-index l.request-items))
