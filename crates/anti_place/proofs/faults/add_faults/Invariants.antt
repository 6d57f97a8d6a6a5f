use Rattle.std.proofs.Common.{◌≡◌, ◌++◌, filter, length, map}
use Rattle.anti_lang.specs.Bodies.{block_from}
use Rattle.anti_lang.specs.Steps.{steps_of}
use Rattle.anti_place.specs.Reviews.{fails_there, faults_of}
use Rattle.anti_place.specs.inner.Joined.{is_later}
use Rattle.anti_place.proofs.faults.add_faults.Given as goal

-- those behind the last one are left
abbrev pub invariant-loop-fault : goal.invariant-loop-fault
invariant-loop-fault l =
    l.remarks.items ++ map (fails_there l.target.service l.target.handler) (filter (is_later l.after) (faults_of l.called l.named (block_from (steps_of l.body))))
    ≡ l.fn.remarks.items ++ map (fails_there l.target.service l.target.handler) (faults_of l.called l.named (block_from (steps_of l.body)))

abbrev pub decreases-loop-fault : goal.decreases-loop-fault
decreases-loop-fault l = length (filter (is_later l.after) (faults_of l.called l.named (block_from (steps_of l.body))))
