use Rattle.std.proofs.Common.{◌≤◌, vec_capacity}
use Rattle.anti_trace.specs.inner.After.{AreFirst}
use Rattle.anti_trace.proofs.objects.first_objects.Given as goal

-- the objects so far, and room for all
abbrev pub invariant-loop-number : goal.invariant-loop-number
invariant-loop-number l = AreFirst l.app l.number l.objects.items × (l.count ≤ vec_capacity l.objects)
