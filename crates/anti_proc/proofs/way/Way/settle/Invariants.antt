use Rattle.std.proofs.Common.{◌≡◌, true}
use Rattle.anti_proc.specs.inner.Cursors.{weight}
use Rattle.anti_proc.specs.inner.Running.{HasSpans}
use Rattle.anti_proc.specs.inner.Standing.{going, left_to_run, local_in}
use Rattle.anti_proc.specs.inner.Statements.{NoneHere}
use Rattle.anti_proc.proofs.way.Way.settle.Given as goal

-- what was passed makes no call, and its spans were counted; and where it is known that no look is to be made, none is
abbrev pub invariant-loop-statement : goal.invariant-loop-statement
invariant-loop-statement l = record {
  same : l.self ≡ record l.initial.self { cursor = l.self.cursor; changes = l.self.changes };
  goes : going l.initial.self.app.now l.initial.self.given.now l.self.cursor (local_in l.self)
      ≡ going l.initial.self.app.now l.initial.self.given.now l.initial.self.cursor (local_in l.initial.self);
  spans : HasSpans l.initial.self.app.now l.initial.self.given.now.role l.self.cursor l.self.changes.span;
  none : l.none_here ≡ true → NoneHere l.self;
}

abbrev pub decreases-loop-statement : goal.decreases-loop-statement
decreases-loop-statement l = weight (left_to_run l.initial.self.app.now l.initial.self.given.now.role l.self.cursor)
