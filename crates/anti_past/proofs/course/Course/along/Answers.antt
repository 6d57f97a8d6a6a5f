use Rattle.std.proofs.Common.{sym, ◌∙◌}
use Rattle.anti_past.proofs.course.Course.along.Goals as goal

pub by_trail-requires-clause-trail : goal.by_trail-requires-clause-trail
by_trail-requires-clause-trail c = c.requires.trail.trail (sym c.is_kept.ensures ∙ c.if-is_kept.true)
