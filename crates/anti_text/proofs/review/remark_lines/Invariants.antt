use Rattle.std.proofs.Common.{◌≡◌, ◌++◌, take}
use Rattle.std.specs.List.{flat_map}
use Rattle.anti_text.specs.Reviews.{remark_line}
use Rattle.anti_text.proofs.review.remark_lines.Given as goal

-- the remarks so far are written
abbrev pub invariant-loop-remark : goal.invariant-loop-remark
invariant-loop-remark l = l.out ≡ l.initial.out ++ flat_map (remark_line l.app) (take l.remark-index l.remarks)
