use Rattle.std.proofs.Common.{◌≡◌, ◌≤◌, [], drop}
use Rattle.anti_lang.specs.Stated.{all_stated}
use Rattle.anti_lang.specs.Faults.{has_end}
use Rattle.anti_lang.proofs.BodyLemmas.{ends}
use Rattle.anti_lang.proofs.block_faults.has_end.Given as goal

abbrev pub invariant-loop-line : goal.invariant-loop-line
invariant-loop-line l = record { few : l.inner ≤ l.line-index; left : ends l.inner (all_stated (drop l.line-index l.lines)) ≡ has_end (all_stated l.lines) [] }
