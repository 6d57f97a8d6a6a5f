use Rattle.std.proofs.Common.{◌≡◌, ◌≤◌}
use Rattle.anti_adversary.specs.inner.Searching.{IsSearched}
use Rattle.anti_adversary.proofs.searching.search.Given as goal

-- the application is as it was, and so many runs were tried at most
abbrev pub invariant-loop-number : goal.invariant-loop-number
invariant-loop-number l = record {
  same : l.app ≡ l.fn.app;
  searched : IsSearched l.app l.searched;
  few : l.searched.runs ≤ l.number;
}
