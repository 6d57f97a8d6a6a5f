use Rattle.std.proofs.Common.{◌≡◌, ◌-◌, ◌++◌}
use Rattle.anti_load.specs.Load.{generator}
use Rattle.anti_load.proofs.Drawn.{requests_of}
use Rattle.anti_load.proofs.requests.requests_drawn.Given as goal

-- what is left goes behind what was drawn
abbrev pub invariant-loop : goal.invariant-loop
invariant-loop l = record {
  made : l.requests.items ++ requests_of (l.n - l.counter) l.drawn ≡ requests_of l.n (generator l.n);
  spare : l.requests.spare ≡ 0;
}
