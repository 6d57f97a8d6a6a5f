use Rattle.std.proofs.Common.{◌≡◌, ◌++◌, drop}
use Rattle.anti_app.specs.Objects.{here_from}
use Rattle.anti_app.proofs.objects.stores_here.Given as goal

-- the stores from this one on are behind those that were found
abbrev pub invariant-loop-number : goal.invariant-loop-number
invariant-loop-number l = l.here.items ++ here_from l.region l.number (drop l.number l.app.stores.items) ≡ here_from l.region 0 l.app.stores.items
