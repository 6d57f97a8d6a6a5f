use Rattle.std.proofs.Common.{◌≡◌, ◌++◌, drop, filter, map}
use Rattle.anti_app.specs.Subs.{is_on, sub_of, subs_on}
use Rattle.anti_app.proofs.stored_subs.subs_on.Given as goal

-- those of the subscriptions to come go behind those of the ones before
abbrev pub invariant-loop-sub : goal.invariant-loop-sub
invariant-loop-sub l = l.subs.items ++ map (sub_of l.app) (filter (is_on l.store) (drop l.sub-index l.app.subs.items)) ≡ subs_on l.app l.store
