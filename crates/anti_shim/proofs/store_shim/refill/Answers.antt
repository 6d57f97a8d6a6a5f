use Rattle.std.proofs.Common.{◌≡◌, List, [], length, ap, ◌∙◌, arith}
use Rattle.anti_ids.specs.Ids.{with_ids}
use Rattle.anti_ids.specs.Invariants.{IsAscending}
use Rattle.anti_ids.specs.declared.id.WriteId.{WriteId}
use Rattle.anti_ids.proofs.IdLemmas.{with_ids-nil}
use Rattle.anti_shim.proofs.store_shim.refill.Goals as goal

-- with no ids before them the ids are as they were
filled : (before ids : List WriteId) → IsAscending before → ids ≡ [] → with_ids before ids ≡ before
filled before ids asc none = ap (with_ids before) none ∙ with_ids-nil before asc

pub transfer-requires : goal.transfer-requires
transfer-requires c =
    let all : with_ids c.args.before.now c.args.spare.now.ids ≡ c.args.before.now = filled c.args.before.now c.args.spare.now.ids c.iter-ascending.ensures.lineage.ascending c.requires.ids in
    omega (arith, ap length all, c.requires.room, c.iter-ascending.ensures.lineage.short)

pub unreachable-requires : goal.unreachable-requires
unreachable-requires c =
    let all : with_ids c.args.before.now c.args.spare.now.ids ≡ c.args.before.now = filled c.args.before.now c.args.spare.now.ids c.iter-ascending.ensures.lineage.ascending c.requires.ids in
    omega (arith, ap length all, c.in_default.ensures.full, c.iter-ascending.ensures.lineage.short)

pub returns-clause-ids : goal.returns-clause-ids
returns-clause-ids c =
    c.in-Ok.ensures.ok ∙ filled c.args.before.now c.args.spare.now.ids c.iter-ascending.ensures.lineage.ascending c.requires.ids
