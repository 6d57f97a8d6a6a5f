use Rattle.std.proofs.Common.{sym}
use Rattle.anti_ids.proofs.PartLemmas.{begins_so}
use Rattle.anti_ids.proofs.id_parts.begins_behind.Goals as goal

pub returns-in-Some : goal.returns-in-Some
returns-in-Some c =
    begins_so c.args.id.now c.in-Some.first.now c.args.ids.now c.cmp.result c.is_gt.result c.requires (sym c.in-Some.ensures.value) c.cmp.ensures c.is_gt.ensures
