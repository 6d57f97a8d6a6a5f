use Rattle.std.proofs.Common.{sym}
use Rattle.anti_ids.proofs.Places.{goes_behind}
use Rattle.anti_ids.proofs.ascending.goes_last.Goals as goal

pub returns-in-Some : goal.returns-in-Some
returns-in-Some c =
    goes_behind c.args.id.now c.in-Some.last.now c.args.ids.now c.cmp.result c.is_lt.result c.requires (sym c.in-Some.ensures.value) c.cmp.ensures c.is_lt.ensures
