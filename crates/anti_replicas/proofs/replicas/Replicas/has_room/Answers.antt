use Rattle.std.proofs.Common.{◌≤◌, ◌∷◌, length, sym, arith}
use Rattle.std.proofs.lemmas.Bool.{le-leb}
use Rattle.anti_ids.specs.Ids.{with_ids}
use Rattle.anti_ids.specs.declared.id.WriteId.{WriteId}
use Rattle.anti_ids.specs.declared.limits.TheConstants.{MOST_IDS}
use Rattle.anti_kind.specs.declared.row.Row.{Row}
use Rattle.anti_replicas.proofs.Replacing.{few_together}
use Rattle.anti_replicas.proofs.replicas.Replicas.has_room.Goals as goal

pub returns-then-len : goal.returns-then-len
returns-then-len c =
    let row : Row = c.args.row.now in
    let id : WriteId = record { store = c.args.self.now.store; key = row.key; version = row.version } in
    let few : length (with_ids (id ∷ row.lineage) c.args.lineage.now) ≤ MOST_IDS = few_together id row.lineage c.args.lineage.now (omega (arith, c.len.ensures.len, c.len-2.ensures.len, c.if-len.true)) in
    sym (le-leb (length (with_ids (id ∷ row.lineage) c.args.lineage.now)) MOST_IDS few)
