use Rattle.std.proofs.Common.{Option, sym, subst}
use Rattle.std.specs.Prelude.{List, unwrap_or}
use Rattle.anti_ids.specs.declared.id.WriteId.{WriteId}
use Rattle.anti_shim.specs.Shims.{Appends}
use Rattle.anti_shim.proofs.Carried.{appends_alone}
use Rattle.anti_shim.proofs.store_shim.append_written.Goals as goal

-- what is kept is carried already
pub returns-in-None : goal.returns-in-None
returns-in-None c =
    let id : WriteId = c.args.made.now.id in
    let old : List WriteId = c.args.carried.ids in
    subst (λ (over : Option (List WriteId)). Appends id (unwrap_or over old) old c.append_id.new.lineage c.append_id.result) (sym c.in-None.is)
    (appends_alone id old c.append_id.new.lineage c.requires.ascending c.append_id.result c.append_id.ensures)
