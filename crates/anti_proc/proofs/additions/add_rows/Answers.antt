use Rattle.std.proofs.Common.{◌≡◌, ◌+◌, List, ◌∷◌, drop, ap, ◌∙◌, arith}
use Rattle.std.proofs.lemmas.Grind.{common_steps}
use Rattle.anti_ids.specs.Ids.{with_ids}
use Rattle.anti_ids.specs.declared.id.WriteId.{WriteId}
use Rattle.anti_proc.specs.Local.{rows_ids}
use Rattle.anti_proc.proofs.Unions.{first_added, first_refused}
use Rattle.anti_proc.proofs.additions.add_rows.Goals as goal

pub returns-in_err-add_row : goal.returns-in_err-add_row
returns-in_err-add_row c =
    let i = c.loop-row.row-index in
    let rows = c.args.rows.now in
    let is : drop i rows ≡ c.row-item.result ∷ drop (i + 1) rows = grind (arith, common_steps) in
    let refused = first_refused c.args.store c.row-item.result (drop (i + 1) rows) (drop i rows) rows c.loop-row.carried c.args.carried.now is c.loop-row.invariant
    c.add_row.new.carried c.in_err-add_row.field-0.0 c.in_err-add_row.ensures in
    grind (arith, refused)

pub loop-row-preserved : goal.loop-row-preserved
loop-row-preserved c =
    let i = c.loop-row.row-index in
    let rows = c.args.rows.now in
    let is : drop i rows ≡ c.row-item.result ∷ drop (i + 1) rows = grind (arith, common_steps) in
    ap (λ (ids : List WriteId). with_ids (rows_ids c.args.store (drop (i + 1) rows)) ids) c.in_ok-add_row.ensures
    ∙ first_added c.args.store c.row-item.result (drop (i + 1) rows) (drop i rows) rows c.loop-row.carried c.args.carried.now is c.loop-row.invariant
