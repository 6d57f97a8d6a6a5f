use Rattle.std.proofs.Common.{◌≡◌, ◌+◌, List, ◌∷◌, drop, sym, ap, ◌∙◌, subst}
use Rattle.std.proofs.lemmas.List.{drop_all, drop_more}
use Rattle.anti_kind.specs.declared.row.Row.{Row}
use Rattle.anti_proc.specs.Local.{row_ids, rows_ids}
use Rattle.anti_order.specs.inner.PastWrites.{AddsNumbers}
use Rattle.anti_order.proofs.InPast.{adds_both, adds_none}
use Rattle.anti_order.proofs.past_writes.add_rows.Goals as goal

pub loop-row-preserved : goal.loop-row-preserved
loop-row-preserved c = λ all rest.
    let writes = c.args.writes.now in
    let store = c.args.store in
    let rows = c.args.rows.now in
    let k = c.loop-row.row-index in
    let row = c.row-item.result in
    let cut : drop k rows ≡ row ∷ drop (k + 1) rows =
    drop_more rows k row c.loop-row-test.true ∙ ap (λ (r : Row). r ∷ drop (k + 1) rows) (sym c.row-item.is) in
    c.loop-row.invariant all
    (subst (λ (rs : List Row). AddsNumbers writes (rows_ids store rs) c.loop-row.numbers all) (sym cut)
    (adds_both writes (row_ids store row) (rows_ids store (drop (k + 1) rows)) c.loop-row.numbers c.add_row.new.numbers all c.add_row.ensures rest))

pub returns : goal.returns
returns c =
    let none = drop_all c.loop-row.row-index c.args.rows.now c.loop-row-test.false in
    c.loop-row.invariant c.loop-row.numbers
    (subst (λ (rs : List Row). AddsNumbers c.args.writes.now (rows_ids c.args.store rs) c.loop-row.numbers c.loop-row.numbers) (sym none)
    (adds_none c.args.writes.now c.loop-row.numbers))
