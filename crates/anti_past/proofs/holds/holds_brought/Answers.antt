use Rattle.std.proofs.Common.{ap, ◌∙◌}
use Rattle.std.specs.List.{list_all}
use Rattle.law_causal.specs.Words.{reads}
use Rattle.anti_proc.specs.Local.{row_ids}
use Rattle.anti_past.specs.inner.Came.{holds}
use Rattle.anti_past.proofs.Held.{holds_shown}
use Rattle.anti_past.proofs.holds.holds_brought.Goals as goal

pub returns-in-Read-Shown : goal.returns-in-Read-Shown
returns-in-Read-Shown c =
    let e = c.args.entry.now in
    let lineage = c.args.lineage.now in
    c.holds_rows.ensures
    ∙ ap (list_all (λ row. holds lineage (row_ids e.object row))) c.as_slice.ensures
    ∙ holds_shown c.args.app.now lineage e.object c.in-Read-Shown.rows e.call e.reply (ap reads c.in-Read-Shown.is-0) c.in-Read-Shown.is-1

pub returns-in-Scan-Shown : goal.returns-in-Scan-Shown
returns-in-Scan-Shown c =
    let e = c.args.entry.now in
    let lineage = c.args.lineage.now in
    c.holds_rows-in-Scan-Shown.ensures
    ∙ ap (list_all (λ row. holds lineage (row_ids e.object row))) c.as_slice-in-Scan-Shown.ensures
    ∙ holds_shown c.args.app.now lineage e.object c.in-Scan-Shown.rows e.call e.reply (ap reads c.in-Scan-Shown.is-0) c.in-Scan-Shown.is-1

pub returns-in-Poll-Shown : goal.returns-in-Poll-Shown
returns-in-Poll-Shown c =
    let e = c.args.entry.now in
    let lineage = c.args.lineage.now in
    c.holds_rows-in-Poll-Shown.ensures
    ∙ ap (list_all (λ row. holds lineage (row_ids e.object row))) c.as_slice-in-Poll-Shown.ensures
    ∙ holds_shown c.args.app.now lineage e.object c.in-Poll-Shown.rows e.call e.reply (ap reads c.in-Poll-Shown.is-0) c.in-Poll-Shown.is-1
