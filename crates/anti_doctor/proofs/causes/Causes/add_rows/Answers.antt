use Rattle.std.proofs.Common.{◌≡◌, ◌+◌, ◌∷◌, drop, sym, ap, ◌∙◌}
use Rattle.std.proofs.lemmas.List.{drop_all, drop_more}
use Rattle.anti_kind.specs.declared.row.Row.{Row}
use Rattle.anti_proc.specs.Local.{id_at}
use Rattle.anti_doctor.specs.inner.Gathered.{have_kept, ids_of_rows}
use Rattle.anti_doctor.proofs.Closed.{joins_both, joins_none, kept_both, still_ready}
use Rattle.anti_doctor.proofs.causes.Causes.add_rows.Goals as goal

pub add_row-requires : goal.add_row-requires
add_row-requires c = c.loop-row.invariant.ready

pub loop-row-preserved : goal.loop-row-preserved
loop-row-preserved c =
    let causes = c.args.self.now in
    let writes = c.args.writes.now in
    let store = c.args.store in
    let rows = c.args.rows.now in
    let k = c.loop-row.row-index in
    let row = c.row-item.result in
    let left = drop (k + 1) rows in
    let ids = id_at store row.key row.version in
    let cut : drop k rows ≡ row ∷ drop (k + 1) rows =
    drop_more rows k row c.loop-row-test.true ∙ ap (λ (r : Row). r ∷ drop (k + 1) rows) (sym c.row-item.is) in
    record {
      ready = still_ready causes (have_kept causes writes ids) c.loop-row.set c.add_row.new.set c.loop-row.invariant.ready
          c.add_row.ensures;
      rest = λ all rest.
          c.loop-row.invariant.rest all
          (joins_both causes (have_kept causes writes ids) (have_kept causes writes (ids_of_rows store left))
          (have_kept causes writes (ids_of_rows store (drop k rows))) c.loop-row.set c.add_row.new.set all c.add_row.ensures rest
          (λ n. ap (λ rs. have_kept causes writes (ids_of_rows store rs) n) cut ∙ kept_both causes writes ids (ids_of_rows store left) n));
    }

pub returns : goal.returns
returns c =
    let causes = c.args.self.now in
    let writes = c.args.writes.now in
    let left = drop c.loop-row.row-index c.args.rows.now in
    let none = drop_all c.loop-row.row-index c.args.rows.now c.loop-row-test.false in
    c.loop-row.invariant.rest c.loop-row.set
    (joins_none causes (have_kept causes writes (ids_of_rows c.args.store left)) c.loop-row.set c.loop-row.invariant.ready
    (λ n. ap (λ rs. have_kept causes writes (ids_of_rows c.args.store rs) n) none))
