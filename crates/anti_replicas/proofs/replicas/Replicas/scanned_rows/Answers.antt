use Rattle.std.proofs.Common.{◌≡◌, List, ◌∷◌, [], ◌++◌, Some, append_assoc, append-nil, sym, ap, ◌∙◌, arith}
use Rattle.anti_ids.specs.List.{Listed, plain}
use Rattle.anti_kind.specs.declared.row.Row.{Row}
use Rattle.anti_kind.specs.Stored.{row_of}
use Rattle.anti_replicas.specs.inner.Scans.{version_in, before, listed}
use Rattle.anti_replicas.proofs.Scanning.{listing, scans_nothing}
use Rattle.anti_replicas.proofs.replicas.Replicas.scanned_rows.Goals as goal

pub returns-then-region-ge-MOST_REGIONS : goal.returns-then-region-ge-MOST_REGIONS
returns-then-region-ge-MOST_REGIONS c = λ s h at.
    c.new-rows.ensures ∙ ap (λ (rows : List Row). plain rows) (sym (scans_nothing c.args.self.now s h at c.args.region c.if-region-ge-MOST_REGIONS.true c.args.prefix.now))

pub loop-key-preserved-in-Continue-branch-3 : goal.loop-key-preserved-in-Continue-branch-3
loop-key-preserved-in-Continue-branch-3 c =
    let m = c.args.self.now in
    let g = c.args.region in
    let prefix = c.args.prefix.now in
    let rows = c.loop-key.rows.items in
    let row = c.in-Some-2.row in
    let rest = c.next.new.self in
    record {
      rows = λ s h at.
          let is : row_of h (version_in m.newest g prefix c.in-Some.key.now c.in-Some.number.now) ≡ Some row =
          ap (row_of h) (sym c.version_in-version.ensures) ∙ sym (c.in_ok-row.ensures s h at) ∙ c.in-Some-2.is in
          ap (λ (list : Listed Row). list.items ++ listed h m.newest g prefix rest) c.in_ok-add.ensures.ok
          ∙ append_assoc rows (row ∷ []) (listed h m.newest g prefix rest)
          ∙ ap (λ o. rows ++ before o (listed h m.newest g prefix rest)) (sym is)
          ∙ ap (λ es. rows ++ listed h m.newest g prefix es) (sym c.in-Some.ensures.steps)
          ∙ c.loop-key.invariant.rows s h at;
      spare = omega (arith, c.loop-key.invariant.spare, ap (λ (list : Listed Row). list.spare) c.in_ok-add.ensures.ok);
    }

pub returns : goal.returns
returns c = λ s h at.
    let m = c.args.self.now in
    let g = c.args.region in
    let prefix = c.args.prefix.now in
    let rows = c.loop-key.rows.items in
    let all : rows ≡ listed h m.newest g prefix m.newest.numbers.entries =
    sym (append-nil rows) ∙ ap (λ es. rows ++ listed h m.newest g prefix es) (sym c.in-None.ensures.steps.0) ∙ c.loop-key.invariant.rows s h at in
    ap (λ n. record { items = rows; spare = n }) c.loop-key.invariant.spare
    ∙ ap (λ (rows : List Row). plain rows)
    (all ∙ listing m s h at g c.if-region-ge-MOST_REGIONS.false prefix c.iter-key-items.ensures.ordered c.iter-key-items.ensures.found)
