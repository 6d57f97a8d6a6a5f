use Rattle.std.proofs.Common.{◌≡◌, ◌+◌, true, max, List, length, sym, ap, ◌∙◌, arith, is_some}
use Rattle.anti_kind.specs.declared.row.Row.{Row}
use Rattle.anti_kind.specs.Stored.{row_of}
use Rattle.anti_kind.specs.Store.{scanned}
use Rattle.anti_replicas.specs.Stores.{showing_whole}
use Rattle.anti_replicas.specs.inner.Scans.{version_in, before, listed}
use Rattle.anti_replicas.proofs.Scanning.{listing, scans_nothing, scanned_few, length_before}
use Rattle.anti_replicas.proofs.replicas.Replicas.scan_units.Goals as goal

pub returns-then-region-ge-MOST_REGIONS : goal.returns-then-region-ge-MOST_REGIONS
returns-then-region-ge-MOST_REGIONS c = λ s h at.
    ap (λ (rows : List Row). max 1 (length rows)) (sym (scans_nothing c.args.self.now s h at c.args.region c.if-region-ge-MOST_REGIONS.true c.args.prefix.now))

pub loop-key-preserved-then-is_version : goal.loop-key-preserved-then-is_version
loop-key-preserved-then-is_version c = λ s h at.
    let m = c.args.self.now in
    let g = c.args.region in
    let prefix = c.args.prefix.now in
    let rest = listed h m.newest g prefix c.next.new.self in
    let there : is_some (row_of h (version_in m.newest g prefix c.in-Some.key.now c.in-Some.number.now)) ≡ true =
    ap (λ v. is_some (row_of h v)) (sym c.version_in-version.ensures) ∙ sym (c.is_version.ensures s h at) ∙ c.if-is_version.true in
    let one : length (before (row_of h (version_in m.newest g prefix c.in-Some.key.now c.in-Some.number.now)) rest) ≡ length rest + 1 = length_before _ rest there in
    let was : c.loop-key.count + length (listed h m.newest g prefix c.loop-key.key-iterator) ≡ length (listed h m.newest g prefix m.newest.numbers.entries) = c.loop-key.invariant s h at in
    let is : length (listed h m.newest g prefix m.newest.numbers.entries) ≡ length (scanned (showing_whole s) h g prefix) =
    ap length (listing m s h at g c.if-region-ge-MOST_REGIONS.false prefix c.iter-key-items.ensures.ordered c.iter-key-items.ensures.found) in
    omega (arith, scanned_few m s h at g prefix, ap (λ es. length (listed h m.newest g prefix es)) c.in-Some.ensures.steps, c.saturating_add-count.ensures)

pub returns : goal.returns
returns c = λ s h at.
    let m = c.args.self.now in
    let g = c.args.region in
    let prefix = c.args.prefix.now in
    let was : c.loop-key.count + length (listed h m.newest g prefix c.loop-key.key-iterator) ≡ length (listed h m.newest g prefix m.newest.numbers.entries) = c.loop-key.invariant s h at in
    let is : length (listed h m.newest g prefix m.newest.numbers.entries) ≡ length (scanned (showing_whole s) h g prefix) =
    ap length (listing m s h at g c.if-region-ge-MOST_REGIONS.false prefix c.iter-key-items.ensures.ordered c.iter-key-items.ensures.found) in
    omega (arith, c.max.ensures, ap (λ es. length (listed h m.newest g prefix es)) c.in-None.ensures.steps.0)
