use Rattle.std.proofs.Common.{◌≡◌, ◌≤◌, List, [], length, sym, ap, subst, arith}
use Rattle.std.specs.Prelude.{IfOk, Option}
use Rattle.std.specs.Option.{option_map_or}
use Rattle.std.proofs.lemmas.Option.{slice_get_past}
use Rattle.anti_kind.specs.declared.entry.Entry.{Entry}
use Rattle.law_causal.specs.Words.{brings}
use Rattle.anti_past.specs.inner.Came.{holds}
use Rattle.anti_past.proofs.holds.holds_at.Goals as goal

pub returns-then-index-len : goal.returns-then-index-len
returns-then-index-len c =
    subst (λ (found : Option Entry). IfOk c.holds_brought.result (λ answer. answer ≡ holds c.args.lineage.now (option_map_or (brings c.args.app.now) found [])))
    (sym c.at.ensures) c.holds_brought.ensures

pub returns : goal.returns
returns c =
    let trace : List Entry = c.args.trace.now in
    let past : length trace ≤ c.args.index = omega (arith, c.len.ensures.len, c.if-index-len.false) in
    sym (ap (λ (found : Option Entry). holds c.args.lineage.now (option_map_or (brings c.args.app.now) found [])) (slice_get_past trace c.args.index past))
