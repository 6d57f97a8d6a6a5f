use Rattle.std.proofs.Common.{length, ap, arith}
use Rattle.std.proofs.lemmas.List.Folds.{length-flat_map-take}
use Rattle.anti_ids.specs.List.{Listed}
use Rattle.anti_kind.specs.declared.entry.Entry.{Entry}
use Rattle.anti_trace.proofs.history_merge.entry_count.Goals as goal

pub overflow_add-count : goal.overflow_add-count
overflow_add-count c =
    let within = length-flat_map-take (λ (h : Listed Entry). h.items) c.args.histories.now c.loop-history.history-index c.history-item.result c.loop-history-test.true in
    let same = ap (λ (h : Listed Entry). length h.items) c.history-item.is in omega arith
