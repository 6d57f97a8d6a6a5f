use Rattle.std.proofs.Common.{◌≡◌, ◌++◌, true, List, sym, ap, ap₂, ◌∙◌}
use Rattle.anti_ids.specs.declared.id.WriteId.{WriteId}
use Rattle.law_causal.specs.Words.{reads, rows_in}
use Rattle.anti_proc.specs.Local.{rows_ids}
use Rattle.law_serial.specs.Order.{past_of}
use Rattle.anti_order.specs.inner.NumberSets.{room_for}
use Rattle.anti_order.specs.inner.PastWrites.{carried_in}
use Rattle.anti_order.proofs.InPast.{adds_both, brings_rows, carried_is, past_has}
use Rattle.anti_order.proofs.Places.{is_at_entry, is_at_within}
use Rattle.anti_order.proofs.past_writes.past_writes.Goals as goal

pub at-requires : goal.at-requires
at-requires c = is_at_within (λ e. reads e.call) c.args.trace.now c.args.read c.requires.read

pub returns-clause-members : goal.returns-clause-members
returns-clause-members c = λ app are i is.
    let trace = c.args.trace.now in
    let writes = c.args.writes.now in
    let r = c.args.read in
    let e = c.at.result.now in
    let carried = carried_in c.args.pasts.now r in
    let shown = rows_ids e.object (rows_in e.call e.reply) in
    let none = c.in_ok-numbers.numbers in
    let some = c.add_shown.new.numbers in
    let read : reads e.call ≡ true = sym (is_at_entry (λ e. reads e.call) trace r e c.at.ensures) ∙ c.requires.read in
    let past : carried ++ shown ≡ past_of app trace r e =
    ap₂ (λ (xs ys : List WriteId). xs ++ ys) (carried_is app trace c.args.pasts.now are r e c.at.ensures read)
    (brings_rows app e.object e.call e.reply read) in
    past_has trace writes c.requires.writes (carried ++ shown) none some c.in_ok-numbers.ensures.none (c.in_ok-numbers.ensures.room ∙ ap room_for c.len.ensures)
    (adds_both writes carried shown none c.add_carried.new.numbers some c.add_carried.ensures c.add_shown.ensures)
    app r e c.at.ensures past i is
