use Rattle.std.proofs.Common.{sym, ◌∙◌}
use Rattle.anti_order.proofs.Unsettled.{all_settled, first_within, is_first}
use Rattle.anti_order.proofs.grounds.answer_lossless.Goals as goal

pub mark_at-requires : goal.mark_at-requires
mark_at-requires c =
    let known = c.requires.pasts in
    first_within known.0 c.args.trace.now c.args.pasts.now known.1 c.args.reads.now c.requires.reads c.in-Some.read (sym c.in-Some.ensures)

pub returns-in-Some : goal.returns-in-Some
returns-in-Some c = λ app lossless are. (
  lossless,
  is_first app c.args.trace.now c.args.pasts.now are c.args.reads.now c.requires.reads c.in-Some.read (sym c.in-Some.ensures) c.mark_at.result c.mark_at.ensures,
)

pub returns : goal.returns
returns c = λ app lossless are. (
  lossless,
  all_settled app c.args.trace.now c.args.pasts.now are c.args.reads.now c.requires.reads (sym c.first_unsettled.ensures ∙ c.in_default.is),
  c.in_ok-order.ensures app are,
)
