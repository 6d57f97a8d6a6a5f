use Rattle.std.proofs.Common.{ℕ, List, map, sym, ap, ◌∙◌, arith}
use Rattle.std.specs.Prelude.{Some}
use Rattle.std.proofs.lemmas.Grind.{common_steps}
use Rattle.anti_trace.specs.declared.mark.Mark.{Mark}
use Rattle.anti_order.proofs.MarksKnown.{never_none, places_more}
use Rattle.anti_order.proofs.marks.places_of.Goals as goal

pub unreachable-requires : goal.unreachable-requires
unreachable-requires c =
    let d : Mark = record { object = 0; place = 0 } in
    never_none _ (c.requires c.loop-mark.mark-index d c.loop-mark-test.true) (sym c.in-None.is ∙ c.find.ensures)

pub loop-mark-preserved : goal.loop-mark-preserved
loop-mark-preserved c =
    let d : Mark = record { object = 0; place = 0 } in
    ap (λ (is : List ℕ). map Some is) c.in_ok-push-in-Some.ensures.items
    ∙ places_more c.args.known.now c.args.marks.now c.loop-mark.mark-index d c.loop-mark.places.items c.in-Some.place c.loop-mark-test.true
    c.loop-mark.invariant (sym c.in-Some.is ∙ c.find.ensures)

pub returns : goal.returns
returns c = grind (arith, common_steps)
