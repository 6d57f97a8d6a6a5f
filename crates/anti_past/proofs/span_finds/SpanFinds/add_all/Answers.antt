use Rattle.std.proofs.Common.{◌≡◌, ◌||◌, List, ◌∷◌, sym, ap, ◌∙◌}
use Rattle.anti_ids.specs.Ids.{has_id}
use Rattle.anti_ids.specs.declared.id.WriteId.{WriteId}
use Rattle.anti_past.specs.inner.Found.{has_in}
use Rattle.anti_past.proofs.Finding.{found_step}
use Rattle.anti_past.proofs.span_finds.SpanFinds.add_all.Goals as goal

pub loop-id-preserved : goal.loop-id-preserved
loop-id-preserved c = λ w.
    let old = c.loop-id.self in
    let step : c.loop-id.id-iterator ≡ c.in-Some.id.now ∷ c.next.new.self = c.in-Some.ensures.steps in
    found_step old c.add_id.new.self c.in-Some.id.now c.next.new.self w (c.in_ok-at.ensures w)
    ∙ ap (λ (ids : List WriteId). has_in old w || has_id w ids) (sym step)
    ∙ c.loop-id.invariant w
