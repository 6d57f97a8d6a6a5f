use Rattle.std.proofs.Common.{inl, refl, sym, ◌∙◌}
use Rattle.std.specs.Prelude.{Ok}
use Rattle.anti_shim.specs.Steps.{between}
use Rattle.anti_shim.proofs.LookLemmas.{see_clear}
use Rattle.anti_shim.proofs.sight.see.Goals as goal

-- a look that is not dry and named nothing as unwritten named nothing as missing
pub returns-clause-answer : goal.returns-clause-answer
returns-clause-answer g c =
    let made = c.in_ok-place.field-0 in
    let s = between g.P.Port c.args.port.now c.ask.new.port c.args.who.now c.ask.new.self in
    record {
      outcome = Ok made;
      asked = inl c.in_ok-place.ensures.answer;
      gives = (refl, see_clear s c.args.store c.args.region c.args.ids made c.in-Missing.missing c.in-Missing.unwritten c.in_ok-place.ensures.answer c.in-Missing.is (sym c.get.ensures ∙ (sym c.iter.ensures.ids ∙ c.in-None.ensures.steps.0)));
    }
