use Rattle.std.proofs.Common.{ℕ, List, sym, subst, ◌∙◌}
use Rattle.anti_baggage.specs.inner.Kept.{StatesOver}
use Rattle.anti_baggage.proofs.held.states_over.Goals as goal

pub returns-else-is_empty : goal.returns-else-is_empty
returns-else-is_empty c = λ same is.
    let names = sym c.as_slice.ensures.value ∙ c.are_same_names.ensures same in
    subst (λ (stores : List (List ℕ)). StatesOver stores c.args.kept.now) names is.1
