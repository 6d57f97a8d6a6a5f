use Rattle.std.proofs.Common.{ap, sym, ◌∙◌}
use Rattle.anti_ids.specs.List.{Listed}
use Rattle.std.specs.Prelude.{ℕ}
use Rattle.anti_baggage.specs.Reading.{read_lineage}
use Rattle.anti_baggage.proofs.TextLaws.{states_its_lineage}
use Rattle.anti_baggage.proofs.held.text_held.Goals as goal

pub known-requires-2-clause-states : goal.known-requires-2-clause-states
known-requires-2-clause-states c =
    let over = c.is_over.ensures c.if-not-is_over.false in
    let named = sym c.are_names.ensures ∙ c.if-not-are_names.false in
    ap (λ (text : Listed ℕ). read_lineage c.args.stores.now text.items) c.in_ok-text.ensures ∙ states_its_lineage c.args.stores.now c.args.lineage.now named over
