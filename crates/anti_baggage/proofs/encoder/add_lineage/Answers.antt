use Rattle.std.proofs.Common.{◌≡◌, ◌++◌, ◌∷◌, List, sym, ap, ◌∙◌, rules}
use Rattle.std.specs.Option.{option_map}
use Rattle.std.proofs.lemmas.List.{append_assoc}
use Rattle.anti_ids.specs.List.{Listed, plain}
use Rattle.anti_ids.specs.declared.id.WriteId.{WriteId}
use Rattle.std.specs.Prelude.{ℕ, Some}
use Rattle.anti_baggage.specs.Texts.{grouped_text, groups_text}
use Rattle.anti_baggage.proofs.encoder.add_lineage.Goals as goal

pub loop-id-preserved : goal.loop-id-preserved
loop-id-preserved c =
    let stores = c.args.stores.now in
    let before = option_map (λ b. b.now) c.loop-id.before in
    let id = c.in-Some.id.now in
    let step : c.loop-id.id-iterator ≡ id ∷ c.next.new.self = search rules in
    let is = c.in_ok-add_grouped.ensures.ok in
    let items : c.add_grouped.new.text.items ≡ c.loop-id.text.items ++ grouped_text stores before id = ap (λ (t : Listed ℕ). t.items) is in
    record {
      plain = is ∙ ap plain (sym items);
      all = ap (λ (t : List ℕ). t ++ groups_text stores (Some id) c.next.new.self) items
          ∙ append_assoc c.loop-id.text.items (grouped_text stores before id) (groups_text stores (Some id) c.next.new.self)
          ∙ ap (λ (ids : List WriteId). c.loop-id.text.items ++ groups_text stores before ids) (sym step)
          ∙ c.loop-id.invariant.all;
    }
