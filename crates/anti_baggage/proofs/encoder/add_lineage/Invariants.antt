use Rattle.std.proofs.Common.{◌≡◌, ◌++◌}
use Rattle.std.specs.Option.{option_map}
use Rattle.anti_ids.specs.List.{plain}
use Rattle.anti_baggage.specs.Texts.{groups_text}
use Rattle.anti_baggage.proofs.encoder.add_lineage.Given as goal

-- what is written, and the groups of the ids to come, are the text of all
abbrev pub invariant-loop-id : goal.invariant-loop-id
invariant-loop-id l = record {
  plain : l.text ≡ plain l.text.items;
  all : l.text.items ++ groups_text l.stores (option_map (λ b. b.now) l.before) l.id-iterator ≡ l.initial.text.items ++ groups_text l.stores (option_map (λ b. b.now) l.initial.before) l.initial.id-iterator;
}
