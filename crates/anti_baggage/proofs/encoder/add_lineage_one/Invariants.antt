use Rattle.std.proofs.Common.{◌≡◌, ◌<◌, ◌++◌, [], true, false, length, map}
use Rattle.std.specs.Prelude.{codes}
use Rattle.std.specs.List.{join_by}
use Rattle.anti_ids.specs.List.{plain}
use Rattle.anti_baggage.specs.Texts.{id_text}
use Rattle.anti_baggage.proofs.encoder.add_lineage_one.Given as goal

-- the ids so far are written behind what stood there
abbrev pub invariant-loop-id : goal.invariant-loop-id
invariant-loop-id l = record {
  written : l.text ≡ plain (l.initial.text.items ++ join_by (id_text l.stores) (codes ",") (map (λ i. i.now) l.yielded));
  all : map (λ i. i.now) l.yielded ++ l.id-iterator ≡ l.initial.id-iterator;
  first : l.is_first ≡ true → map (λ i. i.now) l.yielded ≡ [];
  later : l.is_first ≡ false → 0 < length (map (λ i. i.now) l.yielded);
}
