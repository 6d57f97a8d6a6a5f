use Rattle.std.proofs.Common.{◌≡◌, ◌++◌, ◌∷◌, [], true, false, List, length, map, sym, ap, ◌∙◌, arith, rules}
use Rattle.std.specs.Prelude.{codes}
use Rattle.std.specs.List.{join_by}
use Rattle.std.proofs.lemmas.List.{append_assoc, length_push, map-append}
use Rattle.anti_ids.specs.declared.id.WriteId.{WriteId}
use Rattle.anti_ids.specs.Ascii.{comma}
use Rattle.anti_ids.specs.List.{plain}
use Rattle.anti_ids.specs.ListCalls.{pushed}
use Rattle.anti_baggage.specs.Texts.{id_text}
use Rattle.anti_baggage.proofs.Joined.{first_joined, next_joined, goes_on, goes_on_behind}
use Rattle.anti_baggage.proofs.encoder.add_lineage_one.Goals as goal
use Rattle.anti_baggage.proofs.encoder.add_lineage_one.Goals.{then-not-is_first+in_ok-add, else-not-is_first}

pub loop-id-preserved : goal.loop-id-preserved
loop-id-preserved c =
    let front = c.append.new.self.items in
    let f = id_text c.args.stores.now in
    let ids = map (λ i. i.now) c.loop-id.yielded in
    let id = c.in-Some.id.now in
    let longer : map (λ i. i.now) (c.loop-id.yielded ++ c.in-Some.id ∷ []) ≡ ids ++ id ∷ [] = map-append (λ i. i.now) c.loop-id.yielded (c.in-Some.id ∷ []) in
    let before = join_by f (codes ",") ids in
    let step : c.loop-id.id-iterator ≡ id ∷ c.next.new.self = search rules in
    let now : c.if-not-is_first.text.items ++ f id ≡ front ++ join_by f (codes ",") (ids ++ id ∷ []) =
    elim c.if-not-is_first.branch [
      | then-not-is_first+in_ok-add w ↦
          let behind : c.loop-id.is_first ≡ false = search rules in
          let written : c.if-not-is_first.text ≡ plain ((front ++ before) ++ codes ",") = w.text-is ∙ w.in_ok-add.ensures.ok ∙ ap (λ t. pushed t comma) c.loop-id.invariant.written in
          goes_on_behind front before c.if-not-is_first.text.items (codes ",") (f id) _ (ap (λ t. t.items) written) (next_joined f (codes ",") ids id (c.loop-id.invariant.later behind))
      | else-not-is_first w ↦
          let begun : c.loop-id.is_first ≡ true = search rules in
          let written : c.if-not-is_first.text ≡ plain (front ++ before) = w.text-is ∙ c.loop-id.invariant.written in
          goes_on front before c.if-not-is_first.text.items (f id) _ (ap (λ t. t.items) written) (first_joined f (codes ",") ids id (c.loop-id.invariant.first begun))
    ] in
    record {
      written = c.in_ok-add_id.ensures.ok ∙ ap plain (now ∙ ap (λ (x : List WriteId). front ++ join_by f (codes ",") x) (sym longer));
      all = ap (λ (x : List WriteId). x ++ c.next.new.self) longer ∙ append_assoc ids (id ∷ []) c.next.new.self
          ∙ sym (ap (λ (x : List WriteId). ids ++ x) step) ∙ c.loop-id.invariant.all;
      first = λ e. absurd (cc);
      later = λ e. omega (arith, ap length longer, length_push ids id);
    }
