use Rattle.std.proofs.Common.{◌≤◌, not, List, ◌++◌, length, filter, ap, sym, subst, ◌∙◌, arith}
use Rattle.std.proofs.lemmas.Bool.{not-true}
use Rattle.anti_ids.specs.Each.{Each}
use Rattle.anti_ids.specs.declared.id.WriteId.{WriteId}
use Rattle.anti_kind.specs.Store.{is_visible}
use Rattle.anti_replicas.specs.Stores.{showing_whole}
use Rattle.anti_replicas.proofs.Reading.{found_one, length_with}
use Rattle.anti_replicas.proofs.replicas.Replicas.some_missing.Goals as goal

pub add_id-requires-clause-room : goal.add_id-requires-clause-room
add_id-requires-clause-room c = omega (arith, c.loop-id.invariant.few, length_with c.in-Some.id.now c.loop-id.found, ap length c.in-Some.ensures.steps)

pub loop-id-preserved-in-Continue-1 : goal.loop-id-preserved-in-Continue-1
loop-id-preserved-in-Continue-1 c =
    let id = c.in-Some.id.now in
    let found = c.loop-id.found in
    let rest = c.next.new.self in
    let steps = c.in-Some.ensures.steps in
    let is = c.in_ok-add_id.ensures in
    record {
      found = λ s h at.
          ap (λ (xs : List WriteId). xs ++ filter (λ (i : WriteId). not (is_visible (showing_whole s) h c.args.region i)) rest) is
          ∙ found_one (is_visible (showing_whole s) h c.args.region) found id rest c.args.ids.now c.iter-id-items.ensures.lineage.ascending
          (sym (c.sight.ensures.visible s h at) ∙ not-true c.sight.result.visible c.if-not-sight.true)
          (ap (λ (xs : List WriteId). found ++ filter (λ (i : WriteId). not (is_visible (showing_whole s) h c.args.region i)) xs) (sym steps) ∙ c.loop-id.invariant.found s h at);
      few = omega (arith, c.loop-id.invariant.few, length_with id found, ap length is, ap length steps);
      written = (subst (λ (xs : List WriteId). Each (λ (i : WriteId). 1 ≤ i.version) xs) steps c.loop-id.invariant.written).1;
    }
