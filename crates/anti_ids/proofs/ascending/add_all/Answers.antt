use Rattle.std.proofs.Common.{◌≡◌, ◌∷◌, List, false, length, sym, ap, ◌∙◌, subst, arith, rules}
use Rattle.anti_ids.specs.declared.id.WriteId.{WriteId}
use Rattle.anti_ids.specs.Invariants.{IsAscending}
use Rattle.anti_ids.specs.Ids.{has_id, with_id, with_ids}
use Rattle.anti_ids.proofs.IdLemmas.{ascending_with, length-with_id, le-length-with_ids}
use Rattle.anti_ids.proofs.ascending.add_all.Goals as goal

-- one more id of those that are added one after another
one_added : (still behind ids whole : List WriteId) (i : WriteId) → still ≡ i ∷ behind → with_ids still ids ≡ whole → with_ids behind (with_id i ids) ≡ whole
one_added still behind ids whole i step e = sym (ap (λ (x : List WriteId). with_ids x ids) step) ∙ e

pub put_at-requires-clause-room : goal.put_at-requires-clause-room
put_at-requires-clause-room c =
    let ids = c.loop-id.ids.items in
    let whole = with_ids c.args.further c.args.ids.now.items in
    let step : c.loop-id.id-iterator ≡ c.in-Some.id.now ∷ c.next.new.self = search rules in
    let all : with_ids c.loop-id.id-iterator ids ≡ whole = search rules in
    let rest : with_ids c.next.new.self (with_id c.in-Some.id.now ids) ≡ whole = one_added c.loop-id.id-iterator c.next.new.self ids whole c.in-Some.id.now step all in
    let absent : has_id c.in-Some.id.now ids ≡ false = search rules in
    omega (arith, length-with_id c.in-Some.id.now ids absent, le-length-with_ids c.next.new.self (with_id c.in-Some.id.now ids), ap length rest, c.loop-id.ids.ok.0, c.requires.room, c.loop-id.invariant.room)

pub loop-id-preserved-in-Err : goal.loop-id-preserved-in-Err
loop-id-preserved-in-Err c =
    let ids = c.loop-id.ids.items in
    let whole = with_ids c.into_iter-id-iterator.result c.args.ids.now.items in
    let step : c.loop-id.id-iterator ≡ c.in-Some.id.now ∷ c.next.new.self = search rules in
    let now : c.put_at.new.ids.items ≡ with_id c.in-Some.id.now ids = search rules in
    let rest : with_ids c.next.new.self (with_id c.in-Some.id.now ids) ≡ whole = one_added c.loop-id.id-iterator c.next.new.self ids whole c.in-Some.id.now step c.loop-id.invariant.rest in
    record {
      ascending = subst IsAscending (sym now) (ascending_with c.in-Some.id.now ids c.loop-id.invariant.ascending);
      rest = ap (λ (x : List WriteId). with_ids c.next.new.self x) now ∙ rest;
      room = search rules;
    }
