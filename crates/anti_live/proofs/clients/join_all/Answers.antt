use Rattle.std.proofs.Common.{◌≡◌, ℕ, length, get_or, sym, ◌∙◌, subst, arith}
use Rattle.std.specs.Prelude.{slice_set}
use Rattle.anti_live.specs.inner.Joining.{AreJoining}
use Rattle.anti_live.proofs.Belonging.{same_long}
use Rattle.anti_live.proofs.Joins.{joining_all, joining_first, joining_more, next_from, next_into}
use Rattle.anti_live.proofs.clients.join_all.Goals as goal

pub loop-pass-init : goal.loop-pass-init
loop-pass-init c =
    joining_first c.args.into.now.items c.args.from.items
    (same_long c.args.shareds.now c.args.into.now.items c.requires.of ∙ sym (same_long c.args.shareds.now c.args.from.items c.requires.from))

pub join-requires-clause-into_of : goal.join-requires-clause-into_of
join-requires-clause-into_of c =
    let place : c.len-at.result ≡ length c.pop.new.self.items = omega (arith, c.len-at.ensures, c.pop.new.self.ok.0) in
    next_into c.args.shareds.now c.args.into.now.items c.args.from.items c.loop-pass.from.items c.pop.new.self.items c.loop-pass.into.items c.in-Some.pass c.in-Some.ensures.items
    c.requires.of c.requires.from c.loop-pass.invariant c.index_mut.result.now
    (c.index_mut.ensures.value ∙ (λ i. get_or c.loop-pass.into.items (place i) c.index_mut.result.now)) c.index-shareds-at.result
    (c.index-shareds-at.is ∙ (λ i. get_or c.args.shareds.now (place i) c.index-shareds-at.result))

pub join-requires-clause-from_of : goal.join-requires-clause-from_of
join-requires-clause-from_of c =
    let place : c.len-at.result ≡ length c.pop.new.self.items = omega (arith, c.len-at.ensures, c.pop.new.self.ok.0) in
    next_from c.args.shareds.now c.args.into.now.items c.args.from.items c.loop-pass.from.items c.pop.new.self.items c.loop-pass.into.items c.in-Some.pass c.in-Some.ensures.items
    c.requires.of c.requires.from c.loop-pass.invariant c.index-shareds-at.result
    (c.index-shareds-at.is ∙ (λ i. get_or c.args.shareds.now (place i) c.index-shareds-at.result))

pub loop-pass-preserved : goal.loop-pass-preserved
loop-pass-preserved c =
    let place : c.len-at.result ≡ length c.pop.new.self.items = omega (arith, c.len-at.ensures, c.pop.new.self.ok.0) in
    subst (λ (n : ℕ). AreJoining c.args.into.now.items c.args.from.items c.pop.new.self.items (slice_set c.loop-pass.into.items n c.join.new.into)) (sym place)
    (joining_more c.args.shareds.now c.args.into.now.items c.args.from.items c.loop-pass.from.items c.pop.new.self.items c.loop-pass.into.items c.in-Some.pass c.in-Some.ensures.items
    c.requires.of c.requires.from c.loop-pass.invariant c.index_mut.result.now
    (c.index_mut.ensures.value ∙ (λ i. get_or c.loop-pass.into.items (place i) c.index_mut.result.now)) c.join.new.into c.join.ensures)

pub returns : goal.returns
returns c =
    joining_all c.args.shareds.now c.args.into.now.items c.args.from.items c.loop-pass.from.items c.loop-pass.into.items c.requires.of
    (omega (arith, c.in_default.ensures.cases, c.loop-pass.from.ok.0)) c.loop-pass.invariant
