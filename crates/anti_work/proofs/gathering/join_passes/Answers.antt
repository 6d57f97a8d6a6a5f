use Rattle.std.proofs.Common.{◌≡◌, ℕ, length, sym, subst, arith}
use Rattle.anti_work.specs.inner.Joining.{IsOfPlace, IsTaken}
use Rattle.anti_work.proofs.Joined.{next_of, taking_all, taking_first, taking_more}
use Rattle.anti_work.proofs.gathering.join_passes.Goals as goal

pub loop-pass-init : goal.loop-pass-init
loop-pass-init c = taking_first c.args.shared.now c.args.firsts.now.items c.args.passes.items c.requires.of

pub join_at-requires-clause-same : goal.join_at-requires-clause-same
join_at-requires-clause-same c =
    let at : c.len-at.result ≡ length c.pop.new.self.items = omega (arith, c.len-at.ensures, c.pop.new.self.ok.0) in
    subst (λ (n : ℕ). IsOfPlace c.args.shared.now n c.in-Some.pass) (sym at)
    (next_of c.args.shared.now c.args.firsts.now.items c.args.passes.items c.loop-pass.passes.items c.pop.new.self.items c.in-Some.pass c.loop-pass.firsts.items
    c.in-Some.ensures.items c.loop-pass.invariant c.requires.from)

pub loop-pass-preserved : goal.loop-pass-preserved
loop-pass-preserved c =
    let at : c.len-at.result ≡ length c.pop.new.self.items = omega (arith, c.len-at.ensures, c.pop.new.self.ok.0) in
    taking_more c.args.shared.now c.args.firsts.now.items c.args.passes.items c.loop-pass.passes.items c.pop.new.self.items c.in-Some.pass c.loop-pass.firsts.items
    c.in-Some.ensures.items c.loop-pass.invariant c.join_at.new.firsts.items
    (subst (λ (n : ℕ). IsTaken n c.in-Some.pass c.loop-pass.firsts.items c.join_at.new.firsts.items) at c.join_at.ensures)

pub returns-clause-taken : goal.returns-clause-taken
returns-clause-taken c =
    taking_all c.args.shared.now c.args.firsts.now.items c.args.passes.items c.loop-pass.passes.items c.loop-pass.firsts.items
    (omega (arith, c.in_default.ensures.cases, c.loop-pass.passes.ok.0)) c.loop-pass.invariant
