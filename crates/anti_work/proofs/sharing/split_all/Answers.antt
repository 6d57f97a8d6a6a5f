use Rattle.std.proofs.Common.{◌≡◌, ℕ, length, sym, subst, arith}
use Rattle.std.specs.Prelude.{Some, slice_get}
use Rattle.anti_work.specs.inner.Firsts.{AreSplit, IsSplitAt}
use Rattle.anti_work.proofs.Begun.{next_was, split_first, split_more}
use Rattle.anti_work.proofs.sharing.split_all.Goals as goal

pub loop-passes-init : goal.loop-passes-init
loop-passes-init c =
    subst (AreSplit c.args.shared.now c.args.firsts.now.items c.args.firsts.now.items) (sym c.new-passes.ensures.items)
    (split_first c.args.shared.now c.args.firsts.now.items c.requires.of)

pub split_at-requires-clause-room : goal.split_at-requires-clause-room
split_at-requires-clause-room c pass at =
    let here : c.len-at.result ≡ length c.loop-passes.passes.items = omega (arith, c.len-at.ensures, c.loop-passes.passes.ok.0) in
    c.requires.room (length c.loop-passes.passes.items) pass
    (next_was c.args.shared.now c.args.firsts.now.items c.loop-passes.firsts.items c.loop-passes.passes.items c.loop-passes.invariant pass
    (subst (λ (k : ℕ). slice_get c.loop-passes.firsts.items k ≡ Some pass) here at))

pub loop-passes-preserved : goal.loop-passes-preserved
loop-passes-preserved c =
    let here : c.len-at.result ≡ length c.loop-passes.passes.items = omega (arith, c.len-at.ensures, c.loop-passes.passes.ok.0) in
    subst (AreSplit c.args.shared.now c.args.firsts.now.items c.split_at.new.firsts.items) (sym c.in_ok-push.ensures.items)
    (split_more c.args.shared.now c.args.firsts.now.items c.loop-passes.firsts.items c.loop-passes.passes.items c.loop-passes.invariant c.split_at.new.firsts.items
    c.in_ok-pass.pass
    (subst (λ (k : ℕ). IsSplitAt k c.loop-passes.firsts.items c.split_at.new.firsts.items c.in_ok-pass.pass) here c.in_ok-pass.ensures))
