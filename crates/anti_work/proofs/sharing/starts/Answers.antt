use Rattle.std.proofs.Common.{◌+◌, ◌<◌, length, sym, subst, arith}
use Rattle.anti_work.specs.declared.start.Start.{Start}
use Rattle.anti_work.specs.inner.Firsts.{AreStarting}
use Rattle.anti_work.proofs.Begun.{none_joined, rooms, starting_first, starting_more}
use Rattle.anti_work.proofs.sharing.starts.Goals as goal

pub loop-alloc-init : goal.loop-alloc-init
loop-alloc-init c =
    subst (λ ss. AreStarting c.args.app.now c.args.shared.now ss c.args.firsts.now.items) (sym c.new-starts.ensures.items)
    (starting_first c.args.app.now c.args.shared.now c.args.firsts.now.items c.requires.of c.requires.room)

pub split_all-requires-clause-room : goal.split_all-requires-clause-room
split_all-requires-clause-room c =
    let low : length c.loop-alloc.starts.items < c.args.app.now.workers = omega (arith, c.loop-alloc-test.true, c.len.ensures, c.loop-alloc.starts.ok.0) in
    rooms c.args.app.now c.args.shared.now c.requires.shared c.loop-alloc.starts.items c.loop-alloc.firsts.items c.loop-alloc.invariant low

pub loop-alloc-preserved : goal.loop-alloc-preserved
loop-alloc-preserved c =
    let low : length c.loop-alloc.starts.items < c.args.app.now.workers = omega (arith, c.loop-alloc-test.true, c.len.ensures, c.loop-alloc.starts.ok.0) in
    let start : Start = record { number = c.len-before.result + 1; passes = c.in_ok-passes.passes; alloc = c.args.alloc } in
    subst (λ ss. AreStarting c.args.app.now c.args.shared.now ss c.split_all.new.firsts.items) (sym c.in_ok-push.ensures.items)
    (starting_more c.args.app.now c.args.shared.now c.requires.shared c.loop-alloc.starts.items c.loop-alloc.firsts.items c.loop-alloc.invariant low
    c.split_all.new.firsts.items start (omega (arith, c.len-before.ensures, c.loop-alloc.starts.ok.0)) c.in_ok-passes.ensures.split
    (omega (arith, c.in_ok-passes.ensures.len, c.in_ok-passes.passes.ok.0)))

pub returns-clause-joined : goal.returns-clause-joined
returns-clause-joined c = none_joined _ c.loop-alloc.firsts.items c.loop-alloc.invariant.room
