use Rattle.std.proofs.Common.{ℕ, ◌≤◌, min, take, sym, ap, ◌∙◌, subst}
use Rattle.anti_live.specs.Clients.{least_room}
use Rattle.anti_live.proofs.Pushed.{push_next}
use Rattle.anti_live.proofs.Rooms.{least_more, most_room}
use Rattle.anti_live.proofs.client.Client.room.Goals as goal

pub loop-pass-preserved : goal.loop-pass-preserved
loop-pass-preserved c =
    let so_far = take c.loop-pass.pass-index c.as_slice-pass-items.result.now in
    let most = subst (λ (room : ℕ). room ≤ 4294967294) c.room.ensures.is c.room.ensures.most in
    c.min-least.ensures ∙ ap (λ (least : ℕ). min least c.room.result) c.loop-pass.invariant
    ∙ ap (λ (room : ℕ). min (least_room so_far) room) c.room.ensures.is ∙ sym (least_more so_far c.pass-item.result most)
    ∙ ap least_room (push_next c.as_slice-pass-items.result.now c.loop-pass.pass-index c.pass-item.result c.loop-pass-test.true c.pass-item.is)

pub returns-clause-most : goal.returns-clause-most
returns-clause-most c = subst (λ (least : ℕ). least ≤ 4294967294) (sym c.loop-pass.invariant) (most_room (take c.loop-pass.pass-index c.as_slice-pass-items.result.now))
