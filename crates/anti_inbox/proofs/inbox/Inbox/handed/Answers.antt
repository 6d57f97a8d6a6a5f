use Rattle.std.proofs.Common.{◌≡◌, ◌-◌, Some, ap, sym, ◌∙◌, arith}
use Rattle.std.specs.Prelude.{slice_get}
use Rattle.anti_inbox.proofs.Reading.{IsHanding, taking_within, handing, hands_out, count_messages}
use Rattle.anti_inbox.proofs.inbox.Inbox.handed.Goals as goal
use Rattle.anti_inbox.proofs.inbox.Inbox.handed.Goals.{After-at-number}

is : (c : After-at-number) → IsHanding c.args.self.now c.requires.history c.args.nth c.at-number.result
is c =
    let m = c.args.self.now in let h = c.requires.history in let at = c.requires.stands_for in
    handing m h c.args.nth c.at-number.result at (taking_within m h c.args.nth at c.requires.is_ready) c.at-number.ensures

pub overflow_sub-number : goal.overflow_sub-number
overflow_sub-number c = (is c).some

pub at-requires : goal.at-requires
at-requires c =
    let hand = is c in
    omega (arith, hand.some, hand.within, count_messages c.args.self.now c.requires.history c.requires.stands_for)

pub returns : goal.returns
returns c = λ h at.
    let m = c.args.self.now in
    let k = c.at-number.result in
    let there = taking_within m c.requires.history c.args.nth c.requires.stands_for c.requires.is_ready in
    let found : slice_get m.messages.items (k - 1) ≡ Some c.in_ok-message.message = c.at.ensures ∙ ap Some (sym c.in_ok-message.ensures) in
    sym (hands_out m h c.args.nth k c.in_ok-message.message at (handing m h c.args.nth k at there c.at-number.ensures) found)
