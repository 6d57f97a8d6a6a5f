use Rattle.std.proofs.Common.{ℕ, ◌-◌, ◌∙◌, ap, sym, get_or, arith}
use Rattle.std.proofs.lemmas.List.{get_or_default}
use Rattle.anti_kind.specs.declared.call.Call.{Call}
use Rattle.anti_kind.specs.Objects.{ready}
use Rattle.anti_inbox.specs.inner.Inboxes.{start_of}
use Rattle.anti_inbox.specs.inner.Fates.{untouched}
use Rattle.anti_inbox.proofs.Outcomes.{on_ok_each, both_ways}
use Rattle.anti_inbox.proofs.Reading.{taking_within, handing, hearing_within}
use Rattle.anti_inbox.proofs.Noting.{keeps, knows_taken, knows_reposted, knows_heard}
use Rattle.anti_inbox.proofs.inbox.Inbox.note.Goals as goal

pub hear-requires-clause-some : goal.hear-requires-clause-some
hear-requires-clause-some c =
    let m = c.args.self.now in
    let h = c.requires.history in
    (hearing_within m h c.in-TakeReply.number c.requires.stands_for (ap (λ (x : Call). ready (start_of m) h x) (sym c.in-TakeReply.is) ∙ c.requires.is_ready)).0

pub hear-requires-clause-within : goal.hear-requires-clause-within
hear-requires-clause-within c =
    let m = c.args.self.now in
    let h = c.requires.history in
    (hearing_within m h c.in-TakeReply.number c.requires.stands_for (ap (λ (x : Call). ready (start_of m) h x) (sym c.in-TakeReply.is) ∙ c.requires.is_ready)).1

pub returns-in-Take-clause-ok : goal.returns-in-Take-clause-ok
returns-in-Take-clause-ok c = λ h e at f same.
    let m = c.args.self.now in
    let nth : ℕ = c.in-Take.nth in
    let k : ℕ = get_or m.free.items (nth - 1) 0 in
    let can = ap (λ (x : Call). ready (start_of m) c.requires.history x) (sym c.in-Take.is) ∙ c.requires.is_ready in
    let there = taking_within m c.requires.history nth c.requires.stands_for can in
    let hand = handing m h nth k at there (get_or_default m.free.items (nth - 1) 0 k (omega (arith, there))) in
    knows_taken m c.take.new.self h e at f nth k (same ∙ c.in-Take.is) hand c.take.ensures

pub returns-in-Take-clause-keeps : goal.returns-in-Take-clause-keeps
returns-in-Take-clause-keeps c = keeps c.args.self.now c.take.new.self _ _ c.requires.stands_for.state.knows.requests_within (c.take.ensures untouched)

pub returns-in-Repost-clause-ok : goal.returns-in-Repost-clause-ok
returns-in-Repost-clause-ok c = λ h e at f same.
    let m = c.args.self.now in
    let n = c.repost.new.self in
    on_ok_each c.repost.result (λ d. c.repost.ensures.ok h d at)
    (λ turns. knows_reposted m n h e at f c.in-Repost.number (same ∙ c.in-Repost.is) turns)

pub returns-in-Repost-clause-keeps : goal.returns-in-Repost-clause-keeps
returns-in-Repost-clause-keeps c =
    let m = c.args.self.now in
    let n = c.repost.new.self in
    let h = c.requires.history in
    let at = c.requires.stands_for in
    let within = at.state.knows.requests_within in
    both_ways c.repost.result (c.repost.ensures.ok h untouched at) (c.repost.ensures.err h at)
    (λ turns. keeps m n _ _ within turns) (λ turns. keeps m n _ _ within turns)

pub returns-in-TakeReply-clause-ok : goal.returns-in-TakeReply-clause-ok
returns-in-TakeReply-clause-ok c = λ h e at f same. knows_heard c.args.self.now c.hear.new.self h e at f c.in-TakeReply.number (same ∙ c.in-TakeReply.is) c.hear.ensures

pub returns-in-TakeReply-clause-keeps : goal.returns-in-TakeReply-clause-keeps
returns-in-TakeReply-clause-keeps c = keeps c.args.self.now c.hear.new.self _ _ c.requires.stands_for.state.knows.requests_within (c.hear.ensures untouched)
