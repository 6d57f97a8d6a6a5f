use Rattle.std.proofs.Common.{ℕ, ◌-◌, ◌++◌, get_or, refl, ap, ◌∙◌, arith}
use Rattle.std.specs.Prelude.{Option}
use Rattle.anti_kind.specs.declared.actor.Birth.{Birth}
use Rattle.law_causal.specs.Reads.{is_at}
use Rattle.law_causal.specs.Words.{reads}
use Rattle.anti_session.specs.Members.{members_in}
use Rattle.anti_session.specs.inner.Adding.{added}
use Rattle.anti_session.proofs.Adding.{adds_more, all_added}
use Rattle.anti_session.proofs.span_members.+adding.Goals as goal

pub add_members-loop-number-preserved : goal.add_members-loop-number-preserved
add_members-loop-number-preserved t c =
    let trace = c.args.trace.now in
    let places = c.places-places.result.now in
    let place : ℕ = get_or places c.loop-number.number 0 in
    adds_more (λ b. members_in (c.args.depth - 1) trace b 1) trace c.args.birth c.args.span places c.loop-number.number place 0
    c.args.members.now.items c.loop-number.members.items c.add_entry.new.members.items c.loop-number-test.true refl c.loop-number.invariant
    (c.in_ok-add_entry.ensures
    ∙ ap (λ (s : Option Birth). c.loop-number.members.items ++ added (λ b. members_in (c.args.depth - 1) trace b 1)
    (is_at (λ e. reads e.call) trace place) place s)
    (c.server-server.ensures c.args.birth c.args.span (c.places-places.ensures trace c.requires)))

pub add_members-returns : goal.add_members-returns
add_members-returns t c =
    all_added c.args.depth c.args.trace.now c.args.birth c.args.span c.places-places.result.now c.loop-number.number c.args.members.now.items
    c.loop-number.members.items (omega (arith, c.if-depth-eq0.false)) c.loop-number-test.false
    (c.places-places.ensures c.args.trace.now c.requires)
    c.loop-number.invariant
