use Rattle.std.proofs.Common.{◌≡◌, ℕ, ◌+◌, ◌<◌, List, length, get_or, take, refl, sym, ap, ◌∙◌, subst}
use Rattle.std.specs.Prelude.{All, true}
use Rattle.std.proofs.lemmas.List.{take_all}
use Rattle.std.proofs.lemmas.List.Elements.{All-same}
use Rattle.anti_kind.specs.declared.entry.Entry.{Entry}
use Rattle.law_causal.specs.Reads.{is_at}
use Rattle.law_causal.specs.Words.{reads}
use Rattle.anti_past.specs.declared.span_reads.ReadsOfSpan.{ReadsOfSpan}
use Rattle.anti_order.specs.Answers.{IsAnswer}
use Rattle.anti_order.specs.declared.answer.SpanAnswer.{SpanAnswer}
use Rattle.anti_session.specs.Members.{members}
use Rattle.anti_session.specs.inner.Listed.{AreAnswersFor}
use Rattle.anti_session.proofs.Adding.{all_reads}
use Rattle.anti_session.proofs.Listing.{answers_more}
use Rattle.anti_session.proofs.session_spans.answered.Goals as goal

-- what is known of all sessions is known of one
members_in_it : (trace : List Entry) (listed : List ReadsOfSpan) (k : ℕ) (s : ReadsOfSpan) → k < length listed → s ≡ get_or listed k s
    → All (λ x. x.reads.items ≡ members trace x.span.birth x.span.span) listed → s.reads.items ≡ members trace s.span.birth s.span.span
members_in_it trace listed k s low is all =
    subst (λ (x : ReadsOfSpan). x.reads.items ≡ members trace x.span.birth x.span.span) (sym is) (all k s low)

pub answer-requires-clause-reads : goal.answer-requires-clause-reads
answer-requires-clause-reads c =
    let trace = c.args.trace.now in
    let s = c.session-item.result in
    let its = members_in_it trace c.args.listed.now c.loop-session.session-index s c.loop-session-test.true c.session-item.is c.requires.members in
    All-same (λ r. is_at (λ e. reads e.call) trace r ≡ true) c.as_slice.result.now (members trace s.span.birth s.span.span)
    (c.as_slice.ensures.value ∙ its)
    (all_reads trace (c.members_are_a_chain.ensures.chain c.args.app.now trace c.requires.legal) s.span.birth s.span.span)

pub loop-session-preserved : goal.loop-session-preserved
loop-session-preserved c =
    let app = c.args.app.now in
    let trace = c.args.trace.now in
    let s = c.session-item.result in
    let a : SpanAnswer = record { span = s.span; answer = c.in_ok-answer.field-0 } in
    let its = members_in_it trace c.args.listed.now c.loop-session.session-index s c.loop-session-test.true c.session-item.is c.requires.members in
    let answered = subst (λ (rs : List ℕ). IsAnswer app trace rs c.in_ok-answer.field-0) (c.as_slice.ensures.value ∙ its)
    (c.in_ok-answer.ensures app c.requires.grounds) in
    subst (λ (all : List SpanAnswer). AreAnswersFor app trace (take (c.loop-session.session-index + 1) c.args.listed.now) all)
    (sym (ap (λ l. l.items) c.in_ok-add.ensures))
    (answers_more app trace c.args.listed.now c.loop-session.session-index s c.loop-session.answers.items a c.loop-session-test.true c.session-item.is
    c.loop-session.invariant refl answered)

pub returns : goal.returns
returns c =
    let past = c.loop-session-test.false in
    subst (λ (ss : List ReadsOfSpan). AreAnswersFor c.args.app.now c.args.trace.now ss c.loop-session.answers.items)
    (take_all c.loop-session.session-index c.args.listed.now past) c.loop-session.invariant
