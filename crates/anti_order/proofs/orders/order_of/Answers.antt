use Rattle.std.proofs.Common.{◌≡◌, ℕ, List, map, true, ap, ◌∙◌, subst}
use Rattle.std.specs.Prelude.{IsSome}
use Rattle.std.proofs.lemmas.List.Elements.{All-same}
use Rattle.std.proofs.lemmas.Result.{IfOk-weaker}
use Rattle.anti_trace.specs.declared.mark.Mark.{Mark}
use Rattle.law_causal.specs.Reads.{is_at}
use Rattle.law_causal.specs.Words.{reads}
use Rattle.anti_past.specs.inner.Marks.{place_known}
use Rattle.anti_order.specs.Answers.{IsAnswer}
use Rattle.anti_order.proofs.MarksKnown.{all_known, same_places}
use Rattle.anti_order.proofs.orders.order_of.Goals as goal

pub places_of-requires : goal.places_of-requires
places_of-requires c =
    let given = c.requires.reads in
    let known = c.in_ok-known.known in
    All-same (λ m. IsSome (place_known known m)) c.as_slice.result.now c.args.chain.now.items (c.as_slice.ensures.value ∙ c.in_ok-marks.ensures)
    (all_known c.args.trace.now known (c.in_ok-known.ensures c.args.app.now c.requires.legal) given.0 c.args.chain.now.items given.1)

pub answer-requires-clause-reads : goal.answer-requires-clause-reads
answer-requires-clause-reads c =
    let given = c.requires.reads in
    let known = c.in_ok-known.known in
    let knows = c.in_ok-known.ensures c.args.app.now c.requires.legal in
    let found = c.in_ok-reads.ensures ∙ ap (λ (ms : List Mark). map (place_known known) ms) (c.as_slice.ensures.value ∙ c.in_ok-marks.ensures) in
    All-same (λ r. is_at (λ e. reads e.call) c.args.trace.now r ≡ true) c.as_slice-2.result.now given.0
    (c.as_slice-2.ensures.value ∙ same_places c.args.trace.now known knows given.0 c.in_ok-reads.reads.items c.args.chain.now.items given.1 found) given.2

pub returns : goal.returns
returns c =
    let known = c.in_ok-known.known in
    let knows = c.in_ok-known.ensures c.args.app.now c.requires.legal in
    let found = c.in_ok-reads.ensures ∙ ap (λ (ms : List Mark). map (place_known known) ms) (c.as_slice.ensures.value ∙ c.in_ok-marks.ensures) in
    IfOk-weaker c.answer.result _ _
    (λ answer is places are. subst (λ (rs : List ℕ). IsAnswer c.args.app.now c.args.trace.now rs answer)
    (c.as_slice-2.ensures.value ∙ same_places c.args.trace.now known knows places c.in_ok-reads.reads.items c.args.chain.now.items are found) is)
    (c.answer.ensures c.args.app.now c.in_ok-grounds.ensures)
