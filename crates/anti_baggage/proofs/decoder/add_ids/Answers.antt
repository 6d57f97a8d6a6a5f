use Rattle.std.proofs.Common.{◌≡◌, ◌==◌, Err, nat_eq, refl, ap, sym, subst, ◌∙◌, rules}
use Rattle.std.specs.List.{slice_split}
use Rattle.std.proofs.lemmas.Iterator.Splits.{YieldsList-from_slice_split}
use Rattle.std.proofs.lemmas.Result.{err_from_is_err_and}
use borrow.Author.Tests.{tests}
use Rattle.anti_baggage.specs.Reading.{between_commas}
use Rattle.anti_baggage.specs.Steps.{AddsAll}
use Rattle.anti_baggage.proofs.Behind.{none_left, one_read, one_refused}
use Rattle.anti_baggage.proofs.decoder.add_ids.Given.{iterator-loop-piece}
use Rattle.anti_baggage.proofs.decoder.add_ids.Goals as goal

pub loop-piece-init : goal.loop-piece-init
loop-piece-init c =
    let text = c.args.text.now in
    let rest : c.into_iter-piece-iterator.result.rest.now ≡ text = search rules in (
      slice_split (λ b. nat_eq b 44) text,
      (YieldsList-from_slice_split _ (λ b. b == 44) text rest (cc) (cc) (λ x b q k. search (rules, tests))).runs,
      λ more. refl,
    )

pub loop-piece-preserved : goal.loop-piece-preserved
loop-piece-preserved c =
    let added = c.in_ok-add_id.ensures in
    one_read iterator-loop-piece.next_gives (λ x. x.now) c.args.stores.now c.args.later _ c.loop-piece.piece-iterator c.next.new.self c.in-Some.piece c.loop-piece.place c.loop-piece.lineage _ added.0 c.loop-piece.invariant c.in-Some.ensures.steps added.1 added.2

pub returns-in_err-add_id : goal.returns-in_err-add_id
returns-in_err-add_id c =
    let stores = c.args.stores.now in
    let all = between_commas c.args.first c.args.later c.args.text.now in
    let fails = one_refused iterator-loop-piece.next_gives (λ x. x.now) stores c.args.later _ c.loop-piece.piece-iterator c.next.new.self c.in-Some.piece c.loop-piece.place c.loop-piece.lineage c.in_err-add_id.field-0.0 c.loop-piece.invariant c.in-Some.ensures.steps c.in_err-add_id.ensures in
    let fault = err_from_is_err_and c.from_residual.result c.from_residual.ensures.1 in
    let is : c.from_residual.result ≡ Err c.in_err-add_id.field-0.0 = fault.1 ∙ ap Err fault.2 in
    subst (AddsAll stores all c.args.lineage.now c.add_id.new.lineage) (sym is) fails

pub returns : goal.returns
returns c = none_left iterator-loop-piece.next_gives (λ x. x.now) c.args.stores.now c.args.later _ c.loop-piece.piece-iterator c.next.new.self c.loop-piece.place c.loop-piece.lineage c.loop-piece.invariant c.in-None.ensures.steps
