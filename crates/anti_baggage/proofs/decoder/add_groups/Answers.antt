use Rattle.std.proofs.Common.{◌≡◌, ◌==◌, Err, nat_eq, refl, ap, sym, subst, ◌∙◌, rules}
use Rattle.std.specs.List.{slice_split}
use Rattle.std.proofs.lemmas.Iterator.Splits.{YieldsList-from_slice_split}
use Rattle.std.proofs.lemmas.Result.{err_from_is_err_and}
use borrow.Author.Tests.{tests}
use Rattle.anti_baggage.specs.Reading.{between_bars}
use Rattle.anti_baggage.specs.Steps.{AddsAll}
use Rattle.anti_baggage.proofs.Behind.{group_read, group_refused, no_group_left}
use Rattle.anti_baggage.proofs.decoder.add_groups.Given.{iterator-loop-group}
use Rattle.anti_baggage.proofs.decoder.add_groups.Goals as goal

pub loop-group-init : goal.loop-group-init
loop-group-init c =
    let text = c.args.text.now in
    let rest : c.into_iter-group-iterator.result.rest.now ≡ text = search rules in (
      slice_split (λ b. nat_eq b 124) text,
      (YieldsList-from_slice_split _ (λ b. b == 124) text rest (cc) (cc) (λ x b q k. search (rules, tests))).runs,
      λ more. refl,
    )

pub loop-group-preserved : goal.loop-group-preserved
loop-group-preserved c =
    group_read iterator-loop-group.next_gives (λ x. x.now) c.args.stores.now _ c.loop-group.group-iterator c.next.new.self c.in-Some.group c.loop-group.lineage c.add_ids.new.lineage c.loop-group.invariant c.in-Some.ensures.steps c.in_ok-add_ids.ensures

pub returns-in_err-add_ids : goal.returns-in_err-add_ids
returns-in_err-add_ids c =
    let stores = c.args.stores.now in
    let fails = group_refused iterator-loop-group.next_gives (λ x. x.now) stores _ c.loop-group.group-iterator c.next.new.self c.in-Some.group c.loop-group.lineage c.in_err-add_ids.field-0.0 c.loop-group.invariant c.in-Some.ensures.steps c.in_err-add_ids.ensures in
    let fault = err_from_is_err_and c.from_residual.result c.from_residual.ensures.1 in
    let is : c.from_residual.result ≡ Err c.in_err-add_ids.field-0.0 = fault.1 ∙ ap Err fault.2 in
    subst (AddsAll stores (between_bars c.args.text.now) c.args.lineage.now c.add_ids.new.lineage) (sym is) fails

pub returns : goal.returns
returns c = no_group_left iterator-loop-group.next_gives (λ x. x.now) c.args.stores.now _ c.loop-group.group-iterator c.next.new.self c.loop-group.lineage c.loop-group.invariant c.in-None.ensures.steps
