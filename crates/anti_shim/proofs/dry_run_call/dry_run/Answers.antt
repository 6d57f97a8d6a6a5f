use Rattle.std.proofs.lemmas.Grind.{common_steps}
use Rattle.std.proofs.Common.{◌≡◌, ◌<◌, ◌≤◌, ◌+◌, true, List, length, get_or, refl, ap, sym, ◌∙◌, subst, arith}
use Rattle.std.specs.Prelude.{Result, Ok, Err}
use Rattle.std.proofs.lemmas.Result.{err_from_is_err_and}
use Rattle.anti_ids.specs.declared.id.WriteId.{WriteId}
use Rattle.anti_ids.specs.declared.limits.TheConstants.{MOST_IDS}
use Rattle.anti_ids.specs.Ids.{has_id, with_ids}
use Rattle.anti_shim.specs.declared.fault.ShimFault.{ShimFault}
use Rattle.anti_shim.specs.declared.looks.PlannedLook.{PlannedLook}
use Rattle.anti_shim.specs.Plans.{plan}
use Rattle.anti_shim.specs.Steps.{between}
use Rattle.anti_shim.specs.Looks.{OnlyLooks}
use Rattle.anti_shim.specs.DryRuns.{DryRunGives}
use Rattle.anti_shim.specs.inner.Looks.{SeesDry}
use Rattle.anti_shim.proofs.NextCall.{last}
use Rattle.anti_shim.proofs.LookLemmas.{no_looks}
use Rattle.anti_shim.proofs.PlanLemmas.{plan_right, plan_ids, plan_ascends}
use Rattle.anti_shim.proofs.DryRunLoop.{DryTurn, dry_only, dry_untouched, dry_part, dry_finds, dry_gives, union_short, part_more}
use Rattle.anti_shim.proofs.dry_run_call.dry_run.Given as given
use Rattle.anti_shim.proofs.dry_run_call.dry_run.Goals as goal
use Rattle.anti_shim.proofs.dry_run_call.dry_run.Goals.{After-see_dry}

-- the turn, and what its look did
turn : (g : given.Over) (c : After-see_dry g)
    → DryTurn (between g.P.Port c.args.port.now c.loop-look.port c.args.who.now c.loop-look.who) c.args.region (plan c.args.here.now c.args.lineage.now) c.loop-look.look-index c.look-item.result
turn g c =
    let items : c.as_slice-look-items.result.now ≡ plan c.args.here.now c.args.lineage.now = c.as_slice-look-items.ensures ∙ ap (λ l. l.items) c.in-Ok.ensures in
    record {
      right = plan_right (g.P.Port.start c.args.port.now) c.args.region c.args.here.now c.args.lineage.now c.requires;
      ascends = plan_ascends c.args.here.now c.args.lineage.now c.requires.ascending;
      only = c.loop-look.invariant.only;
      untouched = c.loop-look.invariant.untouched;
      within = subst (λ (xs : List PlannedLook). c.loop-look.look-index < length xs) items c.loop-look-test.true;
      is = c.look-item.is ∙ ap (λ (xs : List PlannedLook). get_or xs c.loop-look.look-index c.look-item.result) items;
    }

seen : (g : given.Over) (c : After-see_dry g) (result : Result (List WriteId) ShimFault) → c.see_dry.result ≡ result
    → SeesDry (last (between g.P.Port c.args.port.now c.loop-look.port c.args.who.now c.loop-look.who) (g.P.Port.view c.see_dry.new.port) c.see_dry.new.who) c.look-item.result.store c.args.region c.look-item.result.ids result
seen g c result gave =
    let s = last (between g.P.Port c.args.port.now c.loop-look.port c.args.who.now c.loop-look.who) (g.P.Port.view c.see_dry.new.port) c.see_dry.new.who in
    let look = c.look-item.result in
    subst (λ (r : Result (List WriteId) ShimFault). SeesDry s look.store c.args.region look.ids r) gave
    (subst (λ (ids : List WriteId). SeesDry s look.store c.args.region ids c.see_dry.result) c.in-Ok-share.ensures
    (subst (λ starts. SeesDry (record s { starts = starts }) look.store c.args.region c.in-Ok-share.ids c.see_dry.result) (λ i o. c.loop-look.invariant.fixed o i) c.see_dry.ensures.answer))

pub returns-in_err-missing-clause-answer : goal.returns-in_err-missing-clause-answer
returns-in_err-missing-clause-answer g c =
    let a = (goal.at.returns-in_err-missing-clause-answer g c).After-see_dry in
    let planned = plan c.args.here.now c.args.lineage.now in
    let fault = c.in_err-missing.field-0.0 in
    let p = err_from_is_err_and c.from_residual.result c.from_residual.ensures.1 in
    let is : c.from_residual.result ≡ Err fault = p.1 ∙ ap Err p.2 in
    let gives = dry_gives (turn g a) (seen g a (Err fault) c.in_err-missing.was) in
    subst (λ (r : Result (List WriteId) ShimFault). DryRunGives (between g.P.Port c.args.port.now c.see_dry.new.port c.args.who.now c.see_dry.new.who) c.args.region planned r) (sym is) gives

only : (g : given.Over) (c : After-see_dry g)
    → OnlyLooks (between g.P.Port c.args.port.now c.see_dry.new.port c.args.who.now c.see_dry.new.who) c.args.region true (plan c.args.here.now c.args.lineage.now)
only g c = dry_only (turn g c) (seen g c c.see_dry.result refl).asked

pub returns-in_err-missing-clause-only : goal.returns-in_err-missing-clause-only
returns-in_err-missing-clause-only g c = only g (goal.at.returns-in_err-missing-clause-only g c).After-see_dry

-- What is named is a part of the lineage.

part : (g : given.Over) (c : After-see_dry g) (missing : List WriteId) → c.see_dry.result ≡ Ok missing → (id : WriteId) → has_id id missing ≡ true → has_id id c.args.lineage.now ≡ true
part g c missing gave = dry_part (turn g c) (seen g c (Ok missing) gave) c.args.lineage.now (plan_ids c.args.here.now c.args.lineage.now)

short : (g : given.Over) (c : After-see_dry g) (missing : List WriteId) → c.see_dry.result ≡ Ok missing → length (with_ids missing c.loop-look.named.ids) ≤ length c.args.lineage.now
short g c missing gave =
    union_short missing c.loop-look.named.ids c.args.lineage.now c.loop-look.invariant.finds.0 c.loop-look.invariant.finds.2 (part g c missing gave) c.loop-look.invariant.part

pub transfer-requires : goal.transfer-requires
transfer-requires g c =
    let missing = c.get.result.now in
    let few : length (with_ids missing c.loop-look.named.ids) ≤ length c.args.lineage.now = short g (goal.at.transfer-requires g c).After-see_dry missing (c.in_ok-missing.was ∙ ap Ok (sym c.get.ensures)) in
    let room : length c.loop-look.named.ids + c.loop-look.named.spare ≡ length c.args.lineage.now = c.loop-look.invariant.room in
    omega arith

pub unreachable-requires : goal.unreachable-requires
unreachable-requires g c =
    let missing = c.get.result.now in
    let few : length (with_ids missing c.loop-look.named.ids) ≤ length c.args.lineage.now = short g (goal.at.unreachable-requires g c).After-see_dry missing (c.in_ok-missing.was ∙ ap Ok (sym c.get.ensures)) in
    let most : length c.args.lineage.now ≤ MOST_IDS = c.len.ensures.short in
    let past : MOST_IDS < length (with_ids missing c.loop-look.named.ids) = c.in-Err.ensures.full in
    omega arith

pub loop-look-preserved : goal.loop-look-preserved
loop-look-preserved g c =
    let a = (goal.at.loop-look-preserved g c).After-see_dry in
    let missing = c.get.result.now in
    let gave : c.see_dry.result ≡ Ok missing = c.in_ok-missing.was ∙ ap Ok (sym c.get.ensures) in
    let l = seen g a (Ok missing) gave in
    let more : c.transfer.new.self.ids ≡ with_ids missing c.loop-look.named.ids = c.in-Ok-transfer.ensures.ok in
    let finds = dry_finds (turn g a) l c.loop-look.named.ids c.loop-look.invariant.finds in
    record {
      only = only g a;
      untouched = dry_untouched (turn g a) l.asked;
      finds = (finds.0, finds.1, more ∙ finds.2);
      part = λ id has. part_more missing c.loop-look.named.ids c.args.lineage.now (part g a missing gave) c.loop-look.invariant.part id (subst (λ (xs : List WriteId). has_id id xs ≡ true) more has);
      room = c.transfer.ensures.spare ∙ c.loop-look.invariant.room;
      fixed = λ o. c.see_dry.ensures.fixed o ∙ c.loop-look.invariant.fixed o;
      rest = c.see_dry.ensures.rest ∙ c.loop-look.invariant.rest;
    }

pub returns-clause-answer : goal.returns-clause-answer
returns-clause-answer g c = grind (arith, common_steps)

pub returns-in_default-clause-only : goal.returns-in_default-clause-only
returns-in_default-clause-only g c =
    no_looks (g.P.Port.start c.args.port.now) (g.P.Port.view c.args.port.now) c.args.who.now c.args.region true (plan c.args.here.now c.args.lineage.now)

pub returns-in_default-reserve-clause-only : goal.returns-in_default-reserve-clause-only
returns-in_default-reserve-clause-only g c =
    no_looks (g.P.Port.start c.args.port.now) (g.P.Port.view c.args.port.now) c.args.who.now c.args.region true (plan c.args.here.now c.args.lineage.now)
