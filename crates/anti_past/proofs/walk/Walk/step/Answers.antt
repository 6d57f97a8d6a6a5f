use Rattle.std.proofs.Common.{◌≡◌, ℕ, ◌+◌, ◌<◌, ◌^◌, Bool, false, List, refl, subst, arith}
use Rattle.std.specs.Prelude.{Some, option_map, slice_get}
use Rattle.anti_kind.specs.declared.entry.Entry.{Entry}
use Rattle.anti_app.specs.declared.app.App.{App}
use Rattle.law_causal.proofs.Lists.{same_at}
use Rattle.anti_past.specs.Pasts.{IsPastOf}
use Rattle.anti_past.specs.inner.Came.{IsKnown, TellsLoss}
use Rattle.anti_past.specs.declared.walk.Walk.{Walk}
use Rattle.anti_past.specs.inner.Cursors.{IsPassing}
use Rattle.anti_past.specs.inner.Walking.{HasCome, IsHanded}
use Rattle.anti_past.proofs.Finding.{found_more}
use Rattle.anti_past.proofs.Losing.{none_more}
use Rattle.anti_past.proofs.walk.Walk.step.Goals as goal
use Rattle.anti_past.proofs.walk.Walk.step.Goals.{In_ok-follow}

-- the walk comes to the entry
passing : (app : App) (trace : List Entry) (k : ℕ) (w : Walk) (e : Entry) → HasCome app trace k w → slice_get trace k ≡ Some e → k < 2 ^ 32
    → IsPassing app trace k e w.cursor
passing app trace k w e come there low = record { legal = come.legal; there = there; low = low; cursor = come.cursor }

pub handed-handed-requires : goal.handed-handed-requires
handed-handed-requires c =
    (c.args.app.now, c.args.trace.now, c.args.index, passing c.args.app.now c.args.trace.now c.args.index c.args.self.now c.at-entry.result.now c.requires.come c.at-entry.ensures (omega arith))

pub follow-requires : goal.follow-requires
follow-requires c = c.requires.come.sound

pub go_past-requires : goal.go_past-requires
go_past-requires c =
    (c.args.app.now, c.args.trace.now, c.args.index, passing c.args.app.now c.args.trace.now c.args.index c.args.self.now c.at-entry.result.now c.requires.come c.at-entry.ensures (omega arith))

-- what is handed at the entry
its : (c : In_ok-follow)
    → IsHanded c.args.app.now c.args.trace.now c.args.index c.at-entry.result.now (option_map (λ ids. ids.now) c.handed-handed.result)
its c =
    c.handed-handed.ensures c.args.app.now c.args.trace.now c.args.index
    (passing c.args.app.now c.args.trace.now c.args.index c.args.self.now c.at-entry.result.now c.requires.come c.at-entry.ensures (omega arith))
    c.requires.trail

-- whether it loses an id, and what is known behind it where it loses none
told : (c : In_ok-follow) → TellsLoss c.args.app.now c.args.trace.now c.args.index c.at-entry.result.now c.in_ok-follow.field-0
    × (c.in_ok-follow.field-0 ≡ false → IsKnown c.args.app.now c.args.trace.now (c.args.index + 1) c.follow.new.self)
told c = c.in_ok-follow.ensures c.requires.come.legal c.at-entry.ensures (its c) c.requires.come.known

pub returns-then-branch : goal.returns-then-branch
returns-then-branch c =
    let at = (goal.at.returns-then-branch c).In_ok-follow in
    record {
      place = c.args.index;
      entry = c.at-entry.result.now;
      there = c.at-entry.ensures;
      marked = refl;
      loses = subst (λ (t : Bool). TellsLoss c.args.app.now c.args.trace.now c.args.index c.at-entry.result.now t) c.if-branch.true (told at).0;
      first = c.requires.come.none;
    }

pub returns : goal.returns
returns c =
    let before = (goal.at.returns c).In_ok-follow in
    let app = c.args.app.now in
    let trace = c.args.trace.now in
    let k = c.args.index in
    let e = c.at-entry.result.now in
    let at = c.at-entry.ensures in
    let come = c.requires.come in
    let kept = subst (λ (t : Bool). TellsLoss app trace k e t) c.if-branch.false (told before).0 in (
      record {
        sound = come.sound;
        legal = come.legal;
        cursor = c.go_past.ensures app trace k (passing app trace k c.args.self.now e come at (omega arith));
        known = (told before).1 c.if-branch.false;
        none = none_more app trace k e at come.none kept;
        found = found_more trace k e at c.args.self.now.found c.add.new.self come.found c.in_ok-add.ensures;
      },
      λ d there. subst (λ (x : Entry). IsPastOf app trace k x c.in_ok-past.past) (same_at trace k e d at there)
          (c.in_ok-past.ensures trace k come.legal at come.found (its before)),
    )
