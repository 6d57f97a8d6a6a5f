use Rattle.std.proofs.Common.{◌≡◌, ◌↔◌, true, false, sym, ◌∙◌, subst}
use Rattle.std.specs.Prelude.{Option}
use Rattle.anti_past.specs.Pasts.{IsPastOf}
use Rattle.anti_past.specs.declared.before_reads.Past.{Past}
use Rattle.anti_past.specs.inner.Walking.{IsNextAt}
use Rattle.law_causal.proofs.Lists.{same_at}
use Rattle.anti_kind.specs.declared.entry.Entry.{Entry}
use Rattle.law_causal.specs.Settled.{IsSettled}
use Rattle.anti_past.proofs.CameBefore.{of_front}
use Rattle.anti_past.proofs.settled_reads.settled.Goals as goal
use Rattle.anti_past.proofs.settled_reads.settled.Goals.{In_ok-past}

pub place_of-requires : goal.place_of-requires
place_of-requires c =
    of_front c.args.app.now c.args.trace.now c.requires.legal c.args.index c.in_ok-processes.processes.at.items c.in_ok-processes.ensures

-- what is told of the entry
told : (c : In_ok-past) → IsPastOf c.args.app.now c.args.trace.now c.args.index c.at-entry.result.now c.in_ok-past.field-0
told c =
    let app = c.args.app.now in
    let trace = c.args.trace.now in
    let next : IsNextAt app trace c.args.index c.in_ok-processes.processes.at.items c.at-entry.result.now =
    record { sound = c.requires.sound; legal = c.requires.legal; there = c.at-entry.ensures; are = c.in_ok-processes.ensures } in
    c.in_ok-past.ensures trace c.args.index c.requires.legal c.at-entry.ensures c.in_ok-found.ensures
    (c.handed_at-handed.ensures app trace c.args.index next)

pub unreachable-requires : goal.unreachable-requires
unreachable-requires c =
    let e = c.at-entry.result.now in
    let at = (goal.at.unreachable-requires c).In_ok-past in
    let none = subst (λ (past : Option Past). IsPastOf c.args.app.now c.args.trace.now c.args.index e past) c.in-None.is (told at) in
    let both : true ≡ false = sym (c.requires.read e c.at-entry.ensures) ∙ none in
    absurd (cc)

pub returns : goal.returns
returns c = λ d there.
    let e = c.at-entry.result.now in
    let at = (goal.at.returns c).In_ok-past in
    let is = subst (λ (past : Option Past). IsPastOf c.args.app.now c.args.trace.now c.args.index e past) c.in-Some.is (told at) in
    subst (λ (x : Entry). (c.in-Some.past.settled ≡ true) ↔ IsSettled c.args.app.now c.args.trace.now c.args.index x)
    (same_at c.args.trace.now c.args.index e d c.at-entry.ensures there) is.2
