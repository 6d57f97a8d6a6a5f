use Rattle.std.proofs.Common.{◌≡◌, List, sym, ap, ◌∙◌}
use Rattle.std.specs.Prelude.{None, Some, option_map, slice_get}
use Rattle.std.proofs.lemmas.Result.{IfOk-weaker}
use Rattle.anti_ids.specs.declared.id.WriteId.{WriteId}
use Rattle.anti_kind.specs.declared.entry.Entry.{Entry}
use Rattle.law_causal.specs.Carried.{carried_at}
use Rattle.law_causal.proofs.Lists.{same_at}
use Rattle.anti_past.specs.inner.Walking.{IsAskedNext}
use Rattle.anti_past.proofs.CameBefore.{no_birth_asked, of_front}
use Rattle.anti_past.proofs.carried_lineage.carried.Goals as goal
use Rattle.anti_past.proofs.carried_lineage.carried.Goals.{After-carried_by}

pub place_of-requires : goal.place_of-requires
place_of-requires c =
    of_front c.args.app.now c.args.trace.now c.requires.legal c.args.index c.in_ok-processes.processes.at.items c.in_ok-processes.ensures

-- the process asks for the entry
asked : (c : After-carried_by)
    → IsAskedNext c.args.app.now c.args.trace.now c.args.index c.in_ok-processes.processes.at.items c.at-entry.result.now
asked c =
    no_birth_asked c.args.app.now c.args.trace.now c.args.index c.in_ok-processes.processes.at.items c.at-entry.result.now
    (record { sound = c.requires.sound; legal = c.requires.legal; there = c.at-entry.ensures; are = c.in_ok-processes.ensures })
    (c.requires.asked c.at-entry.result.now c.at-entry.ensures)

its : (c : After-carried_by)
    → option_map (λ ids. ids.now) c.carried_by.result ≡ Some (carried_at c.args.app.now c.args.trace.now c.args.index c.at-entry.result.now)
its c = c.carried_by.ensures c.args.app.now c.args.trace.now c.args.index (asked c)

pub unreachable-requires : goal.unreachable-requires
unreachable-requires c =
    let at = (goal.at.unreachable-requires c).After-carried_by in
    let none : option_map (λ ids. ids.now) c.carried_by.result ≡ None = λ i. option_map (λ ids. ids.now) (c.in-None.is i) in
    let both : None ≡ Some (carried_at c.args.app.now c.args.trace.now c.args.index c.at-entry.result.now) = sym none ∙ its at in
    absurd (cc)

pub returns : goal.returns
returns c =
    let after = (goal.at.returns c).After-carried_by in
    let app = c.args.app.now in
    let trace : List Entry = c.args.trace.now in
    let i = c.args.index in
    let e : Entry = c.at-entry.result.now in
    let ids : List WriteId = c.in-Some.lineage.now in
    let some : option_map (λ ids. ids.now) c.carried_by.result ≡ Some ids = λ j. option_map (λ ids. ids.now) (c.in-Some.is j) in
    let both : Some ids ≡ Some (carried_at app trace i e) = sym some ∙ its after in
    let is : ids ≡ carried_at app trace i e = cc in
    IfOk-weaker c.copy.result (λ (copied : List WriteId). copied ≡ ids)
    (λ (copied : List WriteId). (d : Entry) → slice_get trace i ≡ Some d → copied ≡ carried_at app trace i d)
    (λ copied same d at. same ∙ is ∙ ap (carried_at app trace i) (same_at trace i e d c.at-entry.ensures at)) c.copy.ensures
