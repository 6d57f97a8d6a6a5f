use Rattle.std.proofs.Common.{◌≡◌, true, refl, sym, ◌∙◌, subst}
use Rattle.law_causal.specs.Words.{hands_all}
use Rattle.anti_past.specs.inner.Walking.{IsHanded}
use Rattle.anti_past.proofs.CameBefore.{checked_asked}
use Rattle.anti_past.proofs.processes_before.handed_at.Goals as goal

pub returns-then-hands_all : goal.returns-then-hands_all
returns-then-hands_all c = λ app trace k next.
    let e = c.args.entry.now in
    let on : hands_all e.call ≡ true = sym c.hands_all.ensures ∙ c.if-hands_all.true in
    subst (IsHanded app trace k e) (sym (c.carried_by.ensures app trace k (checked_asked app trace k _ e next on))) (on, refl)

pub returns : goal.returns
returns c = λ app trace k next. sym c.hands_all.ensures ∙ c.if-hands_all.false
