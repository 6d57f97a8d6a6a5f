use Rattle.std.proofs.Common.{◌∙◌, ◌-◌, ap, get_or, length, List, Option, Some, None, IfNone, arith}
use Rattle.anti_inbox.specs.declared.inbox.Fate.{Fate}
use Rattle.anti_inbox.proofs.Reading.{fate_at, fate_none}
use Rattle.anti_inbox.proofs.inbox.Inbox.fate.Goals as goal

on_none : {T P : Type 0} (o : Option T) → P → IfNone o P
on_none None holds = holds
on_none (Some x) holds = tt

pub returns-then-number-eq0-clause-none : goal.returns-then-number-eq0-clause-none
returns-then-number-eq0-clause-none c = λ h at. fate_none c.args.self.now h at c.args.number (λ some within. omega (arith, some))

pub returns-in_err-fate-clause-none : goal.returns-in_err-fate-clause-none
returns-in_err-fate-clause-none c = λ h at.
    on_none c.from_residual.result
    (fate_none c.args.self.now h at c.args.number (λ some within. omega (arith, some, within, ap length c.as_slice.ensures.value, c.in_err-fate.ensures.lookup.3)))

pub returns-clause-some : goal.returns-clause-some
returns-clause-some c = λ h at.
    c.in_ok-fate.ensures.lookup.1
    ∙ ap (λ (fs : List Fate). get_or fs (c.args.number - 1) c.in_ok-fate.fate.now) c.as_slice.ensures.value
    ∙ fate_at c.args.self.now h at c.args.number c.in_ok-fate.fate.now (omega arith) (omega (arith, ap length c.as_slice.ensures.value, c.in_ok-fate.ensures.lookup.3.0))
