use Rattle.std.proofs.Common.{◌+◌, ◌≤◌, ◌∙◌, ap, sym, refl, arith}
use Rattle.anti_kind.specs.declared.call.Call.{Call}
use Rattle.anti_kind.specs.Objects.{need}
use Rattle.anti_inbox.specs.inner.Inboxes.{start_of}
use Rattle.anti_inbox.proofs.Outcomes.{if_err}
use Rattle.anti_inbox.proofs.Standing.{stands_more, stands_same, some_unit}
use Rattle.anti_inbox.proofs.machine.InboxMachine.apply.Goals as goal

pub returns-in_err-note-clause-err : goal.returns-in_err-note-clause-err
returns-in_err-note-clause-err c = λ h stands.
    if_err c.from_residual.result (stands_same c.args.self.now c.note.new.self h stands c.note.ensures.keeps (c.in_err-note.ensures.err h stands.knows))

pub overflow_sub-self : goal.overflow_sub-self
overflow_sub-self c =
    let some : 1 ≤ c.args.self.now.owed + c.need-need.result =
    some_unit c.args.self.now c.args.c.now c.need-need.result c.requires.may (c.need-need.ensures c.requires.may.history c.requires.may.stands_for) in
    omega (arith, c.note.ensures.keeps.owed_is)

pub returns-clause-stands : goal.returns-clause-stands
returns-clause-stands c = λ h e at f is replies.
    let m = c.args.self.now in
    stands_more m h e at f c.note.new.self _ c.need-need.result (c.need-need.ensures h at ∙ ap (λ (x : Call). need (start_of m) h x) (sym is))
    c.note.ensures.keeps (c.in_ok-note.ensures.ok h e at f is) refl
