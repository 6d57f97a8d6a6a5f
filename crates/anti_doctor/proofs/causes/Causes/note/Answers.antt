use Rattle.std.specs.Prelude.{Option}
use Rattle.std.proofs.Common.{subst}
use Rattle.anti_doctor.specs.declared.passages.Passage.{Passage}
use Rattle.anti_doctor.specs.inner.Gathered.{Passes}
use Rattle.anti_doctor.proofs.Passing.{notes}
use Rattle.anti_doctor.proofs.causes.Causes.note.Goals as goal

pub returns : goal.returns
returns c =
    let own = c.keep.new.set in
    notes c.args.entry.now c.args.set own c.args.self.now c.keep.new.self c.pass.new.self c.pass-2.new.self c.in_ok-keep.ensures
    (subst (λ (p : Option Passage). Passes p own c.keep.new.self c.pass.new.self) c.span_of.ensures c.in_ok-pass.ensures)
    (subst (λ (p : Option Passage). Passes p own c.pass.new.self c.pass-2.new.self) c.posted_of.ensures c.in_ok-pass-2.ensures)
