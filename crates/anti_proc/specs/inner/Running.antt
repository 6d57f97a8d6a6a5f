-- The spans of a process are counted in 32 bits.
use Rattle.std.specs.Prelude.{ℕ, ◌+◌, ◌^◌, ◌<◌}
use Rattle.anti_lang.specs.Bodies.{block_from}
use Rattle.anti_lang.specs.Spans.{spans_of}
use Rattle.anti_app.specs.declared.app.App.{App}
use Rattle.anti_proc.specs.declared.cursor.Cursor.{Cursor}
use Rattle.anti_proc.specs.declared.process.Process.{Process}
use Rattle.anti_proc.specs.declared.run.Advance.{Advance}
use Rattle.anti_proc.specs.declared.run.Advance.TheVariants as advances
use Rattle.anti_proc.specs.declared.run.Life.{Life}
use Rattle.anti_proc.specs.declared.run.Life.TheVariants as lives
use Rattle.anti_proc.specs.declared.task.Role.{Role}
use Rattle.anti_proc.specs.inner.Standing.{left_to_run}

-- the number of the last span of a handler fits, which is in this span and has this to run
abbrev pub HasSpans : App → Role → Cursor → ℕ → Type 0
HasSpans app role cursor span = span + spans_of (block_from (left_to_run app role cursor)) < 2 ^ 32

abbrev pub LifeHasSpans : App → Life → Type 0
LifeHasSpans app (lives.Runs r) = HasSpans app r.given.role r.at.value.cursor r.at.value.changes.span
LifeHasSpans app _ = Unit {0}

-- The process is one of the application, as far as a call on it asks for that.
abbrev pub IsRunOf : App → Process → Type 0
IsRunOf app p = LifeHasSpans app p.life

-- The same after a reply. One that goes on was not ended by a call that did not fit.
abbrev pub AdvanceHasSpans : App → Life → Advance → Type 0
AdvanceHasSpans app (lives.Runs r) (advances.Goes going) =
    HasSpans app r.given.role going.value.cursor going.value.changes.span
AdvanceHasSpans app (lives.Runs r) (advances.Full object) = ⊥
AdvanceHasSpans app _ _ = Unit {0}

abbrev pub IsAdvanceOf : App → Process → Advance → Type 0
IsAdvanceOf app p a = AdvanceHasSpans app p.life a
