-- What a statement does itself and by its block, and what a reply brings with its message.
use Rattle.std.specs.Prelude.{ℕ, ◌≡◌, List, [], Option, Bool, true, false, if◌then◌else◌}
use Rattle.anti_ids.specs.declared.id.WriteId.{WriteId}
use Rattle.anti_kind.specs.declared.call.Reply.{Reply}
use Rattle.anti_kind.specs.declared.call.Reply.TheVariants as replies
use Rattle.anti_lang.specs.Program as program
use Rattle.anti_lang.specs.Program.{Step, Barrier, DryRun, Remove, Root, Stop, Repeat, IfAbsent}
use Rattle.anti_app.specs.declared.app.App.{App}
use Rattle.anti_proc.specs.declared.next.Stage.{Stage}
use Rattle.anti_proc.specs.declared.way.Way.{Way}
use Rattle.anti_proc.specs.Local.{Setting, Local, held_in, is_absent}
use Rattle.anti_proc.specs.Meaning.{Go, block_tree, planned, stated_in, step_tree, turns}
use Rattle.anti_proc.specs.inner.Standing.{local_in, setting_in, stage_or}

-- how many times the block of a statement is run; not at all where it opens none
abbrev pub turns_of : Step → Local → ℕ
turns_of (Repeat count block) l = count
turns_of (IfAbsent variable block) l = if is_absent (held_in l.variables variable) then 1 else 0
turns_of _ l = 0

-- what follows a statement that was reached with what is known: its block, and then what follows that
abbrev pub with_block : Step → Setting → Local → Go → Go
with_block (Repeat count block) s reached go = λ l. turns count (block_tree block s) l go
with_block (IfAbsent variable block) s reached go =
    λ l. if is_absent (held_in reached.variables variable) then block_tree block s l go else go l
with_block _ s reached go = go

-- A statement that is run comes to this, beside its block: a call that is next, the end, or neither.
abbrev pub ComesTo : Step → Way → Way → Option Stage → Type 0
ComesTo step old new comes = (go : Go)
    → stage_or comes (setting_in old) (local_in new) (with_block step (setting_in old) (local_in old) go)
    ≡ step_tree step (setting_in old) (local_in old) go

-- none of the ids that are carried is of a store with a replica where the process runs
abbrev pub NoneHere : Way → Type 0
NoneHere way = planned (setting_in way) (local_in way) ≡ []

-- whether a statement does nothing beside its block, by whether none of those ids is
abbrev pub is_idle : Step → Bool → Bool
is_idle (Repeat count block) none_here = true
is_idle (IfAbsent variable block) none_here = true
is_idle Barrier none_here = none_here
is_idle DryRun none_here = none_here
is_idle _ none_here = false

-- whether none of them is behind a statement that came to no call, by whether that is known before it
abbrev pub finds_none : Step → Bool → Bool
finds_none Barrier none_here = true
finds_none DryRun none_here = true
finds_none (Remove variable) none_here = none_here
finds_none (program.Reply value) none_here = none_here
finds_none _ none_here = false

-- how many spans a statement begins itself
abbrev pub own_spans : Step → ℕ
own_spans Root = 1
own_spans Stop = 1
own_spans _ = 0

-- the lineage of the message in a reply; none in a reply without a message
abbrev pub came_by : App → Reply → List WriteId
came_by app (replies.Got number m) = stated_in app m
came_by app _ = []
