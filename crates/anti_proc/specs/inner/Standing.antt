-- What a process of the program stands for.
use Rattle.std.specs.Prelude.{ℕ, ◌<◌, Option, Some, None, List, [], reverse}
use Rattle.anti_kind.specs.declared.actor.Birth.{Birth}
use Rattle.anti_lang.specs.Steps.{list_of}
use Rattle.anti_lang.specs.Bodies.{block_from}
use Rattle.anti_lang.specs.Program.{Step}
use Rattle.anti_shim.specs.declared.looks.PlannedLook.{PlannedLook}
use Rattle.anti_kind.specs.declared.call.Reply.{Reply}
use Rattle.anti_app.specs.declared.app.App.{App}
use Rattle.anti_app.specs.Objects.{body_of}
use Rattle.anti_proc.specs.declared.cursor.Cursor.{Cursor}
use Rattle.anti_proc.specs.declared.end.BodyEnd.TheVariants.{Fine}
use Rattle.anti_proc.specs.declared.given.Given.{Given}
use Rattle.anti_proc.specs.declared.next.After.{After}
use Rattle.anti_proc.specs.declared.next.After.TheVariants as afters
use Rattle.anti_proc.specs.declared.next.Next.{Next}
use Rattle.anti_proc.specs.declared.next.Stage.{Stage}
use Rattle.anti_proc.specs.declared.next.Stage.TheVariants as stages
use Rattle.anti_proc.specs.declared.process.Process.{Process}
use Rattle.anti_proc.specs.declared.run.Advance.{Advance}
use Rattle.anti_proc.specs.declared.run.Advance.TheVariants as advances
use Rattle.anti_proc.specs.declared.run.Going.{Going}
use Rattle.anti_proc.specs.declared.run.Life.{Life}
use Rattle.anti_proc.specs.declared.run.Life.TheVariants as lives
use Rattle.anti_proc.specs.declared.run.Run.{Run}
use Rattle.anti_proc.specs.declared.changes.Changes.{Changes}
use Rattle.anti_proc.specs.declared.changes.Since.{Since}
use Rattle.anti_proc.specs.declared.changes.Since.TheVariants as sinces
use Rattle.anti_proc.specs.declared.task.Role.{Role}
use Rattle.anti_proc.specs.declared.variables.Variable.{Variable}
use Rattle.anti_proc.specs.declared.way.Way.{Way}
use Rattle.anti_proc.specs.Local.{Setting, Local, with_held}
use Rattle.anti_proc.specs.Meaning.{Go, after_post, after_read, after_reply, after_write, body_tree, looks}
use Rattle.anti_proc.specs.inner.Cursors.{left_at}
use Rattle.anti_proc.specs.Trees.{Ask, Tree, Asks, Ends}

-- ---- what it knows

abbrev pub setting : App → Given → Setting
setting app given = record { app = app; role = given.role; input = given.input }

-- what is known between two calls
abbrev pub local_of : Run → Local
local_of r = record {
  span = r.at.value.changes.span;
  stopped = r.at.value.changes.stopped;
  carried = r.at.value.changes.carried;
  variables = r.variables.items;
  reply = r.at.value.changes.reply;
}

-- the variables, by what became of those that there were
abbrev pub variables_in : Since → List Variable → List Variable
variables_in sinces.Same before = before
variables_in (sinces.Set v) before = with_held v.name v.held before
variables_in sinces.Forgotten before = []

-- what is known after some changes, by the variables that there were
abbrev pub local_by : Changes → List Variable → Local
local_by c before = record {
  span = c.span;
  stopped = c.stopped;
  carried = c.carried;
  variables = variables_in c.since before;
  reply = c.reply;
}

-- where a handler runs that is on its way, and what it knows by now
abbrev pub setting_in : Way → Setting
setting_in way = setting way.app.now way.given.now

abbrev pub local_in : Way → Local
local_in way = local_by way.changes way.before.now

-- ---- what is left of its body

-- the statements of the body of a handler
abbrev pub body_in : App → Role → List Step
body_in app role = list_of (body_of app role.service role.handler)

-- the statements that are left to run
abbrev pub left_to_run : App → Role → Cursor → List Step
left_to_run app role cursor = left_at (body_in app role) cursor

-- what they do
abbrev pub going : App → Given → Cursor → Go
going app given cursor l = body_tree (block_from (left_to_run app given.role cursor)) (setting app given) l

-- ---- what is next

-- what follows on the reply to a call at an object
abbrev pub after_tree : After → ℕ → Setting → Local → Go → Reply → Tree
after_tree (afters.Wrote variable untracked) o s l go reply = after_write o variable untracked l go reply
after_tree (afters.Saw variable) o s l go reply = after_read o variable l go reply
after_tree (afters.Looked later dry) o s l go reply = looks s.role.region dry (reverse later.items) l go
after_tree (afters.Posted variable) o s l go reply = after_post o variable s l go reply
after_tree (afters.Heard variable) o s l go reply = after_reply s variable l go reply
after_tree (afters.Left end) o s l go reply = Ends end

-- the looks of the same barrier that come after it
abbrev pub left_of : After → Option (List PlannedLook)
left_of (afters.Looked later dry) = Some (reverse later.items)
left_of _ = None

abbrev pub ask_by : Next → Local → Ask
ask_by n l =
    record { object = n.object; span = l.span; call = n.call; carried = l.carried; left = left_of n.after }

abbrev pub next_tree : Next → Setting → Local → Go → Tree
next_tree n s l go = Asks (ask_by n l) (after_tree n.after n.object s l go)

-- the next call and what follows it, or the end
abbrev pub stage_tree : Stage → Setting → Local → Go → Tree
stage_tree (stages.Asks n) s l go = next_tree n s l go
stage_tree (stages.Over end) s l go = Ends end

-- the same, where there may be none of both before what follows
abbrev pub stage_or : Option Stage → Setting → Local → Go → Tree
stage_or (Some stage) s l go = stage_tree stage s l go
stage_or None s l go = go l

-- ---- the process

-- everything that a handler may still do
abbrev pub run_of : App → Run → Tree
run_of app r = next_tree r.at.value.next (setting app r.given) (local_of r) (going app r.given r.at.value.cursor)

abbrev pub life_tree : App → Life → Tree
life_tree app (lives.Runs r) = run_of app r
life_tree app (lives.Over end) = Ends end
life_tree app (lives.Full object) = Ends Fine

-- Everything that the process may still do, where it was not ended by a call that did not fit.
abbrev pub process_of : App → Process → Tree
process_of app p = life_tree app p.life

-- the object on which its next call did not fit, where it ended so
abbrev pub full_in : Life → Option ℕ
full_in (lives.Full object) = Some object
full_in _ = None

abbrev pub full_of : Process → Option ℕ
full_of p = full_in p.life

-- the stamp of its last entry
abbrev pub clock_of : Process → ℕ
clock_of p = p.clock

-- the entry that started it
abbrev pub birth_of : Process → Birth
birth_of p = p.birth

-- which handler it runs
abbrev pub its_role : Process → Role
its_role p = p.role

-- ---- one reply more

-- everything that a handler may do that goes on so
abbrev pub run_going : App → Run → Going → Tree
run_going app r g =
    next_tree g.next (setting app r.given) (local_by g.changes r.variables.items) (going app r.given g.cursor)

-- the same of one that may have ended
abbrev pub run_after : App → Run → Advance → Tree
run_after app r (advances.Goes going) = run_going app r going.value
run_after app r (advances.Over end) = Ends end
run_after app r (advances.Full object) = Ends Fine

-- the same of a process; one that has ended stays as it is
abbrev pub life_after : App → Life → Advance → Tree
life_after app (lives.Runs r) a = run_after app r a
life_after app life (advances.Over end) = Ends end
life_after app life (advances.Full object) = Ends Fine
life_after app life (advances.Goes going) = life_tree app life

abbrev pub advanced : App → Process → Advance → Tree
advanced app p a = life_after app p.life a

-- the object on which its next call did not fit
abbrev pub full_by : Advance → Option ℕ
full_by (advances.Full object) = Some object
full_by _ = None

-- there is room for one variable more
abbrev pub has_room : Life → Type 0
has_room (lives.Runs r) = 0 < r.variables.spare
has_room _ = Unit {0}

abbrev pub HasRoom : Process → Type 0
HasRoom p = has_room p.life
