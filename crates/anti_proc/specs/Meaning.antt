-- What a handler does.
use Rattle.std.specs.Prelude.{ℕ, zero, suc, ◌+◌, unwrap_or, Bool, true, false, List, [], ◌∷◌, ◌++◌, Option, Some, None, length, map, if◌then◌else◌, nat_lt}
use Rattle.std.specs.Option.{option_map_or}
use Rattle.anti_ids.specs.Ids.{with_ids}
use Rattle.anti_ids.specs.List.{plain}
use Rattle.anti_baggage.specs.Texts.{lineage_text}
use Rattle.anti_ids.specs.declared.limits.TheConstants.{MOST_DEPTH, MOST_IDS}
use Rattle.anti_ids.specs.declared.id.WriteId.{WriteId}
use Rattle.anti_kind.specs.declared.call.Call.{Call}
use Rattle.anti_kind.specs.declared.call.Call.TheVariants as calls
use Rattle.anti_kind.specs.declared.entry.Entry.{Entry}
use Rattle.anti_kind.specs.declared.message.Message.{Message}
use Rattle.anti_kind.specs.declared.message.MessageKind.{MessageKind}
use Rattle.anti_kind.specs.declared.message.MessageKind.TheVariants as kinds
use Rattle.anti_kind.specs.declared.call.Reply.{Reply}
use Rattle.anti_kind.specs.declared.call.Reply.TheVariants as replies
use Rattle.anti_lang.specs.Program as program
use Rattle.anti_lang.specs.Program.{Step, Block}
use Rattle.anti_lang.specs.Texts.{plain_name}
use Rattle.anti_app.specs.declared.app.App.{App}
use Rattle.anti_shim.specs.declared.looks.PlannedLook.{PlannedLook}
use Rattle.anti_shim.specs.Plans.{plan}
use Rattle.anti_proc.specs.declared.task.Duty.{Duty}
use Rattle.anti_proc.specs.declared.task.Duty.TheVariants as duties
use Rattle.anti_proc.specs.declared.task.Task.{Task}
use Rattle.anti_proc.specs.declared.variables.Binding.TheVariants.{Wrote, Saw, Heard}
use Rattle.anti_proc.specs.declared.end.BodyEnd.{BodyEnd}
use Rattle.anti_proc.specs.declared.end.BodyEnd.TheVariants.{Fine, Depth, BadKey, LineageFull}
use Rattle.anti_proc.specs.Local.{Setting, Local, first_local, new_span, held_in, set, id_at, held_ids, removed, is_absent, text_of, key_text, any_name}
use Rattle.anti_app.specs.Objects.{store_number, store_names, inbox_of, body_of, stores_here}
use Rattle.anti_proc.specs.Stated.{stated_lineage}
use Rattle.anti_proc.specs.Tasks.{task_of}
use Rattle.anti_proc.specs.Trees.{Tree, Asks, Ends, after}

-- what comes next
abbrev pub Go : Type 0
Go = Local → Tree

-- a call, and what follows on its reply; of a look also the looks that are left after it
abbrev pub asks : ℕ → Call → Option (List PlannedLook) → Local → (Reply → Tree) → Tree
asks object call left l go = Asks (record { object = object; span = l.span; call = call; carried = l.carried; left = left }) go

-- goes on with these ids added to the lineage; where these are too many, the process ends
abbrev pub carry : List WriteId → Local → Go → Tree
carry ids l go =
    let all = with_ids ids l.carried in
    if nat_lt MOST_IDS (length all) then Ends LineageFull else go (record l { carried = all })

-- On the reply to a write its variable holds the write, and the process carries the write's id and what is kept beside it, unless the write
-- is untracked. Where the reply tells nothing of that, it is what was handed in, which the process carries. A reply of another form brings
-- nothing.
abbrev pub after_write : ℕ → Option (List ℕ) → Bool → Local → Go → Reply → Tree
after_write store variable untracked l go (replies.Written key version over) =
    let held = Wrote (record { store = store; key = key; version = version }) (unwrap_or over l.carried) in
    let next = option_map_or (λ name. set name held l) variable l in
    if untracked then go next else carry (id_at store key version ++ unwrap_or over []) next go
after_write store variable untracked l go _ = go l

-- What a read shows is held by its variable, and not carried.
abbrev pub after_read : ℕ → List ℕ → Local → Go → Reply → Tree
after_read store variable l go (replies.Shown rows) = go (set variable (Saw store rows) l)
after_read store variable l go _ = go l

abbrev pub write_call : ℕ → List ℕ → Option (List ℕ) → Bool → Local → Go → List ℕ → Tree
write_call store value variable untracked l go key =
    asks store (calls.Write key value l.carried) None l (after_write store variable untracked l go)

-- a read of the key of a store, a scan or a poll
abbrev pub read_call : ℕ → (List ℕ → Call) → List ℕ → Local → Go → List ℕ → Tree
read_call store call variable l go key = asks store (call key) None l (after_read store variable l go)

-- A message with what the process carries: a call or a send to a handler, or the reply of a handler to the call of a number.
abbrev pub message : MessageKind → ℕ → ℕ → List ℕ → List ℕ → Setting → Local → Message
message kind to depth handler value s l =
    let baggage = plain (lineage_text (store_names s.app) l.carried) in
    record { kind = kind; to = to; depth = depth; handler = handler; value = value; baggage = baggage }

-- The end, which is good behind the last statement of the body and nowhere else. A process that owes something does it first: it posts
-- the reply to a call, with the value that was set last, or acks a message of a queue, where the end is good, and else nacks it.
abbrev pub leave_by : Duty → Bool → Setting → BodyEnd → Go
leave_by duties.Free good s end l = Ends end
leave_by (duties.Answers inbox number handler) good s end l =
    asks inbox (calls.Post (message kinds.Reply number 0 handler l.reply s l)) None l (λ reply. Ends end)
leave_by (duties.Works store version) good s end l =
    asks store (if good then calls.Ack version else calls.Nack version) None l (λ reply. Ends end)

abbrev pub leave : Bool → Setting → BodyEnd → Go
leave good s end l = leave_by s.role.duty good s end l

-- goes on with a key, where there is one
abbrev pub with_key : Option (List ℕ) → (List ℕ → Tree) → Setting → Local → Tree
with_key key go s l = option_map_or go key (leave false s BadKey l)

-- the lineage that a message brings; a text that states none brings nothing
abbrev pub stated_in : App → Message → List WriteId
stated_in app m = unwrap_or (stated_lineage app m) []

-- A reply brings its lineage, and its variable holds its value.
abbrev pub after_reply : Setting → List ℕ → Local → Go → Reply → Tree
after_reply s variable l go (replies.Got number m) = carry (stated_in s.app m) (set variable (Heard m.value) l) go
after_reply s variable l go _ = go l

-- The reply to a call is taken by its number. A send has no variable, and no reply.
abbrev pub after_post : ℕ → Option (List ℕ) → Setting → Local → Go → Reply → Tree
after_post inbox (Some variable) s l go (replies.Posted number) = asks inbox (calls.TakeReply number) None l (after_reply s variable l go)
after_post inbox _ s l go _ = go l

-- A message to a handler, one deeper than the process, where that is not too deep.
abbrev pub post_call : ℕ → MessageKind → List ℕ → List ℕ → Option (List ℕ) → Setting → Local → Go → Tree
post_call inbox kind handler value variable s l go =
    let call = calls.Post (message kind 0 (s.role.depth + 1) handler value s l) in
    if nat_lt s.role.depth MOST_DEPTH then asks inbox call None l (after_post inbox variable s l go) else leave false s Depth l

-- the looks of a barrier: one at each store with a replica in the region of which the process carries ids
abbrev pub planned : Setting → Local → List PlannedLook
planned s l = plan (stores_here s.app s.role.region) l.carried

-- These looks, one after another. What a look finds is not carried.
abbrev pub looks : ℕ → Bool → List PlannedLook → Local → Go → Tree
looks region dry [] l go = go l
looks region dry (look ∷ later) l go =
    asks look.store (calls.Look region look.ids dry) (Some later) l (λ reply. looks region dry later l go)

-- so many turns of a block
abbrev pub turns : ℕ → (Local → Go → Tree) → Local → Go → Tree
turns zero block l go = go l
turns (suc n) block l go = block l (λ l. turns n block l go)

abbrev mutual
  -- what a statement does, and then what follows it
  pub step_tree : Step → Setting → Local → Go → Tree
  step_tree (program.Write store key value variable untracked) s l go =
      with_key (plain_name (key_text s l key)) (write_call (store_number s.app store) (text_of s l value) variable untracked l go) s l
  step_tree (program.Append variable) s l go = carry (held_ids (held_in l.variables variable)) l go
  step_tree (program.Remove variable) s l go = go (record l { carried = removed (held_in l.variables variable) l.carried })
  step_tree (program.Transfer variable) s l go = carry (held_ids (held_in l.variables variable)) l go
  step_tree program.Barrier s l go = looks s.role.region false (planned s l) l go
  step_tree program.DryRun s l go = looks s.role.region true (planned s l) l go
  step_tree (program.Read store key variable) s l go =
      with_key (plain_name (key_text s l key)) (read_call (store_number s.app store) (calls.Read s.role.region) variable l go) s l
  step_tree (program.Scan store prefix variable) s l go = read_call (store_number s.app store) (calls.Scan s.role.region) variable l go prefix
  step_tree (program.Poll store key variable) s l go =
      with_key (any_name (key_text s l key)) (read_call (store_number s.app store) (calls.Poll s.role.region) variable l go) s l
  step_tree (program.Call service handler value variable) s l go =
      post_call (inbox_of s.app service) kinds.Call handler (text_of s l value) (Some variable) s l go
  step_tree (program.Send service handler value) s l go =
      post_call (inbox_of s.app service) kinds.Send handler (text_of s l value) None s l go
  step_tree (program.Reply value) s l go = go (record l { reply = text_of s l value })
  step_tree program.Nack s l go = leave false s Fine l
  -- directly behind `stop` it has its span already
  step_tree program.Root s l go = go (if l.stopped then record l { stopped = false } else new_span false l)
  step_tree program.Stop s l go = go (new_span true l)
  step_tree (program.Repeat count block) s l go = turns count (block_tree block s) l go
  step_tree (program.IfAbsent variable block) s l go = if is_absent (held_in l.variables variable) then block_tree block s l go else go l

  -- what the lines of a block do, and then what follows them
  pub block_tree : Block → Setting → Local → Go → Tree
  block_tree program.End s l go = go l
  block_tree (program.Then first rest) s l go = step_tree first s l (λ l. block_tree rest s l go)

-- a body, run to its end
abbrev pub body_tree : Block → Setting → Go
body_tree body s l = block_tree body s l (leave true s Fine)

abbrev pub setting_of : App → Task → Setting
setting_of app task = record { app = app; role = task.role; input = task.input }

-- A body that is begun with a lineage. Where there would be more ids than a lineage may have, the process ends at once.
abbrev pub begun : Block → Setting → Option (List WriteId) → Tree
begun body s carried = option_map_or (λ ids. body_tree body s (record first_local { carried = ids })) carried (Ends LineageFull)

-- the handler of a task
abbrev pub task_tree : App → Task → Tree
task_tree app task = begun (body_of app task.role.service task.role.handler) (setting_of app task) task.carried

-- the process that an entry starts; one that starts nothing has nothing to do
abbrev pub tree_of : App → Entry → Tree
tree_of app e = option_map_or (task_tree app) (task_of app e) (Ends Fine)

abbrev pub reply_of : Entry → Reply
reply_of e = e.reply

-- what is left of a process after its entries, of which the first started it
abbrev pub process_after : App → List Entry → Tree
process_after app [] = Ends Fine
process_after app (birth ∷ entries) = after (tree_of app birth) (map reply_of entries)
