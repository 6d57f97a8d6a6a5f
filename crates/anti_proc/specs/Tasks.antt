-- What an entry starts. A message that was taken from an inbox starts the handler that it names, of the inbox's service. A row that was
-- pulled starts the handler of the subscription. What is foreign starts nothing.
use Rattle.std.specs.Prelude.{ℕ, Bool, List, [], ◌&&◌, Option, Some, None, length, nat_le, nat_lt, option_map, option_and_then, if◌then◌else◌}
use Rattle.anti_ids.specs.Ids.{with_ids}
use Rattle.anti_ids.specs.declared.id.WriteId.{WriteId}
use Rattle.anti_ids.specs.declared.limits.TheConstants.{MOST_DEPTH, MOST_IDS}
use Rattle.anti_kind.specs.declared.call.Call.{Call}
use Rattle.anti_kind.specs.declared.call.Call.TheVariants as calls
use Rattle.anti_kind.specs.declared.call.Reply.{Reply}
use Rattle.anti_kind.specs.declared.call.Reply.TheVariants as replies
use Rattle.anti_kind.specs.declared.entry.Entry.{Entry}
use Rattle.anti_kind.specs.declared.message.Message.{Message}
use Rattle.anti_kind.specs.declared.message.MessageKind.{MessageKind}
use Rattle.anti_kind.specs.declared.message.MessageKind.TheVariants as kinds
use Rattle.anti_app.specs.declared.app.App.{App}
use Rattle.anti_app.specs.declared.app.SubDef.{SubDef}
use Rattle.anti_app.specs.declared.objects.ObjectAt.{ObjectAt}
use Rattle.anti_app.specs.declared.objects.ObjectAt.TheVariants.{Store, Inbox}
use Rattle.anti_app.specs.Objects.{has_handler, handler_number, is_queue_at, object_at, region_of}
use Rattle.anti_app.specs.Subs.{sub_on}
use Rattle.anti_proc.specs.declared.task.Duty.{Duty}
use Rattle.anti_proc.specs.declared.task.Duty.TheVariants as duties
use Rattle.anti_proc.specs.declared.task.Role.{Role}
use Rattle.anti_proc.specs.declared.task.Task.{Task}
use Rattle.anti_proc.specs.Stated.{has_stores, stated_lineage}
use Rattle.anti_proc.specs.Local.{row_ids}

-- ---- which handler

-- A process that takes a call answers it at its end; one that takes another message owes nothing.
abbrev pub duty_to : MessageKind → ℕ → ℕ → List ℕ → Duty
duty_to kinds.Call inbox number handler = duties.Answers inbox number handler
duty_to _ inbox number handler = duties.Free

-- whether a message is for a handler of this service, and not too deep
abbrev pub is_for : App → ℕ → Message → Bool
is_for app service m = has_handler app service m.handler && nat_le m.depth MOST_DEPTH

-- a handler of a service, which runs in the service's region
abbrev pub role_with : App → ℕ → ℕ → ℕ → Duty → Role
role_with app service handler depth duty =
    record { service = service; handler = handler; region = region_of app service; depth = depth; duty = duty }

-- the handler that a message names
abbrev pub role_in : App → ℕ → ℕ → ℕ → Message → Role
role_in app inbox service number m =
    role_with app service (handler_number app service m.handler) m.depth (duty_to m.kind inbox number m.handler)

-- The handler of a subscription, which begins at depth 0. The message of a queue is acked or nacked at its end; the cell of a topic is not.
abbrev pub role_on : App → ℕ → ℕ → SubDef → Role
role_on app store version sub =
    role_with app sub.service sub.handler 0 (if is_queue_at app store then duties.Works store version else duties.Free)

-- Which handler a call at an object starts by its reply. A row is pulled for the subscription of a position among those of its store.
abbrev pub role_at : App → ℕ → ObjectAt → Call → Reply → Option Role
role_at app o (Inbox service) (calls.Take nth) (replies.Got number m) = if is_for app service m then Some (role_in app o service number m) else None
role_at app o (Store store) (calls.Pull sub) (replies.Pulled row) = option_map (role_on app store row.version) (sub_on app store sub)
role_at app o (Store store) (calls.Repull sub version) (replies.Pulled row) = option_map (role_on app store row.version) (sub_on app store sub)
role_at app o at call reply = None

-- Which handler an entry starts.
abbrev pub role_of : App → Entry → Option Role
role_of app e = option_and_then (λ at. role_at app e.object at e.call e.reply) (object_at app e.object)

-- ---- with what

-- these ids, where they are no more than a lineage may have
abbrev pub fitting : List WriteId → Option (List WriteId)
fitting ids = if nat_lt MOST_IDS (length ids) then None else Some ids

abbrev pub task_with : Role → List ℕ → List WriteId → Task
task_with role input ids = record { role = role; input = input; carried = fitting ids }

-- A message brings the lineage that its text states; a row brings its id and the lineage that is stored beside it.
abbrev pub task_for : App → ℕ → Reply → Role → Option Task
task_for app object (replies.Got number m) role = option_map (task_with role m.value) (stated_lineage app m)
task_for app object (replies.Pulled row) role =
    if has_stores app row.lineage then Some (task_with role row.value (with_ids (row_ids object row) [])) else None
task_for app object _ role = None

-- What an entry starts: a handler, its input, and the lineage that it carries at first. None where it starts nothing.
abbrev pub task_of : App → Entry → Option Task
task_of app e = option_and_then (task_for app e.object e.reply) (role_of app e)
