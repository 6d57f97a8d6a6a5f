-- What an entry starts: the body of a task's handler, begun with its lineage. What is so of each such body and of each end is so of the
-- process. A task comes of a message that was taken, or of a row that was pulled.
use Rattle.std.proofs.Common.{◌≡◌, ℕ, ◌<◌, ◌≤◌, Bool, true, false, length, Option, Some, None, if◌then◌else◌, option_map, option_and_then, refl, subst, arith}
use Rattle.std.specs.Prelude.{List, [], nat_lt}
use Rattle.std.specs.Option.{option_map_or}
use Rattle.std.proofs.lemmas.Bool.{ltb-false, ltb-true}
use Rattle.std.proofs.lemmas.Option.{none-some}
use Rattle.anti_ids.specs.Ids.{with_ids}
use Rattle.anti_ids.specs.declared.id.WriteId.{WriteId}
use Rattle.anti_kind.specs.declared.call.Call.{Call}
use Rattle.anti_kind.specs.declared.call.Call.TheVariants as calls
use Rattle.anti_kind.specs.declared.call.Reply.{Reply}
use Rattle.anti_kind.specs.declared.call.Reply.TheVariants as replies
use Rattle.anti_kind.specs.declared.entry.Entry.{Entry}
use Rattle.anti_kind.specs.declared.message.Message.{Message}
use Rattle.anti_kind.specs.declared.row.Row.{Row}
use Rattle.anti_lang.specs.Program.{Block}
use Rattle.anti_app.specs.declared.app.App.{App}
use Rattle.anti_app.specs.declared.app.SubDef.{SubDef}
use Rattle.anti_app.specs.declared.objects.ObjectAt.{ObjectAt}
use Rattle.anti_app.specs.declared.objects.ObjectAt.TheVariants.{Store, Inbox}
use Rattle.anti_app.specs.Numbers.{IsInbox, IsStore, service_at}
use Rattle.anti_app.specs.Objects.{body_of, inbox_at}
use Rattle.anti_app.specs.Subs.{sub_on}
use Rattle.anti_proc.specs.declared.end.BodyEnd.{BodyEnd}
use Rattle.anti_proc.specs.declared.end.BodyEnd.TheVariants.{Fine, LineageFull}
use Rattle.anti_proc.specs.declared.task.Role.{Role}
use Rattle.anti_proc.specs.declared.task.Task.{Task}
use Rattle.anti_proc.specs.Stated.{has_stores, stated_lineage}
use Rattle.anti_proc.specs.Local.{row_ids}
use Rattle.anti_proc.specs.Meaning.{begun, setting_of, task_tree, tree_of}
use Rattle.anti_proc.specs.Tasks.{is_for, role_at, role_in, role_on, task_for, task_of, task_with}
use Rattle.anti_proc.specs.Trees.{Tree, Ends}

-- the body of a task's handler
abbrev pub its_body : App → Task → Block
its_body app task = body_of app task.role.service task.role.handler

-- ---- the process

module _ (Is : Tree → Type 0) (app : App) (birth : Entry) (ends : (end : BodyEnd) → Is (Ends end))
    (each : (task : Task) (ids : List WriteId) → task_of app birth ≡ Some task → task.carried ≡ Some ids
    → Is (begun (its_body app task) (setting_of app task) (Some ids))) where
  by_carried : (task : Task) (carried : Option (List WriteId)) → task_of app birth ≡ Some task → task.carried ≡ carried
      → Is (begun (its_body app task) (setting_of app task) carried)
  by_carried task None is has = ends LineageFull
  by_carried task (Some ids) is has = each task ids is has

  by_task : (found : Option Task) → task_of app birth ≡ found → Is (option_map_or (task_tree app) found (Ends Fine))
  by_task None is = ends Fine
  by_task (Some task) is = by_carried task task.carried is refl

  pub started_each : Is (tree_of app birth)
  started_each = by_task (task_of app birth) refl

-- ---- the task

module _ (app : App) (birth : Entry) (Is : Task → Type 0)
    (taken : (number : ℕ) (m : Message) (ids : List WriteId) → birth.reply ≡ replies.Got number m → IsInbox app birth.object
    → is_for app (service_at app birth.object) m ≡ true → stated_lineage app m ≡ Some ids
    → Is (task_with (role_in app birth.object (service_at app birth.object) number m) m.value ids))
    (pulled : (row : Row) (sub : SubDef) → birth.reply ≡ replies.Pulled row → IsStore app birth.object
    → Is (task_with (role_on app birth.object row.version sub) row.value (with_ids (row_ids birth.object row) [])))
    (task : Task) where
  -- a reply starts the task in this role
  abbrev Starts : Reply → Option Role → Type 0
  Starts reply role = option_and_then (task_for app birth.object reply) role ≡ Some task

  abbrev role_by : ObjectAt → Option Role
  role_by at = role_at app birth.object at birth.call birth.reply

  by_stated : (role : Role) (m : Message) (found : Option (List WriteId)) → option_map (task_with role m.value) found ≡ Some task
      → ((ids : List WriteId) → found ≡ Some ids → Is (task_with role m.value ids)) → Is task
  by_stated role m None starts each = absurd (cc)
  by_stated role m (Some ids) starts each = let same : task_with role m.value ids ≡ task = cc in subst Is same (each ids refl)

  by_message : (number : ℕ) (m : Message) (good : Bool) → birth.reply ≡ replies.Got number m → IsInbox app birth.object
      → is_for app (service_at app birth.object) m ≡ good
      → Starts (replies.Got number m) (if good then Some (role_in app birth.object (service_at app birth.object) number m) else None) → Is task
  by_message number m true is at good starts =
      by_stated (role_in app birth.object (service_at app birth.object) number m) m (stated_lineage app m) starts
      (λ ids states. taken number m ids is at good states)
  by_message number m false is at good starts = absurd (cc)

  by_stores : (row : Row) (sub : SubDef) (over : Bool) → birth.reply ≡ replies.Pulled row → IsStore app birth.object
      → (if over then Some (task_with (role_on app birth.object row.version sub) row.value (with_ids (row_ids birth.object row) [])) else None) ≡ Some task
      → Is task
  by_stores row sub true is at starts =
      let same : task_with (role_on app birth.object row.version sub) row.value (with_ids (row_ids birth.object row) []) ≡ task = cc in
      subst Is same (pulled row sub is at)
  by_stores row sub false is at starts = absurd (cc)

  by_sub : (row : Row) (sub : Option SubDef) → birth.reply ≡ replies.Pulled row → IsStore app birth.object
      → Starts (replies.Pulled row) (option_map (role_on app birth.object row.version) sub) → Is task
  by_sub row None is at starts = absurd (cc)
  by_sub row (Some sub) is at starts = by_stores row sub (has_stores app row.lineage) is at starts

  at_inbox : (call : Call) (reply : Reply) → birth.reply ≡ reply → IsInbox app birth.object
      → Starts reply (role_at app birth.object (Inbox (service_at app birth.object)) call reply) → Is task
  at_inbox (calls.Take nth) (replies.Got number m) is at starts = by_message number m (is_for app (service_at app birth.object) m) is at refl starts
  at_inbox (calls.Take nth) reply is at starts = absurd (none-some task starts)
  at_inbox call reply is at starts = absurd (none-some task starts)

  at_store : (call : Call) (reply : Reply) → birth.reply ≡ reply → IsStore app birth.object
      → Starts reply (role_at app birth.object (Store birth.object) call reply) → Is task
  at_store (calls.Pull position) (replies.Pulled row) is at starts = by_sub row (sub_on app birth.object position) is at starts
  at_store (calls.Pull position) reply is at starts = absurd (none-some task starts)
  at_store (calls.Repull position version) (replies.Pulled row) is at starts = by_sub row (sub_on app birth.object position) is at starts
  at_store (calls.Repull position version) reply is at starts = absurd (none-some task starts)
  at_store call reply is at starts = absurd (none-some task starts)

  by_service : (here : Bool) → nat_lt (service_at app birth.object) (length app.services.items) ≡ here → length app.stores.items ≤ birth.object
      → Starts birth.reply (option_and_then role_by (if here then Some (Inbox (service_at app birth.object)) else None)) → Is task
  by_service true here behind starts =
      let within : service_at app birth.object < length app.services.items = ltb-true (service_at app birth.object) (length app.services.items) here in
      at_inbox birth.call birth.reply refl (behind, omega (arith, behind, within)) starts
  by_service false here behind starts = absurd (cc)

  by_object : (here : Bool) → nat_lt birth.object (length app.stores.items) ≡ here
      → Starts birth.reply (option_and_then role_by (if here then Some (Store birth.object) else inbox_at (length app.services.items) (service_at app birth.object)))
      → Is task
  by_object true here starts = at_store birth.call birth.reply refl (ltb-true birth.object (length app.stores.items) here) starts
  by_object false here starts =
      by_service (nat_lt (service_at app birth.object) (length app.services.items)) refl (ltb-false birth.object (length app.stores.items) here) starts

  -- What is so of what each message and each row brings is so of the task that an entry starts.
  pub each_task : task_of app birth ≡ Some task → Is task
  each_task starts = by_object (nat_lt birth.object (length app.stores.items)) refl starts
