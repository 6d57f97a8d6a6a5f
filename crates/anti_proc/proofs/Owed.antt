-- What a process owes at its end, it owes to a queue or to the inbox of its service.
use Rattle.std.proofs.Common.{◌≡◌, ℕ, List, Bool, true, false, Some, nat_le, if◌then◌else◌}
use Rattle.std.proofs.lemmas.Bool.{and_parts}
use Rattle.anti_ids.specs.declared.limits.TheConstants.{MOST_DEPTH}
use Rattle.anti_kind.specs.declared.entry.Entry.{Entry}
use Rattle.anti_kind.specs.declared.message.MessageKind.{MessageKind}
use Rattle.anti_kind.specs.declared.message.MessageKind.TheVariants as kinds
use Rattle.anti_app.specs.declared.app.App.{App}
use Rattle.anti_app.specs.Numbers.{IsStore, service_at}
use Rattle.anti_app.specs.Objects.{has_handler, is_queue_at}
use Rattle.anti_proc.specs.declared.task.Duty.TheVariants as duties
use Rattle.anti_proc.specs.declared.task.Task.{Task}
use Rattle.anti_proc.specs.Tasks.{duty_to, task_of}
use Rattle.anti_proc.proofs.Keeping.{DutyFits}
use Rattle.anti_proc.proofs.Served.{HasInbox}
use Rattle.anti_proc.proofs.Started.{each_task}

module _ (app : App) where
  owed_to_inbox : (kind : MessageKind) (inbox number : ℕ) (handler : List ℕ) → HasInbox app inbox handler
      → DutyFits app (IsStore app) (HasInbox app) (duty_to kind inbox number handler)
  owed_to_inbox kinds.Call inbox number handler there = there
  owed_to_inbox kind inbox number handler there = tt

  owed_to_store : (queue : Bool) (store version : ℕ) → IsStore app store
      → DutyFits app (IsStore app) (HasInbox app) (if queue then duties.Works store version else duties.Free)
  owed_to_store true store version there = there
  owed_to_store false store version there = tt

  pub owed_there : (birth : Entry) (task : Task) → task_of app birth ≡ Some task → DutyFits app (IsStore app) (HasInbox app) task.role.duty
  owed_there birth task starts =
      each_task app birth (λ task. DutyFits app (IsStore app) (HasInbox app) task.role.duty)
      (λ number m ids is at good states.
      let its : has_handler app (service_at app birth.object) m.handler ≡ true =
      (and_parts (has_handler app (service_at app birth.object) m.handler) (nat_le m.depth MOST_DEPTH) good).0 in
      owed_to_inbox m.kind birth.object number m.handler (at.0, its))
      (λ row sub is at. owed_to_store (is_queue_at app birth.object) birth.object row.version at)
      task starts
