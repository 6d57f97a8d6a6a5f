-- A queue keeps the laws of its kind: its regions show the greatest version that is whole there.
use Rattle.std.specs.Prelude.{◌≡◌, refl}
use Rattle.anti_kind.specs.Store.{Store}
use Rattle.anti_kind.specs.Objects.{store}
use Rattle.anti_kind.specs.Laws.{KeepsLaws}
use Rattle.anti_kind.proofs.Keeping.{keeps_laws, laws_of_start}
use Rattle.anti_queue.specs.declared.queue_store.Queue.{Queue}
use Rattle.anti_queue.specs.QueueStates.{its_store, its_start}

pub queue_keeps : (m : Queue) (s : Store) → its_start m ≡ store s → KeepsLaws s
queue_keeps m s is = laws_of_start (its_store m) s is (keeps_laws (its_store m) refl)
