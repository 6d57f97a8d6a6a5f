-- The ready calls of a queue that write, ship, hand out and settle nothing: looks, and shipments that are made again.
use Rattle.std.proofs.Common.{◌≡◌, false, List, refl}
use Rattle.anti_kind.specs.declared.call.Call.{Call}
use Rattle.anti_kind.specs.declared.call.Call.TheVariants.{Look, Again}
use Rattle.anti_kind.specs.declared.entry.Entry.{Entry}
use Rattle.anti_kind.specs.Store.{Store, is_pull, store_due}
use Rattle.anti_kind.specs.Objects.{weight}
use Rattle.anti_kind.proofs.Handed.{settles_by}
use Rattle.anti_kind.proofs.Rows.{is_write, is_shipping}
use Rattle.anti_replicas.specs.Stores.{IsOther}
use Rattle.anti_queue.specs.QueueStates.{IsQuiet}

pub record Quiet (s : Store) (h : List Entry) (c : Call) : Type 0 where
  pub writes : is_write c ≡ false
  pub ships : is_shipping c ≡ false
  pub pulling : is_pull c ≡ false
  pub settling : settles_by c ≡ false
  pub other : IsOther c
  pub weighs : weight (store_due s h c) ≡ 1

pub quiet : (s : Store) (h : List Entry) (c : Call) → IsQuiet c → Quiet s h c
quiet s h (Again g v p) is = record { writes = refl; ships = refl; pulling = refl; settling = refl; other = tt; weighs = refl }
quiet s h (Look g ids dry) is = record { writes = refl; ships = refl; pulling = refl; settling = refl; other = tt; weighs = refl }
quiet s h _ is = absurd is
