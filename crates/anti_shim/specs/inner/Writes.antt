-- One write, as the private function makes it.
use Rattle.std.specs.Prelude.{◌≡◌, ℕ, ◌≤◌, List, Result}
use Rattle.anti_ids.specs.declared.id.WriteId.{WriteId}
use Rattle.anti_kind.specs.declared.call.Call.TheVariants.{Write}
use Rattle.anti_kind.specs.declared.call.Reply.{Reply}
use Rattle.anti_kind.specs.declared.call.Reply.TheVariants.{Written}
use Rattle.anti_shim.specs.declared.fault.ShimFault.{ShimFault}
use Rattle.anti_shim.specs.declared.store_shim.MadeWrite.{MadeWrite}
use Rattle.anti_shim.specs.Steps.{Step}
use Rattle.anti_shim.specs.Shims.{OneCall}

-- a write that hands in these ids gives the id of what was written, and what its reply tells
abbrev pub IsWritten : ℕ → Reply → MadeWrite → Type 0
IsWritten store reply made =
    (reply ≡ Written made.id.key made.id.version made.over) × (made.id.store ≡ store)
    × (1 ≤ made.id.version)

abbrev pub Puts : Step → ℕ → List ℕ → List ℕ → List WriteId → Result MadeWrite ShimFault → Type 0
Puts step store key value stored result =
    OneCall step store (Write key value stored) (IsWritten store) result
