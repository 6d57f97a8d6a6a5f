-- What a look names as missing, what a read shows, and of which keys it speaks.
use Rattle.std.specs.Prelude.{List, [], ℕ, Bool, false, length, take, bytes_eq}
use Rattle.anti_ids.specs.declared.id.WriteId.{WriteId}
use Rattle.anti_kind.specs.declared.call.Reply.{Reply}
use Rattle.anti_kind.specs.declared.call.Reply.TheVariants.{Missing, Shown}
use Rattle.anti_kind.specs.declared.call.Call.{Call}
use Rattle.anti_kind.specs.declared.call.Call.TheVariants.{Read, Scan, Poll}
use Rattle.anti_kind.specs.declared.row.Row.{Row}

-- the ids that a look's reply names as missing
abbrev pub named_missing : Reply → List WriteId
named_missing (Missing missing unwritten) = missing
named_missing _ = []

-- whether a read speaks of the key k: a scan speaks of every key with its prefix, the others of the key that they name
abbrev pub speaks_of : List ℕ → Call → Bool
speaks_of k (Read region key) = bytes_eq key k
speaks_of k (Scan region prefix) = bytes_eq prefix (take (length prefix) k)
speaks_of k (Poll region key) = bytes_eq key k
speaks_of k _ = false

-- the rows that a read's reply shows
abbrev pub shown : Reply → List Row
shown (Shown list) = list.items
shown _ = []
