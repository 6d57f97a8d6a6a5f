-- A machine with the history of the calls that were made on it.
use Rattle.std.specs.Prelude.{◌≡◌, ℕ, ◌+◌, ◌≤◌, max, List, [], ◌∷◌, ◌++◌}
use Rattle.anti_ids.specs.List.{Listed}
use Rattle.anti_kind.specs.declared.asking.Asking.{Asking}
use Rattle.anti_kind.specs.declared.entry.Entry.{Entry}
use Rattle.anti_kind.specs.declared.port.Answer.{Answer}
use Rattle.anti_kind.specs.declared.port.Answer.TheVariants.{Made, Refused, NoMemory}
use Rattle.anti_kind.specs.Objects.{Start, owed, last_stamp, Follows}
use Rattle.anti_kind.specs.Machines.{StandsFor}
use Rattle.anti_kind.specs.Entries.{entry_of}
use Rattle.anti_kind.specs.Ports.{Goes, IsRefusal}

-- what is seen of it
pub record Record (M : Type 0) : Type 0 where
  pub machine : M
  pub history : List Entry

-- The machine stands for the history, whose last stamp is kept, and there is room for all entries that units are reserved for.
pub record IsRecorded (start : Start) (stands : List Entry → Type 0) (last : ℕ) (history : Listed Entry) : Type 0 where
  pub stands_for : StandsFor start stands history.items
  pub last_is : last ≡ last_stamp history.items
  pub room : owed start history.items ≤ history.spare

-- What is answered where the history h has become a new one: the entry that was made, which has the number of the pass that asked, or the
-- cause why none was. Memory is only ever wanted for what goes.
abbrev pub Gives : Start → List Entry → ℕ → Asking → List Entry → Answer → Type 0
Gives start h seat q new (Made place stamp reply) =
    Follows start h (entry_of q seat place stamp reply) × (stamp ≡ max q.clock (last_stamp h) + 1) × (new ≡ h ++ entry_of q seat place stamp reply ∷ [])
Gives start h seat q new (Refused refusal) = (new ≡ h) × IsRefusal start h q refusal
Gives start h seat q new NoMemory = (new ≡ h) × Goes start h q
