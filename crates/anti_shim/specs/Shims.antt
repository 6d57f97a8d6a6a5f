-- What the calls of a shim do and give: each makes one call on its store.
use Rattle.std.specs.Prelude.{◌≡◌, ℕ, ◌<◌, ◌≤◌, ◌==◌, cond, false, length, List, [], ◌∷◌, Option, unwrap_or, Result, Ok, Err}
use Rattle.anti_ids.specs.Ids.{with_ids}
use Rattle.anti_ids.specs.List.{Listed, plain}
use Rattle.anti_ids.specs.declared.limits.TheConstants.{MOST_IDS}
use Rattle.anti_ids.specs.declared.id.WriteId.{WriteId}
use Rattle.anti_kind.specs.declared.call.Call.{Call}
use Rattle.anti_kind.specs.declared.call.Call.TheVariants.{Write, Read, Scan, Poll, Look, Pull, Repull}
use Rattle.anti_kind.specs.declared.call.Reply.{Reply}
use Rattle.anti_kind.specs.declared.call.Reply.TheVariants.{Written, Shown, Missing, Pulled, Done}
use Rattle.anti_kind.specs.declared.row.Row.{Row}
use Rattle.anti_shim.specs.declared.caller.Made.{Made}
use Rattle.anti_shim.specs.declared.sight.Sight.{Sight}
use Rattle.anti_shim.specs.declared.fault.ShimFault.{ShimFault}
use Rattle.anti_shim.specs.declared.fault.ShimFault.TheVariants.{Unwritten, LineageFull}
use Rattle.anti_shim.specs.Steps.{Step, IsAsked, MayAsk}

-- A call that was made gives the value that its reply shows, one that was refused the fault.
module _ {A : Type 0} (Shows : Reply → A → Type 0) where
  abbrev pub Gives : Result Made ShimFault → Result A ShimFault → Type 0
  Gives (Ok made) (Ok value) = Shows made.reply value
  Gives (Ok made) (Err fault) = ⊥
  Gives (Err refusal) result = result ≡ Err refusal

-- Just this call is made on the store, and gives what its reply shows.
pub record OneCall {A : Type 0} (step : Step) (store : ℕ) (call : Call) (Shows : Reply → A → Type 0)
    (result : Result A ShimFault) : Type 0 where
  pub outcome : Result Made ShimFault
  pub asked : IsAsked step store call outcome
  pub gives : Gives Shows outcome result

-- Reading.

-- a read and a poll give the one row that is shown
abbrev pub IsShown : Reply → Row → Type 0
IsShown reply row = reply ≡ Shown (plain (row ∷ []))

abbrev pub Reads : Step → ℕ → ℕ → List ℕ → Result Row ShimFault → Type 0
Reads step store region key result = OneCall step store (Read region key) IsShown result

abbrev pub Polls : Step → ℕ → ℕ → List ℕ → Result Row ShimFault → Type 0
Polls step store region key result = OneCall step store (Poll region key) IsShown result

-- a scan gives the rows that are shown
abbrev pub Scans : Step → ℕ → ℕ → List ℕ → Result (Listed Row) ShimFault → Type 0
Scans step store region prefix result =
    OneCall step store (Scan region prefix) (λ reply rows. reply ≡ Shown rows) result

-- Handing out.

-- a pull gives the row of the message or cell, for the first time and once more
abbrev pub Pulls : Step → ℕ → ℕ → Result Row ShimFault → Type 0
Pulls step store sub result = OneCall step store (Pull sub) (λ reply row. reply ≡ Pulled row) result

abbrev pub Repulls : Step → ℕ → ℕ → ℕ → Result Row ShimFault → Type 0
Repulls step store sub version result =
    OneCall step store (Repull sub version) (λ reply row. reply ≡ Pulled row) result

-- what a message that is out is told is done
abbrev pub Settles : Step → ℕ → Call → Result (Unit {0}) ShimFault → Type 0
Settles step store call result = OneCall step store call (λ reply none. reply ≡ Done) result

-- Taking over.

-- the ids that a row of a store brings: its own, where it is that of a write, and those kept beside it
abbrev pub brought_by : ℕ → Row → List WriteId
brought_by store row =
    cond (row.version == 0) row.lineage
    (record { store = store; key = row.key; version = row.version } ∷ row.lineage)

-- Writing.

-- The id and what is kept beside the write go into the lineage, unless these would be too many.
module _ (id : WriteId) (kept old new : List WriteId) where
  abbrev pub Appends : Result WriteId ShimFault → Type 0
  Appends (Ok given) =
      (given ≡ id) × (new ≡ with_ids (id ∷ kept) old)
      × (length (with_ids (id ∷ kept) old) ≤ MOST_IDS)
  Appends (Err fault) =
      (fault ≡ LineageFull id) × (new ≡ old) × (MOST_IDS < length (with_ids (id ∷ kept) old))

-- The id of what was written goes into the lineage, and what is kept beside it: what the reply tells,
-- or else the lineage that was handed in. With a refusal it stays.
module _ (store : ℕ) (old new : List WriteId) where
  abbrev pub WriteGives : Result Made ShimFault → Result WriteId ShimFault → Type 0
  WriteGives (Ok made) result =
      (id : WriteId) × (over : Option (List WriteId)) × (id.store ≡ store)
      × (made.reply ≡ Written id.key id.version over)
      × Appends id (unwrap_or over old) old new result
  WriteGives (Err refusal) result = (result ≡ Err refusal) × (new ≡ old)

-- A write hands in the lineage as it was.
pub record Writes (step : Step) (store : ℕ) (key value : List ℕ) (old new : List WriteId)
    (result : Result WriteId ShimFault) : Type 0 where
  pub outcome : Result Made ShimFault
  pub asked : MayAsk step store (Write key value old) outcome
  pub gives : WriteGives store old new outcome result

-- Waiting.

-- A look that named nothing gives its place and its stamp, and one that named ids as unwritten the
-- first of them.
module _ (store : ℕ) where
  abbrev pub SeeGives : Result Made ShimFault → Result Sight ShimFault → Type 0
  SeeGives (Ok made) (Ok sight) =
      (sight ≡ record { store = store; place = made.place; stamp = made.stamp })
      × (made.reply ≡ Missing [] [])
  SeeGives (Ok made) (Err fault) =
      (id : WriteId) × (missing : List WriteId) × (further : List WriteId)
      × (fault ≡ Unwritten id) × (made.reply ≡ Missing missing (id ∷ further))
  SeeGives (Err refusal) result = result ≡ Err refusal

-- A look for these ids, which is not dry.
pub record Sees (step : Step) (store region : ℕ) (ids : List WriteId)
    (result : Result Sight ShimFault) : Type 0 where
  pub outcome : Result Made ShimFault
  pub asked : MayAsk step store (Look region ids false) outcome
  pub gives : SeeGives store outcome result
