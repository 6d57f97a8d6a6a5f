-- The pasts of the reads of a trace, by the places of the entries.
use Rattle.std.specs.Prelude.{ℕ, ◌≡◌, ◌↔◌, true, false, List, Option, None, Some, length, slice_get}
use Rattle.anti_kind.specs.declared.entry.Entry.{Entry}
use Rattle.anti_app.specs.declared.app.App.{App}
use Rattle.law_causal.specs.Words.{reads}
use Rattle.law_causal.specs.Carried.{carried_at}
use Rattle.law_causal.specs.Settled.{IsSettled}
use Rattle.anti_past.specs.declared.before_reads.Past.{Past}

-- what is told of the entry e, at place j: of a read what is carried into it, and whether it is settled
abbrev pub IsPastOf : App → List Entry → ℕ → Entry → Option Past → Type 0
IsPastOf app trace j e None = reads e.call ≡ false
IsPastOf app trace j e (Some past) =
    (reads e.call ≡ true) × (past.carried ≡ carried_at app trace j e) × (past.settled ≡ true ↔ IsSettled app trace j e)

pub record ArePastsOf (app : App) (trace : List Entry) (pasts : List (Option Past)) : Type 0 where
  pub count : length pasts ≡ length trace
  pub each : (j : ℕ) (e : Entry) (past : Option Past) → slice_get trace j ≡ Some e → slice_get pasts j ≡ Some past → IsPastOf app trace j e past
