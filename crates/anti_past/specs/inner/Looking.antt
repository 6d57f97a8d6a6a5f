-- Whether a read is settled, by tests.
use Rattle.std.specs.Prelude.{ℕ, ◌||◌, Bool, true, false, not, List, []}
use Rattle.std.specs.List.{list_all}
use Rattle.anti_ids.specs.declared.id.WriteId.{WriteId}
use Rattle.anti_kind.specs.declared.call.Reply.{Reply}
use Rattle.anti_kind.specs.declared.call.Reply.TheVariants.{Missing}
use Rattle.anti_app.specs.declared.app.App.{App}
use Rattle.anti_app.specs.Objects.{is_store_here}

-- whether the reply to a look names no id as missing
abbrev pub names_none : Reply → Bool
names_none (Missing [] unwritten) = true
names_none reply = false

-- whether an id was found, or is of no store with a replica in a region
abbrev pub passes : App → ℕ → (WriteId → Bool) → WriteId → Bool
passes app region found w = not (is_store_here app region w.store) || found w

-- whether all of these ids do
abbrev pub all_pass : App → ℕ → (WriteId → Bool) → List WriteId → Bool
all_pass app region found ids = list_all (passes app region found) ids
