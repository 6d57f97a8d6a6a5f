-- What lines change that make no call.
use Rattle.std.specs.Prelude.{◌≡◌, Bool, true, []}
use Rattle.anti_lang.specs.Program.{Step, Block}
use Rattle.anti_proc.specs.declared.quiet.Quiet.{Quiet}
use Rattle.anti_proc.specs.declared.way.Way.{Way}
use Rattle.anti_proc.specs.Local.{Local}
use Rattle.anti_proc.specs.Meaning.{Go, block_tree, planned, step_tree}
use Rattle.anti_proc.specs.inner.Standing.{local_in, setting_in}

-- what is known with these changes
abbrev pub local_with : Way → Quiet → Local
local_with way quiet = record (local_in way) { carried = quiet.carried; reply = quiet.reply }

-- before any change
abbrev pub quiet_in : Way → Bool → Quiet
quiet_in way none_here = record { carried = way.changes.carried; reply = way.changes.reply; none_here = none_here }

-- A statement comes to no call: after it these changes are known, and it goes on.
abbrev pub IsQuiet : Step → Way → Quiet → Quiet → Type 0
IsQuiet step way old new = (go : Go) → step_tree step (setting_in way) (local_with way old) go ≡ go (local_with way new)

-- the same of the statements of a block
abbrev pub IsQuietBlock : Block → Way → Quiet → Quiet → Type 0
IsQuietBlock block way old new = (go : Go) → block_tree block (setting_in way) (local_with way old) go ≡ go (local_with way new)

-- where none of the ids that are carried is known to be of a store here, none is
abbrev pub KnowsNone : Way → Quiet → Type 0
KnowsNone way quiet = quiet.none_here ≡ true → planned (setting_in way) (local_with way quiet) ≡ []
