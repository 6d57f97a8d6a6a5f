-- The line that tells whether barriers, transfers and roots stand where they must.
use Rattle.std.specs.Prelude.{ℕ, List, ◌++◌, codes, decimal}
use Rattle.anti_app.specs.declared.app.App.{App}
use Rattle.anti_place.specs.declared.placement.Placement.{Placement}
use Rattle.anti_place.specs.declared.placement.Placement.TheVariants.{Yes, No}
use Rattle.anti_place.specs.declared.reason.Reason.{Reason}
use Rattle.anti_place.specs.declared.reason.Reason.TheVariants.{Removed, Untracked, Untransferred, Unsettled}
use Rattle.anti_text.specs.Words.{handler_name, service_name}

abbrev pub reason_word : Reason → List ℕ
reason_word Removed = codes "removed"
reason_word Untracked = codes "untracked"
reason_word Untransferred = codes "untransferred"
reason_word Unsettled = codes "unsettled"

-- a line of a handler, as `w two 6 `
abbrev pub place_of_line : App → ℕ → ℕ → ℕ → List ℕ
place_of_line app service handler line = service_name app service ++ codes " " ++ handler_name app service handler ++ codes " " ++ decimal line ++ codes " "

-- `placed`, or the first line that fails and why, as `unplaced w two 6 unsettled`
abbrev pub placement_line : App → Placement → List ℕ
placement_line app Yes = codes "placed\n"
placement_line app (No service handler line reason) = codes "unplaced " ++ place_of_line app service handler line ++ reason_word reason ++ codes "\n"
