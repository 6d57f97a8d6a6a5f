-- Which calls are looks.
use Rattle.std.specs.Prelude.{Bool, true, false}
use Rattle.anti_kind.specs.declared.call.Call.{Call}
use Rattle.anti_kind.specs.declared.call.Call.TheVariants as calls

-- whether a call is a look
abbrev pub is_look : Call → Bool
is_look (calls.Look region ids dry) = true
is_look _ = false
