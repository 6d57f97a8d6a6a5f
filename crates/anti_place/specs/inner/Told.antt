-- The parts of the answer, as the code tells them.
use Rattle.std.specs.Prelude.{◌^◌, ◌<◌, length}
use Rattle.anti_lang.specs.Blocks.{lines_of}
use Rattle.anti_lang.specs.Bodies.{block_of}
use Rattle.anti_app.specs.declared.app.HandlerDef.{HandlerDef}
use Rattle.anti_place.specs.declared.placement.Placement.{Placement}
use Rattle.anti_place.specs.declared.placement.Placement.TheVariants.{Yes, No}

-- what some handlers say, or what further ones do
abbrev pub or_later : Placement → Placement → Placement
or_later Yes further = further
or_later (No service handler line reason) further = No service handler line reason

-- a body with lines that can be counted
abbrev pub IsShort : HandlerDef → Type 0
IsShort handler = length (lines_of (block_of handler.body)) < 2 ^ 31
