-- What is made of choices.
use Rattle.std.specs.Prelude.{◌+◌, List, Option, is_none, Result, Ok, Err, position}
use Rattle.std.specs.Option.{option_map_or, some_prefix}
use Rattle.anti_app.specs.declared.app.AppFault.{AppFault}
use Rattle.anti_app.specs.declared.app.AppFault.TheVariants.{BadChoice}
use Rattle.anti_app.specs.declared.app.Choice.{Choice}

-- what is made of choices that are all there, or the number, counted from 1, of the first that is not
abbrev pub chosen : {T : Type 0} → (List Choice → T) → List (Option Choice) → Result T AppFault
chosen make found = option_map_or (λ place. Err (BadChoice (place + 1))) (position is_none found) (Ok (make (some_prefix found)))
