-- The parts of a document one after another, as they are walked for the first place that fails a rule.
use Rattle.std.specs.Prelude.{codes, List, [], ◌∷◌, Option, None}
use Rattle.std.specs.Option.{option_or}
use Rattle.toml.specs.Data.{table, Members}
use Rattle.anti_rules.specs.Trees.{services_in}
use Rattle.anti_rules.specs.Rules.{form_line}
use Rattle.anti_rules.specs.Walk.{placed, first_at, first_handler}
use Rattle.anti_rules.specs.declared.rule.Rule.{Rule}
use Rattle.anti_rules.specs.declared.place.Part.{Part}
use Rattle.anti_rules.specs.declared.place.Part.TheVariants.{Top, Region, Store, Service, Handler, Sub, Request, Choice}
use Rattle.anti_rules.specs.declared.place.Place.{Place}

-- the parts, in the order in which faults are sought
unfoldable pub parts : List Part
parts = Top ∷ Region ∷ Store ∷ Service ∷ Handler ∷ Sub ∷ Request ∷ Choice ∷ []

-- the first place in a part that fails a rule
abbrev pub place_in : Rule → Members → Part → Option Place
place_in rule doc Top = placed Top 0 (form_line rule Top (table doc))
place_in rule doc Region = first_at rule doc Region (codes "regions")
place_in rule doc Store = first_at rule doc Store (codes "store")
place_in rule doc Service = first_at rule doc Service (codes "service")
place_in rule doc Handler = first_handler rule doc 0 (services_in doc)
place_in rule doc Sub = first_at rule doc Sub (codes "sub")
place_in rule doc Request = first_at rule doc Request (codes "request")
place_in rule doc Choice = first_at rule doc Choice (codes "choices")

-- the first place in some parts that fails a rule
abbrev pub first_in : Rule → Members → List Part → Option Place
first_in rule doc [] = None
first_in rule doc (part ∷ rest) = option_or (place_in rule doc part) (first_in rule doc rest)
