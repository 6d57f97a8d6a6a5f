-- The first place of a document that fails a rule. The part comes first, the item next, and the line last.
use Rattle.std.specs.Prelude.{ℕ, codes, List, [], ◌∷◌, ◌++◌, length, min, ◌+◌, ◌-◌, ◌^◌, Option, None, option_map}
use Rattle.std.specs.Option.{option_or}
use Rattle.toml.specs.Data.{Data, table, Members}
use Rattle.anti_rules.specs.Trees.{text_at, things_at, things_in, services_in}
use Rattle.anti_rules.specs.Statements.{next}
use Rattle.anti_rules.specs.Rules.{form_line, rule_line}
use Rattle.anti_rules.specs.declared.rule.Rule.{Rule}
use Rattle.anti_rules.specs.declared.place.Part.{Part}
use Rattle.anti_rules.specs.declared.place.Part.TheVariants.{Top, Region, Store, Service, Handler, Sub, Request, Choice}
use Rattle.anti_rules.specs.declared.place.Place.{Place}

-- the place of the line of an item that fails, where one does
abbrev pub placed : Part → ℕ → Option ℕ → Option Place
placed part item fails = option_map (λ line. record { part = part; item = item; line = line }) fails

-- the number of items after so many more
abbrev pub passed : ℕ → ℕ → ℕ
passed before count = min (before + count) (2 ^ 32 - 1)

-- The first of some things of a part that fails, behind earlier ones and so many items.
abbrev pub first_from : (List Data → Data → Option ℕ) → Part → ℕ → List Data → List Data → Option Place
first_from line part before earlier [] = None
first_from line part before earlier (d ∷ ds) =
    option_or (placed part (next before) (line earlier d)) (first_from line part (next before) (earlier ++ d ∷ []) ds)

-- The first thing that fails of those that the document lists at a key.
abbrev pub first_at : Rule → Members → Part → List ℕ → Option Place
first_at rule doc part key = first_from (rule_line rule doc [] part) part 0 [] (things_at key doc)

-- The first handler that fails of some services. Handlers are counted over all services together.
abbrev pub first_handler : Rule → Members → ℕ → List Data → Option Place
first_handler rule doc before [] = None
first_handler rule doc before (service ∷ services) =
    option_or
    (first_from (rule_line rule doc (text_at (codes "region") service) Handler) Handler before [] (things_in (codes "handler") service))
    (first_handler rule doc (passed before (length (things_in (codes "handler") service))) services)

-- The first place of a document that fails a rule. The top is the document itself, a table.
abbrev pub first_place : Rule → Members → Option Place
first_place rule doc =
    option_or (placed Top 0 (form_line rule Top (table doc)))
    (option_or (first_at rule doc Region (codes "regions"))
    (option_or (first_at rule doc Store (codes "store"))
    (option_or (first_at rule doc Service (codes "service"))
    (option_or (first_handler rule doc 0 (services_in doc))
    (option_or (first_at rule doc Sub (codes "sub"))
    (option_or (first_at rule doc Request (codes "request"))
    (first_at rule doc Choice (codes "choices"))))))))
