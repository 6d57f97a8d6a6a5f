-- The application that bytes state.
use Rattle.std.specs.Prelude.{ℕ, ◌+◌, codes, List, [], map, Option, is_none, Result, Ok, Err, position, if◌then◌else◌}
use Rattle.std.specs.Option.{option_and_then, option_map_or, some_prefix}
use Rattle.std.specs.Str.{is_utf8}
use Rattle.toml.specs.Data.{Members, get_member, as_integer}
use Rattle.toml.specs.Parse.{parse_document}
use Rattle.anti_ids.specs.List.{plain}
use Rattle.anti_rules.specs.Order.{first_breach}
use Rattle.anti_rules.specs.Trees.{things_at}
use Rattle.anti_app.specs.Parts.{number_or, regions_of, stores_of, services_of, subs_of, requests_of}
use Rattle.anti_app.specs.Chosen.{choice_of}
use Rattle.anti_app.specs.declared.app.Choice.{Choice}
use Rattle.anti_app.specs.declared.app.App.{App}
use Rattle.anti_app.specs.declared.app.AppFault.{AppFault}
use Rattle.anti_app.specs.declared.app.AppFault.TheVariants.{NotToml, Bad, BadChoice}

-- The application that the tables of a document state, with these choices.
abbrev pub app_with : Members → List Choice → App
app_with doc choices = record {
  regions = plain (regions_of doc);
  stores = plain (stores_of doc);
  services = plain (services_of doc);
  subs = plain (subs_of doc);
  requests = plain (requests_of doc);
  choices = plain choices;
  seed = number_or 0 (option_and_then as_integer (get_member (codes "seed") doc));
  workers = number_or 2 (option_and_then as_integer (get_member (codes "workers") doc));
}

-- The application with the choices that the document lists, or the number, counted from 1, of the first of them that is none.
abbrev pub app_chosen : Members → Result App AppFault
app_chosen doc =
    let found : List (Option Choice) = map (choice_of (app_with doc [])) (things_at (codes "choices") doc) in
    option_map_or (λ place. Err (BadChoice (place + 1))) (position is_none found) (Ok (app_with doc (some_prefix found)))

-- The application of a document, or why it states none: the rules come first, then the choices.
abbrev pub app_in : Members → Result App AppFault
app_in doc = option_map_or (λ breach. Err (Bad breach.rule breach.place)) (first_breach doc) (app_chosen doc)

-- The application that bytes state, or why they state none. A document is UTF-8.
abbrev pub app_of : List ℕ → Result App AppFault
app_of bytes = if is_utf8 bytes then option_map_or app_in (parse_document bytes) (Err NotToml) else Err NotToml
