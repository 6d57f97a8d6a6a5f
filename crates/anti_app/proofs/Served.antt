-- The names of the services and handlers of a document without a breach, and where they are found.
use Rattle.std.proofs.Common.{◌≡◌, ℕ, codes, List, [], Bool, true, ◌&&◌, map, None, refl, ◌∙◌}
use Rattle.std.specs.List.{list_all}
use Rattle.std.specs.Str.{bytes_eq}
use Rattle.std.proofs.lemmas.Bool.{and_from}
use Rattle.anti_ids.specs.Names.{is_plain}
use Rattle.anti_lang.specs.Program.{Call, Send}
use Rattle.anti_lang.specs.Lines.{Line, Does}
use Rattle.toml.specs.Data.{Data, Members}
use Rattle.anti_rules.specs.Trees.{things_in, has_text, name_in, is_named, named, services_in}
use Rattle.anti_rules.specs.Statements.{has_handler as handler_stated, handler_exists}
use Rattle.anti_rules.specs.Rules.{rule_line}
use Rattle.anti_rules.specs.Order.{first_breach}
use Rattle.anti_rules.specs.declared.rule.Rule.TheVariants.{PlainNames}
use Rattle.anti_rules.specs.declared.place.Part.TheVariants.{Service}
use Rattle.anti_rules.proofs.Holds.{each_kept, wanted, each_wanted, each_handler}
use Rattle.anti_app.specs.Parts.{regions_of, handler_of, service_of, services_of}
use Rattle.anti_app.specs.Objects.{has_named}
use Rattle.anti_app.specs.Sound.{is_served, fits_services}
use Rattle.anti_app.proofs.Lookups.{first_passes, any_made, any_found}
use Rattle.anti_app.proofs.Kept.{some_passes}

-- The names of some things are plain.
abbrev pub are_plain : List Data → Bool
are_plain ds = list_all (λ d. is_plain (name_in d)) ds

-- handlers keep their names
pub named_made : (name : List ℕ) (ds : List Data) → has_named name (map handler_of ds) ≡ is_named name ds
unfolding handler_of
named_made name ds = any_made handler_of (λ handler. bytes_eq handler.name name) ds

module _ (doc : Members) (fine : first_breach doc ≡ None) where
  pub services_plain : are_plain (services_in doc) ≡ true
  services_plain =
      each_wanted (rule_line PlainNames doc [] Service) (λ d. is_plain (name_in d)) (λ earlier d none. wanted (is_plain (name_in d)) none) [] (services_in doc)
      (each_kept PlainNames doc fine).services

  pub each_handler_plain : list_all (λ service. are_plain (things_in (codes "handler") service)) (services_in doc) ≡ true
  each_handler_plain =
      each_handler PlainNames doc (λ service d. is_plain (name_in d)) (λ service earlier d none. wanted (is_plain (name_in d)) none) (services_in doc)
      (each_kept PlainNames doc fine).handlers

  -- a handler that the rules find is served
  served_there : (service handler : List ℕ) → handler_stated doc service handler ≡ true → is_served (services_of doc) service handler ≡ true
  unfolding service_of
  served_there service handler stated =
      let found = some_passes (λ d. is_named handler (things_in (codes "handler") d)) (named service (services_in doc)) stated in
      let d : Data = found.0 in
      any_found (has_text (codes "name") service) (service_of (regions_of doc)) (λ s. bytes_eq s.name service && has_named handler s.handlers.items) (services_in doc) d found.1
      (and_from _ _ (first_passes (has_text (codes "name") service) (services_in doc) d found.1) (named_made handler (things_in (codes "handler") d) ∙ found.2))

  -- a line that the rules pass finds its handler
  pub line_served : (line : Line) → handler_exists doc line ≡ true → fits_services (services_of doc) line ≡ true
  unfolding fits_services
  line_served (Does (Call service handler value variable)) stated = served_there service handler stated
  line_served (Does (Send service handler value)) stated = served_there service handler stated
  line_served line stated = refl
