-- The bodies of a document as the code has them, and the rules that they show to hold.
use Rattle.std.specs.Prelude.{ℕ, codes, List, map, length, Bool, true, false, nat_le, Option, Some, None, is_some, unwrap_or, Result, Ok, Err, if◌then◌else◌}
use Rattle.std.specs.Bool.{then_some}
use Rattle.std.specs.List.{list_all}
use Rattle.toml.specs.Data.{Data, Members}
use Rattle.anti_ids.specs.declared.limits.TheConstants.{MOST_LINES}
use Rattle.anti_ids.specs.List.{Listed, plain, empty}
use Rattle.anti_lang.specs.Program.{Block}
use Rattle.anti_lang.specs.Bodies.{step_of, block_from, body_of}
use Rattle.anti_lang.specs.Blocks.{step_lines, lines_of}
use Rattle.anti_lang.specs.Parsing.{parsed}
use Rattle.anti_lang.specs.declared.statement.Statement.{Statement}
use Rattle.anti_lang.specs.declared.fault.LangFault.{LangFault}
use Rattle.anti_rules.specs.Trees.{text_of, text_at, things_in, services_in}
use Rattle.anti_rules.specs.Statements.{body_in, store_fits, handler_exists}
use Rattle.anti_rules.specs.declared.breach.Breach.{Breach}
use Rattle.anti_rules.specs.declared.rule.Rule.{Rule}
use Rattle.anti_rules.specs.declared.rule.Rule.TheVariants.{Statements, Blocks, Variables, StatementStores, StatementHandlers}
use Rattle.anti_lang.specs.Lines.{Line}
use Rattle.anti_rules.specs.declared.rule.Rule.TheVariants as rules

-- The test that a rule makes of each line of a body.
abbrev pub line_fits : Rule → Members → List ℕ → Line → Bool
line_fits rules.StatementStores doc home line = store_fits doc home line
line_fits rules.StatementHandlers doc home line = handler_exists doc line
line_fits _ doc home line = true

-- ---- the bodies
-- parsed lines as a body, where they state one
abbrev pub if_parsed : Result Block LangFault → Option (Listed Statement)
if_parsed (Ok block) = Some (body_of block)
if_parsed (Err fault) = None

-- the body that a handler states, where it has at most `MOST_LINES` lines and they state one
unfoldable pub body_stated : Data → Option (Listed Statement)
body_stated handler =
    if nat_le (length (body_in handler)) MOST_LINES then if_parsed (parsed (map text_of (body_in handler))) else None

-- whether a handler states a body
abbrev pub body_parses : Data → Bool
body_parses handler = is_some (body_stated handler)

-- the body that a handler states; the empty one where it states none
abbrev pub handler_body : Data → Listed Statement
handler_body handler = unwrap_or (body_stated handler) empty

-- whether each of some handlers states a body
abbrev pub bodies_parse : List Data → Bool
bodies_parse handlers = list_all body_parses handlers

-- the bodies of some handlers
abbrev pub handler_bodies : List Data → Listed (Listed Statement)
handler_bodies handlers = plain (map handler_body handlers)

-- the bodies of some handlers, where each states one
abbrev pub bodies_stated : List Data → Option (Listed (Listed Statement))
bodies_stated handlers = then_some (bodies_parse handlers) (handler_bodies handlers)

-- whether each handler of a service states a body
abbrev pub service_parses : Data → Bool
service_parses service = bodies_parse (things_in (codes "handler") service)

-- the bodies of a service
abbrev pub service_bodies : Data → Listed (Listed Statement)
service_bodies service = handler_bodies (things_in (codes "handler") service)

-- Whether each handler of a document states a body.
abbrev pub all_parse : Members → Bool
all_parse doc = list_all service_parses (services_in doc)

-- The bodies of a document, by services.
abbrev pub all_bodies : Members → Listed (Listed (Listed Statement))
all_bodies doc = plain (map service_bodies (services_in doc))

-- The bodies of a document, where each handler states one.
abbrev pub parsed_bodies : Members → Option (Listed (Listed (Listed Statement)))
parsed_bodies doc = then_some (all_parse doc) (all_bodies doc)

-- ---- what the bodies show
-- whether each line of a statement, with its block, passes the test of a rule
abbrev pub step_fits : Rule → Members → List ℕ → Statement → Bool
step_fits rule doc home statement = list_all (line_fits rule doc home) (step_lines (step_of statement))

-- the same of a body
abbrev pub body_fits : Rule → Members → List ℕ → List Statement → Bool
body_fits rule doc home statements = list_all (line_fits rule doc home) (lines_of (block_from (map step_of statements)))

-- the same of some bodies
abbrev pub bodies_fit : Rule → Members → List ℕ → List (Listed Statement) → Bool
bodies_fit rule doc home bodies = list_all (λ body. body_fits rule doc home body.items) bodies

-- the same of the bodies of a service
abbrev pub service_fits : Rule → Members → Data → Bool
service_fits rule doc service = bodies_fit rule doc (text_at (codes "region") service) (service_bodies service).items

-- Whether each line of the bodies of a document passes the test of a rule.
abbrev pub services_fit : Rule → Members → Bool
services_fit rule doc = list_all (service_fits rule doc) (services_in doc)

-- Whether the bodies of a document, where each handler states one, show that it keeps a rule.
abbrev pub is_shown : Rule → Members → Bool
is_shown Statements doc = true
is_shown Blocks doc = true
is_shown Variables doc = true
is_shown StatementStores doc = services_fit StatementStores doc
is_shown StatementHandlers doc = services_fit StatementHandlers doc
is_shown _ doc = false

-- the breach that is told in place of bodies
abbrev pub breach_in : {B : Type 0} → Result B Breach → Option Breach
breach_in (Ok bodies) = None
breach_in (Err breach) = Some breach
