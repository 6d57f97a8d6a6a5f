-- Each handler of a document without a breach states a body.
use Rattle.std.proofs.Common.{◌≡◌, ℕ, List, [], ◌∷◌, ◌++◌, Bool, true, false, length, map, nat_le, Option, Some, None, is_some, ap, ◌∙◌, refl, if◌then◌else◌, codes}
use Rattle.std.specs.Bool.{then_some}
use Rattle.std.specs.List.{list_all}
use Rattle.std.specs.Option.{option_map_or}
use Rattle.std.proofs.lemmas.Bool.{and_parts, and_from}
use Rattle.toml.specs.Data.{Data, Members, get_member, as_table}
use Rattle.anti_ids.specs.declared.limits.TheConstants.{MOST_LINES}
use Rattle.anti_ids.specs.List.{Listed}
use Rattle.anti_lang.specs.Parsing.{parsed}
use Rattle.anti_lang.specs.declared.statement.Statement.{Statement}
use Rattle.anti_rules.specs.Trees.{text_of, text_at, things_at, things_in, services_in}
use Rattle.anti_rules.specs.Keys.{keys_of, all_fit, has_type, has_count, is_text}
use Rattle.anti_rules.specs.Statements.{body_in, bad_line}
use Rattle.anti_rules.specs.Rules.{wants, rule_line}
use Rattle.anti_rules.specs.Order.{rules, breach_from, first_breach}
use Rattle.anti_rules.specs.inner.Parses.{if_parsed, body_stated, body_parses, bodies_parse, service_parses, all_parse, all_bodies, parsed_bodies}
use Rattle.anti_rules.specs.declared.table_keys.KeyKind.TheVariants.{Text, Things}
use Rattle.anti_rules.specs.declared.rule.Rule.{Rule}
use Rattle.anti_rules.specs.declared.rule.Rule.TheVariants.{Typed, Counted, Statements, Blocks, Variables}
use Rattle.anti_rules.specs.declared.place.Part.TheVariants.{Handler}
use Rattle.anti_rules.proofs.Holds.{NoneFails, NoHandlerFails, each_kept, tabled, shaped, few_things, states_block}

-- what is asked of a table before its lines
form_first : (fits : Bool) (line : Option ℕ) → (if fits then line else Some 0) ≡ None → wants fits ≡ None
form_first true line h = refl
form_first false line h = h

-- A handler that fails no rule has at most `MOST_LINES` lines.
pub few_lines : (doc : Members) (home : List ℕ) (earlier : List Data) (d : Data) → ((rule : Rule) → rule_line rule doc home Handler earlier d ≡ None)
    → nat_le (length (body_in d)) MOST_LINES ≡ true
few_lines doc home earlier d none =
    let typed : Members → Bool = all_fit has_type (keys_of Handler) in
    let table = tabled typed (as_table d) (form_first (option_map_or typed (as_table d) false) (bad_line is_text d) (none Typed)) in
    let ms : Members = table.0 in
    let counted = shaped (all_fit has_count (keys_of Handler)) (as_table d) ms table.1 (none Counted) in
    let counts = and_parts (option_map_or (has_count Text) (get_member (codes "name") ms) true) _ counted in
    let body = and_parts (option_map_or (has_count (Things 0 MOST_LINES)) (get_member (codes "body") ms) true) _ counts.1 in
    ap (λ (o : Option Members). nat_le (length (option_map_or (λ found. things_at (codes "body") found) o [])) MOST_LINES) table.1
    ∙ few_things 0 MOST_LINES (get_member (codes "body") ms) body.0

-- such a handler states a body
body_there : (doc : Members) (home : List ℕ) (earlier : List Data) (d : Data) → ((rule : Rule) → rule_line rule doc home Handler earlier d ≡ None)
    → body_parses d ≡ true
unfolding body_stated
body_there doc home earlier d none =
    let few = few_lines doc home earlier d none in
    let read = states_block d few (none Statements) (none Blocks) (none Variables) in
    ap (λ (b : Bool). is_some (if b then if_parsed (parsed (map text_of (body_in d))) else None)) few ∙ ap (λ r. is_some (if_parsed r)) read.1

bodies_there : (doc : Members) (home : List ℕ) (earlier ds : List Data) → ((rule : Rule) → NoneFails (rule_line rule doc home Handler) earlier ds)
    → bodies_parse ds ≡ true
bodies_there doc home earlier [] none = refl
bodies_there doc home earlier (d ∷ ds) none =
    and_from (body_parses d) (bodies_parse ds) (body_there doc home earlier d (λ rule. (none rule).0))
    (bodies_there doc home (earlier ++ d ∷ []) ds (λ rule. (none rule).1))

services_there : (doc : Members) (services : List Data) → ((rule : Rule) → NoHandlerFails rule doc services) → list_all service_parses services ≡ true
services_there doc [] none = refl
services_there doc (service ∷ services) none =
    and_from (service_parses service) (list_all service_parses services)
    (bodies_there doc (text_at (codes "region") service) [] (things_in (codes "handler") service) (λ rule. (none rule).0))
    (services_there doc services (λ rule. (none rule).1))

-- All bodies of a document without a breach parse.
pub all_there : (doc : Members) → first_breach doc ≡ None → all_parse doc ≡ true
all_there doc fine = services_there doc (services_in doc) (λ rule. (each_kept rule doc fine).handlers)

-- there is a breach, where some handler states no body
pub none_missing : (doc : Members) (bodies : Option (Listed (Listed (Listed Statement)))) → bodies ≡ None → bodies ≡ parsed_bodies doc
    → breach_from doc 0 rules ≡ None → ⊥
unfolding first_breach
none_missing doc bodies none read fine =
    let there : parsed_bodies doc ≡ Some (all_bodies doc) = ap (λ (b : Bool). then_some b (all_bodies doc)) (all_there doc fine) in
    cc
