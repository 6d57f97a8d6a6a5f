-- The test that a rule makes of the lines of statements, and of the bodies of services.
use Rattle.std.proofs.Common.{◌≡◌, ℕ, ◌+◌, ◌<◌, codes, List, [], ◌∷◌, ◌++◌, Bool, true, false, ◌&&◌, length, map, drop, get_or, Option, Some, option_map, refl, ap, sym, ◌∙◌}
use Rattle.std.specs.Prelude.{slice_get}
use Rattle.std.specs.List.{list_all}
use Rattle.std.proofs.lemmas.List.Folds.{list_all-append}
use Rattle.std.proofs.lemmas.Option.{slice_get-map, slice_get_read}
use Rattle.toml.specs.Data.{Members}
use Rattle.toml.specs.View.{view}
use Rattle.toml.specs.declared.value.Value.{Value}
use Rattle.anti_ids.specs.List.{Listed}
use Rattle.anti_lang.specs.Program.{Step}
use Rattle.anti_lang.specs.Bodies.{step_of, block_from, block_of}
use Rattle.anti_lang.specs.Lines.{Line, OpenRepeat, OpenIf, Close}
use Rattle.anti_lang.specs.Blocks.{step_lines, lines_of}
use Rattle.anti_lang.specs.declared.statement.Statement.{Statement}
use Rattle.anti_lang.specs.declared.statement.Statement.TheVariants as statements
use Rattle.anti_lang.proofs.PlainLemmas.{step_repeat, step_if}
use Rattle.anti_lang.proofs.ReadLemmas.{here_first}
use Rattle.anti_rules.specs.Trees.{text_at}
use Rattle.anti_rules.specs.inner.Parses.{line_fits, service_bodies, body_fits, bodies_fit, service_fits, step_fits}
use Rattle.anti_rules.specs.declared.rule.Rule.{Rule}
use Rattle.anti_rules.specs.declared.rule.Rule.TheVariants.{StatementStores, StatementHandlers}

-- ---- statements
-- a statement and those behind it
pub then_fits : (rule : Rule) (doc : Members) (home : List ℕ) (first : Statement) (rest : List Statement)
    → body_fits rule doc home (first ∷ rest) ≡ (step_fits rule doc home first && body_fits rule doc home rest)
then_fits rule doc home first rest =
    list_all-append (line_fits rule doc home) (step_lines (step_of first)) (lines_of (block_from (map step_of rest)))

-- no rule refuses the lines round a block
repeat_passes : (rule : Rule) (doc : Members) (home : List ℕ) (count : ℕ) → line_fits rule doc home (OpenRepeat count) ≡ true
repeat_passes StatementStores doc home count = refl
repeat_passes StatementHandlers doc home count = refl
repeat_passes rule doc home count = refl

if_passes : (rule : Rule) (doc : Members) (home variable : List ℕ) → line_fits rule doc home (OpenIf variable) ≡ true
if_passes StatementStores doc home variable = refl
if_passes StatementHandlers doc home variable = refl
if_passes rule doc home variable = refl

end_passes : (rule : Rule) (doc : Members) (home : List ℕ) → line_fits rule doc home Close ≡ true
end_passes StatementStores doc home = refl
end_passes StatementHandlers doc home = refl
end_passes rule doc home = refl

and_true : (b : Bool) → (b && true) ≡ b
and_true true = refl
and_true false = refl

block_fits : (rule : Rule) (doc : Members) (home : List ℕ) (first : Line) (lines : List Line) → line_fits rule doc home first ≡ true
    → list_all (line_fits rule doc home) (first ∷ (lines ++ Close ∷ [])) ≡ list_all (line_fits rule doc home) lines
block_fits rule doc home first lines passes =
    ap (λ (b : Bool). b && list_all (line_fits rule doc home) (lines ++ Close ∷ [])) passes
    ∙ list_all-append (line_fits rule doc home) lines (Close ∷ [])
    ∙ ap (λ (b : Bool). list_all (line_fits rule doc home) lines && (b && true)) (end_passes rule doc home)
    ∙ and_true (list_all (line_fits rule doc home) lines)

-- a statement that opens a block passes where the block does
pub repeat_fits : (rule : Rule) (doc : Members) (home : List ℕ) (count : ℕ) (body : Listed Statement)
    → step_fits rule doc home (statements.Repeat count body) ≡ body_fits rule doc home body.items
repeat_fits rule doc home count body =
    ap (λ (step : Step). list_all (line_fits rule doc home) (step_lines step)) (step_repeat count body)
    ∙ block_fits rule doc home (OpenRepeat count) (lines_of (block_of body)) (repeat_passes rule doc home count)

pub if_fits : (rule : Rule) (doc : Members) (home variable : List ℕ) (body : Listed Statement)
    → step_fits rule doc home (statements.IfAbsent variable body) ≡ body_fits rule doc home body.items
if_fits rule doc home variable body =
    ap (λ (step : Step). list_all (line_fits rule doc home) (step_lines step)) (step_if variable body)
    ∙ block_fits rule doc home (OpenIf variable) (lines_of (block_of body)) (if_passes rule doc home variable)

-- ---- services
-- the bodies at a place are those of the service there
bodies_at : (services : List Value) (bodies : List (Listed (Listed Statement))) (i : ℕ) (service : Value) (here : Listed (Listed Statement))
    → i < length services → service ≡ get_or services i service → bodies ≡ map service_bodies (map view services) → slice_get bodies i ≡ Some here
    → here ≡ service_bodies (view service)
bodies_at services bodies i service here within at all is =
    let found : slice_get bodies i ≡ Some (service_bodies (view service)) =
    ap (λ (them : List (Listed (Listed Statement))). slice_get them i) all
    ∙ slice_get-map service_bodies (map view services) i
    ∙ ap (option_map service_bodies) (slice_get-map view services i)
    ∙ ap (λ (o : Option Value). option_map service_bodies (option_map view o)) (slice_get_read services (length services) i service refl within at) in
    cc

-- a service and those behind it
pub service_first : (rule : Rule) (doc : Members) (services : List Value) (bodies : List (Listed (Listed Statement))) (i : ℕ) (service : Value)
    (here : Listed (Listed Statement)) (home : List ℕ) (fits : Bool)
    → i < length services → service ≡ get_or services i service → bodies ≡ map service_bodies (map view services) → slice_get bodies i ≡ Some here
    → home ≡ text_at (codes "region") (view service) → fits ≡ bodies_fit rule doc home here.items
    → (fits && list_all (service_fits rule doc) (map view (drop (i + 1) services))) ≡ list_all (service_fits rule doc) (map view (drop i services))
service_first rule doc services bodies i service here home fits within at all is region fit =
    let rest : Bool = list_all (service_fits rule doc) (map view (drop (i + 1) services)) in
    let these : here ≡ service_bodies (view service) = bodies_at services bodies i service here within at all is in
    let this : fits ≡ service_fits rule doc (view service) =
    fit ∙ ap (λ (h : List ℕ). bodies_fit rule doc h here.items) region
    ∙ ap (λ (b : Listed (Listed Statement)). bodies_fit rule doc (text_at (codes "region") (view service)) b.items) these in
    ap (λ (b : Bool). b && rest) this
    ∙ ap (λ (them : List Value). list_all (service_fits rule doc) (map view them)) (sym (here_first services i service within at))
