-- What the bodies of a document show, where each handler states one.
use Rattle.std.proofs.Common.{◌≡◌, ℕ, ◌+◌, List, [], ◌∷◌, ◌++◌, Bool, true, false, cond, not, length, map, nat_le, Option, Some, None, is_some, unwrap_or, option_map, Result, Ok, Err, refl, sym, ap, ◌∙◌, if◌then◌else◌, codes}
use Rattle.std.specs.Bool.{then_some}
use Rattle.std.specs.List.{list_all, position_from}
use Rattle.std.specs.Option.{option_or, option_map_or}
use Rattle.std.proofs.lemmas.Bool.{and_parts, and_from, false≢true}
use Rattle.toml.specs.Data.{Data, table, Members}
use Rattle.anti_ids.specs.declared.limits.TheConstants.{MOST_LINES}
use Rattle.anti_ids.specs.List.{Listed, empty}
use Rattle.anti_lang.specs.Words.{words}
use Rattle.anti_lang.specs.Program.{Block}
use Rattle.anti_lang.specs.Bodies.{block_of, body_of}
use Rattle.anti_lang.specs.Lines.{Line, read_line}
use Rattle.anti_lang.specs.Blocks.{lines_of}
use Rattle.anti_lang.specs.Parsing.{parsed, lines_from, read_or}
use Rattle.anti_lang.specs.declared.fault.LangCode.{LangCode}
use Rattle.anti_lang.specs.declared.fault.LangCode.TheVariants.{Unknown, Block as BadBlock, Variable}
use Rattle.anti_lang.specs.declared.fault.LangFault.{LangFault}
use Rattle.anti_lang.specs.declared.statement.Statement.{Statement}
use Rattle.anti_lang.proofs.BodyLaws.{lines_stated}
use Rattle.anti_lang.proofs.PlainLemmas.{block_again}
use Rattle.anti_rules.specs.Trees.{text_of, text_at, things_at, things_in, services_in}
use Rattle.anti_rules.specs.Statements.{next, body_in, fault_line, line_with, line_passes, bad_line, store_fits, handler_exists}
use Rattle.anti_rules.specs.inner.Parses.{line_fits, if_parsed, body_stated, body_parses, handler_body, service_parses, service_bodies, all_parse, all_bodies, parsed_bodies, body_fits, bodies_fit, service_fits, services_fit, is_shown}
use Rattle.anti_rules.specs.Rules.{form_line, rule_line}
use Rattle.anti_rules.specs.Walk.{placed, passed, first_from, first_at, first_handler, first_place}
use Rattle.anti_rules.specs.declared.rule.Rule.{Rule}
use Rattle.anti_rules.specs.declared.rule.Rule.TheVariants.{Statements, Blocks, Variables, StatementStores, StatementHandlers}
use Rattle.anti_rules.specs.declared.place.Part.{Part}
use Rattle.anti_rules.specs.declared.place.Part.TheVariants.{Top, Region, Store, Service, Handler, Sub, Request, Choice}

-- ---- one handler
-- What is known of a handler that states a body.
record Stated (d : Data) : Type 0 where
  block : Block
  few : nat_le (length (body_in d)) MOST_LINES ≡ true
  read : parsed (map text_of (body_in d)) ≡ Ok block
  body : handler_body d ≡ body_of block

stated_by : (few : Bool) (read : Result Block LangFault) → is_some (if few then if_parsed read else None) ≡ true
    → (block : Block) × (few ≡ true) × (read ≡ Ok block) × (unwrap_or (if few then if_parsed read else None) empty ≡ body_of block)
stated_by true (Ok block) h = (block, refl, refl, refl)
stated_by true (Err fault) h = absurd (cc)
stated_by false read h = absurd (cc)

stated : (d : Data) → body_parses d ≡ true → Stated d
unfolding body_stated
stated d h =
    let known = stated_by (nat_le (length (body_in d)) MOST_LINES) (parsed (map text_of (body_in d))) h in
    record { block = known.0; few = known.1; read = known.2; body = known.3 }

-- a body that parses has no fault
faultless : (code : LangCode) (d : Data) → body_parses d ≡ true → fault_line code d ≡ None
faultless code d h =
    let known = stated d h in
    ap (λ (few : Bool). if few then line_with (parsed (map text_of (body_in d))) code else None) known.few ∙ ap (λ read. line_with read code) known.read

-- no line is bad of those that are read, where a test refuses none of these
line_fine : (test : Line → Bool) (number place : ℕ) (line : Option Line) (rest : Result (List Line) ℕ) (found : Option ℕ) (lines : List Line)
    → ((later : List Line) → rest ≡ Ok later → list_all test later ≡ true → found ≡ None)
    → read_or number line rest ≡ Ok lines → list_all test lines ≡ true → cond (not (option_map_or test line true)) (Some place) found ≡ None
line_fine test number place None rest found lines more read all = absurd (cc)
line_fine test number place (Some line) (Err at) found lines more read all = absurd (cc)
line_fine test number place (Some line) (Ok later) found lines more read all =
    let same : line ∷ later ≡ lines = cc in
    let parts = and_parts (test line) (list_all test later) (ap (list_all test) same ∙ all) in
    ap (λ (b : Bool). cond (not b) (Some place) found) parts.0 ∙ more later refl parts.1

lines_fine : (test : Line → Bool) (done at : ℕ) (ds : List Data) (lines : List Line) → lines_from done (map text_of ds) ≡ Ok lines
    → list_all test lines ≡ true → position_from (λ line. not (line_passes test line)) at ds ≡ None
lines_fine test done at [] lines read all = refl
lines_fine test done at (d ∷ ds) lines read all =
    line_fine test (done + 1) at (read_line (words (text_of d))) (lines_from (done + 1) (map text_of ds)) (position_from (λ line. not (line_passes test line)) (at + 1) ds) lines
    (λ later rest more. lines_fine test (done + 1) (at + 1) ds later rest more) read all

-- no line of a handler is bad, where a test refuses none of those of its body
none_bad : (test : Line → Bool) (d : Data) → body_parses d ≡ true → list_all test (lines_of (block_of (handler_body d))) ≡ true → bad_line (line_passes test) d ≡ None
none_bad test d h fits =
    let known = stated d h in
    let block : Block = known.block in
    let same : block_of (handler_body d) ≡ block = ap block_of known.body ∙ block_again block in
    ap (option_map next)
    (lines_fine test 0 0 (body_in d) (lines_of block) (lines_stated (map text_of (body_in d)) block known.read)
    (ap (λ (b : Block). list_all test (lines_of b)) (sym same) ∙ fits))

-- ---- one rule
both_none : {A : Type 0} (a b : Option A) → a ≡ None → b ≡ None → option_or a b ≡ None
both_none None b first second = second
both_none (Some x) b first second = cc

-- None of some things fails, where all pass two tests and none that passes them fails.
none_from : (line : List Data → Data → Option ℕ) (test other : Data → Bool)
    → ((earlier : List Data) (d : Data) → test d ≡ true → other d ≡ true → line earlier d ≡ None)
    → (part : Part) (before : ℕ) (earlier ds : List Data) → list_all test ds ≡ true → list_all other ds ≡ true → first_from line part before earlier ds ≡ None
none_from line test other holds part before earlier [] h k = refl
none_from line test other holds part before earlier (d ∷ ds) h k =
    let parts = and_parts (test d) (list_all test ds) h in
    let others = and_parts (other d) (list_all other ds) k in
    both_none (placed part (next before) (line earlier d)) (first_from line part (next before) (earlier ++ d ∷ []) ds)
    (ap (placed part (next before)) (holds earlier d parts.0 others.0))
    (none_from line test other holds part (next before) (earlier ++ d ∷ []) ds parts.1 others.1)

-- Nothing of a part apart from the top and the handlers has a line.
abbrev Elsewhere : (Part → Option ℕ) → Type 0
Elsewhere line =
    (line Region ≡ None) × (line Store ≡ None) × (line Service ≡ None) × (line Sub ≡ None) × (line Request ≡ None) × (line Choice ≡ None)

-- A rule that only a handler fails, and only one that states no body or whose body does not pass the rule's test.
record AsksBodies (rule : Rule) (doc : Members) : Type 0 where
  top : form_line rule Top (table doc) ≡ None
  elsewhere : (earlier : List Data) (d : Data) → Elsewhere (λ part. rule_line rule doc [] part earlier d)
  handlers : (home : List ℕ) (earlier : List Data) (d : Data) → body_parses d ≡ true → body_fits rule doc home (handler_body d).items ≡ true
      → rule_line rule doc home Handler earlier d ≡ None

asks_bodies : (rule : Rule) (doc : Members) → is_shown rule doc ≡ true → AsksBodies rule doc
asks_bodies Statements doc h = record {
  top = refl;
  elsewhere = λ earlier d. (refl, refl, refl, refl, refl, refl);
  handlers = λ home earlier d parses fits. faultless Unknown d parses;
}
asks_bodies Blocks doc h = record {
  top = refl;
  elsewhere = λ earlier d. (refl, refl, refl, refl, refl, refl);
  handlers = λ home earlier d parses fits. faultless BadBlock d parses;
}
asks_bodies Variables doc h = record {
  top = refl;
  elsewhere = λ earlier d. (refl, refl, refl, refl, refl, refl);
  handlers = λ home earlier d parses fits. faultless Variable d parses;
}
asks_bodies StatementStores doc h = record {
  top = refl;
  elsewhere = λ earlier d. (refl, refl, refl, refl, refl, refl);
  handlers = λ home earlier d parses fits. none_bad (store_fits doc home) d parses fits;
}
asks_bodies StatementHandlers doc h = record {
  top = refl;
  elsewhere = λ earlier d. (refl, refl, refl, refl, refl, refl);
  handlers = λ home earlier d parses fits. none_bad (handler_exists doc) d parses fits;
}
asks_bodies rule doc h = absurd (false≢true h)

-- ---- the whole document
all_pass : {T : Type 0} (test : T → Bool) → ((x : T) → test x ≡ true) → (xs : List T) → list_all test xs ≡ true
all_pass test passes [] = refl
all_pass test passes (x ∷ xs) = and_from (test x) (list_all test xs) (passes x) (all_pass test passes xs)

-- the test of a rule that refuses no line
fits_any : (rule : Rule) (doc : Members) → ((home : List ℕ) (line : Line) → line_fits rule doc home line ≡ true) → services_fit rule doc ≡ true
fits_any rule doc passes =
    all_pass (service_fits rule doc)
    (λ service. all_pass (λ body. body_fits rule doc (text_at (codes "region") service) body.items)
    (λ body. all_pass (line_fits rule doc (text_at (codes "region") service)) (passes (text_at (codes "region") service)) (lines_of (block_of body)))
    (service_bodies service).items)
    (services_in doc)

shown_fits : (rule : Rule) (doc : Members) → is_shown rule doc ≡ true → services_fit rule doc ≡ true
shown_fits Statements doc h = fits_any Statements doc (λ home line. refl)
shown_fits Blocks doc h = fits_any Blocks doc (λ home line. refl)
shown_fits Variables doc h = fits_any Variables doc (λ home line. refl)
shown_fits StatementStores doc h = h
shown_fits StatementHandlers doc h = h
shown_fits rule doc h = absurd (false≢true h)

-- what the bodies of some handlers pass, each handler does
each_fits : (rule : Rule) (doc : Members) (home : List ℕ) (ds : List Data) → bodies_fit rule doc home (map handler_body ds) ≡ true
    → list_all (λ d. body_fits rule doc home (handler_body d).items) ds ≡ true
each_fits rule doc home [] h = refl
each_fits rule doc home (d ∷ ds) h =
    let parts = and_parts (body_fits rule doc home (handler_body d).items) (bodies_fit rule doc home (map handler_body ds)) h in
    and_from (body_fits rule doc home (handler_body d).items) (list_all (λ d. body_fits rule doc home (handler_body d).items) ds) parts.0 (each_fits rule doc home ds parts.1)

no_handler : (rule : Rule) (doc : Members) → AsksBodies rule doc → (before : ℕ) (services : List Data)
    → list_all service_parses services ≡ true → list_all (service_fits rule doc) services ≡ true → first_handler rule doc before services ≡ None
no_handler rule doc asks before [] h k = refl
no_handler rule doc asks before (service ∷ services) h k =
    let handlers = things_in (codes "handler") service in
    let home = text_at (codes "region") service in
    let parse = and_parts (service_parses service) (list_all service_parses services) h in
    let fit = and_parts (service_fits rule doc service) (list_all (service_fits rule doc) services) k in
    both_none (first_from (rule_line rule doc home Handler) Handler before [] handlers)
    (first_handler rule doc (passed before (length handlers)) services)
    (none_from (rule_line rule doc home Handler) body_parses (λ d. body_fits rule doc home (handler_body d).items) (asks.handlers home) Handler before [] handlers
    parse.0 (each_fits rule doc home handlers fit.0))
    (no_handler rule doc asks (passed before (length handlers)) services parse.1 fit.1)

no_thing : (rule : Rule) (doc : Members) (part : Part) (key : List ℕ)
    → ((earlier : List Data) (d : Data) → rule_line rule doc [] part earlier d ≡ None) → first_at rule doc part key ≡ None
no_thing rule doc part key none =
    let all = all_pass (λ (d : Data). true) (λ d. refl) (things_at key doc) in
    none_from (rule_line rule doc [] part) (λ d. true) (λ d. true) (λ earlier d h k. none earlier d) part 0 [] (things_at key doc) all all

no_place : (rule : Rule) (doc : Members) → AsksBodies rule doc → all_parse doc ≡ true → services_fit rule doc ≡ true → first_place rule doc ≡ None
no_place rule doc asks parse fit =
    both_none _ _ (ap (placed Top 0) asks.top)
    (both_none _ _ (no_thing rule doc Region (codes "regions") (λ earlier d. (asks.elsewhere earlier d).0))
    (both_none _ _ (no_thing rule doc Store (codes "store") (λ earlier d. (asks.elsewhere earlier d).1))
    (both_none _ _ (no_thing rule doc Service (codes "service") (λ earlier d. (asks.elsewhere earlier d).2))
    (both_none _ _ (no_handler rule doc asks 0 (services_in doc) parse fit)
    (both_none _ _ (no_thing rule doc Sub (codes "sub") (λ earlier d. (asks.elsewhere earlier d).3))
    (both_none _ _ (no_thing rule doc Request (codes "request") (λ earlier d. (asks.elsewhere earlier d).4))
    (no_thing rule doc Choice (codes "choices") (λ earlier d. (asks.elsewhere earlier d).5))))))))

parse_by : {T : Type 0} (all : Bool) (bodies found : T) → Some found ≡ then_some all bodies → all ≡ true
parse_by true bodies found h = refl
parse_by false bodies found h = absurd (cc)

-- A document fails nowhere a rule that its bodies show to hold, where all parse.
pub none_failing : (rule : Rule) (doc : Members) (read : Option (Listed (Listed (Listed Statement)))) (bodies : Listed (Listed (Listed Statement)))
    → read ≡ parsed_bodies doc → read ≡ Some bodies → is_shown rule doc ≡ true → None ≡ first_place rule doc
none_failing rule doc read bodies stated some shown =
    let parse : all_parse doc ≡ true = parse_by (all_parse doc) (all_bodies doc) bodies (sym some ∙ stated) in
    sym (no_place rule doc (asks_bodies rule doc shown) parse (shown_fits rule doc shown))
