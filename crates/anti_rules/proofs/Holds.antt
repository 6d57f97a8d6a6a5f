-- What is known of a document without a breach.
use Rattle.std.proofs.Common.{◌≡◌, ℕ, ◌+◌, List, [], ◌∷◌, ◌++◌, Bool, true, false, cond, not, ◌&&◌, ◌||◌, length, map, Option, Some, None, is_some, option_map, Result, Ok, Err, refl, ap, sym, ◌∙◌, if◌then◌else◌, codes, nat_le}
use Rattle.std.specs.List.{list_all, list_any, position_from}
use Rattle.std.specs.Option.{option_or, option_map_or, option_and_then}
use Rattle.std.proofs.lemmas.Bool.{and_parts}
use Rattle.std.proofs.lemmas.List.Folds.{list_all-append}
use Rattle.std.proofs.Math.Dec.{leb-zero}
use Rattle.toml.specs.Data.{Data, table, Members, get_member, as_array}
use Rattle.anti_ids.specs.Names.{is_plain}
use Rattle.anti_rules.specs.Keys.{keys_of, all_fit, has_count, elements_of}
use Rattle.anti_rules.specs.declared.table_keys.KeyKind.TheVariants.{Things}
use Rattle.anti_lang.specs.Words.{words}
use Rattle.anti_lang.specs.Program.{Block}
use Rattle.anti_lang.specs.Lines.{Line, read_line}
use Rattle.anti_lang.specs.Parsing.{parsed, parsed_or, body_or, lines_from, read_or}
use Rattle.anti_lang.specs.Faults.{block_fault, variable_fault}
use Rattle.anti_lang.specs.declared.fault.LangCode.{LangCode}
use Rattle.anti_lang.specs.declared.fault.LangCode.TheVariants.{Unknown, Block as BadBlock, Variable}
use Rattle.anti_lang.specs.declared.fault.LangFault.{LangFault}
use Rattle.anti_lang.specs.declared.fault.LangFault.TheVariants as faults
use Rattle.anti_rules.specs.Trees.{text_of, text_at, things_at, things_in, stores_in, services_in, regions_in, elements, name_in}
use Rattle.anti_rules.specs.Statements.{body_in, fault_line, line_with, line_passes, bad_line, next}
use Rattle.anti_rules.specs.Rules.{wants, form_line, rule_line}
use Rattle.anti_rules.specs.Walk.{placed, passed, first_from, first_at, first_handler, first_place}
use Rattle.anti_rules.specs.Order.{rules, breach_from, first_breach}
use Rattle.anti_rules.specs.declared.breach.Breach.{Breach}
use Rattle.anti_rules.specs.declared.rule.Rule.{Rule}
use Rattle.anti_rules.specs.declared.rule.Rule.TheVariants.{Listed, There, Typed, Counted, Ranged, PlainNames, DistinctRegions, DistinctObjects, DistinctHandlers, DistinctSubs, StoreKinds, Replicas, KindKeys, ServiceRegions, SubStores, SubHandlers, SubReplicas, RequestHandlers, RequestValues, Statements, Blocks, Variables, StatementStores, StatementHandlers}
use Rattle.anti_rules.specs.declared.place.Part.{Part}
use Rattle.anti_rules.specs.declared.place.Part.TheVariants.{Top, Region, Store, Service, Handler, Sub, Request, Choice}
use Rattle.anti_rules.specs.declared.place.Place.{Place}

-- ---- from no breach to each rule
-- Each of some rules has no place.
abbrev pub AllHold : Members → List Rule → Type 0
AllHold doc [] = Unit {0}
AllHold doc (rule ∷ rest) = (first_place rule doc ≡ None) × AllHold doc rest

pub neither : {A : Type 0} (a b : Option A) → option_or a b ≡ None → (a ≡ None) × (b ≡ None)
neither None b h = (refl, h)
neither (Some x) b h = cc

-- what is made of nothing
pub unmapped : {A B : Type 0} (f : A → B) (o : Option A) → option_map f o ≡ None → o ≡ None
unmapped f None h = refl
unmapped f (Some x) h = cc

abbrev breach_at : ℕ → Place → Breach
breach_at number place = record { rule = number; place = place }

all_from : (doc : Members) (before : ℕ) (tried : List Rule) → breach_from doc before tried ≡ None → AllHold doc tried
all_from doc before [] h = tt
all_from doc before (rule ∷ rest) h =
    let parts = neither (option_map (breach_at (before + 1)) (first_place rule doc)) (breach_from doc (before + 1) rest) h in
    (unmapped (breach_at (before + 1)) (first_place rule doc) parts.0, all_from doc (before + 1) rest parts.1)

-- A document without a breach fails no rule.
pub all_hold : (doc : Members) → first_breach doc ≡ None → AllHold doc rules
unfolding first_breach
all_hold doc h = all_from doc 0 rules h

-- the same of one rule
pub holds : (rule : Rule) (doc : Members) → AllHold doc rules → first_place rule doc ≡ None
unfolding rules
holds Listed doc all = all.0
holds There doc all = all.1.0
holds Typed doc all = all.1.1.0
holds Counted doc all = all.1.1.1.0
holds Ranged doc all = all.1.1.1.1.0
holds PlainNames doc all = all.1.1.1.1.1.0
holds DistinctRegions doc all = all.1.1.1.1.1.1.0
holds DistinctObjects doc all = all.1.1.1.1.1.1.1.0
holds DistinctHandlers doc all = all.1.1.1.1.1.1.1.1.0
holds DistinctSubs doc all = all.1.1.1.1.1.1.1.1.1.0
holds StoreKinds doc all = all.1.1.1.1.1.1.1.1.1.1.0
holds Replicas doc all = all.1.1.1.1.1.1.1.1.1.1.1.0
holds KindKeys doc all = all.1.1.1.1.1.1.1.1.1.1.1.1.0
holds ServiceRegions doc all = all.1.1.1.1.1.1.1.1.1.1.1.1.1.0
holds SubStores doc all = all.1.1.1.1.1.1.1.1.1.1.1.1.1.1.0
holds SubHandlers doc all = all.1.1.1.1.1.1.1.1.1.1.1.1.1.1.1.0
holds SubReplicas doc all = all.1.1.1.1.1.1.1.1.1.1.1.1.1.1.1.1.0
holds RequestHandlers doc all = all.1.1.1.1.1.1.1.1.1.1.1.1.1.1.1.1.1.0
holds RequestValues doc all = all.1.1.1.1.1.1.1.1.1.1.1.1.1.1.1.1.1.1.0
holds Statements doc all = all.1.1.1.1.1.1.1.1.1.1.1.1.1.1.1.1.1.1.1.0
holds Blocks doc all = all.1.1.1.1.1.1.1.1.1.1.1.1.1.1.1.1.1.1.1.1.0
holds Variables doc all = all.1.1.1.1.1.1.1.1.1.1.1.1.1.1.1.1.1.1.1.1.1.0
holds StatementStores doc all = all.1.1.1.1.1.1.1.1.1.1.1.1.1.1.1.1.1.1.1.1.1.1.0
holds StatementHandlers doc all = all.1.1.1.1.1.1.1.1.1.1.1.1.1.1.1.1.1.1.1.1.1.1.1.0

-- ---- from a rule to the things of each part
-- None of some things fails a test, behind earlier ones.
abbrev pub NoneFails : (List Data → Data → Option ℕ) → List Data → List Data → Type 0
NoneFails line earlier [] = Unit {0}
NoneFails line earlier (d ∷ ds) = (line earlier d ≡ None) × NoneFails line (earlier ++ d ∷ []) ds

-- No handler of some services fails a rule.
abbrev pub NoHandlerFails : Rule → Members → List Data → Type 0
NoHandlerFails rule doc [] = Unit {0}
NoHandlerFails rule doc (service ∷ services) =
    NoneFails (rule_line rule doc (text_at (codes "region") service) Handler) [] (things_in (codes "handler") service) × NoHandlerFails rule doc services

-- A rule that a document nowhere fails.
pub record IsKept (rule : Rule) (doc : Members) : Type 0 where
  pub top : form_line rule Top (table doc) ≡ None
  pub regions : NoneFails (rule_line rule doc [] Region) [] (regions_in doc)
  pub stores : NoneFails (rule_line rule doc [] Store) [] (stores_in doc)
  pub services : NoneFails (rule_line rule doc [] Service) [] (services_in doc)
  pub handlers : NoHandlerFails rule doc (services_in doc)
  pub subs : NoneFails (rule_line rule doc [] Sub) [] (things_at (codes "sub") doc)
  pub requests : NoneFails (rule_line rule doc [] Request) [] (things_at (codes "request") doc)
  pub choices : NoneFails (rule_line rule doc [] Choice) [] (things_at (codes "choices") doc)

no_line : (part : Part) (item : ℕ) (line : Option ℕ) → placed part item line ≡ None → line ≡ None
no_line part item None h = refl
no_line part item (Some line) h = cc

none_fails : (line : List Data → Data → Option ℕ) (part : Part) (before : ℕ) (earlier ds : List Data) → first_from line part before earlier ds ≡ None → NoneFails line earlier ds
none_fails line part before earlier [] h = tt
none_fails line part before earlier (d ∷ ds) h =
    let parts = neither (placed part (next before) (line earlier d)) (first_from line part (next before) (earlier ++ d ∷ []) ds) h in
    (no_line part (next before) (line earlier d) parts.0, none_fails line part (next before) (earlier ++ d ∷ []) ds parts.1)

no_handler_fails : (rule : Rule) (doc : Members) (before : ℕ) (services : List Data) → first_handler rule doc before services ≡ None → NoHandlerFails rule doc services
no_handler_fails rule doc before [] h = tt
no_handler_fails rule doc before (service ∷ services) h =
    let parts =
    neither
    (first_from (rule_line rule doc (text_at (codes "region") service) Handler) Handler before [] (things_in (codes "handler") service))
    (first_handler rule doc (passed before (length (things_in (codes "handler") service))) services) h in
    (none_fails _ Handler before [] (things_in (codes "handler") service) parts.0, no_handler_fails rule doc (passed before (length (things_in (codes "handler") service))) services parts.1)

-- A rule without a place is kept by each part.
pub kept : (rule : Rule) (doc : Members) → first_place rule doc ≡ None → IsKept rule doc
kept rule doc h =
    let one = neither (placed Top 0 (form_line rule Top (table doc))) _ h in
    let two = neither (first_at rule doc Region (codes "regions")) _ one.1 in
    let three = neither (first_at rule doc Store (codes "store")) _ two.1 in
    let four = neither (first_at rule doc Service (codes "service")) _ three.1 in
    let five = neither (first_handler rule doc 0 (services_in doc)) _ four.1 in
    let six = neither (first_at rule doc Sub (codes "sub")) _ five.1 in
    let seven = neither (first_at rule doc Request (codes "request")) (first_at rule doc Choice (codes "choices")) six.1 in
    record {
      top = no_line Top 0 (form_line rule Top (table doc)) one.0;
      regions = none_fails (rule_line rule doc [] Region) Region 0 [] (regions_in doc) two.0;
      stores = none_fails (rule_line rule doc [] Store) Store 0 [] (stores_in doc) three.0;
      services = none_fails (rule_line rule doc [] Service) Service 0 [] (services_in doc) four.0;
      handlers = no_handler_fails rule doc 0 (services_in doc) five.0;
      subs = none_fails (rule_line rule doc [] Sub) Sub 0 [] (things_at (codes "sub") doc) six.0;
      requests = none_fails (rule_line rule doc [] Request) Request 0 [] (things_at (codes "request") doc) seven.0;
      choices = none_fails (rule_line rule doc [] Choice) Choice 0 [] (things_at (codes "choices") doc) seven.1;
    }

-- Each rule is kept by a document without a breach.
pub each_kept : (rule : Rule) (doc : Members) → first_breach doc ≡ None → IsKept rule doc
each_kept rule doc h = kept rule doc (holds rule doc (all_hold doc h))

-- ---- from the lines of a rule to what it wants
-- What is wanted holds.
pub wanted : (b : Bool) → wants b ≡ None → b ≡ true
wanted true h = refl
wanted false h = cc

-- What no failing says of each thing.
pub each_wanted : (line : List Data → Data → Option ℕ) (test : Data → Bool) → ((earlier : List Data) (d : Data) → line earlier d ≡ None → test d ≡ true)
    → (earlier ds : List Data) → NoneFails line earlier ds → list_all test ds ≡ true
each_wanted line test want earlier [] h = refl
each_wanted line test want earlier (d ∷ ds) h =
    let here = want earlier d h.0 in let rest = each_wanted line test want (earlier ++ d ∷ []) ds h.1 in
    ap (λ b. b && list_all test ds) here ∙ rest

-- The same of the handlers of each service, where the test knows the service.
pub each_handler : (rule : Rule) (doc : Members) (test : Data → Data → Bool)
    → ((service : Data) (earlier : List Data) (d : Data) → rule_line rule doc (text_at (codes "region") service) Handler earlier d ≡ None → test service d ≡ true)
    → (services : List Data) → NoHandlerFails rule doc services → list_all (λ service. list_all (test service) (things_in (codes "handler") service)) services ≡ true
each_handler rule doc test want [] h = refl
each_handler rule doc test want (service ∷ services) h =
    let here = each_wanted (rule_line rule doc (text_at (codes "region") service) Handler) (test service) (want service) [] (things_in (codes "handler") service) h.0 in
    ap (λ b. b && list_all (λ service. list_all (test service) (things_in (codes "handler") service)) services) here ∙ each_handler rule doc test want services h.1

-- No two of some things are the same.
abbrev pub are_apart : (Data → Data → Bool) → List Data → Bool
are_apart same [] = true
are_apart same (d ∷ ds) = not (list_any (same d) ds) && are_apart same ds

apart_step : (a b c p q : Bool) → (c ≡ false → p ≡ true → q ≡ true) → (a || c) ≡ false → (not b && p) ≡ true → (not (a || b) && q) ≡ true
apart_step false false c p q more none rest = more none rest
apart_step false true c p q more none rest = cc
apart_step true b c p q more none rest = cc

-- one more thing that is not the same as the earlier ones
apart_more : (same : Data → Data → Bool) (d : Data) (ds earlier : List Data) → list_any (λ e. same e d) earlier ≡ false
    → list_all (λ e. not (list_any (same e) ds)) earlier ≡ true → list_all (λ e. not (same e d || list_any (same e) ds)) earlier ≡ true
apart_more same d ds [] none rest = refl
apart_more same d ds (e ∷ earlier) none rest = apart_step (same e d) (list_any (same e) ds) _ _ _ (apart_more same d ds earlier) none rest

all_of_none : (earlier : List Data) → list_all (λ (e : Data). true) earlier ≡ true
all_of_none [] = refl
all_of_none (e ∷ earlier) = all_of_none earlier

apart_behind : (line : List Data → Data → Option ℕ) (same : Data → Data → Bool) → ((earlier : List Data) (d : Data) → line earlier d ≡ None → list_any (λ e. same e d) earlier ≡ false)
    → (earlier ds : List Data) → NoneFails line earlier ds → (list_all (λ e. not (list_any (same e) ds)) earlier ≡ true) × (are_apart same ds ≡ true)
apart_behind line same differ earlier [] h = (all_of_none earlier, refl)
apart_behind line same differ earlier (d ∷ ds) h =
    let rest = apart_behind line same differ (earlier ++ d ∷ []) ds h.1 in
    let parts = and_parts _ _ (sym (list_all-append (λ e. not (list_any (same e) ds)) earlier (d ∷ [])) ∙ rest.0) in
    let last = and_parts (not (list_any (same d) ds)) true parts.1 in
    (apart_more same d ds earlier (differ earlier d h.0) parts.0, ap (λ b. b && are_apart same ds) last.0 ∙ rest.1)

-- What differs from each earlier thing is distinct.
pub each_apart : (line : List Data → Data → Option ℕ) (same : Data → Data → Bool) → ((earlier : List Data) (d : Data) → line earlier d ≡ None → list_any (λ e. same e d) earlier ≡ false)
    → (ds : List Data) → NoneFails line [] ds → are_apart same ds ≡ true
each_apart line same differ ds h = (apart_behind line same differ [] ds h).1

-- ---- tables, and what stands at their keys
-- A thing that must be a table is one, and what is asked of the table holds.
pub tabled : (test : Members → Bool) (ms : Option Members) → wants (option_map_or test ms false) ≡ None → (found : Members) × (ms ≡ Some found) × (test found ≡ true)
tabled test None h = cc
tabled test (Some found) h = (found, refl, wanted (test found) h)

-- What is asked of a table holds of one that is there.
pub shaped : (test : Members → Bool) (ms : Option Members) (found : Members) → ms ≡ Some found → wants (option_map_or test ms true) ≡ None → test found ≡ true
shaped test None found there h = cc
shaped test (Some ms) found there h = let same : ms ≡ found = cc in ap test (sym same) ∙ wanted (test ms) h

none_few : (most : ℕ) → nat_le 0 most ≡ true
none_few most = leb-zero most

-- At most so many things stand at a key.
pub few_things : (least most : ℕ) (o : Option Data) → option_map_or (has_count (Things least most)) o true ≡ true
    → nat_le (length (option_map_or elements (option_and_then as_array o) [])) most ≡ true
few_things least most None h = none_few most
few_things least most (Some d) h = (and_parts (nat_le least (length (elements_of d))) (nat_le (length (elements_of d)) most) h).1

-- At least so many things stand at a key that is there.
pub some_things : (least most : ℕ) (o : Option Data) → option_map_or (has_count (Things least most)) o true ≡ true → is_some o ≡ true
    → nat_le least (length (option_map_or elements (option_and_then as_array o) [])) ≡ true
some_things least most None h there = cc
some_things least most (Some d) h there = (and_parts (nat_le least (length (elements_of d))) (nat_le (length (elements_of d)) most) h).0

-- A document has at most 8 regions.
pub few_regions : (doc : Members) → first_breach doc ≡ None → nat_le (length (regions_in doc)) 8 ≡ true
few_regions doc h =
    few_things 1 8 (get_member (codes "regions") doc) (and_parts _ _ (wanted (all_fit has_count (keys_of Top) doc) (each_kept Counted doc h).top)).0

-- The names of stores are plain.
pub stores_plain : (doc : Members) → first_breach doc ≡ None → list_all (λ d. is_plain (name_in d)) (stores_in doc) ≡ true
stores_plain doc h =
    each_wanted (rule_line PlainNames doc [] Store) (λ d. is_plain (name_in d)) (λ earlier d none. wanted (is_plain (name_in d)) none) [] (stores_in doc)
    (each_kept PlainNames doc h).stores

-- ---- bodies
body_memory : (lines : List Line) (block variable : Option ℕ) → body_or lines block variable ≡ Err faults.NoMemory → ⊥
body_memory lines (Some number) variable h = cc
body_memory lines None (Some number) h = cc
body_memory lines None None h = cc

read_memory : (read : Result (List Line) ℕ) → parsed_or read ≡ Err faults.NoMemory → ⊥
read_memory (Err number) h = cc
read_memory (Ok lines) h = body_memory lines (block_fault lines) (variable_fault lines) h

-- no definition of the language answers a want of memory
no_memory : (texts : List (List ℕ)) → parsed texts ≡ Err faults.NoMemory → ⊥
no_memory texts h = read_memory (lines_from 0 texts) h

-- no fault of any code
faultless : (stated : Result Block LangFault) → (stated ≡ Err faults.NoMemory → ⊥)
    → line_with stated Unknown ≡ None → line_with stated BadBlock ≡ None → line_with stated Variable ≡ None → (block : Block) × (stated ≡ Ok block)
faultless (Ok block) memory unknown bad variable = (block, refl)
faultless (Err faults.NoMemory) memory unknown bad variable = absurd (memory refl)
faultless (Err (faults.Line line Unknown)) memory unknown bad variable = cc
faultless (Err (faults.Line line BadBlock)) memory unknown bad variable = cc
faultless (Err (faults.Line line Variable)) memory unknown bad variable = cc

-- A handler of at most 64 lines that fails none of the rules on bodies states a block.
pub states_block : (d : Data) → nat_le (length (body_in d)) 64 ≡ true → fault_line Unknown d ≡ None → fault_line BadBlock d ≡ None → fault_line Variable d ≡ None
    → (block : Block) × (parsed (map text_of (body_in d)) ≡ Ok block)
states_block d few unknown bad variable =
    let read : Result Block LangFault = parsed (map text_of (body_in d)) in
    let tried : (code : LangCode) → fault_line code d ≡ line_with read code = λ code. ap (λ b. if b then line_with read code else None) few in
    faultless read (no_memory (map text_of (body_in d))) (sym (tried Unknown) ∙ unknown) (sym (tried BadBlock) ∙ bad) (sym (tried Variable) ∙ variable)

passes_test : (b : Bool) (found : Option ℕ) (place : ℕ) → cond (not b) (Some place) found ≡ None → (b ≡ true) × (found ≡ None)
passes_test true found place h = (refl, h)
passes_test false found place h = cc

line_good : (test : Line → Bool) (number place : ℕ) (line : Option Line) (rest : Result (List Line) ℕ) (found : Option ℕ) (lines : List Line)
    → ((later : List Line) → rest ≡ Ok later → found ≡ None → list_all test later ≡ true)
    → read_or number line rest ≡ Ok lines → cond (not (option_map_or test line true)) (Some place) found ≡ None → list_all test lines ≡ true
line_good test number place None rest found lines more read h = cc
line_good test number place (Some line) (Err at) found lines more read h = cc
line_good test number place (Some line) (Ok later) found [] more read h = cc
line_good test number place (Some line) (Ok later) found (first ∷ others) more read h =
    let same : line ≡ first = cc in let rest : later ≡ others = cc in
    let test_of = passes_test (test line) found place h in
    ap (λ b. b && list_all test others) (ap test (sym same) ∙ test_of.0) ∙ (ap (list_all test) (sym rest) ∙ more later refl test_of.1)

lines_good : (test : Line → Bool) (done at : ℕ) (ds : List Data) (lines : List Line) → lines_from done (map text_of ds) ≡ Ok lines
    → position_from (λ line. not (line_passes test line)) at ds ≡ None → list_all test lines ≡ true
lines_good test done at [] [] read h = refl
lines_good test done at [] (line ∷ lines) read h = cc
lines_good test done at (d ∷ ds) lines read h =
    line_good test (done + 1) at (read_line (words (text_of d))) (lines_from (done + 1) (map text_of ds)) (position_from (λ line. not (line_passes test line)) (at + 1) ds) lines
    (λ later rest none. lines_good test (done + 1) (at + 1) ds later rest none) read h

-- What no bad line says of the lines that are read.
pub lines_pass : (test : Line → Bool) (d : Data) (lines : List Line) → lines_from 0 (map text_of (body_in d)) ≡ Ok lines
    → bad_line (line_passes test) d ≡ None → list_all test lines ≡ true
lines_pass test d lines read none =
    lines_good test 0 0 (body_in d) lines read (unmapped next (position_from (λ line. not (line_passes test line)) 0 (body_in d)) none)
