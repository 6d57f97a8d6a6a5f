-- What a document without a breach says of the bodies of its handlers.
use Rattle.std.proofs.Common.{◌≡◌, ℕ, suc, ◌+◌, ◌≤◌, List, [], ◌∷◌, Bool, true, nat_le, length, map, Option, None, Some, is_none, Result, Ok, Err, if◌then◌else◌, refl, sym, ap, ◌∙◌, arith}
use Rattle.std.specs.List.{list_all}
use Rattle.std.specs.Result.{result_unwrap_or}
use Rattle.std.proofs.lemmas.Bool.{and_from, leb-true, le-leb}
use Rattle.anti_ids.specs.declared.limits.TheConstants.{MOST_LINES}
use Rattle.anti_ids.specs.List.{empty}
use Rattle.anti_lang.specs.Words.{words}
use Rattle.anti_lang.specs.Program.{Block, End, Write, Read, Scan, Poll}
use Rattle.anti_lang.specs.Bodies.{block_of, body_of}
use Rattle.anti_lang.specs.Lines.{Line, Does, read_line}
use Rattle.anti_lang.specs.Blocks.{lines_of}
use Rattle.anti_lang.specs.Spans.{spans_of}
use Rattle.anti_lang.specs.Faults.{block_fault, variable_fault}
use Rattle.anti_lang.specs.Parsing.{parsed, parsed_or, body_or, lines_from, read_or}
use Rattle.anti_lang.specs.declared.fault.LangFault.{LangFault}
use Rattle.anti_lang.proofs.BodyLaws.{lines_stated as lines_read, few_spans}
use Rattle.anti_lang.proofs.PlainLemmas.{block_again}
use Rattle.toml.specs.Data.{Data, Members}
use Rattle.anti_rules.specs.Trees.{text_of}
use Rattle.anti_rules.specs.Statements.{body_in as lines_stated, store_fits, handler_exists}
use Rattle.anti_rules.specs.Order.{first_breach}
use Rattle.anti_rules.specs.declared.rule.Rule.TheVariants.{Statements, Blocks, Variables, StatementStores, StatementHandlers}
use Rattle.anti_rules.specs.declared.place.Part.TheVariants.{Handler}
use Rattle.anti_rules.proofs.AllParse.{few_lines}
use Rattle.anti_rules.proofs.Holds.{states_block, lines_pass}
use Rattle.anti_app.specs.Parts.{regions_of, stores_of, services_of, body_in}
use Rattle.anti_app.specs.Places.{region_place}
use Rattle.anti_app.specs.Sound.{fits_stores, fits_services, is_sound_body}
use Rattle.anti_app.proofs.Kept.{FailsNone, length_made, each_passes}
use Rattle.anti_app.proofs.SoundStores.{stored_is, read_near}
use Rattle.anti_app.proofs.Served.{line_served}

-- ---- lines
-- as many lines are read as there are texts
lines_length : (before : ℕ) (texts : List (List ℕ)) (lines : List Line) → lines_from before texts ≡ Ok lines → length lines ≡ length texts
lines_length before [] lines h = let none : [] ≡ lines = cc in ap length (sym none)
lines_length before (text ∷ texts) lines h =
    length_or (before + 1) (read_line (words text)) (lines_from (before + 1) texts) lines (length texts) (λ others rest. lines_length (before + 1) texts others rest) h
  where
    length_or : (number : ℕ) (line : Option Line) (rest : Result (List Line) ℕ) (lines : List Line) (count : ℕ) → ((others : List Line) → rest ≡ Ok others → length others ≡ count)
        → read_or number line rest ≡ Ok lines → length lines ≡ suc count
    length_or number None rest lines count more h = cc
    length_or number (Some line) (Err at) lines count more h = cc
    length_or number (Some line) (Ok others) lines count more h =
        let same : line ∷ others ≡ lines = cc in ap length (sym same) ∙ ap suc (more others refl)

-- lines that state a body have no fault
faults_none : (lines : List Line) (blocks variables : Option ℕ) (block : Block) → body_or lines blocks variables ≡ Ok block → (is_none blocks ≡ true) × (is_none variables ≡ true)
faults_none lines (Some number) variables block h = cc
faults_none lines None (Some number) block h = cc
faults_none lines None None block h = (refl, refl)

-- the body that is read of lines that state one
pub body_is : (texts : List (List ℕ)) (block : Block) → nat_le (length texts) MOST_LINES ≡ true → parsed texts ≡ Ok block → block_of (body_in texts) ≡ block
body_is texts block few stated =
    ap block_of (ap (λ (b : Bool). if b then body_of (result_unwrap_or (parsed texts) End) else empty) few
    ∙ ap (λ (read : Result Block LangFault). body_of (result_unwrap_or read End)) stated) ∙ block_again block

module _ (doc : Members) (fine : first_breach doc ≡ None) (home : List ℕ) where
  abbrev region : ℕ
  region = region_place (regions_of doc) home

  -- a line that the rules pass finds its store
  line_fits : (line : Line) → store_fits doc home line ≡ true → fits_stores (stores_of doc) region line ≡ true
  unfolding fits_stores
  line_fits (Does (Write store key value variable untracked)) fits = stored_is doc fine store ∙ fits
  line_fits (Does (Read store key variable)) fits = read_near doc fine home store (λ facts. facts.keyed) fits
  line_fits (Does (Scan store prefix variable)) fits = read_near doc fine home store (λ facts. facts.scanned) fits
  line_fits (Does (Poll store key variable)) fits = read_near doc fine home store (λ facts. facts.polled) fits
  line_fits line fits = refl

  -- the body of a handler is sound
  pub body_sound : (earlier : List Data) (d : Data) → FailsNone doc home Handler earlier d → is_sound_body (stores_of doc) (services_of doc) region (block_of (body_in (map text_of (lines_stated d)))) ≡ true
  unfolding is_sound_body
  body_sound earlier d none =
      let few = few_lines doc home earlier d none in
      let stated = states_block d few (none Statements) (none Blocks) (none Variables) in
      let block : Block = stated.0 in
      let texts : List (List ℕ) = map text_of (lines_stated d) in
      let short : nat_le (length texts) MOST_LINES ≡ true = length_made text_of (λ n. nat_le n MOST_LINES) (lines_stated d) few in
      let most : length texts ≤ MOST_LINES = leb-true _ _ short in
      let read : lines_from 0 texts ≡ Ok (lines_of block) = lines_read texts block stated.1 in
      let count : length (lines_of block) ≡ length texts = lines_length 0 texts (lines_of block) read in
      let spans : spans_of block ≤ length texts = few_spans texts block stated.1 in
      let faults = faults_none (lines_of block) (block_fault (lines_of block)) (variable_fault (lines_of block)) block (ap parsed_or (sym read) ∙ stated.1) in
      let stores : list_all (store_fits doc home) (lines_of block) ≡ true = lines_pass (store_fits doc home) d (lines_of block) read (none StatementStores) in
      let handlers : list_all (handler_exists doc) (lines_of block) ≡ true = lines_pass (handler_exists doc) d (lines_of block) read (none StatementHandlers) in
      let whole : length (lines_of block) ≤ MOST_LINES = omega arith in
      let begun : spans_of block ≤ MOST_LINES = omega arith in
      ap (λ (b : Block). is_sound_body (stores_of doc) (services_of doc) region b) (body_is texts block short stated.1)
      ∙ and_from _ _ (le-leb _ _ whole)
      (and_from _ _ (le-leb _ _ begun)
      (and_from _ _ faults.0
      (and_from _ _ faults.1
      (and_from _ _ (each_passes (store_fits doc home) (fits_stores (stores_of doc) region) line_fits (lines_of block) stores)
      (each_passes (handler_exists doc) (fits_services (services_of doc)) (line_served doc fine) (lines_of block) handlers)))))
