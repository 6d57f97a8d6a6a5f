-- What is known of lines that state a body.
use Rattle.std.proofs.Common.{◌≡◌, ◌∙◌, sym, ap, refl, ℕ, suc, ◌+◌, ◌≤◌, List, [], ◌∷◌, length, get_or, arith}
use Rattle.std.specs.Prelude.{Option, Some, None, Result, Ok, Err}
use Rattle.anti_lang.specs.Words.{words}
use Rattle.anti_lang.specs.Program.{Block, End}
use Rattle.anti_lang.specs.Lines.{Line, read_line}
use Rattle.anti_lang.specs.Blocks.{lines_of, up}
use Rattle.anti_lang.specs.Faults.{block_fault, variable_fault}
use Rattle.anti_lang.specs.Parsing.{read_or, lines_from, body_or, parsed_or, parsed}
use Rattle.anti_lang.specs.Printing.{spelling, all_spelled, printed}
use Rattle.anti_lang.proofs.LineLemmas.{read_stated}
use Rattle.anti_lang.proofs.SpacedLemmas.{cut_again}
use Rattle.anti_lang.specs.Spans.{spans_of}
use Rattle.anti_lang.proofs.SpanLemmas.{few_lines}
use Rattle.anti_lang.proofs.BodyLemmas.{AreLeaves, body_found, body_stated}

-- lines that are read as they are spelled
abbrev pub AllSaid : List Line → Type 0
AllSaid [] = Unit {0}
AllSaid (line ∷ lines) = (read_line (spelling line) ≡ Some line) × AllSaid lines

leaves_said : (lines : List Line) → AllSaid lines → AreLeaves lines
leaves_said [] said = tt
leaves_said (line ∷ lines) said = ((read_stated (spelling line) line said.0).leaf, leaves_said lines said.1)

-- what a first line and the others are read as, where all are read
read_both : (number : ℕ) (first : Option Line) (rest : Result (List Line) ℕ) (lines : List Line) → read_or number first rest ≡ Ok lines →
    (line : Line) × (later : List Line) × (first ≡ Some line) × (rest ≡ Ok later) × (lines ≡ line ∷ later)
read_both number None rest lines read = cc
read_both number (Some line) (Err failed) lines read = cc
read_both number (Some line) (Ok later) lines read = (line, later, refl, refl, cc)

-- lines that are read are read as they are spelled, and there are as many as texts
read_said : (before : ℕ) (texts : List (List ℕ)) (lines : List Line) → lines_from before texts ≡ Ok lines → AllSaid lines × (length lines ≡ length texts)
read_said before [] [] read = (tt, refl)
read_said before [] (line ∷ lines) read = cc
read_said before (text ∷ texts) lines read =
    let both = read_both (before + 1) (read_line (words text)) (lines_from (before + 1) texts) lines read in
    let later = read_said (before + 1) texts both.1 both.3 in
    let said : read_line (spelling both.0) ≡ Some both.0 = ap read_line (sym (read_stated (words text) both.0 both.2).spelled) ∙ both.2 in
    rw both.4 ((said, later.0), ap (λ n. suc n) later.1)

-- such lines are read of their printed texts
said_again : (before : ℕ) (lines : List Line) → AllSaid lines → lines_from before (all_spelled lines) ≡ Ok lines
said_again before [] said = refl
said_again before (line ∷ lines) said =
    ap (λ texts. read_or (before + 1) (read_line texts) (lines_from (before + 1) (all_spelled lines)))
    (cut_again (spelling line) (read_stated (spelling line) line said.0).are_words)
    ∙ ap (λ found. read_or (before + 1) found (lines_from (before + 1) (all_spelled lines))) said.0
    ∙ ap (λ rest. read_or (before + 1) (Some line) rest) (said_again (before + 1) lines said.1)

-- what is known where there is a body
body_or_ok : (lines : List Line) (wrong_block wrong_variable : Option ℕ) (block : Block) → body_or lines wrong_block wrong_variable ≡ Ok block →
    (wrong_block ≡ None) × (get_or (up lines) 0 End ≡ block)
body_or_ok lines (Some number) wrong_variable block parses = cc
body_or_ok lines None (Some number) block parses = cc
body_or_ok lines None None block parses = (refl, cc)

lines_said : (read : Result (List Line) ℕ) (block : Block) → parsed_or read ≡ Ok block →
    (lines : List Line) × (read ≡ Ok lines) × (block_fault lines ≡ None) × (get_or (up lines) 0 End ≡ block)
lines_said (Err number) block parses = cc
lines_said (Ok lines) block parses =
    let known = body_or_ok lines (block_fault lines) (variable_fault lines) block parses in
    (lines, refl, known.0, known.1)

-- The lines that state a body are those of the body.
pub lines_stated : (texts : List (List ℕ)) (block : Block) → parsed texts ≡ Ok block → lines_from 0 texts ≡ Ok (lines_of block)
lines_stated texts block parses =
    let said = lines_said (lines_from 0 texts) block parses in
    let spelled = read_said 0 texts said.0 said.1 in
    let up_is : up said.0 ≡ block ∷ [] = body_stated said.0 said.2 ∙ ap (λ b. b ∷ []) said.3 in
    said.1 ∙ ap Ok (sym (body_found said.0 block (leaves_said said.0 spelled.0) up_is))

-- The printed lines of a body that lines state do so too.
pub parsed_again : (texts : List (List ℕ)) (block : Block) → parsed texts ≡ Ok block → parsed (printed block) ≡ Ok block
parsed_again texts block parses =
    let read = lines_stated texts block parses in
    let spelled = read_said 0 texts (lines_of block) read in
    ap parsed_or (said_again 0 (lines_of block) spelled.0) ∙ ap parsed_or (sym read) ∙ parses

-- A body that lines state begins no more spans than there are lines.
pub few_spans : (texts : List (List ℕ)) (block : Block) → parsed texts ≡ Ok block → spans_of block ≤ length texts
few_spans texts block parses =
    let said = lines_said (lines_from 0 texts) block parses in
    let read = lines_stated texts block parses in
    let same : said.0 ≡ lines_of block = let both : Ok said.0 ≡ Ok (lines_of block) = sym said.1 ∙ read in cc in
    let count : length (lines_of block) ≡ length texts = (read_said 0 texts (lines_of block) read).1 in
    let few : spans_of block ≤ length (lines_of block) = few_lines block (rw same at said.2) in
    omega arith
