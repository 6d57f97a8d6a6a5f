-- No span begins in a block, so a body begins no more spans than it has lines.
use Rattle.std.proofs.Common.{◌≡◌, ◌∙◌, ap, refl, ℕ, suc, ◌+◌, ◌*◌, ◌-◌, ◌<◌, ◌≤◌, List, [], ◌∷◌, ◌++◌, append_assoc, drop, length, length-append, arith}
use Rattle.std.specs.Prelude.{Bool, true, false, ◌||◌, None}
use Rattle.std.proofs.lemmas.Bool.{ltb-false}
use Rattle.std.proofs.lemmas.List.{append-nil, length-drop}
use Rattle.std.proofs.Math.Nat.{mul-zero}
use Rattle.anti_lang.specs.Program.{Step, Block, Then, Root, Stop, Repeat, IfAbsent, End}
use Rattle.anti_lang.specs.Lines.{Line, Does, OpenRepeat, OpenIf, Close}
use Rattle.anti_lang.specs.Blocks.{step_lines, lines_of}
use Rattle.anti_lang.specs.Spans.{spans_in, spans_of}
use Rattle.anti_lang.specs.Faults.{first_wrong, blocks_below, in_block, has_wrong_block, block_fault}
use Rattle.anti_lang.proofs.BodyLemmas.{none_wrong, NoneWrong}

-- no block of these lines is wrong, where so many are open round them
pub record Right (blocks : List ℕ) (lines : List Line) (deep : ℕ) : Type 0 where
  pub round : length blocks ≡ deep
  pub number : ℕ
  pub none : NoneWrong blocks number lines

-- the lines of a statement or a block are passed, with so many spans among so many lines
pub record Passed (rest : List Line) (deep spans count : ℕ) : Type 0 where
  pub blocks : List ℕ
  pub right : Right blocks rest deep
  pub few : spans ≤ count
  pub outer : 0 < deep → spans ≡ 0

-- a line is not wrong, and what is known behind it
pub passes_line : (blocks : List ℕ) (line : Line) (rest : List Line) (deep more : ℕ) → length (blocks_below blocks line) ≡ more → Right blocks (line ∷ rest) deep
    → (has_wrong_block blocks line rest ≡ false) × Right (blocks_below blocks line) rest more
passes_line blocks line rest deep more round right =
    let first = none_wrong has_wrong_block blocks_below blocks right.number line rest right.none in
    (first.0, record { round = round; number = right.number + 1; none = first.1 })

-- a line that opens and closes no block
passed_line : (blocks : List ℕ) (rest : List Line) (statement : Step) (deep spans : ℕ) → Right blocks (Does statement ∷ rest) deep →
    spans ≤ 1 → (has_wrong_block blocks (Does statement) rest ≡ false → 0 < deep → spans ≡ 0) → Passed rest deep spans 1
passed_line blocks rest statement deep spans right few outer =
    let first = passes_line blocks (Does statement) rest deep deep right.round right in
    record { blocks = blocks; right = first.1; few = few; outer = outer first.0 }

outside_only : (blocks : List ℕ) (deep spans : ℕ) → length blocks ≡ deep → in_block blocks ≡ false → 0 < deep → spans ≡ 0
outside_only blocks deep spans same out within = let none : length blocks ≤ 0 = ltb-false 0 (length blocks) out in absurd (omega arith)

first_false : (a b : Bool) → (a || b) ≡ false → a ≡ false
first_false true b none = none
first_false false b none = refl

-- behind an `end`
pub passes_end : (blocks : List ℕ) (rest : List Line) (deep : ℕ) → Right blocks (Close ∷ rest) (suc deep) → Right (drop 1 blocks) rest deep
passes_end blocks rest deep right =
    (passes_line blocks Close rest (suc deep) deep (length-drop 1 blocks ∙ ap (λ n. n - 1) right.round ∙ omega arith) right).1

-- a line that opens a block, with the block and its end
passed_open : (line : Line) (block : Block) (blocks : List ℕ) (rest : List Line) (deep spans count : ℕ) →
    length (blocks_below blocks line) ≡ suc (length blocks) →
    Right blocks (line ∷ ((lines_of block ++ Close ∷ []) ++ rest)) deep →
    ((inner : List ℕ) → Right inner (lines_of block ++ Close ∷ rest) (suc deep) → Passed (Close ∷ rest) (suc deep) (spans_of block) (length (lines_of block))) →
    (spans_of block ≡ 0 → spans ≡ 0) → Passed rest deep spans count
passed_open line block blocks rest deep spans count opens right passes none =
    let inside = (passes_line blocks line ((lines_of block ++ Close ∷ []) ++ rest) deep (suc deep) (opens ∙ ap suc right.round) right).1 in
    let passed = passes (blocks_below blocks line) (rw append_assoc at inside) in
    let no_spans : spans ≡ 0 = none (passed.outer (omega arith)) in
    record {
      blocks = drop 1 passed.blocks;
      right = passes_end passed.blocks rest deep passed.right;
      few = omega arith;
      outer = λ within. no_spans;
    }

-- the lines of a statement, and then those of the statements behind it
passed_both : (first later : List Line) (rest : List Line) (deep spans more : ℕ) →
    Passed (later ++ rest) deep spans (length first) →
    ((blocks : List ℕ) → Right blocks (later ++ rest) deep → Passed rest deep more (length later)) → Passed rest deep (spans + more) (length (first ++ later))
passed_both first later rest deep spans more one others =
    let all = others one.blocks one.right in
    let few : spans ≤ length first = one.few in
    let fewer : more ≤ length later = all.few in
    record {
      blocks = all.blocks;
      right = all.right;
      few = rw length-append (omega arith);
      outer = λ within. let none = one.outer within in let nothing = all.outer within in omega arith;
    }

mutual
  passed_step : (statement : Step) (blocks : List ℕ) (rest : List Line) (deep : ℕ) → Right blocks (step_lines statement ++ rest) deep →
      Passed rest deep (spans_in statement) (length (step_lines statement))
  passed_step Root blocks rest deep right =
      passed_line blocks rest Root deep 1 right (omega arith) (λ out. outside_only blocks deep 1 right.round out)
  passed_step Stop blocks rest deep right =
      passed_line blocks rest Stop deep 1 right (omega arith) (λ out. outside_only blocks deep 1 right.round (first_false (in_block blocks) _ out))
  passed_step (Repeat count block) blocks rest deep right =
      passed_open (OpenRepeat count) block blocks rest deep (count * spans_of block) (length (step_lines (Repeat count block))) refl right
      (λ inner within. passed_block block inner (Close ∷ rest) (suc deep) within) (λ none. ap (λ n. count * n) none ∙ mul-zero count)
  passed_step (IfAbsent variable block) blocks rest deep right =
      passed_open (OpenIf variable) block blocks rest deep (spans_of block) (length (step_lines (IfAbsent variable block))) refl right
      (λ inner within. passed_block block inner (Close ∷ rest) (suc deep) within) (λ none. none)
  passed_step statement blocks rest deep right = passed_line blocks rest statement deep 0 right (omega arith) (λ out within. refl)

  passed_block : (block : Block) (blocks : List ℕ) (rest : List Line) (deep : ℕ) → Right blocks (lines_of block ++ rest) deep →
      Passed rest deep (spans_of block) (length (lines_of block))
  passed_block End blocks rest deep right = record { blocks = blocks; right = right; few = omega arith; outer = λ within. refl }
  passed_block (Then first later) blocks rest deep right =
      passed_both (step_lines first) (lines_of later) rest deep (spans_in first) (spans_of later)
      (passed_step first blocks (lines_of later ++ rest) deep (rw append_assoc at right))
      (λ inner within. passed_block later inner rest deep within)

-- A body of whose lines no block is wrong begins no more spans than it has lines.
pub few_lines : (block : Block) → block_fault (lines_of block) ≡ None → spans_of block ≤ length (lines_of block)
unfolding block_fault
few_lines block right =
    let none : NoneWrong [] 1 (lines_of block ++ []) = ap (first_wrong has_wrong_block blocks_below [] 1) (append-nil (lines_of block)) ∙ right in
    (passed_block block [] [] 0 (record { round = refl; number = 1; none = none })).few
