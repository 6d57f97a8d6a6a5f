-- Where `stop` stands in a body: in no block, and with nothing or `root` behind it.
use Rattle.std.proofs.Common.{◌≡◌, ℕ, suc, ◌∙◌, ap, refl, List, [], ◌∷◌, ◌++◌, append_assoc, drop, length, arith}
use Rattle.std.specs.Prelude.{Bool, true, false, not, ◌&&◌, None}
use Rattle.std.proofs.lemmas.Bool.{and_from, lt-ltb, not-false, or_parts}
use Rattle.anti_lang.specs.Program as program
use Rattle.anti_lang.specs.Program.{Step, Block, End, Then}
use Rattle.anti_lang.specs.Lines.{Line, Does, OpenRepeat, OpenIf, Close}
use Rattle.anti_lang.specs.Blocks.{step_lines, lines_of}
use Rattle.anti_lang.specs.Faults.{blocks_below, in_block, has_wrong_block, begins_with_root, block_fault}
use Rattle.anti_lang.proofs.SpanLemmas.{Right, passes_line, passes_end}

-- no `stop` stands in a statement, and in a block
abbrev mutual
  pub is_plain : Step → Bool
  is_plain program.Stop = false
  is_plain (program.Repeat count block) = is_plain_block block
  is_plain (program.IfAbsent x block) = is_plain_block block
  is_plain statement = true

  pub is_plain_block : Block → Bool
  is_plain_block End = true
  is_plain_block (Then first rest) = is_plain first && is_plain_block rest

-- in a body only the end or `root` is behind one
abbrev pub stops_well : Block → Bool
stops_well End = true
stops_well (Then program.Stop End) = true
stops_well (Then program.Stop (Then program.Root rest)) = stops_well rest
stops_well (Then program.Stop (Then other rest)) = false
stops_well (Then first rest) = is_plain first && stops_well rest

-- the lines of a statement or a block were passed, and so it is of them
record Stood (rest : List Line) (deep : ℕ) (so : Bool) : Type 0 where
  blocks : List ℕ
  right : Right blocks rest deep
  is : so ≡ true

stood_line : (blocks : List ℕ) (rest : List Line) (statement : Step) (deep : ℕ) (so : Bool) → Right blocks (Does statement ∷ rest) deep
    → (has_wrong_block blocks (Does statement) rest ≡ false → so ≡ true) → Stood rest deep so
stood_line blocks rest statement deep so right is =
    let first = passes_line blocks (Does statement) rest deep deep right.round right in
    record { blocks = blocks; right = first.1; is = is first.0 }

-- a `stop` in a block is wrong
stop_inside : (blocks : List ℕ) (rest : List Line) (deep : ℕ) → length blocks ≡ suc deep
    → has_wrong_block blocks (Does program.Stop) rest ≡ false → ⊥
stop_inside blocks rest deep round right =
    let out : in_block blocks ≡ false = (or_parts (in_block blocks) (not (begins_with_root rest)) right).0 in
    let within : in_block blocks ≡ true = lt-ltb 0 (length blocks) (omega (arith, round)) in
    cc

-- a line that opens a block, with the block and its end
stood_open : (line : Line) (block : Block) (blocks : List ℕ) (rest : List Line) (deep : ℕ) (so : Bool)
    → length (blocks_below blocks line) ≡ suc (length blocks) → Right blocks (line ∷ ((lines_of block ++ Close ∷ []) ++ rest)) deep
    → ((inner : List ℕ) → Right inner (lines_of block ++ Close ∷ rest) (suc deep) → Stood (Close ∷ rest) (suc deep) so)
    → Stood rest deep so
stood_open line block blocks rest deep so opens right passes =
    let inside = (passes_line blocks line ((lines_of block ++ Close ∷ []) ++ rest) deep (suc deep) (opens ∙ ap suc right.round) right).1 in
    let passed = passes (blocks_below blocks line) (rw append_assoc at inside) in
    record { blocks = drop 1 passed.blocks; right = passes_end passed.blocks rest deep passed.right; is = passed.is }

stood_both : (first later rest : List Line) (deep : ℕ) (so also : Bool) → Stood (later ++ rest) deep so
    → ((blocks : List ℕ) → Right blocks (later ++ rest) deep → Stood rest deep also) → Stood rest deep (so && also)
stood_both first later rest deep so also one others =
    let all = others one.blocks one.right in
    record { blocks = all.blocks; right = all.right; is = and_from so also one.is all.is }

mutual
  stood_step : (statement : Step) (blocks : List ℕ) (rest : List Line) (deep : ℕ) → Right blocks (step_lines statement ++ rest) (suc deep)
      → Stood rest (suc deep) (is_plain statement)
  stood_step program.Stop blocks rest deep right =
      stood_line blocks rest program.Stop (suc deep) false right (λ fine. absurd (stop_inside blocks rest deep right.round fine))
  stood_step (program.Repeat count block) blocks rest deep right =
      stood_open (OpenRepeat count) block blocks rest (suc deep) (is_plain_block block) refl right
      (λ inner within. stood_block block inner (Close ∷ rest) (suc deep) within)
  stood_step (program.IfAbsent x block) blocks rest deep right =
      stood_open (OpenIf x) block blocks rest (suc deep) (is_plain_block block) refl right
      (λ inner within. stood_block block inner (Close ∷ rest) (suc deep) within)
  stood_step statement blocks rest deep right = stood_line blocks rest statement (suc deep) true right (λ fine. refl)

  stood_block : (block : Block) (blocks : List ℕ) (rest : List Line) (deep : ℕ) → Right blocks (lines_of block ++ rest) (suc deep)
      → Stood rest (suc deep) (is_plain_block block)
  stood_block End blocks rest deep right = record { blocks = blocks; right = right; is = refl }
  stood_block (Then first later) blocks rest deep right =
      stood_both (step_lines first) (lines_of later) rest (suc deep) (is_plain first) (is_plain_block later)
      (stood_step first blocks (lines_of later ++ rest) deep (rw append_assoc at right))
      (λ inner within. stood_block later inner rest deep within)

-- ---- a body

abbrev is_stop_line : Step → Bool
is_stop_line program.Stop = true
is_stop_line statement = false

-- a statement of it that is no `stop`
stood_outside : (statement : Step) (blocks : List ℕ) (rest : List Line) → is_stop_line statement ≡ false → Right blocks (step_lines statement ++ rest) 0
    → Stood rest 0 (is_plain statement)
stood_outside program.Stop blocks rest other right = absurd (cc)
stood_outside (program.Repeat count block) blocks rest other right =
    stood_open (OpenRepeat count) block blocks rest 0 (is_plain_block block) refl right
    (λ inner within. stood_block block inner (Close ∷ rest) 0 within)
stood_outside (program.IfAbsent x block) blocks rest other right =
    stood_open (OpenIf x) block blocks rest 0 (is_plain_block block) refl right
    (λ inner within. stood_block block inner (Close ∷ rest) 0 within)
stood_outside statement blocks rest other right = stood_line blocks rest statement 0 true right (λ fine. refl)

-- what stands behind a line that opens and closes no block
behind_line : (blocks : List ℕ) (statement : Step) (rest : List Line) → Right blocks (Does statement ∷ rest) 0 → Right blocks rest 0
behind_line blocks statement rest right = (passes_line blocks (Does statement) rest 0 0 right.round right).1

-- behind a `stop` that is right there is nothing, or `root`
root_behind : (blocks : List ℕ) (rest : List Line) → Right blocks (Does program.Stop ∷ rest) 0 → begins_with_root rest ≡ true
root_behind blocks rest right =
    not-false (begins_with_root rest)
    (or_parts (in_block blocks) (not (begins_with_root rest)) (passes_line blocks (Does program.Stop) rest 0 0 right.round right).0).1

stood_body : (body : Block) (blocks : List ℕ) → Right blocks (lines_of body) 0 → stops_well body ≡ true
stood_body End blocks right = refl
stood_body (Then program.Stop End) blocks right = refl
stood_body (Then program.Stop (Then program.Root rest)) blocks right =
    stood_body rest blocks
    (behind_line blocks program.Root (lines_of rest) (behind_line blocks program.Stop (Does program.Root ∷ lines_of rest) right))
stood_body (Then program.Stop (Then other rest)) blocks right = root_behind blocks (step_lines other ++ lines_of rest) right
stood_body (Then first rest) blocks right =
    let one : Stood (lines_of rest) 0 (is_plain first) = stood_outside first blocks (lines_of rest) refl right in
    and_from (is_plain first) (stops_well rest) one.is (stood_body rest one.blocks one.right)

-- In a body of whose lines no block is wrong, `stop` stands well.
pub stands : (body : Block) → block_fault (lines_of body) ≡ None → stops_well body ≡ true
unfolding block_fault
stands body right = stood_body body [] (record { round = refl; number = 1; none = right })
