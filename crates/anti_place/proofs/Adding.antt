-- Remarks that are added one after another, or some and then others, are those that are told of all.
use Rattle.std.proofs.Common.{◌≡◌, ℕ, suc, ◌+◌, ◌<◌, Bool, List, [], ◌∷◌, ◌++◌, cond, map, filter, get_or, length, append_assoc, append-nil, sym, ap, ◌∙◌, arith}
use Rattle.std.proofs.lemmas.List.{map-append}
use Rattle.std.proofs.lemmas.List.Elements.{filter-append}
use Rattle.anti_ids.specs.List.{Listed}
use Rattle.anti_lang.specs.Bodies.{block_from, block_of, step_of}
use Rattle.anti_lang.specs.Blocks.{step_lines, lines_of}
use Rattle.anti_lang.specs.Lines.{Line, Close}
use Rattle.anti_lang.specs.Program.{Step, Block}
use Rattle.anti_lang.specs.Steps.{steps_of}
use Rattle.anti_lang.specs.declared.statement.Statement.{Statement}
use Rattle.anti_lang.specs.declared.statement.Statement.TheVariants as statements
use Rattle.anti_lang.proofs.PlainLemmas.{step_repeat, step_if}
use Rattle.anti_place.specs.declared.remark.Remark.{Remark}
use Rattle.anti_place.specs.Paths.{height}
use Rattle.anti_place.specs.Reviews.{superfluous_there, is_barrier_line, never_waits, barriers_from}
use Rattle.anti_place.specs.inner.Said.{told_lines}
use Rattle.anti_place.proofs.Stepping.{from, one_more}

-- one more of those that are left
pub told_more : {A B : Type 0} (f : A → B) (before whole : List B) (left rest : List A) (next : A) (one : B) (after : List B)
    → one ≡ f next → after ≡ before ++ one ∷ [] → left ≡ next ∷ rest → before ++ map f left ≡ whole → after ++ map f rest ≡ whole
told_more {A} {B} f before whole left rest next one after is added taken known =
    ap (λ (those : List B). those ++ map f rest) (added ∙ ap (λ (b : B). before ++ b ∷ []) is)
    ∙ append_assoc before (f next ∷ []) (map f rest)
    ∙ sym (ap (λ (those : List A). before ++ map f those) taken)
    ∙ known

-- some and then others
told_both : (before one after further left whole : List Remark) → after ≡ before ++ one → left ≡ one ++ further → before ++ left ≡ whole
    → after ++ further ≡ whole
told_both before one after further left whole added parts known =
    ap (λ (those : List Remark). those ++ further) added ∙ append_assoc before one further
    ∙ sym (ap (λ (those : List Remark). before ++ those) parts) ∙ known

-- ---- the lines of a body

barriers_append : (n : ℕ) (xs ys : List Line) → barriers_from n (xs ++ ys) ≡ barriers_from n xs ++ barriers_from (n + length xs) ys
barriers_append n [] ys = ap (λ (m : ℕ). barriers_from m ys) (omega arith)
barriers_append n (x ∷ xs) ys =
    let here : List ℕ = cond (is_barrier_line x) (n ∷ []) [] in
    let later : n + 1 + length xs ≡ n + suc (length xs) = omega arith in
    ap (λ (those : List ℕ). here ++ those) (barriers_append (n + 1) xs ys)
    ∙ sym (append_assoc here (barriers_from (n + 1) xs) (barriers_from (n + 1 + length xs) ys))
    ∙ ap (λ (m : ℕ). (here ++ barriers_from (n + 1) xs) ++ barriers_from m ys) later

module _ (service handler : ℕ) (named : Bool) (body : Block) where
  abbrev told : ℕ → List Line → List Remark
  told line lines = told_lines service handler named body line lines

  told_append : (n : ℕ) (xs ys : List Line) → told n (xs ++ ys) ≡ told n xs ++ told (n + length xs) ys
  told_append n xs ys =
      ap (λ (those : List ℕ). map (superfluous_there service handler) (filter (never_waits named body) those)) (barriers_append n xs ys)
      ∙ ap (map (superfluous_there service handler)) (filter-append (never_waits named body) (barriers_from n xs) (barriers_from (n + length xs) ys))
      ∙ map-append (superfluous_there service handler) (filter (never_waits named body) (barriers_from n xs)) (filter (never_waits named body) (barriers_from (n + length xs) ys))

  -- the end of a block is no barrier
  told_closed : (n : ℕ) (xs : List Line) → told n (xs ++ Close ∷ []) ≡ told n xs
  told_closed n xs = told_append n xs (Close ∷ []) ∙ append-nil (told n xs)

  -- a statement with a block has no others
  pub repeat_told : (line : ℕ) (statement : Statement) (count : ℕ) (block : Listed Statement) (slice : List Statement) → statement ≡ statements.Repeat count block
      → slice ≡ block.items → told line (step_lines (step_of statement)) ≡ told (line + 1) (lines_of (block_from (steps_of slice)))
  repeat_told line statement count block slice is items =
      ap (λ (one : Statement). told line (step_lines (step_of one))) is ∙ ap (λ (one : Step). told line (step_lines one)) (step_repeat count block)
      ∙ told_closed (line + 1) (lines_of (block_of block)) ∙ sym (ap (λ (those : List Statement). told (line + 1) (lines_of (block_from (steps_of those)))) items)

  pub if_told : (line : ℕ) (statement : Statement) (variable : List ℕ) (block : Listed Statement) (slice : List Statement) → statement ≡ statements.IfAbsent variable block
      → slice ≡ block.items → told line (step_lines (step_of statement)) ≡ told (line + 1) (lines_of (block_from (steps_of slice)))
  if_told line statement variable block slice is items =
      ap (λ (one : Statement). told line (step_lines (step_of one))) is ∙ ap (λ (one : Step). told line (step_lines one)) (step_if variable block)
      ∙ told_closed (line + 1) (lines_of (block_of block)) ∙ sym (ap (λ (those : List Statement). told (line + 1) (lines_of (block_from (steps_of those)))) items)

  pub barriers_more : (all : List Statement) (i : ℕ) (statement : Statement) → i < length all → statement ≡ get_or all i statement
      → (here lines : ℕ) (before after whole : List Remark) → lines ≡ height (step_of statement) → after ≡ before ++ told here (step_lines (step_of statement))
      → before ++ told here (lines_of (from all i)) ≡ whole → after ++ told (here + lines) (lines_of (from all (i + 1))) ≡ whole
  barriers_more all i statement within is here lines before after whole counted added known =
      let rest : List Line = lines_of (from all (i + 1)) in
      ap (λ (n : ℕ). after ++ told (here + n) rest) counted
      ∙ told_both before (told here (step_lines (step_of statement))) after (told (here + height (step_of statement)) rest) (told here (lines_of (from all i))) whole added
      (ap (λ (block : Block). told here (lines_of block)) (one_more all i statement within is) ∙ told_append here (step_lines (step_of statement)) rest)
      known
