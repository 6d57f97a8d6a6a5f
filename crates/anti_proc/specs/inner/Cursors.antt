-- How far a process is in its body: the statements that are left.
use Rattle.std.specs.Prelude.{◌≡◌, ℕ, zero, suc, ◌+◌, ◌-◌, ◌*◌, ◌<◌, Bool, true, false, List, [], ◌∷◌, ◌++◌, Option, Some, None, drop, slice_get}
use Rattle.std.specs.Borrow.{Bor}
use Rattle.anti_lang.specs.Steps.{list_of}
use Rattle.anti_lang.specs.Bodies.{step_of}
use Rattle.anti_lang.specs.Program.{Step, Block, End, Then, Repeat, IfAbsent}
use Rattle.anti_lang.specs.declared.statement.Statement.{Statement}
use Rattle.anti_proc.specs.declared.cursor.Frame.{Frame}
use Rattle.anti_proc.specs.declared.cursor.Cursor.{Cursor}

-- the block that a statement opens, where it opens one
abbrev pub block_in : Step → Block
block_in (Repeat count block) = block
block_in (IfAbsent variable block) = block
block_in _ = End

abbrev pub inner_in : Option Step → List Step
inner_in None = []
inner_in (Some statement) = list_of (block_in statement)

-- the block that the last of so many statements opens
abbrev pub opened : List Step → ℕ → List Step
opened block passed = inner_in (slice_get block (passed - 1))

-- the innermost block: in each block that is entered, the last statement that was passed opens the next
abbrev pub innermost : List Step → List Frame → List Step
innermost block [] = block
innermost block (frame ∷ frames) = innermost (opened block frame.passed) frames

-- these statements, so many times
abbrev pub again : ℕ → List Step → List Step
again zero block = []
again (suc n) block = block ++ again n block

-- what is left of a block
abbrev pub left_in : List Step → Frame → List Step
left_in block frame = drop frame.passed block ++ again frame.turns block

-- what is left round the innermost block
abbrev pub left_round : List Step → List Frame → List Step
left_round block [] = []
left_round block (frame ∷ frames) = left_round (opened block frame.passed) frames ++ left_in block frame

-- what is left of a body
abbrev pub left_at : List Step → Cursor → List Step
left_at body cursor = left_in (innermost body cursor.outer.items) cursor.here ++ left_round body cursor.outer.items

-- the block that the statement opens that was passed last
abbrev pub last_opened : List Step → Cursor → List Step
last_opened body cursor = opened (innermost body cursor.outer.items) cursor.here.passed

-- how many statements are run at most, and how many blocks are entered: each turn of a block counts
abbrev mutual
  pub step_weight : Step → ℕ
  step_weight (Repeat count block) = 1 + count * block_weight block
  step_weight (IfAbsent variable block) = 1 + block_weight block
  step_weight statement = 1

  pub block_weight : Block → ℕ
  block_weight End = 0
  block_weight (Then first rest) = step_weight first + block_weight rest

abbrev pub weight : List Step → ℕ
weight [] = 0
weight (first ∷ rest) = step_weight first + weight rest

-- how many more turns there are, where each block counts as one
abbrev pub turns_round : List Frame → ℕ
turns_round [] = 0
turns_round (frame ∷ frames) = 1 + frame.turns + turns_round frames

abbrev pub turns_left : Cursor → ℕ
turns_left cursor = cursor.here.turns + turns_round cursor.outer.items

-- All of a body is left.
abbrev pub IsStart : Cursor → Type 0
IsStart cursor = (body : List Step) → left_at body cursor ≡ body

-- A cursor behind the last statement of its block went on: the same is left, and fewer turns; or nothing was left.
abbrev pub Turns : Cursor → Cursor → Bool → Type 0
Turns old new true =
    ((body : List Step) → drop old.here.passed (innermost body old.outer.items) ≡ [] → left_at body new ≡ left_at body old)
    × (turns_left new < turns_left old)
Turns old new false = ((body : List Step) → drop old.here.passed (innermost body old.outer.items) ≡ [] → left_at body old ≡ []) × (new ≡ old)

-- The next statement of a body, behind which the cursor is then; or that nothing is left.
abbrev pub IsLine : List Step → Cursor → Cursor → Option (Bor Statement) → Type 0
IsLine body old new (Some statement) =
    (left_at body old ≡ step_of statement.now ∷ left_at body new) × (last_opened body new ≡ list_of (block_in (step_of statement.now)))
IsLine body old new None = (left_at body old ≡ []) × (left_at body new ≡ [])

-- The block that the last statement opens is left too, so many times.
abbrev pub Enters : ℕ → Cursor → Cursor → Type 0
Enters turns old new = (body : List Step) → left_at body new ≡ again turns (last_opened body old) ++ left_at body old
