-- The statements of a handler as plain data: names and values stand as their bytes.
use Rattle.std.specs.Prelude.{ℕ, List, Bool, Option}
use Rattle.anti_lang.specs.declared.statement.KeyWord.{KeyWord}
use Rattle.anti_lang.specs.declared.statement.ValueWord.{ValueWord}

mutual
  -- a statement, with the block that it opens where it opens one
  pub data Step : Type 0 where
    Write : (store : List ℕ) (key : KeyWord) (value : ValueWord) (variable : Option (List ℕ)) (untracked : Bool) → Step
    Append Remove Transfer : (variable : List ℕ) → Step
    Barrier DryRun : Step
    Read : (store : List ℕ) (key : KeyWord) (variable : List ℕ) → Step
    Scan : (store prefix variable : List ℕ) → Step
    Poll : (store : List ℕ) (key : KeyWord) (variable : List ℕ) → Step
    Call : (service handler : List ℕ) (value : ValueWord) (variable : List ℕ) → Step
    Send : (service handler : List ℕ) (value : ValueWord) → Step
    Reply : (value : ValueWord) → Step
    Nack Root Stop : Step
    Repeat : (count : ℕ) (block : Block) → Step
    IfAbsent : (variable : List ℕ) (block : Block) → Step

  -- the statements of a body or of a block, in their order
  pub data Block : Type 0 where
    End : Block
    Then : (first : Step) (rest : Block) → Block
