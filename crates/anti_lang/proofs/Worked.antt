-- Small bodies and the first line at which their blocks or variables are wrong.
use Rattle.std.proofs.Common.{◌≡◌, ℕ, List, [], ◌∷◌, ◌++◌, refl}
use Rattle.std.specs.Prelude.{Some, None, replicate, false}
use Rattle.anti_lang.specs.declared.statement.KeyWord.TheVariants as key_words
use Rattle.anti_lang.specs.declared.statement.ValueWord.TheVariants as value_words
use Rattle.anti_lang.specs.Program.{Write, Append, Transfer, Barrier, Read, Call, Nack, Root, Stop}
use Rattle.anti_lang.specs.Lines.{Line, Does, OpenRepeat, OpenIf, Close}
use Rattle.anti_lang.specs.Faults.{block_fault, variable_fault}

-- names: a store, a key, and two variables
abbrev s : List ℕ
s = 115 ∷ []

abbrev k : List ℕ
k = 107 ∷ []

abbrev x : List ℕ
x = 120 ∷ []

abbrev y : List ℕ
y = 121 ∷ []

-- lines that set x, to rows, to a write and to a reply
abbrev read_x : Line
read_x = Does (Read s (key_words.Plain k) x)

abbrev write_x : Line
write_x = Does (Write s (key_words.Plain k) value_words.Input (Some x) false)

abbrev call_x : Line
call_x = Does (Call s k value_words.Input x)

-- a line that reads under the key that x stands for
abbrev read_at_x : Line
read_at_x = Does (Read s (key_words.Of x) y)

-- an `end` is missing: the outer of two blocks is wrong
no_end : block_fault (Does Barrier ∷ OpenRepeat 2 ∷ OpenIf x ∷ Close ∷ []) ≡ Some 2
unfolding block_fault
no_end = refl

-- an `end` without a block
no_block : block_fault (OpenRepeat 2 ∷ Close ∷ Close ∷ []) ≡ Some 3
unfolding block_fault
no_block = refl

-- four blocks may stand in one another, and no five
four_nested : block_fault (replicate 4 (OpenIf x) ++ replicate 4 Close) ≡ None
unfolding block_fault
four_nested = refl

five_nested : block_fault (replicate 5 (OpenIf x) ++ replicate 5 Close) ≡ Some 5
unfolding block_fault
five_nested = refl

-- 256 turns are the most, in an empty block too
turns : block_fault (OpenRepeat 16 ∷ OpenRepeat 16 ∷ Close ∷ OpenRepeat 16 ∷ OpenRepeat 1 ∷ Close ∷ Close ∷ Close ∷ []) ≡ None
unfolding block_fault
turns = refl

many_turns : block_fault (OpenRepeat 16 ∷ OpenIf x ∷ OpenRepeat 15 ∷ OpenRepeat 2 ∷ Close ∷ Close ∷ Close ∷ Close ∷ []) ≡ Some 4
unfolding block_fault
many_turns = refl

-- a span begins outside of blocks
root_in_block : block_fault (OpenRepeat 2 ∷ Close ∷ Does Root ∷ OpenRepeat 2 ∷ Does Root ∷ Close ∷ []) ≡ Some 5
unfolding block_fault
root_in_block = refl

-- behind `stop` stands `root` or nothing
stops : block_fault (Does Stop ∷ Does Root ∷ Does Stop ∷ []) ≡ None
unfolding block_fault
stops = refl

stop_in_front : block_fault (Does Barrier ∷ Does Stop ∷ Does Nack ∷ Does Root ∷ []) ≡ Some 2
unfolding block_fault
stop_in_front = refl

-- a variable is set once
set_twice : variable_fault (read_x ∷ Does Root ∷ write_x ∷ []) ≡ Some 3
unfolding variable_fault
set_twice = refl

-- each use has the kind of the variable, and any kind serves as a key
kinds : variable_fault (read_x ∷ Does (Transfer x) ∷ OpenIf x ∷ read_at_x ∷ Close ∷ Does (Append x) ∷ []) ≡ Some 6
unfolding variable_fault
kinds = refl

reply_as_key : variable_fault (call_x ∷ read_at_x ∷ Does (Transfer y) ∷ Does (Transfer x) ∷ []) ≡ Some 4
unfolding variable_fault
reply_as_key = refl

-- a variable holds in its block and in those in it
in_block : variable_fault (OpenRepeat 2 ∷ read_x ∷ OpenIf x ∷ Does (Transfer x) ∷ Close ∷ Close ∷ Does (Transfer x) ∷ []) ≡ Some 7
unfolding variable_fault
in_block = refl

-- a new span has no variables, and no line uses what it sets
new_span : variable_fault (write_x ∷ Does (Append x) ∷ Does Root ∷ Does (Append x) ∷ []) ≡ Some 4
unfolding variable_fault
new_span = refl

own_line : variable_fault (Does (Read s (key_words.Of x) x) ∷ []) ≡ Some 1
unfolding variable_fault
own_line = refl
