-- The words of the program: its arguments as values.
use Rattle.std.specs.Prelude.{ℕ, List, [], Result, Ok, Err}
use Rattle.anti_ids.specs.Values.{value_of}
use Rattle.anti_ids.specs.declared.value.ValueFault.{ValueFault}

abbrev pub or_empty : Result (List ℕ) ValueFault → List ℕ
or_empty (Ok bytes) = bytes
or_empty (Err _) = []

-- the word for an argument: its bytes where they are a value, else none
abbrev pub word_of : List ℕ → List ℕ
word_of argument = or_empty (value_of argument)
