-- Sets of numbers, by the words that have a bit for each.
use Rattle.std.specs.Prelude.{ℕ, ◌≡◌, ◌+◌, ◌*◌, ◌/◌, ◌%◌, ◌<◌, ◌≤◌, ◌==◌, Bool, true, false, List, get_or, length}
use Rattle.std.specs.Int.{bit_at}
use Rattle.anti_order.specs.declared.number_set.NumberRun.{NumberRun}

-- whether a word has a bit
abbrev pub is_bit : ℕ → ℕ → Bool
is_bit word i = bit_at word i == 1

-- whether a number is in a set
abbrev pub has : List ℕ → ℕ → Bool
has words n = is_bit (get_or words (n / 64) 0) (n % 64)

-- for how many numbers a set has bits, and one of the numbers below a count
abbrev pub room : List ℕ → ℕ
room words = 64 * length words

abbrev pub room_for : ℕ → ℕ
room_for count = 64 * (count / 64 + 1)

-- the first run of the numbers of a set, from one on
pub record IsRunFrom (words : List ℕ) (from : ℕ) (run : NumberRun) : Type 0 where
  pub behind : from ≤ run.from
  pub some : run.from < run.to
  pub within : run.to ≤ room words
  pub before : (n : ℕ) → from ≤ n → n < run.from → has words n ≡ false
  pub inside : (n : ℕ) → run.from ≤ n → n < run.to → has words n ≡ true
