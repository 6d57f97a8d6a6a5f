-- What a word stands for as a key, and as a value.
use Rattle.std.specs.Prelude.{codes, ℕ, List, Bool, Option, Some, drop, option_map, if◌then◌else◌}
use Rattle.std.specs.Bool.{then_some}
use Rattle.std.specs.Str.{bytes_eq}
use Rattle.anti_lang.specs.Texts.{variable_of, has_dollar, is_literal}
use Rattle.anti_lang.specs.declared.statement.KeyWord.{KeyWord}
use Rattle.anti_lang.specs.declared.statement.KeyWord.TheVariants as keys
use Rattle.anti_lang.specs.declared.statement.ValueWord.{ValueWord}
use Rattle.anti_lang.specs.declared.statement.ValueWord.TheVariants as values

-- What a word is as a key: `$in`, or `$` and a variable, or a name that is good.
abbrev pub key_of : (List ℕ → Bool) → List ℕ → Option KeyWord
key_of is_good word =
    if bytes_eq word (codes "$in") then Some keys.Input else
    if has_dollar word then option_map keys.Of (variable_of (drop 1 word)) else
    then_some (is_good word) (keys.Plain word)

-- What a word is as a value: `$in`, or `$` and a variable, or a literal.
abbrev pub value_of : List ℕ → Option ValueWord
value_of word =
    if bytes_eq word (codes "$in") then Some values.Input else
    if has_dollar word then option_map values.Of (variable_of (drop 1 word)) else
    then_some (is_literal word) (values.Literal word)
