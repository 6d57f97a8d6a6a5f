-- A word is spelled as what it is read as.
use Rattle.std.proofs.Common.{◌≡◌, ℕ, ◌≤◌, List, [], ◌∷◌, Bool, true, false, not, cond, Option, Some, None, option_map, nat_eq, nat_lt, length, drop, refl, sym, ap, ◌∙◌, arith}
use Rattle.std.specs.Prelude.{codes, decimal}
use Rattle.std.specs.Bool.{then_some}
use Rattle.std.specs.Char.{is_ascii_digit}
use Rattle.std.specs.List.{list_all}
use Rattle.std.specs.Option.{option_and_then}
use Rattle.std.specs.Str.{bytes_eq}
use Rattle.std.specs.Cmp.Lexicographic.{same_text}
use Rattle.std.proofs.lemmas.Bool.{and_parts, eqb-true, lt-ltb}
use Rattle.std.proofs.lemmas.Option.{none-some, same_Some}
use Rattle.anti_ids.specs.Names.{is_plain}
use Rattle.anti_ids.specs.Decimals.{decimal_in}
use Rattle.anti_ids.specs.declared.limits.TheConstants.{MOST_TURNS}
use Rattle.anti_ids.proofs.Decimals.{decimal_back, digits_of_decimal}
use Rattle.anti_lang.specs.Texts.{plain_name, is_variable, variable_of, is_literal, has_dollar}
use Rattle.anti_lang.specs.Printing.{key_text, value_text}
use Rattle.anti_lang.specs.Vocabulary.{key_of, value_of}
use Rattle.anti_lang.specs.declared.statement.KeyWord.{KeyWord}
use Rattle.anti_lang.specs.declared.statement.KeyWord.TheVariants as keys
use Rattle.anti_lang.specs.declared.statement.ValueWord.{ValueWord}
use Rattle.anti_lang.specs.declared.statement.ValueWord.TheVariants as values
use Rattle.anti_lang.proofs.SpacedLemmas.{is_word, word_by, plain_word, literal_word}

-- what is known where there is an answer
pub found : {X : Type 0} (b : Bool) (x y : X) → then_some b x ≡ Some y → (b ≡ true) × (x ≡ y)
found true x y h = (refl, same_Some x y h)
found false x y h = absurd (none-some y h)

pub found_if : {X : Type 0} (b : Bool) (o : Option X) (x : X) → cond b o None ≡ Some x → (b ≡ true) × (o ≡ Some x)
found_if true o x h = (refl, h)
found_if false o x h = absurd (none-some x h)

pub found_by : {X Y : Type 0} (f : X → Y) (o : Option X) (y : Y) → option_map f o ≡ Some y → (x : X) × (o ≡ Some x) × (f x ≡ y)
found_by f None y h = absurd (none-some y h)
found_by f (Some x) y h = (x, refl, same_Some (f x) y h)

pub found_then : {X Y : Type 0} (f : X → Option Y) (o : Option X) (y : Y) → option_and_then f o ≡ Some y → (x : X) × (o ≡ Some x) × (f x ≡ Some y)
found_then f None y h = absurd (none-some y h)
found_then f (Some x) y h = (x, refl, h)

pub same : (xs ys : List ℕ) → bytes_eq xs ys ≡ true → xs ≡ ys
same xs ys h = same_text xs ys (sym h)

-- a text is that of this word, which has a byte and no space
abbrev pub IsOf : List ℕ → List ℕ → Type 0
IsOf text word = (text ≡ word) × (is_word word ≡ true)

pub plain_read : (word name : List ℕ) → plain_name word ≡ Some name → IsOf name word
plain_read word name h = let here = found (is_plain word) word name h in (sym here.1, plain_word word here.0)

pub variable_word : (word : List ℕ) → is_variable word ≡ true → is_word word ≡ true
variable_word word h = plain_word word (and_parts (is_plain word) (not (bytes_eq word (codes "in"))) h).0

pub variable_read : (word variable : List ℕ) → variable_of word ≡ Some variable → IsOf variable word
variable_read word variable h = let here = found (is_variable word) word variable h in (sym here.1, variable_word word here.0)

-- a word behind `$`
dollar_first : (word : List ℕ) → has_dollar word ≡ true → 36 ∷ drop 1 word ≡ word
dollar_first [] h = absurd (cc)
dollar_first (first ∷ rest) h = ap (λ b. b ∷ rest) (sym (eqb-true first 36 h))

behind_dollar : (text : List ℕ) → is_word text ≡ true → is_word (36 ∷ text) ≡ true
behind_dollar text h = rw (lt-ltb 0 (length (36 ∷ text)) (omega arith)) (and_parts (nat_lt 0 (length text)) (list_all (λ b. not (nat_eq b 32)) text) h).1

-- a word that is `$in`, or `$` and a variable, or good itself
read_so : {W : Type 0} (text : W → List ℕ) (input : W) (variable itself : List ℕ → W) (good : List ℕ → Bool)
    → text input ≡ codes "$in" → ((x : List ℕ) → text (variable x) ≡ 36 ∷ x) → ((x : List ℕ) → text (itself x) ≡ x)
    → ((x : List ℕ) → good x ≡ true → is_word x ≡ true)
    → (is_in is_of : Bool) (word : List ℕ) (w : W) → (is_in ≡ true → word ≡ codes "$in") → (is_of ≡ true → 36 ∷ drop 1 word ≡ word)
    → cond is_in (Some input) (cond is_of (option_map variable (variable_of (drop 1 word))) (then_some (good word) (itself word))) ≡ Some w
    → IsOf (text w) word
read_so text input variable itself good in_text of_text text_itself fine true is_of word w in_word of_word h =
    let e : word ≡ codes "$in" = in_word refl in
    (ap text (sym (same_Some input w h)) ∙ in_text ∙ sym e, ap is_word e)
read_so text input variable itself good in_text of_text text_itself fine false true word w in_word of_word h =
    let here = found_by variable (variable_of (drop 1 word)) w h in
    let behind = variable_read (drop 1 word) here.0 here.1 in
    let e : 36 ∷ drop 1 word ≡ word = of_word refl in
    (ap text (sym here.2) ∙ of_text here.0 ∙ ap (λ x. 36 ∷ x) behind.0 ∙ e, ap is_word (sym e) ∙ behind_dollar (drop 1 word) behind.1)
read_so text input variable itself good in_text of_text text_itself fine false false word w in_word of_word h =
    let here = found (good word) (itself word) w h in
    (ap text (sym here.1) ∙ text_itself word, fine word here.0)

pub key_read : (good : List ℕ → Bool) → ((x : List ℕ) → good x ≡ true → is_word x ≡ true) → (word : List ℕ) (key : KeyWord)
    → key_of good word ≡ Some key → IsOf (key_text key) word
key_read good fine word key h =
    read_so key_text keys.Input keys.Of keys.Plain good refl (λ x. refl) (λ x. refl) fine (bytes_eq word (codes "$in")) (has_dollar word) word key
    (same word (codes "$in")) (dollar_first word) h

pub value_read : (word : List ℕ) (value : ValueWord) → value_of word ≡ Some value → IsOf (value_text value) word
value_read word value h =
    read_so value_text values.Input values.Of values.Literal is_literal refl (λ x. refl) (λ x. refl) literal_word (bytes_eq word (codes "$in")) (has_dollar word) word value
    (same word (codes "$in")) (dollar_first word) h

pub count_read : (word : List ℕ) (n : ℕ) → decimal_in 1 MOST_TURNS word ≡ Some n → IsOf (decimal n) word
count_read word n h =
    let back = decimal_back 1 MOST_TURNS word n h in
    let most : n ≤ MOST_TURNS = back.1 in
    let digits = digits_of_decimal n (omega arith) in
    (sym back.2, ap is_word back.2 ∙ word_by is_ascii_digit refl (decimal n) (lt-ltb 0 (length (decimal n)) digits.0) digits.1)
