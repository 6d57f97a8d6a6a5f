-- The lines of the language: the form of each, by the words that it has.
use Rattle.std.specs.Prelude.{ℕ, codes, List, [], ◌∷◌, Bool, true, false, ◌&&◌, Option, Some, None, option_map, if◌then◌else◌}
use Rattle.std.specs.Bool.{then_some}
use Rattle.std.specs.Map.{lookup}
use Rattle.std.specs.Option.{option_and_then}
use Rattle.std.specs.Str.{bytes_eq}
use Rattle.anti_ids.specs.Decimals.{decimal_in}
use Rattle.anti_ids.specs.Names.{is_name, is_plain}
use Rattle.anti_ids.specs.declared.limits.TheConstants.{MOST_TURNS}
use Rattle.anti_lang.specs.Texts.{plain_name, is_variable, variable_of}
use Rattle.anti_lang.specs.Vocabulary.{key_of, value_of}
use Rattle.anti_lang.specs.Program.{Step, Write, Append, Remove, Transfer, Barrier, DryRun, Read, Scan, Poll, Call, Send, Reply, Nack, Root, Stop}

-- A line: a statement that opens no block, the opening of a block, or an `end`.
pub data Line : Type 0 where
  Does : (statement : Step) → Line
  OpenRepeat : (count : ℕ) → Line
  OpenIf : (variable : List ℕ) → Line
  Close : Line

-- whether two words are `as` and a variable
abbrev pub are_as : List ℕ → List ℕ → Bool
are_as joint variable = bytes_eq joint (codes "as") && is_variable variable

-- the write of these words, with its variable, and whether it is untracked
abbrev pub written : List ℕ → List ℕ → List ℕ → Option (List ℕ) → Bool → Option Line
written store key value variable untracked =
    if is_plain store then option_and_then (λ k. option_map (λ v. Does (Write store k v variable untracked)) (value_of value)) (key_of is_plain key)
    else None

-- `STORE KEY VALUE`, `STORE KEY VALUE as VARIABLE`, `STORE KEY VALUE as VARIABLE untracked`
abbrev pub write_form : List (List ℕ) → Option Line
write_form (store ∷ key ∷ value ∷ []) = written store key value None false
write_form (store ∷ key ∷ value ∷ joint ∷ variable ∷ []) =
    if are_as joint variable then written store key value (Some variable) false else None
write_form (store ∷ key ∷ value ∷ joint ∷ variable ∷ last ∷ []) =
    if are_as joint variable && bytes_eq last (codes "untracked") then written store key value (Some variable) true else None
write_form _ = None

-- `STORE KEY as VARIABLE`: the statement that asks a store for rows, where the second argument reads the key
abbrev pub rows_form : {K : Type 0} → (List ℕ → K → List ℕ → Step) → (List ℕ → Option K) → List (List ℕ) → Option Line
rows_form ask key_in (store ∷ key ∷ joint ∷ variable ∷ []) =
    if is_plain store && are_as joint variable then option_map (λ k. Does (ask store k variable)) (key_in key) else None
rows_form ask key_in _ = None

-- `SERVICE HANDLER VALUE as VARIABLE`
abbrev pub call_form : List (List ℕ) → Option Line
call_form (service ∷ handler ∷ value ∷ joint ∷ variable ∷ []) =
    if is_plain service && (is_plain handler && are_as joint variable) then option_map (λ v. Does (Call service handler v variable)) (value_of value)
    else None
call_form _ = None

-- `SERVICE HANDLER VALUE`
abbrev pub send_form : List (List ℕ) → Option Line
send_form (service ∷ handler ∷ value ∷ []) =
    if is_plain service && is_plain handler then option_map (λ v. Does (Send service handler v)) (value_of value) else None
send_form _ = None

-- `VARIABLE absent`
abbrev pub if_form : List (List ℕ) → Option Line
if_form (variable ∷ last ∷ []) = then_some (is_variable variable && bytes_eq last (codes "absent")) (OpenIf variable)
if_form _ = None

-- one word, which the second argument reads
abbrev pub one_word : {A : Type 0} → (A → Line) → (List ℕ → Option A) → List (List ℕ) → Option Line
one_word make read (word ∷ []) = option_map make (read word)
one_word make read _ = None

-- the first words of lines, each with the form of the words behind it
abbrev pub forms : List (List ℕ × (List (List ℕ) → Option Line))
forms =
    (codes "write", write_form)
    ∷ (codes "append", one_word (λ x. Does (Append x)) variable_of)
    ∷ (codes "remove", one_word (λ x. Does (Remove x)) variable_of)
    ∷ (codes "transfer", one_word (λ x. Does (Transfer x)) variable_of)
    ∷ (codes "read", rows_form Read (key_of is_plain))
    ∷ (codes "scan", rows_form Scan plain_name)
    ∷ (codes "poll", rows_form Poll (key_of is_name))
    ∷ (codes "call", call_form)
    ∷ (codes "send", send_form)
    ∷ (codes "reply", one_word (λ v. Does (Reply v)) value_of)
    ∷ (codes "repeat", one_word OpenRepeat (decimal_in 1 MOST_TURNS))
    ∷ (codes "if", if_form)
    ∷ []

-- the lines of one word
abbrev pub lone_lines : List (List ℕ × Line)
lone_lines =
    (codes "barrier", Does Barrier) ∷ (codes "dryrun", Does DryRun) ∷ (codes "nack", Does Nack)
    ∷ (codes "root", Does Root) ∷ (codes "stop", Does Stop) ∷ (codes "end", Close) ∷ []

-- The line that words state: they are one of these words, or have the form of the first of them.
unfoldable pub read_line : List (List ℕ) → Option Line
read_line [] = None
read_line (word ∷ []) = lookup (bytes_eq word) lone_lines
read_line (first ∷ rest) = option_and_then (λ form. form rest) (lookup (bytes_eq first) forms)
