-- How a body is printed: how keys, values and lines are spelled, and the lines of bytes of a body.
use Rattle.std.specs.Prelude.{ℕ, codes, List, ◌∷◌, [], Bool, true, false, Option, Some, None, decimal, ◌++◌, map}
use Rattle.anti_ids.specs.Ascii.{dollar, space}
use Rattle.anti_lang.specs.declared.statement.KeyWord.{KeyWord}
use Rattle.anti_lang.specs.declared.statement.ValueWord.{ValueWord}
use Rattle.anti_lang.specs.Program.{Step, Write, Append, Remove, Transfer, Barrier, DryRun, Read, Scan, Poll, Call, Send, Reply, Nack, Root, Stop, Repeat, IfAbsent, Block}
use Rattle.anti_lang.specs.Lines.{Line, Does, OpenRepeat, OpenIf, Close}
use Rattle.anti_lang.specs.Blocks.{lines_of}
use Rattle.anti_lang.specs.declared.statement.KeyWord.TheVariants as keys
use Rattle.anti_lang.specs.declared.statement.ValueWord.TheVariants as values

abbrev pub key_text : KeyWord → List ℕ
key_text keys.Input = codes "$in"
key_text (keys.Of variable) = dollar ∷ variable
key_text (keys.Plain name) = name

abbrev pub value_text : ValueWord → List ℕ
value_text values.Input = codes "$in"
value_text (values.Of variable) = dollar ∷ variable
value_text (values.Literal value) = value

-- the words by which a write sets its variable
abbrev pub held_words : Option (List ℕ) → Bool → List (List ℕ)
held_words None untracked = []
held_words (Some variable) false = codes "as" ∷ variable ∷ []
held_words (Some variable) true = codes "as" ∷ variable ∷ codes "untracked" ∷ []

-- the words of a statement; of one with a block those of the line that opens it
abbrev pub statement_words : Step → List (List ℕ)
statement_words (Write store key value variable untracked) =
    codes "write" ∷ store ∷ key_text key ∷ value_text value ∷ held_words variable untracked
statement_words (Append variable) = codes "append" ∷ variable ∷ []
statement_words (Remove variable) = codes "remove" ∷ variable ∷ []
statement_words (Transfer variable) = codes "transfer" ∷ variable ∷ []
statement_words Barrier = codes "barrier" ∷ []
statement_words DryRun = codes "dryrun" ∷ []
statement_words (Read store key variable) = codes "read" ∷ store ∷ key_text key ∷ codes "as" ∷ variable ∷ []
statement_words (Scan store prefix variable) = codes "scan" ∷ store ∷ prefix ∷ codes "as" ∷ variable ∷ []
statement_words (Poll store key variable) = codes "poll" ∷ store ∷ key_text key ∷ codes "as" ∷ variable ∷ []
statement_words (Call service handler value variable) =
    codes "call" ∷ service ∷ handler ∷ value_text value ∷ codes "as" ∷ variable ∷ []
statement_words (Send service handler value) = codes "send" ∷ service ∷ handler ∷ value_text value ∷ []
statement_words (Reply value) = codes "reply" ∷ value_text value ∷ []
statement_words Nack = codes "nack" ∷ []
statement_words Root = codes "root" ∷ []
statement_words Stop = codes "stop" ∷ []
statement_words (Repeat count block) = codes "repeat" ∷ decimal count ∷ []
statement_words (IfAbsent variable block) = codes "if" ∷ variable ∷ codes "absent" ∷ []

-- The words of a line, as they are printed.
abbrev pub spelling : Line → List (List ℕ)
spelling (Does statement) = statement_words statement
spelling (OpenRepeat count) = codes "repeat" ∷ decimal count ∷ []
spelling (OpenIf variable) = codes "if" ∷ variable ∷ codes "absent" ∷ []
spelling Close = codes "end" ∷ []

abbrev pub LineTexts : Type 0
LineTexts = List (List ℕ)

-- words with one space between
abbrev pub spaced : List (List ℕ) → List ℕ
spaced [] = []
spaced (word ∷ []) = word
spaced (word ∷ next ∷ rest) = word ++ space ∷ spaced (next ∷ rest)

-- the texts of lines, each with one space between its words
abbrev pub all_spelled : List Line → List (List ℕ)
all_spelled lines = map (λ line. spaced (spelling line)) lines

-- The lines of a body.
abbrev pub printed : Block → List (List ℕ)
printed block = all_spelled (lines_of block)
