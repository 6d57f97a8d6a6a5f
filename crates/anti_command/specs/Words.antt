-- What the words of a call ask for.
use Rattle.std.specs.Prelude.{ℕ, List, [], ◌∷◌, Option, None, Some, option_map, if◌then◌else◌, codes}
use Rattle.std.specs.Str.{bytes_eq}
use Rattle.anti_ids.specs.Decimals.{decimal_in}
use Rattle.anti_ids.specs.declared.limits.TheConstants.{MOST_REQUESTS}
use Rattle.anti_command.specs.declared.command.Command.{Command}
use Rattle.anti_command.specs.declared.command.Command.TheVariants.{Step, Json, Run, Session, Doctor, Place, Review, Counterexample, Load}

-- the command of a word that asks what is found of a run
abbrev pub finding_of : List ℕ → Option Command
finding_of word = if bytes_eq word (codes "session") then Some Session else if bytes_eq word (codes "doctor") then Some Doctor else None

-- the command of a word that asks what is told of an application
abbrev pub telling_of : List ℕ → Option Command
telling_of word =
    if bytes_eq word (codes "place") then Some Place else
    if bytes_eq word (codes "review") then Some Review else
    if bytes_eq word (codes "counterexample") then Some Counterexample else finding_of word

-- the command of one word
abbrev pub word_of : List ℕ → Option Command
word_of word =
    if bytes_eq word (codes "step") then Some Step else
    if bytes_eq word (codes "json") then Some Json else
    if bytes_eq word (codes "run") then Some Run else telling_of word

-- `load` and how many requests, without a zero that the number does not need
abbrev pub load_of : List ℕ → List ℕ → Option Command
load_of word number = if bytes_eq word (codes "load") then option_map Load (decimal_in 1 MOST_REQUESTS number) else None

-- the command that the words name, or none
abbrev pub command_of : List (List ℕ) → Option Command
command_of (word ∷ []) = word_of word
command_of (word ∷ number ∷ []) = load_of word number
command_of _ = None

-- the command where no threads are at hand, so that none runs workers
abbrev pub without_workers : Option Command → Option Command
without_workers (Some Run) = None
without_workers asked = asked

abbrev pub plain_command_of : List (List ℕ) → Option Command
plain_command_of words = without_workers (command_of words)
