-- Where a barrier, a transfer or a root is missing in a body: by the ways that can be gone through it.
use Rattle.std.specs.Prelude.{ℕ, zero, suc, ◌+◌, nat_lt, ◌&&◌, ◌||◌, ◌==◌, not, Bool, true, false, cond, List, [], ◌∷◌, ◌++◌, length, map, Option, Some, None}
use Rattle.std.specs.List.{filter, flat_map, list_any}
use Rattle.std.specs.Str.{bytes_eq}
use Rattle.anti_lang.specs.Program.{Step, Block, End, Then, Write, Append, Remove, Transfer, Barrier, DryRun, Read, Scan, Poll, Call, Send, Nack, Root, Stop, Repeat, IfAbsent}
use Rattle.anti_lang.specs.Blocks.{step_lines, lines_of}
use Rattle.anti_place.specs.declared.fault.Fault.{Fault}
use Rattle.anti_place.specs.declared.reason.Reason.{Reason}
use Rattle.anti_place.specs.declared.reason.Reason.TheVariants.{Removed, Untracked, Untransferred, Unsettled}

-- ---- what is known on a way

-- the variables whose rows are not transferred yet, and whether something is carried that no barrier waited for
pub record State : Type 0 where
  pub rows : List (List ℕ)
  pub unsettled : Bool

abbrev pub is_some_left : State → Bool
is_some_left s = list_any (λ x. true) s.rows

-- how a statement changes it
abbrev pub changed : Step → State → State
changed (Write store key value variable false) s = record s { unsettled = true }
changed (Append x) s = record s { unsettled = true }
changed (Transfer x) s = record { rows = filter (λ y. not (bytes_eq x y)) s.rows; unsettled = true }
changed (Call service handler value x) s = record s { unsettled = true }
changed Barrier s = record s { unsettled = false }
changed (Read store key x) s = record s { rows = x ∷ s.rows }
changed (Scan store prefix x) s = record s { rows = x ∷ s.rows }
changed (Poll store key x) s = record s { rows = x ∷ s.rows }
changed Root s = record { rows = []; unsettled = false }
changed Stop s = record { rows = []; unsettled = false }
changed statement s = s

-- ---- what a statement needs

abbrev pub when : Bool → Reason → List Reason
when test reason = cond test (reason ∷ []) []

-- Why a statement fails, where some rows are left or none, and what is carried is unsettled or not. A handler that is called owes at its end
-- that no rows are left: what it read would be lost to its caller.
abbrev pub reasons : Bool → Step → Bool → Bool → List Reason
reasons called (Remove x) left unsettled = Removed ∷ []
reasons called (Write store key value variable true) left unsettled = Untracked ∷ []
reasons called (Write store key value variable false) left unsettled = when left Untransferred
reasons called (Call service handler value x) left unsettled = when left Untransferred
reasons called (Send service handler value) left unsettled = when left Untransferred
reasons called Barrier left unsettled = when left Untransferred
reasons called DryRun left unsettled = when left Untransferred
reasons called (Read store key x) left unsettled = when left Untransferred ++ when unsettled Unsettled
reasons called (Scan store prefix x) left unsettled = when left Untransferred ++ when unsettled Unsettled
reasons called (Poll store key x) left unsettled = when left Untransferred ++ when unsettled Unsettled
reasons called Nack left unsettled = cond called (when left Untransferred) []
reasons called statement left unsettled = []

-- ---- ways through a body

-- a statement that a way comes to, with its line in the body, counted from 1
pub record Spot : Type 0 where
  pub line : ℕ
  pub statement : Step

abbrev pub Path : Type 0
Path = List Spot

-- each of these ways, and behind it each of those
abbrev pub in_turn : List Path → List Path → List Path
in_turn these those = flat_map (λ path. map (λ further. path ++ further) those) these

-- once or twice through a block; one that has no turn is passed
abbrev pub turned : ℕ → List Path → List Path
turned zero once = [] ∷ []
turned (suc n) once = once ++ in_turn once once

-- how many lines a statement takes, with its block and the end of this
abbrev pub height : Step → ℕ
height statement = length (step_lines statement)

-- the ways through a statement or a block whose first line is this one
abbrev mutual
  pub step_paths : ℕ → Step → List Path
  step_paths line (Repeat count block) = turned count (block_paths (line + 1) block)
  step_paths line (IfAbsent x block) = [] ∷ block_paths (line + 1) block
  step_paths line statement = (record { line = line; statement = statement } ∷ []) ∷ []

  pub block_paths : ℕ → Block → List Path
  block_paths line End = [] ∷ []
  block_paths line (Then first rest) = in_turn (step_paths line first) (block_paths (line + height first) rest)

-- The ways through a body. Its end counts as a `nack` behind its last line, for it needs the same.
abbrev pub paths : Block → List Path
paths body = in_turn (block_paths 1 body) ((record { line = length (lines_of body) + 1; statement = Nack } ∷ []) ∷ [])

-- ---- the first fault

abbrev pub ends_path : Step → Bool
ends_path Nack = true
ends_path statement = false

-- The lines that fail on a way, up to its first `nack`. One that fails changes what is known all the same.
abbrev pub faults_on : Bool → State → Path → List Fault
faults_on called s [] = []
faults_on called s (spot ∷ path) =
    map (λ reason. record { line = spot.line; reason = reason }) (reasons called spot.statement (is_some_left s) s.unsettled)
    ++ cond (ends_path spot.statement) [] (faults_on called (changed spot.statement s) path)

-- by line, and at one line by the reason
abbrev pub rank : Reason → ℕ
rank Removed = 0
rank Untracked = 1
rank Untransferred = 2
rank Unsettled = 3

abbrev pub is_before : Fault → Fault → Bool
is_before a b = nat_lt a.line b.line || (a.line == b.line && nat_lt (rank a.reason) (rank b.reason))

abbrev pub earlier : Option Fault → Option Fault → Option Fault
earlier None b = b
earlier (Some a) None = Some a
earlier (Some a) (Some b) = cond (is_before b a) (Some b) (Some a)

abbrev pub first : List Fault → Option Fault
first [] = None
first (a ∷ faults) = earlier (Some a) (first faults)

-- The faults of a body on all its ways. At its start no rows are left, and what is carried is unsettled where messages or rows can bring
-- something: where a call, a send or a subscription names the handler.
abbrev pub all_faults : Bool → Bool → Block → List Fault
all_faults called named body = flat_map (faults_on called (record { rows = []; unsettled = named })) (paths body)

-- The first fault of a body on any of its ways.
abbrev pub first_fault : Bool → Bool → Block → Option Fault
first_fault called named body = first (all_faults called named body)
