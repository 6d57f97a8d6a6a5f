-- The check without ways: one doubt at a time is carried through a body, on all its ways together.
use Rattle.std.specs.Prelude.{ℕ, zero, suc, ◌+◌, ◌||◌, Bool, true, false, cond, List, [], ◌∷◌, ◌++◌, length, Option, Some, None}
use Rattle.std.specs.Str.{bytes_eq}
use Rattle.anti_lang.specs.Program.{Step, Block, End, Then, Write, Append, Remove, Transfer, Barrier, DryRun, Read, Scan, Poll, Call, Send, Nack, Root, Stop, Repeat, IfAbsent}
use Rattle.anti_lang.specs.Blocks.{lines_of}
use Rattle.anti_place.specs.declared.doubt.Doubt.{Doubt}
use Rattle.anti_place.specs.declared.doubt.Doubt.TheVariants.{Always, Unsettled, Rows}
use Rattle.anti_place.specs.declared.fault.Fault.{Fault}
use Rattle.anti_place.specs.declared.flow.Flow.{Flow}
use Rattle.anti_place.specs.declared.flow.Flow.TheVariants.{Stops, Clears, Keeps, Sets}
use Rattle.anti_place.specs.declared.reason.Reason.{Reason}
use Rattle.anti_place.specs.declared.reason.Reason.TheVariants as why
use Rattle.anti_place.specs.declared.search.Search.{Search}
use Rattle.anti_place.specs.declared.search.Sought.{Sought}
use Rattle.anti_place.specs.declared.search.Sought.TheVariants.{Faults, Waits}
use Rattle.anti_place.specs.Paths.{height, is_before, earlier}

-- ---- what becomes of a doubt

-- whether it is held behind what does this to it, where it is held before that or not
abbrev pub left : Flow → Bool → Bool
left Stops held = false
left Clears held = false
left Keeps held = held
left Sets held = true

-- whether no way comes out
abbrev pub is_stop : Flow → Bool
is_stop Stops = true
is_stop flow = false

-- one thing and then another
abbrev pub then_flow : Flow → Flow → Flow
then_flow Stops next = Stops
then_flow Keeps next = next
then_flow flow Keeps = flow
then_flow flow next = next

-- the one on some ways and the other on the others
abbrev pub either : Flow → Flow → Flow
either Stops other = other
either Sets other = Sets
either Clears Stops = Clears
either Clears other = other
either Keeps Sets = Sets
either Keeps other = Keeps

-- what the turns of a block do: some of them what one does, and none nothing
abbrev pub turned_flow : ℕ → Flow → Flow
turned_flow zero flow = Keeps
turned_flow (suc n) flow = flow

-- ---- what a statement does to a doubt

abbrev pub if_same : List ℕ → List ℕ → Flow → Flow
if_same x y flow = cond (bytes_eq x y) flow Keeps

abbrev pub goes_on : Step → Flow
goes_on Nack = Stops
goes_on statement = Keeps

abbrev pub settles : Step → Flow
settles (Write store key value variable false) = Sets
settles (Append x) = Sets
settles (Transfer x) = Sets
settles (Call service handler value x) = Sets
settles Barrier = Clears
settles Root = Clears
settles Stop = Clears
settles Nack = Stops
settles statement = Keeps

abbrev pub transfers : List ℕ → Step → Flow
transfers x (Transfer y) = if_same x y Clears
transfers x (Read store key y) = if_same x y Sets
transfers x (Scan store prefix y) = if_same x y Sets
transfers x (Poll store key y) = if_same x y Sets
transfers x Root = Clears
transfers x Stop = Clears
transfers x Nack = Stops
transfers x statement = Keeps

abbrev pub does : Doubt → Step → Flow
does Always statement = goes_on statement
does Unsettled statement = settles statement
does (Rows x) statement = transfers x statement

-- what all ways through a statement or a block do to it together
abbrev mutual
  pub through : Doubt → Step → Flow
  through doubt (Repeat count block) = turned_flow count (through_block doubt block)
  through doubt (IfAbsent x block) = either Keeps (through_block doubt block)
  through doubt statement = does doubt statement

  pub through_block : Doubt → Block → Flow
  through_block doubt End = Keeps
  through_block doubt (Then first rest) = then_flow (through doubt first) (through_block doubt rest)

-- ---- why a statement fails where a doubt is held

abbrev pub forbidden : Step → Option Reason
forbidden (Remove x) = Some why.Removed
forbidden (Write store key value variable true) = Some why.Untracked
forbidden statement = None

abbrev pub wants_settled : Step → Option Reason
wants_settled (Read store key x) = Some why.Unsettled
wants_settled (Scan store prefix x) = Some why.Unsettled
wants_settled (Poll store key x) = Some why.Unsettled
wants_settled statement = None

abbrev pub wants_transferred : Bool → Step → Option Reason
wants_transferred called (Write store key value variable false) = Some why.Untransferred
wants_transferred called (Call service handler value x) = Some why.Untransferred
wants_transferred called (Send service handler value) = Some why.Untransferred
wants_transferred called Barrier = Some why.Untransferred
wants_transferred called DryRun = Some why.Untransferred
wants_transferred called (Read store key x) = Some why.Untransferred
wants_transferred called (Scan store prefix x) = Some why.Untransferred
wants_transferred called (Poll store key x) = Some why.Untransferred
wants_transferred called Nack = cond called (Some why.Untransferred) None
wants_transferred called statement = None

abbrev pub has_to_wait : Step → Option Reason
has_to_wait Barrier = Some why.Unsettled
has_to_wait statement = None

-- where it is a line that fails that is sought, or a barrier that has to wait
abbrev pub fails : Sought → Doubt → Step → Option Reason
fails (Faults called) Always statement = forbidden statement
fails (Faults called) Unsettled statement = wants_settled statement
fails (Faults called) (Rows x) statement = wants_transferred called statement
fails Waits doubt statement = has_to_wait statement

-- ---- the first line that fails, by one doubt

-- whether a fault is told behind another, where there is one
abbrev pub is_later : Option Fault → Fault → Bool
is_later None fault = true
is_later (Some after) fault = is_before after fault

abbrev pub at_line : Option Fault → ℕ → Option Reason → Option Fault
at_line after line None = None
at_line after line (Some reason) =
    cond (is_later after (record { line = line; reason = reason })) (Some (record { line = line; reason = reason })) None

-- that of a statement without a block
abbrev pub fault_here : Search → Doubt → ℕ → Step → Bool → Option Fault
fault_here search doubt line statement held = cond held (at_line search.after line (fails search.sought doubt statement)) None

-- that of a block with this count
abbrev pub turned_fault : ℕ → Option Fault → Option Fault
turned_fault zero fault = None
turned_fault (suc n) fault = fault

-- that of what comes behind, where a way comes to it
abbrev pub behind : Flow → Bool → (Bool → Option Fault) → Option Fault
behind Stops held further = None
behind Clears held further = further (left Clears held)
behind Keeps held further = further (left Keeps held)
behind Sets held further = further (left Sets held)

-- A block of a `repeat` is entered with what comes before it, and with what its own end leaves.
abbrev mutual
  pub fault_at : Search → Doubt → ℕ → Step → Bool → Option Fault
  fault_at search doubt line (Repeat count block) held =
      turned_fault count (fault_in search doubt (line + 1) block (held || left (through_block doubt block) held))
  fault_at search doubt line (IfAbsent x block) held = fault_in search doubt (line + 1) block held
  fault_at search doubt line statement held = fault_here search doubt line statement held

  pub fault_in : Search → Doubt → ℕ → Block → Bool → Option Fault
  fault_in search doubt line End held = None
  fault_in search doubt line (Then first rest) held =
      earlier (fault_at search doubt line first held)
      (behind (through doubt first) held (λ entered. fault_in search doubt (line + height first) rest entered))

-- that of a body; its end counts as a `nack` behind its last line
abbrev pub fault_of : Search → Doubt → Block → Bool → Option Fault
fault_of search doubt body held =
    earlier (fault_in search doubt 1 body held)
    (behind (through_block doubt body) held (λ entered. fault_here search doubt (length (lines_of body) + 1) Nack entered))

-- ---- all doubts

-- the variables that some line of a statement or a block reads into
abbrev mutual
  pub reads_in : Step → List (List ℕ)
  reads_in (Read store key x) = x ∷ []
  reads_in (Scan store prefix x) = x ∷ []
  reads_in (Poll store key x) = x ∷ []
  reads_in (Repeat count block) = reads_of block
  reads_in (IfAbsent x block) = reads_of block
  reads_in statement = []

  pub reads_of : Block → List (List ℕ)
  reads_of End = []
  reads_of (Then first rest) = reads_in first ++ reads_of rest

-- the first of those by the rows of these variables
abbrev pub by_rows : (Doubt → Option Fault) → List (List ℕ) → Option Fault
by_rows fault [] = None
by_rows fault (x ∷ names) = earlier (fault (Rows x)) (by_rows fault names)

-- The first line of a body that fails, of those that are sought.
abbrev pub joined_fault : Search → Bool → Block → Option Fault
joined_fault search named body =
    earlier (fault_of search Always body true)
    (earlier (fault_of search Unsettled body named) (by_rows (λ doubt. fault_of search doubt body false) (reads_of body)))
