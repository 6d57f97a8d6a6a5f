-- Where no line fails: which doubts are not held there, and which are held behind a statement.
use Rattle.std.proofs.Common.{◌≡◌, ℕ, zero, suc, ◌+◌, ◌||◌, Bool, true, false, cond, Option, Some, None, refl, sym, ap, ◌∙◌}
use Rattle.anti_lang.specs.Program as program
use Rattle.anti_lang.specs.Program.{Step, Block, End, Then}
use Rattle.anti_place.specs.declared.doubt.Doubt.{Doubt}
use Rattle.anti_place.specs.declared.doubt.Doubt.TheVariants as doubts
use Rattle.anti_place.specs.declared.fault.Fault.{Fault}
use Rattle.anti_place.specs.declared.flow.Flow.{Flow}
use Rattle.anti_place.specs.declared.flow.Flow.TheVariants.{Stops, Clears, Keeps, Sets}
use Rattle.anti_place.specs.declared.search.Search.{Search}
use Rattle.anti_place.specs.Paths.{height}
use Rattle.anti_place.specs.inner.Joined.{behind, does, either, fault_at, fault_here, fault_in, is_stop, left, then_flow, through, through_block}
use Rattle.anti_place.proofs.Doubting.{faults_after}
use Rattle.anti_place.proofs.Earlier.{none_of}

-- which doubts are held
abbrev pub Doubts : Type 0
Doubts = Doubt → Bool

-- those that are held here are held there too
abbrev pub Within : Doubts → Doubts → Type 0
Within a b = (d : Doubt) → a d ≡ true → b d ≡ true

-- what is held behind a statement, and behind a block
abbrev pub behind_step : Step → Doubts → Doubts
behind_step statement a = λ d. left (through d statement) (a d)

abbrev pub behind_block : Block → Doubts → Doubts
behind_block block a = λ d. left (through_block d block) (a d)

-- whether none of the ways leads through a statement, or through a block
abbrev pub step_stops : Step → Bool
step_stops statement = is_stop (through doubts.Always statement)

abbrev pub block_stops : Block → Bool
block_stops block = is_stop (through_block doubts.Always block)

-- ---- flows

pub behind_left : (flow : Flow) (held : Bool) (further : Bool → Option Fault) → is_stop flow ≡ false
    → behind flow held further ≡ further (left flow held)
behind_left Stops held further on = absurd (cc)
behind_left Clears held further on = refl
behind_left Keeps held further on = refl
behind_left Sets held further on = refl

pub left_then : (f g : Flow) (held : Bool) → is_stop f ≡ false → left (then_flow f g) held ≡ left g (left f held)
left_then Stops g held on = absurd (cc)
left_then Clears Stops held on = refl
left_then Clears Clears held on = refl
left_then Clears Keeps held on = refl
left_then Clears Sets held on = refl
left_then Keeps Stops held on = refl
left_then Keeps Clears held on = refl
left_then Keeps Keeps held on = refl
left_then Keeps Sets held on = refl
left_then Sets Stops held on = refl
left_then Sets Clears held on = refl
left_then Sets Keeps held on = refl
left_then Sets Sets held on = refl

pub stop_then : (f g : Flow) → is_stop (then_flow f g) ≡ (is_stop f || is_stop g)
stop_then Stops Stops = refl
stop_then Stops Clears = refl
stop_then Stops Keeps = refl
stop_then Stops Sets = refl
stop_then Clears Stops = refl
stop_then Clears Clears = refl
stop_then Clears Keeps = refl
stop_then Clears Sets = refl
stop_then Keeps Stops = refl
stop_then Keeps Clears = refl
stop_then Keeps Keeps = refl
stop_then Keeps Sets = refl
stop_then Sets Stops = refl
stop_then Sets Clears = refl
stop_then Sets Keeps = refl
stop_then Sets Sets = refl

-- a block may be passed
pub passes : (flow : Flow) → is_stop (either Keeps flow) ≡ false
passes Stops = refl
passes Clears = refl
passes Keeps = refl
passes Sets = refl

pub held_passed : (flow : Flow) (held : Bool) → held ≡ true → left (either Keeps flow) held ≡ true
held_passed Stops held is = is
held_passed Clears held is = is
held_passed Keeps held is = is
held_passed Sets held is = refl

pub held_through : (flow : Flow) (held : Bool) → left flow held ≡ true → left (either Keeps flow) held ≡ true
held_through Stops held is = absurd (cc)
held_through Clears held is = absurd (cc)
held_through Keeps held is = is
held_through Sets held is = refl

-- what is left of what was held, or is left of that, is left of that
pub left_once : (flow : Flow) (held : Bool) → left flow (held || left flow held) ≡ left flow held
left_once Stops held = refl
left_once Clears held = refl
left_once Keeps true = refl
left_once Keeps false = refl
left_once Sets held = refl

-- ---- statements and blocks

one_of : (first : Bool) (f g : Flow) → is_stop f ≡ false → is_stop g ≡ false → is_stop (cond first f g) ≡ false
one_of true f g one other = one
one_of false f g one other = other

-- a way ends for all doubts alike
does_alike : (d : Doubt) (statement : Step) → is_stop (does d statement) ≡ is_stop (does doubts.Always statement)
does_alike doubts.Always statement = refl
does_alike doubts.Unsettled (program.Write store key value x true) = refl
does_alike doubts.Unsettled (program.Write store key value x false) = refl
does_alike doubts.Unsettled statement = refl
does_alike (doubts.Rows y) (program.Transfer x) = one_of _ Clears Keeps refl refl
does_alike (doubts.Rows y) (program.Read store key x) = one_of _ Sets Keeps refl refl
does_alike (doubts.Rows y) (program.Scan store prefix x) = one_of _ Sets Keeps refl refl
does_alike (doubts.Rows y) (program.Poll store key x) = one_of _ Sets Keeps refl refl
does_alike (doubts.Rows y) statement = refl

mutual
  pub stops_alike : (d : Doubt) (statement : Step) → is_stop (through d statement) ≡ step_stops statement
  stops_alike d (program.Repeat zero block) = refl
  stops_alike d (program.Repeat (suc n) block) = block_alike d block
  stops_alike d (program.IfAbsent x block) =
      passes (through_block d block) ∙ sym (passes (through_block doubts.Always block))
  stops_alike d statement = does_alike d statement

  pub block_alike : (d : Doubt) (block : Block) → is_stop (through_block d block) ≡ block_stops block
  block_alike d End = refl
  block_alike d (Then first rest) =
      stop_then (through d first) (through_block d rest)
      ∙ ap (λ (b : Bool). b || is_stop (through_block d rest)) (stops_alike d first)
      ∙ ap (λ (b : Bool). step_stops first || b) (block_alike d rest)
      ∙ sym (stop_then (through doubts.Always first) (through_block doubts.Always rest))

-- ---- no line fails

-- what is sought in a body: all lines that fail
abbrev pub all_that_fail : Bool → Search
all_that_fail called = faults_after called None

abbrev pub NoStepFails : Bool → ℕ → Step → Doubts → Type 0
NoStepFails called line statement a = (d : Doubt) → fault_at (all_that_fail called) d line statement (a d) ≡ None

abbrev pub NoLineFails : Bool → ℕ → Block → Doubts → Type 0
NoLineFails called line block a = (d : Doubt) → fault_in (all_that_fail called) d line block (a d) ≡ None

-- nor does the end behind a block, where a way comes to it
abbrev pub NoEndFails : Bool → ℕ → Block → Doubts → Type 0
NoEndFails called line block a =
    block_stops block ≡ false → (d : Doubt) → fault_here (all_that_fail called) d line program.Nack (behind_block block a d) ≡ None

-- a doubt for which a statement would fail is not held
pub not_held : (held : Bool) (f : Fault) → cond held (Some f) None ≡ None → held ≡ false
not_held true f none = absurd (cc)
not_held false f none = refl

module _ (called : Bool) (line : ℕ) (first : Step) (rest : Block) (a : Doubts) where
  -- what fails behind the first statement
  abbrev further : Doubt → Bool → Option Fault
  further d held = fault_in (all_that_fail called) d (line + height first) rest held

  parts : (d : Doubt) → fault_in (all_that_fail called) d line (Then first rest) (a d) ≡ None
      → (fault_at (all_that_fail called) d line first (a d) ≡ None)
      × (behind (through d first) (a d) (further d) ≡ None)
  parts d none = none_of (fault_at (all_that_fail called) d line first (a d)) (behind (through d first) (a d) (further d)) none

  -- neither the first statement fails, ..
  pub first_fine : NoLineFails called line (Then first rest) a → NoStepFails called line first a
  first_fine fine d = (parts d (fine d)).0

  module _ (on : step_stops first ≡ false) where
    -- .. nor what stands behind it, where a way leads there, ..
    pub rest_fine : NoLineFails called line (Then first rest) a → NoLineFails called (line + height first) rest (behind_step first a)
    rest_fine fine d =
        sym (behind_left (through d first) (a d) (further d) (stops_alike d first ∙ on))
        ∙ (parts d (fine d)).1

    pub rest_stops : block_stops rest ≡ false → block_stops (Then first rest) ≡ false
    rest_stops ends =
        stop_then (through doubts.Always first) (through_block doubts.Always rest)
        ∙ ap (λ (b : Bool). b || block_stops rest) on
        ∙ ends

    pub held_behind : (d : Doubt) → behind_block (Then first rest) a d ≡ behind_block rest (behind_step first a) d
    held_behind d = left_then (through d first) (through_block d rest) (a d) (stops_alike d first ∙ on)

    -- .. nor the end
    pub end_fine : (last : ℕ) → NoEndFails called last (Then first rest) a → NoEndFails called last rest (behind_step first a)
    end_fine last fine ends d =
        ap (λ (held : Bool). fault_here (all_that_fail called) d last program.Nack held) (sym (held_behind d)) ∙ fine (rest_stops ends) d
