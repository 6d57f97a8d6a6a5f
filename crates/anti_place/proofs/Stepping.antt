-- A step of a loop over statements: what is known of those from one on is known of it and of those behind it.
use Rattle.std.proofs.Common.{◌≡◌, ℕ, ◌+◌, ◌<◌, ◌≤◌, Bool, false, List, [], ◌∷◌, ◌++◌, length, length-append, drop, drop-cons, get_or, Option, refl, sym, ap, ap₂, ◌∙◌, add-one, arith}
use Rattle.anti_lang.specs.Bodies.{block_from, step_of}
use Rattle.anti_lang.specs.Blocks.{step_lines, lines_of}
use Rattle.anti_lang.specs.Program.{Block, Then}
use Rattle.anti_lang.specs.declared.statement.Statement.{Statement}
use Rattle.anti_lang.specs.Steps.{steps_of}
use Rattle.anti_place.specs.declared.doubt.Doubt.{Doubt}
use Rattle.anti_place.specs.declared.fault.Fault.{Fault}
use Rattle.anti_place.specs.declared.flow.Flow.{Flow}
use Rattle.anti_place.specs.declared.search.Search.{Search}
use Rattle.anti_place.specs.Paths.{height, earlier}
use Rattle.anti_place.specs.inner.Joined.{left, is_stop, then_flow, through, through_block, behind, fault_at, fault_in, reads_in, reads_of, by_rows}
use Rattle.anti_place.proofs.Earlier.{earlier_assoc}
use Rattle.anti_place.proofs.Flows.{then_assoc}
use Rattle.anti_place.proofs.Joining.{behind_left}

rows_append : (fault : Doubt → Option Fault) (xs ys : List (List ℕ)) → by_rows fault (xs ++ ys) ≡ earlier (by_rows fault xs) (by_rows fault ys)
rows_append fault [] ys = refl
rows_append fault (x ∷ xs) ys = ap (earlier _) (rows_append fault xs ys) ∙ sym (earlier_assoc _ (by_rows fault xs) (by_rows fault ys))

-- the statements from this one on, as a block
abbrev pub from : List Statement → ℕ → Block
from statements i = block_from (steps_of (drop i statements))

module _ (statements : List Statement) (i : ℕ) (statement : Statement) (within : i < length statements) (is : statement ≡ get_or statements i statement) where
  pub one_more : from statements i ≡ Then (step_of statement) (from statements (i + 1))
  one_more =
      let dropped : drop i statements ≡ statement ∷ drop (i + 1) statements = rw (add-one, drop-cons statements i statement, ← is) refl in
      ap (λ (those : List Statement). block_from (steps_of those)) dropped

  -- it has no more lines than there are
  pub lines_left : height (step_of statement) ≤ length (lines_of (from statements i))
  lines_left =
      let here = ap (λ (block : Block). length (lines_of block)) one_more ∙ length-append (step_lines (step_of statement)) (lines_of (from statements (i + 1))) in
      omega (arith, here)

  -- its lines are counted
  pub lines_more : (count lines whole : ℕ) → lines ≡ height (step_of statement) → count + length (lines_of (from statements i)) ≡ whole
      → count + lines + length (lines_of (from statements (i + 1))) ≡ whole
  lines_more count lines whole counted before =
      let here = ap (λ (block : Block). length (lines_of block)) one_more ∙ length-append (step_lines (step_of statement)) (lines_of (from statements (i + 1))) in
      omega (arith, here)

  pub flow_more : (doubt : Doubt) (before one after whole : Flow) → one ≡ through doubt (step_of statement) → after ≡ then_flow before one
      → then_flow before (through_block doubt (from statements i)) ≡ whole → then_flow after (through_block doubt (from statements (i + 1))) ≡ whole
  flow_more doubt before one after whole is_one is_after known =
      let rest : Flow = through_block doubt (from statements (i + 1)) in
      ap (λ (flow : Flow). then_flow flow rest) (is_after ∙ ap (then_flow before) is_one)
      ∙ then_assoc before (through doubt (step_of statement)) rest
      ∙ sym (ap (λ (block : Block). then_flow before (through_block doubt block)) one_more) ∙ known

  pub rows_more : (fault : Doubt → Option Fault) (found one after whole : Option Fault) → one ≡ by_rows fault (reads_in (step_of statement)) → after ≡ earlier found one
      → earlier found (by_rows fault (reads_of (from statements i))) ≡ whole → earlier after (by_rows fault (reads_of (from statements (i + 1)))) ≡ whole
  rows_more fault found one after whole is_one is_after known =
      let rest : Option Fault = by_rows fault (reads_of (from statements (i + 1))) in
      ap (λ (x : Option Fault). earlier x rest) (is_after ∙ ap (earlier found) is_one)
      ∙ earlier_assoc found (by_rows fault (reads_in (step_of statement))) rest
      ∙ sym (ap (earlier found) (ap (λ (block : Block). by_rows fault (reads_of block)) one_more ∙ rows_append fault (reads_in (step_of statement)) (reads_of (from statements (i + 1)))))
      ∙ known

  module _ (search : Search) (doubt : Doubt) (here : ℕ) (held : Bool) (found one after whole : Option Fault) (flow : Flow)
      (is_one : one ≡ fault_at search doubt here (step_of statement) held) (is_after : after ≡ earlier found one) (is_flow : flow ≡ through doubt (step_of statement))
      (known : earlier found (fault_in search doubt here (from statements i) held) ≡ whole) where
    pub fault_more : (lines : ℕ) (entered : Bool) → is_stop flow ≡ false → entered ≡ left flow held → lines ≡ height (step_of statement)
        → earlier after (fault_in search doubt (here + lines) (from statements (i + 1)) entered) ≡ whole
    fault_more lines entered goes is_entered counted =
        let further : Bool → Option Fault = fault_in search doubt (here + height (step_of statement)) (from statements (i + 1)) in
        let at : fault_in search doubt (here + lines) (from statements (i + 1)) entered ≡ behind flow held further =
        ap₂ (λ (n : ℕ) (b : Bool). fault_in search doubt (here + n) (from statements (i + 1)) b) counted is_entered ∙ sym (behind_left flow held further goes) in
        ap₂ earlier (is_after ∙ ap (earlier found) is_one) (at ∙ ap (λ (f : Flow). behind f held further) is_flow)
        ∙ earlier_assoc found (fault_at search doubt here (step_of statement) held) (behind (through doubt (step_of statement)) held further)
        ∙ sym (ap (λ (block : Block). earlier found (fault_in search doubt here block held)) one_more) ∙ known
