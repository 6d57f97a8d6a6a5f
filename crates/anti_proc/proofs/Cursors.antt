-- How a cursor goes on in its body.
use Rattle.std.proofs.Common.{◌≡◌, ℕ, zero, suc, ◌+◌, List, [], ◌∷◌, ◌++◌, drop, refl, sym, ap, ◌∙◌, arith}
use Rattle.std.proofs.lemmas.List.{append_assoc, drop_more}
use Rattle.std.specs.Prelude.{◌-◌, Option, None, Some, option_map, slice_get}
use Rattle.std.proofs.lemmas.Grind.{common_steps}
use Rattle.std.proofs.lemmas.Option.{get_or_from_slice_get, slice_get-map, slice_get_within}
use Rattle.anti_ids.specs.List.{Listed}
use Rattle.anti_lang.specs.Steps.{list_of, steps_of}
use Rattle.anti_lang.specs.Bodies.{step_in, step_of}
use Rattle.anti_lang.specs.Program.{Step}
use Rattle.anti_lang.specs.declared.statement.Statement.{Statement}
use Rattle.anti_lang.specs.declared.statement.Statement.TheFolds.{fold-roll-Statement}
use Rattle.anti_lang.specs.declared.statement.Statement.TheOpen as open_statement
use Rattle.anti_lang.specs.declared.statement.Statement.TheVariants as statements
use Rattle.anti_proc.specs.declared.cursor.Frame.{Frame}
use Rattle.anti_proc.specs.declared.cursor.Cursor.{Cursor}
use Rattle.anti_app.proofs.Blocks.{list_again}
use Rattle.anti_proc.specs.inner.Cursors.{again, block_in, inner_in, innermost, last_opened, left_at, left_in, left_round, opened, turns_round}

-- ---- the code's blocks

pub in_repeat : (count : ℕ) (body : Listed Statement) → list_of (block_in (step_of (statements.Repeat count body))) ≡ steps_of body.items
in_repeat count body =
    ap (λ (s : Step). list_of (block_in s)) (ap step_of (sym (statements.rolls-Repeat count body)) ∙ fold-roll-Statement Step step_in (open_statement.Repeat count body))
    ∙ list_again (steps_of body.items)

pub in_if : (variable : List ℕ) (body : Listed Statement) → list_of (block_in (step_of (statements.IfAbsent variable body))) ≡ steps_of body.items
in_if variable body =
    ap (λ (s : Step). list_of (block_in s)) (ap step_of (sym (statements.rolls-IfAbsent variable body)) ∙ fold-roll-Statement Step step_in (open_statement.IfAbsent variable body))
    ∙ list_again (steps_of body.items)

-- ---- one more block

pub innermost_last : (block : List Step) (frames : List Frame) (frame : Frame)
    → innermost block (frames ++ frame ∷ []) ≡ opened (innermost block frames) frame.passed
innermost_last block [] frame = refl
innermost_last block (f ∷ fs) frame = innermost_last (opened block f.passed) fs frame

pub left_round_last : (block : List Step) (frames : List Frame) (frame : Frame)
    → left_round block (frames ++ frame ∷ []) ≡ left_in (innermost block frames) frame ++ left_round block frames
left_round_last block [] frame = sym (append_nil (left_in block frame))
  where
    append_nil : (steps : List Step) → steps ++ [] ≡ steps
    append_nil [] = refl
    append_nil (s ∷ ss) = ap (λ (further : List Step). s ∷ further) (append_nil ss)
left_round_last block (f ∷ fs) frame =
    ap (λ (steps : List Step). steps ++ left_in block f) (left_round_last (opened block f.passed) fs frame)
    ∙ append_assoc (left_in (innermost (opened block f.passed) fs) frame) (left_round (opened block f.passed) fs) (left_in block f)

pub turns_round_last : (frames : List Frame) (frame : Frame) → turns_round (frames ++ frame ∷ []) ≡ turns_round frames + (1 + frame.turns)
turns_round_last [] frame = omega arith
turns_round_last (f ∷ fs) frame = let rest = turns_round_last fs frame in omega arith

-- ---- the next statement

drop_at : {X : Type 0} (xs : List X) (i : ℕ) (x : X) → slice_get xs i ≡ Some x → drop i xs ≡ x ∷ drop (i + 1) xs
drop_at xs i x at =
    drop_more xs i x (slice_get_within xs i x at) ∙ ap (λ (y : _). y ∷ drop (i + 1) xs) (get_or_from_slice_get xs i x x at)

module _ (body : List Step) (outer : Listed Frame) (passed turns : ℕ) (block : List Statement) (statement : Statement)
    (is : steps_of block ≡ innermost body outer.items) (at : slice_get block passed ≡ Some statement) where
  abbrev was : Cursor
  was = record { outer = outer; here = record { passed = passed; turns = turns } }

  abbrev behind : Cursor
  behind = record { outer = outer; here = record { passed = passed + 1; turns = turns } }

  found : slice_get (innermost body outer.items) passed ≡ Some (step_of statement)
  found = ap (λ (steps : List Step). slice_get steps passed) (sym is) ∙ slice_get-map step_of block passed ∙ ap (λ (o : Option Statement). option_map step_of o) at

  pub line_left : left_at body was ≡ step_of statement ∷ left_at body behind
  line_left =
      ap (λ (steps : List Step). (steps ++ again turns (innermost body outer.items)) ++ left_round body outer.items)
      (drop_at (innermost body outer.items) passed (step_of statement) found)

  pub line_opened : last_opened body behind ≡ list_of (block_in (step_of statement))
  line_opened =
      let back : (passed + 1) - 1 ≡ passed = omega arith in
      ap (λ (i : ℕ). inner_in (slice_get (innermost body outer.items) i)) back ∙ ap inner_in found

past : {X : Type 0} (xs : List X) (i : ℕ) → slice_get xs i ≡ None → drop i xs ≡ []
past [] i none = grind (arith, common_steps)
past (x ∷ xs) zero none = absurd (cc)
past (x ∷ xs) (suc i) none = past xs i none

-- behind the last statement
pub line_none : (body : List Step) (outer : List Frame) (passed : ℕ) (block : List Statement) → steps_of block ≡ innermost body outer → slice_get block passed ≡ None
    → drop passed (innermost body outer) ≡ []
line_none body outer passed block is none =
    past (innermost body outer) passed
    (ap (λ (steps : List Step). slice_get steps passed) (sym is) ∙ slice_get-map step_of block passed ∙ ap (λ (o : Option Statement). option_map step_of o) none)
