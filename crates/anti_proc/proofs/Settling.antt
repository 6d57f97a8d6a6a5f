-- A handler goes on from statement to statement.
use Rattle.std.proofs.Common.{◌≡◌, ℕ, ◌+◌, ◌*◌, ◌^◌, ◌<◌, ◌≤◌, List, [], ◌∷◌, ◌++◌, Bool, true, false, Option, None, if◌then◌else◌, refl, sym, ap, ◌∙◌, subst, arith}
use Rattle.std.proofs.Math.Path.{fun_ext}
use Rattle.anti_lang.specs.Bodies.{block_from}
use Rattle.anti_lang.specs.Steps.{list_of}
use Rattle.anti_lang.specs.Program.{Block, Step, Repeat, IfAbsent}
use Rattle.anti_lang.specs.Spans.{spans_in, spans_of}
use Rattle.anti_app.specs.declared.app.App.{App}
use Rattle.anti_app.specs.Objects.{body_of}
use Rattle.anti_app.specs.Running.{CanRun}
use Rattle.anti_app.proofs.Blocks.{block_again}
use Rattle.anti_proc.specs.declared.cursor.Cursor.{Cursor}
use Rattle.anti_proc.specs.declared.end.BodyEnd.TheVariants.{Fine}
use Rattle.anti_proc.specs.declared.given.Given.{Given}
use Rattle.anti_proc.specs.declared.next.Stage.{Stage}
use Rattle.anti_proc.specs.declared.run.Advance.{Advance}
use Rattle.anti_proc.specs.declared.run.Advance.TheVariants.{Goes, Over, Full}
use Rattle.anti_proc.specs.declared.run.Life.TheVariants.{Runs}
use Rattle.anti_proc.specs.declared.run.Run.{Run}
use Rattle.anti_proc.specs.declared.task.Role.{Role}
use Rattle.anti_proc.specs.Local.{Setting, Local, held_in, is_absent}
use Rattle.anti_proc.specs.Meaning.{Go, block_tree, body_tree, leave, step_tree}
use Rattle.anti_proc.specs.inner.Cursors.{Enters, IsStart, again, block_in, block_weight, last_opened, left_at, step_weight, weight}
use Rattle.anti_proc.specs.inner.Running.{AdvanceHasSpans, HasSpans}
use Rattle.anti_proc.specs.inner.Standing.{body_in, full_by, going, left_to_run, setting, stage_or}
use Rattle.anti_proc.specs.inner.Statements.{own_spans, turns_of, with_block}
use Rattle.anti_proc.proofs.Running.{run, run_again, spans_again, spans_append, spans_block, weight_again, weight_append}

-- ---- a statement and its block

below_next : (n : ℕ) → n < 1 + n
below_next n = omega arith

-- the turns of its block weigh less than a statement
turns_lighter : (step : Step) (l : Local) → turns_of step l * block_weight (block_in step) < step_weight step
turns_lighter (Repeat count block) l = below_next (count * block_weight block)
turns_lighter (IfAbsent variable block) l = by_test (is_absent (held_in l.variables variable)) (block_weight block)
  where
    by_test : (here : Bool) (w : ℕ) → (if here then 1 else 0) * w < 1 + w
    by_test true w = omega arith
    by_test false w = omega arith
turns_lighter _ l = omega arith

-- a statement begins the spans that it begins itself, and those of the turns of its block
spans_apart : (step : Step) (l : Local) → own_spans step + turns_of step l * spans_of (block_in step) ≤ spans_in step
spans_apart (Repeat count block) l = omega arith
spans_apart (IfAbsent variable block) l = by_test (is_absent (held_in l.variables variable)) (spans_of block)
  where
    by_test : (here : Bool) (n : ℕ) → 0 + (if here then 1 else 0) * n ≤ n
    by_test true n = omega arith
    by_test false n = omega arith
spans_apart _ l = omega arith

-- the turns of its block, and then what follows them
block_entered : (step : Step) (s : Setting) (l : Local) (rest : List Step) (go : Go) (k : Local)
    → run (again (turns_of step l) (list_of (block_in step)) ++ rest) s go k ≡ with_block step s l (run rest s go) k
block_entered (Repeat count block) s l rest go k = run_again count block rest s go k
block_entered (IfAbsent variable block) s l rest go k = by_test (is_absent (held_in l.variables variable))
  where
    by_test : (here : Bool) → run (again (if here then 1 else 0) (list_of block) ++ rest) s go k
        ≡ (if here then block_tree block s k (run rest s go) else run rest s go k)
    by_test true = run_again 1 block rest s go k
    by_test false = refl
block_entered _ s l rest go k = refl

-- A handler that stood before a statement, knew something and then entered the block of the statement, as often as it is run.
module _ (app : App) (given : Given) (step : Step) (from passed entered : Cursor) (old : Local) (body : List Step)
    (its : body ≡ body_in app given.role)
    (left : left_at body from ≡ step ∷ left_at body passed) (opened : last_opened body passed ≡ list_of (block_in step))
    (enters : Enters (turns_of step old) passed entered) where
  was : left_to_run app given.role from ≡ step ∷ left_at (body_in app given.role) passed
  was = subst (λ (b : List Step). left_at b from ≡ step ∷ left_at b passed) its left

  is : left_to_run app given.role entered ≡ again (turns_of step old) (list_of (block_in step)) ++ left_at (body_in app given.role) passed
  is =
      enters (body_in app given.role)
      ∙ ap (λ (b : List Step). again (turns_of step old) b ++ left_at (body_in app given.role) passed)
      (subst (λ (b : List Step). last_opened b passed ≡ list_of (block_in step)) its opened)

  goes_entered : (k : Local) → going app given entered k ≡ with_block step (setting app given) old (going app given passed) k
  goes_entered k =
      ap (λ (steps : List Step). body_tree (block_from steps) (setting app given) k) is
      ∙ block_entered step (setting app given) old (left_at (body_in app given.role) passed) (leave true (setting app given) Fine) k

  -- what the statement comes to, and what is left then, is what was left before it
  pub passed_goes : (new : Local) (comes : Option Stage)
      → ((go : Go) → stage_or comes (setting app given) new (with_block step (setting app given) old go) ≡ step_tree step (setting app given) old go)
      → stage_or comes (setting app given) new (going app given entered) ≡ going app given from old
  passed_goes new comes goes =
      ap (λ (go : Go). stage_or comes (setting app given) new go) (fun_ext goes_entered)
      ∙ goes (going app given passed)
      ∙ ap (λ (steps : List Step). body_tree (block_from steps) (setting app given) old) (sym was)

  -- less is left than before
  pub passed_lighter : weight (left_to_run app given.role entered) < weight (left_to_run app given.role from)
  passed_lighter =
      let now : weight (left_to_run app given.role entered) ≡ turns_of step old * block_weight (block_in step) + weight (left_at (body_in app given.role) passed) =
      ap weight is ∙ weight_append (again (turns_of step old) (list_of (block_in step))) (left_at (body_in app given.role) passed)
      ∙ ap (λ (n : ℕ). n + weight (left_at (body_in app given.role) passed)) (weight_again (turns_of step old) (block_in step)) in
      let before : weight (left_to_run app given.role from) ≡ step_weight step + weight (left_at (body_in app given.role) passed) = ap weight was in
      let lighter = turns_lighter step old in
      omega arith

  pub passed_spans : (span : ℕ) → span ≤ old.span + own_spans step → HasSpans app given.role from old.span → HasSpans app given.role entered span
  passed_spans span spans has =
      let now : spans_of (block_from (left_to_run app given.role entered)) ≡ turns_of step old * spans_of (block_in step) + spans_of (block_from (left_at (body_in app given.role) passed)) =
      ap (λ (steps : List Step). spans_of (block_from steps)) is ∙ spans_append (again (turns_of step old) (list_of (block_in step))) (left_at (body_in app given.role) passed)
      ∙ ap (λ (n : ℕ). n + spans_of (block_from (left_at (body_in app given.role) passed))) (spans_again (turns_of step old) (block_in step)) in
      let before : spans_of (block_from (left_to_run app given.role from)) ≡ spans_in step + spans_of (block_from (left_at (body_in app given.role) passed)) =
      ap (λ (steps : List Step). spans_of (block_from steps)) was in
      let apart = spans_apart step old in
      omega arith

  -- the spans of the statement itself fit
  pub own_spans_fit : HasSpans app given.role from old.span → old.span + spans_in step < 2 ^ 32
  own_spans_fit has =
      let before : spans_of (block_from (left_to_run app given.role from)) ≡ spans_in step + spans_of (block_from (left_at (body_in app given.role) passed)) =
      ap (λ (steps : List Step). spans_of (block_from steps)) was in
      omega arith

-- where nothing is left it is at its end
pub ended : (app : App) (given : Given) (cursor : Cursor) (l : Local) (body : List Step) → body ≡ body_in app given.role → left_at body cursor ≡ []
    → going app given cursor l ≡ leave true (setting app given) Fine l
ended app given cursor l body its none =
    ap (λ (steps : List Step). body_tree (block_from steps) (setting app given) l) (subst (λ (b : List Step). left_at b cursor ≡ []) its none)

-- ---- the start

-- at the start of its body all of it is left
pub begins : (app : App) (given : Given) (cursor : Cursor) (l : Local) → IsStart cursor
    → going app given cursor l ≡ body_tree (body_of app given.role.service given.role.handler) (setting app given) l
begins app given cursor l start =
    ap (λ (steps : List Step). body_tree (block_from steps) (setting app given) l) (start (body_in app given.role))
    ∙ ap (λ (b : Block). body_tree b (setting app given) l) (block_again (body_of app given.role.service given.role.handler))

pub begins_spans : (app : App) (role : Role) (cursor : Cursor) → CanRun app → IsStart cursor → HasSpans app role cursor 1
begins_spans app role cursor can start =
    let all : spans_of (block_from (left_to_run app role cursor)) ≡ spans_of (body_of app role.service role.handler) =
    ap (λ (steps : List Step). spans_of (block_from steps)) (start (body_in app role)) ∙ spans_block (body_of app role.service role.handler) in
    let few = can.spans role.service role.handler in
    omega arith

-- ---- a reply more

-- one that goes on was not ended as full
pub goes_on : (app : App) (r : Run) (a : Advance) → AdvanceHasSpans app (Runs r) a → full_by a ≡ None
goes_on app r (Goes going) fits = refl
goes_on app r (Over end) fits = refl
goes_on app r (Full object) fits = absurd fits
