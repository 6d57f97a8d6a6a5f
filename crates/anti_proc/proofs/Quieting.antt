-- Statements that make no call, one after another and again and again.
use Rattle.std.proofs.Common.{◌≡◌, ◌≢◌, ℕ, zero, suc, ◌+◌, ◌<◌, Bool, true, false, List, [], ◌∷◌, length, drop, drop-cons, get_or, refl, sym, ap, ap₂, ◌∙◌, add-one, arith}
use Rattle.std.specs.Prelude.{Option, None, Some, is_none}
use Rattle.anti_lang.specs.Bodies.{block_from, step_of}
use Rattle.anti_lang.specs.Program.{Block, Then}
use Rattle.anti_lang.specs.Steps.{steps_of}
use Rattle.anti_lang.specs.declared.statement.Statement.{Statement}
use Rattle.anti_ids.specs.declared.id.WriteId.{WriteId}
use Rattle.anti_proc.specs.declared.next.Stage.{Stage}
use Rattle.anti_proc.specs.declared.quiet.Quiet.{Quiet}
use Rattle.anti_proc.specs.declared.way.Way.{Way}
use Rattle.anti_proc.specs.Local.{Setting, Local}
use Rattle.anti_proc.specs.Meaning.{Go, block_tree, step_tree, turns}
use Rattle.anti_proc.specs.inner.Standing.{local_in, setting_in}
use Rattle.anti_proc.specs.inner.Quiet.{IsQuiet, IsQuietBlock, local_with}

pub no_stage : (stage : Option Stage) → is_none stage ≡ true → stage ≡ None
no_stage None none = refl
no_stage (Some stage) none = absurd (cc)

-- ---- one statement more

-- the statements from an index on, as a block
abbrev pub from : List Statement → ℕ → Block
from statements i = block_from (steps_of (drop i statements))

one_more : (statements : List Statement) (i : ℕ) (statement : Statement) → i < length statements → statement ≡ get_or statements i statement
    → from statements i ≡ Then (step_of statement) (from statements (i + 1))
one_more statements i statement within is =
    let dropped : drop i statements ≡ statement ∷ drop (i + 1) statements = rw (add-one, drop-cons statements i statement, ← is) refl in
    ap (λ (those : List Statement). block_from (steps_of those)) dropped

pub quiet_more : (statements : List Statement) (i : ℕ) (statement : Statement) (way : Way) (first now next : Quiet) (all : Block)
    → i < length statements → statement ≡ get_or statements i statement → IsQuiet (step_of statement) way now next
    → ((go : Go) → block_tree all (setting_in way) (local_with way first) go ≡ block_tree (from statements i) (setting_in way) (local_with way now) go)
    → (go : Go) → block_tree all (setting_in way) (local_with way first) go ≡ block_tree (from statements (i + 1)) (setting_in way) (local_with way next) go
quiet_more statements i statement way first now next all within is quiet before go =
    before go
    ∙ ap (λ (block : Block). block_tree block (setting_in way) (local_with way now) go) (one_more statements i statement within is)
    ∙ quiet (λ l. block_tree (from statements (i + 1)) (setting_in way) l go)

-- ---- again and again

still : (n : ℕ) (block : Block) (s : Setting) (l : Local) → ((go : Go) → block_tree block s l go ≡ go l) → (go : Go) → turns n (block_tree block s) l go ≡ go l
still zero block s l quiet go = refl
still (suc n) block s l quiet go = quiet (λ k. turns n (block_tree block s) k go) ∙ still n block s l quiet go

same_known : (way : Way) (once last : Quiet) → once.carried ≡ last.carried → once.reply ≡ last.reply → local_with way once ≡ local_with way last
same_known way once last carried reply = ap₂ (λ (c : List WriteId) (r : List ℕ). record (local_in way) { carried = c; reply = r }) carried reply

-- a block that leaves everything as it was in a second turn
pub repeated : (count : ℕ) (block : Block) (way : Way) (old once last : Quiet) → count ≢ 0 → IsQuietBlock block way old once → IsQuietBlock block way once last
    → once.carried ≡ last.carried → once.reply ≡ last.reply
    → (go : Go) → turns count (block_tree block (setting_in way)) (local_with way old) go ≡ go (local_with way last)
repeated zero block way old once last some first second carried reply go = absurd (some refl)
repeated (suc n) block way old once last some first second carried reply go =
    let same = same_known way once last carried reply in
    first (λ k. turns n (block_tree block (setting_in way)) k go)
    ∙ ap (λ (l : Local). turns n (block_tree block (setting_in way)) l go) same
    ∙ still n block (setting_in way) (local_with way last)
    (λ on. ap (λ (l : Local). block_tree block (setting_in way) l on) (sym same) ∙ second on) go
