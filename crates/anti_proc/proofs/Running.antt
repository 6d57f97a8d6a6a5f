-- What is left to run goes on as its parts do.
use Rattle.std.proofs.Common.{◌≡◌, ℕ, zero, suc, ◌+◌, ◌*◌, List, [], ◌∷◌, ◌++◌, refl, sym, ap, ◌∙◌, arith}
use Rattle.std.proofs.Math.Path.{fun_ext}
use Rattle.anti_lang.specs.Bodies.{block_from}
use Rattle.anti_lang.specs.Steps.{list_of}
use Rattle.anti_lang.specs.Program.{Step, Block, End, Then}
use Rattle.anti_lang.specs.Spans.{spans_of}
use Rattle.anti_proc.specs.Local.{Setting, Local}
use Rattle.anti_proc.specs.Meaning.{Go, block_tree, step_tree, turns}
use Rattle.anti_proc.specs.inner.Cursors.{again, block_weight, step_weight, weight}
use Rattle.anti_app.proofs.Blocks.{block_again}

-- what statements do, and then what follows them
abbrev pub run : List Step → Setting → Go → Go
run steps s go l = block_tree (block_from steps) s l go

-- some statements and then others
pub run_append : (xs ys : List Step) (s : Setting) (go : Go) (l : Local) → run (xs ++ ys) s go l ≡ run xs s (run ys s go) l
run_append [] ys s go l = refl
run_append (x ∷ xs) ys s go l = ap (λ (g : Go). step_tree x s l g) (fun_ext (λ (k : Local). run_append xs ys s go k))

pub run_block : (block : Block) (s : Setting) (go : Go) (l : Local) → run (list_of block) s go l ≡ block_tree block s l go
run_block block s go l = ap (λ (b : Block). block_tree b s l go) (block_again block)

-- a block so many times
pub run_again : (n : ℕ) (block : Block) (ys : List Step) (s : Setting) (go : Go) (l : Local)
    → run (again n (list_of block) ++ ys) s go l ≡ turns n (block_tree block s) l (run ys s go)
run_again zero block ys s go l = refl
run_again (suc n) block ys s go l =
    run_append (list_of block ++ again n (list_of block)) ys s go l
    ∙ run_append (list_of block) (again n (list_of block)) s (run ys s go) l
    ∙ run_block block s (run (again n (list_of block)) s (run ys s go)) l
    ∙ ap (λ (g : Go). block_tree block s l g)
    (fun_ext (λ (k : Local). sym (run_append (again n (list_of block)) ys s go k) ∙ run_again n block ys s go k))

-- ---- how much is run

pub weight_append : (xs ys : List Step) → weight (xs ++ ys) ≡ weight xs + weight ys
weight_append [] ys = omega arith
weight_append (x ∷ xs) ys = let rest = weight_append xs ys in omega arith

pub weight_block : (block : Block) → weight (list_of block) ≡ block_weight block
weight_block End = refl
weight_block (Then first rest) = ap (λ (n : ℕ). step_weight first + n) (weight_block rest)

pub weight_again : (n : ℕ) (block : Block) → weight (again n (list_of block)) ≡ n * block_weight block
weight_again zero block = omega arith
weight_again (suc n) block =
    weight_append (list_of block) (again n (list_of block)) ∙ grind (arith, weight_block block, weight_again n block)

-- ---- how many spans are begun

pub spans_append : (xs ys : List Step) → spans_of (block_from (xs ++ ys)) ≡ spans_of (block_from xs) + spans_of (block_from ys)
spans_append [] ys = omega arith
spans_append (x ∷ xs) ys = let rest = spans_append xs ys in omega arith

pub spans_block : (block : Block) → spans_of (block_from (list_of block)) ≡ spans_of block
spans_block block = ap spans_of (block_again block)

pub spans_again : (n : ℕ) (block : Block) → spans_of (block_from (again n (list_of block))) ≡ n * spans_of block
spans_again zero block = omega arith
spans_again (suc n) block =
    spans_append (list_of block) (again n (list_of block)) ∙ grind (arith, spans_block block, spans_again n block)
