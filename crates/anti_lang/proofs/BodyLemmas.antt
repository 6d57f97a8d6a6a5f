-- The lines of a body state it, and lines without a fault of their blocks are those of a body.
use Rattle.std.proofs.Common.{◌≡◌, ◌≢◌, ℕ, zero, suc, ◌+◌, ◌-◌, ◌*◌, ◌∙◌, sym, ap, refl, List, [], ◌∷◌, ◌++◌, append_assoc, length, get_or, replicate, arith, sub-one}
use Rattle.std.specs.Prelude.{Bool, true, false, not, ◌||◌, cond, Option, Some, None}
use Rattle.std.proofs.lemmas.List.{append-nil}
use Rattle.std.proofs.lemmas.Option.{none-some}
use Rattle.anti_lang.specs.Program.{Step, Block, Then, Repeat, IfAbsent, End}
use Rattle.anti_lang.specs.Lines.{Line, Does, OpenRepeat, OpenIf, Close}
use Rattle.anti_lang.specs.Blocks.{step_lines, lines_of, behind, wrap, ended, up}
use Rattle.anti_lang.specs.Faults.{first_wrong, runs, blocks_below, has_end, has_wrong_block, block_fault}

-- the statements of a block in front of the first of some blocks
abbrev in_front : Block → List Block → List Block
in_front End blocks = blocks
in_front (Then first rest) blocks = behind first (in_front rest blocks)

in_front_none : (block : Block) → in_front block [] ≡ []
in_front_none End = refl
in_front_none (Then first rest) = ap (behind first) (in_front_none rest)

in_front_end : (block : Block) (blocks : List Block) → in_front block (End ∷ blocks) ≡ block ∷ blocks
in_front_end End blocks = refl
in_front_end (Then first rest) blocks = ap (behind first) (in_front_end rest blocks)

-- a block that ends is wrapped by the line that opens it
wrap_ended : (make : Block → Step) (block : Block) (blocks : List Block) → wrap make (in_front block (ended blocks)) ≡ behind (make block) blocks
wrap_ended make block [] = ap (wrap make) (in_front_none block)
wrap_ended make block (outer ∷ blocks) = ap (wrap make) (in_front_end block (outer ∷ blocks))

mutual
  up_step : (statement : Step) (lines : List Line) → up (step_lines statement ++ lines) ≡ behind statement (up lines)
  up_step (Repeat count block) lines =
      ap (λ ls. wrap (Repeat count) (up ls)) (append_assoc (lines_of block) (Close ∷ []) lines)
      ∙ ap (wrap (Repeat count)) (up_block block (Close ∷ lines))
      ∙ wrap_ended (Repeat count) block (up lines)
  up_step (IfAbsent variable block) lines =
      ap (λ ls. wrap (IfAbsent variable) (up ls)) (append_assoc (lines_of block) (Close ∷ []) lines)
      ∙ ap (wrap (IfAbsent variable)) (up_block block (Close ∷ lines))
      ∙ wrap_ended (IfAbsent variable) block (up lines)
  up_step statement lines = refl

  up_block : (block : Block) (lines : List Line) → up (lines_of block ++ lines) ≡ in_front block (up lines)
  up_block End lines = refl
  up_block (Then first rest) lines =
      ap up (append_assoc (step_lines first) (lines_of rest) lines)
      ∙ up_step first (lines_of rest ++ lines)
      ∙ ap (behind first) (up_block rest lines)

-- The lines of a body state just that body.
pub body_again : (block : Block) → up (lines_of block) ≡ block ∷ []
body_again block = ap up (sym (append-nil (lines_of block))) ∙ up_block block [] ∙ in_front_end block []

-- whether a line is no statement with a block in it
abbrev pub IsLeaf : Line → Type 0
IsLeaf (Does statement) = step_lines statement ≡ Does statement ∷ []
IsLeaf line = Unit {0}

abbrev pub AreLeaves : List Line → Type 0
AreLeaves [] = Unit {0}
AreLeaves (line ∷ lines) = IsLeaf line × AreLeaves lines

-- the lines of some blocks, each ended but the last
abbrev flat : Block → List Block → List Line
flat block [] = lines_of block
flat block (outer ∷ blocks) = lines_of block ++ Close ∷ flat outer blocks

-- lines, where they are of these blocks
abbrev FlatIs : List Block → List Line → Type 0
FlatIs [] lines = Unit {0}
FlatIs (block ∷ blocks) lines = flat block blocks ≡ lines

flat_then : (statement : Step) (block : Block) (blocks : List Block) → flat (Then statement block) blocks ≡ step_lines statement ++ flat block blocks
flat_then statement block [] = refl
flat_then statement block (outer ∷ blocks) = append_assoc (step_lines statement) (lines_of block) (Close ∷ flat outer blocks)

flat_does : (statement : Step) (lines : List Line) → IsLeaf (Does statement) → (blocks : List Block) → FlatIs blocks lines → FlatIs (behind statement blocks) (Does statement ∷ lines)
flat_does statement lines leaf [] found = tt
flat_does statement lines leaf (block ∷ blocks) found =
    flat_then statement block blocks ∙ ap (λ ls. ls ++ flat block blocks) leaf ∙ ap (λ ls. Does statement ∷ ls) found

flat_wrap : (make : Block → Step) (line : Line) (lines : List Line) →
    ((block : Block) → step_lines (make block) ≡ line ∷ (lines_of block ++ Close ∷ [])) →
    (blocks : List Block) → FlatIs blocks lines → FlatIs (wrap make blocks) (line ∷ lines)
flat_wrap make line lines made [] found = tt
flat_wrap make line lines made (block ∷ []) found = tt
flat_wrap make line lines made (block ∷ outer ∷ blocks) found =
    flat_then (make block) outer blocks
    ∙ ap (λ ls. ls ++ flat outer blocks) (made block)
    ∙ ap (λ ls. line ∷ ls) (append_assoc (lines_of block) (Close ∷ []) (flat outer blocks) ∙ found)

flat_ended : (lines : List Line) (blocks : List Block) → FlatIs blocks lines → FlatIs (ended blocks) (Close ∷ lines)
flat_ended lines [] found = tt
flat_ended lines (block ∷ blocks) found = ap (λ ls. Close ∷ ls) found

flat_up : (lines : List Line) → AreLeaves lines → FlatIs (up lines) lines
flat_up [] leaves = refl
flat_up (Does statement ∷ lines) leaves = flat_does statement lines leaves.0 (up lines) (flat_up lines leaves.1)
flat_up (OpenRepeat count ∷ lines) leaves = flat_wrap (Repeat count) (OpenRepeat count) lines (λ block. refl) (up lines) (flat_up lines leaves.1)
flat_up (OpenIf variable ∷ lines) leaves = flat_wrap (IfAbsent variable) (OpenIf variable) lines (λ block. refl) (up lines) (flat_up lines leaves.1)
flat_up (Close ∷ lines) leaves = flat_ended lines (up lines) (flat_up lines leaves.1)

-- The body that lines state has these lines.
pub body_found : (lines : List Line) (block : Block) → AreLeaves lines → up lines ≡ block ∷ [] → lines_of block ≡ lines
body_found lines block leaves stated = let found : FlatIs (up lines) lines = flat_up lines leaves in rw stated at found

-- the first line is not wrong, nor one behind it
pub none_wrong : {K : Type 0} (wrong : K → Line → List Line → Bool) (below : K → Line → K) (known : K) (number : ℕ) (line : Line) (lines : List Line)
    → first_wrong wrong below known number (line ∷ lines) ≡ None
    → (wrong known line lines ≡ false) × (first_wrong wrong below (below known line) (number + 1) lines ≡ None)
none_wrong wrong below known number line lines none = first_case (wrong known line lines) number (first_wrong wrong below (below known line) (number + 1) lines) none
  where
    first_case : (test : Bool) (number : ℕ) (others : Option ℕ) → cond test (Some number) others ≡ None → (test ≡ false) × (others ≡ None)
    first_case true number others none = absurd (none-some number (sym none))
    first_case false number others none = (refl, none)

-- whether the `end` of a block stands in lines in which so many blocks are open in it
abbrev pub ends : ℕ → List Line → Bool
ends inner lines = has_end lines (replicate inner 0)

-- how often their lines run does not matter
pub ends_same : (lines : List Line) (some others : List ℕ) → length some ≡ length others → has_end lines some ≡ has_end lines others
ends_same [] some others long = refl
ends_same (Does statement ∷ lines) some others long = ends_same lines some others long
ends_same (OpenRepeat count ∷ lines) some others long = ends_same lines (count * runs some ∷ some) (count * runs others ∷ others) (ap suc long)
ends_same (OpenIf variable ∷ lines) some others long = ends_same lines (runs some ∷ some) (runs others ∷ others) (ap suc long)
ends_same (Close ∷ lines) [] [] long = refl
ends_same (Close ∷ lines) [] (y ∷ others) long = absurd (omega arith)
ends_same (Close ∷ lines) (x ∷ some) [] long = absurd (omega arith)
ends_same (Close ∷ lines) (x ∷ some) (y ∷ others) long = let e : length some ≡ length others = omega arith in ends_same lines some others e

pub ends_repeat : (inner count : ℕ) (lines : List Line) → ends inner (OpenRepeat count ∷ lines) ≡ ends (suc inner) lines
ends_repeat inner count lines = ends_same lines (count * runs (replicate inner 0) ∷ replicate inner 0) (0 ∷ replicate inner 0) refl

pub ends_if : (inner : ℕ) (variable : List ℕ) (lines : List Line) → ends inner (OpenIf variable ∷ lines) ≡ ends (suc inner) lines
ends_if inner variable lines = ends_same lines (runs (replicate inner 0) ∷ replicate inner 0) (0 ∷ replicate inner 0) refl

pub ends_close : (inner : ℕ) (lines : List Line) → inner ≢ 0 → ends (inner - 1) lines ≡ ends inner (Close ∷ lines)
ends_close zero lines some = absurd (some refl)
ends_close (suc inner) lines some = rw sub-one refl

-- whether lines have the `end` of each of so many blocks
abbrev closes : ℕ → List Line → Bool
closes zero lines = true
closes (suc inner) lines = ends inner lines

length_wrap : (make : Block → Step) (blocks : List Block) (count : ℕ) → length blocks ≡ suc (suc count) → length (wrap make blocks) ≡ suc count
length_wrap make [] count long = cc
length_wrap make (block ∷ []) count long = omega arith
length_wrap make (block ∷ outer ∷ blocks) count long = omega arith

length_behind : (statement : Step) (blocks : List Block) → length (behind statement blocks) ≡ length blocks
length_behind statement [] = refl
length_behind statement (block ∷ blocks) = refl

length_ended : (blocks : List Block) (count : ℕ) → length blocks ≡ suc count → length (ended blocks) ≡ suc (suc count)
length_ended [] count long = absurd (omega arith)
length_ended (block ∷ blocks) count long = omega arith

-- what is known of a line that opens a block and is not wrong
opened : (end deep more : Bool) → ((not end || deep) || more) ≡ false → end ≡ true
opened true deep more right = refl
opened false deep more right = cc

opened_alone : (end deep : Bool) → (not end || deep) ≡ false → end ≡ true
opened_alone true deep right = refl
opened_alone false deep right = cc

-- the blocks round a line and the one that it opens have their ends behind it
closes_more : (inner : ℕ) (line : Line) (lines : List Line) → ((n : ℕ) → ends n (line ∷ lines) ≡ ends (suc n) lines)
    → ends 0 lines ≡ true → closes inner (line ∷ lines) ≡ true → closes (suc inner) lines ≡ true
closes_more zero line lines opens own outer = own
closes_more (suc inner) line lines opens own outer = sym (opens inner) ∙ outer

closes_less : (inner : ℕ) (lines : List Line) → closes (suc inner) (Close ∷ lines) ≡ true → closes inner lines ≡ true
closes_less zero lines closed = refl
closes_less (suc inner) lines closed = closed

closes_same : (inner : ℕ) (statement : Step) (lines : List Line) → closes inner (Does statement ∷ lines) ≡ true → closes inner lines ≡ true
closes_same zero statement lines closed = refl
closes_same (suc inner) statement lines closed = closed

-- No block of some lines is wrong below a line, in whose block so many others are open.
abbrev pub NoneWrong : List ℕ → ℕ → List Line → Type 0
NoneWrong blocks number lines = first_wrong has_wrong_block blocks_below blocks number lines ≡ None

-- Such lines state one block more than are open round them.
blocks_left : (blocks : List ℕ) (number : ℕ) (lines : List Line) (inner : ℕ) → length blocks ≡ inner → closes inner lines ≡ true → NoneWrong blocks number lines
    → length (up lines) ≡ suc inner
blocks_left blocks number [] zero deep closed right = refl
blocks_left blocks number [] (suc inner) deep closed right = cc
blocks_left blocks number (Does statement ∷ lines) inner deep closed right =
    length_behind statement (up lines)
    ∙ blocks_left blocks (number + 1) lines inner deep (closes_same inner statement lines closed)
    (none_wrong has_wrong_block blocks_below blocks number (Does statement) lines right).1
blocks_left blocks number (OpenRepeat count ∷ lines) inner deep closed right =
    let first = none_wrong has_wrong_block blocks_below blocks number (OpenRepeat count) lines right in
    length_wrap (Repeat count) (up lines) inner
    (blocks_left (count * runs blocks ∷ blocks) (number + 1) lines (suc inner) (ap suc deep)
    (closes_more inner (OpenRepeat count) lines (λ n. ends_repeat n count lines) (opened (has_end lines []) _ _ first.0) closed)
    first.1)
blocks_left blocks number (OpenIf variable ∷ lines) inner deep closed right =
    let first = none_wrong has_wrong_block blocks_below blocks number (OpenIf variable) lines right in
    length_wrap (IfAbsent variable) (up lines) inner
    (blocks_left (runs blocks ∷ blocks) (number + 1) lines (suc inner) (ap suc deep)
    (closes_more inner (OpenIf variable) lines (λ n. ends_if n variable lines) (opened_alone (has_end lines []) _ first.0) closed)
    first.1)
blocks_left [] number (Close ∷ lines) inner deep closed right =
    let wrong : true ≡ false = (none_wrong has_wrong_block blocks_below [] number Close lines right).0 in cc
blocks_left (outer ∷ blocks) number (Close ∷ lines) zero deep closed right = absurd (omega arith)
blocks_left (outer ∷ blocks) number (Close ∷ lines) (suc inner) deep closed right =
    let fewer : length blocks ≡ inner = omega arith in
    length_ended (up lines) inner
    (blocks_left blocks (number + 1) lines inner fewer (closes_less inner lines closed)
    (none_wrong has_wrong_block blocks_below (outer ∷ blocks) number Close lines right).1)

one_of : (blocks : List Block) → length blocks ≡ 1 → blocks ≡ get_or blocks 0 End ∷ []
one_of [] long = absurd (omega arith)
one_of (block ∷ []) long = refl
one_of (block ∷ outer ∷ blocks) long = absurd (omega arith)

-- Lines of which no block is wrong state one body.
pub body_stated : (lines : List Line) → block_fault lines ≡ None → up lines ≡ get_or (up lines) 0 End ∷ []
unfolding block_fault
body_stated lines right = one_of (up lines) (blocks_left [] 1 lines 0 refl refl right)

-- The body that lines state has these lines, where no block is wrong.
pub body_of_lines : (lines : List Line) → AreLeaves lines → block_fault lines ≡ None →
    (block : Block) × (up lines ≡ block ∷ []) × (lines_of block ≡ lines)
body_of_lines lines leaves right =
    (get_or (up lines) 0 End, body_stated lines right, body_found lines (get_or (up lines) 0 End) leaves (body_stated lines right))
