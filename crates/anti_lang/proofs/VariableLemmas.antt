-- What is known of variables below some lines, from the last line on.
use Rattle.std.proofs.Common.{◌≡◌, ◌≢◌, ℕ, zero, suc, ◌+◌, ◌-◌, ◌<◌, ◌∙◌, sym, ap, refl, List, [], ◌∷◌, ◌++◌, length, get_or, take, drop, arith, sub-one, add-one}
use Rattle.std.specs.Prelude.{Bool, true, false, cond, find, Option, Some, None, option_map}
use Rattle.std.specs.List.{cons_option}
use Rattle.std.specs.Str.{bytes_eq}
use Rattle.std.proofs.lemmas.Grind.{common_steps, fold-append}
use Rattle.std.proofs.lemmas.Option.{none-some}
use Rattle.anti_lang.specs.Program.{Step, Root, Stop}
use Rattle.anti_lang.specs.Lines.{Line, Does, OpenRepeat, OpenIf, Close}
use Rattle.anti_lang.specs.Stated.{stated, all_stated}
use Rattle.anti_lang.specs.Faults.{near, set_by, reach_below, known_below, held_in}
use Rattle.anti_lang.specs.inner.Known.{reach_after, all_after, known_after, begins_span}
use Rattle.anti_lang.specs.declared.line.Line as code
use Rattle.anti_lang.specs.declared.variable.Holds.{Holds}
use Rattle.anti_lang.specs.declared.variable.Variable.{Variable}

-- ---- the last of some lines

-- a line is the last of some
abbrev pub IsLast : code.Line → List code.Line → Type 0
IsLast line lines = (0 < length lines) × (line ≡ get_or lines (length lines - 1) line)

-- those in front of it
abbrev pub front : List code.Line → List code.Line
front lines = take (length lines - 1) lines

last_line : (lines : List code.Line) (line : code.Line) → IsLast line lines → all_stated lines ≡ all_stated (front lines) ++ stated line ∷ []
last_line lines line last = let some = last.0 in let here = last.1 in grind (arith, common_steps)

reach_last : (lines : List code.Line) (line : code.Line) → IsLast line lines → reach_after (all_stated lines) ≡ reach_below (reach_after (all_stated (front lines))) (stated line)
reach_last lines line last = ap reach_after (last_line lines line last) ∙ fold-append reach_below [] (all_stated (front lines)) (stated line ∷ [])

-- a variable, or none, and what others hold
held_first : (o : Option Variable) (others : List Variable) (name : List ℕ) (kind : Holds) → held_in (cons_option o []) name ≡ Some kind → held_in (cons_option o others) name ≡ Some kind
held_first None others name kind is = absurd (none-some kind is)
held_first (Some v) others name kind is = by_test (bytes_eq name v.name) is
  where
    by_test : (same : Bool) → option_map (λ (v : Variable). v.kind) (cond same (Some v) None) ≡ Some kind → option_map (λ (v : Variable). v.kind) (cond same (Some v) (find (λ v. bytes_eq name v.name) others)) ≡ Some kind
    by_test true is = is
    by_test false is = absurd (none-some kind is)

held_behind : (o : Option Variable) (others : List Variable) (name : List ℕ) → held_in (cons_option o []) name ≡ None → held_in (cons_option o others) name ≡ held_in others name
held_behind None others name none = refl
held_behind (Some v) others name none = by_test (bytes_eq name v.name) none
  where
    by_test : (same : Bool) → option_map (λ (v : Variable). v.kind) (cond same (Some v) None) ≡ None → option_map (λ (v : Variable). v.kind) (cond same (Some v) (find (λ v. bytes_eq name v.name) others)) ≡ held_in others name
    by_test true none = absurd (none-some v.kind (sym none))
    by_test false none = refl

-- ---- all that are set

all_last : (lines : List code.Line) (line : code.Line) → IsLast line lines → all_after (all_stated lines) ≡ cons_option (set_by (stated line)) (all_after (all_stated (front lines)))
all_last lines line last =
    ap all_after (last_line lines line last) ∙ fold-append (λ all line. cons_option (set_by line) all) [] (all_stated (front lines)) (stated line ∷ [])

pub set_last : (lines : List code.Line) (line : code.Line) (name : List ℕ) (kind : Holds) → IsLast line lines → Some kind ≡ held_in (cons_option (set_by (stated line)) []) name
    → Some kind ≡ held_in (all_after (all_stated lines)) name
set_last lines line name kind last is =
    sym (ap (λ vs. held_in vs name) (all_last lines line last) ∙ held_first (set_by (stated line)) (all_after (all_stated (front lines))) name kind (sym is))

pub not_set_last : (lines : List code.Line) (line : code.Line) (name : List ℕ) → IsLast line lines → None ≡ held_in (cons_option (set_by (stated line)) []) name
    → held_in (all_after (all_stated (front lines))) name ≡ held_in (all_after (all_stated lines)) name
not_set_last lines line name last none =
    sym (ap (λ vs. held_in vs name) (all_last lines line last) ∙ held_behind (set_by (stated line)) (all_after (all_stated (front lines))) name (sym none))

-- ---- what may be used

-- what a variable holds that may be used behind so many of the blocks that are open below some lines
abbrev pub held_above : ℕ → List Line → List ℕ → Option Holds
held_above ended lines name = held_in (get_or (reach_after lines) ended []) name

-- One line is passed, and so many blocks have ended above it.
passed : (lines : List code.Line) (line : code.Line) (ended less : ℕ) (name : List ℕ) (all : Option Holds) → IsLast line lines
    → ((reach : List (List Variable)) → held_in (get_or reach less []) name ≡ held_in (get_or (reach_below reach (stated line)) ended []) name)
    → held_above ended (all_stated lines) name ≡ all → held_above less (all_stated (front lines)) name ≡ all
passed lines line ended less name all last step left =
    step (reach_after (all_stated (front lines))) ∙ ap (λ reach. held_in (get_or reach ended []) name) (sym (reach_last lines line last)) ∙ left

opened : (ended : ℕ) (reach : List (List Variable)) → get_or reach (ended - 1) [] ≡ get_or (near reach ∷ reach) ended []
opened zero reach = refl
opened (suc ended) reach = rw sub-one refl

pub passed_repeat : (lines : List code.Line) (line : code.Line) (count ended : ℕ) (name : List ℕ) (all : Option Holds) → IsLast line lines → stated line ≡ OpenRepeat count
    → held_above ended (all_stated lines) name ≡ all → held_above (ended - 1) (all_stated (front lines)) name ≡ all
passed_repeat lines line count ended name all last is =
    passed lines line ended (ended - 1) name all last (λ reach. ap (λ vs. held_in vs name) (rw is (opened ended reach)))

pub passed_if : (lines : List code.Line) (line : code.Line) (variable : List ℕ) (ended : ℕ) (name : List ℕ) (all : Option Holds) → IsLast line lines → stated line ≡ OpenIf variable
    → held_above ended (all_stated lines) name ≡ all → held_above (ended - 1) (all_stated (front lines)) name ≡ all
passed_if lines line variable ended name all last is =
    passed lines line ended (ended - 1) name all last (λ reach. ap (λ vs. held_in vs name) (rw is (opened ended reach)))

behind_one : (reach : List (List Variable)) (ended : ℕ) → get_or reach (suc ended) [] ≡ get_or (drop 1 reach) ended []
behind_one [] ended = refl
behind_one (vs ∷ reach) ended = refl

pub passed_end : (lines : List code.Line) (line : code.Line) (ended : ℕ) (name : List ℕ) (all : Option Holds) → IsLast line lines → stated line ≡ Close
    → held_above ended (all_stated lines) name ≡ all → held_above (ended + 1) (all_stated (front lines)) name ≡ all
passed_end lines line ended name all last is =
    passed lines line ended (ended + 1) name all last (λ reach. ap (λ vs. held_in vs name) (rw (is, add-one) (behind_one reach ended)))

-- a statement in a block that has ended
inside : (statement : Step) (reach : List (List Variable)) (ended : ℕ) → get_or reach (suc ended) [] ≡ get_or (reach_below reach (Does statement)) (suc ended) []
inside statement reach ended = behind_one reach ended ∙ same statement
  where
    same : (statement : Step) → get_or (drop 1 reach) ended [] ≡ get_or (reach_below reach (Does statement)) (suc ended) []
    same Root = refl
    same Stop = refl
    same statement = refl

pub passed_inside : (lines : List code.Line) (line : code.Line) (statement : Step) (ended : ℕ) (name : List ℕ) (all : Option Holds) → IsLast line lines → stated line ≡ Does statement
    → ended ≢ 0 → held_above ended (all_stated lines) name ≡ all → held_above ended (all_stated (front lines)) name ≡ all
passed_inside lines line statement zero name all last is some = absurd (some refl)
passed_inside lines line statement (suc ended) name all last is some =
    passed lines line (suc ended) (suc ended) name all last (λ reach. ap (λ vs. held_in vs name) (rw is (inside statement reach ended)))

-- a statement that begins no span
same_span : (statement : Step) (reach : List (List Variable)) → begins_span (Does statement) ≡ false → near (reach_below reach (Does statement)) ≡ cons_option (set_by (Does statement)) (near reach)
same_span Root reach none = absurd (let e : true ≡ false = none in cc)
same_span Stop reach none = absurd (let e : true ≡ false = none in cc)
same_span statement reach none = refl

new_span : (statement : Step) (reach : List (List Variable)) → begins_span (Does statement) ≡ true → near (reach_below reach (Does statement)) ≡ []
new_span Root reach is = refl
new_span Stop reach is = refl
new_span statement reach is = absurd (let e : false ≡ true = is in cc)

pub spanned : (lines : List code.Line) (line : code.Line) (statement : Step) (name : List ℕ) (all : Option Holds) → IsLast line lines → stated line ≡ Does statement
    → begins_span (stated line) ≡ true → held_above 0 (all_stated lines) name ≡ all → None ≡ all
spanned lines line statement name all last is begins left =
    sym (ap (λ vs. held_in vs name) (ap near (reach_last lines line last ∙ ap (reach_below (reach_after (all_stated (front lines)))) is)
    ∙ new_span statement (reach_after (all_stated (front lines))) (rw is at begins)))
    ∙ left

near_last : (lines : List code.Line) (line : code.Line) (statement : Step) → IsLast line lines → stated line ≡ Does statement → begins_span (stated line) ≡ false
    → near (reach_after (all_stated lines)) ≡ cons_option (set_by (stated line)) (near (reach_after (all_stated (front lines))))
near_last lines line statement last is same =
    ap near (reach_last lines line last ∙ ap (reach_below (reach_after (all_stated (front lines)))) is)
    ∙ same_span statement (reach_after (all_stated (front lines))) (rw is at same)
    ∙ ap (λ l. cons_option (set_by l) (near (reach_after (all_stated (front lines))))) (sym is)

pub found_here : (lines : List code.Line) (line : code.Line) (statement : Step) (name : List ℕ) (kind : Holds) (all : Option Holds) → IsLast line lines → stated line ≡ Does statement
    → begins_span (stated line) ≡ false → Some kind ≡ held_in (cons_option (set_by (stated line)) []) name → held_above 0 (all_stated lines) name ≡ all → Some kind ≡ all
found_here lines line statement name kind all last is same holds left =
    sym (ap (λ vs. held_in vs name) (near_last lines line statement last is same)
    ∙ held_first (set_by (stated line)) (near (reach_after (all_stated (front lines)))) name kind (sym holds))
    ∙ left

pub passed_other : (lines : List code.Line) (line : code.Line) (statement : Step) (name : List ℕ) (all : Option Holds) → IsLast line lines → stated line ≡ Does statement
    → begins_span (stated line) ≡ false → None ≡ held_in (cons_option (set_by (stated line)) []) name → held_above 0 (all_stated lines) name ≡ all
    → held_above 0 (all_stated (front lines)) name ≡ all
passed_other lines line statement name all last is same none left =
    sym (ap (λ vs. held_in vs name) (near_last lines line statement last is same)
    ∙ held_behind (set_by (stated line)) (near (reach_after (all_stated (front lines)))) name (sym none))
    ∙ left

-- No line is left.
pub none_left : (lines : List code.Line) (ended : ℕ) (name : List ℕ) (all : Option Holds) → length lines < 1 → held_above ended (all_stated lines) name ≡ all → None ≡ all
none_left [] ended name all short left = left
none_left (line ∷ lines) ended name all short left = absurd (omega arith)

-- ---- one line more

pub known_more : (lines : List code.Line) (i : ℕ) (line : code.Line) → i < length lines → line ≡ get_or lines i line
    → known_after (all_stated (take (i + 1) lines)) ≡ known_below (known_after (all_stated (take i lines))) (stated line)
known_more lines i line within here =
    let more : all_stated (take (i + 1) lines) ≡ all_stated (take i lines) ++ stated line ∷ [] = grind (arith, common_steps) in
    let reach = ap reach_after more ∙ fold-append reach_below [] (all_stated (take i lines)) (stated line ∷ []) in
    let all = ap all_after more ∙ fold-append (λ all line. cons_option (set_by line) all) [] (all_stated (take i lines)) (stated line ∷ []) in
    λ k. record { reach = reach k; all = all k }
