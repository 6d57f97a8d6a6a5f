-- Words that have no form, since there are too few or too many of them, and words that have one.
use Rattle.std.proofs.Common.{◌≡◌, ◌==◌, ℕ, ◌<◌, List, [], ◌∷◌, map, length, refl, sym, true, false, Option, Some, None, option_map, arith}
use Rattle.std.specs.Prelude.{codes}
use Rattle.std.specs.Bool.{then_some}
use Rattle.std.specs.Map.{lookup}
use Rattle.std.specs.Option.{option_and_then}
use Rattle.std.specs.Str.{bytes_eq}
use Rattle.std.proofs.lemmas.Bool.{true≢false}
use denote.Ref.{Bor}
use Rattle.anti_lang.specs.Parses.{line_of}
use Rattle.anti_lang.specs.Program.{Step}
use Rattle.anti_lang.specs.Lines.{are_as, rows_form, written, write_form, forms, read_line}
use Rattle.anti_lang.proofs.WordLemmas.{found}

pub short_write : (words : List (Bor (List ℕ))) → length words < 3 → None ≡ write_form (map (λ word. word.now) words)
short_write [] short = refl
short_write (a ∷ []) short = refl
short_write (a ∷ b ∷ []) short = refl
short_write (a ∷ b ∷ c ∷ words) short = absurd (omega arith)

-- fewer than four, and more
pub few_rows : {K : Type 0} (ask : List ℕ → K → List ℕ → Step) (read : List ℕ → Option K) (words : List (Bor (List ℕ))) → length words < 4
    → None ≡ option_map line_of (rows_form ask read (map (λ word. word.now) words))
few_rows ask read [] few = refl
few_rows ask read (a ∷ []) few = refl
few_rows ask read (a ∷ b ∷ []) few = refl
few_rows ask read (a ∷ b ∷ c ∷ []) few = refl
few_rows ask read (a ∷ b ∷ c ∷ d ∷ words) few = absurd (omega arith)

pub many_rows : {K : Type 0} (ask : List ℕ → K → List ℕ → Step) (read : List ℕ → Option K) (words : List (Bor (List ℕ))) → 4 < length words
    → None ≡ option_map line_of (rows_form ask read (map (λ word. word.now) words))
many_rows ask read [] many = absurd (omega arith)
many_rows ask read (a ∷ []) many = absurd (omega arith)
many_rows ask read (a ∷ b ∷ []) many = absurd (omega arith)
many_rows ask read (a ∷ b ∷ c ∷ []) many = absurd (omega arith)
many_rows ask read (a ∷ b ∷ c ∷ d ∷ []) many = absurd (omega arith)
many_rows ask read (a ∷ b ∷ c ∷ d ∷ e ∷ words) many = refl

-- one word behind the value, or more than three
pub one_behind : (store key value : List ℕ) (words : List (Bor (List ℕ))) → 0 < length words → length words < 2
    → write_form (store ∷ key ∷ value ∷ map (λ word. word.now) words) ≡ None
one_behind store key value [] some few = absurd (omega arith)
one_behind store key value (a ∷ []) some few = refl
one_behind store key value (a ∷ b ∷ words) some few = absurd (omega arith)

pub many_behind : (store key value : List ℕ) (words : List (Bor (List ℕ))) → 3 < length words
    → write_form (store ∷ key ∷ value ∷ map (λ word. word.now) words) ≡ None
many_behind store key value [] many = absurd (omega arith)
many_behind store key value (a ∷ []) many = absurd (omega arith)
many_behind store key value (a ∷ b ∷ []) many = absurd (omega arith)
many_behind store key value (a ∷ b ∷ c ∷ []) many = absurd (omega arith)
many_behind store key value (a ∷ b ∷ c ∷ d ∷ words) many = refl

pub untracked_behind : (store key value joint variable last name : List ℕ) → Some name ≡ then_some (are_as joint variable) variable
    → bytes_eq last (codes "untracked") ≡ true → write_form (store ∷ key ∷ value ∷ joint ∷ variable ∷ last ∷ []) ≡ written store key value (Some name) true
untracked_behind store key value joint variable last name named end =
    let here = found (are_as joint variable) variable name (sym named) in
    rw (here.0, end, here.1) refl

-- A line of more than one word has a form.
pub read_behind : (first : List ℕ) (words : List (Bor (List ℕ))) → (length words == 0) ≡ false
    → read_line (first ∷ map (λ word. word.now) words) ≡ option_and_then (λ form. form (map (λ word. word.now) words)) (lookup (bytes_eq first) forms)
unfolding read_line
read_behind first [] some = absurd (true≢false some)
read_behind first (word ∷ words) some = refl
