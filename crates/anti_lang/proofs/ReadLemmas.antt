-- What lines are read as, from the first line on.
use Rattle.std.proofs.Common.{◌≡◌, ℕ, suc, ◌+◌, ◌<◌, ◌∙◌, sym, ap, refl, List, [], ◌∷◌, ◌++◌, append_assoc, map, length, get_or, drop, drop-cons, add-one}
use Rattle.std.specs.Prelude.{Some, option_map, Result, Ok, Err}
use Rattle.anti_ids.specs.List.{Listed, plain}
use Rattle.anti_ids.specs.ListCalls.{pushed}
use Rattle.anti_lang.specs.Words.{words}
use Rattle.anti_lang.specs.Lines.{Line, read_line}
use Rattle.anti_lang.specs.Parses.{line_of}
use Rattle.anti_lang.specs.Parsing.{read_or, lines_from}
use Rattle.anti_lang.specs.declared.line.Line as code
use Rattle.anti_lang.proofs.WordLemmas.{found_by}

-- what is read behind some lines
abbrev pub and_lines : List Line → Result (List Line) ℕ → Result (List Line) ℕ
and_lines front (Ok lines) = Ok (front ++ lines)
and_lines front (Err number) = Err number

-- lines are read up to this one, where what is found holds the lines of the code for those in front
pub record ReadTo (found : Listed code.Line) (texts rest : List (List ℕ)) (before : ℕ) (front : List Line) : Type 0 where
  pub holds : found ≡ plain (map line_of front)
  pub left : lines_from 0 texts ≡ and_lines front (lines_from before rest)

and_no_lines : (read : Result (List Line) ℕ) → read ≡ and_lines [] read
and_no_lines (Ok lines) = refl
and_no_lines (Err number) = refl

pub read_to_first : (found : Listed code.Line) (texts : List (List ℕ)) → found ≡ plain [] → ReadTo found texts texts 0 []
read_to_first found texts empty = record { holds = empty; left = and_no_lines (lines_from 0 texts) }

and_next : (number : ℕ) (front : List Line) (line : Line) (read : Result (List Line) ℕ) → and_lines front (read_or number (Some line) read) ≡ and_lines (front ++ line ∷ []) read
and_next number front line (Ok lines) = ap Ok (sym (append_assoc front (line ∷ []) lines))
and_next number front line (Err failed) = refl

map_next : (front : List Line) (line : Line) → map line_of (front ++ line ∷ []) ≡ map line_of front ++ line_of line ∷ []
map_next [] line = refl
map_next (first ∷ front) line = ap (λ ls. line_of first ∷ ls) (map_next front line)

-- the element at an index, and those behind it
pub here_first : {A : Type 0} (xs : List A) (i : ℕ) (x : A) → i < length xs → x ≡ get_or xs i x → drop i xs ≡ x ∷ drop (i + 1) xs
here_first xs i x within here = rw add-one (drop-cons xs i x within ∙ ap (λ y. y ∷ drop (suc i) xs) (sym here))

-- one more line is read
pub read_to_next : (found more : Listed code.Line) (texts : List (List ℕ)) (text : List ℕ) (rest : List (List ℕ)) (before : ℕ) (line : code.Line) →
    ((front : List Line) × ReadTo found texts (text ∷ rest) before front) →
    option_map line_of (read_line (words text)) ≡ Some line → more ≡ pushed found line →
    (front : List Line) × ReadTo more texts rest (before + 1) front
read_to_next found more texts text rest before line read states added =
    let this = found_by line_of (read_line (words text)) line states in
    let front : List Line = read.0 in (
      front ++ this.0 ∷ [],
      record {
        holds =
            added
            ∙ ap (λ l. pushed l line) read.1.holds
            ∙ ap (λ l. plain (map line_of front ++ l ∷ [])) (sym this.2)
            ∙ ap plain (sym (map_next front this.0));
        left =
            read.1.left
            ∙ ap (λ l. and_lines front (read_or (before + 1) l (lines_from (before + 1) rest))) this.1
            ∙ and_next (before + 1) front this.0 (lines_from (before + 1) rest);
      },
    )
