-- The ways through a body without one of its barriers are those through the body, where each skips that barrier.
use Rattle.std.proofs.Common.{◌≡◌, ℕ, zero, suc, ◌+◌, ◌≤◌, ◌<◌, ◌==◌, Bool, true, false, cond, inl, inr, List, [], ◌∷◌, ◌++◌, append-nil, map, length, length-append, refl, sym, ap, ap₂, ◌∙◌, subst, eqb-true, arith}
use Rattle.std.proofs.lemmas.Bool.Decides.{nat_tests}
use Rattle.std.proofs.lemmas.List.{map-append}
use Rattle.anti_lang.specs.Blocks.{step_lines, lines_of}
use Rattle.anti_lang.specs.Lines.{Line, Close}
use Rattle.anti_lang.specs.Program.{Step, Block, End, Then, Barrier, Nack, Repeat, IfAbsent}
use Rattle.anti_place.specs.Paths.{Spot, Path, in_turn, turned, height, step_paths, block_paths, paths}
use Rattle.anti_place.specs.Reviews.{is_barrier, is_barrier_line, barriers_from}
use Rattle.anti_place.specs.Without.{step_without, block_without, moved_up}
use Rattle.anti_place.proofs.Members.{In}
use Rattle.anti_place.proofs.Ways.{OnWays, ways_turns, ways_turned}

barrier_is : (statement : Step) → is_barrier statement ≡ true → statement ≡ Barrier
barrier_is Barrier is = refl
barrier_is statement is = absurd (cc)

-- a line that is another moves up as those behind it
up_next : (line n : ℕ) → (n == line) ≡ false → moved_up line n + 1 ≡ moved_up line (n + 1)
up_next line n other = grind (arith, nat_tests)

up_here : (line n : ℕ) → n ≡ line → moved_up line (n + 1) ≡ moved_up line n
up_here line n same = grind (arith, nat_tests)

pub other_line : (line n : ℕ) → (n ≡ line → ⊥) → (n == line) ≡ false
other_line line n other = go (n == line) refl
  where
    go : (test : Bool) → (n == line) ≡ test → test ≡ false
    go true e = absurd (other (eqb-true n line e))
    go false e = refl

module _ (line : ℕ) where
  -- each of some lines with this number is a barrier
  abbrev pub Fits : ℕ → List Line → Type 0
  Fits n [] = Unit {0}
  Fits n (x ∷ xs) = (n ≡ line → is_barrier_line x ≡ true) × Fits (n + 1) xs

  fits_parts : (n : ℕ) (xs ys : List Line) → Fits n (xs ++ ys) → Fits n xs × Fits (n + length xs) ys
  fits_parts n [] ys fits = (tt, let same : n ≡ n + 0 = omega arith in subst (λ (m : ℕ). Fits m ys) same fits)
  fits_parts n (x ∷ xs) ys fits =
      let parts = fits_parts (n + 1) xs ys fits.1 in
      let same : n + 1 + length xs ≡ n + suc (length xs) = omega arith in
      ((fits.0, parts.0), subst (λ (m : ℕ). Fits m ys) same parts.1)

  fits_behind : (n : ℕ) (xs : List Line) → line < n → Fits n xs
  fits_behind n [] behind = tt
  fits_behind n (x ∷ xs) behind = ((λ same. absurd (let none : ⊥ = omega (arith, same, behind) in none)), fits_behind (n + 1) xs (omega (arith, behind)))

  -- barriers stand at their lines
  pub barrier_within : (n : ℕ) (xs : List Line) → In line (barriers_from n xs) → (n ≤ line) × (line < n + length xs)
  barrier_within n [] is = absurd is
  barrier_within n (x ∷ xs) is = go (barrier_within (n + 1) xs) (is_barrier_line x) is
    where
      go : (In line (barriers_from (n + 1) xs) → (n + 1 ≤ line) × (line < n + 1 + length xs)) → (here : Bool)
          → In line (cond here (n ∷ []) [] ++ barriers_from (n + 1) xs) → (n ≤ line) × (line < n + suc (length xs))
      go rest true (inl same) = (omega (arith, same), omega (arith, same))
      go rest true (inr there) = let both = rest there in (omega (arith, both.0), omega (arith, both.1))
      go rest false there = let both = rest there in (omega (arith, both.0), omega (arith, both.1))

  pub barrier_fits : (n : ℕ) (xs : List Line) → In line (barriers_from n xs) → Fits n xs
  barrier_fits n [] is = tt
  barrier_fits n (x ∷ xs) is = go (barrier_fits (n + 1) xs) (is_barrier_line x) refl is
    where
      go : (In line (barriers_from (n + 1) xs) → Fits (n + 1) xs) → (here : Bool) → is_barrier_line x ≡ here
          → In line (cond here (n ∷ []) [] ++ barriers_from (n + 1) xs) → Fits n (x ∷ xs)
      go rest true e (inl same) = ((λ at. e), fits_behind (n + 1) xs (omega (arith, same)))
      go rest true e (inr there) = ((λ at. e), rest there)
      go rest false e there =
          let after : n + 1 ≤ line = (barrier_within (n + 1) xs there).0 in
          ((λ at. absurd (let none : ⊥ = omega (arith, at, after) in none)), rest there)

  not_here : (n : ℕ) → (n ≡ line → false ≡ true) → (n == line) ≡ false
  not_here n fits = other_line line n (λ same. absurd (let clash : false ≡ true = fits same in cc))

  -- ---- how many lines there are

  block_end : (n count : ℕ) → (n + 1 + count ≡ line → false ≡ true) → moved_up line (n + 1 + count) + 1 ≡ moved_up line (n + suc (count + 1))
  block_end n count fits =
      let same : n + 1 + count + 1 ≡ n + suc (count + 1) = omega arith in
      up_next line (n + 1 + count) (not_here (n + 1 + count) fits) ∙ ap (moved_up line) same

  in_block : (n : ℕ) (block : Block) (count : ℕ) → (n ≡ line → false ≡ true) → Fits (n + 1) (lines_of block ++ Close ∷ [])
      → moved_up line (n + 1) + count ≡ moved_up line (n + 1 + length (lines_of block))
      → moved_up line n + suc (count + 1) ≡ moved_up line (n + suc (length (lines_of block) + 1))
  in_block n block count here fits inside =
      let next = up_next line n (not_here n here) in
      let parts = fits_parts (n + 1) (lines_of block) (Close ∷ []) fits in
      let last = block_end n (length (lines_of block)) parts.1.0 in
      omega (arith, next, last, inside)

  barrier_height : (n : ℕ) (rest : Block)
      → moved_up line (n + 1) + length (lines_of (block_without line (n + 1) rest)) ≡ moved_up line (n + 1 + length (lines_of rest))
      → moved_up line n + length (lines_of (block_without line n (Then Barrier rest))) ≡ moved_up line (n + suc (length (lines_of rest)))
  barrier_height n rest further = go (n == line) refl
    where
      others : Block
      others = block_without line (n + 1) rest

      same : moved_up line (n + 1 + length (lines_of rest)) ≡ moved_up line (n + suc (length (lines_of rest)))
      same = let one : n + 1 + length (lines_of rest) ≡ n + suc (length (lines_of rest)) = omega arith in ap (moved_up line) one

      go : (test : Bool) → (n == line) ≡ test
          → moved_up line n + length (lines_of (cond test others (Then Barrier others))) ≡ moved_up line (n + suc (length (lines_of rest)))
      go true e = let here = up_here line n (eqb-true n line e) in omega (arith, here, further, same)
      go false e = let next = up_next line n e in omega (arith, next, further, same)

  steps_height : (n : ℕ) (first : Step) (rest : Block)
      → moved_up line n + height (step_without line n first) ≡ moved_up line (n + height first)
      → moved_up line (n + height first) + length (lines_of (block_without line (n + height first) rest)) ≡ moved_up line (n + height first + length (lines_of rest))
      → moved_up line n + length (step_lines (step_without line n first) ++ lines_of (block_without line (n + height first) rest))
      ≡ moved_up line (n + length (step_lines first ++ lines_of rest))
  steps_height n first rest here further =
      let short = length-append (step_lines (step_without line n first)) (lines_of (block_without line (n + height first) rest)) in
      let long : n + height first + length (lines_of rest) ≡ n + length (step_lines first ++ lines_of rest) =
      (let parts = length-append (step_lines first) (lines_of rest) in omega (arith, parts)) in
      let whole = ap (moved_up line) long in
      omega (arith, short, here, further, whole)

  mutual
    step_height : (n : ℕ) (statement : Step) → is_barrier statement ≡ false → Fits n (step_lines statement)
        → moved_up line n + height (step_without line n statement) ≡ moved_up line (n + height statement)
    step_height n (Repeat count block) other fits =
        let long = length-append (lines_of block) (Close ∷ []) in
        let short = length-append (lines_of (block_without line (n + 1) block)) (Close ∷ []) in
        let parts = fits_parts (n + 1) (lines_of block) (Close ∷ []) fits.1 in
        ap (λ (m : ℕ). moved_up line n + suc m) short
        ∙ in_block n block (length (lines_of (block_without line (n + 1) block))) fits.0 fits.1 (block_height (n + 1) block parts.0)
        ∙ sym (ap (λ (m : ℕ). moved_up line (n + suc m)) long)
    step_height n (IfAbsent x block) other fits =
        let long = length-append (lines_of block) (Close ∷ []) in
        let short = length-append (lines_of (block_without line (n + 1) block)) (Close ∷ []) in
        let parts = fits_parts (n + 1) (lines_of block) (Close ∷ []) fits.1 in
        ap (λ (m : ℕ). moved_up line n + suc m) short
        ∙ in_block n block (length (lines_of (block_without line (n + 1) block))) fits.0 fits.1 (block_height (n + 1) block parts.0)
        ∙ sym (ap (λ (m : ℕ). moved_up line (n + suc m)) long)
    step_height n Barrier other fits = absurd (cc)
    step_height n statement other fits = up_next line n (not_here n fits.0)

    pub block_height : (n : ℕ) (block : Block) → Fits n (lines_of block)
        → moved_up line n + length (lines_of (block_without line n block)) ≡ moved_up line (n + length (lines_of block))
    block_height n End fits = let one : moved_up line n + 0 ≡ moved_up line n = omega arith in let two : n ≡ n + 0 = omega arith in one ∙ ap (moved_up line) two
    block_height n (Then Barrier rest) fits = barrier_height n rest (block_height (n + 1) rest fits.1)
    block_height n (Then first rest) fits =
        let parts = fits_parts n (step_lines first) (lines_of rest) fits in
        steps_height n first rest (step_height n first refl parts.0) (block_height (n + height first) rest parts.1)

  -- ---- ways

  abbrev pub skip : Path → Path
  skip [] = []
  skip (spot ∷ path) = cond (spot.line == line) (skip path) (record { line = moved_up line spot.line; statement = spot.statement } ∷ skip path)

  skip_append : (p q : Path) → skip (p ++ q) ≡ skip p ++ skip q
  skip_append [] q = refl
  skip_append (spot ∷ p) q = go (spot.line == line) (skip_append p q)
    where
      here : Spot
      here = record { line = moved_up line spot.line; statement = spot.statement }

      go : (test : Bool) → skip (p ++ q) ≡ skip p ++ skip q → cond test (skip (p ++ q)) (here ∷ skip (p ++ q)) ≡ cond test (skip p) (here ∷ skip p) ++ skip q
      go true same = same
      go false same = ap (λ (path : Path). here ∷ path) same

  skip_behind : (p : Path) (qs : List Path) → map (λ further. skip p ++ further) (map skip qs) ≡ map skip (map (λ further. p ++ further) qs)
  skip_behind p [] = refl
  skip_behind p (q ∷ qs) = ap₂ (λ (path : Path) (paths : List Path). path ∷ paths) (sym (skip_append p q)) (skip_behind p qs)

  skip_turns : (ps qs : List Path) → in_turn (map skip ps) (map skip qs) ≡ map skip (in_turn ps qs)
  skip_turns [] qs = refl
  skip_turns (p ∷ ps) qs =
      ap₂ (λ (these those : List Path). these ++ those) (skip_behind p qs) (skip_turns ps qs)
      ∙ sym (map-append skip (map (λ further. p ++ further) qs) (in_turn ps qs))

  skip_turned : (count : ℕ) (ps : List Path) → turned count (map skip ps) ≡ map skip (turned count ps)
  skip_turned zero ps = refl
  skip_turned (suc n) ps = ap (λ (those : List Path). map skip ps ++ those) (skip_turns ps ps) ∙ sym (map-append skip ps (in_turn ps ps))

  -- a way with nothing before it
  nothing_before : (qs : List Path) → in_turn ([] ∷ []) qs ≡ qs
  nothing_before qs = append-nil (map (λ further. [] ++ further) qs) ∙ same qs
    where
      same : (qs : List Path) → map (λ further. [] ++ further) qs ≡ qs
      same [] = refl
      same (q ∷ qs) = ap (λ (paths : List Path). q ∷ paths) (same qs)

  abbrev alone : ℕ → Step → List Path
  alone n statement = (record { line = n; statement = statement } ∷ []) ∷ []

  alone_skipped : (n : ℕ) (statement : Step) → (n == line) ≡ false → alone (moved_up line n) statement ≡ map skip (alone n statement)
  alone_skipped n statement e =
      sym (ap (λ (test : Bool). cond test [] (record { line = moved_up line n; statement = statement } ∷ []) ∷ []) e)

  barrier_skipped : (n : ℕ) (rest : Block)
      → block_paths (moved_up line (n + 1)) (block_without line (n + 1) rest) ≡ map skip (block_paths (n + 1) rest)
      → block_paths (moved_up line n) (block_without line n (Then Barrier rest)) ≡ map skip (in_turn (alone n Barrier) (block_paths (n + 1) rest))
  barrier_skipped n rest further = go (n == line) refl
    where
      others : Block
      others = block_without line (n + 1) rest

      go : (test : Bool) → (n == line) ≡ test
          → block_paths (moved_up line n) (cond test others (Then Barrier others)) ≡ map skip (in_turn (alone n Barrier) (block_paths (n + 1) rest))
      go true e =
          ap (λ (m : ℕ). block_paths m others) (sym (up_here line n (eqb-true n line e))) ∙ further
          ∙ sym (nothing_before (map skip (block_paths (n + 1) rest)))
          ∙ sym (ap (λ (test : Bool). in_turn (cond test [] (record { line = moved_up line n; statement = Barrier } ∷ []) ∷ []) (map skip (block_paths (n + 1) rest))) e)
          ∙ skip_turns (alone n Barrier) (block_paths (n + 1) rest)
      go false e =
          ap₂ in_turn (alone_skipped n Barrier e) (ap (λ (m : ℕ). block_paths m others) (up_next line n e) ∙ further)
          ∙ skip_turns (alone n Barrier) (block_paths (n + 1) rest)

  steps_skipped : (n : ℕ) (first : Step) (rest : Block)
      → moved_up line n + height (step_without line n first) ≡ moved_up line (n + height first)
      → step_paths (moved_up line n) (step_without line n first) ≡ map skip (step_paths n first)
      → block_paths (moved_up line (n + height first)) (block_without line (n + height first) rest) ≡ map skip (block_paths (n + height first) rest)
      → in_turn (step_paths (moved_up line n) (step_without line n first))
      (block_paths (moved_up line n + height (step_without line n first)) (block_without line (n + height first) rest))
      ≡ map skip (in_turn (step_paths n first) (block_paths (n + height first) rest))
  steps_skipped n first rest counted here further =
      ap₂ in_turn here (ap (λ (m : ℕ). block_paths m (block_without line (n + height first) rest)) counted ∙ further)
      ∙ skip_turns (step_paths n first) (block_paths (n + height first) rest)

  mutual
    step_skipped : (n : ℕ) (statement : Step) → is_barrier statement ≡ false → Fits n (step_lines statement)
        → step_paths (moved_up line n) (step_without line n statement) ≡ map skip (step_paths n statement)
    step_skipped n (Repeat count block) other fits =
        let parts = fits_parts (n + 1) (lines_of block) (Close ∷ []) fits.1 in
        ap (λ (m : ℕ). turned count (block_paths m (block_without line (n + 1) block))) (up_next line n (not_here n fits.0))
        ∙ ap (turned count) (block_skipped (n + 1) block parts.0) ∙ skip_turned count (block_paths (n + 1) block)
    step_skipped n (IfAbsent x block) other fits =
        let parts = fits_parts (n + 1) (lines_of block) (Close ∷ []) fits.1 in
        ap (λ (m : ℕ). [] ∷ block_paths m (block_without line (n + 1) block)) (up_next line n (not_here n fits.0))
        ∙ ap (λ (those : List Path). [] ∷ those) (block_skipped (n + 1) block parts.0)
    step_skipped n Barrier other fits = absurd (cc)
    step_skipped n statement other fits = alone_skipped n statement (not_here n fits.0)

    pub block_skipped : (n : ℕ) (block : Block) → Fits n (lines_of block)
        → block_paths (moved_up line n) (block_without line n block) ≡ map skip (block_paths n block)
    block_skipped n End fits = refl
    block_skipped n (Then Barrier rest) fits = barrier_skipped n rest (block_skipped (n + 1) rest fits.1)
    block_skipped n (Then first rest) fits =
        let parts = fits_parts n (step_lines first) (lines_of rest) fits in
        steps_skipped n first rest (step_height n first refl parts.0) (step_skipped n first refl parts.0) (block_skipped (n + height first) rest parts.1)

  -- ---- a body

  module _ (body : Block) (is : In line (barriers_from 1 (lines_of body))) where
    within : (1 ≤ line) × (line < 1 + length (lines_of body))
    within = barrier_within 1 (lines_of body) is

    all_fit : Fits 1 (lines_of body)
    all_fit = barrier_fits 1 (lines_of body) is

    begins : moved_up line 1 ≡ 1
    begins = let from = within.0 in start line from
      where
        start : (line : ℕ) → 1 ≤ line → moved_up line 1 ≡ 1
        start line from = grind (arith, nat_tests)

    ends : (length (lines_of body) + 1 == line) ≡ false
    ends = let under = within.1 in other_line line (length (lines_of body) + 1) (λ same. absurd (let none : ⊥ = omega (arith, same, under) in none))

    -- the end moves up by one
    last : length (lines_of (block_without line 1 body)) + 1 ≡ moved_up line (length (lines_of body) + 1)
    last =
        let whole = block_height 1 body all_fit in
        let first = begins in
        let same : 1 + length (lines_of body) ≡ length (lines_of body) + 1 = omega arith in
        let moves = ap (moved_up line) same in
        omega (arith, whole, first, moves)

    -- The ways through a body without a barrier skip it.
    pub body_skipped : paths (block_without line 1 body) ≡ map skip (paths body)
    body_skipped =
        ap₂ in_turn
        (ap (λ (n : ℕ). block_paths n (block_without line 1 body)) (sym begins) ∙ block_skipped 1 body all_fit)
        (ap (λ (n : ℕ). alone n Nack) last ∙ alone_skipped (length (lines_of body) + 1) Nack ends)
        ∙ skip_turns (block_paths 1 body) (alone (length (lines_of body) + 1) Nack)

  -- ---- what stands at the line

  abbrev pub IsThere : Spot → Type 0
  IsThere spot = spot.line ≡ line → spot.statement ≡ Barrier

  mutual
    step_there : (n : ℕ) (statement : Step) → Fits n (step_lines statement) → OnWays IsThere (step_paths n statement)
    step_there n (Repeat count block) fits =
        let parts = fits_parts (n + 1) (lines_of block) (Close ∷ []) fits.1 in ways_turned IsThere count (block_paths (n + 1) block) (block_there (n + 1) block parts.0)
    step_there n (IfAbsent x block) fits =
        let parts = fits_parts (n + 1) (lines_of block) (Close ∷ []) fits.1 in (tt, block_there (n + 1) block parts.0)
    step_there n statement fits = (((λ same. barrier_is statement (fits.0 same)), tt), tt)

    block_there : (n : ℕ) (block : Block) → Fits n (lines_of block) → OnWays IsThere (block_paths n block)
    block_there n End fits = (tt, tt)
    block_there n (Then first rest) fits =
        let parts = fits_parts n (step_lines first) (lines_of rest) fits in
        ways_turns IsThere (step_paths n first) (block_paths (n + height first) rest) (step_there n first parts.0) (block_there (n + height first) rest parts.1)

  -- Each way through a body has a barrier at the line, where it comes to it.
  pub body_there : (body : Block) → In line (barriers_from 1 (lines_of body)) → OnWays IsThere (paths body)
  body_there body is =
      let under = (barrier_within 1 (lines_of body) is).1 in
      ways_turns IsThere (block_paths 1 body) (alone (length (lines_of body) + 1) Nack) (block_there 1 body (barrier_fits 1 (lines_of body) is))
      (((λ same. absurd (let none : ⊥ = omega (arith, same, under) in none)), tt), tt)
