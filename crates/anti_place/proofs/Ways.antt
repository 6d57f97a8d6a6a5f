-- What all spots of all ways through a body have: what each statement of it has, with its line.
use Rattle.std.proofs.Common.{ℕ, zero, suc, ◌+◌, ◌≤◌, ◌<◌, List, [], ◌∷◌, ◌++◌, map, length, length-append, arith}
use Rattle.anti_lang.specs.Blocks.{step_lines, lines_of}
use Rattle.anti_lang.specs.Lines.{Close}
use Rattle.anti_lang.specs.Program.{Step, Block, End, Then, Nack, Repeat, IfAbsent}
use Rattle.anti_place.specs.Paths.{Spot, Path, in_turn, turned, height, step_paths, block_paths, paths}

module _ (Has : Spot → Type 0) where
  -- all spots of a way have it, and all those of some ways
  abbrev pub OnWay : Path → Type 0
  OnWay [] = Unit {0}
  OnWay (spot ∷ path) = Has spot × OnWay path

  abbrev pub OnWays : List Path → Type 0
  OnWays [] = Unit {0}
  OnWays (path ∷ paths) = OnWay path × OnWays paths

  way_append : (p q : Path) → OnWay p → OnWay q → OnWay (p ++ q)
  way_append [] q these those = those
  way_append (spot ∷ p) q these those = (these.0, way_append p q these.1 those)

  ways_append : (ps qs : List Path) → OnWays ps → OnWays qs → OnWays (ps ++ qs)
  ways_append [] qs these those = those
  ways_append (p ∷ ps) qs these those = (these.0, ways_append ps qs these.1 those)

  ways_behind : (p : Path) (qs : List Path) → OnWay p → OnWays qs → OnWays (map (λ further. p ++ further) qs)
  ways_behind p [] this those = tt
  ways_behind p (q ∷ qs) this those = (way_append p q this those.0, ways_behind p qs this those.1)

  pub ways_turns : (ps qs : List Path) → OnWays ps → OnWays qs → OnWays (in_turn ps qs)
  ways_turns [] qs these those = tt
  ways_turns (p ∷ ps) qs these those =
      ways_append (map (λ further. p ++ further) qs) (in_turn ps qs) (ways_behind p qs these.0 those) (ways_turns ps qs these.1 those)

  pub ways_turned : (count : ℕ) (ps : List Path) → OnWays ps → OnWays (turned count ps)
  ways_turned zero ps these = (tt, tt)
  ways_turned (suc n) ps these = ways_append ps (in_turn ps ps) these (ways_turns ps ps these these)

-- ---- the lines of spots

module _ (low high : ℕ) where
  abbrev pub IsBetween : Spot → Type 0
  IsBetween spot = (low ≤ spot.line) × (spot.line < high)

  in_block : (line : ℕ) (block : Block) → line + suc (length (lines_of block ++ Close ∷ [])) ≤ high → line + 1 + length (lines_of block) ≤ high
  in_block line block within = let long = length-append (lines_of block) (Close ∷ []) in omega (arith, long)

  mutual
    pub step_between : (line : ℕ) (statement : Step) → low ≤ line → line + height statement ≤ high → OnWays IsBetween (step_paths line statement)
    step_between line (Repeat count block) begins within =
        ways_turned IsBetween count (block_paths (line + 1) block)
        (block_between (line + 1) block (omega arith) (in_block line block within))
    step_between line (IfAbsent x block) begins within =
        (tt, block_between (line + 1) block (omega arith) (in_block line block within))
    step_between line statement begins within = (((begins, omega arith), tt), tt)

    pub block_between : (line : ℕ) (block : Block) → low ≤ line → line + length (lines_of block) ≤ high → OnWays IsBetween (block_paths line block)
    block_between line End begins within = (tt, tt)
    block_between line (Then first rest) begins within =
        let long = length-append (step_lines first) (lines_of rest) in
        ways_turns IsBetween (step_paths line first) (block_paths (line + height first) rest)
        (step_between line first begins (omega (arith, long))) (block_between (line + height first) rest (omega arith) (omega (arith, long)))

-- the end stands behind the last line
pub body_between : (body : Block) → OnWays (IsBetween 1 (length (lines_of body) + 2)) (paths body)
body_between body =
    let high : ℕ = length (lines_of body) + 2 in
    ways_turns (IsBetween 1 high) (block_paths 1 body) ((record { line = length (lines_of body) + 1; statement = Nack } ∷ []) ∷ [])
    (block_between 1 high 1 body (omega arith) (omega arith)) ((((omega arith, omega arith), tt), tt))
