-- The first line that fails on some way through a body is the first that fails by some doubt.
use Rattle.std.proofs.Common.{◌≡◌, ℕ, ◌+◌, Bool, true, false, cond, not, ◌||◌, List, [], ◌∷◌, ◌++◌, map, length, filter, flat_map, Option, None, Some, refl, sym, ap, ap₂, ◌∙◌, subst}
use Rattle.std.proofs.Math.Path.{fun_ext}
use Rattle.std.proofs.lemmas.Bool.{or_left, or_right}
use Rattle.std.proofs.lemmas.List.Elements.{filter-append}
use Rattle.std.proofs.lemmas.Slice.Eq.{bytes_eq-Decides}
use Rattle.std.specs.List.{list_any}
use Rattle.std.specs.Str.{bytes_eq}
use Rattle.anti_lang.specs.Blocks.{lines_of}
use Rattle.anti_lang.specs.Program.{Step, Block, End, Then, Write, Remove, Transfer, Read, Scan, Poll, Nack, Root, Stop, Repeat, IfAbsent}
use Rattle.anti_place.specs.declared.doubt.Doubt.{Doubt}
use Rattle.anti_place.specs.declared.doubt.Doubt.TheVariants.{Always, Unsettled, Rows}
use Rattle.anti_place.specs.declared.fault.Fault.{Fault}
use Rattle.anti_place.specs.declared.flow.Flow.{Flow}
use Rattle.anti_place.specs.declared.flow.Flow.TheVariants.{Stops, Clears, Keeps, Sets}
use Rattle.anti_place.specs.declared.reason.Reason.{Reason}
use Rattle.anti_place.specs.declared.reason.Reason.TheVariants as why
use Rattle.anti_place.specs.declared.search.Search.{Search}
use Rattle.anti_place.specs.declared.search.Sought.TheVariants.{Faults}
use Rattle.anti_place.specs.Paths.{State, Spot, Path, is_some_left, changed, reasons, height, step_paths, block_paths, paths, ends_path, faults_on, all_faults, earlier, first, first_fault}
use Rattle.anti_place.specs.inner.Joined.{if_same, does, forbidden, wants_settled, wants_transferred, is_later, at_line, fault_here, behind, fault_of, reads_in, reads_of, by_rows, joined_fault}
use Rattle.anti_place.proofs.Earlier.{earlier_none, earlier_itself, earlier_comm, earlier_mixed, none_of, first_append}
use Rattle.anti_place.proofs.Joining.{Further, path_fault, least, body_finds}
use Rattle.anti_place.proofs.Ways.{OnWay, OnWays, ways_turned, ways_turns}

-- ---- all doubts

-- whether a doubt is held in a state
abbrev pub holds : State → Doubt → Bool
holds s Always = true
holds s Unsettled = s.unsettled
holds s (Rows x) = list_any (bytes_eq x) s.rows

-- the first of those by all doubts, with these variables
abbrev pub by_doubts : (Doubt → Option Fault) → List (List ℕ) → Option Fault
by_doubts fault names = earlier (fault Always) (earlier (fault Unsettled) (by_rows fault names))

by_rows_both : (P Q : Doubt → Option Fault) (names : List (List ℕ)) → by_rows (λ doubt. earlier (P doubt) (Q doubt)) names ≡ earlier (by_rows P names) (by_rows Q names)
by_rows_both P Q [] = refl
by_rows_both P Q (x ∷ names) =
    ap (earlier (earlier (P (Rows x)) (Q (Rows x)))) (by_rows_both P Q names) ∙ earlier_mixed (P (Rows x)) (Q (Rows x)) (by_rows P names) (by_rows Q names)

by_doubts_both : (P Q : Doubt → Option Fault) (names : List (List ℕ)) → by_doubts (λ doubt. earlier (P doubt) (Q doubt)) names ≡ earlier (by_doubts P names) (by_doubts Q names)
by_doubts_both P Q names =
    ap (λ (x : Option Fault). earlier (earlier (P Always) (Q Always)) (earlier (earlier (P Unsettled) (Q Unsettled)) x)) (by_rows_both P Q names)
    ∙ ap (earlier (earlier (P Always) (Q Always))) (earlier_mixed (P Unsettled) (Q Unsettled) (by_rows P names) (by_rows Q names))
    ∙ earlier_mixed (P Always) (Q Always) (earlier (P Unsettled) (by_rows P names)) (earlier (Q Unsettled) (by_rows Q names))

by_rows_none : (names : List (List ℕ)) → by_rows (λ doubt. None) names ≡ None
by_rows_none [] = refl
by_rows_none (x ∷ names) = by_rows_none names

by_rows_same : (P Q : Doubt → Option Fault) → ((x : List ℕ) → P (Rows x) ≡ Q (Rows x)) → (names : List (List ℕ)) → by_rows P names ≡ by_rows Q names
by_rows_same P Q same [] = refl
by_rows_same P Q same (x ∷ names) = ap₂ earlier (same x) (by_rows_same P Q same names)

by_same : (P Q : Doubt → Option Fault) → ((doubt : Doubt) → P doubt ≡ Q doubt) → (names : List (List ℕ)) → by_doubts P names ≡ by_doubts Q names
by_same P Q same names = ap (λ (fault : Doubt → Option Fault). by_doubts fault names) (fun_ext same)

-- ---- the variables that are named

-- some variables are among these
abbrev pub AreNamed : List (List ℕ) → List (List ℕ) → Type 0
AreNamed names [] = Unit {0}
AreNamed names (x ∷ xs) = (list_any (λ y. bytes_eq y x) names ≡ true) × AreNamed names xs

-- the variables that a way reads into, and those of some ways
abbrev Names : List (List ℕ) → Spot → Type 0
Names names spot = AreNamed names (reads_in spot.statement)

abbrev pub IsNamed : List (List ℕ) → Path → Type 0
IsNamed names path = OnWay (Names names) path

abbrev pub AllNamed : List (List ℕ) → List Path → Type 0
AllNamed names paths = OnWays (Names names) paths

module _ (names : List (List ℕ)) where
  named_parts : (xs ys : List (List ℕ)) → AreNamed names (xs ++ ys) → AreNamed names xs × AreNamed names ys
  named_parts [] ys named = (tt, named)
  named_parts (x ∷ xs) ys named = let parts = named_parts xs ys named.1 in ((named.0, parts.0), parts.1)

  named_kept : (test : List ℕ → Bool) (xs : List (List ℕ)) → AreNamed names xs → AreNamed names (filter test xs)
  named_kept test [] named = tt
  named_kept test (x ∷ xs) named = go (test x) (named_kept test xs named.1)
    where
      go : (kept : Bool) → AreNamed names (filter test xs) → AreNamed names (cond kept (x ∷ filter test xs) (filter test xs))
      go true others = (named.0, others)
      go false others = others

  mutual
    step_named : (line : ℕ) (statement : Step) → AreNamed names (reads_in statement) → AllNamed names (step_paths line statement)
    step_named line (Repeat count block) named = ways_turned (Names names) count (block_paths (line + 1) block) (block_named (line + 1) block named)
    step_named line (IfAbsent x block) named = (tt, block_named (line + 1) block named)
    step_named line statement named = ((named, tt), tt)

    block_named : (line : ℕ) (block : Block) → AreNamed names (reads_of block) → AllNamed names (block_paths line block)
    block_named line End named = (tt, tt)
    block_named line (Then first rest) named =
        let parts = named_parts (reads_in first) (reads_of rest) named in
        ways_turns (Names names) (step_paths line first) (block_paths (line + height first) rest)
        (step_named line first parts.0) (block_named (line + height first) rest parts.1)

  body_named : (body : Block) → AreNamed names (reads_of body) → AllNamed names (paths body)
  body_named body named =
      ways_turns (Names names) (block_paths 1 body) ((record { line = length (lines_of body) + 1; statement = Nack } ∷ []) ∷ []) (block_named 1 body named) ((tt, tt), tt)

  -- those that are left are named
  still_named : (statement : Step) (s : State) → AreNamed names s.rows → AreNamed names (reads_in statement) → AreNamed names (changed statement s).rows
  still_named (Read store key x) s rows read = (read.0, rows)
  still_named (Scan store prefix x) s rows read = (read.0, rows)
  still_named (Poll store key x) s rows read = (read.0, rows)
  still_named (Transfer x) s rows read = named_kept (λ y. not (bytes_eq x y)) s.rows rows
  still_named (Write store key value variable true) s rows read = rows
  still_named (Write store key value variable false) s rows read = rows
  still_named Root s rows read = tt
  still_named Stop s rows read = tt
  still_named statement s rows read = rows

named_more : (name : List ℕ) (names xs : List (List ℕ)) → AreNamed names xs → AreNamed (name ∷ names) xs
named_more name names [] named = tt
named_more name names (x ∷ xs) named = (or_right (bytes_eq name x) (list_any (λ y. bytes_eq y x) names) named.0, named_more name names xs named.1)

named_themselves : (names : List (List ℕ)) → AreNamed names names
named_themselves [] = tt
named_themselves (x ∷ xs) =
    (or_left (bytes_eq x x) (list_any (λ y. bytes_eq y x) xs) ((bytes_eq-Decides x x).1 refl), named_more x xs xs (named_themselves xs))

-- ---- a statement

pub ends_with : (statement : Step) → ends_path statement ≡ true → (doubt : Doubt) → does doubt statement ≡ Stops
ends_with Nack ends Always = refl
ends_with Nack ends Unsettled = refl
ends_with Nack ends (Rows x) = refl
ends_with statement ends doubt = cc

read_holds : (test held : Bool) (Q : Further) → behind (cond test Sets Keeps) held Q ≡ Q (test || held)
read_holds true held Q = refl
read_holds false held Q = refl

-- the rows of x behind a transfer of y
kept_none : (x : List ℕ) (rows : List (List ℕ)) → list_any (bytes_eq x) (filter (λ z. not (bytes_eq x z)) rows) ≡ false
kept_none x [] = refl
kept_none x (z ∷ rows) = go (bytes_eq x z) refl (kept_none x rows)
  where
    go : (test : Bool) → bytes_eq x z ≡ test → list_any (bytes_eq x) (filter (λ z. not (bytes_eq x z)) rows) ≡ false
        → list_any (bytes_eq x) (cond (not test) (z ∷ filter (λ z. not (bytes_eq x z)) rows) (filter (λ z. not (bytes_eq x z)) rows)) ≡ false
    go true e none = none
    go false e none = ap (λ (test : Bool). test || list_any (bytes_eq x) (filter (λ z. not (bytes_eq x z)) rows)) e ∙ none

kept_all : (x y : List ℕ) (rows : List (List ℕ)) → bytes_eq x y ≡ false
    → list_any (bytes_eq x) (filter (λ z. not (bytes_eq y z)) rows) ≡ list_any (bytes_eq x) rows
kept_all x y [] other = refl
kept_all x y (z ∷ rows) other = go (bytes_eq y z) refl (kept_all x y rows other)
  where
    go : (test : Bool) → bytes_eq y z ≡ test → list_any (bytes_eq x) (filter (λ z. not (bytes_eq y z)) rows) ≡ list_any (bytes_eq x) rows
        → list_any (bytes_eq x) (cond (not test) (z ∷ filter (λ z. not (bytes_eq y z)) rows) (filter (λ z. not (bytes_eq y z)) rows))
        ≡ (bytes_eq x z || list_any (bytes_eq x) rows)
    go true e same =
        let is : y ≡ z = (bytes_eq-Decides y z).0 e in
        let none : bytes_eq x z ≡ false = sym (ap (bytes_eq x) is) ∙ other in
        same ∙ sym (ap (λ (test : Bool). test || list_any (bytes_eq x) rows) none)
    go false e same = ap (λ (more : Bool). bytes_eq x z || more) same

transfer_holds : (x y : List ℕ) (rows : List (List ℕ)) (Q : Further)
    → behind (if_same x y Clears) (list_any (bytes_eq x) rows) Q ≡ Q (list_any (bytes_eq x) (filter (λ z. not (bytes_eq y z)) rows))
transfer_holds x y rows Q = go (bytes_eq x y) refl
  where
    go : (test : Bool) → bytes_eq x y ≡ test
        → behind (cond test Clears Keeps) (list_any (bytes_eq x) rows) Q ≡ Q (list_any (bytes_eq x) (filter (λ z. not (bytes_eq y z)) rows))
    go true e =
        let is : x ≡ y = (bytes_eq-Decides x y).0 e in
        sym (ap Q (subst (λ (y : List ℕ). list_any (bytes_eq x) (filter (λ z. not (bytes_eq y z)) rows) ≡ false) is (kept_none x rows)))
    go false e = sym (ap Q (kept_all x y rows e))

always_on : (statement : Step) → ends_path statement ≡ false → (s : State) (Q : Further)
    → behind (does Always statement) true Q ≡ Q (holds (changed statement s) Always)
always_on Nack goes s Q = cc
always_on statement goes s Q = refl

unsettled_on : (statement : Step) → ends_path statement ≡ false → (s : State) (Q : Further)
    → behind (does Unsettled statement) s.unsettled Q ≡ Q (holds (changed statement s) Unsettled)
unsettled_on Nack goes s Q = cc
unsettled_on (Write store key value variable true) goes s Q = refl
unsettled_on (Write store key value variable false) goes s Q = refl
unsettled_on statement goes s Q = refl

rows_on : (x : List ℕ) (statement : Step) → ends_path statement ≡ false → (s : State) (Q : Further)
    → behind (does (Rows x) statement) (holds s (Rows x)) Q ≡ Q (holds (changed statement s) (Rows x))
rows_on x Nack goes s Q = cc
rows_on x (Write store key value variable true) goes s Q = refl
rows_on x (Write store key value variable false) goes s Q = refl
rows_on x (Read store key y) goes s Q = read_holds (bytes_eq x y) (list_any (bytes_eq x) s.rows) Q
rows_on x (Scan store prefix y) goes s Q = read_holds (bytes_eq x y) (list_any (bytes_eq x) s.rows) Q
rows_on x (Poll store key y) goes s Q = read_holds (bytes_eq x y) (list_any (bytes_eq x) s.rows) Q
rows_on x (Transfer y) goes s Q = transfer_holds x y s.rows Q
rows_on x statement goes s Q = refl

-- what a statement does to each doubt is what it does to the state
pub holds_on : (statement : Step) → ends_path statement ≡ false → (s : State) (doubt : Doubt) (Q : Further)
    → behind (does doubt statement) (holds s doubt) Q ≡ Q (holds (changed statement s) doubt)
holds_on statement goes s Always Q = always_on statement goes s Q
holds_on statement goes s Unsettled Q = unsettled_on statement goes s Q
holds_on statement goes s (Rows x) Q = rows_on x statement goes s Q

-- ---- why a statement fails

none_any : (names : List (List ℕ)) → list_any (λ x. false) names ≡ false
none_any [] = refl
none_any (x ∷ names) = none_any names

any_more : (y : List ℕ) (rows names : List (List ℕ)) → list_any (λ x. bytes_eq x y) names ≡ true → list_any (λ x. bytes_eq x y || list_any (bytes_eq x) rows) names ≡ true
any_more y rows [] named = named
any_more y rows (x ∷ names) named = go (bytes_eq x y) (any_more y rows names) named
  where
    go : (test : Bool) → (list_any (λ x. bytes_eq x y) names ≡ true → list_any (λ x. bytes_eq x y || list_any (bytes_eq x) rows) names ≡ true)
        → (test || list_any (λ x. bytes_eq x y) names) ≡ true
        → ((test || list_any (bytes_eq x) rows) || list_any (λ x. bytes_eq x y || list_any (bytes_eq x) rows) names) ≡ true
    go true more named = refl
    go false more named = or_right (list_any (bytes_eq x) rows) (list_any (λ x. bytes_eq x y || list_any (bytes_eq x) rows) names) (more named)

-- some rows are left just where those of some variable are
rows_left : (names rows : List (List ℕ)) → AreNamed names rows → list_any (λ x. list_any (bytes_eq x) rows) names ≡ list_any (λ x. true) rows
rows_left names [] named = none_any names
rows_left names (y ∷ rows) named = any_more y rows names named.0

-- what is sought: lines that fail, behind a fault or all
abbrev pub faults_after : Bool → Option Fault → Search
faults_after called after = record { sought = Faults called; after = after }

module _ (called : Bool) (after : Option Fault) (line : ℕ) where
  abbrev here : Step → State → Doubt → Option Fault
  here statement s doubt = fault_here (faults_after called after) doubt line statement (holds s doubt)

  rows_here : (statement : Step) (s : State) (names : List (List ℕ))
      → by_rows (here statement s) names ≡ cond (list_any (λ x. list_any (bytes_eq x) s.rows) names) (at_line after line (wants_transferred called statement)) None
  rows_here statement s [] = refl
  rows_here statement s (x ∷ names) =
      ap (earlier (here statement s (Rows x))) (rows_here statement s names)
      ∙ go (list_any (bytes_eq x) s.rows) (list_any (λ x. list_any (bytes_eq x) s.rows) names) (at_line after line (wants_transferred called statement))
    where
      go : (one more : Bool) (fault : Option Fault) → earlier (cond one fault None) (cond more fault None) ≡ cond (one || more) fault None
      go true true fault = earlier_itself fault
      go true false fault = earlier_none fault
      go false more fault = refl

  abbrev fault : Reason → Fault
  fault reason = record { line = line; reason = reason }

  -- the first of these reasons at the line
  abbrev told : List Reason → Option Fault
  told [] = None
  told (reason ∷ []) = at_line after line (Some reason)
  told (reason ∷ other ∷ reasons) = earlier (at_line after line (Some reason)) (told (other ∷ reasons))

  told_first : (reasons : List Reason) → first (filter (is_later after) (map fault reasons)) ≡ told reasons
  told_first [] = refl
  told_first (reason ∷ []) = go (is_later after (fault reason))
    where
      go : (test : Bool) → first (cond test (fault reason ∷ []) []) ≡ cond test (Some (fault reason)) None
      go true = refl
      go false = refl
  told_first (reason ∷ other ∷ reasons) =
      go (is_later after (fault reason)) (filter (is_later after) (map fault (other ∷ reasons)))
      ∙ ap (earlier (at_line after line (Some reason))) (told_first (other ∷ reasons))
    where
      go : (test : Bool) (others : List Fault) → first (cond test (fault reason ∷ others) others) ≡ earlier (cond test (Some (fault reason)) None) (first others)
      go true others = refl
      go false others = refl

  abbrev Told : Step → Bool → Bool → Type 0
  Told statement some_left unsettled =
      told (reasons called statement some_left unsettled)
      ≡ earlier (at_line after line (forbidden statement))
      (earlier (cond unsettled (at_line after line (wants_settled statement)) None) (cond some_left (at_line after line (wants_transferred called statement)) None))

  told_end : (some_left unsettled : Bool) → Told Nack some_left unsettled
  told_end some_left unsettled = go called some_left unsettled
    where
      go : (called some_left unsettled : Bool)
          → told (cond called (cond some_left (why.Untransferred ∷ []) []) [])
          ≡ earlier (cond unsettled None None) (cond some_left (at_line after line (cond called (Some why.Untransferred) None)) None)
      go true true true = refl
      go true true false = refl
      go true false true = refl
      go true false false = refl
      go false true true = refl
      go false true false = refl
      go false false true = refl
      go false false false = refl

  -- a statement that may stand nowhere
  told_always : (reason : Reason) (some_left unsettled : Bool)
      → told (reason ∷ []) ≡ earlier (at_line after line (Some reason)) (earlier (cond unsettled None None) (cond some_left None None))
  told_always reason true true = sym (earlier_none (at_line after line (Some reason)))
  told_always reason true false = sym (earlier_none (at_line after line (Some reason)))
  told_always reason false true = sym (earlier_none (at_line after line (Some reason)))
  told_always reason false false = sym (earlier_none (at_line after line (Some reason)))

  -- one that reads
  abbrev by_read : Bool → Bool → List Reason
  by_read some_left unsettled = cond some_left (why.Untransferred ∷ []) [] ++ cond unsettled (why.Unsettled ∷ []) []

  told_read : (some_left unsettled : Bool)
      → told (by_read some_left unsettled)
      ≡ earlier (cond unsettled (at_line after line (Some why.Unsettled)) None) (cond some_left (at_line after line (Some why.Untransferred)) None)
  told_read true true = earlier_comm (at_line after line (Some why.Untransferred)) (at_line after line (Some why.Unsettled))
  told_read true false = refl
  told_read false true = sym (earlier_none (at_line after line (Some why.Unsettled)))
  told_read false false = refl

  told_by : (statement : Step) (some_left unsettled : Bool) → Told statement some_left unsettled
  told_by Nack some_left unsettled = told_end some_left unsettled
  told_by (Remove x) some_left unsettled = told_always why.Removed some_left unsettled
  told_by (Write store key value variable true) some_left unsettled = told_always why.Untracked some_left unsettled
  told_by (Read store key x) some_left unsettled = told_read some_left unsettled
  told_by (Scan store prefix x) some_left unsettled = told_read some_left unsettled
  told_by (Poll store key x) some_left unsettled = told_read some_left unsettled
  told_by (Write store key value variable false) true true = refl
  told_by (Write store key value variable false) true false = refl
  told_by (Write store key value variable false) false true = refl
  told_by (Write store key value variable false) false false = refl
  told_by statement true true = refl
  told_by statement true false = refl
  told_by statement false true = refl
  told_by statement false false = refl

  by_reasons : (names : List (List ℕ)) (statement : Step) (s : State) → AreNamed names s.rows
      → first (filter (is_later after) (map fault (reasons called statement (is_some_left s) s.unsettled))) ≡ by_doubts (here statement s) names
  by_reasons names statement s named =
      told_first (reasons called statement (is_some_left s) s.unsettled)
      ∙ told_by statement (is_some_left s) s.unsettled
      ∙ ap (λ (x : Option Fault). earlier (at_line after line (forbidden statement)) (earlier (cond s.unsettled (at_line after line (wants_settled statement)) None) x))
      (ap (λ (test : Bool). cond test (at_line after line (wants_transferred called statement)) None) (sym (rows_left names s.rows named)) ∙ sym (rows_here statement s names))

-- ---- a way, and all ways

module _ (called : Bool) (after : Option Fault) (names : List (List ℕ)) where
  abbrev sought : Search
  sought = faults_after called after

  abbrev later : List Fault → List Fault
  later faults = filter (is_later after) faults

  first_later : (these those : List Fault) → first (later (these ++ those)) ≡ earlier (first (later these)) (first (later those))
  first_later these those = ap first (filter-append (is_later after) these those) ∙ first_append (later these) (later those)

  -- what comes behind a statement
  behind_by_doubts : (statement : Step) (s : State) (path : Path)
      → first (later (faults_on called (changed statement s) path)) ≡ by_doubts (λ doubt. path_fault sought doubt path (holds (changed statement s) doubt)) names
      → first (later (cond (ends_path statement) [] (faults_on called (changed statement s) path)))
      ≡ by_doubts (λ doubt. behind (does doubt statement) (holds s doubt) (path_fault sought doubt path)) names
  behind_by_doubts statement s path further = go (ends_path statement) refl
    where
      go : (ends : Bool) → ends_path statement ≡ ends
          → first (later (cond ends [] (faults_on called (changed statement s) path)))
          ≡ by_doubts (λ doubt. behind (does doubt statement) (holds s doubt) (path_fault sought doubt path)) names
      go true e =
          sym (by_same (λ doubt. behind (does doubt statement) (holds s doubt) (path_fault sought doubt path)) (λ doubt. None)
          (λ doubt. ap (λ (flow : Flow). behind flow (holds s doubt) (path_fault sought doubt path)) (ends_with statement e doubt)) names
          ∙ by_rows_none names)
      go false e =
          further
          ∙ by_same (λ doubt. path_fault sought doubt path (holds (changed statement s) doubt))
          (λ doubt. behind (does doubt statement) (holds s doubt) (path_fault sought doubt path))
          (λ doubt. sym (holds_on statement e s doubt (path_fault sought doubt path))) names

  path_by_doubts : (path : Path) (s : State) → AreNamed names s.rows → IsNamed names path
      → first (later (faults_on called s path)) ≡ by_doubts (λ doubt. path_fault sought doubt path (holds s doubt)) names
  path_by_doubts [] s rows reads = sym (by_rows_none names)
  path_by_doubts (spot ∷ path) s rows reads =
      let further = path_by_doubts path (changed spot.statement s) (still_named names spot.statement s rows reads.0) reads.1 in
      first_later (map (fault called after spot.line) (reasons called spot.statement (is_some_left s) s.unsettled))
      (cond (ends_path spot.statement) [] (faults_on called (changed spot.statement s) path))
      ∙ ap₂ earlier (by_reasons called after spot.line names spot.statement s rows) (behind_by_doubts spot.statement s path further)
      ∙ sym (by_doubts_both (here called after spot.line spot.statement s) (λ doubt. behind (does doubt spot.statement) (holds s doubt) (path_fault sought doubt path)) names)

  all_by_doubts : (paths : List Path) (s : State) → AreNamed names s.rows → AllNamed names paths
      → first (later (flat_map (faults_on called s) paths)) ≡ by_doubts (λ doubt. least sought doubt paths (holds s doubt)) names
  all_by_doubts [] s rows reads = sym (by_rows_none names)
  all_by_doubts (path ∷ paths) s rows reads =
      first_later (faults_on called s path) (flat_map (faults_on called s) paths)
      ∙ ap₂ earlier (path_by_doubts path s rows reads.0) (all_by_doubts paths s rows reads.1)
      ∙ sym (by_doubts_both (λ doubt. path_fault sought doubt path (holds s doubt)) (λ doubt. least sought doubt paths (holds s doubt)) names)

-- ---- a body

-- what is known where a body begins, and which doubts are held there
abbrev pub first_state : Bool → State
first_state named = record { rows = []; unsettled = named }

abbrev pub at_start : Bool → Doubt → Bool
at_start named Always = true
at_start named Unsettled = named
at_start named (Rows x) = false

-- the first fault of a body behind another
abbrev pub first_later_fault : Bool → Bool → Option Fault → Block → Option Fault
first_later_fault called named after body = first (filter (is_later after) (all_faults called named body))

body_by_doubts : (called named : Bool) (after : Option Fault) (names : List (List ℕ)) (body : Block) → AreNamed names (reads_of body)
    → first_later_fault called named after body ≡ by_doubts (λ doubt. fault_of (faults_after called after) doubt body (holds (first_state named) doubt)) names
body_by_doubts called named after names body reads =
    let search : Search = faults_after called after in
    all_by_doubts called after names (paths body) (first_state named) tt (body_named names body reads)
    ∙ by_same (λ doubt. least search doubt (paths body) (holds (first_state named) doubt)) (λ doubt. fault_of search doubt body (holds (first_state named) doubt))
    (λ doubt. (body_finds search doubt body).found (holds (first_state named) doubt)) names

-- The first line behind another that fails on some way through a body is the first that fails where all ways are gone together.
pub joined_is_first : (called named : Bool) (after : Option Fault) (body : Block)
    → first_later_fault called named after body ≡ joined_fault (faults_after called after) named body
joined_is_first called named after body =
    let search : Search = faults_after called after in
    body_by_doubts called named after (reads_of body) body (named_themselves (reads_of body))
    ∙ ap (λ (x : Option Fault). earlier (fault_of search Always body true) (earlier (fault_of search Unsettled body named) x))
    (by_rows_same (λ doubt. fault_of search doubt body (holds (first_state named) doubt)) (λ doubt. fault_of search doubt body false) (λ x. refl) (reads_of body))

-- where all faults are sought
pub all_later : (faults : List Fault) → filter (is_later None) faults ≡ faults
all_later [] = refl
all_later (fault ∷ faults) = ap (λ (those : List Fault). fault ∷ those) (all_later faults)

pub first_of_all : (called named : Bool) (body : Block) → first_later_fault called named None body ≡ first_fault called named body
first_of_all called named body = ap first (all_later (all_faults called named body))

-- Where no line fails, none fails by any doubt, also not by one on a variable that no line reads into.
pub none_by : (called named : Bool) (body : Block) → first_fault called named body ≡ None
    → (doubt : Doubt) → fault_of (faults_after called None) doubt body (at_start named doubt) ≡ None
none_by called named body none Always =
    let all = sym (body_by_doubts called named None (reads_of body) body (named_themselves (reads_of body))) ∙ first_of_all called named body ∙ none in
    (none_of (fault_of (faults_after called None) Always body true) _ all).0
none_by called named body none Unsettled =
    let all = sym (body_by_doubts called named None (reads_of body) body (named_themselves (reads_of body))) ∙ first_of_all called named body ∙ none in
    (none_of (fault_of (faults_after called None) Unsettled body named) _ (none_of (fault_of (faults_after called None) Always body true) _ all).1).0
none_by called named body none (Rows x) =
    let reads : AreNamed (x ∷ reads_of body) (reads_of body) = named_more x (reads_of body) (reads_of body) (named_themselves (reads_of body)) in
    let all = sym (body_by_doubts called named None (x ∷ reads_of body) body reads) ∙ first_of_all called named body ∙ none in
    let rows = (none_of (fault_of (faults_after called None) Unsettled body named) _ (none_of (fault_of (faults_after called None) Always body true) _ all).1).1 in
    (none_of (fault_of (faults_after called None) (Rows x) body false) _ rows).0
