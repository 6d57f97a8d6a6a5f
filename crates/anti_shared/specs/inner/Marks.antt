-- How far regions have everything, and what a pass raises their marks to.
use Rattle.std.specs.Prelude.{◌≡◌, ℕ, ◌<◌, ◌≤◌, List, Option, None, Some, max, slice_index_or}
use Rattle.anti_kind.specs.declared.entry.Entry.{Entry}
use Rattle.anti_kind.specs.Objects.{Start}
use Rattle.anti_kind.specs.Shipments.{upto}
use Rattle.anti_turn.specs.Lists.{top}

-- the number of a region among those of all
abbrev pub number_at : List ℕ → ℕ → ℕ
number_at numbers region = slice_index_or numbers region 0

-- for each region the numbers say how far it has everything
abbrev pub AreUpto : Start → List Entry → List ℕ → Type 0
AreUpto start h numbers = (region : ℕ) → region < 8 → number_at numbers region ≡ upto start h region

-- no region has more than they say
abbrev pub AreOver : Start → List Entry → List ℕ → Type 0
AreOver start h numbers = (region : ℕ) → region < 8 → upto start h region ≤ number_at numbers region

-- how far each has everything, unless none has more than was known
abbrev pub AreRisen : Start → List Entry → List ℕ → Option (List ℕ) → Type 0
AreRisen start h known None = AreOver start h known
AreRisen start h known (Some numbers) = AreUpto start h numbers

-- they are what the marks were raised to
abbrev pub AreNoted : List ℕ → List (ℕ × ℕ) → Type 0
AreNoted numbers raised = (region : ℕ) → region < 8 → number_at numbers region ≡ top region raised

-- each mark was raised as far as its region has everything
abbrev pub AreTold : Start → List Entry → List (ℕ × ℕ) → Type 0
AreTold start h raised = (region : ℕ) → region < 8 → upto start h region ≤ top region raised

-- each is the greater of two
abbrev pub AreGreater : List ℕ → List ℕ → List ℕ → Type 0
AreGreater xs ys numbers = (region : ℕ) → region < 8 → number_at numbers region ≡ max (number_at xs region) (number_at ys region)
