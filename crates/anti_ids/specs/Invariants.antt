-- What a value and a lineage keep, whatever is done with them.
use Rattle.std.specs.Prelude.{◌≡◌, ℕ, ◌≤◌, List, true, length, [], ◌∷◌}
use Rattle.std.specs.Str.{is_utf8}
use Rattle.std.specs.declared.cmp.Ordering.TheVariants.{Less}
use Rattle.anti_ids.specs.declared.limits.TheConstants.{LONGEST_VALUE, MOST_IDS}
use Rattle.anti_ids.specs.Each.{Each}
use Rattle.anti_ids.specs.declared.id.WriteId.{WriteId}
use Rattle.anti_ids.specs.Ids.{id_cmp}

pub record IsValue (bytes : List ℕ) : Type 0 where
  pub short : length bytes ≤ LONGEST_VALUE
  pub text : is_utf8 bytes ≡ true

-- each id is before all that stand behind it
abbrev pub IsAscending : List WriteId → Type 0
IsAscending [] = Unit {0}
IsAscending (i ∷ is) = Each (λ j. id_cmp i j ≡ Less) is × IsAscending is

-- a set of at most `MOST_IDS` ids, each of version 1 or later
pub record IsLineage (ids : List WriteId) : Type 0 where
  pub ascending : IsAscending ids
  pub written : Each (λ i. 1 ≤ i.version) ids
  pub short : length ids ≤ MOST_IDS
