-- The greatest version of each key that is whole at each region, and the greatest that was written.
use Rattle.std.specs.Prelude.{◌≡◌, ℕ, ◌<◌, max, List, [], length, Option, None, Some, slice_index_or, slice_set}
use Rattle.std.specs.BTreeMap as tree
use Rattle.std.specs.Cmp.Lexicographic.{slice_cmp}
use Rattle.std.specs.Ordering.{nat_cmp}
use Rattle.anti_replicas.specs.declared.newest.Newest.{Newest}
use Rattle.anti_replicas.specs.declared.newest.TheConstants.{WRITTEN}

-- the number of a key
abbrev pub key_number : Newest → List ℕ → Option ℕ
key_number n k = tree.get (slice_cmp nat_cmp) n.numbers k

-- the versions of the key with a number, by region, and behind them the one that was written
abbrev pub versions_at : Newest → ℕ → List ℕ
versions_at n i = slice_index_or n.versions.items i []

-- the version of the key with a number at the region g
abbrev pub at_number : Newest → ℕ → ℕ → ℕ
at_number n g i = slice_index_or (versions_at n i) g 0

abbrev pub version_by : Newest → ℕ → Option ℕ → ℕ
version_by n g None = 0
version_by n g (Some i) = at_number n g i

-- the version of the key k at the region g, 0 where the key has no number
abbrev pub newest_at : Newest → ℕ → List ℕ → ℕ
newest_at n g k = version_by n g (key_number n k)

-- the version of the key k that was written last, 0 where the key has no number or was only made a place for
abbrev pub last_at : Newest → List ℕ → ℕ
last_at n k = newest_at n WRITTEN k

-- the keys have different numbers, and each has its versions
pub record AreNumbered (n : Newest) : Type 0 where
  pub below : (k : List ℕ) (i : ℕ) → key_number n k ≡ Some i → i < length n.versions.items
  pub apart : (k l : List ℕ) (i : ℕ) → key_number n k ≡ Some i → key_number n l ≡ Some i → k ≡ l

-- n may have more keys than m, of which no version stands
pub record MakesPlace (m n : Newest) : Type 0 where
  pub same : (g : ℕ) (k : List ℕ) → newest_at n g k ≡ newest_at m g k
  pub numbers : (k : List ℕ) (i : ℕ) → key_number m k ≡ Some i → key_number n k ≡ Some i
  pub numbered : AreNumbered n

-- n is m after the version v of the key with a number is whole at the region, or was written
pub record Brings (m n : Newest) (region number v : ℕ) : Type 0 where
  pub room : region < length (versions_at m number)
  pub numbers : n.numbers ≡ m.numbers
  pub versions : n.versions.items ≡ slice_set m.versions.items number (slice_set (versions_at m number) region (max v (at_number m region number)))
