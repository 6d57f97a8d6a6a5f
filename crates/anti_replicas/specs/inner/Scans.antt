-- What is read off the numbers of the keys by a scan.
use Rattle.std.specs.Prelude.{ℕ, cond, take, length, bytes_eq, List, [], ◌∷◌, Option, None, Some}
use Rattle.anti_kind.specs.declared.entry.Entry.{Entry}
use Rattle.anti_kind.specs.declared.row.Row.{Row}
use Rattle.anti_kind.specs.Stored.{row_of}
use Rattle.anti_replicas.specs.declared.newest.Newest.{Newest}
use Rattle.anti_replicas.specs.inner.Newest.{at_number}

-- the version that stands beside a key with a number at a region, where the key begins with the prefix, else 0
abbrev pub version_in : Newest → ℕ → List ℕ → List ℕ → ℕ → ℕ
version_in n g prefix key number = cond (bytes_eq prefix (take (length prefix) key)) (at_number n g number) 0

-- a row where there is one, before more rows
abbrev pub before : Option Row → List Row → List Row
before None rest = rest
before (Some r) rest = r ∷ rest

-- the rows of the versions of these keys
abbrev pub listed : List Entry → Newest → ℕ → List ℕ → List (List ℕ × ℕ) → List Row
listed h n g prefix [] = []
listed h n g prefix (e ∷ rest) = before (row_of h (version_in n g prefix e.0 e.1)) (listed h n g prefix rest)
