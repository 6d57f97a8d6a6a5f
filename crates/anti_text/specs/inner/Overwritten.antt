-- Bytes that are written over others.
use Rattle.std.specs.Prelude.{◌≡◌, ℕ, ◌+◌, List, ◌++◌, length, take}

-- bytes stand behind the first `at` of the old ones, up to an end; what stands behind the end is not told
pub record Overwritten (old new : List ℕ) (at : ℕ) (bytes : List ℕ) (end : ℕ) : Type 0 where
  pub front : take end new ≡ take at old ++ bytes
  pub moved : end ≡ at + length bytes
  pub kept : length new ≡ length old
