-- The marks of a write: which parts of it came to which regions.
use Rattle.std.specs.Prelude.{ℕ, ◌-◌, ◌*◌, ◌%◌, ◌^◌, ◌==◌, Bool, not, Option, find, bit_or, slice_index_or, slice_set}
use Rattle.std.specs.Int.{bit_at}
use Rattle.std.specs.List.{list_all, range_with_len}
use Rattle.anti_replicas.specs.declared.kept_write.KeptWrite.{KeptWrite}

-- the bits of the parts that came to a region, the first part lowest
abbrev pub mask_at : KeptWrite → ℕ → ℕ
mask_at k g = slice_index_or k.marks g 0

-- whether a part, counted from 1, came to a region
abbrev pub came : KeptWrite → ℕ → ℕ → Bool
came k g p = bit_at (mask_at k g) (p - 1) == 1

-- the first part that did not come to the region
abbrev pub first_missing : KeptWrite → ℕ → Option ℕ
first_missing k g = find (λ p. not (came k g p)) (range_with_len 1 k.parts)

-- whether all parts came to the region
abbrev pub has_all : ℕ → KeptWrite → Bool
has_all g k = list_all (came k g) (range_with_len 1 k.parts)

-- with the mark of a part at a region: its bit, of a byte
abbrev pub marked : ℕ → ℕ → KeptWrite → KeptWrite
marked g p k = record { row = k.row; parts = k.parts; number = k.number; marks = slice_set k.marks g (bit_or (mask_at k g) (1 * 2 ^ (p - 1) % 2 ^ 8)) }
