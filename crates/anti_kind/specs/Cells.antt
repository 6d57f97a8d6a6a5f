-- The cells of a channel, by their keys and by their versions, and the last of them that a subscription of a topic pulled.
use Rattle.std.specs.Prelude.{ℕ, zero, suc, Bool, false, List, [], ◌∷◌, ◌++◌, Option, None, Some, get_or, decimal}
use Rattle.anti_ids.specs.Ascii.{hash}
use Rattle.anti_kind.specs.declared.entry.Entry.{Entry}
use Rattle.anti_kind.specs.declared.row.Row.{Row}
use Rattle.anti_kind.specs.Stored.{row_of, is_in}
use Rattle.anti_kind.specs.Store.{absent, cells, cursor}

-- the key of the nth cell of a channel
abbrev pub cell_key : List ℕ → ℕ → List ℕ
cell_key channel n = channel ++ hash ∷ decimal n

-- whether a row that was found is one of the channel
abbrev pub is_row_in : List ℕ → Option Row → Bool
is_row_in channel None = false
is_row_in channel (Some r) = is_in channel r

-- whether a version is that of a cell of the channel
abbrev pub is_cell : List Entry → ℕ → List ℕ → Bool
is_cell h v channel = is_row_in channel (row_of h v)

-- the version of the nth row, and 0 for n = 0
abbrev pub nth_version : List Row → ℕ → ℕ
nth_version rs zero = 0
nth_version rs (suc i) = (get_or rs i (absent [])).version

-- the version of the last cell of the channel that a subscription pulled, 0 where it pulled none
abbrev pub last_pulled : List Entry → ℕ → List ℕ → ℕ
last_pulled h n channel = nth_version (cells h channel) (cursor h n)
