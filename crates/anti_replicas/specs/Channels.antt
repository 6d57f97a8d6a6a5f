-- How many writes each channel of a queue or a topic has, beside a history.
use Rattle.std.specs.Prelude.{◌≡◌, ℕ, List, Option, IsSome, unwrap_or, count_by}
use Rattle.std.specs.BTreeMap as tree
use Rattle.std.specs.Cmp.Lexicographic.{slice_cmp}
use Rattle.std.specs.Ordering.{nat_cmp}
use Rattle.anti_kind.specs.declared.entry.Entry.{Entry}
use Rattle.anti_kind.specs.Stored.{rows, is_in}
use Rattle.anti_replicas.specs.declared.channels.Channels.{Channels}

-- the count that stands beside a channel
abbrev pub place_of : Channels → List ℕ → Option ℕ
place_of m c = tree.get (slice_cmp nat_cmp) m.counts c

-- how many writes the channel has, 0 where it has no place
abbrev pub count_at : Channels → List ℕ → ℕ
count_at m c = unwrap_or (place_of m c) 0

abbrev pub HasChannel : Channels → List ℕ → Type 0
HasChannel m c = IsSome (place_of m c)

-- the counts are those of the history's writes
pub record Counts (m : Channels) (h : List Entry) : Type 0 where
  pub counted : (c : List ℕ) → count_at m c ≡ count_by (is_in c) (rows h)
