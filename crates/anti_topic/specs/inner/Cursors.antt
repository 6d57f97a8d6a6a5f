-- How far the subscriptions have come after a history.
use Rattle.std.specs.Prelude.{◌≡◌, ℕ, ◌+◌, ◌-◌, ◌^◌, min, List, Some, slice_get}
use Rattle.anti_kind.specs.declared.entry.Entry.{Entry}
use Rattle.anti_kind.specs.declared.store_kind.Sub.{Sub}
use Rattle.anti_kind.specs.Store.{cursor}
use Rattle.anti_kind.specs.Cells.{last_pulled}
use Rattle.anti_topic.specs.declared.pull_cursor.PullCursor.{PullCursor}

-- how far the subscription of this number, to this channel, has come
pub record IsCursor (h : List Entry) (n : ℕ) (channel : List ℕ) (at : PullCursor) : Type 0 where
  pub count : at.count ≡ cursor h n
  pub last : at.last ≡ last_pulled h n channel

abbrev pub AreCursors : List Sub → List PullCursor → List Entry → Type 0
AreCursors subs cursors h =
    (n : ℕ) (sub : Sub) (at : PullCursor) → slice_get subs n ≡ Some sub → slice_get cursors n ≡ Some at
    → IsCursor h n sub.channel at

-- a cursor on by one, at a version
abbrev pub moved : PullCursor → ℕ → PullCursor
moved at version = record { count = min (at.count + 1) (2 ^ 64 - 1); last = version }
