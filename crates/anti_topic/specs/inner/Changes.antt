-- What a pull does to a topic, and which calls change no channel and no cursor.
use Rattle.std.specs.Prelude.{◌≡◌, ℕ, slice_set, slice_index_or}
use Rattle.anti_kind.specs.declared.call.Call.{Call}
use Rattle.anti_kind.specs.declared.call.Call.TheVariants.{Write, Pull}
use Rattle.anti_topic.specs.declared.pull_cursor.PullCursor.{PullCursor}
use Rattle.anti_topic.specs.declared.topic_store.Topic.{Topic}
use Rattle.anti_topic.specs.inner.Cursors.{moved}

-- a call that writes and pulls nothing
abbrev pub IsQuiet : Call → Type 0
IsQuiet (Write key value lineage) = ⊥
IsQuiet (Pull sub) = ⊥
IsQuiet _ = Unit {0}

-- n is m with the cursor of one subscription on by one, at a version
pub record MovesOn (m n : Topic) (number version : ℕ) : Type 0 where
  pub base_is : n.base ≡ m.base
  pub channels_are : n.channels ≡ m.channels
  pub subs_are : n.subs ≡ m.subs
  pub cursors_are : (d : PullCursor) → n.cursors.items
      ≡ slice_set m.cursors.items number (moved (slice_index_or m.cursors.items number d) version)
