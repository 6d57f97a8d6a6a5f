-- What is kept of the messages: whether each is out, whether it is done, and how many times it was pulled.
use Rattle.std.specs.Prelude.{◌≡◌, ℕ, ◌+◌, ◌-◌, ◌<◌, ◌≤◌, Bool, true, false, not, ◌&&◌, nat_lt, List, length, slice_index_or, slice_set}
use Rattle.anti_ids.specs.declared.limits.TheConstants.{MOST_UNITS, MOST_TRIES}
use Rattle.anti_kind.specs.declared.entry.Entry.{Entry}
use Rattle.anti_kind.specs.Stored.{rows}
use Rattle.anti_kind.specs.Store.{pulls, is_acked, is_out, outs}
use Rattle.anti_queue.specs.declared.message_states.MessageState.{MessageState}
use Rattle.anti_queue.specs.declared.message_states.MessageStates.{MessageStates}

-- what is kept of the message of version v
pub record IsMessage (h : List Entry) (v : ℕ) (m : MessageState) : Type 0 where
  pub out : m.out ≡ is_out h v
  pub acked : m.acked ≡ is_acked h v
  pub pulls_are : m.pulls ≡ pulls h v

-- what is kept of the messages of a history
pub record AreMessages (m : MessageStates) (h : List Entry) : Type 0 where
  pub many : length m.list.items ≡ length (rows h)
  pub each : (i : ℕ) (d : MessageState) → i < length m.list.items → IsMessage h (i + 1) (slice_index_or m.list.items i d)
  pub count : m.out ≡ outs h

-- whether a message can be handed out, at the most so many times
abbrev pub can_go_out : List Entry → ℕ → ℕ → Bool
can_go_out h v tries = not (is_out h v) && (not (is_acked h v) && nat_lt (pulls h v) tries)

-- A message that is written, pulled, done, or given back.

abbrev pub new_message : MessageState
new_message = record { out = false; acked = false; pulls = 0 }

abbrev pub pulled : MessageState → MessageState
pulled m = record { out = true; acked = m.acked; pulls = m.pulls + 1 }

abbrev pub done : MessageState → MessageState
done m = record { out = false; acked = true; pulls = m.pulls }

abbrev pub given_back : MessageState → MessageState
given_back m = record { out = false; acked = m.acked; pulls = m.pulls }

-- n is m with the message of version v changed
abbrev pub Changes : (MessageState → MessageState) → ℕ → MessageStates → MessageStates → Type 0
Changes change v m n = (d : MessageState) → n.list.items ≡ slice_set m.list.items (v - 1) (change (slice_index_or m.list.items (v - 1) d))

-- the version is that of a message, which can be pulled once more
pub record Pullable (m : MessageStates) (v : ℕ) : Type 0 where
  pub first : 1 ≤ v
  pub kept : v ≤ length m.list.items
  pub tries : (d : MessageState) → (slice_index_or m.list.items (v - 1) d).pulls < MOST_TRIES
  pub units : m.out < MOST_UNITS

-- the version is that of a message, and some are out
pub record Settleable (m : MessageStates) (v : ℕ) : Type 0 where
  pub first : 1 ≤ v
  pub kept : v ≤ length m.list.items
  pub some : 1 ≤ m.out
