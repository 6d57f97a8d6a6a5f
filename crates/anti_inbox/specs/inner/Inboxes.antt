-- How an inbox stands for a history.
use Rattle.std.specs.Prelude.{◌≡◌, ℕ, ◌+◌, ◌-◌, ◌≤◌, List, length, map, take}
use Rattle.anti_kind.specs.declared.entry.Entry.{Entry}
use Rattle.anti_kind.specs.declared.message.Message.{Message}
use Rattle.anti_kind.specs.Inbox.{messages, deliveries, free}
use Rattle.anti_kind.specs.inner.Owing.{numbers}
use Rattle.anti_kind.specs.Objects.{Start, inbox, held, owed}
use Rattle.anti_kind.specs.Machines.{StandsFor}
use Rattle.anti_inbox.specs.declared.inbox.Fate.{Fate}
use Rattle.anti_inbox.specs.declared.inbox.Inbox.{Inbox}
use Rattle.anti_inbox.specs.inner.Fates.{fate_of}

-- the first messages are the requests
abbrev pub requests_of : Inbox → List Message
requests_of m = take m.requests m.messages.items

abbrev pub start_of : Inbox → Start
start_of m = inbox (requests_of m)

-- m has the messages of the history, what became of each, and the free deliveries, and no more came than the history has
pub record Knows (m : Inbox) (h : List Entry) : Type 0 where
  pub requests_within : m.requests ≤ length m.messages.items
  pub messages_are : m.messages.items ≡ messages (requests_of m) h
  pub fates_are : m.fates.items ≡ map (fate_of h) (numbers (requests_of m) h)
  pub free_are : m.free.items ≡ free (requests_of m) h
  pub came_within : m.free.next ≤ length (deliveries (requests_of m) h)

-- and the units that it holds and owes
pub record InboxStands (m : Inbox) (h : List Entry) : Type 0 where
  pub knows : Knows m h
  pub held_is : m.held ≡ held h
  pub owed_is : m.owed ≡ owed (start_of m) h

-- m stands for h, which is legal
abbrev pub At : Inbox → List Entry → Type 0
At m h = StandsFor (start_of m) (InboxStands m) h

-- n has the requests and the units of m
pub record Keeps (m n : Inbox) : Type 0 where
  pub requests_are : requests_of n ≡ requests_of m
  pub held_is : n.held ≡ m.held
  pub owed_is : n.owed ≡ m.owed

-- n is m with these messages, fates and free deliveries, of which no more came than these are more
pub record Turns (m n : Inbox) (messages : List Message) (fates : List Fate) (free : List ℕ) : Type 0 where
  pub requests_is : n.requests ≡ m.requests
  pub messages_are : n.messages.items ≡ messages
  pub fates_are : n.fates.items ≡ fates
  pub free_are : n.free.items ≡ free
  pub came_within : n.free.next ≤ m.free.next + (length free - length m.free.items)
  pub held_is : n.held ≡ m.held
  pub owed_is : n.owed ≡ m.owed
