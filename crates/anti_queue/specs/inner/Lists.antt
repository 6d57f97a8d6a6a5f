-- The subscriptions with their lists of free messages.
use Rattle.std.specs.Prelude.{◌≡◌, ℕ, ◌<◌, ◌≤◌, Bool, ◌&&◌, List, length, map, filter, count_by, slice_index_or}
use Rattle.std.specs.VecDeque.{deque_len, deque_capacity}
use Rattle.anti_kind.specs.declared.entry.Entry.{Entry}
use Rattle.anti_kind.specs.declared.store_kind.Sub.{Sub}
use Rattle.anti_kind.specs.Stored.{rows, is_in, is_shipped}
use Rattle.anti_kind.specs.Store.{Store, is_free}
use Rattle.anti_kind.specs.Cells.{is_cell}
use Rattle.anti_queue.specs.declared.subscribers.Subscriber.{Subscriber}
use Rattle.anti_queue.specs.declared.subscribers.Subscribers.{Subscribers}
use Rattle.anti_queue.specs.inner.Splits.{SetsVersion}

abbrev pub subs_of : Subscribers → List Sub
subs_of m = map (λ x. x.sub) m.list.items

-- the versions of the messages that are free for a subscription, in their order
abbrev pub free_versions : Store → List Entry → Sub → List ℕ
free_versions s h sub = map (λ r. r.version) (filter (is_free s h sub) (rows h))

-- its list has just these, and room for one message more than its channel has
pub record HasFree (s : Store) (h : List Entry) (x : Subscriber) : Type 0 where
  pub items : x.free.versions.items ≡ free_versions s h x.sub
  pub room : count_by (is_in x.sub.channel) (rows h) < deque_capacity x.free.versions

abbrev pub HaveFree : Store → List Entry → List Subscriber → Type 0
HaveFree s h xs = (i : ℕ) (d : Subscriber) → i < length xs → HasFree s h (slice_index_or xs i d)

-- Room.

-- y is x, with more room perhaps
pub record HasMoreRoom (x y : Subscriber) : Type 0 where
  pub sub : y.sub ≡ x.sub
  pub items : y.free.versions.items ≡ x.free.versions.items
  pub capacity : deque_capacity x.free.versions ≤ deque_capacity y.free.versions

pub record HaveMoreRoom (xs ys : List Subscriber) : Type 0 where
  pub many : length ys ≡ length xs
  pub each : (i : ℕ) (d : Subscriber) → i < length xs → HasMoreRoom (slice_index_or xs i d) (slice_index_or ys i d)

-- the subscriptions to the channel have room for so many
abbrev pub HaveRoom : List ℕ → ℕ → List Subscriber → Type 0
HaveRoom channel n xs =
    (i : ℕ) (d : Subscriber) → i < length xs → (slice_index_or xs i d).sub.channel ≡ channel → n ≤ deque_capacity (slice_index_or xs i d).free.versions

-- the list of a subscription has room for one version, and so have all lists
abbrev pub HasSpare : Subscriber → Type 0
HasSpare x = deque_len x.free.versions < deque_capacity x.free.versions

abbrev pub HaveSpare : List Subscriber → Type 0
HaveSpare xs = (i : ℕ) (d : Subscriber) → i < length xs → HasSpare (slice_index_or xs i d)

-- Sorting in.

-- whether a message is free for a subscription, from whether it can be handed out at all: it is one of the channel, and came to
-- the region (it has one part)
abbrev pub is_free_to : List Entry → ℕ → Bool → Sub → Bool
is_free_to h v can_go_out sub = can_go_out && (is_cell h v sub.channel && is_shipped h sub.region v 1)

-- y is x with the version in its list if it is free, and else not there
pub record IsSorted (h : List Entry) (v : ℕ) (can_go_out : Bool) (x y : Subscriber) : Type 0 where
  pub sub : y.sub ≡ x.sub
  pub items : SetsVersion x.free.versions.items v (is_free_to h v can_go_out x.sub) y.free.versions.items
  pub capacity : deque_capacity x.free.versions ≤ deque_capacity y.free.versions

pub record AreSorted (h : List Entry) (v : ℕ) (can_go_out : Bool) (xs ys : List Subscriber) : Type 0 where
  pub many : length ys ≡ length xs
  pub each : (i : ℕ) (d : Subscriber) → i < length xs → IsSorted h v can_go_out (slice_index_or xs i d) (slice_index_or ys i d)
