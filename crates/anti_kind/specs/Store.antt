-- The tables of the kinds of store: which calls are ready after a history, what they are due, and the units that they need.
use Rattle.std.specs.Prelude.{ℕ, ◌+◌, ◌*◌, max, Bool, true, false, cond, not, ◌&&◌, ◌||◌, List, [], ◌∷◌, ◌++◌, length, take, ◌==◌, nat_lt, nat_le, bytes_eq, Option, None, Some, is_some, unwrap_or, option_and_then, find, filter, count_by, sum_by, slice_get, decimal}
use Rattle.std.specs.List.{list_any, list_all}
use Rattle.std.specs.Option.{option_map_or}
use Rattle.std.specs.Ordering.{nat_cmp, is_lt}
use Rattle.std.specs.Cmp.Lexicographic.{slice_cmp}
use Rattle.anti_ids.specs.Ascii.{hash}
use Rattle.anti_ids.specs.Names.{is_plain}
use Rattle.anti_ids.specs.List.{plain}
use Rattle.anti_ids.specs.Ids.{has_id, with_ids}
use Rattle.anti_ids.specs.declared.id.WriteId.{WriteId}
use Rattle.anti_ids.specs.declared.limits.TheConstants.{MOST_IDS, MOST_UNITS}
use Rattle.anti_kind.specs.declared.call.Call.{Call}
use Rattle.anti_kind.specs.declared.call.Call.TheVariants.{Write, Read, Scan, Poll, Look, Ship, Again, Pull, Repull, Ack, Nack}
use Rattle.anti_kind.specs.declared.call.Reply.{Reply}
use Rattle.anti_kind.specs.declared.call.Reply.TheVariants.{Written, Shown, Missing, Moved, Pulled, Done}
use Rattle.anti_kind.specs.declared.entry.Entry.{Entry}
use Rattle.anti_kind.specs.declared.row.Row.{Row}
use Rattle.anti_kind.specs.declared.store_kind.Sub.{Sub}
use Rattle.anti_kind.specs.declared.store_kind.StoreKind.{StoreKind}
use Rattle.anti_kind.specs.Kinds.{facts_of}
use Rattle.anti_kind.specs.Stored.{rows, row_of, is_shipped, parts_of, parts, is_whole, greatest, shows_of, is_in}

-- What a store starts as: its kind, its number, the regions of its replicas, its subscriptions, how many times a message of a
-- queue is handed out at most, how many keys a cache of it holds, and what a region of it shows for a key after a history, 0 for nothing.
pub record Store : Type 0 where
  pub kind : StoreKind
  pub number : ℕ
  pub regions : List ℕ
  pub subs : List Sub
  pub tries : ℕ
  pub room : ℕ
  pub shows : List Entry → ℕ → List ℕ → ℕ

-- the stores whose regions show the greatest version that is whole there
abbrev pub store_of : StoreKind → ℕ → List ℕ → List Sub → ℕ → Store
store_of kind number regions subs tries =
    record { kind = kind; number = number; regions = regions; subs = subs; tries = tries; room = 0; shows = shows_of kind }

-- Writing.

-- the key that a write gets: the given one, but in a queue and a topic c#n for the nth write to the channel c
abbrev pub key_for : StoreKind → List Entry → List ℕ → List ℕ
key_for kind h key = cond (facts_of kind).keyed key (key ++ hash ∷ decimal (count_by (is_in key) (rows h) + 1))

-- the row of the write that one to a key replaces: of those with the key that of the greatest version
abbrev pub replaced : List Entry → List ℕ → Option Row
replaced h key = row_of h (greatest (λ r. true) key (rows h))

-- what a replaced write leaves to the one that replaces it: its id, and what is kept beside it
abbrev pub left_by : ℕ → Option Row → List WriteId
left_by store None = []
left_by store (Some r) = record { store = store; key = r.key; version = r.version } ∷ r.lineage

-- the lineage with what is left, where any of that is new
abbrev pub with_left : List WriteId → List WriteId → Option (List WriteId)
with_left left lineage = cond (list_all (λ i. has_id i lineage) left) None (Some (with_ids left lineage))

-- what the reply to a write tells that it keeps
abbrev pub told_over : Store → List Entry → List ℕ → List WriteId → Option (List WriteId)
told_over s h key lineage = with_left (left_by s.number (replaced h key)) lineage

-- a lineage that takes in what a replaced write leaves
abbrev pub with_replaced : ℕ → Option Row → List WriteId → List WriteId
with_replaced store row lineage = unwrap_or (with_left (left_by store row) lineage) lineage

-- the lineage that a write to a key keeps
abbrev pub over : Store → List Entry → List ℕ → List WriteId → List WriteId
over s h key lineage = with_replaced s.number (replaced h key) lineage

-- Shipping.

abbrev pub is_replica : Store → ℕ → Bool
is_replica s g = list_any (λ region. region == g) s.regions

-- whether a part is one of a row that was found
abbrev pub has_part : StoreKind → Option Row → ℕ → Bool
has_part kind found p = option_map_or (λ r. nat_le 1 p && nat_le p (parts_of kind r.value)) found false

-- whether all versions below v were shipped to g
abbrev pub is_next : List Entry → ℕ → ℕ → Bool
is_next h g v = list_all (λ r. nat_le v r.version || is_shipped h g r.version 1) (rows h)

abbrev pub can_ship : Store → List Entry → ℕ → ℕ → ℕ → Bool
can_ship s h g v p =
    is_replica s g && (has_part s.kind (row_of h v) p && (not (is_shipped h g v p) && (not (facts_of s.kind).ordered || is_next h g v)))

-- Looking.

abbrev pub is_visible : Store → List Entry → ℕ → WriteId → Bool
is_visible s h g id = nat_le id.version (s.shows h g id.key)

abbrev pub is_written : List Entry → WriteId → Bool
is_written h id = list_any (λ r. (r.version == id.version) && bytes_eq r.key id.key) (rows h)

-- whether every id is of this store, and the look is dry, or nothing is missing, or something is unwritten
abbrev pub can_look : Store → List Entry → ℕ → List WriteId → Bool → Bool
can_look s h g ids dry =
    is_replica s g && (list_all (λ id. id.store == s.number) ids && (dry || (list_all (is_visible s h g) ids || not (list_all (is_written h) ids))))

-- Reading.

abbrev pub absent : List ℕ → Row
absent k = record { key = k; version = 0; value = []; lineage = [] }

-- the row that g shows for the key k
abbrev pub shown_row : Store → List Entry → ℕ → List ℕ → Row
shown_row s h g k = unwrap_or (row_of h (s.shows h g k)) (absent k)

-- a row put among rows that ascend by the bytes of their keys
abbrev pub by_key : Row → List Row → List Row
by_key r [] = r ∷ []
by_key r (x ∷ rest) = cond (is_lt (slice_cmp nat_cmp r.key x.key)) (r ∷ x ∷ rest) (x ∷ by_key r rest)

abbrev pub sorted : List Row → List Row
sorted [] = []
sorted (r ∷ rest) = by_key r (sorted rest)

-- the rows that g shows for all keys with the prefix, ascending by the bytes of the key
abbrev pub scanned : Store → List Entry → ℕ → List ℕ → List Row
scanned s h g prefix = sorted (filter (λ r. bytes_eq prefix (take (length prefix) r.key) && (s.shows h g r.key == r.version)) (rows h))

-- Handing out: a queue's messages and a topic's cells.

abbrev pub is_pull : Call → Bool
is_pull (Pull sub) = true
is_pull _ = false

abbrev pub is_pull_by : ℕ → Call → Bool
is_pull_by n (Pull sub) = sub == n
is_pull_by n _ = false

abbrev pub is_ack : ℕ → Call → Bool
is_ack v (Ack version) = version == v
is_ack v _ = false

abbrev pub is_nack : ℕ → Call → Bool
is_nack v (Nack version) = version == v
is_nack v _ = false

abbrev pub gives : ℕ → Reply → Bool
gives v (Pulled r) = r.version == v
gives v _ = false

-- how many times the message of version v was pulled, and how many times given back or done
abbrev pub pulls : List Entry → ℕ → ℕ
pulls h v = count_by (λ e. is_pull e.call && gives v e.reply) h

abbrev pub settles : List Entry → ℕ → ℕ
settles h v = count_by (λ e. is_ack v e.call || is_nack v e.call) h

abbrev pub is_acked : List Entry → ℕ → Bool
is_acked h v = list_any (λ e. is_ack v e.call) h

-- whether the message of version v was pulled once more than it was given back or done
abbrev pub is_out : List Entry → ℕ → Bool
is_out h v = pulls h v == settles h v + 1

-- whether a message is free for a subscription
abbrev pub is_free : Store → List Entry → Sub → Row → Bool
is_free s h sub r =
    is_in sub.channel r && (is_whole s.kind h sub.region r && (not (is_out h r.version) && (not (is_acked h r.version) && nat_lt (pulls h r.version) s.tries)))

-- the cells of a channel, in the order in which they were written
abbrev pub cells : List Entry → List ℕ → List Row
cells h channel = filter (is_in channel) (rows h)

-- how many cells a subscription has pulled
abbrev pub cursor : List Entry → ℕ → ℕ
cursor h n = count_by (λ e. is_pull_by n e.call) h

-- what the subscription numbered n would pull: the first that is free, where messages are tried, else the next cell, where cells are
-- polled and it is whole
abbrev pub next_of : Bool → Bool → Store → List Entry → ℕ → Sub → Option Row
next_of true polled s h n sub = find (is_free s h sub) (rows h)
next_of false true s h n sub =
    option_and_then (λ r. cond (is_whole s.kind h sub.region r) (Some r) None) (slice_get (cells h sub.channel) (cursor h n))
next_of false false s h n sub = None

abbrev pub next : Store → List Entry → ℕ → Option Row
next s h n = option_and_then (next_of (facts_of s.kind).tried (facts_of s.kind).polled s h n) (slice_get s.subs n)

-- whether the subscription pulled the cell of version v
abbrev pub was_pulled : List Entry → ℕ → ℕ → Bool
was_pulled h n v = list_any (λ e. is_pull_by n e.call && gives v e.reply) h

-- The tables.

abbrev pub store_ready : Store → List Entry → Call → Bool
store_ready s h (Write key value lineage) = (facts_of s.kind).keyed || is_plain key
store_ready s h (Ship g v p) = can_ship s h g v p
store_ready s h (Again g v p) = is_shipped h g v p
store_ready s h (Look g ids dry) = can_look s h g ids dry
store_ready s h (Read g k) = (facts_of s.kind).keyed && is_replica s g
store_ready s h (Scan g prefix) = (facts_of s.kind).scanned && is_replica s g
store_ready s h (Poll g k) = (facts_of s.kind).polled && is_replica s g
store_ready s h (Pull n) = is_some (next s h n)
store_ready s h (Repull n v) = (facts_of s.kind).polled && was_pulled h n v
store_ready s h (Ack v) = (facts_of s.kind).tried && is_out h v
store_ready s h (Nack v) = (facts_of s.kind).tried && is_out h v
store_ready s h _ = false

abbrev pub store_due : Store → List Entry → Call → Reply
store_due s h (Write key value lineage) = Written (key_for s.kind h key) (length (rows h) + 1) (told_over s h key lineage)
store_due s h (Ship g v p) = Moved
store_due s h (Again g v p) = Moved
store_due s h (Look g ids dry) = Missing (filter (λ id. not (is_visible s h g id)) ids) (filter (λ id. not (is_written h id)) ids)
store_due s h (Read g k) = Shown (plain (shown_row s h g k ∷ []))
store_due s h (Scan g prefix) = Shown (plain (scanned s h g prefix))
store_due s h (Poll g k) = Shown (plain (shown_row s h g k ∷ []))
store_due s h (Pull n) = Pulled (unwrap_or (next s h n) (absent []))
store_due s h (Repull n v) = Pulled (unwrap_or (row_of h v) (absent []))
store_due s h _ = Done

-- A write whose lineage would have more ids than a lineage may have needs more units than an object has.
abbrev pub store_need : Store → List Entry → Call → ℕ
store_need s h (Write key value lineage) =
    cond (nat_le (length (over s h key lineage)) MOST_IDS) (1 + length s.regions * parts_of s.kind value) (MOST_UNITS + 1)
store_need s h (Ship g v p) = 0
store_need s h (Scan g prefix) = max 1 (length (scanned s h g prefix))
store_need s h (Pull n) = cond (facts_of s.kind).tried 2 1
store_need s h (Ack v) = 0
store_need s h (Nack v) = 0
store_need s h _ = 1

-- the shipments that were not made: of each row, to each region, each part
abbrev pub owed_shipments : Store → List Entry → ℕ
owed_shipments s h = sum_by (λ r. sum_by (λ g. count_by (λ p. not (is_shipped h g r.version p)) (parts s.kind r)) s.regions) (rows h)

-- how many messages are out
abbrev pub outs : List Entry → ℕ
outs h = count_by (λ r. is_out h r.version) (rows h)

-- the units reserved: one for each shipment that was not made, and where messages are tried one for each that is out
abbrev pub store_owed : Store → List Entry → ℕ
store_owed s h = owed_shipments s h + cond (facts_of s.kind).tried (outs h) 0
