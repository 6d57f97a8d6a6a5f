-- The tables at work: short runs of each kind of store and of an inbox, replayed by computation.
use Rattle.std.specs.Prelude.{◌≡◌, codes, ℕ, ◌+◌, Bool, true, false, ◌&&◌, Some, None, refl, List, [], ◌∷◌, ◌++◌, length, take, map, replicate}
use Rattle.std.specs.Fmt.{digits}
use Rattle.std.specs.List.{range_with_len}
use Rattle.anti_ids.specs.List.{plain}
use Rattle.anti_ids.specs.declared.id.WriteId.{WriteId}
use Rattle.anti_ids.specs.declared.limits.TheConstants.{MOST_IDS}
use Rattle.anti_kind.specs.declared.actor.Actor.TheVariants.{Carrier}
use Rattle.anti_kind.specs.declared.call.Call.{Call}
use Rattle.anti_kind.specs.declared.call.Call.TheVariants.{Write, Read, Scan, Poll, Look, Ship, Again, Pull, Repull, Ack, Nack, Post, Take, Repost, TakeReply}
use Rattle.anti_kind.specs.declared.call.Reply.{Reply}
use Rattle.anti_kind.specs.declared.call.Reply.TheVariants.{Written, Shown, Missing, Moved, Pulled, Posted, Got, Done}
use Rattle.anti_kind.specs.declared.entry.Entry.{Entry}
use Rattle.anti_kind.specs.declared.message.Message.{Message}
use Rattle.anti_kind.specs.declared.message.MessageKind.{MessageKind}
use Rattle.anti_kind.specs.declared.message.MessageKind.TheVariants as kinds
use Rattle.anti_kind.specs.declared.row.Row.{Row}
use Rattle.anti_kind.specs.declared.store_kind.StoreKind.TheVariants.{Kv, Table, Blob, Queue, Topic, Cached}
use Rattle.anti_kind.specs.Stored.{parts_of}
use Rattle.anti_kind.specs.Shipments.{upto_of, next_ship}
use Rattle.anti_kind.specs.Store.{store_of, is_visible}
use Rattle.anti_kind.specs.Starts.{cached_store, kv_store, table_store}
use Rattle.anti_kind.specs.Caches.{cache, stale}
use Rattle.anti_kind.specs.Inbox.{free}
use Rattle.anti_kind.specs.Replies.{speaks_of, shown}
use Rattle.anti_kind.specs.Laws.{KeepsLaws}
use Rattle.anti_kind.specs.Fulls.{is_asking}
use Rattle.anti_kind.proofs.Keeping.{keeps_laws}
use Rattle.anti_kind.proofs.Caching.{kinds_keep_laws}
use Rattle.anti_kind.specs.Objects.{Start, store, inbox, ready, due, need, held, owed, fits, last_stamp}

-- the entry that a carrier's call makes
abbrev made : Start → List Entry → Call → Entry
made start h call = record {
  stamp = last_stamp h + 1;
  object = 0;
  place = length h + 1;
  seat = 0;
  actor = Carrier 0;
  span = 0;
  call = call;
  reply = due start h call;
}

-- the history after further calls
abbrev after : Start → List Entry → List Call → List Entry
after start h [] = h
after start h (call ∷ rest) = after start (h ++ made start h call ∷ []) rest

-- whether each of the calls is ready and fits when it comes
abbrev goes : Start → List Entry → List Call → Bool
goes start h [] = true
goes start h (call ∷ rest) = ready start h call && (fits start h call && goes start (h ++ made start h call ∷ []) rest)

abbrev replies : Start → List Call → List Reply
replies start calls = map (λ e. e.reply) (after start [] calls)

-- A run: its calls, each with the reply that it is to get.

abbrev Run : Type 0
Run = List (Call × Reply)

abbrev calls_of : Run → List Call
calls_of run = map (λ step. step.0) run

abbrev replies_of : Run → List Reply
replies_of run = map (λ step. step.1) run

-- Words: a row, the reply that shows one row or none, and an id.

abbrev row : List ℕ → ℕ → List ℕ → List WriteId → Row
row key version value lineage = record { key = key; version = version; value = value; lineage = lineage }

abbrev shows : Row → Reply
shows r = Shown (plain (r ∷ []))

abbrev shows_none : List ℕ → Reply
shows_none key = shows (row key 0 [] [])

-- the id of this version of a key, in the store 0
abbrev id : List ℕ → ℕ → WriteId
id key version = record { store = 0; key = key; version = version }

-- Keys, values and channels.

abbrev j : List ℕ
j = codes "j"

abbrev k : List ℕ
k = codes "k"

abbrev k1 : List ℕ
k1 = codes "k1"

abbrev row_a : List ℕ
row_a = codes "row-a"

abbrev row_b : List ℕ
row_b = codes "row-b"

abbrev a : List ℕ
a = codes "a"

abbrev b : List ℕ
b = codes "b"

-- the channel c, and the keys of its messages
abbrev c : List ℕ
c = codes "c"

abbrev c1 : List ℕ
c1 = codes "c#1"

abbrev c2 : List ℕ
c2 = codes "c#2"

-- the channel n, and the keys of its cells
abbrev n : List ℕ
n = codes "n"

abbrev n1 : List ℕ
n1 = codes "n#1"

abbrev n2 : List ℕ
n2 = codes "n#2"

-- A kv store with one region: a later version shown stays when an earlier one comes, and when it comes again. It keeps the id of the
-- version that it replaced.

abbrev kv : Start
kv = store (kv_store 0 (0 ∷ []))

-- what the second write keeps: the first
abbrev kv_over : List WriteId
kv_over = id k 1 ∷ []

abbrev kv_run : Run
kv_run =
    (Write k a [], Written k 1 None)
    ∷ (Write k b [], Written k 2 (Some kv_over))
    ∷ (Ship 0 2 1, Moved)
    ∷ (Read 0 k, shows (row k 2 b kv_over))
    ∷ (Ship 0 1 1, Moved)
    ∷ (Read 0 k, shows (row k 2 b kv_over))
    ∷ (Again 0 1 1, Moved)
    ∷ (Read 0 k, shows (row k 2 b kv_over))
    ∷ []

abbrev kv_calls : List Call
kv_calls = calls_of kv_run

kv_goes : goes kv [] kv_calls ≡ true
kv_goes = refl

kv_replies : replies kv kv_calls ≡ replies_of kv_run
kv_replies = refl

kv_held : held (after kv [] kv_calls) ≡ 8
kv_held = refl

kv_owed : owed kv (after kv [] kv_calls) ≡ 0
kv_owed = refl

-- a third would keep both, and one that hands both in tells nothing; a write to another key keeps what it hands in
kv_third : due kv (after kv [] kv_calls) (Write k a []) ≡ Written k 3 (Some (id k 1 ∷ id k 2 ∷ []))
kv_third = refl

kv_carried : due kv (after kv [] kv_calls) (Write k a (id k 1 ∷ id k 2 ∷ [])) ≡ Written k 3 None
kv_carried = refl

kv_other_key : due kv (after kv [] kv_calls) (Write j a []) ≡ Written j 3 None
kv_other_key = refl

-- as many ids as a lineage may have: where another comes from the write that is replaced, none fits
abbrev many : List WriteId
many = map (id j) (range_with_len 1 MOST_IDS)

kv_many : need kv [] (Write k a many) ≡ 2
kv_many = refl

kv_too_many : need kv (after kv [] kv_calls) (Write k a many) ≡ 4097
kv_too_many = refl

-- both are written, and the second was shipped
abbrev kv_between : List Entry
kv_between = after kv [] (take 3 kv_calls)

kv_owed_between : owed kv kv_between ≡ 1
kv_owed_between = refl

kv_upto_between : upto_of Kv kv_between 0 ≡ 0
kv_upto_between = refl

kv_upto : upto_of Kv (after kv [] kv_calls) 0 ≡ 2
kv_upto = refl

kv_no_part : ready kv (after kv [] kv_calls) (Ship 0 2 2) ≡ false
kv_no_part = refl

kv_no_version : ready kv (after kv [] kv_calls) (Ship 0 3 1) ≡ false
kv_no_version = refl

kv_no_version_0 : ready kv (after kv [] kv_calls) (Ship 0 0 1) ≡ false
kv_no_version_0 = refl

kv_no_second_ship : ready kv (after kv [] kv_calls) (Ship 0 1 1) ≡ false
kv_no_second_ship = refl

kv_no_region : ready kv (after kv [] kv_calls) (Read 1 k) ≡ false
kv_no_region = refl

kv_absent : due kv (after kv [] kv_calls) (Read 0 j) ≡ shows_none j
kv_absent = refl

-- Looks: they wait for what is missing, unless they are dry or an id was never written.

abbrev kv_written : List Entry
kv_written = after kv [] (Write k a [] ∷ [])

look_waits : ready kv kv_written (Look 0 (id k 1 ∷ []) false) ≡ false
look_waits = refl

look_dry : ready kv kv_written (Look 0 (id k 1 ∷ []) true) ≡ true
look_dry = refl

look_dry_names : due kv kv_written (Look 0 (id k 1 ∷ []) true) ≡ Missing (id k 1 ∷ []) []
look_dry_names = refl

look_unwritten : ready kv kv_written (Look 0 (id k 9 ∷ []) false) ≡ true
look_unwritten = refl

look_unwritten_names : due kv kv_written (Look 0 (id k 9 ∷ []) false) ≡ Missing (id k 9 ∷ []) (id k 9 ∷ [])
look_unwritten_names = refl

look_other_store : ready kv kv_written (Look 0 (record (id k 1) { store = 1 } ∷ []) true) ≡ false
look_other_store = refl

look_clear : due kv (after kv kv_written (Ship 0 1 1 ∷ [])) (Look 0 (id k 1 ∷ []) false) ≡ Missing [] []
look_clear = refl

look_goes : goes kv kv_written (Ship 0 1 1 ∷ Look 0 (id k 1 ∷ []) false ∷ []) ≡ true
look_goes = refl

-- A cached store with one region, whose cache holds one key: it goes on to show the first version that was read, until the second comes
-- again, and a look waits for the cache too. What is read next puts the key out.

abbrev cached : Start
cached = store (cached_store 0 (0 ∷ []) 1)

abbrev cached_behind : Run
cached_behind =
    (Write k a [], Written k 1 None)
    ∷ (Ship 0 1 1, Moved)
    ∷ (Read 0 k, shows (row k 1 a []))
    ∷ (Write k b [], Written k 2 (Some kv_over))
    ∷ (Ship 0 2 1, Moved)
    ∷ (Read 0 k, shows (row k 1 a []))
    ∷ []

abbrev cached_refreshed : Run
cached_refreshed = cached_behind ++ (Again 0 2 1, Moved) ∷ []

abbrev cached_run : Run
cached_run =
    cached_refreshed
    ++ (Read 0 k, shows (row k 2 b kv_over))
    ∷ (Write j a [], Written j 3 None)
    ∷ (Ship 0 3 1, Moved)
    ∷ (Read 0 j, shows (row j 3 a []))
    ∷ []

abbrev cached_at : Run → List Entry
cached_at run = after cached [] (calls_of run)

cached_goes : goes cached [] (calls_of cached_run) ≡ true
cached_goes = refl

cached_replies : replies cached (calls_of cached_run) ≡ replies_of cached_run
cached_replies = refl

cached_look_waits : ready cached (cached_at cached_behind) (Look 0 (id k 2 ∷ []) false) ≡ false
cached_look_waits = refl

cached_stale : stale cached (cached_at cached_behind) 0 ≡ Some 2
cached_stale = refl

cached_fresh : stale cached (cached_at cached_refreshed) 0 ≡ None
cached_fresh = refl

cached_look_goes : ready cached (cached_at cached_refreshed) (Look 0 (id k 2 ∷ []) false) ≡ true
cached_look_goes = refl

cached_held : held (cached_at cached_run) ≡ 11
cached_held = refl

cached_owed : owed cached (cached_at cached_run) ≡ 0
cached_owed = refl

-- the last read put the other key out
cached_last : cache Cached 1 (cached_at cached_run) 0 ≡ (j, 3) ∷ []
cached_last = refl

-- with room for two both are there, and a read brings its key to the front
cached_two : cache Cached 2 (cached_at cached_run) 0 ≡ (j, 3) ∷ (k, 2) ∷ []
cached_two = refl

cached_front : cache Cached 2 (after cached (cached_at cached_run) (Read 0 k ∷ [])) 0 ≡ (k, 2) ∷ (j, 3) ∷ []
cached_front = refl

-- what nothing is whole of comes into no cache
cached_absent : cache Cached 2 (after cached [] (Read 0 k ∷ [])) 0 ≡ []
cached_absent = refl

-- A table: shipments come in the order of the store, and a scan shows the rows by key.

abbrev table : Start
table = store (store_of Table 0 (0 ∷ []) [] 0)

-- the lineage over the first version of row-b, and over both
abbrev over_first : List WriteId
over_first = id row_b 1 ∷ []

abbrev over_both : List WriteId
over_both = id row_b 1 ∷ id row_b 2 ∷ []

abbrev table_run : Run
table_run =
    (Write row_b (codes "1") [], Written row_b 1 None)
    ∷ (Write row_b (codes "2") over_first, Written row_b 2 None)
    ∷ (Write row_a (codes "x") over_both, Written row_a 3 None)
    ∷ (Ship 0 1 1, Moved)
    ∷ (Scan 0 (codes "row"), shows (row row_b 1 (codes "1") []))
    ∷ (Ship 0 2 1, Moved)
    ∷ (Ship 0 3 1, Moved)
    ∷ (Scan 0 (codes "row"), Shown (plain (row row_a 3 (codes "x") over_both ∷ row row_b 2 (codes "2") over_first ∷ [])))
    ∷ []

abbrev table_calls : List Call
table_calls = calls_of table_run

abbrev table_writes : List Call
table_writes = take 3 table_calls

table_in_order : ready table (after table [] table_writes) (Ship 0 3 1) ≡ false
table_in_order = refl

table_goes : goes table [] table_calls ≡ true
table_goes = refl

table_replies : replies table table_calls ≡ replies_of table_run
table_replies = refl

-- what comes next to a region after so many of the calls
table_next : map (λ calls. next_ship table (after table [] (take calls table_calls)) 0) (3 ∷ 4 ∷ 8 ∷ [])
    ≡ Some (1, 1) ∷ Some (2, 1) ∷ None ∷ []
table_next = refl

table_next_elsewhere : next_ship table (after table [] table_writes) 1 ≡ None
table_next_elsewhere = refl

table_held : held (after table [] table_calls) ≡ 9
table_held = refl

table_owed : owed table (after table [] table_calls) ≡ 0
table_owed = refl

table_need : need table (after table [] table_calls) (Scan 0 (codes "row")) ≡ 2
table_need = refl

table_need_none : need table (after table [] table_calls) (Scan 0 (codes "s")) ≡ 1
table_need_none = refl

table_prefix : due table (after table [] table_calls) (Scan 0 row_a) ≡ shows (row row_a 3 (codes "x") over_both)
table_prefix = refl

-- A blob: a value of 200 bytes has four parts, and is shown once all have come.

abbrev blob : Start
blob = store (store_of Blob 0 (0 ∷ []) [] 0)

abbrev big : List ℕ
big = replicate 200 97

abbrev write_big : Call
write_big = Write k big []

abbrev blob_run : Run
blob_run =
    (write_big, Written k 1 None)
    ∷ (Ship 0 1 4, Moved)
    ∷ (Read 0 k, shows_none k)
    ∷ (Ship 0 1 1, Moved)
    ∷ (Read 0 k, shows_none k)
    ∷ (Ship 0 1 3, Moved)
    ∷ (Read 0 k, shows_none k)
    ∷ (Ship 0 1 2, Moved)
    ∷ (Read 0 k, shows (row k 1 big []))
    ∷ []

abbrev blob_calls : List Call
blob_calls = calls_of blob_run

blob_need : need blob [] write_big ≡ 5
blob_need = refl

blob_goes : goes blob [] blob_calls ≡ true
blob_goes = refl

blob_replies : replies blob blob_calls ≡ replies_of blob_run
blob_replies = refl

blob_next : map (λ calls. next_ship blob (after blob [] (take calls blob_calls)) 0) (1 ∷ 4 ∷ 9 ∷ [])
    ≡ Some (1, 1) ∷ Some (1, 2) ∷ None ∷ []
blob_next = refl

blob_owed : owed blob (after blob [] (write_big ∷ Ship 0 1 4 ∷ [])) ≡ 3
blob_owed = refl

blob_parts_0 : parts_of Blob (replicate 0 97) ≡ 1
blob_parts_0 = refl

blob_parts_64 : parts_of Blob (replicate 64 97) ≡ 1
blob_parts_64 = refl

blob_parts_65 : parts_of Blob (replicate 65 97) ≡ 2
blob_parts_65 = refl

blob_parts_256 : parts_of Blob (replicate 256 97) ≡ 4
blob_parts_256 = refl

-- A queue with three tries: a message that is given back is handed out again, and after the third time set aside.

abbrev queue : Start
queue = store (store_of Queue 0 (0 ∷ []) (record { channel = c; region = 0 } ∷ []) 3)

-- the messages of the two writes
abbrev first_message : Row
first_message = row c1 1 (codes "m") []

abbrev second_message : Row
second_message = row c2 2 (codes "n") []

abbrev queue_run : Run
queue_run =
    (Write c (codes "m") [], Written c1 1 None)
    ∷ (Ship 0 1 1, Moved)
    ∷ (Pull 0, Pulled first_message)
    ∷ (Nack 1, Done)
    ∷ (Pull 0, Pulled first_message)
    ∷ (Nack 1, Done)
    ∷ (Pull 0, Pulled first_message)
    ∷ (Nack 1, Done)
    ∷ []

abbrev queue_calls : List Call
queue_calls = calls_of queue_run

queue_goes : goes queue [] queue_calls ≡ true
unfolding digits
queue_goes = refl

queue_replies : replies queue queue_calls ≡ replies_of queue_run
unfolding digits
queue_replies = refl

queue_aside : ready queue (after queue [] queue_calls) (Pull 0) ≡ false
unfolding digits
queue_aside = refl

queue_held : held (after queue [] queue_calls) ≡ 8
queue_held = refl

queue_owed : owed queue (after queue [] queue_calls) ≡ 0
unfolding digits
queue_owed = refl

-- the second of two messages comes first, and is out
abbrev queue_out : List Call
queue_out =
    Write c (codes "m") []
    ∷ Write c (codes "n") []
    ∷ Ship 0 2 1
    ∷ Pull 0
    ∷ []

queue_out_pulls : due queue (after queue [] (take 3 queue_out)) (Pull 0) ≡ Pulled second_message
unfolding digits
queue_out_pulls = refl

queue_out_held : held (after queue [] queue_out) ≡ 4
queue_out_held = refl

queue_out_owed : owed queue (after queue [] queue_out) ≡ 2
unfolding digits
queue_out_owed = refl

queue_out_waits : ready queue (after queue [] queue_out) (Pull 0) ≡ false
unfolding digits
queue_out_waits = refl

queue_out_ack : ready queue (after queue [] queue_out) (Ack 2) ≡ true
unfolding digits
queue_out_ack = refl

queue_out_no_ack : ready queue (after queue [] queue_out) (Ack 1) ≡ false
unfolding digits
queue_out_no_ack = refl

queue_acked : ready queue (after queue [] (Write c [] [] ∷ Ship 0 1 1 ∷ Pull 0 ∷ Ack 1 ∷ [])) (Pull 0) ≡ false
unfolding digits
queue_acked = refl

queue_no_sub : ready queue (after queue [] queue_calls) (Pull 1) ≡ false
queue_no_sub = refl

queue_plain : ready queue [] (Write c1 [] []) ≡ false
queue_plain = refl

-- A topic: a subscription gets the cells of its channel in their order, and may have one again.

abbrev topic : Start
topic = store (store_of Topic 0 (0 ∷ []) (record { channel = n; region = 0 } ∷ []) 0)

-- the cells of the two writes
abbrev first_cell : Row
first_cell = row n1 1 a []

abbrev second_cell : Row
second_cell = row n2 2 b []

-- the second cell comes first, then the other
abbrev topic_run : Run
topic_run =
    (Write n a [], Written n1 1 None)
    ∷ (Write n b [], Written n2 2 None)
    ∷ (Ship 0 2 1, Moved)
    ∷ (Ship 0 1 1, Moved)
    ∷ (Pull 0, Pulled first_cell)
    ∷ (Pull 0, Pulled second_cell)
    ∷ (Repull 0 1, Pulled first_cell)
    ∷ []

abbrev topic_calls : List Call
topic_calls = calls_of topic_run

abbrev topic_second : List Call
topic_second = take 3 topic_calls

topic_waits : ready topic (after topic [] topic_second) (Pull 0) ≡ false
unfolding digits
topic_waits = refl

topic_poll_second : due topic (after topic [] topic_second) (Poll 0 n2) ≡ shows second_cell
unfolding digits
topic_poll_second = refl

topic_poll_first : due topic (after topic [] topic_second) (Poll 0 n1) ≡ shows_none n1
unfolding digits
topic_poll_first = refl

topic_goes : goes topic [] topic_calls ≡ true
unfolding digits
topic_goes = refl

topic_replies : replies topic topic_calls ≡ replies_of topic_run
unfolding digits
topic_replies = refl

topic_end : ready topic (after topic [] topic_calls) (Pull 0) ≡ false
unfolding digits
topic_end = refl

topic_no_ack : ready topic (after topic [] topic_calls) (Ack 1) ≡ false
unfolding digits
topic_no_ack = refl

topic_no_repull : ready topic (after topic [] topic_second) (Repull 0 2) ≡ false
unfolding digits
topic_no_repull = refl

topic_owed : owed topic (after topic [] topic_calls) ≡ 0
topic_owed = refl

-- An inbox: a call is delivered three times and taken once, answered once, and its reply is taken once.

abbrev message : MessageKind → ℕ → ℕ → List ℕ → List ℕ → Message
message kind to depth handler value =
    record { kind = kind; to = to; depth = depth; handler = handler; value = value; baggage = plain (codes "1;") }

abbrev asked : Message
asked = message kinds.Call 0 1 (codes "tell") (codes "hi")

abbrev answer : Message
answer = message kinds.Reply 1 0 (codes "tell") (codes "hi")

abbrev request : Message
request = message kinds.Request 0 0 (codes "ask") []

abbrev sent : Message
sent = message kinds.Send 0 1 (codes "tell") (codes "x")

abbrev bare : Start
bare = inbox []

abbrev inbox_run : Run
inbox_run =
    (Post asked, Posted 1)
    ∷ (Repost 1, Done)
    ∷ (Repost 1, Done)
    ∷ (Take 1, Got 1 asked)
    ∷ (Post answer, Done)
    ∷ (TakeReply 1, Got 1 answer)
    ∷ []

abbrev inbox_calls : List Call
inbox_calls = calls_of inbox_run

-- the call was delivered three times
abbrev inbox_reposted : List Entry
inbox_reposted = after bare [] (take 3 inbox_calls)

inbox_goes : goes bare [] inbox_calls ≡ true
inbox_goes = refl

inbox_replies : replies bare inbox_calls ≡ replies_of inbox_run
inbox_replies = refl

inbox_no_second : ready bare (after bare [] inbox_calls) (Take 1) ≡ false
inbox_no_second = refl

inbox_held : held (after bare [] inbox_calls) ≡ 6
inbox_held = refl

inbox_owed : owed bare (after bare [] inbox_calls) ≡ 0
inbox_owed = refl

inbox_owed_posted : owed bare (after bare [] (Post asked ∷ [])) ≡ 3
inbox_owed_posted = refl

inbox_owed_reposted : owed bare inbox_reposted ≡ 3
inbox_owed_reposted = refl

inbox_owed_taken : owed bare (after bare inbox_reposted (Take 3 ∷ [])) ≡ 2
inbox_owed_taken = refl

inbox_free : free [] inbox_reposted ≡ 1 ∷ 1 ∷ 1 ∷ []
inbox_free = refl

inbox_no_answer_before : ready bare (after bare [] (Post asked ∷ [])) (Post answer) ≡ false
inbox_no_answer_before = refl

inbox_no_second_answer : ready bare (after bare [] inbox_calls) (Post answer) ≡ false
inbox_no_second_answer = refl

inbox_no_second_reply : ready bare (after bare [] inbox_calls) (TakeReply 1) ≡ false
inbox_no_second_reply = refl

inbox_no_request : ready bare [] (Post request) ≡ false
inbox_no_request = refl

-- An inbox with two requests, to which a send comes.

abbrev served : Start
served = inbox (request ∷ request ∷ [])

served_owed : owed served [] ≡ 2
served_owed = refl

abbrev served_run : Run
served_run =
    (Post sent, Posted 3)
    ∷ (Take 3, Got 3 sent)
    ∷ (Take 2, Got 2 request)
    ∷ (Take 1, Got 1 request)
    ∷ []

abbrev served_calls : List Call
served_calls = calls_of served_run

served_goes : goes served [] served_calls ≡ true
served_goes = refl

served_replies : replies served served_calls ≡ replies_of served_run
served_replies = refl

served_need : need served [] (Post sent) ≡ 2
served_need = refl

served_end : ready served (after served [] served_calls) (Take 1) ≡ false
served_end = refl

served_none : ready served [] (Take 0) ≡ false
served_none = refl

served_no_repost : ready served (after served [] served_calls) (Repost 4) ≡ false
served_no_repost = refl

served_no_answer : ready served (after served [] served_calls) (Post (record answer { to = 3 })) ≡ false
served_no_answer = refl

-- The laws, of each kind of store.

laws_kv : KeepsLaws (kv_store 0 (0 ∷ 1 ∷ []))
laws_kv = keeps_laws (kv_store 0 (0 ∷ 1 ∷ [])) refl

laws_table : KeepsLaws (table_store 4 (0 ∷ 1 ∷ []))
laws_table = keeps_laws (table_store 4 (0 ∷ 1 ∷ [])) refl

laws_blob : KeepsLaws (store_of Blob 1 (0 ∷ []) [] 0)
laws_blob = keeps_laws (store_of Blob 1 (0 ∷ []) [] 0) refl

laws_queue : KeepsLaws (store_of Queue 2 (0 ∷ []) [] 3)
laws_queue = keeps_laws (store_of Queue 2 (0 ∷ []) [] 3) refl

laws_topic : KeepsLaws (store_of Topic 3 (0 ∷ []) [] 0)
laws_topic = keeps_laws (store_of Topic 3 (0 ∷ []) [] 0) refl

laws_cached : KeepsLaws (cached_store 5 (0 ∷ 1 ∷ []) 8)
laws_cached = kinds_keep_laws (cached_store 5 (0 ∷ 1 ∷ []) 8) refl

-- A write whose lineage names a version that comes after it: a read then shows it without that version.

abbrev ahead_calls : List Call
ahead_calls =
    Write k a (id k 2 ∷ [])
    ∷ Write k b []
    ∷ Ship 0 1 1
    ∷ []

ahead_goes : goes kv [] ahead_calls ≡ true
ahead_goes = refl

ahead_shows : map (λ r. r.lineage) (shown (due kv (after kv [] ahead_calls) (Read 0 k))) ≡ (id k 2 ∷ []) ∷ []
ahead_shows = refl

ahead_misses : is_visible (kv_store 0 (0 ∷ [])) (after kv [] ahead_calls) 0 (id k 2) ≡ false
ahead_misses = refl

-- Of which keys reads speak.

speaks_read : speaks_of k (Read 0 k) ≡ true
speaks_read = refl

speaks_other : speaks_of k1 (Read 0 k) ≡ false
speaks_other = refl

speaks_scan : speaks_of k1 (Scan 0 k) ≡ true
speaks_scan = refl

speaks_past : speaks_of k (Scan 0 k1) ≡ false
speaks_past = refl

-- A look that misses an id may be ready for what nobody wrote, and is then no call that stays ready.

asking_waits : is_asking kv kv_written (Look 0 (id k 9 ∷ []) false) ≡ false
asking_waits = refl

asking_dry : is_asking kv kv_written (Look 0 (id k 1 ∷ []) true) ≡ true
asking_dry = refl

asking_clear : is_asking kv (after kv kv_written (Ship 0 1 1 ∷ [])) (Look 0 (id k 1 ∷ []) false) ≡ true
asking_clear = refl
