-- A worked run. A store `s` has replicas in `eu` and `us`. The handler of the service `w` in `eu` writes to it, that of `r` in `us` reads it,
-- and each has a request. The choices are replayed one by one, by computation.
use Rattle.std.proofs.Common.{◌≡◌, ℕ, suc, List, [], ◌∷◌, ◌++◌, false, refl, ap, ◌∙◌}
use Rattle.std.specs.Prelude.{Option, None, Some, codes, drop, option_and_then}
use Rattle.std.specs.Option.{option_map_or, option_or}
use Rattle.anti_ids.specs.List.{plain}
use Rattle.anti_kind.specs.Kinds.{kind_of}
use Rattle.anti_kind.specs.declared.actor.Actor.{Actor}
use Rattle.anti_kind.specs.declared.actor.Actor.TheVariants.{Carrier, Process}
use Rattle.anti_kind.specs.declared.actor.Birth.{Birth}
use Rattle.anti_kind.specs.declared.call.Call.{Call}
use Rattle.anti_kind.specs.declared.call.Call.TheVariants as calls
use Rattle.anti_kind.specs.declared.call.Reply.{Reply}
use Rattle.anti_kind.specs.declared.call.Reply.TheVariants as replies
use Rattle.anti_kind.specs.declared.entry.Entry.{Entry}
use Rattle.anti_kind.specs.declared.message.Message.{Message}
use Rattle.anti_kind.specs.declared.message.MessageKind.TheVariants as messages
use Rattle.anti_kind.specs.declared.row.Row.{Row}
use Rattle.anti_lang.specs.Bodies.{block_from, body_of}
use Rattle.anti_lang.proofs.PlainLemmas.{step_again}
use Rattle.anti_lang.specs.Program as statements
use Rattle.anti_lang.specs.Program.{Step}
use Rattle.anti_lang.specs.declared.statement.KeyWord.TheVariants as keys
use Rattle.anti_lang.specs.declared.statement.ValueWord.TheVariants.{Literal}
use Rattle.anti_app.specs.declared.app.App.{App}
use Rattle.anti_app.specs.declared.app.Choice.{Choice}
use Rattle.anti_app.specs.declared.app.Choice.TheVariants.{Take, Repost, Pull, Repull, Ship, Again, Go, Finish}
use Rattle.anti_app.specs.declared.app.RequestDef.{RequestDef}
use Rattle.anti_app.specs.declared.app.ServiceDef.{ServiceDef}
use Rattle.anti_app.specs.Objects.{inbox_number}
use Rattle.anti_proc.specs.Meaning.{begun, process_after, setting_of, tree_of}
use Rattle.anti_proc.specs.Tasks.{role_in, task_with}
use Rattle.anti_proc.specs.Trees.{Tree, after, want_of}
use Rattle.anti_trace.specs.Traces.{entries_by, put}
use Rattle.anti_play.specs.Schedule.{Run, after_turns, asked_by, chosen, finished, first_made, first_of, made_at, played, run_from, stepped, trace_of, turned, waits_of}

-- ---- the application

-- regions
abbrev eu : ℕ
eu = 0

abbrev us : ℕ
us = 1

abbrev k : List ℕ
k = codes "k"

abbrev a : List ℕ
a = codes "a"

-- `write s k a`
abbrev writes : Step
writes = statements.Write (codes "s") (keys.Plain k) (Literal a) None false

-- `read s k x`
abbrev reads : Step
reads = statements.Read (codes "s") (keys.Plain k) (codes "x")

abbrev service_with : List ℕ → ℕ → Step → ServiceDef
service_with name region step = record {
  name = name;
  region = region;
  handlers = plain (record { name = codes "h"; body = body_of (block_from (step ∷ [])) } ∷ []);
}

abbrev request_to : ℕ → RequestDef
request_to service = record { service = service; handler = 0; value = [] }

-- Objects are numbered: the store is 0, the inboxes of `w` and `r` are 1 and 2.
abbrev choices : List Choice
choices =
    Ship 0 us 1 None
    ∷ Take 0 1
    ∷ Go 1 1
    ∷ Take 1 1
    ∷ Ship 0 us 1 None
    ∷ Go 2 1
    ∷ Finish
    ∷ []

abbrev app : App
app = record {
  regions = plain (codes "eu" ∷ codes "us" ∷ []);
  stores = plain (record { name = codes "s"; kind = kind_of (codes "kv"); replicas = plain (eu ∷ us ∷ []); tries = 3; room = 8 } ∷ []);
  services = plain (service_with (codes "w") eu writes ∷ service_with (codes "r") us reads ∷ []);
  subs = plain [];
  requests = plain (request_to 0 ∷ request_to 1 ∷ []);
  choices = plain choices;
  seed = 1;
  workers = 1;
}

-- ---- the entries

abbrev entry : (stamp object place : ℕ) → Actor → ℕ → Call → Reply → Entry
entry stamp object place actor span call reply =
    record { stamp = stamp; object = object; place = place; seat = 0; actor = actor; span = span; call = call; reply = reply }

abbrev row : ℕ → List ℕ → Row
row version value = record { key = k; version = version; value = value; lineage = [] }

abbrev request : Message
request = record { kind = messages.Request; to = 0; depth = 0; handler = codes "h"; value = []; baggage = plain (codes "1;") }

-- the processes, each named by the entry at which it is born
abbrev writer : Birth
writer = record { object = 1; place = 1 }

abbrev reader : Birth
reader = record { object = 2; place = 1 }

-- by stamp, object and place
abbrev writer_born : Entry
writer_born = entry 1 1 1 (Process writer) 1 (calls.Take 1) (replies.Got 1 request)

abbrev reader_born : Entry
reader_born = entry 1 2 1 (Process reader) 1 (calls.Take 1) (replies.Got 1 request)

abbrev written : Entry
written = entry 2 0 1 (Process writer) 1 (calls.Write k a []) (replies.Written k 1 None)

abbrev in_us : Entry
in_us = entry 3 0 2 (Carrier 0) 0 (calls.Ship us 1 1) replies.Moved

abbrev read : Entry
read = entry 4 0 3 (Process reader) 1 (calls.Read us k) (replies.Shown (plain (row 1 a ∷ [])))

abbrev in_eu : Entry
in_eu = entry 5 0 4 (Carrier 0) 0 (calls.Ship eu 1 1) replies.Moved

-- ---- what the processes do

-- The process of a service, by the statement of its handler. A statement of the code is folded, so it is said that it stands for this one.
abbrev tree_by : ℕ → Step → Tree
tree_by service step =
    let task = task_with (role_in app (inbox_number app service) service 1 request) [] [] in
    begun (block_from (step ∷ [])) (setting_of app task) task.carried

writer_does : tree_of app writer_born ≡ tree_by 0 writes
writer_does = ap (tree_by 0) (step_again writes)

reader_does : tree_of app reader_born ≡ tree_by 1 reads
reader_does = ap (tree_by 1) (step_again reads)

-- what the choice `go` makes of a process that did this, and had these replies
abbrev goes : List Entry → Birth → Tree → List Reply → Option Entry
goes trace birth tree got = option_and_then (made_at app trace) (asked_by trace birth (want_of (after tree got)))

-- ---- each choice

abbrev run : List Entry → Run
run trace = record { trace = trace; waits = 1 ∷ [] }

-- 1. Nothing was written that could be shipped: the choice is a wait.
first : stepped app (record { trace = []; waits = [] }) 1 (Ship 0 us 1 None) ≡ run []
first = refl

-- 2. The request is taken: a process is born.
abbrev two : List Entry
two = writer_born ∷ []

second : stepped app (run []) 2 (Take 0 1) ≡ run two
second = refl

-- 3. It writes.
abbrev three : List Entry
three = writer_born ∷ written ∷ []

third : stepped app (run two) 3 (Go 1 1) ≡ run three
third = ap (λ tree. turned (run two) 3 (goes two writer tree [])) writer_does

-- 4. The reader is born. The stamp is 1, so the entry stands before the write.
abbrev four : List Entry
four = writer_born ∷ reader_born ∷ written ∷ []

fourth : stepped app (run three) 4 (Take 1 1) ≡ run four
fourth = refl

-- 5. What waited at first is shipped now.
abbrev five : List Entry
five = writer_born ∷ reader_born ∷ written ∷ in_us ∷ []

fifth : stepped app (run four) 5 (Ship 0 us 1 None) ≡ run five
fifth = refl

-- 6. So the reader sees it.
abbrev six : List Entry
six = writer_born ∷ reader_born ∷ written ∷ in_us ∷ read ∷ []

sixth : stepped app (run five) 6 (Go 2 1) ≡ run six
sixth = ap (λ tree. turned (run five) 6 (goes five reader tree [])) reader_does

-- before the shipment it would see nothing
unseen : chosen app four (Go 2 1) ≡ Some (entry 3 0 2 (Process reader) 1 (calls.Read us k) (replies.Shown (plain (row 0 [] ∷ []))))
unseen = ap (λ tree. goes four reader tree []) reader_does

-- 7. What is left is the shipment to `eu`. Both processes have ended, and both requests are taken.
abbrev whole : List Entry
whole = writer_born ∷ reader_born ∷ written ∷ in_us ∷ read ∷ in_eu ∷ []

writer_over : (trace : List Entry) → entries_by (Process writer) trace ≡ writer_born ∷ written ∷ [] → chosen app trace (Go 1 1) ≡ None
writer_over trace own =
    ap (λ entries. option_and_then (made_at app trace) (asked_by trace writer (want_of (process_after app entries)))) own
    ∙ ap (λ tree. goes trace writer tree (written.reply ∷ [])) writer_does

reader_over : (trace : List Entry) → entries_by (Process reader) trace ≡ reader_born ∷ read ∷ [] → chosen app trace (Go 2 1) ≡ None
reader_over trace own =
    ap (λ entries. option_and_then (made_at app trace) (asked_by trace reader (want_of (process_after app entries)))) own
    ∙ ap (λ tree. goes trace reader tree (read.reply ∷ [])) reader_does

-- what is tried behind the processes
abbrev others : List Choice
others = Take 0 1 ∷ Take 1 1 ∷ Ship 0 eu 1 (Some 1) ∷ Ship 0 us 1 (Some 1) ∷ []

both_over : (trace : List Entry) → entries_by (Process writer) trace ≡ writer_born ∷ written ∷ []
    → entries_by (Process reader) trace ≡ reader_born ∷ read ∷ []
    → first_of (chosen app trace) (Go 1 1 ∷ Go 2 1 ∷ others) ≡ first_of (chosen app trace) others
both_over trace writer_own reader_own = λ i.
    option_or (writer_over trace writer_own i) (option_or (reader_over trace reader_own i) (first_of (chosen app trace) others))

one_left : first_made app six ≡ Some in_eu
one_left = both_over six refl refl

none_left : first_made app whole ≡ None
none_left = both_over whole refl refl

finishes : finished app six ≡ whole
unfolding finished after_turns
finishes =
    ap (λ made. option_map_or (λ e. after_turns 12287 app (put e six)) made six) one_left
    ∙ ap (λ made. option_map_or (λ e. after_turns 12286 app (put e whole)) made whole) none_left

seventh : stepped app (run six) 7 Finish ≡ run whole
seventh = ap (λ trace. run trace) finishes

-- ---- the run

-- a choice, and those behind it
then : (before behind : Run) (number : ℕ) (choice : Choice) (later : List Choice) → stepped app before number choice ≡ behind
    → run_from app before number (choice ∷ later) ≡ run_from app behind (suc number) later
then before behind number choice later is = ap (λ r. run_from app r (suc number) later) is

all_choices : played app ≡ run whole
all_choices =
    then (record { trace = []; waits = [] }) (run []) 1 (Ship 0 us 1 None) (drop 1 choices) first
    ∙ then (run []) (run two) 2 (Take 0 1) (drop 2 choices) second
    ∙ then (run two) (run three) 3 (Go 1 1) (drop 3 choices) third
    ∙ then (run three) (run four) 4 (Take 1 1) (drop 4 choices) fourth
    ∙ then (run four) (run five) 5 (Ship 0 us 1 None) (drop 5 choices) fifth
    ∙ then (run five) (run six) 6 (Go 2 1) (drop 6 choices) sixth
    ∙ then (run six) (run whole) 7 Finish [] seventh

trace_is : trace_of app ≡ whole
trace_is = ap (λ r. r.trace) all_choices

waits_are : waits_of app ≡ 1 ∷ []
waits_are = ap (λ r. r.waits) all_choices

-- ---- choices of the other kinds

-- a message is delivered once more
reposted : chosen app two (Repost 0 1) ≡ Some (entry 2 1 2 (Carrier 0) 0 (calls.Repost 1) replies.Done)
reposted = refl

-- a part is brought once more to where it was brought, and nowhere else
again : chosen app five (Again 0 us 1 None) ≡ Some (entry 4 0 3 (Carrier 0) 0 (calls.Again us 1 1) replies.Moved)
again = refl

not_again : chosen app five (Again 0 eu 1 None) ≡ None
not_again = refl

-- a process that is not there makes nothing, nor does a delivery that is not free
no_process : chosen app [] (Go 1 1) ≡ None
no_process = refl

taken_before : chosen app two (Take 0 1) ≡ None
taken_before = refl

-- ---- a subscription

-- The store is a topic in `us`. Its cells of the channel `c` start the handler of a service there.
abbrev topics : App
topics = record {
  regions = plain (codes "eu" ∷ codes "us" ∷ []);
  stores = plain (record { name = codes "t"; kind = kind_of (codes "topic"); replicas = plain (us ∷ []); tries = 3; room = 8 } ∷ []);
  services = plain (service_with (codes "r") us reads ∷ []);
  subs = plain (record { name = codes "n"; store = 0; channel = codes "c"; service = 0; handler = 0 } ∷ []);
  requests = plain [];
  choices = plain [];
  seed = 1;
  workers = 1;
}

abbrev cell : Row
cell = record { key = codes "c#1"; version = 1; value = a; lineage = [] }

abbrev published : Entry
published = entry 1 0 1 (Process writer) 1 (calls.Write (codes "c") a []) (replies.Written (codes "c#1") 1 None)

abbrev arrived : Entry
arrived = entry 2 0 2 (Carrier 0) 0 (calls.Ship us 1 1) replies.Moved

-- a process is born by it
abbrev pulled : Entry
pulled = entry 3 0 3 (Process (record { object = 0; place = 3 })) 1 (calls.Pull 0) (replies.Pulled cell)

pull_waits : chosen topics (published ∷ []) (Pull 0) ≡ None
pull_waits = refl

pulls : chosen topics (published ∷ arrived ∷ []) (Pull 0) ≡ Some pulled
pulls = refl

no_second_pull : chosen topics (published ∷ arrived ∷ pulled ∷ []) (Pull 0) ≡ None
no_second_pull = refl

abbrev pulled_again : Entry
pulled_again = entry 4 0 4 (Process (record { object = 0; place = 4 })) 1 (calls.Repull 0 1) (replies.Pulled cell)

pulls_again : chosen topics (published ∷ arrived ∷ pulled ∷ []) (Repull 0 1) ≡ Some pulled_again
pulls_again = refl

-- ---- a store with caches

-- It has one replica, in `eu`. The first version of `k` was read there before the second arrived.
abbrev cached : App
cached = record {
  regions = plain (codes "eu" ∷ codes "us" ∷ []);
  stores = plain (record { name = codes "c"; kind = kind_of (codes "cached"); replicas = plain (eu ∷ []); tries = 3; room = 1 } ∷ []);
  services = plain [];
  subs = plain [];
  requests = plain [];
  choices = plain [];
  seed = 1;
  workers = 1;
}

abbrev two_written : List Entry
two_written =
    entry 1 0 1 (Process writer) 1 (calls.Write k a []) (replies.Written k 1 None)
    ∷ entry 2 0 2 (Carrier 0) 0 (calls.Ship eu 1 1) replies.Moved
    ∷ entry 3 0 3 (Process reader) 1 (calls.Read eu k) (replies.Shown (plain (row 1 a ∷ [])))
    ∷ entry 4 0 4 (Process writer) 1 (calls.Write k a []) (replies.Written k 2 None)
    ∷ []

abbrev second_arrives : Entry
second_arrives = entry 5 0 5 (Carrier 0) 0 (calls.Ship eu 2 1) replies.Moved

-- It is shipped first.
not_behind : first_made cached two_written ≡ Some second_arrives
not_behind = refl

-- Now the cache is behind, so it comes again. Then nothing is left.
abbrev both_arrived : List Entry
both_arrived = two_written ++ second_arrives ∷ []

abbrev comes_again : Entry
comes_again = entry 6 0 6 (Carrier 0) 0 (calls.Again eu 2 1) replies.Moved

is_behind : first_made cached both_arrived ≡ Some comes_again
is_behind = refl

no_more : first_made cached (both_arrived ++ comes_again ∷ []) ≡ None
no_more = refl
