-- Worked runs: a store `s` and a service `w` in the region `eu`, and a process there with the body of each run. Its calls come one by one.
use Rattle.std.proofs.Common.{◌≡◌, ℕ, zero, suc, ◌+◌, ◌-◌, Bool, true, false, List, [], ◌∷◌, refl, ap}
use Rattle.std.specs.Prelude.{Option, None, Some, Ok, codes, is_none, is_some, length, nat_lt, option_and_then, option_map}
use Rattle.std.specs.Fmt.{digits}
use Rattle.anti_ids.specs.Ids.{with_ids}
use Rattle.anti_ids.specs.List.{plain}
use Rattle.anti_ids.specs.declared.id.WriteId.{WriteId}
use Rattle.anti_ids.specs.declared.limits.TheConstants.{MOST_IDS}
use Rattle.anti_kind.specs.declared.actor.Actor.TheVariants as actors
use Rattle.anti_kind.specs.declared.call.Call.TheVariants as calls
use Rattle.anti_kind.specs.declared.entry.Entry.{Entry}
use Rattle.anti_kind.specs.declared.message.Message.{Message}
use Rattle.anti_kind.specs.declared.message.MessageKind.{MessageKind}
use Rattle.anti_kind.specs.declared.message.MessageKind.TheVariants as kinds
use Rattle.anti_kind.specs.declared.call.Reply.{Reply}
use Rattle.anti_kind.specs.declared.call.Reply.TheVariants as replies
use Rattle.anti_kind.specs.declared.row.Row.{Row}
use Rattle.anti_kind.specs.declared.store_kind.StoreKind.{StoreKind}
use Rattle.anti_kind.specs.declared.store_kind.StoreKind.TheVariants.{Kv, Queue, Topic}
use Rattle.anti_baggage.specs.Reading.{read_lineage}
use Rattle.anti_lang.specs.Bodies.{block_from, body_of}
use Rattle.anti_lang.proofs.PlainLemmas.{step_again}
use Rattle.anti_lang.specs.Program as statements
use Rattle.anti_lang.specs.Program.{Step}
use Rattle.anti_lang.specs.declared.statement.KeyWord.TheVariants as keys
use Rattle.anti_lang.specs.declared.statement.ValueWord.TheVariants.{Input, Literal, Of}
use Rattle.anti_app.specs.declared.app.App.{App}
use Rattle.anti_app.specs.declared.app.HandlerDef.{HandlerDef}
use Rattle.anti_app.specs.declared.app.StoreDef.{StoreDef}
use Rattle.anti_app.specs.declared.app.SubDef.{SubDef}
use Rattle.anti_proc.specs.declared.task.Duty.{Duty}
use Rattle.anti_proc.specs.declared.task.Duty.TheVariants.{Free, Answers}
use Rattle.anti_proc.specs.declared.task.Task.{Task}
use Rattle.anti_proc.specs.declared.end.BodyEnd.TheVariants as body_ends
use Rattle.anti_proc.specs.declared.end.End.TheVariants.{Fine, Depth, BadKey, LineageFull}
use Rattle.anti_proc.specs.Brought.{brought, made}
use Rattle.anti_proc.specs.Foreign.{is_foreign}
use Rattle.anti_proc.specs.Stated.{stated_lineage}
use Rattle.anti_proc.specs.Local.{Local, Setting, first_local, row_ids}
use Rattle.anti_proc.specs.Meaning.{after_reply, asks, begun, body_tree, setting_of, tree_of}
use Rattle.anti_proc.specs.Tasks.{fitting, role_in, role_on, task_of, task_with}
use Rattle.anti_app.specs.Objects.{stores_here}
use Rattle.anti_proc.specs.Trees.{Tree, Want, Make, Over, Ends}
use Rattle.anti_proc.specs.Asked.{next_of}

abbrev key : List ℕ
key = codes "k"

abbrev x : List ℕ
x = codes "x"

-- `write s k a`, and `write s k a as x`
abbrev write : Step
write = statements.Write (codes "s") (keys.Plain key) (Literal (codes "a")) None false

abbrev write_x : Step
write_x = statements.Write (codes "s") (keys.Plain key) (Literal (codes "a")) (Some x) false

abbrev untracked_x : Step
untracked_x = statements.Write (codes "s") (keys.Plain key) (Literal (codes "a")) (Some x) true

-- `read s k as x`
abbrev read : Step
read = statements.Read (codes "s") (keys.Plain key) x

abbrev store_in : List ℕ → List ℕ → StoreDef
store_in name regions = record { name = name; kind = Kv; replicas = plain regions; tries = 3; room = 8 }

abbrev empty_handler : List ℕ → HandlerDef
empty_handler name = record { name = name; body = plain [] }

-- an application of these stores and a service `w` in `eu` with the handlers `none` and `h`, whose bodies are empty
abbrev app_with : List StoreDef → App
app_with stores = record {
  regions = plain (codes "eu" ∷ codes "us" ∷ []);
  stores = plain stores;
  services = plain (record { name = codes "w"; region = 0; handlers = plain (empty_handler (codes "none") ∷ empty_handler (codes "h") ∷ []) } ∷ []);
  subs = plain [];
  requests = plain [];
  choices = plain [];
  seed = 1;
  workers = 1;
}

abbrev one_store : App
one_store = app_with (store_in (codes "s") (0 ∷ []) ∷ [])

abbrev message_of : MessageKind → ℕ → ℕ → List ℕ → List ℕ → List ℕ → Message
message_of kind to depth handler value baggage =
    record { kind = kind; to = to; depth = depth; handler = handler; value = value; baggage = plain baggage }

-- the first message of the inbox is taken, which is the object behind the stores
abbrev taken_with : Message → Entry
taken_with message = record {
  stamp = 1;
  object = 1;
  place = 1;
  seat = 0;
  actor = actors.Process (record { object = 1; place = 1 });
  span = 1;
  call = calls.Take 1;
  reply = replies.Got 3 message;
}

abbrev taken_at : List ℕ → List ℕ → Entry
taken_at handler value = taken_with (message_of kinds.Request 0 0 handler value (codes "1;"))

-- what a handler in `eu`, which owes something at its end, does next on a value of this depth, after these replies
abbrev setting_in : App → Duty → ℕ → List ℕ → Setting
setting_in app duty depth value =
    record { app = app; role = record { service = 0; handler = 0; region = 0; depth = depth; duty = duty }; input = value }

-- the reply of the handler `here` to the call 3 is owed
abbrev reply_owed : Duty
reply_owed = Answers 1 3 (codes "here")

abbrev owing : Duty → ℕ → List Step → List ℕ → List Reply → Want
owing duty depth body value rs = next_of (body_tree (block_from body) (setting_in one_store duty depth value) first_local) rs

abbrev does_in : App → List Step → List ℕ → List Reply → Want
does_in app body value rs = next_of (body_tree (block_from body) (setting_in app Free 0 value) first_local) rs

abbrev does : List Step → List ℕ → List Reply → Want
does body value rs = does_in one_store body value rs

abbrev its_id : ℕ → ℕ → WriteId
its_id store version = record { store = store; key = key; version = version }

abbrev row_of : ℕ → List WriteId → Row
row_of version lineage = record { key = key; version = version; value = codes "a"; lineage = lineage }

abbrev row : Reply
row = replies.Shown (plain (row_of 1 [] ∷ []))

-- a write of `a` that carries these ids, in a span
abbrev writes_in : ℕ → List WriteId → Want
writes_in span carried = Make 0 span (calls.Write key (codes "a") carried)

abbrev reads : Want
reads = Make 0 1 (calls.Read 0 key)

-- ---- calls, one by one

abbrev one : List Step
one = write ∷ read ∷ []

first_call : does one [] [] ≡ writes_in 1 []
first_call = refl

second_call : does one [] (replies.Written key 1 None ∷ []) ≡ reads
second_call = refl

end : does one [] (replies.Written key 1 None ∷ row ∷ []) ≡ Over Fine
end = refl

-- an empty body, and a handler that is not there
empty_body : next_of (tree_of one_store (taken_at (codes "none") [])) [] ≡ Over Fine
empty_body = refl

no_handler : next_of (tree_of one_store (taken_at (codes "one") [])) [] ≡ Over Fine
no_handler = refl

-- the second write carries the id of the first, and what was read is not carried
carried : does (write ∷ read ∷ write ∷ []) [] (replies.Written key 4 None ∷ row ∷ []) ≡ writes_in 1 (its_id 0 4 ∷ [])
carried = refl

input : does (statements.Write (codes "s") keys.Input Input None false ∷ []) (codes "v") [] ≡ Make 0 1 (calls.Write (codes "v") (codes "v") [])
input = refl

-- so many replies to writes
abbrev written : ℕ → List Reply
written zero = []
written (suc n) = replies.Written key (suc n) None ∷ written n

-- sixteen times sixteen writes, twice, are as many as a lineage may have: one id more ends the process, and one that is there already is none more
abbrev often : ℕ → List Step → Step
often count block = statements.Repeat count (block_from block)

abbrev writes_often : Step
writes_often = often 16 (often 16 (write ∷ []) ∷ [])

many : does (writes_often ∷ writes_often ∷ read ∷ []) [] (written MOST_IDS) ≡ reads
many = refl

full : does (writes_often ∷ writes_often ∷ write ∷ []) [] (written (MOST_IDS + 1)) ≡ Over LineageFull
full = refl

there_already : does (writes_often ∷ writes_often ∷ write ∷ []) [] (replies.Written key 1 None ∷ written MOST_IDS) ≡ Over Fine
there_already = refl

-- a reply of another form brings nothing, and version 0, which no write has, neither
no_version : does (write ∷ write ∷ []) [] (replies.Written key 0 None ∷ []) ≡ writes_in 1 []
no_version = refl

other_form : does (write ∷ write ∷ []) [] (replies.Done ∷ []) ≡ writes_in 1 []
other_form = refl

-- ---- variables and the lineage

-- `append x` carries the id of an untracked write
untracked : does (untracked_x ∷ write ∷ []) [] (replies.Written key 4 None ∷ []) ≡ writes_in 1 []
untracked = refl

appended : does (untracked_x ∷ statements.Append x ∷ write ∷ []) [] (replies.Written key 4 None ∷ []) ≡ writes_in 1 (its_id 0 4 ∷ [])
appended = refl

taken_out : does (write ∷ write_x ∷ statements.Remove x ∷ write ∷ []) [] (replies.Written key 4 None ∷ replies.Written key 5 None ∷ []) ≡ writes_in 1 (its_id 0 4 ∷ [])
taken_out = refl

-- what is kept beside a write is carried with it, and `append x` carries both; `remove x` takes out its id alone
kept_too : does (write ∷ write ∷ []) [] (replies.Written key 4 (Some (its_id 0 2 ∷ [])) ∷ []) ≡ writes_in 1 (its_id 0 2 ∷ its_id 0 4 ∷ [])
kept_too = refl

kept_untracked : does (untracked_x ∷ write ∷ []) [] (replies.Written key 4 (Some (its_id 0 2 ∷ [])) ∷ []) ≡ writes_in 1 []
kept_untracked = refl

kept_appended : does (untracked_x ∷ statements.Append x ∷ write ∷ []) [] (replies.Written key 4 (Some (its_id 0 2 ∷ [])) ∷ []) ≡ writes_in 1 (its_id 0 2 ∷ its_id 0 4 ∷ [])
kept_appended = refl

kept_stays : does (write_x ∷ statements.Remove x ∷ write ∷ []) [] (replies.Written key 4 (Some (its_id 0 2 ∷ [])) ∷ []) ≡ writes_in 1 (its_id 0 2 ∷ [])
kept_stays = refl

-- `transfer x` carries the ids of the rows and the lineages that are stored beside them; a row of version 0 has no id
transferred : does (read ∷ statements.Transfer x ∷ write ∷ []) [] (replies.Shown (plain (row_of 3 (its_id 1 2 ∷ []) ∷ row_of 0 [] ∷ [])) ∷ [])
    ≡ writes_in 1 (its_id 0 3 ∷ its_id 1 2 ∷ [])
transferred = refl

-- the version of a write in decimal, and the value of the first row, as keys
by_version : does (write_x ∷ statements.Write (codes "s") (keys.Of x) Input None true ∷ []) [] (replies.Written key 12 None ∷ []) ≡ Make 0 1 (calls.Write (codes "12") [] (its_id 0 12 ∷ []))
unfolding digits
by_version = refl

by_row : does (read ∷ statements.Read (codes "s") (keys.Of x) (codes "y") ∷ []) [] (row ∷ []) ≡ Make 0 1 (calls.Read 0 (codes "a"))
by_row = refl

-- no key: an empty `$in`, and one with a space; a cell of a poll may have the sign `#`
bad_key : does (statements.Read (codes "s") keys.Input x ∷ []) [] [] ≡ Over BadKey
bad_key = refl

cell : does (statements.Poll (codes "s") keys.Input x ∷ []) (codes "a#1") [] ≡ Make 0 1 (calls.Poll 0 (codes "a#1"))
cell = refl

no_plain_key : does (statements.Read (codes "s") keys.Input x ∷ []) (codes "a#1") [] ≡ Over BadKey
no_plain_key = refl

-- a key that stands in the line is tested as any other
no_literal_key : does (statements.Write (codes "s") (keys.Plain (codes "a b")) Input None false ∷ []) [] [] ≡ Over BadKey
no_literal_key = refl

-- ---- blocks and spans

nack_in_block : does (often 2 (often 3 (write ∷ statements.Nack ∷ []) ∷ []) ∷ read ∷ []) [] (replies.Written key 1 None ∷ []) ≡ Over Fine
nack_in_block = refl

twice_three_times : does (often 2 (often 3 (read ∷ []) ∷ write ∷ []) ∷ []) [] (row ∷ row ∷ row ∷ replies.Written key 1 None ∷ row ∷ row ∷ row ∷ []) ≡ writes_in 1 (its_id 0 1 ∷ [])
twice_three_times = refl

abbrev if_absent : List Step
if_absent = read ∷ statements.IfAbsent x (block_from (write ∷ [])) ∷ read ∷ []

absent : does if_absent [] (replies.Shown (plain (row_of 0 [] ∷ [])) ∷ []) ≡ writes_in 1 []
absent = refl

present : does if_absent [] (replies.Shown (plain (row_of 0 [] ∷ row_of 1 [] ∷ [])) ∷ []) ≡ reads
present = refl

-- `root` begins a span with the empty lineage; directly behind `stop` it changes nothing more
rooted : does (write ∷ statements.Root ∷ write ∷ []) [] (replies.Written key 1 None ∷ []) ≡ writes_in 2 []
rooted = refl

stopped : does (write ∷ statements.Stop ∷ statements.Root ∷ write ∷ []) [] (replies.Written key 1 None ∷ []) ≡ writes_in 2 []
stopped = refl

rooted_again : does (statements.Stop ∷ statements.Root ∷ statements.Root ∷ write ∷ []) [] [] ≡ writes_in 3 []
rooted_again = refl

-- ---- barriers

abbrev nothing : Reply
nothing = replies.Missing [] []

look : does (write ∷ statements.Barrier ∷ read ∷ []) [] (replies.Written key 7 None ∷ []) ≡ Make 0 1 (calls.Look 0 (its_id 0 7 ∷ []) false)
look = refl

then_read : does (write ∷ statements.Barrier ∷ read ∷ []) [] (replies.Written key 7 None ∷ nothing ∷ []) ≡ reads
then_read = refl

-- a dry run makes the same look as a dry one, and goes on whatever it finds
dry_look : does (write ∷ statements.DryRun ∷ read ∷ []) [] (replies.Written key 7 None ∷ []) ≡ Make 0 1 (calls.Look 0 (its_id 0 7 ∷ []) true)
dry_look = refl

dry_goes_on : does (write ∷ statements.DryRun ∷ read ∷ []) [] (replies.Written key 7 None ∷ replies.Missing (its_id 0 7 ∷ []) [] ∷ []) ≡ reads
dry_goes_on = refl

-- a barrier of the empty lineage makes no look
none_carried : does (statements.Barrier ∷ one) [] [] ≡ writes_in 1 []
none_carried = refl

-- a second barrier makes its own look
looks_again : does (write ∷ statements.Barrier ∷ statements.Barrier ∷ []) [] (replies.Written key 7 None ∷ nothing ∷ []) ≡ Make 0 1 (calls.Look 0 (its_id 0 7 ∷ []) false)
looks_again = refl

-- Three stores: `s` in `eu` and `us`, `t` in `us` alone, `u` in `eu` alone. The process runs in `eu`, writes to all three, to `u` first, and its
-- barrier looks at `s` and then at `u`.
abbrev three_stores : App
three_stores = app_with (store_in (codes "s") (1 ∷ 0 ∷ []) ∷ store_in (codes "t") (1 ∷ []) ∷ store_in (codes "u") (0 ∷ []) ∷ [])

abbrev write_to : List ℕ → Step
write_to store = statements.Write store (keys.Plain key) Input None false

abbrev spread : List Step
spread = write_to (codes "u") ∷ write_to (codes "t") ∷ write_to (codes "s") ∷ statements.Barrier ∷ []

abbrev after_writes : List Reply → List Reply
after_writes further = replies.Written key 5 None ∷ replies.Written key 6 None ∷ replies.Written key 7 None ∷ further

here : stores_here three_stores 0 ≡ 0 ∷ 2 ∷ []
here = refl

first_look : does_in three_stores spread [] (after_writes []) ≡ Make 0 1 (calls.Look 0 (its_id 0 7 ∷ []) false)
first_look = refl

second_look : does_in three_stores spread [] (after_writes (nothing ∷ [])) ≡ Make 2 1 (calls.Look 0 (its_id 2 5 ∷ []) false)
second_look = refl

no_third_look : does_in three_stores spread [] (after_writes (nothing ∷ nothing ∷ [])) ≡ Over Fine
no_third_look = refl

-- ---- calls of handlers, and sends

-- `call w none $in as x` and `send w none $in`
abbrev call_x : Step
call_x = statements.Call (codes "w") (codes "none") Input x

abbrev send : Step
send = statements.Send (codes "w") (codes "none") Input

-- a message to the handler `none`, and the reply of it to the call 7
abbrev posts : MessageKind → ℕ → List ℕ → List ℕ → Want
posts kind depth value baggage = Make 1 1 (calls.Post (message_of kind 0 depth (codes "none") value baggage))

abbrev heard : List ℕ → List ℕ → Reply
heard value baggage = replies.Got 7 (message_of kinds.Reply 7 0 (codes "none") value baggage)

abbrev call_write : List Step
call_write = call_x ∷ statements.Write (codes "s") (keys.Of x) (Of x) None false ∷ []

posted : does call_write (codes "v") [] ≡ posts kinds.Call 1 (codes "v") (codes "2;")
posted = refl

waits : does call_write [] (replies.Posted 7 ∷ []) ≡ Make 1 1 (calls.TakeReply 7)
waits = refl

-- a text states these ids of the store `s`
abbrev States : List ℕ → List WriteId → Type 0
States baggage ids = read_lineage (codes "s" ∷ []) baggage ≡ Ok ids

-- The variable holds the value of the reply, and its lineage is carried.
came_back : (baggage : List ℕ) → States baggage (its_id 0 4 ∷ [])
    → does call_write [] (replies.Posted 7 ∷ heard (codes "v") baggage ∷ []) ≡ Make 0 1 (calls.Write (codes "v") (codes "v") (its_id 0 4 ∷ []))
came_back baggage states = rw states refl

-- a text that states no lineage brings nothing
no_lineage : does call_write [] (replies.Posted 7 ∷ heard (codes "v") (codes "1") ∷ []) ≡ Make 0 1 (calls.Write (codes "v") (codes "v") [])
no_lineage = refl

-- the ids of what the variable holds are none
transferred_reply : does (call_x ∷ statements.Transfer x ∷ write ∷ []) [] (replies.Posted 7 ∷ heard (codes "v") (codes "1;") ∷ []) ≡ writes_in 1 []
transferred_reply = refl

-- the lineage of the message stands before that of the reply
brought_back : (baggage : List ℕ) → States baggage (its_id 0 4 ∷ [])
    → brought one_store (its_id 0 2 ∷ []) 1 (made (body_tree (block_from call_write) (setting_in one_store Free 0 []) first_local) (replies.Posted 7 ∷ heard (codes "v") baggage ∷ []))
    ≡ its_id 0 2 ∷ its_id 0 4 ∷ []
brought_back baggage states = rw states refl

-- Where a reply brings too many ids, the process ends.
full_by_reply : (baggage : List ℕ) (ids carried : List WriteId) → States baggage ids → nat_lt MOST_IDS (length (with_ids ids carried)) ≡ true
    → let l : Local = record first_local { carried = carried } in
    let follows : Reply → Tree = after_reply (setting_in one_store reply_owed 1 []) x l (λ l. Ends body_ends.Fine) in
    next_of (asks 1 (calls.TakeReply 7) None l follows) (heard (codes "v") baggage ∷ []) ≡ Over LineageFull
full_by_reply baggage ids carried states many = rw (states, many) refl

-- the text in the message holds the id of the write before it
in_baggage : does (write ∷ call_x ∷ []) [] (replies.Written key 4 None ∷ []) ≡ posts kinds.Call 1 [] (codes "2;s/k@4")
unfolding digits
in_baggage = refl

sent : does (write ∷ send ∷ read ∷ []) (codes "v") (replies.Written key 4 None ∷ []) ≡ posts kinds.Send 1 (codes "v") (codes "2;s/k@4")
unfolding digits
sent = refl

-- no reply is taken to a send
goes_on : does (write ∷ send ∷ read ∷ []) [] (replies.Written key 4 None ∷ replies.Posted 7 ∷ []) ≡ reads
goes_on = refl

-- ---- what a process owes

-- the reply of the handler `here`
abbrev answers : ℕ → List ℕ → List ℕ → Want
answers span value baggage = Make 1 span (calls.Post (message_of kinds.Reply 3 0 (codes "here") value baggage))

answered : owing reply_owed 1 (write ∷ statements.Reply (Literal (codes "done")) ∷ []) [] (replies.Written key 4 None ∷ []) ≡ answers 1 (codes "done") (codes "2;s/k@4")
unfolding digits
answered = refl

then_over : owing reply_owed 1 (statements.Reply Input ∷ []) [] (replies.Posted 9 ∷ []) ≡ Over Fine
then_over = refl

nacked : owing reply_owed 1 (statements.Nack ∷ read ∷ []) [] [] ≡ answers 1 [] (codes "2;")
nacked = refl

-- Behind `root` the reply carries what came to the new span.
rooted_reply : owing reply_owed 1 (write ∷ statements.Root ∷ statements.Reply Input ∷ []) (codes "v") (replies.Written key 4 None ∷ []) ≡ answers 2 (codes "v") (codes "2;")
rooted_reply = refl

bad_key_answers : owing reply_owed 1 (statements.Reply (Literal (codes "set")) ∷ statements.Read (codes "s") keys.Input x ∷ []) [] [] ≡ answers 1 (codes "set") (codes "2;")
bad_key_answers = refl

bad_key_then : owing reply_owed 1 (statements.Reply (Literal (codes "set")) ∷ statements.Read (codes "s") keys.Input x ∷ []) [] (replies.Posted 9 ∷ []) ≡ Over BadKey
bad_key_then = refl

-- a message of depth 8 is the deepest
deepest : owing reply_owed 7 (call_x ∷ []) [] [] ≡ posts kinds.Call 8 [] (codes "2;")
deepest = refl

too_deep : owing reply_owed 8 (write ∷ call_x ∷ []) [] (replies.Written key 4 None ∷ []) ≡ answers 1 [] (codes "2;s/k@4")
unfolding digits
too_deep = refl

then_deep : owing reply_owed 8 (write ∷ call_x ∷ []) [] (replies.Written key 4 None ∷ replies.Posted 9 ∷ []) ≡ Over Depth
then_deep = refl

too_deep_send : owing Free 8 (send ∷ []) [] [] ≡ Over Depth
too_deep_send = refl

-- ---- births

abbrev message_to : MessageKind → ℕ → List ℕ → List ℕ → Message
message_to kind depth handler baggage = message_of kind 0 depth handler (codes "v") baggage

-- the process of a call of a handler with an empty body
at_once : next_of (tree_of one_store (taken_with (message_to kinds.Call 1 (codes "h") (codes "1;")))) []
    ≡ Make 1 1 (calls.Post (message_of kinds.Reply 3 0 (codes "h") [] (codes "2;")))
at_once = refl

-- what a body does that is begun with what came with such a message, which was taken from the inbox of the service `w`
abbrev begun_by : MessageKind → List Step → List ℕ → List Reply → Want
begun_by kind body baggage rs =
    let m : Message = message_to kind 1 (codes "h") baggage in
    let task : Task = task_with (role_in one_store 1 0 3 m) m.value [] in
    next_of (begun (block_from body) (setting_of one_store task) (option_and_then fitting (stated_lineage one_store m))) rs

abbrev write_reply : List Step
write_reply = write ∷ statements.Reply (Literal (codes "ok")) ∷ []

-- It carries what came with its message, and so does its reply.
first_carried : (baggage : List ℕ) → States baggage (its_id 0 2 ∷ []) → begun_by kinds.Call write_reply baggage [] ≡ writes_in 1 (its_id 0 2 ∷ [])
first_carried baggage states = rw states refl

its_reply : (baggage : List ℕ) → States baggage (its_id 0 2 ∷ [])
    → begun_by kinds.Call write_reply baggage (replies.Written key 4 None ∷ []) ≡ Make 1 1 (calls.Post (message_of kinds.Reply 3 0 (codes "h") (codes "ok") (codes "2;s/k@2,k@4")))
unfolding digits
its_reply baggage states = rw states refl

-- a send and a request get none
no_reply : begun_by kinds.Send write_reply (codes "1;") (replies.Written key 4 None ∷ []) ≡ Over Fine
no_reply = refl

no_reply_either : begun_by kinds.Request write_reply (codes "1;") (replies.Written key 4 None ∷ []) ≡ Over Fine
no_reply_either = refl

-- ---- what is foreign

abbrev foreign_birth : ℕ → List ℕ → List ℕ → Bool
foreign_birth depth handler baggage = is_none (task_of one_store (taken_with (message_to kinds.Call depth handler baggage)))

not_foreign : (baggage : List ℕ) → States baggage (its_id 0 2 ∷ []) → foreign_birth 8 (codes "h") baggage ≡ false
not_foreign baggage states = rw states refl

foreign_depth : foreign_birth 9 (codes "h") (codes "1;") ≡ true
foreign_depth = refl

foreign_handler : foreign_birth 8 (codes "g") (codes "1;") ≡ true
foreign_handler = refl

foreign_baggage : foreign_birth 8 (codes "h") (codes "1") ≡ true
foreign_baggage = refl

foreign_reply : is_foreign one_store (heard [] (codes "1")) ≡ true
foreign_reply = refl

foreign_row : is_foreign one_store (replies.Shown (plain (row_of 1 (its_id 1 2 ∷ []) ∷ []))) ≡ true
foreign_row = refl

-- ---- births by rows

-- An application with a queue `q`, a topic `t` and a store `s`, and with a service `w` that writes, refuses and does nothing: it writes and
-- refuses messages of the queue, and does nothing with those of the topic. Its second subscription is the first one of the topic.
abbrev store_of_kind : List ℕ → StoreKind → StoreDef
store_of_kind name kind = record { name = name; kind = kind; replicas = plain (0 ∷ []); tries = 3; room = 8 }

abbrev handler_with : List ℕ → List Step → HandlerDef
handler_with name steps = record { name = name; body = body_of (block_from steps) }

abbrev sub_to : List ℕ → ℕ → ℕ → SubDef
sub_to name store handler = record { name = name; store = store; channel = codes "c"; service = 0; handler = handler }

abbrev writing : SubDef
writing = sub_to (codes "writes") 0 0

abbrev doing_nothing : SubDef
doing_nothing = sub_to (codes "does_nothing") 1 2

abbrev refusing : SubDef
refusing = sub_to (codes "refuses") 0 1

abbrev subscribed : App
subscribed = record {
  regions = plain (codes "eu" ∷ []);
  stores = plain (store_of_kind (codes "q") Queue ∷ store_of_kind (codes "t") Topic ∷ store_of_kind (codes "s") Kv ∷ []);
  services = plain (record {
    name = codes "w";
    region = 0;
    handlers = plain (handler_with (codes "write") (write ∷ []) ∷ handler_with (codes "refuse") (statements.Nack ∷ []) ∷ empty_handler (codes "none") ∷ []);
  } ∷ []);
  subs = plain (writing ∷ doing_nothing ∷ refusing ∷ []);
  requests = plain [];
  choices = plain [];
  seed = 1;
  workers = 1;
}

-- a row is pulled for the subscription at a position among those of its store
abbrev pulled_with : ℕ → ℕ → Row → Entry
pulled_with store position row = record {
  stamp = 1;
  object = store;
  place = 1;
  seat = 0;
  actor = actors.Process (record { object = store; place = 1 });
  span = 1;
  call = calls.Pull position;
  reply = replies.Pulled row;
}

-- version 5 of the key, with an id of the store `s` beside it
abbrev fifth : Row
fifth = row_of 5 (its_id 2 1 ∷ [])

-- what a process does next that such a row starts, after these replies
abbrev does_pulled : ℕ → ℕ → List Reply → Want
does_pulled store position rs = next_of (tree_of subscribed (pulled_with store position fifth)) rs

-- the same of a handler with a body of one statement
abbrev does_one : SubDef → List Reply → Step → Want
does_one sub rs step =
    let task : Task = task_with (role_on subscribed sub.store 5 sub) fifth.value (with_ids (row_ids sub.store fifth) []) in
    next_of (begun (block_from (step ∷ [])) (setting_of subscribed task) task.carried) rs

-- It carries the row's id and the lineage beside it.
row_carried : does_pulled 0 0 [] ≡ Make 2 1 (calls.Write key (codes "a") (its_id 0 5 ∷ its_id 2 1 ∷ []))
row_carried = ap (does_one writing []) (step_again write)

-- At the end of its body it acks the version of the row at the queue.
acks : does_pulled 0 0 (replies.Written key 2 None ∷ []) ≡ Make 0 1 (calls.Ack 5)
acks = ap (does_one writing (replies.Written key 2 None ∷ [])) (step_again write)

acked : does_pulled 0 0 (replies.Written key 2 None ∷ replies.Done ∷ []) ≡ Over Fine
acked = ap (does_one writing (replies.Written key 2 None ∷ replies.Done ∷ [])) (step_again write)

-- At `nack` it nacks it.
nacks : does_pulled 0 1 [] ≡ Make 0 1 (calls.Nack 5)
nacks = ap (does_one refusing []) (step_again statements.Nack)

then_ends : does_pulled 0 1 (replies.Done ∷ []) ≡ Over Fine
then_ends = ap (does_one refusing (replies.Done ∷ [])) (step_again statements.Nack)

-- With a cell of the topic it ends, and owes nothing.
cell_ends : does_pulled 1 0 [] ≡ Over Fine
cell_ends = refl

-- A row that is pulled once more starts the same.
repulled : task_of subscribed (record (pulled_with 0 1 fifth) { call = calls.Repull 1 5 }) ≡ task_of subscribed (pulled_with 0 1 fifth)
repulled = refl

-- There is no further subscription of the topic, and none of the store `s`.
no_sub : task_of subscribed (pulled_with 1 1 fifth) ≡ None
no_sub = refl

no_sub_at_all : task_of subscribed (pulled_with 2 0 fifth) ≡ None
no_sub_at_all = refl

-- a row whose lineage has an id of no store
no_store : task_of subscribed (pulled_with 0 0 (row_of 5 (its_id 3 1 ∷ []))) ≡ None
no_store = refl

-- Version 600 of the key, with so many ids beside it. With as many as a lineage may have its own id is one too many: the process ends at once, and makes no call. With
-- one fewer there is room.
abbrev ids_to : ℕ → List WriteId
ids_to zero = []
ids_to (suc n) = its_id 0 (suc n) ∷ ids_to n

abbrev pulled_beside : ℕ → Entry
pulled_beside n = pulled_with 0 0 (row_of 600 (ids_to n))

abbrev carried_by : Task → Option (List WriteId)
carried_by task = task.carried

too_many : option_map carried_by (task_of subscribed (pulled_beside MOST_IDS)) ≡ Some None
too_many = refl

ends_at_once : tree_of subscribed (pulled_beside MOST_IDS) ≡ Ends body_ends.LineageFull
ends_at_once = refl

just_fits : option_map (λ (task : Task). is_some task.carried) (task_of subscribed (pulled_beside (MOST_IDS - 1))) ≡ Some true
just_fits = refl
