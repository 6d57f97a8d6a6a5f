-- The lines of a small run, worked out: a process writes and reads one key, and its last choice is a wait.
use Rattle.std.proofs.Common.{◌≡◌, ℕ, List, [], ◌∷◌, false, refl, Option, Some, None}
use Rattle.std.specs.Prelude.{None, Some, codes}
use Rattle.std.specs.Fmt.{digits}
use Rattle.anti_ids.specs.List.{plain}
use Rattle.anti_kind.specs.declared.actor.Actor.{Actor}
use Rattle.anti_kind.specs.declared.actor.Actor.TheVariants.{Carrier, Process}
use Rattle.anti_kind.specs.declared.call.Call.TheVariants as calls
use Rattle.anti_kind.specs.declared.entry.Entry.{Entry}
use Rattle.anti_kind.specs.declared.message.Message.{Message}
use Rattle.anti_kind.specs.declared.message.MessageKind.TheVariants as kinds
use Rattle.anti_kind.specs.declared.call.Reply.TheVariants as replies
use Rattle.anti_kind.specs.declared.row.Row.{Row}
use Rattle.anti_kind.specs.declared.store_kind.StoreKind.TheVariants.{Kv, Queue}
use Rattle.anti_ids.specs.declared.id.WriteId.{WriteId}
use Rattle.anti_app.specs.declared.app.App.{App}
use Rattle.anti_app.specs.declared.app.Choice.TheVariants.{Take, Ship, Go}
use Rattle.anti_app.specs.declared.app.HandlerDef.{HandlerDef}
use Rattle.anti_app.specs.declared.app.ServiceDef.{ServiceDef}
use Rattle.anti_app.specs.declared.app.StoreDef.{StoreDef}
use Rattle.anti_app.specs.declared.app.SubDef.{SubDef}
use Rattle.anti_text.specs.Calls.{call_text, reply_text}
use Rattle.anti_text.specs.Entries.{entry_line, wait_line}
use Rattle.anti_text.specs.Placements.{placement_line}
use Rattle.anti_text.specs.Processes.{process_line}
use Rattle.percent_encoding.specs.Percent.{percent_encode_byte}
use Rattle.anti_proc.specs.Births.{birth_at}
use Rattle.anti_proc.specs.declared.end.End.{End}
use Rattle.anti_proc.specs.declared.end.End.TheVariants.{Fine, Depth, StoreFull}
use Rattle.anti_trace.specs.declared.ends.ProcessEnd.{ProcessEnd}
use Rattle.anti_trace.specs.declared.mark.Mark.{Mark}
use Rattle.anti_trace.specs.Ends.{ends_of}
use Rattle.anti_order.specs.declared.answer.OrderAnswer.{OrderAnswer}
use Rattle.anti_order.specs.declared.answer.OrderAnswer.TheVariants.{Lossy, Unguarded, Order}
use Rattle.anti_order.specs.declared.answer.SpanAnswer.{SpanAnswer}
use Rattle.anti_place.specs.declared.placement.Placement.TheVariants.{Yes, No}
use Rattle.anti_place.specs.declared.reason.Reason.TheVariants.{Unsettled, Untransferred}
use Rattle.std.specs.List.{flat_map}
use Rattle.anti_text.specs.Words.{lineage_text}
use Rattle.serde_json.proofs.OnLiterals.{serde_json_on_literals}
use Rattle.std.specs.Str.{chars, is_utf8}
use Rattle.std.specs.Str.Lossy.{utf8_valid_len, utf8_lossy}
use Rattle.anti_text.specs.Json.{text, entry_data, wait_data, process_data, span_data, record_data, json_of}
use Rattle.anti_text.specs.Record.{text_of}
use Rattle.anti_report.specs.Report.{Told}
use Rattle.anti_text.specs.Spans.{span_line}
use Rattle.anti_text.specs.Summary.{summary_of}

abbrev store_s : StoreDef
store_s = record { name = codes "s"; kind = Kv; replicas = plain (0 ∷ []); tries = 3; room = 8 }

abbrev handler_one : HandlerDef
handler_one = record {
  name = codes "one";
  body = plain [];
}

abbrev service_w : ServiceDef
service_w = record { name = codes "w"; region = 0; handlers = plain (handler_one ∷ []) }

abbrev app : App
app = record {
  regions = plain (codes "eu" ∷ []);
  stores = plain (store_s ∷ []);
  services = plain (service_w ∷ []);
  subs = plain [];
  requests = plain [];
  choices = plain (Take 0 1 ∷ Go 1 1 ∷ Ship 0 0 1 None ∷ Go 1 1 ∷ Go 1 1 ∷ []);
  seed = 0;
  workers = 2;
}

abbrev by_w : Actor
by_w = Process (record { object = 1; place = 1 })

abbrev message : Message
message = record { kind = kinds.Request; to = 0; depth = 0; handler = codes "one"; value = []; baggage = plain (codes "1;") }

abbrev id_k : WriteId
id_k = record { store = 0; key = codes "k"; version = 1 }

abbrev taken : Entry
taken = record { stamp = 1; object = 1; place = 1; seat = 0; actor = by_w; span = 1; call = calls.Take 1; reply = replies.Got 1 message }

abbrev written : Entry
written = record { stamp = 2; object = 0; place = 1; seat = 0; actor = by_w; span = 1; call = calls.Write (codes "k") (codes "a%") []; reply = replies.Written (codes "k") 1 None }

abbrev moved : Entry
moved = record { stamp = 3; object = 0; place = 2; seat = 0; actor = Carrier 0; span = 0; call = calls.Ship 0 1 1; reply = replies.Moved }

abbrev row : Row
row = record { key = codes "k"; version = 1; value = codes "a%"; lineage = [] }

abbrev shown : Entry
shown = record { stamp = 4; object = 0; place = 3; seat = 0; actor = by_w; span = 1; call = calls.Read 0 (codes "k"); reply = replies.Shown (plain (row ∷ [])) }

pub entries : flat_map (entry_line app) (taken ∷ written ∷ moved ∷ shown ∷ [])
    ≡ codes "1 w.1 w.1/1 take 1 = got 1 request one 0 \"\" 1;\n2 s.1 w.1/1 write k \"a%25\" 1; = k@1\n3 s.2 ~0 ship eu 1 1 = moved\n4 s.3 w.1/1 read eu k = k@1 \"a%25\" 1;\n"
unfolding digits percent_encode_byte
entries = refl

-- the process that the first entry started, with an end
abbrev ended : Option End → ProcessEnd
ended end = record { birth = birth_at taken; service = 0; handler = 0; end = end }

pub fine : process_line app (ended (Some Fine)) ≡ codes "process w.1 w one fine\n"
unfolding digits
fine = refl

pub full : process_line app (ended (Some (StoreFull 0))) ≡ codes "process w.1 w one store s\n"
unfolding digits
full = refl

pub deep : process_line app (ended (Some Depth)) ≡ codes "process w.1 w one depth\n"
unfolding digits
deep = refl

pub open-yet : process_line app (ended None) ≡ codes "process w.1 w one open\n"
unfolding digits
open-yet = refl

-- what is told of entries, with waits and answers
abbrev told_with : List Entry → List ℕ → List SpanAnswer → Told
told_with entries waits spans = record { entries = entries; waits = waits; ends = ends_of app entries; spans = spans }

abbrev mark : ℕ → ℕ → Mark
mark object place = record { object = object; place = place }

-- the answer of the first span of the process w.1
abbrev answered : OrderAnswer → SpanAnswer
answered answer = record { span = record { birth = record { object = 1; place = 1 }; span = 1 }; answer = answer }

abbrev ordered : SpanAnswer
ordered = answered (Order (plain (mark 0 1 ∷ mark 0 14 ∷ [])))

pub nothing : text_of app (told_with [] [] []) ≡ codes "record 1\nend 0\n"
unfolding digits
nothing = refl

-- the whole record of a run in which one process was born, whose handler has an empty body
pub told : text_of app (told_with (taken ∷ []) (4 ∷ []) (ordered ∷ []))
    ≡ codes "record 1\n1 w.1 w.1/1 take 1 = got 1 request one 0 \"\" 1;\nwait 4 go w.1\nprocess w.1 w one fine\nspan w.1/1 order s.1 s.14\nend 1\n"
unfolding digits
told = refl

pub lossy : span_line app (answered (Lossy (mark 0 4))) ≡ codes "span w.1/1 lossy s.4\n"
unfolding digits
lossy = refl

pub unguarded : span_line app (answered (Unguarded (mark 0 2))) ≡ codes "span w.1/1 unguarded s.2\n"
unfolding digits
unguarded = refl

-- the same two runs as JSON
pub nothing-json : json_of app (told_with [] [] []) ≡ codes "{\"end\":0,\"entries\":[],\"processes\":[],\"record\":1,\"spans\":[],\"waits\":[]}\n"
unfolding record_data digits serde_json_on_literals
nothing-json = refl

pub told-json : json_of app (told_with (taken ∷ []) (4 ∷ []) (ordered ∷ []))
    ≡ codes "{\"end\":1,\"entries\":[{\"actor\":\"w.1\",\"call\":\"take 1\",\"object\":\"w\",\"place\":1,\"reply\":\"got 1 request one 0 \\\"\\\" 1;\",\"span\":1,\"stamp\":1}],\"processes\":[{\"end\":\"fine\",\"handler\":\"one\",\"name\":\"w.1\",\"service\":\"w\"}],\"record\":1,\"spans\":[{\"answer\":\"order s.1 s.14\",\"name\":\"w.1/1\"}],\"waits\":[{\"choice\":\"go w.1\",\"number\":4}]}\n"
unfolding record_data entry_data process_data span_data wait_data text chars is_utf8 utf8_valid_len utf8_lossy digits serde_json_on_literals
told-json = refl

-- the summary of the first of them, and of a run whose entries are of more kinds, one of whose two processes did not end
pub summed-nothing : summary_of (told_with [] [] [])
    ≡ codes "summary 1\nentries 0\nwrites 0\nreads 0\nlooks 0\nships 0\nprocesses 0\nfine 0\nordered 0\nunguarded 0\nlossy 0\n"
unfolding digits
summed-nothing = refl

abbrev looked : Entry
looked = record shown { stamp = 5; place = 4; call = calls.Look 0 [] false; reply = replies.Missing [] [] }

abbrev summed : Told
summed = record {
  entries = taken ∷ written ∷ moved ∷ shown ∷ shown ∷ looked ∷ [];
  waits = 4 ∷ [];
  ends = ended (Some Fine) ∷ ended None ∷ [];
  spans = ordered ∷ answered (Lossy (mark 0 4)) ∷ ordered ∷ ordered ∷ answered (Unguarded (mark 0 2)) ∷ answered (Lossy (mark 0 4)) ∷ [];
}

pub summed-up : summary_of summed
    ≡ codes "summary 1\nentries 6\nwrites 1\nreads 2\nlooks 1\nships 1\nprocesses 2\nfine 1\nordered 3\nunguarded 1\nlossy 2\n"
unfolding digits
summed-up = refl

pub placed : placement_line app Yes ≡ codes "placed\n"
placed = refl

pub unplaced : placement_line app (No 0 0 6 Unsettled) ≡ codes "unplaced w one 6 unsettled\n"
unfolding digits
unplaced = refl

pub unplaced-call : placement_line app (No 0 0 12 Untransferred) ≡ codes "unplaced w one 12 untransferred\n"
unfolding digits
unplaced-call = refl

pub waits : wait_line app 3 ≡ codes "wait 3 ship s eu 1\n"
unfolding digits
waits = refl

pub ids : lineage_text app (id_k ∷ record { store = 0; key = codes "n#1"; version = 12 } ∷ []) ≡ codes "1;s/k@1,s/n%231@12"
unfolding digits percent_encode_byte
ids = refl

-- Scans and subscriptions. The store q has the second and the third sub, which are its first and its second.

abbrev store_q : StoreDef
store_q = record { name = codes "q"; kind = Queue; replicas = plain (0 ∷ []); tries = 3; room = 8 }

abbrev sub_on_store : List ℕ → ℕ → SubDef
sub_on_store name store = record { name = name; store = store; channel = codes "c"; service = 0; handler = 0 }

abbrev subscribed : App
subscribed = record app {
  stores = plain (store_s ∷ store_q ∷ []);
  subs = plain (sub_on_store (codes "other") 0 ∷ sub_on_store (codes "fans") 1 ∷ sub_on_store (codes "more") 1 ∷ []);
}

abbrev row_of_version : List ℕ → ℕ → Row
row_of_version key version = record { key = key; version = version; value = codes "v"; lineage = [] }

abbrev by_reader : Actor
by_reader = Process (record { object = 1; place = 4 })

abbrev pulled : Entry
pulled = record { stamp = 8; object = 1; place = 4; seat = 0; actor = by_reader; span = 1; call = calls.Pull 1; reply = replies.Pulled (row_of_version (codes "c#1") 1) }

pub scans : call_text app 0 (calls.Scan 0 (codes "ro")) ≡ codes "scan eu ro"
scans = refl

pub nothing-shown : reply_text app (replies.Shown (plain [])) ≡ codes "none"
nothing-shown = refl

pub rows-shown : reply_text app (replies.Shown (plain (row_of_version (codes "a") 3 ∷ row_of_version (codes "b") 2 ∷ []))) ≡ codes "a@3 \"v\" 1; + b@2 \"v\" 1;"
unfolding digits percent_encode_byte
rows-shown = refl

-- a write that replaced one tells what is kept beside it
pub over-told : reply_text app (replies.Written (codes "k") 2 (Some (id_k ∷ []))) ≡ codes "k@2 over 1;s/k@1"
unfolding digits
over-told = refl

pub part : call_text app 0 (calls.Ship 0 7 4) ≡ codes "ship eu 7 4"
unfolding digits
part = refl

pub pull : entry_line subscribed pulled ≡ codes "8 q.4 q.4/1 pull more = c#1@1 \"v\" 1;\n"
unfolding digits percent_encode_byte
pull = refl

pub acked : call_text subscribed 1 (calls.Ack 12) ≡ codes "ack 12"
unfolding digits
acked = refl

pub nacked : call_text subscribed 1 (calls.Nack 12) ≡ codes "nack 12"
unfolding digits
nacked = refl

pub repull : call_text subscribed 1 (calls.Repull 0 12) ≡ codes "repull fans 12"
unfolding digits
repull = refl

-- the names are those of the service and the handler of its numbers; a birth on a store has the store's name
pub pulled-birth : process_line subscribed (record { birth = birth_at pulled; service = 0; handler = 0; end = Some Fine }) ≡ codes "process q.4 w one fine\n"
unfolding digits
pulled-birth = refl
