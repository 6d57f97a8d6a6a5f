-- What the worked traces are made of, and what a process asks for, by the statements of its body.
use Rattle.std.specs.Prelude.{ℕ, List, [], ◌∷◌, Option, None, false, codes, map, option_and_then, take}
use Rattle.std.specs.Option.{option_map_or}
use Rattle.anti_ids.specs.List.{plain}
use Rattle.anti_ids.specs.declared.id.WriteId.{WriteId}
use Rattle.anti_kind.specs.declared.actor.Actor.{Actor}
use Rattle.anti_kind.specs.declared.actor.Actor.TheVariants.{Process}
use Rattle.anti_kind.specs.declared.call.Call.{Call}
use Rattle.anti_kind.specs.declared.call.Call.TheVariants as calls
use Rattle.anti_kind.specs.declared.call.Reply.{Reply}
use Rattle.anti_kind.specs.declared.call.Reply.TheVariants as replies
use Rattle.anti_kind.specs.declared.entry.Entry.{Entry}
use Rattle.anti_kind.specs.declared.message.MessageKind.TheVariants.{Request}
use Rattle.anti_kind.specs.declared.row.Row.{Row}
use Rattle.anti_kind.specs.Kinds.{kind_of}
use Rattle.anti_lang.specs.Bodies.{body_of}
use Rattle.anti_lang.specs.Program as statements
use Rattle.anti_lang.specs.Program.{Block, Step}
use Rattle.anti_lang.specs.declared.statement.KeyWord.TheVariants.{Plain}
use Rattle.anti_lang.specs.declared.statement.ValueWord.TheVariants.{Literal}
use Rattle.anti_shim.specs.declared.looks.PlannedLook.{PlannedLook}
use Rattle.anti_app.specs.declared.app.App.{App}
use Rattle.anti_app.specs.declared.app.HandlerDef.{HandlerDef}
use Rattle.anti_app.specs.declared.app.RequestDef.{RequestDef}
use Rattle.anti_app.specs.declared.app.ServiceDef.{ServiceDef}
use Rattle.anti_app.specs.declared.app.StoreDef.{StoreDef}
use Rattle.anti_app.specs.declared.app.SubDef.{SubDef}
use Rattle.anti_proc.specs.declared.end.BodyEnd.TheVariants.{Fine}
use Rattle.anti_proc.specs.Meaning.{begun, reply_of, setting_of}
use Rattle.anti_proc.specs.Tasks.{task_of}
use Rattle.anti_proc.specs.Trees.{Ask, Ends, Tree, after, ask_of}
use Rattle.anti_trace.specs.Traces.{entries_by}

-- ---- applications

-- `write S K V` and `read S K as X`
abbrev pub write_to : List ℕ → List ℕ → List ℕ → Step
write_to store key value = statements.Write store (Plain key) (Literal value) None false

abbrev pub read_as : List ℕ → List ℕ → List ℕ → Step
read_as store key variable = statements.Read store (Plain key) variable

-- a store with one replica, of the kind that a word names
abbrev pub store_in : ℕ → List ℕ → List ℕ → StoreDef
store_in region word name = record { name = name; kind = kind_of word; replicas = plain (region ∷ []); tries = 3; room = 8 }

abbrev pub handler_with : List ℕ → Block → HandlerDef
handler_with name body = record { name = name; body = body_of body }

abbrev pub service_in : ℕ → List ℕ → List HandlerDef → ServiceDef
service_in region name handlers = record { name = name; region = region; handlers = plain handlers }

abbrev pub request_for : ℕ → ℕ → List ℕ → RequestDef
request_for service handler value = record { service = service; handler = handler; value = value }

abbrev pub app_with : List (List ℕ) → List StoreDef → List ServiceDef → List SubDef → List RequestDef → App
app_with regions stores services subs requests = record {
  regions = plain regions;
  stores = plain stores;
  services = plain services;
  subs = plain subs;
  requests = plain requests;
  choices = plain [];
  seed = 0;
  workers = 2;
}

-- ---- entries

abbrev pub made : ℕ → ℕ → ℕ → Actor → ℕ → Call → Reply → Entry
made stamp object place actor span call reply =
    record { stamp = stamp; object = object; place = place; seat = 0; actor = actor; span = span; call = call; reply = reply }

abbrev pub born_at : ℕ → ℕ → Actor
born_at object place = Process (record { object = object; place = place })

-- the take of a request, by which a process is born
abbrev pub taken_at : ℕ → ℕ → ℕ → List ℕ → List ℕ → Entry
taken_at stamp object place handler value =
    made stamp object place (born_at object place) 1 (calls.Take 1)
    (replies.Got place (record { kind = Request; to = 0; depth = 0; handler = handler; value = value; baggage = plain (codes "1;") }))

abbrev pub row_of : List ℕ → ℕ → List ℕ → List WriteId → Row
row_of key version value lineage = record { key = key; version = version; value = value; lineage = lineage }

-- the reply of a read, and that of a look that found all
abbrev pub shows : Row → Reply
shows row = replies.Shown (plain (row ∷ []))

abbrev pub clear : Reply
clear = replies.Missing [] []

-- ---- what a process asks for

-- what a process does, where the body of its handler is this block
abbrev pub tree_with : App → Block → Entry → Tree
tree_with app body birth = option_map_or (λ task. begun body (setting_of app task) task.carried) (task_of app birth) (Ends Fine)

-- its next call, after these entries
abbrev pub next_with : App → Block → List Entry → Option Ask
next_with app body [] = None
next_with app body (birth ∷ later) = ask_of (after (tree_with app body birth) (map reply_of later))

-- what is carried into the entry at a place, and the looks that are left after it, where this is the body of the handler
abbrev pub carried_with : App → List Entry → ℕ → Entry → Block → List WriteId
carried_with app trace j e body = option_map_or (λ ask. ask.carried) (next_with app body (entries_by e.actor (take j trace))) []

abbrev pub left_with : App → List Entry → ℕ → Entry → Block → Option (List PlannedLook)
left_with app trace j e body = option_and_then (λ ask. ask.left) (next_with app body (entries_by e.actor (take j trace)))
