-- What is known of each call and each reply in a run of an application, so that none is foreign.
use Rattle.std.specs.Prelude.{◌≡◌, ℕ, ◌≤◌, true, List, IfSome}
use Rattle.anti_ids.specs.Each.{Each}
use Rattle.anti_ids.specs.Names.{is_name}
use Rattle.anti_ids.specs.declared.id.WriteId.{WriteId}
use Rattle.anti_kind.specs.declared.call.Call.{Call}
use Rattle.anti_kind.specs.declared.call.Call.TheVariants as calls
use Rattle.anti_kind.specs.declared.entry.Entry.{Entry}
use Rattle.anti_kind.specs.declared.message.Message.{Message}
use Rattle.anti_kind.specs.declared.call.Reply.{Reply}
use Rattle.anti_kind.specs.declared.call.Reply.TheVariants as replies
use Rattle.anti_kind.specs.declared.row.Row.{Row}
use Rattle.anti_baggage.specs.Over.{IsOver, IsIdOver}
use Rattle.anti_app.specs.declared.app.App.{App}
use Rattle.anti_ids.specs.declared.limits.TheConstants.{MOST_DEPTH}
use Rattle.anti_proc.specs.Calls.{IsOfProcess}
use Rattle.anti_proc.specs.Foreign.{has_baggage}
use Rattle.anti_proc.specs.Local.{id_at}
use Rattle.anti_app.specs.Objects.{store_names, has_handler}
use Rattle.anti_app.specs.Numbers.{service_at}
use Rattle.anti_proc.specs.Trees.{Tree, Asks, Ends}

-- ids over the stores of the application
abbrev pub IsOverApp : App → List WriteId → Type 0
IsOverApp app ids = IsOver (store_names app) ids

abbrev pub AreIdsOf : App → List WriteId → Type 0
AreIdsOf app ids = Each (IsIdOver (store_names app)) ids

-- a row of a store: the id that it has, and the lineage beside it
pub record IsRowOf (app : App) (store : ℕ) (row : Row) : Type 0 where
  pub id : AreIdsOf app (id_at store row.key row.version)
  pub lineage : IsOverApp app row.lineage

-- a message to the service of an inbox: for a handler that is there, not too deep, with the text of a lineage
pub record IsMessageTo (app : App) (inbox : ℕ) (m : Message) : Type 0 where
  pub handler : has_handler app (service_at app inbox) m.handler ≡ true
  pub depth : m.depth ≤ MOST_DEPTH
  pub baggage : has_baggage app m ≡ true

-- A call at an object: what is written there has a name for its key and a lineage, what is looked for is a lineage, and what is posted is a
-- message to the object's service.
abbrev pub IsCallAt : App → ℕ → Call → Type 0
IsCallAt app o (calls.Write key value lineage) = (is_name key ≡ true) × IsOverApp app lineage
IsCallAt app o (calls.Look region ids dry) = IsOverApp app ids
IsCallAt app o (calls.Post message) = IsMessageTo app o message
IsCallAt app o _ = Unit {0}

-- The reply of an object to a call.
abbrev pub IsReplyAt : App → ℕ → Reply → Type 0
IsReplyAt app o (replies.Written key version over) = AreIdsOf app (id_at o key version) × IfSome over (IsOverApp app)
IsReplyAt app o (replies.Shown rows) = Each (IsRowOf app o) rows.items
IsReplyAt app o (replies.Missing missing unwritten) = AreIdsOf app missing × AreIdsOf app unwritten
IsReplyAt app o (replies.Pulled row) = IsRowOf app o row
IsReplyAt app o (replies.Got number m) = IsMessageTo app o m
IsReplyAt app o _ = Unit {0}

-- an entry, by its call and its reply
pub record IsEntryOf (app : App) (e : Entry) : Type 0 where
  pub call : IsCallAt app e.object e.call
  pub reply : IsReplyAt app e.object e.reply

-- Each call of a process is one of the application, and carries a lineage over its stores, where the replies are of the application.
abbrev pub AllKnown : App → Tree → Type 0
AllKnown app (Asks ask go) =
    IsOfProcess app ask.object ask.span ask.call × IsCallAt app ask.object ask.call × IsOverApp app ask.carried
    × ((reply : Reply) → IsReplyAt app ask.object reply → AllKnown app (go reply))
AllKnown app (Ends end) = Unit {0}
