-- What came to the spans of a process by its calls, and what it carries.
use Rattle.std.specs.Prelude.{ℕ, ◌≡◌, ◌==◌, true, List, [], ◌∷◌, ◌++◌, Some, IfSome, unwrap_or, if◌then◌else◌}
use Rattle.std.specs.Option.{option_map_or}
use Rattle.anti_ids.specs.Each.{Each}
use Rattle.anti_ids.specs.Invariants.{IsLineage}
use Rattle.anti_ids.specs.Ids.{has_id}
use Rattle.anti_ids.specs.declared.id.WriteId.{WriteId}
use Rattle.anti_kind.specs.declared.entry.Entry.{Entry}
use Rattle.anti_kind.specs.declared.call.Reply.{Reply}
use Rattle.anti_kind.specs.declared.call.Reply.TheVariants as replies
use Rattle.anti_app.specs.declared.app.App.{App}
use Rattle.anti_proc.specs.Tasks.{task_of}
use Rattle.anti_proc.specs.Trees.{Tree, Ask, Asks, Ends, after, ask_of}
use Rattle.anti_proc.specs.Came.{came}

-- the ids that came to a process with its message or its row
abbrev pub came_first : App → Entry → List WriteId
came_first app birth = option_map_or (λ task. unwrap_or task.carried []) (task_of app birth) []

-- an answered call
pub record Made : Type 0 where
  pub ask : Ask
  pub reply : Reply

-- the calls that a process made, which got these replies
abbrev pub made : Tree → List Reply → List Made
made (Asks ask go) [] = []
made (Asks ask go) (reply ∷ replies) = record { ask = ask; reply = reply } ∷ made (go reply) replies
made (Ends end) replies = []

-- what came to a span by these calls
abbrev pub brought_by : App → ℕ → List Made → List WriteId
brought_by app span [] = []
brought_by app span (m ∷ ms) = (if m.ask.span == span then came app m.ask.object m.ask.call m.reply else []) ++ brought_by app span ms

-- and, to the first span, what the process was born with
abbrev pub brought : App → List WriteId → ℕ → List Made → List WriteId
brought app first span ms = (if span == 1 then first else []) ++ brought_by app span ms

-- Each id that the process carries into a call came to the call's span before.
abbrev pub CarriesWhatCame : App → List WriteId → Tree → Type 0
CarriesWhatCame app first tree =
    (replies : List Reply) (ask : Ask) → ask_of (after tree replies) ≡ Some ask
    → (i : WriteId) → has_id i ask.carried ≡ true → has_id i (brought app first ask.span (made tree replies)) ≡ true

-- What a reply to a write tells, and the rows of a reply, have lineages.
abbrev pub HasLineages : Reply → Type 0
HasLineages (replies.Written key version over) = IfSome over IsLineage
HasLineages (replies.Shown rows) = Each (λ row. IsLineage row.lineage) rows.items
HasLineages (replies.Pulled row) = IsLineage row.lineage
HasLineages _ = Unit {0}

-- What the process carries into a call is a lineage, where the rows that it was shown have lineages.
abbrev pub CarriesLineages : Tree → Type 0
CarriesLineages tree = (replies : List Reply) (ask : Ask) → Each HasLineages replies → ask_of (after tree replies) ≡ Some ask → IsLineage ask.carried
