-- What an answered call brings.
use Rattle.std.specs.Prelude.{ℕ, List, [], ◌++◌, unwrap_or}
use Rattle.anti_ids.specs.declared.id.WriteId.{WriteId}
use Rattle.anti_kind.specs.declared.call.Call.{Call}
use Rattle.anti_kind.specs.declared.call.Reply.{Reply}
use Rattle.anti_kind.specs.declared.call.Call.TheVariants as calls
use Rattle.anti_kind.specs.declared.call.Reply.TheVariants as replies
use Rattle.anti_app.specs.declared.app.App.{App}
use Rattle.anti_proc.specs.Local.{id_at, rows_ids}
use Rattle.anti_proc.specs.Meaning.{stated_in}

-- The ids that an answered call brings: a write its id, and what is kept beside it where that is more than was handed in; a read the ids of its
-- rows and the lineages that are stored beside them; a reply its lineage.
abbrev pub came : App → ℕ → Call → Reply → List WriteId
came app object (calls.Write key value lineage) (replies.Written written version over) = id_at object written version ++ unwrap_or over []
came app object (calls.Read region key) (replies.Shown rows) = rows_ids object rows.items
came app object (calls.Scan region prefix) (replies.Shown rows) = rows_ids object rows.items
came app object (calls.Poll region key) (replies.Shown rows) = rows_ids object rows.items
came app object (calls.TakeReply number) (replies.Got got m) = stated_in app m
came app object call reply = []
