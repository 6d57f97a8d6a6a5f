-- What an entry wrote, what it was shown, and what came with it: by its call and its reply.
use Rattle.std.specs.Prelude.{ℕ, Bool, true, false, List, [], ◌∷◌, flat_map}
use Rattle.anti_ids.specs.declared.id.WriteId.{WriteId}
use Rattle.anti_kind.specs.declared.call.Call.{Call}
use Rattle.anti_kind.specs.declared.call.Call.TheVariants as calls
use Rattle.anti_kind.specs.declared.call.Reply.{Reply}
use Rattle.anti_kind.specs.declared.call.Reply.TheVariants as replies
use Rattle.anti_kind.specs.declared.entry.Entry.{Entry}
use Rattle.anti_kind.specs.declared.row.Row.{Row}
use Rattle.anti_app.specs.declared.app.App.{App}
use Rattle.anti_proc.specs.Came.{came}
use Rattle.anti_proc.specs.Local.{id_at, row_ids}
use Rattle.anti_proc.specs.Meaning.{stated_in}

-- the id of the write that a call made at an object
abbrev pub id_written : ℕ → Call → Reply → List WriteId
id_written o (calls.Write key value lineage) (replies.Written name version kept) = id_at o name version
id_written o call reply = []

abbrev pub wrote : Entry → List WriteId
wrote e = id_written e.object e.call e.reply

-- the rows that a read showed, or a pull handed out
abbrev pub rows_in : Call → Reply → List Row
rows_in (calls.Read region key) (replies.Shown rows) = rows.items
rows_in (calls.Scan region prefix) (replies.Shown rows) = rows.items
rows_in (calls.Poll region key) (replies.Shown rows) = rows.items
rows_in (calls.Pull sub) (replies.Pulled row) = row ∷ []
rows_in (calls.Repull sub version) (replies.Pulled row) = row ∷ []
rows_in call reply = []

-- the ids of these rows, and the ids in the lineages that are stored beside them
abbrev pub shown : Entry → List WriteId
shown e = flat_map (λ row. id_at e.object row.key row.version) (rows_in e.call e.reply)

abbrev pub beside : Entry → List WriteId
beside e = flat_map (λ row. row.lineage) (rows_in e.call e.reply)

-- All ids that come with an answered call: of a write its own and those that are kept beside it, of a row its own and its lineage, of a
-- message its lineage.
abbrev pub comes_with : App → ℕ → Call → Reply → List WriteId
comes_with app o (calls.Take nth) (replies.Got number m) = stated_in app m
comes_with app o (calls.Pull sub) (replies.Pulled row) = row_ids o row
comes_with app o (calls.Repull sub version) (replies.Pulled row) = row_ids o row
comes_with app o call reply = came app o call reply

abbrev pub brings : App → Entry → List WriteId
brings app e = comes_with app e.object e.call e.reply

-- ---- messages

-- A message is known on its inbox by a number: a call or a send by its own, a reply by that of the call that it answers.
pub data Letter : Type 0 where
  asked : (number : ℕ) → Letter
  answered : (number : ℕ) → Letter

abbrev pub posts_in : Call → Reply → List Letter
posts_in (calls.Post m) (replies.Posted number) = asked number ∷ []
posts_in (calls.Post m) replies.Done = answered m.to ∷ []
posts_in call reply = []

abbrev pub takes_in : Call → Reply → List Letter
takes_in (calls.Take nth) (replies.Got number m) = asked number ∷ []
takes_in (calls.TakeReply number) reply = answered number ∷ []
takes_in call reply = []

-- ---- kinds of calls

-- whether a call is a read: of one key, of a prefix, or of a cell
abbrev pub reads : Call → Bool
reads (calls.Read region key) = true
reads (calls.Scan region prefix) = true
reads (calls.Poll region key) = true
reads call = false

-- Whether a process is to carry, at a call, all that came to it: where it writes, reads, looks or posts.
abbrev pub hands_all : Call → Bool
hands_all (calls.Write key value lineage) = true
hands_all (calls.Look region ids dry) = true
hands_all (calls.Post m) = true
hands_all call = reads call
