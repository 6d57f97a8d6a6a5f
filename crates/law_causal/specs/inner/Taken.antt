-- The lineage of a message that is taken, and what the reply to a write tells that is kept.
use Rattle.std.specs.Prelude.{List, [], unwrap_or}
use Rattle.anti_ids.specs.declared.id.WriteId.{WriteId}
use Rattle.anti_kind.specs.declared.call.Call.{Call}
use Rattle.anti_kind.specs.declared.call.Reply.{Reply}
use Rattle.anti_kind.specs.declared.entry.Entry.{Entry}
use Rattle.anti_kind.specs.declared.call.Call.TheVariants as calls
use Rattle.anti_kind.specs.declared.call.Reply.TheVariants as replies
use Rattle.anti_app.specs.declared.app.App.{App}
use Rattle.anti_proc.specs.Meaning.{stated_in}

-- the lineage of the message that is taken
abbrev pub taken_in : App → Call → Reply → List WriteId
taken_in app (calls.Take nth) (replies.Got number m) = stated_in app m
taken_in app (calls.TakeReply to) (replies.Got number m) = stated_in app m
taken_in app call reply = []

abbrev pub taken : App → Entry → List WriteId
taken app e = taken_in app e.call e.reply

-- what the reply to a write tells that is kept beside it
abbrev pub told_in : Call → Reply → List WriteId
told_in (calls.Write key value lineage) (replies.Written name version over) = unwrap_or over []
told_in call reply = []

abbrev pub told : Entry → List WriteId
told e = told_in e.call e.reply
