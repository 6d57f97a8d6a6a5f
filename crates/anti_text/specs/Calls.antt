-- The words of a call and of a reply.
use Rattle.std.specs.Prelude.{ℕ, List, [], ◌∷◌, ◌++◌, ◌==◌, Option, None, Some, codes, decimal, if◌then◌else◌}
use Rattle.std.specs.List.{join_by}
use Rattle.std.specs.Option.{option_map_or}
use Rattle.anti_ids.specs.declared.id.WriteId.{WriteId}
use Rattle.anti_kind.specs.declared.call.Call.{Call}
use Rattle.anti_kind.specs.declared.call.Call.TheVariants as calls
use Rattle.anti_kind.specs.declared.message.Message.{Message}
use Rattle.anti_kind.specs.declared.message.MessageKind.{MessageKind}
use Rattle.anti_kind.specs.declared.message.MessageKind.TheVariants as messages
use Rattle.anti_kind.specs.declared.call.Reply.{Reply}
use Rattle.anti_kind.specs.declared.call.Reply.TheVariants as replies
use Rattle.anti_kind.specs.declared.row.Row.{Row}
use Rattle.anti_app.specs.declared.app.App.{App}
use Rattle.anti_proc.specs.Stated.{stated_lineage}
use Rattle.anti_text.specs.Words.{region_name, sub_name_on, quoted, lineage_text}

-- the kind, and what a message says: the handler, the depth, the value and the lineage
abbrev pub kind_text : MessageKind → List ℕ
kind_text messages.Request = codes "request"
kind_text messages.Call = codes "call"
kind_text messages.Send = codes "send"
kind_text messages.Reply = codes "reply"

-- the lineage that a message carries, whatever the version of its text; nothing where its text states none
abbrev pub carried_text : App → Message → List ℕ
carried_text app m = option_map_or (lineage_text app) (stated_lineage app m) []

abbrev pub value_and_baggage : App → Message → List ℕ
value_and_baggage app m = quoted m.value ++ codes " " ++ carried_text app m

abbrev pub handler_and_rest : App → Message → List ℕ
handler_and_rest app m =
    m.handler ++ codes " " ++ decimal m.depth ++ codes " " ++ value_and_baggage app m

-- a message as it is posted: a reply says to which call it goes
abbrev pub posted_text : App → Message → MessageKind → List ℕ
posted_text app m messages.Reply =
    codes "reply " ++ decimal m.to ++ codes " " ++ value_and_baggage app m
posted_text app m kind = kind_text kind ++ codes " " ++ handler_and_rest app m

-- a message as it is taken: a reply to a call says its value and its lineage alone
abbrev pub taken_text : App → ℕ → Message → MessageKind → List ℕ
taken_text app number m messages.Reply = value_and_baggage app m
taken_text app number m kind =
    decimal number ++ codes " " ++ kind_text kind ++ codes " " ++ handler_and_rest app m

-- a key at a region, and a version and its part at a region
abbrev pub key_at_region : App → ℕ → List ℕ → List ℕ
key_at_region app region key = region_name app region ++ codes " " ++ key

abbrev pub part_at_region : App → ℕ → ℕ → ℕ → List ℕ
part_at_region app region version part =
    region_name app region ++ codes " " ++ decimal version ++ codes " " ++ decimal part

-- a call at the object with a number; a pull names the sub at its position among those of that
-- store
abbrev pub call_text : App → ℕ → Call → List ℕ
call_text app object (calls.Write key value lineage) =
    codes "write " ++ key ++ codes " " ++ quoted value ++ codes " " ++ lineage_text app lineage
call_text app object (calls.Read region key) = codes "read " ++ key_at_region app region key
call_text app object (calls.Scan region prefix) = codes "scan " ++ key_at_region app region prefix
call_text app object (calls.Poll region key) = codes "poll " ++ key_at_region app region key
call_text app object (calls.Look region ids dry) =
    (if dry then codes "dry " else codes "look ")
    ++ region_name app region ++ codes " " ++ lineage_text app ids
call_text app object (calls.Ship region version part) =
    codes "ship " ++ part_at_region app region version part
call_text app object (calls.Again region version part) =
    codes "again " ++ part_at_region app region version part
call_text app object (calls.Pull sub) = codes "pull " ++ sub_name_on app object sub
call_text app object (calls.Repull sub version) =
    codes "repull " ++ sub_name_on app object sub ++ codes " " ++ decimal version
call_text app object (calls.Ack version) = codes "ack " ++ decimal version
call_text app object (calls.Nack version) = codes "nack " ++ decimal version
call_text app object (calls.Post message) = codes "post " ++ posted_text app message message.kind
call_text app object (calls.Take nth) = codes "take " ++ decimal nth
call_text app object (calls.Repost number) = codes "repost " ++ decimal number
call_text app object (calls.TakeReply number) = codes "takereply " ++ decimal number

-- a key with its version, as `p1@3`
abbrev pub version_text : List ℕ → ℕ → List ℕ
version_text key version = key ++ codes "@" ++ decimal version

-- a row: of version 0, which nobody wrote, its key alone
abbrev pub row_text : App → Row → List ℕ
row_text app row =
    if row.version == 0 then row.key ++ codes "@0"
    else version_text row.key row.version
    ++ codes " " ++ quoted row.value ++ codes " " ++ lineage_text app row.lineage

abbrev pub rows_text : App → List Row → List ℕ
rows_text app [] = codes "none"
rows_text app (row ∷ rows) = join_by (row_text app) (codes " + ") (row ∷ rows)

-- what a look named: nothing, or the writes that are missing and those that were never written
abbrev pub look_text : App → List WriteId → List WriteId → List ℕ
look_text app [] [] = codes "clear"
look_text app missing unwritten =
    codes "missing " ++ lineage_text app missing ++ codes " unwritten " ++ lineage_text app unwritten

-- what is kept beside a write, where that is more than it handed in
abbrev pub over_text : App → Option (List WriteId) → List ℕ
over_text app None = []
over_text app (Some kept) = codes " over " ++ lineage_text app kept

abbrev pub reply_text : App → Reply → List ℕ
reply_text app (replies.Written key version over) = version_text key version ++ over_text app over
reply_text app (replies.Shown rows) = rows_text app rows.items
reply_text app (replies.Missing missing unwritten) = look_text app missing unwritten
reply_text app replies.Moved = codes "moved"
reply_text app (replies.Pulled row) = row_text app row
reply_text app (replies.Posted number) = codes "posted " ++ decimal number
reply_text app (replies.Got number message) =
    codes "got " ++ taken_text app number message message.kind
reply_text app replies.Done = codes "done"
