-- An application may be seen from two threads. A statement can hold statements, so a check does not find this by itself, neither of it nor of
-- what holds it.
use denote.Param.Send.{IsSync, recorded_sync, sendable}
use Rattle.std.proofs.Crossing.{crosses}
use Rattle.anti_ids.proofs.list.List.TheSendSync as list
use Rattle.anti_ids.proofs.name.Name.TheSendSync as name
use Rattle.anti_lang.proofs.statement.KeyWord.TheSendSync as key_word
use Rattle.anti_lang.proofs.statement.ValueWord.TheSendSync as value_word
use Rattle.anti_lang.proofs.statement.Statement.TheLaws.TheKnot.{sync-Statement}
use Rattle.anti_lang.specs.contracts.statement.Statement as statement_row
use Rattle.anti_app.proofs.app.Choice.TheSendSync as choice
use Rattle.anti_app.proofs.app.RequestDef.TheSendSync as request
use Rattle.anti_app.proofs.app.StoreDef.TheSendSync as store
use Rattle.anti_app.proofs.app.SubDef.TheSendSync as sub
use Rattle.anti_app.specs.contracts.app.App as app_row
use Rattle.anti_app.specs.contracts.app.HandlerDef as handler_row
use Rattle.anti_app.specs.contracts.app.ServiceDef as service_row

pub statement_sync : IsSync statement_row.the_row
statement_sync =
    recorded_sync (statement_row.the_field).row _ _ (statement_row.the_type).to_one
    (sync-Statement (search (name.the_sync, crosses, sendable) depth 20) key_word.the_field_sync value_word.the_field_sync
    (search (name.the_sync, crosses, sendable) depth 20) (search (crosses, sendable) depth 20) (search (crosses, sendable) depth 20)
    (search (list.the_sync, crosses, sendable) depth 20))

pub handler_sync : IsSync handler_row.the_row
handler_sync = search (statement_sync, name.the_sync, list.the_sync, crosses, sendable) depth 30

pub service_sync : IsSync service_row.the_row
service_sync = search (handler_sync, name.the_sync, list.the_sync, crosses, sendable) depth 30

pub app_sync : IsSync app_row.the_row
app_sync = search (service_sync, store.the_sync, sub.the_sync, request.the_sync, choice.the_sync, name.the_sync, list.the_sync, crosses, sendable) depth 30
