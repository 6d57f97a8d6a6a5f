use Rattle.std.proofs.Common.{◌≡◌, ◌∙◌, ap, sym, Some}
use Rattle.std.specs.Prelude.{slice_get}
use Rattle.anti_ids.specs.List.{Listed}
use Rattle.anti_ids.specs.ListCalls.{pushed}
use Rattle.anti_kind.specs.declared.message.Message.{Message}
use Rattle.anti_object.proofs.News.{added, found, missed, no_message, one_message, unchanged}
use Rattle.anti_object.proofs.from_app.add_request.Goals as goal

pub returns-in_default : goal.returns-in_default
returns-in_default c =
    unchanged c.args.messages.now _ c.requires (no_message c.args.service.now c.args.number c.args.request.now
    (missed _ c.as_slice-handlers.result.now c.args.request.now.handler c.as_slice-handlers.ensures c.in_default.ensures.lookup.3))

pub returns : goal.returns
returns c =
    let handler = c.in-Some.handler.now in
    let there : slice_get c.args.service.now.handlers.items c.args.request.now.handler ≡ Some handler =
    found _ c.as_slice-handlers.result.now c.args.request.now.handler handler c.as_slice-handlers.ensures c.in-Some.ensures.lookup.3.0 c.in-Some.ensures.lookup.1 in
    let one = one_message c.args.service.now c.args.number c.args.request.now handler c.if-request-number.false there in
    c.put.ensures ∙ ap (λ (l : Listed Message). pushed l c.in_ok-message_to.field-0) c.in_ok-reserve.ensures.ok
    ∙ added c.args.messages.now c.in_ok-message_to.field-0 _ c.requires (c.in_ok-message_to.ensures ∙ sym one)
