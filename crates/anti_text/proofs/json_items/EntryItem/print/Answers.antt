use Rattle.std.proofs.Common.{◌≡◌, ℕ, ◌++◌, codes, decimal, sym, ap, ◌∙◌, subst, OnOk}
use Rattle.serde_json.specs.Written.{compact_text}
use Rattle.anti_text.specs.Calls.{call_text, reply_text}
use Rattle.anti_text.specs.Entries.{actor_name}
use Rattle.anti_text.specs.Json.{text}
use Rattle.anti_text.specs.Words.{object_name}
use Rattle.anti_text.proofs.Shapes.{entry_added}
use Rattle.anti_text.proofs.json_items.EntryItem.print.Goals as goal

pub returns : goal.returns
returns c =
    let app = c.args.printer.now.app.now in
    let e = c.args.self.now in
    let actor : c.add_actor.new.out ≡ c.args.out.now ++ codes "{\"actor\":" ++ compact_text (text (actor_name app e.actor)) = c.in_ok-add_actor.ensures in
    let call : c.add_call.new.out ≡ c.add_actor.new.out ++ codes ",\"call\":" ++ compact_text (text (call_text app e.object e.call)) = c.in_ok-add_call.ensures in
    let object : c.add_object.new.out ≡ c.add_call.new.out ++ codes ",\"object\":" ++ compact_text (text (object_name app e.object)) = c.in_ok-add_object.ensures in
    let place : c.add_number.new.out ≡ c.add_object.new.out ++ codes ",\"place\":" ++ decimal e.place =
    c.in_ok-add_number.ensures ∙ ap (λ (m : ℕ). c.add_object.new.out ++ codes ",\"place\":" ++ decimal m) c.from.ensures in
    let reply : c.add_reply.new.out ≡ c.add_number.new.out ++ codes ",\"reply\":" ++ compact_text (text (reply_text app e.reply)) = c.in_ok-add_reply.ensures in
    let span : c.add_number-2.new.out ≡ c.add_reply.new.out ++ codes ",\"span\":" ++ decimal e.span =
    c.in_ok-add_number-2.ensures ∙ ap (λ (m : ℕ). c.add_reply.new.out ++ codes ",\"span\":" ++ decimal m) c.from-2.ensures in
    let stamp : c.add_number-3.new.out ≡ c.add_number-2.new.out ++ codes ",\"stamp\":" ++ decimal e.stamp = c.in_ok-add_number-3.ensures in
    let all =
    stamp ∙ ap (λ t. t ++ codes ",\"stamp\":" ++ decimal e.stamp)
    (span ∙ ap (λ t. t ++ codes ",\"span\":" ++ decimal e.span)
    (reply ∙ ap (λ t. t ++ codes ",\"reply\":" ++ compact_text (text (reply_text app e.reply)))
    (place ∙ ap (λ t. t ++ codes ",\"place\":" ++ decimal e.place)
    (object ∙ ap (λ t. t ++ codes ",\"object\":" ++ compact_text (text (object_name app e.object)))
    (call ∙ ap (λ t. t ++ codes ",\"call\":" ++ compact_text (text (call_text app e.object e.call))) actor))))) in
    subst (λ t. OnOk c.put.result (c.put.new.self ≡ t)) (ap (λ t. t ++ codes "}") all ∙ sym (entry_added c.args.out.now app e)) c.put.ensures
