use Rattle.std.proofs.Common.{◌≡◌, ◌++◌, codes, rules, sym, ap, ◌∙◌, subst, OnOk}
use Rattle.serde_json.specs.Written.{compact_text}
use Rattle.anti_text.specs.Json.{text}
use Rattle.anti_text.specs.Processes.{end_text}
use Rattle.anti_text.specs.Words.{service_name, handler_name, mark_text}
use Rattle.anti_text.proofs.Shapes.{process_added}
use Rattle.anti_text.proofs.json_items.ProcessEndItem.print.Goals as goal

pub returns : goal.returns
returns c =
    let app = c.args.printer.now.app.now in
    let p = c.args.self.now in
    let end : c.add_end.new.out ≡ c.args.out.now ++ codes "{\"end\":" ++ compact_text (text (end_text app p.end)) = search rules in
    let handler : c.add_handler.new.out ≡ c.add_end.new.out ++ codes ",\"handler\":" ++ compact_text (text (handler_name app p.service p.handler)) = c.in_ok-add_handler.ensures in
    let name : c.add_mark.new.out ≡ c.add_handler.new.out ++ codes ",\"name\":" ++ compact_text (text (mark_text app p.birth.object p.birth.place)) = search rules in
    let service : c.add_service.new.out ≡ c.add_mark.new.out ++ codes ",\"service\":" ++ compact_text (text (service_name app p.service)) = c.in_ok-add_service.ensures in
    let all =
    service ∙ ap (λ t. t ++ codes ",\"service\":" ++ compact_text (text (service_name app p.service)))
    (name ∙ ap (λ t. t ++ codes ",\"name\":" ++ compact_text (text (mark_text app p.birth.object p.birth.place)))
    (handler ∙ ap (λ t. t ++ codes ",\"handler\":" ++ compact_text (text (handler_name app p.service p.handler))) end)) in
    subst (λ t. OnOk c.put.result (c.put.new.self ≡ t)) (ap (λ t. t ++ codes "}") all ∙ sym (process_added c.args.out.now app p)) c.put.ensures
