use Rattle.std.proofs.Common.{◌≡◌, ◌++◌, codes, sym, ap, ◌∙◌, subst, OnOk}
use Rattle.serde_json.specs.Written.{compact_text}
use Rattle.anti_text.specs.Json.{text}
use Rattle.anti_text.specs.Spans.{answer_text, span_name}
use Rattle.anti_text.proofs.Shapes.{span_added}
use Rattle.anti_text.proofs.json_items.SpanAnswerItem.print.Goals as goal

pub returns : goal.returns
returns c =
    let app = c.args.printer.now.app.now in
    let a = c.args.self.now in
    let answer : c.add_answer.new.out ≡ c.args.out.now ++ codes "{\"answer\":" ++ compact_text (text (answer_text app a.answer)) = c.in_ok-add_answer.ensures in
    let name : c.add_span.new.out ≡ c.add_answer.new.out ++ codes ",\"name\":" ++ compact_text (text (span_name app a.span)) = c.in_ok-add_span.ensures in
    let all = name ∙ ap (λ t. t ++ codes ",\"name\":" ++ compact_text (text (span_name app a.span))) answer in
    subst (λ t. OnOk c.put.result (c.put.new.self ≡ t)) (ap (λ t. t ++ codes "}") all ∙ sym (span_added c.args.out.now app a)) c.put.ensures
