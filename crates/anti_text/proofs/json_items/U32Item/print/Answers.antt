use Rattle.std.proofs.Common.{◌≡◌, ℕ, ◌++◌, codes, decimal, sym, ap, ◌∙◌, subst, OnOk}
use Rattle.serde_json.specs.Written.{compact_text}
use Rattle.anti_text.specs.Entries.{choice_numbered}
use Rattle.anti_text.specs.Json.{text}
use Rattle.anti_text.proofs.Shapes.{wait_added}
use Rattle.anti_text.proofs.json_items.U32Item.print.Goals as goal

pub returns : goal.returns
returns c =
    let app = c.args.printer.now.app.now in
    let n = c.args.self.now in
    let choice : c.add_choice.new.out ≡ c.args.out.now ++ codes "{\"choice\":" ++ compact_text (text (choice_numbered app n)) = c.in_ok-add_choice.ensures in
    let number : c.add_number.new.out ≡ c.add_choice.new.out ++ codes ",\"number\":" ++ decimal n =
    c.in_ok-add_number.ensures ∙ ap (λ (m : ℕ). c.add_choice.new.out ++ codes ",\"number\":" ++ decimal m) c.from.ensures in
    let all = number ∙ ap (λ t. t ++ codes ",\"number\":" ++ decimal n) choice in
    subst (λ t. OnOk c.put.result (c.put.new.self ≡ t)) (ap (λ t. t ++ codes "}") all ∙ sym (wait_added c.args.out.now app n)) c.put.ensures
