use Rattle.std.proofs.Common.{◌≡◌, ℕ, List, ◌++◌, codes, length, decimal, rules, false, map, sym, ap, ◌∙◌, subst, OnOk}
use Rattle.std.proofs.lemmas.List.{append_assoc}
use Rattle.serde_json.specs.Data.{Data}
use Rattle.serde_json.specs.View.{items_of}
use Rattle.serde_json.specs.Written.{items_text}
use Rattle.anti_app.specs.declared.app.App.{App}
use Rattle.anti_text.specs.Json.{entry_data, process_data, span_data, wait_data}
use Rattle.anti_text.proofs.Shapes.{record_added}
use Rattle.anti_text.proofs.record_json.add_record.Goals as goal

-- a list that was added, by what its items are
added : {T : Type 0} (says : App → T → Data) (new out before : List ℕ) (app : App) (xs ys : List T) → xs ≡ ys
    → new ≡ out ++ before ++ items_text false (items_of (map (says app) xs)) → new ≡ out ++ before ++ items_text false (items_of (map (says app) ys))
added says new out before app xs ys items h = rw (← items) h

pub returns : goal.returns
returns c =
    let app = c.args.printer.now.app.now in
    let t = c.args.report.now in
    let told_entries : c.as_slice-entries.result.now ≡ t.entries = c.as_slice-entries.ensures.entries ∙ ap (λ told. told.entries) c.report.view_is in
    let told_ends : c.as_slice.result.now ≡ t.ends = c.as_slice.ensures ∙ ap (λ told. told.ends) c.report.view_is in
    let told_spans : c.as_slice-2.result.now ≡ t.spans = c.as_slice-2.ensures ∙ ap (λ told. told.spans) c.report.view_is in
    let told_waits : c.as_slice-3.result.now ≡ t.waits = c.as_slice-3.ensures ∙ ap (λ told. told.waits) c.report.view_is in
    let number : c.add_number.new.out ≡ c.args.out.now ++ codes "{\"end\":" ++ decimal (length t.entries) = search rules in
    let entries : c.add_list.new.out ≡ c.add_number.new.out ++ codes ",\"entries\":[" ++ items_text false (items_of (map (entry_data app) t.entries)) =
    added entry_data c.add_list.new.out c.add_number.new.out (codes ",\"entries\":[") app c.as_slice-entries.result.now t.entries told_entries c.in_ok-add_list.ensures in
    let processes : c.add_list-2.new.out ≡ c.add_list.new.out ++ codes ",\"processes\":[" ++ items_text false (items_of (map (process_data app) t.ends)) =
    added process_data c.add_list-2.new.out c.add_list.new.out (codes ",\"processes\":[") app c.as_slice.result.now t.ends told_ends c.in_ok-add_list-2.ensures in
    let spans : c.add_list-3.new.out ≡ c.add_list-2.new.out ++ codes ",\"record\":1,\"spans\":[" ++ items_text false (items_of (map (span_data app) t.spans)) =
    added span_data c.add_list-3.new.out c.add_list-2.new.out (codes ",\"record\":1,\"spans\":[") app c.as_slice-2.result.now t.spans told_spans c.in_ok-add_list-3.ensures in
    let waits : c.add_list-4.new.out ≡ c.add_list-3.new.out ++ codes ",\"waits\":[" ++ items_text false (items_of (map (wait_data app) t.waits)) =
    added wait_data c.add_list-4.new.out c.add_list-3.new.out (codes ",\"waits\":[") app c.as_slice-3.result.now t.waits told_waits c.in_ok-add_list-4.ensures in
    let all =
    ap (λ x. x ++ codes "}")
    (waits ∙ ap (λ x. x ++ codes ",\"waits\":[" ++ items_text false (items_of (map (wait_data app) t.waits)))
    (spans ∙ ap (λ x. x ++ codes ",\"record\":1,\"spans\":[" ++ items_text false (items_of (map (span_data app) t.spans)))
    (processes ∙ ap (λ x. x ++ codes ",\"processes\":[" ++ items_text false (items_of (map (process_data app) t.ends)))
    (entries ∙ ap (λ x. x ++ codes ",\"entries\":[" ++ items_text false (items_of (map (entry_data app) t.entries))) number)))) in
    let closed = sym (append_assoc c.add_list-4.new.out (codes "}") (codes "\n")) in
    subst (λ x. OnOk c.put.result (c.put.new.self ≡ x)) (closed ∙ ap (λ x. x ++ codes "\n") all ∙ sym (record_added c.args.out.now app t)) c.put.ensures
