use Rattle.std.proofs.Common.{◌≡◌, ℕ, List, ◌++◌, codes, length, decimal, ap, ◌∙◌, subst, OnOk}
use Rattle.std.specs.List.{flat_map}
use Rattle.std.proofs.lemmas.List.{append_assoc}
use Rattle.anti_text.specs.Entries.{entry_line, wait_line}
use Rattle.anti_text.specs.Processes.{process_line}
use Rattle.anti_text.specs.Spans.{span_line}
use Rattle.anti_text.proofs.record_text.add_text.Goals as goal

-- eight texts added one after another, and all at once
at_once : (out a b c d e f g h : List ℕ) → out ++ a ++ b ++ c ++ d ++ e ++ f ++ g ++ h ≡ out ++ (a ++ b ++ c ++ d ++ e ++ f ++ g ++ h)
at_once out a b c d e f g h = search (append_assoc)

pub returns : goal.returns
returns c =
    let app = c.args.printer.now.app.now in
    let t = c.args.report.now in
    let counted : c.len.result ≡ length t.entries = c.len.ensures.len ∙ ap (λ told. length told.entries) c.report.view_is in
    let lines = c.in_ok-all_lines.ensures ∙ ap (λ x. x ++ flat_map (entry_line app) t.entries ++ flat_map (wait_line app) t.waits ++ flat_map (process_line app) t.ends ++ flat_map (span_line app) t.spans) c.in_ok-put.ensures in
    let number = ap (λ n. c.all_lines.new.out ++ codes "end " ++ decimal n ++ codes "\n") counted in
    let whole = number ∙ ap (λ x. x ++ codes "end " ++ decimal (length t.entries) ++ codes "\n") lines in
    subst (λ x. OnOk c.end_line.result (c.end_line.new.out ≡ x))
    (whole ∙ at_once c.args.out.now (codes "record 1\n") (flat_map (entry_line app) t.entries) (flat_map (wait_line app) t.waits) (flat_map (process_line app) t.ends) (flat_map (span_line app) t.spans) (codes "end ") (decimal (length t.entries)) (codes "\n"))
    c.end_line.ensures
