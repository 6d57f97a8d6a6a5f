use Rattle.std.proofs.Common.{Some, option_map, ap, sym, ◌≡◌, ◌∙◌}
use Rattle.toml.specs.View.{table_view}
use Rattle.anti_lang.specs.Words.{words}
use Rattle.anti_lang.specs.Parses.{line_of}
use Rattle.anti_lang.specs.Lines.{read_line}
use Rattle.anti_rules.specs.inner.Parses.{line_fits}
use Rattle.anti_rules.proofs.StatedLines.{some_fits}
use Rattle.anti_rules.proofs.body.text_fits.Goals as goal

pub returns-in-Some : goal.returns-in-Some
returns-in-Some c =
    let read : Some c.in-Some.line ≡ option_map line_of (read_line (words c.args.text.now)) =
    sym c.in-Some.is ∙ (c.in_ok-line.ensures ∙ ap (λ text. option_map line_of (read_line (words text))) c.as_bytes.ensures.value) in
    c.line_fits.ensures ∙ some_fits (line_fits c.args.rule (table_view c.args.doc.now) c.args.home.now) c.in-Some.line (read_line (words c.args.text.now)) read
