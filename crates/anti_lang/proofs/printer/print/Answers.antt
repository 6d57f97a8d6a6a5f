use Rattle.std.proofs.Common.{◌≡◌, ◌∙◌, ap, rules}
use Rattle.anti_lang.specs.Bodies.{block_of}
use Rattle.anti_lang.specs.Parses.{texts_of}
use Rattle.anti_lang.specs.Parsing.{parsed}
use Rattle.anti_lang.specs.Printing.{printed}
use Rattle.anti_lang.proofs.BodyLaws.{parsed_again}
use Rattle.anti_lang.proofs.PlainLemmas.{block_again}
use Rattle.anti_lang.proofs.printer.print.Goals as goal

pub returns-clause-again : goal.returns-clause-again
returns-clause-again c = λ texts block parses same.
    let lines : texts_of c.add_lines.new.lines ≡ printed (block_of c.args.body.now) = search rules in
    ap parsed lines ∙ ap (λ body. parsed (printed (block_of body))) same ∙ ap (λ b. parsed (printed b)) (block_again block) ∙ parsed_again texts block parses
