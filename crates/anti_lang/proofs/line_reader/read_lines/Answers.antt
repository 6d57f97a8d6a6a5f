use Rattle.std.proofs.Common.{◌≡◌, ◌∙◌, sym, ap, arith}
use Rattle.std.specs.Prelude.{option_map, Some}
use Rattle.std.proofs.lemmas.Grind.{common_steps}
use Rattle.anti_lang.specs.Parses.{line_of}
use Rattle.anti_lang.specs.Lines.{read_line}
use Rattle.anti_lang.specs.Words.{words}
use Rattle.anti_lang.proofs.ReadLemmas.{here_first, read_to_next}
use Rattle.anti_lang.proofs.line_reader.read_lines.Goals as goal

pub loop-i-preserved : goal.loop-i-preserved
loop-i-preserved c =
    let here = here_first c.args.lines.now c.loop-i.i c.index-lines-i.result c.loop-i-test.true c.index-lines-i.is in
    let before = rw here at c.loop-i.invariant.read in
    let states : option_map line_of (read_line (words c.index-lines-i.result.items)) ≡ Some c.in-Some.line =
    ap (λ text. option_map line_of (read_line (words text))) (sym c.bytes.ensures) ∙ sym c.in_ok-line.ensures ∙ c.in-Some.is in
    record {
      read =
          read_to_next c.loop-i.found c.add.new.self _ c.index-lines-i.result.items _ c.loop-i.i c.in-Some.line before states c.in_ok-add-in-Some.ensures.ok;
      count = grind (arith, common_steps);
    }

pub returns-in-None : goal.returns-in-None
returns-in-None c = grind (arith, common_steps)
