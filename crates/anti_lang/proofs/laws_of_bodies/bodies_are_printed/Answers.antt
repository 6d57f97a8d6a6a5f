use Rattle.anti_lang.proofs.BodyLaws.{lines_stated, few_spans, parsed_again}
use Rattle.anti_lang.proofs.PlainLemmas.{block_again}
use Rattle.anti_lang.proofs.laws_of_bodies.bodies_are_printed.Goals as goal

pub returns : goal.returns
returns c = record {
  lines = lines_stated;
  spans = few_spans;
  again = parsed_again;
  code = block_again;
}
