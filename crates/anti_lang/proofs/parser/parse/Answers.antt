use Rattle.anti_lang.proofs.ParseLemmas.{read_made, parses_read}
use Rattle.anti_lang.proofs.parser.parse.Goals as goal

pub body_of-requires-clause-made : goal.body_of-requires-clause-made
body_of-requires-clause-made c = read_made c.in_ok-found.found _ c.in_ok-found.ensures.read

pub returns : goal.returns
returns c = rw c.as_slice.ensures at (parses_read c.body_of.result c.in_ok-found.found _ c.in_ok-found.ensures.read c.body_of.ensures)
