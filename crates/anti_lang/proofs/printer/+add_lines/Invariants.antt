use Rattle.std.proofs.Common.{◌≡◌, ◌++◌, map, drop}
use Rattle.anti_lang.specs.Bodies.{block_from, step_of}
use Rattle.anti_lang.specs.Printing.{printed}
use Rattle.anti_lang.specs.Parses.{texts_of}
use Rattle.anti_lang.proofs.printer.+add_lines.Given as goal

abbrev pub invariant-loop-statement : goal.invariant-loop-statement
invariant-loop-statement l =
    texts_of l.lines ++ printed (block_from (map step_of (drop l.statement-index l.statements)))
    ≡ texts_of l.fn.lines ++ printed (block_from (map step_of l.statements))
