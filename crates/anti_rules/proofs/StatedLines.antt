-- A test of a line that is read, and of the line of the code.
use Rattle.std.proofs.Common.{◌≡◌, Bool, true, Option, Some, None, option_map, ap, ◌∙◌}
use Rattle.std.specs.Option.{option_map_or}
use Rattle.anti_lang.specs.Lines.{Line}
use Rattle.anti_lang.specs.Parses.{line_of}
use Rattle.anti_lang.specs.Stated.{stated}
use Rattle.anti_lang.specs.declared.line.Line as code
use Rattle.anti_lang.proofs.PlainLemmas.{line_again}

pub some_fits : (test : Line → Bool) (line : code.Line) (read : Option Line) → Some line ≡ option_map line_of read → test (stated line) ≡ option_map_or test read true
some_fits test line None h = cc
some_fits test line (Some found) h = let same : line ≡ line_of found = cc in ap test (ap stated same ∙ line_again found)
