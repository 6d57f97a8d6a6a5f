use Rattle.std.proofs.Common.{◌≡◌, drop}
use Rattle.std.specs.List.{list_all}
use Rattle.anti_lang.specs.Texts.{is_literal_byte}
use Rattle.anti_lang.proofs.word.all_literal.Given as goal

-- each of those before may stand in one
abbrev pub invariant-loop-byte : goal.invariant-loop-byte
invariant-loop-byte l = list_all is_literal_byte (drop l.byte-index l.word) ≡ list_all is_literal_byte l.word
