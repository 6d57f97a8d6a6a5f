-- What the lines of the handlers state.
use Rattle.std.proofs.Common.{◌≡◌, codes, [], ◌∷◌, Bool, true, false, None, Option, Some, option_map, Result, Ok, refl, ap, arith}
use Rattle.std.specs.Bool.{then_some}
use Rattle.std.specs.Str.{is_utf8}
use Rattle.std.proofs.lemmas.Str.{IsUtf8-from_ascii, is_utf8-from_IsUtf8}
use Rattle.std.proofs.lemmas.Str.Ascii.{IsAscii-cons, IsAscii-nil}
use Rattle.anti_lang.specs.Words.{words}
use Rattle.anti_lang.specs.Program.{Step, Block, End, Then, Write, Transfer, Barrier, Read}
use Rattle.anti_lang.specs.Lines.{Line, Does, read_line}
use Rattle.anti_lang.specs.Faults.{block_fault, variable_fault}
use Rattle.anti_lang.specs.Parsing.{parsed, parsed_or, read_or}
use Rattle.anti_lang.specs.declared.fault.LangFault.{LangFault}
use Rattle.anti_lang.specs.declared.statement.KeyWord.TheVariants as keys
use Rattle.anti_lang.specs.declared.statement.ValueWord.{ValueWord}
use Rattle.anti_lang.specs.declared.statement.ValueWord.TheVariants as values
use Rattle.anti_load.specs.Load.{post_lines, note_lines}

-- ---- the poster's handler
abbrev read_post : Step
read_post = Read (codes "posts") keys.Input (codes "x")

abbrev transfer_post : Step
transfer_post = Transfer (codes "x")

abbrev write_post : Step
write_post = Write (codes "posts") keys.Input (values.Literal (codes "v")) None false

abbrev write_note : Step
write_note = Write (codes "notes") (keys.Plain (codes "n")) values.Input None false

abbrev pub post_block : Block
post_block = Then read_post (Then transfer_post (Then write_post (Then write_note End)))

v_is_text : is_utf8 (codes "v") ≡ true
v_is_text = is_utf8-from_IsUtf8 (codes "v") (IsUtf8-from_ascii (codes "v") (IsAscii-cons 118 [] (omega arith) IsAscii-nil))

-- the third line with this value
abbrev with_value : ValueWord → Line
with_value value = Does (Write (codes "posts") keys.Input value None false)

write_stated : read_line (words (codes "write posts $in v")) ≡ Some (Does write_post)
unfolding read_line
write_stated = ap (λ (b : Bool). option_map with_value (then_some b (values.Literal (codes "v")))) v_is_text

-- what the lines state, by what the third of them states
abbrev with_third : Option Line → Result Block LangFault
with_third third =
    parsed_or
    (read_or 1 (Some (Does read_post)) (read_or 2 (Some (Does transfer_post)) (read_or 3 third (Ok (Does write_note ∷ [])))))

pub post_stated : parsed post_lines ≡ Ok post_block
unfolding read_line block_fault variable_fault
post_stated = ap with_third write_stated

-- ---- the reader's handler
abbrev pub note_block : Block
note_block = Then Barrier (Then (Read (codes "posts") keys.Input (codes "y")) End)

pub note_stated : parsed note_lines ≡ Ok note_block
unfolding read_line block_fault variable_fault
note_stated = refl
