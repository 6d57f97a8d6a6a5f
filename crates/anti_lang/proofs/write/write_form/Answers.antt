use Rattle.std.proofs.Common.{ap, option_map, arith}
use Rattle.std.proofs.lemmas.Grind.{common_steps}
use Rattle.anti_lang.specs.Parses.{line_of}
use Rattle.anti_lang.proofs.OtherWords.{short_write}
use Rattle.anti_lang.proofs.write.write_form.Goals as goal

pub returns-in-None : goal.returns-in-None
returns-in-None c = grind (arith, common_steps)

pub returns-in-Some : goal.returns-in-Some
returns-in-Some c = grind (arith, common_steps)

pub returns-in_default : goal.returns-in_default
returns-in_default c = ap (option_map line_of) (short_write c.args.words.now c.in_default.len_below)
