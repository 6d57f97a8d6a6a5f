use Rattle.anti_text.proofs.Quoted.{clear_byte}
use Rattle.anti_text.proofs.json_strings.is_clear.Goals as goal

pub returns : goal.returns
returns c = clear_byte c.args.byte
