-- The parsed body of a handler is the one that it states.
use Rattle.std.proofs.Common.{◌≡◌, Bool, true, false, length, nat_le, unwrap_or, Result, Ok, Err, refl, sym, ap, ◌∙◌, if◌then◌else◌}
use Rattle.std.specs.Prelude.{None, map}
use Rattle.std.specs.Result.{result_unwrap_or}
use Rattle.std.proofs.lemmas.List.{length-map}
use Rattle.toml.specs.Data.{Data}
use Rattle.anti_ids.specs.declared.limits.TheConstants.{MOST_LINES}
use Rattle.anti_ids.specs.List.{empty}
use Rattle.anti_lang.specs.Bodies.{body_of}
use Rattle.anti_lang.specs.Program.{Block, End}
use Rattle.anti_lang.specs.Parsing.{parsed}
use Rattle.anti_lang.specs.declared.fault.LangFault.{LangFault}
use Rattle.anti_rules.specs.Trees.{text_of}
use Rattle.anti_rules.specs.Statements.{body_in as lines_stated}
use Rattle.anti_rules.specs.inner.Parses.{if_parsed, body_stated, handler_body}
use Rattle.anti_app.specs.Parts.{body_in}

same_by : (few : Bool) (read : Result Block LangFault)
    → unwrap_or (if few then if_parsed read else None) empty ≡ (if few then body_of (result_unwrap_or read End) else empty)
same_by true (Ok block) = refl
same_by true (Err fault) = refl
same_by false read = refl

pub same_body : (d : Data) → handler_body d ≡ body_in (map text_of (lines_stated d))
unfolding body_stated
same_body d =
    same_by (nat_le (length (lines_stated d)) MOST_LINES) (parsed (map text_of (lines_stated d)))
    ∙ ap (λ few. if nat_le few MOST_LINES then body_of (result_unwrap_or (parsed (map text_of (lines_stated d))) End) else empty) (sym (length-map (lines_stated d) text_of))
