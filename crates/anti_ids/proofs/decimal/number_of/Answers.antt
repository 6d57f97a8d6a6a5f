use Rattle.std.proofs.Common.{ℕ, List, ◌∙◌, sym, subst}
use Rattle.std.specs.Str.Parse.{ParsesUnsigned}
use Rattle.anti_ids.proofs.Decimals.{no_number, number_read, numeral_is_text}
use Rattle.anti_ids.proofs.decimal.number_of.Goals as goal

pub returns-then-not-is_numeral : goal.returns-then-not-is_numeral
returns-then-not-is_numeral c = no_number c.args.text.now (sym c.if-not-is_numeral.ensures)

pub returns-in-Err : goal.returns-in-Err
returns-in-Err c = absurd (c.in-Err.ensures.cases.0 (numeral_is_text c.args.text.now (sym c.if-not-is_numeral.ensures)))

pub returns-in-Ok : goal.returns-in-Ok
returns-in-Ok c =
    let parsed = subst (λ (x : List ℕ). ParsesUnsigned 64 10 x c.parse.result) c.in-Ok.ensures.cases.0 c.parse.ensures.value.0 in
    c.ok.ensures.value ∙ number_read c.args.text.now (sym c.if-not-is_numeral.ensures) c.parse.result parsed
