use Rattle.std.proofs.Common.{◌≡◌, sym, ap, ◌∙◌, rules}
use Rattle.std.specs.Prelude.{Some}
use Rattle.std.proofs.lemmas.Option.{slice_get-get_or}
use Rattle.anti_ids.specs.declared.id.WriteId.{WriteId}
use Rattle.anti_past.proofs.found_ids.stands_at.Goals as goal

pub returns-then-there-id : goal.returns-then-there-id
returns-then-there-id c = λ is.
    let equal = sym c.eq.ensures ∙ is in let same : c.in-Some.there.now ≡ c.args.id.now = search rules in
    let found = c.in-Some.ensures.lookup in
    slice_get-get_or c.args.ids.now c.args.at c.in-Some.there.now found.3.0 ∙ ap (λ (i : WriteId). Some i) (sym found.1 ∙ same)
