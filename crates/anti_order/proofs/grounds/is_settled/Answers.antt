use Rattle.std.proofs.Common.{◌≡◌, ℕ, ◌<◌, false, List, length, get_or, sym, ap, ◌∙◌}
use Rattle.std.specs.Prelude.{Option, Some}
use Rattle.std.specs.Option.{option_map_or}
use Rattle.std.proofs.lemmas.Option.{slice_get-get_or}
use Rattle.anti_past.specs.declared.before_reads.Past.{Past}
use Rattle.anti_order.specs.inner.Grounds.{is_settled_at}
use Rattle.anti_order.proofs.grounds.is_settled.Goals as goal

-- what is told at a place decides
settled_there : (pasts : List (Option Past)) (r : ℕ) (found told : Option Past) → r < length pasts → found ≡ get_or pasts r found → found ≡ told
    → option_map_or (λ p. p.settled) told false ≡ is_settled_at pasts r
settled_there pasts r found told low at is =
    sym (ap (λ past. option_map_or (λ past. option_map_or (λ p. p.settled) past false) past false)
    (slice_get-get_or pasts r found low ∙ ap Some (sym at ∙ is)))

pub returns-in-Some : goal.returns-in-Some
returns-in-Some c = settled_there c.args.pasts.now c.args.read c.index-pasts-read.result _ c.requires c.index-pasts-read.is c.in-Some.is

pub returns-in-None : goal.returns-in-None
returns-in-None c = settled_there c.args.pasts.now c.args.read c.index-pasts-read.result _ c.requires c.index-pasts-read.is c.in-None.is
