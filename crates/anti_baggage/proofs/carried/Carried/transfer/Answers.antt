use Rattle.std.proofs.Common.{◌≡◌, length, ◌∙◌, sym, ap, arith}
use Rattle.std.proofs.lemmas.Grind.{common_steps}
use Rattle.anti_ids.specs.Ids.{with_ids}
use Rattle.anti_baggage.proofs.Kept.{told_stays, with_ids-same}
use Rattle.anti_baggage.proofs.carried.Carried.transfer.Goals as goal

pub invariant_of-self-else-len-before : goal.invariant_of-self-else-len-before
invariant_of-self-else-len-before c =
    let old = c.self.inside.lineage in
    let new = c.transfer.new.self in
    let len : length new ≡ length old = grind (arith, common_steps) in
    let is : new ≡ with_ids c.args.other.now old = c.in_ok-transfer.ensures.ok in
    told_stays old new c.self.inside.told (λ asc. is ∙ with_ids-same c.args.other.now old asc (sym (ap length is) ∙ len)) c.self.invariant
