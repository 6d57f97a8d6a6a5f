use Rattle.std.proofs.Common.{◌≡◌, sym, ap, ◌∙◌}
use Rattle.anti_order.specs.inner.NumberSets.{has}
use Rattle.anti_order.specs.inner.Writes.{number_at}
use Rattle.anti_doctor.proofs.Newest.{number_known}
use Rattle.anti_doctor.proofs.missing.is_in.Goals as goal

pub returns-in-Some-number_of : goal.returns-in-Some-number_of
returns-in-Some-number_of c =
    let known = number_known c.args.trace.now c.args.writes.now c.requires.writes c.args.place c.at.result.now c.in-Some.id c.at.ensures (sym c.in-Some.ensures) in
    let same : c.in-Some-number_of.number ≡ number_at c.args.trace.now c.args.place = let both = c.in-Some-number_of.ensures in cc in
    c.contains.ensures ∙ ap (has c.args.set.now) same

pub returns-in-None : goal.returns-in-None
returns-in-None c =
    let known = number_known c.args.trace.now c.args.writes.now c.requires.writes c.args.place c.at.result.now c.in-Some.id c.at.ensures (sym c.in-Some.ensures) in
    let both = c.in-None.ensures in
    absurd (cc)
