use Rattle.std.proofs.Common.{sym, ◌∙◌, inl, inr}
use Rattle.anti_replicas.proofs.Bringing.{no_region, no_version, no_part, mark_is}
use Rattle.anti_replicas.proofs.replicas.Replicas.was_shipped.Goals as goal

pub returns-then-region-ge-MOST_REGIONS : goal.returns-then-region-ge-MOST_REGIONS
returns-then-region-ge-MOST_REGIONS c = λ s h at. sym (no_region c.args.self.now s h at c.args.region c.args.version c.args.part c.if-region-ge-MOST_REGIONS.true)

pub returns-then-part-eq0 : goal.returns-then-part-eq0
returns-then-part-eq0 c = λ s h at. sym (no_part c.args.self.now s h at c.args.region c.args.version c.args.part (inl c.if-part-eq0.true))

pub returns-then-part-gt-MOST_PARTS : goal.returns-then-part-gt-MOST_PARTS
returns-then-part-gt-MOST_PARTS c = λ s h at. sym (no_part c.args.self.now s h at c.args.region c.args.version c.args.part (inr c.if-part-gt-MOST_PARTS.true))

pub returns-in-Some : goal.returns-in-Some
returns-in-Some c = λ s h at.
    c.came.ensures
    ∙ mark_is c.args.self.now s h at c.args.region c.args.version c.args.part c.in-Some.kept.now c.if-region-ge-MOST_REGIONS.false c.if-part-eq0.false c.if-part-gt-MOST_PARTS.false
    c.in-Some.ensures.first c.in-Some.ensures.kept

pub returns-in-None : goal.returns-in-None
returns-in-None c = λ s h at. sym (no_version c.args.self.now s h at c.args.region c.args.version c.args.part c.in-None.ensures.none)
