use Rattle.std.proofs.Common.{◌≡◌, sym, ap, ◌∙◌}
use Rattle.std.specs.Prelude.{Some}
use Rattle.std.specs.BTreeMap.{get}
use Rattle.anti_order.specs.inner.NumberSets.{has}
use Rattle.anti_doctor.specs.inner.Gathered.{has_in, has_passed}
use Rattle.anti_doctor.specs.inner.Passages.{passage_cmp}
use Rattle.anti_doctor.proofs.Closed.{joins_same, joins_set}
use Rattle.anti_doctor.proofs.causes.Causes.add_passed.Goals as goal

pub join-requires : goal.join-requires
join-requires c = sym (c.requires.sets.passed c.in-Some.passage c.in-Some-get.its.now (sym c.in-Some-get.ensures.value)).room

pub returns : goal.returns
returns c =
    let causes = c.args.self.now in
    let its = c.in-Some-get.its.now in
    let there : get passage_cmp causes.passed c.in-Some.passage ≡ Some its = sym c.in-Some-get.ensures.value in
    joins_same causes (has its) (has_passed causes c.args.passage) c.args.set.now c.join.new.self
    (joins_set causes its c.args.set.now c.join.new.self c.requires (c.requires.sets.passed c.in-Some.passage its there)
    c.join.ensures.joined c.join.ensures.room)
    (λ n. ap (λ passage. has_passed causes passage n) c.in-Some.is ∙ ap (λ found. has_in found n) there)
