use Rattle.std.proofs.Common.{ℕ, ◌||◌, List, sym, ap, subst}
use Rattle.std.specs.Prelude.{Some}
use Rattle.std.specs.BTreeMap as tree
use Rattle.anti_order.specs.inner.NumberSets.{has}
use Rattle.anti_doctor.specs.inner.Gathered.{has_in}
use Rattle.anti_doctor.specs.inner.Passages.{passage_cmp}
use Rattle.anti_doctor.proofs.Passing.{passes_put}
use Rattle.anti_doctor.proofs.causes.Causes.begin.Goals as goal

pub returns-in-Ok : goal.returns-in-Ok
returns-in-Ok c =
    let causes = c.args.self.now in
    let set = c.args.set.now in
    passes_put causes c.insert.new.self c.args.passage set set c.requires.ready c.requires.ready.closed
    (subst (λ (its : List ℕ). tree.Updates passage_cmp causes.passed c.insert.new.self c.args.passage (Some its)) c.in_ok-its.ensures
    c.in-Ok.ensures.updates)
    (λ n. sym (ap (λ found. has_in found n || has set n) c.requires.none))
