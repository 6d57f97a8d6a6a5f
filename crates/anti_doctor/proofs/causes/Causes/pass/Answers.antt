use Rattle.std.proofs.Common.{◌≡◌, ℕ, ◌||◌, List, refl, sym, ap, ◌∙◌, subst}
use Rattle.std.specs.Prelude.{IsSome, Option, Some}
use Rattle.std.specs.BTreeMap as tree
use Rattle.anti_order.specs.inner.NumberSets.{has, room}
use Rattle.anti_doctor.specs.declared.passages.Passage.{Passage}
use Rattle.anti_doctor.specs.inner.Gathered.{IsClosed, Passes, has_in}
use Rattle.anti_doctor.specs.inner.Passages.{passage_cmp}
use Rattle.anti_doctor.proofs.Closed.{union_closed}
use Rattle.anti_doctor.proofs.Passing.{passes_put}
use Rattle.anti_doctor.proofs.causes.Causes.pass.Goals as goal

pub join-requires : goal.join-requires
join-requires c = (c.requires.sets.passed c.in-Some.passage c.in-Some-get_mut.its.now (sym c.in-Some-get_mut.ensures.value)).room

pub returns-in-Some-get_mut : goal.returns-in-Some-get_mut
returns-in-Some-get_mut c =
    let causes = c.args.self.now in
    let set = c.args.set.now in
    let key = c.in-Some.passage in
    let its = c.in-Some-get_mut.its.now in
    let now : List ℕ = c.join.new.self in
    let there : tree.get passage_cmp causes.passed key ≡ Some its = sym c.in-Some-get_mut.ensures.value in
    let closed : IsClosed causes.kept.items (room set) its = c.requires.sets.passed key its there in
    let new = c.get_mut.follows.lender now in
    let updates = (c.get_mut.follows.holds now).3 (subst (λ (o : Option (List ℕ)). IsSome o) c.in-Some-get_mut.ensures.value refl) in
    subst (λ (passage : Option Passage). Passes passage set causes (record { kept = causes.kept; passed = new })) (sym c.in-Some.is)
    (passes_put causes new key set now c.requires
    (union_closed causes.kept.items (room set) its set now closed c.requires.closed c.join.ensures.joined
    (c.join.ensures.room ∙ closed.room)) updates
    (λ n. c.join.ensures.joined n ∙ ap (λ found. has_in found n || has set n) (sym there)))
