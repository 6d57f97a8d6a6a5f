use Rattle.std.proofs.Common.{ℕ, length, sym, ap, ◌∙◌, subst, arith}
use Rattle.std.specs.Prelude.{slice_get}
use Rattle.law_causal.proofs.Legal.{facts}
use Rattle.anti_order.specs.inner.NumberSets.{room_for}
use Rattle.anti_order.specs.inner.Writes.{number_at}
use Rattle.anti_order.proofs.Numbers.{as_many}
use Rattle.anti_doctor.specs.inner.Causes.{TellsBefore}
use Rattle.anti_doctor.specs.inner.Gathered.{AreClosed}
use Rattle.anti_doctor.proofs.Knowing.{drawn_is, number_fits, starts}
use Rattle.anti_doctor.proofs.Noted.{each_more, its_kept, knows_more}
use Rattle.anti_doctor.proofs.causes.causes_of_reads.Goals as goal
use Rattle.anti_doctor.proofs.causes.causes_of_reads.Goals.{In_ok-set}

pub loop-place-init : goal.loop-place-init
loop-place-init c = record {
  knows = starts c.args.trace.now c.new-causes.result c.new-causes.ensures.kept c.new-causes.ensures.passed;
  count = ap length c.new-sets.ensures.items;
  each = λ j kept there. let never = sym (ap (λ sets. slice_get sets j) c.new-sets.ensures.items) ∙ there in absurd (cc);
}

pub drawn-requires : goal.drawn-requires
drawn-requires c =
    let count = as_many c.args.trace.now c.args.writes.now.marks.items c.requires.writes.marks in
    record {
      sets = subst (λ (n : ℕ). AreClosed (room_for n) c.loop-place.causes) (sym count) c.loop-place.invariant.knows.closed;
      few = c.requires.writes.few;
    }

-- the set has just what is before the entry
its_set : (c : In_ok-set) → TellsBefore c.args.trace.now c.loop-place.place c.in_ok-set.set
its_set c =
    let app = c.args._app.now in
    let trace = c.args.trace.now in
    let writes = c.args.writes.now in
    let j = c.loop-place.place in
    let e = c.at-entry.result.now in
    record {
      room = c.in_ok-set.ensures.room ∙ ap room_for (as_many trace writes.marks.items c.requires.writes.marks);
      before = λ i write.
          let its = drawn_is app trace (facts app trace c.requires.sound c.requires.legal) writes c.requires.writes j e c.at-entry.ensures
          c.loop-place.causes c.loop-place.invariant.knows i write in
          let is = c.in_ok-set.ensures.drawn (number_at trace i) in
          (λ has. its.0 (sym is ∙ has), λ before. is ∙ its.1 before);
    }

pub note-requires : goal.note-requires
note-requires c =
    let low = number_fits c.args.trace.now c.loop-place.place (omega (arith, c.loop-place-test.true, c.len-place-end.ensures.len)) in
    let size = (its_set (goal.at.note-requires c).In_ok-set).room in
    let count = c.loop-place.invariant.knows.count in
    record { ready = c.in_ok-set.ensures.closed; low = omega (arith, low, size, count) }

pub loop-place-preserved : goal.loop-place-preserved
loop-place-preserved c =
    let trace = c.args.trace.now in
    let j = c.loop-place.place in
    let e = c.at-entry.result.now in
    let set = c.in_ok-set.set in
    let tells = its_set (goal.at.loop-place-preserved c).In_ok-set in
    let more = each_more trace j c.loop-place.sets.items c.push.new.self.items c.in_ok-kept.kept c.in_ok-push.ensures.items
    c.loop-place.invariant.count c.loop-place.invariant.each
    (its_kept trace j e c.at-entry.ensures set tells c.in_ok-kept.kept c.in_ok-kept.ensures) in
    record {
      knows = knows_more trace j e c.at-entry.ensures set tells c.loop-place.causes c.note.new.self c.in_ok-note.ensures
          c.loop-place.invariant.knows;
      count = more.0;
      each = more.1;
    }

pub returns : goal.returns
returns c =
    let count = c.loop-place.invariant.count in
    record {
      count = omega (arith, count, c.len-place-end.ensures.len, c.loop-place-test.false, c.loop-place.auto.place-end);
      each = c.loop-place.invariant.each;
    }
