use Rattle.std.proofs.Common.{◌≡◌, ◌∷◌, ap}
use Rattle.anti_doctor.specs.inner.Gathered.{has_kept, have_kept}
use Rattle.anti_doctor.proofs.Closed.{joins_both, joins_none, still_ready}
use Rattle.anti_doctor.proofs.causes.Causes.add_lineage.Goals as goal

pub add_write-requires : goal.add_write-requires
add_write-requires c = c.loop-id.invariant.ready

pub loop-id-preserved : goal.loop-id-preserved
loop-id-preserved c =
    let causes = c.args.self.now in
    let writes = c.args.writes.now in
    let id = c.in-Some.id.now in
    let cut : c.loop-id.id-iterator ≡ id ∷ c.next.new.self = c.in-Some.ensures.steps in
    record {
      ready = still_ready causes (λ n. has_kept causes writes n id) c.loop-id.set c.add_write.new.set c.loop-id.invariant.ready
          c.add_write.ensures;
      rest = λ all rest.
          c.loop-id.invariant.rest all
          (joins_both causes (λ n. has_kept causes writes n id) (have_kept causes writes c.next.new.self)
          (have_kept causes writes c.loop-id.id-iterator) c.loop-id.set c.add_write.new.set all c.add_write.ensures rest
          (λ n. ap (λ ids. have_kept causes writes ids n) cut));
    }

pub returns : goal.returns
returns c =
    let causes = c.args.self.now in
    let writes = c.args.writes.now in
    c.loop-id.invariant.rest c.loop-id.set
    (joins_none causes (have_kept causes writes c.loop-id.id-iterator) c.loop-id.set c.loop-id.invariant.ready
    (λ n. ap (λ ids. have_kept causes writes ids n) c.in-None.ensures.steps.0))
