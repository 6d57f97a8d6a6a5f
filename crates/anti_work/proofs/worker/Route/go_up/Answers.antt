-- The next version is taken out of those ahead as long as it stands there.
use Rattle.std.proofs.Common.{ℕ, List, sym, ap, ◌∙◌, subst, refl}
use Rattle.std.specs.Prelude.{slice_get}
use Rattle.std.specs.List.{Contains}
use Rattle.anti_work.proofs.Noted.{stands_among, up_done, up_more}
use Rattle.anti_work.proofs.worker.Route.go_up.Goals as goal

pub loop-at-preserved : goal.loop-at-preserved
loop-at-preserved c =
    let ahead : List ℕ = c.loop-at.self.ahead.items in
    let there = ap (λ (xs : List ℕ). slice_get xs c.in-Some.at) (sym c.as_slice.ensures.value) ∙ c.in-Some.ensures.some in
    record {
      up = up_more c.args.self.now c.loop-at.self.next ahead c.loop-at.invariant.up c.take_out.new.versions.items c.in_ok-self-2.field-0 c.in_ok-self-2.ensures
          (stands_among ahead c.in-Some.at c.loop-at.self.next there) (c.take_out.ensures.rest c.loop-at.self.next there);
      store = c.loop-at.invariant.store;
      region = c.loop-at.invariant.region;
    }

pub returns : goal.returns
returns c =
    up_done c.args.self.now c.loop-at.self.next c.loop-at.self.ahead.items c.loop-at.invariant.up c.args.version c.requires _ c.loop-at.invariant.store c.loop-at.invariant.region
    refl refl (λ among. c.in_default.ensures.none (subst (λ (xs : List ℕ). Contains xs c.loop-at.self.next) (sym c.as_slice.ensures.value) among))
