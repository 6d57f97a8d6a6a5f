use Rattle.std.proofs.Common.{◌≡◌, ◌≤◌, List, true, not, length, ap, sym, subst, arith, rules}
use Rattle.std.specs.Prelude.{IsTrue}
use Rattle.anti_ids.specs.declared.id.WriteId.{WriteId}
use Rattle.anti_ids.specs.declared.limits.TheConstants.{MOST_IDS}
use Rattle.anti_ids.specs.Invariants.{IsLineage}
use Rattle.anti_ids.specs.Ids.{has_id}
use Rattle.anti_ids.specs.inner.Held.{held_ids}
use Rattle.anti_ids.proofs.IdLemmas.{with_id-there}
use Rattle.anti_ids.proofs.LeftLemmas.{lineage_held}
use Rattle.anti_ids.proofs.held_ids.HeldIds.add_apart.Goals as goal

pub returns-then-has-clause-ok : goal.returns-then-has-clause-ok
returns-then-has-clause-ok c =
    let held = held_ids c.args.self.now in
    let there : has_id c.args.id held ≡ true = search rules in
    sym (with_id-there c.args.id held (lineage_held c.args.self.now c.requires.lineage).ascending there)

pub returns-then-has-clause-fits : goal.returns-then-has-clause-fits
returns-then-has-clause-fits c =
    let held = held_ids c.args.self.now in
    let lineage : IsLineage held = lineage_held c.args.self.now c.requires.lineage in
    let there : has_id c.args.id held ≡ true = search rules in
    omega (arith, ap length (with_id-there c.args.id held lineage.ascending there), lineage.short)

pub returns-then-bring_back : goal.returns-then-bring_back
returns-then-bring_back c =
    let back : IsTrue c.bring_back.result = search rules in
    let is = c.bring_back.ensures.ids back in
    record {
      ok = is;
      lineage = c.bring_back.ensures.lineage;
      new = sym (ap not (c.bring_back.ensures.new back));
      fits = subst (λ (x : List WriteId). length x ≤ MOST_IDS) is (lineage_held c.bring_back.new.self c.bring_back.ensures.lineage).short;
      full = λ none. cc;
      too_many = λ none. cc;
      err = tt;
    }
