use Rattle.std.proofs.Common.{◌≡◌, ◌<◌, ◌-◌, ◌≤◌, ◌∷◌, [], length, take, drop, sym, ap, subst, arith, rules}
use Rattle.anti_ids.specs.Each.{Each}
use Rattle.anti_ids.specs.Invariants.{IsAscending}
use Rattle.anti_ids.proofs.WalkLemmas.{first_of, more_passed, none_further, passed_ascending, passed_within}
use Rattle.anti_ids.proofs.walk.not_below.Goals as goal

pub returns-then-first-bound-clause-high : goal.returns-then-first-bound-clause-high
returns-then-first-bound-clause-high c =
    let rest = c.loop-rest.rest.now in
    let first = c.first-item.result in
    let behind = take (length rest - 1) (drop 1 rest) in
    let step : rest ≡ first ∷ behind = first_of rest first (search rules) (search rules) in
    let asc = passed_ascending (λ i. i.store < c.args.bound) c.args.ids.now rest (length c.args.ids.now - length rest) c.loop-rest.invariant c.requires in
    subst (λ x. Each (λ i. c.args.bound ≤ i.store) x) (sym step) (none_further c.args.bound first behind (subst IsAscending step asc) (search rules))

pub loop-rest-preserved : goal.loop-rest-preserved
loop-rest-preserved c =
    let rest = c.loop-rest.rest.now in
    let first = c.first-item.result in
    let behind = take (length rest - 1) (drop 1 rest) in
    let step : rest ≡ first ∷ behind = first_of rest first (search rules) (search rules) in
    let within = passed_within (λ i. i.store < c.args.bound) c.args.ids.now rest (length c.args.ids.now - length rest) c.loop-rest.invariant in
    more_passed (λ i. i.store < c.args.bound) c.args.ids.now rest (first ∷ []) behind (length c.args.ids.now - length rest) (length c.args.ids.now - length behind) c.loop-rest.invariant step (search rules, tt)
    (omega (arith, within, ap length step))
