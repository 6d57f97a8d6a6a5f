use Rattle.std.proofs.Common.{◌≡◌, ◌+◌, ◌-◌, ◌<◌, ◌++◌, true, length, take, sym, ap, ◌∙◌, arith}
use Rattle.std.proofs.lemmas.List.{append_assoc}
use Rattle.anti_ids.specs.Each.{Each}
use Rattle.anti_ids.specs.inner.Parts.{joined}
use Rattle.anti_ids.proofs.PartLemmas.{ascending_front}
use Rattle.anti_ids.proofs.WalkLemmas.{high_all, more_passed, passed_ascending}
use Rattle.anti_ids.proofs.walk.Walk.pass.Goals as goal

pub are_below-requires : goal.are_below-requires
are_below-requires c =
    let part = c.loop-count.self-inside.part.now in
    let more = take c.loop-count.self-inside.left (joined c.loop-count.self-inside.parts.now) in
    ascending_front part more (passed_ascending (λ i. i.store < c.args.bound) c.args.self.now (part ++ more) c.loop-count.count c.loop-count.invariant c.requires.ascending)

pub loop-count-preserved : goal.loop-count-preserved
loop-count-preserved c =
    let part = c.loop-count.self-inside.part.now in
    let more = take c.loop-count.self-inside.left (joined c.loop-count.self-inside.parts.now) in
    let next = c.in-Some.part.now ++ take (c.loop-count.self-inside.left - length c.in-Some.part.now) (joined c.in-Some.behind.now) in
    more_passed (λ i. i.store < c.args.bound) c.args.self.now (part ++ more) part next c.loop-count.count (c.loop-count.count + length part) c.loop-count.invariant
    (ap (λ x. part ++ x) (sym c.in-Some.ensures.ids)) (c.are_below.ensures.0 c.loop-count-test.true) (omega arith)

pub not_below-rest-requires : goal.not_below-rest-requires
not_below-rest-requires c =
    let part = c.loop-count.self-inside.part.now in
    let more = take c.loop-count.self-inside.left (joined c.loop-count.self-inside.parts.now) in
    ascending_front part more (passed_ascending (λ i. i.store < c.args.bound) c.args.self.now (part ++ more) c.loop-count.count c.loop-count.invariant c.requires.ascending)

pub returns-clause-passed : goal.returns-clause-passed
returns-clause-passed c =
    let part = c.loop-count.self-inside.part.now in
    let rest = c.not_below-rest.result.now in
    let more = take c.loop-count.self-inside.left (joined c.loop-count.self-inside.parts.now) in
    let own = c.not_below-rest.ensures.passed in
    more_passed (λ i. i.store < c.args.bound) c.args.self.now (part ++ more) own.front (rest ++ more) c.loop-count.count (c.loop-count.count + (length part - length rest)) c.loop-count.invariant
    (ap (λ x. x ++ more) own.is ∙ append_assoc own.front rest more) own.low (ap (λ n. c.loop-count.count + n) own.size)

pub returns-clause-high : goal.returns-clause-high
returns-clause-high c =
    let part = c.loop-count.self-inside.part.now in
    let rest = c.not_below-rest.result.now in
    let more = take c.loop-count.self-inside.left (joined c.loop-count.self-inside.parts.now) in
    let some : Each (λ i. i.store < c.args.bound) part → ⊥ = λ each. let all : c.are_below.result ≡ true = c.are_below.ensures.1 each in absurd (cc) in
    high_all c.args.bound part rest more (length part - length rest) c.not_below-rest.ensures.passed c.not_below-rest.ensures.high
    (passed_ascending (λ i. i.store < c.args.bound) c.args.self.now (part ++ more) c.loop-count.count c.loop-count.invariant c.requires.ascending) some
