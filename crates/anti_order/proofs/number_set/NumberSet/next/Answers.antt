use Rattle.std.proofs.Common.{◌≡◌, ℕ, ◌/◌, ◌%◌, ◌^◌, ◌<◌, List, length, get_or, ap, ◌∙◌, inl, inr, arith}
use Rattle.std.proofs.lemmas.Bool.{cases_lt}
use Rattle.std.proofs.lemmas.Nat.{shr_le}
use Rattle.anti_order.proofs.Bits.{first_in_word, first_is, none_in_rest, others_before}
use Rattle.anti_order.proofs.number_set.NumberSet.next.Goals as goal

-- the word at a number
word_is : (c : goal.Then-rest-ne0) → c.in-Some.word.now ≡ get_or c.args.self.now (c.loop-word.at / 64) 0
word_is c = c.in-Some.ensures.lookup.3.1 0 ∙ ap (λ (ws : List ℕ). get_or ws (c.loop-word.at / 64) 0) (c.deref.ensures.value ∙ c.self.view_is)

some_rest : (c : goal.Then-rest-ne0) → 0 < c.facing.result / 2 ^ (c.loop-word.at % 64)
some_rest c = omega (arith, c.if-rest-ne0.true)

low_rest : (c : goal.Then-rest-ne0) → c.facing.result / 2 ^ (c.loop-word.at % 64) < 2 ^ 64
low_rest c = omega (arith, shr_le c.facing.result (c.loop-word.at % 64), c.facing.type_inv)

pub returns-then-rest-ne0-clause-within : goal.returns-then-rest-ne0-clause-within
returns-then-rest-ne0-clause-within c =
    let short = first_in_word c.args.self.now c.args.inside c.loop-word.at c.in-Some.word.now c.facing.result (word_is c) c.facing.type_inv c.facing.ensures
    (some_rest c) (low_rest c) in
    let many = ap length (c.deref.ensures.value ∙ c.self.view_is) in
    omega (arith, short, many, c.in-Some.ensures.lookup.3.0)

pub returns-then-rest-ne0-clause-passed : goal.returns-then-rest-ne0-clause-passed
returns-then-rest-ne0-clause-passed c = λ n behind before.
    elim (cases_lt n c.loop-word.at) [
      | inl early ↦ c.loop-word.invariant.passed n behind early
      | inr late ↦
          others_before c.args.self.now c.args.inside c.loop-word.at c.in-Some.word.now c.facing.result (word_is c) c.facing.type_inv c.facing.ensures
          (some_rest c) (low_rest c) n late before
    ]

pub returns-then-rest-ne0-clause-found : goal.returns-then-rest-ne0-clause-found
returns-then-rest-ne0-clause-found c = λ within.
    first_is c.args.self.now c.args.inside c.loop-word.at c.in-Some.word.now c.facing.result (word_is c) c.facing.type_inv c.facing.ensures (some_rest c) (low_rest c)

pub loop-word-preserved : goal.loop-word-preserved
loop-word-preserved c =
    let at = c.loop-word.at in
    let is = c.in-Some.ensures.lookup.3.1 0 ∙ ap (λ (ws : List ℕ). get_or ws (at / 64) 0) (c.deref.ensures.value ∙ c.self.view_is) in
    let many = ap length (c.deref.ensures.value ∙ c.self.view_is) in
    let behind = c.loop-word.invariant.behind in
    record {
      behind = omega (arith, behind);
      within = omega (arith, many, c.in-Some.ensures.lookup.3.0);
      passed = λ n from before.
          elim (cases_lt n at) [
            | inl early ↦ c.loop-word.invariant.passed n from early
            | inr late ↦
                none_in_rest c.args.self.now c.args.inside at c.in-Some.word.now c.facing.result is c.facing.type_inv c.facing.ensures c.if-rest-ne0.false n late before
          ];
    }
