use Rattle.std.proofs.Common.{◌≡◌, ℕ, ◌≤◌, get_or, bit_or, subst, inl, inr, arith, rules}
use Rattle.std.proofs.lemmas.Bool.{cases_lt}
use Rattle.std.proofs.lemmas.Nat.{le_or_l, le_or_r}
use Rattle.anti_ids.proofs.GoneLemmas.{none_gone}
use Rattle.anti_ids.proofs.marks.is_any_gone.Goals as goal

pub loop-word-preserved : goal.loop-word-preserved
loop-word-preserved c = λ number within.
    let words = c.args.words.now in
    let bits = c.loop-word.bits in
    let word = get_or words c.loop-word.word-index 0 in
    elim (cases_lt number c.loop-word.word-index) [
      | inl before ↦ omega (arith, c.loop-word.invariant number before, le_or_l bits word)
      | inr last ↦
          let is : c.loop-word.word-index ≡ number = omega (arith, within, last) in subst (λ (n : ℕ). get_or words n 0 ≤ bit_or bits word) is (le_or_r bits word)
    ]

pub returns : goal.returns
returns c = λ none.
    let no_bits : c.loop-word.bits ≡ 0 = search rules in
    none_gone c.args.words.now (λ number within. omega (arith, c.loop-word.invariant number (omega (arith, within, c.loop-word-test.false)), no_bits))
