use Rattle.std.proofs.Common.{◌≡◌, ap, replicate, ◌∙◌, rules, List, ℕ}
use Rattle.anti_ids.specs.declared.marks.TheConstants.{WORDS}
use Rattle.anti_ids.specs.inner.Left.{left_of}
use Rattle.anti_ids.proofs.GoneLemmas.{zeros_gone}
use Rattle.anti_ids.proofs.LeftLemmas.{all_left}
use Rattle.anti_ids.proofs.held_ids.HeldIds.over.Goals as goal

pub returns-then-len-le-FEW_IDS-clause-ids : goal.returns-then-len-le-FEW_IDS-clause-ids
returns-then-len-le-FEW_IDS-clause-ids c = all_left (replicate 2 0) 0 c.args.block (zeros_gone 2)

pub returns-in-Ok-clause-ids : goal.returns-in-Ok-clause-ids
returns-in-Ok-clause-ids c =
    let words : c.in-Ok.words.value ≡ replicate WORDS 0 = search rules in
    ap (λ (x : List ℕ). left_of x 0 c.args.block) words ∙ all_left (replicate WORDS 0) 0 c.args.block (zeros_gone WORDS)
