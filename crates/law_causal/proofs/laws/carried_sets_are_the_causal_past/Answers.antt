use Rattle.law_causal.proofs.Causes.{carried_is_causal}
use Rattle.law_causal.proofs.Legal.{facts, kept_is_over}
use Rattle.law_causal.proofs.laws.carried_sets_are_the_causal_past.Goals as goal

pub returns-clause-past : goal.returns-clause-past
returns-clause-past c = λ app trace sound legal lossless. carried_is_causal app trace (facts app trace sound legal) lossless

pub returns-clause-kept : goal.returns-clause-kept
returns-clause-kept c = λ app trace legal. kept_is_over app trace legal
