use Rattle.law_causal.proofs.Barriers.{barriers_find_all, dry_runs_name}
use Rattle.law_causal.proofs.laws.barriers_find_all.Goals as goal

pub returns-clause-barriers : goal.returns-clause-barriers
returns-clause-barriers c = λ app trace sound legal. barriers_find_all app trace legal sound

pub returns-clause-dry_runs : goal.returns-clause-dry_runs
returns-clause-dry_runs c = λ app trace sound legal. dry_runs_name app trace legal
