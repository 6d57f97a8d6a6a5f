use Rattle.anti_command.specs.Runs.{DecidesSpans, ExplainsSessions, ExplainsSpans, FindsAll}
use Rattle.anti_command.specs.inner.Stated.{IsPlayable}
use Rattle.anti_command.proofs.run.legal_run.Goals as goal

pub returns-clause-barriers : goal.returns-clause-barriers
unfolding FindsAll IsPlayable
returns-clause-barriers c = (
  c.barriers_find_all.ensures.barriers c.args.app c.args.trace c.requires.playable c.requires.legal,
  c.barriers_find_all.ensures.dry_runs c.args.app c.args.trace c.requires.playable c.requires.legal,
)

pub returns-clause-orders : goal.returns-clause-orders
unfolding ExplainsSpans IsPlayable
returns-clause-orders c = c.answered_orders_explain.ensures.spans c.args.app c.args.trace c.requires.playable c.requires.legal

pub returns-clause-sessions : goal.returns-clause-sessions
unfolding ExplainsSessions IsPlayable
returns-clause-sessions c = (
  c.members_are_a_chain.ensures.chain c.args.app c.args.trace c.requires.legal,
  c.sessions_are_explained.ensures c.args.app c.args.trace c.requires.playable c.requires.legal,
)

pub returns-clause-diagnoses : goal.returns-clause-diagnoses
unfolding DecidesSpans IsPlayable
returns-clause-diagnoses c = c.diagnoses_decide.ensures.spans c.args.app c.args.trace c.requires.playable c.requires.legal
