use Rattle.std.proofs.Common.{◌∙◌}
use Rattle.anti_cache.proofs.cached_store.CachedKvMachine.apply.Goals as goal

pub returns-in-Again-clause-stands : goal.returns-in-Again-clause-stands
returns-in-Again-clause-stands c = λ h e at f is given. c.again.ensures.stands h e c.in-Again.part at f (is ∙ c.in-Again.is)
