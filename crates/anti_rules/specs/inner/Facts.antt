-- What the code asks of the kind of a store.
use Rattle.std.specs.Prelude.{Bool}
use Rattle.anti_kind.specs.declared.store_kind.Facts.{Facts}
use Rattle.anti_rules.specs.declared.store_facts.Fact.{Fact}
use Rattle.anti_rules.specs.declared.store_facts.Fact.TheVariants.{Keyed, Scanned, Polled, Pulled, Tried, Cached}

-- Whether a fact is so of the stores of a kind.
abbrev pub holds : Fact → Facts → Bool
holds Keyed facts = facts.keyed
holds Scanned facts = facts.scanned
holds Polled facts = facts.polled
holds Pulled facts = facts.pulled
holds Tried facts = facts.tried
holds Cached facts = facts.cached
