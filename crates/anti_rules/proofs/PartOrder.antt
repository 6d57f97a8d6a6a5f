-- The first place in all parts, one after another, is that of the document.
use Rattle.std.proofs.Common.{◌≡◌, Option, Some, None, refl}
use Rattle.std.specs.Prelude.{codes}
use Rattle.std.specs.Option.{option_or}
use Rattle.toml.specs.Data.{Members}
use Rattle.anti_rules.specs.Walk.{first_at, first_place}
use Rattle.anti_rules.specs.inner.Parts.{parts, first_in}
use Rattle.anti_rules.specs.declared.rule.Rule.{Rule}
use Rattle.anti_rules.specs.declared.place.Part.TheVariants.{Choice}

or_none : {T : Type 0} → (o : Option T) → option_or o None ≡ o
or_none None = refl
or_none (Some x) = refl

pub all_parts : (rule : Rule) (doc : Members) → first_in rule doc parts ≡ first_place rule doc
unfolding parts
all_parts rule doc = rw (or_none (first_at rule doc Choice (codes "choices"))) refl
