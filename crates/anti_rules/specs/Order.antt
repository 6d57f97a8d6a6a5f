-- The first rule that a document fails.
use Rattle.std.specs.Prelude.{ℕ, List, [], ◌∷◌, ◌+◌, Option, None, option_map}
use Rattle.std.specs.Option.{option_or}
use Rattle.toml.specs.Data.{Members}
use Rattle.anti_rules.specs.Walk.{first_place}
use Rattle.anti_rules.specs.declared.rule.Rule.{Rule}
use Rattle.anti_rules.specs.declared.rule.Rule.TheVariants.{Listed, There, Typed, Counted, Ranged, PlainNames, DistinctRegions, DistinctObjects, DistinctHandlers, DistinctSubs, StoreKinds, Replicas, KindKeys, ServiceRegions, SubStores, SubHandlers, SubReplicas, RequestHandlers, RequestValues, Statements, Blocks, Variables, StatementStores, StatementHandlers}
use Rattle.anti_rules.specs.declared.breach.Breach.{Breach}

-- The rules in the order of the format, so that the k-th is number k.
unfoldable pub rules : List Rule
rules =
    Listed ∷ There ∷ Typed ∷ Counted ∷ Ranged
    ∷ PlainNames ∷ DistinctRegions ∷ DistinctObjects ∷ DistinctHandlers ∷ DistinctSubs
    ∷ StoreKinds ∷ Replicas ∷ KindKeys ∷ ServiceRegions ∷ SubStores
    ∷ SubHandlers ∷ SubReplicas ∷ RequestHandlers ∷ RequestValues ∷ Statements
    ∷ Blocks ∷ Variables ∷ StatementStores ∷ StatementHandlers ∷ []

-- The first of some rules, behind so many, that a document fails.
abbrev pub breach_from : Members → ℕ → List Rule → Option Breach
breach_from doc before [] = None
breach_from doc before (rule ∷ rest) =
    option_or (option_map (λ place. record { rule = before + 1; place = place }) (first_place rule doc)) (breach_from doc (before + 1) rest)

-- The first rule that a document fails, with its first place.
unfoldable pub first_breach : Members → Option Breach
first_breach doc = breach_from doc 0 rules
