-- The rules of the format, each with its number. They answer the line at which a thing fails a rule, 0 where no line is meant, and None
-- where it fails it nowhere.
use Rattle.std.specs.Prelude.{ℕ, codes, List, [], length, Bool, true, false, not, ◌&&◌, ◌||◌, nat_le, Option, Some, None, is_some, if◌then◌else◌}
use Rattle.std.specs.Option.{option_map_or}
use Rattle.toml.specs.Data.{Data, Members, as_table}
use Rattle.anti_ids.specs.declared.limits.TheConstants.{LONGEST_VALUE}
use Rattle.anti_ids.specs.Names.{is_plain}
use Rattle.anti_lang.specs.declared.fault.LangCode.TheVariants.{Unknown, Block, Variable}
use Rattle.anti_kind.specs.declared.store_kind.Facts.{Facts}
use Rattle.anti_kind.specs.Kinds.{kind_named}
use Rattle.anti_rules.specs.Trees.{text_of, text_at, member_in, things_in, is_among, are_among, are_distinct, name_in, is_named, named, stores_in, services_in, regions_in}
use Rattle.anti_rules.specs.Keys.{TableKey, keys_of, are_listed, are_there, all_fit, has_type, has_count, has_range, is_text}
use Rattle.anti_rules.specs.StoreFacts.{kind_is}
use Rattle.anti_rules.specs.Statements.{fault_line, bad_line, line_passes, has_store, has_replica, store_fits, has_handler, handler_exists}
use Rattle.anti_rules.specs.declared.rule.Rule.{Rule}
use Rattle.anti_rules.specs.declared.rule.Rule.TheVariants.{Listed, There, Typed, Counted, Ranged, PlainNames, DistinctRegions, DistinctObjects, DistinctHandlers, DistinctSubs, StoreKinds, Replicas, KindKeys, ServiceRegions, SubStores, SubHandlers, SubReplicas, RequestHandlers, RequestValues, Statements, Blocks, Variables, StatementStores, StatementHandlers}
use Rattle.anti_rules.specs.declared.place.Part.{Part}
use Rattle.anti_rules.specs.declared.place.Part.TheVariants.{Region, Store, Service, Handler, Sub, Request, Choice}

-- what is wanted fails at line 0
abbrev pub wants : Bool → Option ℕ
wants fits = if fits then None else Some 0

-- Whether a thing of a part passes a test of the keys of its part. A region and a choice have none, and what should be a table and is none
-- fails rule 3 alone.
abbrev pub keys_pass : (List TableKey → Members → Bool) → Part → Data → Bool
keys_pass test Region d = true
keys_pass test Choice d = true
keys_pass test part d = option_map_or (test (keys_of part)) (as_table d) true

-- The rules on the form of a thing of a part: rules 1 to 5.
abbrev pub form_line : Rule → Part → Data → Option ℕ
-- 1. No table has a key that the format does not list for it.
form_line Listed part d = wants (keys_pass are_listed part d)
-- 2. Each key without a default is there.
form_line There part d = wants (keys_pass are_there part d)
-- 3. A region and a choice are texts, and all else are tables. What stands at a key, and each element of an array, has its type.
form_line Typed Region d = wants (is_text d)
form_line Typed Choice d = wants (is_text d)
form_line Typed Handler d = if option_map_or (all_fit has_type (keys_of Handler)) (as_table d) false then bad_line is_text d else Some 0
form_line Typed part d = wants (option_map_or (all_fit has_type (keys_of part)) (as_table d) false)
-- 4. Each array has as many elements as the format allows.
form_line Counted part d = wants (keys_pass (all_fit has_count) part d)
-- 5. The numbers are in their ranges.
form_line Ranged part d = wants (keys_pass (all_fit has_range) part d)
form_line rule part d = None

-- the region of a sub's service
abbrev pub home_of : Members → Data → List ℕ
home_of doc sub = option_map_or (text_at (codes "region")) (named (text_at (codes "service") sub) (services_in doc)) []

-- whether a store has a key only where what stores of its kind do passes a test
abbrev pub has_only : List ℕ → (Facts → Bool) → Data → Bool
has_only key test d = not (is_some (member_in key d)) || kind_is test d

-- All rules on a thing of a part, for a document. The region of the service goes with a handler, and the things of its part before it
-- go with each; for a handler those of its service.
abbrev pub rule_line : Rule → Members → List ℕ → Part → List Data → Data → Option ℕ
-- 6. The names of regions, stores, services, handlers and subs, and the channels, are plain.
rule_line PlainNames doc home Region earlier d = wants (is_plain (text_of d))
rule_line PlainNames doc home Store earlier d = wants (is_plain (name_in d))
rule_line PlainNames doc home Service earlier d = wants (is_plain (name_in d))
rule_line PlainNames doc home Handler earlier d = wants (is_plain (name_in d))
rule_line PlainNames doc home Sub earlier d = wants (is_plain (name_in d) && is_plain (text_at (codes "channel") d))
-- 7. No region has the name of an earlier one.
rule_line DistinctRegions doc home Region earlier d = wants (not (is_among (text_of d) earlier))
-- 8. No store or service has the name of an earlier one, nor has a service the name of a store.
rule_line DistinctObjects doc home Store earlier d = wants (not (is_named (name_in d) earlier))
rule_line DistinctObjects doc home Service earlier d = wants (not (is_named (name_in d) (stores_in doc)) && not (is_named (name_in d) earlier))
-- 9. No handler has the name of an earlier one of its service.
rule_line DistinctHandlers doc home Handler earlier d = wants (not (is_named (name_in d) earlier))
-- 10. No sub has the name of an earlier one.
rule_line DistinctSubs doc home Sub earlier d = wants (not (is_named (name_in d) earlier))
-- 11. The kind of a store is one of those that there are.
rule_line StoreKinds doc home Store earlier d = wants (is_some (kind_named (text_at (codes "kind") d)))
-- 12. The replicas of a store are regions, each named once.
rule_line Replicas doc home Store earlier d =
    wants (are_among (regions_in doc) (things_in (codes "replicas") d) && are_distinct (things_in (codes "replicas") d))
-- 13. Only a store that hands a message out again has `tries`, and only one with caches has `room`.
rule_line KindKeys doc home Store earlier d = wants (has_only (codes "tries") (λ facts. facts.tried) d && has_only (codes "room") (λ facts. facts.cached) d)
-- 14. The region of a service is one of the regions.
rule_line ServiceRegions doc home Service earlier d = wants (is_among (text_at (codes "region") d) (regions_in doc))
-- 15. The store of a sub is there, and of a kind that subscriptions pull from.
rule_line SubStores doc home Sub earlier d = wants (has_store (kind_is (λ facts. facts.pulled)) doc (text_at (codes "store") d))
-- 16. The service of a sub is there and has the handler.
rule_line SubHandlers doc home Sub earlier d = wants (has_handler doc (text_at (codes "service") d) (text_at (codes "handler") d))
-- 17. The store of a sub has a replica where the sub's service is.
rule_line SubReplicas doc home Sub earlier d = wants (has_store (has_replica (home_of doc d)) doc (text_at (codes "store") d))
-- 18. The service of a request is there and has the handler.
rule_line RequestHandlers doc home Request earlier d = wants (has_handler doc (text_at (codes "service") d) (text_at (codes "handler") d))
-- 19. No request has a value of more than `LONGEST_VALUE` bytes.
rule_line RequestValues doc home Request earlier d = wants (nat_le (length (text_at (codes "value") d)) LONGEST_VALUE)
-- 20. Every line of a body is one that the language has.
rule_line Statements doc home Handler earlier d = fault_line Unknown d
-- 21. The blocks of each body are right.
rule_line Blocks doc home Handler earlier d = fault_line Block d
-- 22. The variables of each body are right.
rule_line Variables doc home Handler earlier d = fault_line Variable d
-- 23. The store of a statement is there and of a kind that allows it: any for `write`, one that has keys for `read`, one that is scanned
--     for `scan`, one that is polled for `poll`. The store of a `read`, `scan` or `poll` has a replica where the service is.
rule_line StatementStores doc home Handler earlier d = bad_line (line_passes (store_fits doc home)) d
-- 24. The service of a `call` or a `send` is there and has the handler.
rule_line StatementHandlers doc home Handler earlier d = bad_line (line_passes (handler_exists doc)) d
-- Of each part no rule is meant but these and the first five.
rule_line rule doc home part earlier d = form_line rule part d
