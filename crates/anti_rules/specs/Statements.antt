-- What the rules ask of the lines of a body.
use Rattle.std.specs.Prelude.{ℕ, codes, List, map, length, Bool, true, false, not, ◌&&◌, nat_le, min, ◌+◌, ◌-◌, ◌^◌, Option, Some, None, option_map, Result, Err, if◌then◌else◌}
use Rattle.std.specs.Option.{option_map_or}
use Rattle.std.specs.List.{position_from}
use Rattle.toml.specs.Data.{Data, Members}
use Rattle.anti_ids.specs.declared.limits.TheConstants.{MOST_LINES}
use Rattle.anti_lang.specs.Words.{words}
use Rattle.anti_lang.specs.Program.{Block, Write, Read, Scan, Poll, Call, Send}
use Rattle.anti_lang.specs.Lines.{Line, Does, read_line}
use Rattle.anti_lang.specs.Parsing.{parsed}
use Rattle.anti_lang.specs.declared.fault.LangCode.{LangCode}
use Rattle.anti_lang.specs.declared.fault.LangCode.TheVariants.{Unknown, Block as BadBlock, Variable}
use Rattle.anti_lang.specs.declared.fault.LangFault.{LangFault}
use Rattle.anti_lang.specs.declared.fault.LangFault.TheVariants as faults
use Rattle.anti_kind.specs.declared.store_kind.Facts.{Facts}
use Rattle.anti_rules.specs.StoreFacts.{kind_is}
use Rattle.anti_rules.specs.Trees.{text_of, things_in, is_among, is_named, named, stores_in, services_in}

-- The number of the item or line after this one. Numbers end at the greatest `u32`, which no document reaches.
abbrev pub next : ℕ → ℕ
next number = min (number + 1) (2 ^ 32 - 1)

-- The lines of a handler's body.
abbrev pub body_in : Data → List Data
body_in d = things_in (codes "body") d

-- the line of a fault, where it has this code
abbrev pub line_with : Result Block LangFault → LangCode → Option ℕ
line_with (Err (faults.Line line Unknown)) Unknown = Some line
line_with (Err (faults.Line line BadBlock)) BadBlock = Some line
line_with (Err (faults.Line line Variable)) Variable = Some line
line_with stated code = None

-- The line of the first fault of a handler's body, where it has this code. A body of more than `MOST_LINES` lines fails an earlier rule.
abbrev pub fault_line : LangCode → Data → Option ℕ
fault_line code d = if nat_le (length (body_in d)) MOST_LINES then line_with (parsed (map text_of (body_in d))) code else None

-- The number of the first line of a handler's body that fails a test.
abbrev pub bad_line : (Data → Bool) → Data → Option ℕ
bad_line test d = option_map next (position_from (λ line. not (test line)) 0 (body_in d))

-- Whether a line passes a test of what it states. One that states nothing fails an earlier rule.
abbrev pub line_passes : (Line → Bool) → Data → Bool
line_passes test line = option_map_or test (read_line (words (text_of line))) true

-- Whether the store of a name is there and passes a test.
abbrev pub has_store : (Data → Bool) → Members → List ℕ → Bool
has_store test doc name = option_map_or test (named name (stores_in doc)) false

-- Whether a store has a replica in a region.
abbrev pub has_replica : List ℕ → Data → Bool
has_replica home store = is_among home (things_in (codes "replicas") store)

-- The same, where its kind passes a test.
abbrev pub near : (Facts → Bool) → List ℕ → Data → Bool
near test home store = has_replica home store && kind_is test store

-- Whether the store of a statement exists and fits, for a service of this region.
abbrev pub store_fits : Members → List ℕ → Line → Bool
store_fits doc home (Does (Write store key value variable untracked)) = is_named store (stores_in doc)
store_fits doc home (Does (Read store key variable)) = has_store (near (λ facts. facts.keyed) home) doc store
store_fits doc home (Does (Scan store prefix variable)) = has_store (near (λ facts. facts.scanned) home) doc store
store_fits doc home (Does (Poll store key variable)) = has_store (near (λ facts. facts.polled) home) doc store
store_fits doc home _ = true

-- Whether there is a service of this name with a handler of that name.
abbrev pub has_handler : Members → List ℕ → List ℕ → Bool
has_handler doc service name = option_map_or (λ found. is_named name (things_in (codes "handler") found)) (named service (services_in doc)) false

-- Whether the service that a `call` or a `send` names is there and has the handler.
abbrev pub handler_exists : Members → Line → Bool
handler_exists doc (Does (Call service handler value variable)) = has_handler doc service handler
handler_exists doc (Does (Send service handler value)) = has_handler doc service handler
handler_exists doc _ = true
