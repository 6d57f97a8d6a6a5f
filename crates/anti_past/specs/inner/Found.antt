-- What the looks of a trace found, and how a program knows it.
use Rattle.std.specs.Prelude.{◌≡◌, ◌&&◌, Bool, false, List, [], Option, get_or}
use Rattle.std.specs.Borrow.{Bor}
use Rattle.std.specs.BTreeMap as tree
use Rattle.std.specs.List.{list_any}
use Rattle.std.specs.Option.{option_map_or}
use Rattle.anti_ids.specs.Ids.{has_id}
use Rattle.anti_ids.specs.declared.id.WriteId.{WriteId}
use Rattle.anti_kind.specs.declared.entry.Entry.{Entry}
use Rattle.law_causal.specs.Settled.{found_in}
use Rattle.anti_past.specs.declared.finds.Finds.{Finds}
use Rattle.anti_past.specs.declared.span_finds.SpanFinds.{SpanFinds}
use Rattle.anti_past.specs.declared.span_keys.SpanKey.{SpanKey}
use Rattle.anti_past.specs.inner.Keys.{is_in, key_cmp}

-- whether an id is among those that were found in a span
abbrev pub has_in : SpanFinds → WriteId → Bool
has_in found w = has_id w (get_or found.stores.items w.store [])

-- the same where nothing may have been found
abbrev pub found_by : Option (Bor SpanFinds) → WriteId → Bool
found_by found w = option_map_or (λ its. has_in its.now w) found false

-- whether an id is known to have been found in a span
abbrev pub has_found : Finds → SpanKey → WriteId → Bool
has_found found q w = option_map_or (λ its. has_in its w) (tree.get key_cmp found.spans q) false

-- whether an entry is a look of a span that found an id
abbrev pub finds : SpanKey → WriteId → Entry → Bool
finds q w e = is_in q e && has_id w (found_in e.call e.reply)

-- For each span that is known which these entries found.
abbrev pub AreFound : List Entry → Finds → Type 0
AreFound entries found = (q : SpanKey) (w : WriteId) → has_found found q w ≡ list_any (finds q w) entries
