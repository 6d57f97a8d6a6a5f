-- What came to the spans of a trace, and how a program knows it.
use Rattle.std.specs.Prelude.{ℕ, ◌≡◌, ◌<◌, ◌++◌, Bool, true, false, not, List, [], ◌∷◌, Option, None, Some, slice_get, take, flat_map, MatchBool}
use Rattle.std.specs.List.{filter, list_all}
use Rattle.std.specs.Option.{option_and_then, option_map_or}
use Rattle.std.specs.BTreeMap as tree
use Rattle.anti_ids.specs.Ids.{has_id}
use Rattle.anti_ids.specs.declared.id.WriteId.{WriteId}
use Rattle.anti_kind.specs.declared.call.Call.{Call}
use Rattle.anti_kind.specs.declared.call.Call.TheVariants as calls
use Rattle.anti_kind.specs.declared.call.Reply.{Reply}
use Rattle.anti_kind.specs.declared.call.Reply.TheVariants as replies
use Rattle.anti_kind.specs.declared.entry.Entry.{Entry}
use Rattle.anti_app.specs.declared.app.App.{App}
use Rattle.law_causal.specs.Words.{brings}
use Rattle.anti_past.specs.Losses.{Loses}
use Rattle.anti_past.specs.declared.came.AllCame.{AllCame}
use Rattle.anti_past.specs.declared.came.Came.{Came}
use Rattle.anti_past.specs.declared.span_keys.SpanKey.{SpanKey}
use Rattle.anti_past.specs.inner.Keys.{is_in, key_cmp}

-- whether these ids are all in a lineage
abbrev pub holds : List WriteId → List WriteId → Bool
holds lineage ids = list_all (λ w. has_id w lineage) ids

-- the rest stands at the end of the ids
abbrev pub IsRear : List WriteId → List WriteId → Type 0
IsRear ids rest = (front : List WriteId) × (ids ≡ front ++ rest)

-- what comes to a span with entries
abbrev pub came_to : App → SpanKey → List Entry → List WriteId
came_to app q entries = flat_map (brings app) (filter (is_in q) entries)

-- what the entry at an index brings
abbrev pub brought_at : App → List Entry → ℕ → List WriteId
brought_at app trace i = option_map_or (brings app) (slice_get trace i) []

abbrev pub ids_since : App → List Entry → List ℕ → List WriteId
ids_since app trace since = flat_map (brought_at app trace) since

-- how many ids an answered call brings at most, where that is known without a look at them
abbrev pub most_of : Call → Reply → Option ℕ
most_of (calls.Write key value lineage) (replies.Written name version (Some kept)) = None
most_of (calls.Write key value lineage) reply = Some 1
most_of (calls.Read region key) reply = None
most_of (calls.Scan region prefix) reply = None
most_of (calls.Poll region key) reply = None
most_of (calls.Pull sub) reply = None
most_of (calls.Repull sub version) reply = None
most_of (calls.Take nth) reply = None
most_of (calls.TakeReply number) reply = None
most_of call reply = Some 0

-- the same of the entry at an index
abbrev pub most_at : List Entry → ℕ → Option ℕ
most_at trace i = option_and_then (λ e. most_of e.call e.reply) (slice_get trace i)

-- what is known to have come to a span: what was carried, and what some entries brought
abbrev pub came_ids : App → List Entry → Came → List WriteId
came_ids app trace c = c.carried ++ ids_since app trace c.since.items

abbrev pub ids_known : App → List Entry → AllCame → SpanKey → List WriteId
ids_known app trace all q = option_map_or (came_ids app trace) (tree.get key_cmp all.spans q) []

-- Each id that is handed is known to have come.
abbrev pub AllCameBefore : App → List Entry → Option (List WriteId) → Came → Type 0
AllCameBefore app trace (Some ids) was = (w : WriteId) → has_id w ids ≡ true → has_id w (came_ids app trace was) ≡ true
AllCameBefore app trace None was = Unit {0}

-- What is known of a span behind an entry at index k, where a lineage or nothing is handed there, and it is told whether something that came
-- is lost. Where nothing is handed, nothing is tested.
abbrev pub Follows : App → List Entry → ℕ → Option (List WriteId) → Came → Came → Bool → Type 0
Follows app trace k (Some ids) was now lost =
    (lost ≡ not (holds ids (came_ids app trace was))) × (lost ≡ false → (now.carried ≡ ids) × (now.since.items ≡ k ∷ []))
Follows app trace k None was now lost = (lost ≡ false) × (now.carried ≡ was.carried) × (now.since.items ≡ was.since.items ++ k ∷ [])

-- For each span that is what came to it before the entry at index k.
abbrev pub IsKnown : App → List Entry → ℕ → AllCame → Type 0
IsKnown app trace k all = (q : SpanKey) (w : WriteId) → has_id w (ids_known app trace all q) ≡ has_id w (came_to app q (take k trace))

-- no entry before index k loses an id
abbrev pub NoneLoses : App → List Entry → ℕ → Type 0
NoneLoses app trace k = (i : ℕ) (a : Entry) → i < k → slice_get trace i ≡ Some a → Loses app trace i a → ⊥

-- It is told whether the entry e at index k loses an id.
abbrev pub TellsLoss : App → List Entry → ℕ → Entry → Bool → Type 0
TellsLoss app trace k e lost = MatchBool lost (Loses app trace k e) (Loses app trace k e → ⊥)
