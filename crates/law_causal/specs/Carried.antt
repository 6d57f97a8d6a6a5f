-- What came to the span of an entry before it, what its process carried into it, and what was lost.
use Rattle.std.specs.Prelude.{ℕ, ◌≡◌, true, List, [], Option, Some, slice_get, take}
use Rattle.std.specs.Option.{option_map_or}
use Rattle.anti_ids.specs.Ids.{has_id}
use Rattle.anti_ids.specs.declared.id.WriteId.{WriteId}
use Rattle.anti_kind.specs.declared.entry.Entry.{Entry}
use Rattle.anti_app.specs.declared.app.App.{App}
use Rattle.anti_proc.specs.Meaning.{process_after}
use Rattle.anti_proc.specs.Trees.{Ask, ask_of}
use Rattle.anti_trace.specs.Traces.{entries_by}
use Rattle.law_causal.specs.Words.{brings, hands_all}
use Rattle.law_causal.specs.Causal.{Earlier}

-- An id came to the span of the entry e, at place j, with an earlier entry of the span.
pub record Brought (app : App) (trace : List Entry) (j : ℕ) (e : Entry) (w : WriteId) : Type 0 where
  pub place : ℕ
  pub entry : Entry
  pub there : slice_get trace place ≡ Some entry
  pub earlier : Earlier place entry j e
  pub came : has_id w (brings app entry) ≡ true

-- the next call of the actor of the entry e, at place j, after all that it did before
abbrev pub ask_at : App → List Entry → ℕ → Entry → Option Ask
ask_at app trace j e = ask_of (process_after app (entries_by e.actor (take j trace)))

-- the lineage that its process carried into the entry e, at place j
abbrev pub carried_at : App → List Entry → ℕ → Entry → List WriteId
carried_at app trace j e = option_map_or (λ ask. ask.carried) (ask_at app trace j e) []

-- At each write, read, look and post its process carries all that came to the span before.
abbrev pub IsLossless : App → List Entry → Type 0
IsLossless app trace =
    (j : ℕ) (e : Entry) → slice_get trace j ≡ Some e → hands_all e.call ≡ true
    → (w : WriteId) → Brought app trace j e w → has_id w (carried_at app trace j e) ≡ true
