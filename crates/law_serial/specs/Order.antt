-- An order of all writes and some reads of a trace. Entries are named by their places in the trace, counted from 0.
use Rattle.std.specs.Prelude.{ℕ, Bool, true, false, not, ◌&&◌, ◌||◌, ◌++◌, List, [], ◌∷◌}
use Rattle.std.specs.List.{filter, list_any}
use Rattle.anti_ids.specs.Ids.{has_id}
use Rattle.anti_ids.specs.declared.id.WriteId.{WriteId}
use Rattle.anti_kind.specs.declared.entry.Entry.{Entry}
use Rattle.anti_app.specs.declared.app.App.{App}
use Rattle.law_causal.specs.Words.{brings, wrote}
use Rattle.law_causal.specs.Reads.{is_at, places}
use Rattle.law_causal.specs.Carried.{carried_at}

-- whether a write stands at a place
abbrev pub is_some_id : List WriteId → Bool
is_some_id [] = false
is_some_id (w ∷ ws) = true

abbrev pub writes_at : List Entry → ℕ → Bool
writes_at trace i = is_at (λ a. is_some_id (wrote a)) trace i

-- the past of the read e, at place r: the ids that are carried into it, and those that come with its rows
abbrev pub past_of : App → List Entry → ℕ → Entry → List WriteId
past_of app trace r e = carried_at app trace r e ++ brings app e

-- whether the write at place i is in the past of the read at place r
abbrev pub is_in_past : App → List Entry → ℕ → ℕ → Bool
is_in_past app trace r i = is_at (λ e. is_at (λ a. list_any (λ w. has_id w (past_of app trace r e)) (wrote a)) trace i) trace r

-- For each read in turn first the writes of its past that are not listed yet, in the order of the trace, and then the read. At the end
-- come all other writes, in the order of the trace.
abbrev pub listing : (ℕ → Bool) → (ℕ → ℕ → Bool) → List ℕ → List ℕ → (ℕ → Bool) → List ℕ
listing writes past all [] listed = filter (λ i. writes i && not (listed i)) all
listing writes past all (r ∷ rs) listed =
    filter (λ i. writes i && (past r i && not (listed i))) all ++ r ∷ listing writes past all rs (λ i. listed i || past r i)

-- the order of some reads of a trace, where a test tells which writes are in the past of which read
abbrev pub order_by : List Entry → (ℕ → ℕ → Bool) → List ℕ → List ℕ
order_by trace past reads = listing (writes_at trace) past (places trace) reads (λ i. false)

abbrev pub order_of : App → List Entry → List ℕ → List ℕ
order_of app trace reads = order_by trace (is_in_past app trace) reads
