-- How far a walk along a trace has come in the trail of the trace.
use Rattle.std.specs.Prelude.{ℕ, ◌≡◌, ◌<◌, ◌^◌, List, Some, length, slice_get, slice_index, take}
use Rattle.std.specs.List.{filter}
use Rattle.anti_kind.specs.declared.entry.Entry.{Entry}
use Rattle.anti_app.specs.declared.app.App.{App}
use Rattle.anti_app.specs.Objects.{object_count}
use Rattle.anti_trace.specs.Legal.{IsLegalTrace}
use Rattle.anti_trace.specs.Traces.{entries_on}
use Rattle.anti_trace.specs.inner.Trails.{leaves_trail}
use Rattle.anti_past.specs.declared.trail_cursor.TrailCursor.{TrailCursor}

-- how many of the first k entries leave something in the trail of an object
abbrev pub passed_at : List Entry → ℕ → ℕ → ℕ
passed_at trace k o = length (filter (λ e. leaves_trail e.call) (entries_on o (take k trace)))

-- These are the counts of the objects, at place k of the trace.
pub record IsCursorAt (app : App) (trace : List Entry) (k : ℕ) (c : TrailCursor) : Type 0 where
  pub many : length c.passed.items ≡ object_count app
  pub each : (o : ℕ) → o < object_count app → slice_index c.passed.items o ≡ passed_at trace k o

-- and the entry e comes there, in a legal trace of fewer than 2^32 entries
pub record IsPassing (app : App) (trace : List Entry) (k : ℕ) (e : Entry) (c : TrailCursor) : Type 0 where
  pub legal : IsLegalTrace app trace
  pub there : slice_get trace k ≡ Some e
  pub low : k < 2 ^ 32
  pub cursor : IsCursorAt app trace k c
