-- The entries of the spans of a trace that pass a test, as a map notes them.
use Rattle.std.specs.Prelude.{ℕ, ◌≡◌, ◌++◌, Bool, true, false, List, [], ◌∷◌, Option, None, Some, is_some, option_map, take, unwrap_or}
use Rattle.std.specs.BTreeMap.{BTreeMap, get}
use Rattle.std.specs.Global.{Vec}
use Rattle.std.specs.List.{filter, list_any, range_with_len}
use Rattle.anti_kind.specs.declared.entry.Entry.{Entry}
use Rattle.law_causal.specs.Reads.{is_at}
use Rattle.anti_past.specs.declared.span_keys.SpanKey.{SpanKey}
use Rattle.anti_past.specs.declared.span_reads.ReadsOfSpan.{ReadsOfSpan}
use Rattle.anti_past.specs.inner.Keys.{key_cmp, span_of}

-- the places before place k of what passes the test of a span
abbrev pub noted_before : (SpanKey → Entry → Bool) → List Entry → ℕ → SpanKey → List ℕ
noted_before test trace k q = filter (is_at (test q) trace) (range_with_len 0 k)

-- what is noted of these places: nothing where there is none
abbrev pub filled : List ℕ → Option (List ℕ)
filled [] = None
filled (i ∷ is) = Some (i ∷ is)

-- with one more place, where it is that of such an entry
abbrev pub with_place : Bool → ℕ → Option (List ℕ) → Option (List ℕ)
with_place true i noted = Some (unwrap_or noted [] ++ i ∷ [])
with_place false i noted = noted

-- what a map notes of a span
abbrev pub noted_for : BTreeMap SpanKey (Vec ℕ) → SpanKey → Option (List ℕ)
noted_for noted q = option_map (λ reads. reads.items) (get key_cmp noted q)

-- It notes of each span what passes its test before place k, and a span just where something does.
pub record AreNoted (test : SpanKey → Entry → Bool) (trace : List Entry) (k : ℕ) (noted : BTreeMap SpanKey (Vec ℕ)) : Type 0 where
  pub places : (q : SpanKey) → noted_for noted q ≡ filled (noted_before test trace k q)
  pub any : (q : SpanKey) → is_some (noted_for noted q) ≡ list_any (test q) (take k trace)

-- a span and its reads, as an entry of the map has them
abbrev pub reads_under : SpanKey × Vec ℕ → ReadsOfSpan
reads_under e = record { span = span_of e.0; reads = e.1 }
