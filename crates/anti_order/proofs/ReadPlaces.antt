-- Places of a trace: of its entries, of the reads of a span, and of an order.
use Rattle.std.proofs.Common.{◌≡◌, ℕ, ◌+◌, ◌<◌, ◌&&◌, Bool, true, false, List, [], ◌∷◌, ◌++◌, cond, length, get_or, sym, ap, ◌∙◌, append-nil, arith}
use Rattle.std.specs.Prelude.{All, Option, Some, None, not, ◌||◌, ◌==◌, slice_get}
use Rattle.std.specs.List.{filter, range_with_len}
use Rattle.std.specs.Option.{option_map_or}
use Rattle.std.proofs.lemmas.Bool.{and_parts}
use Rattle.std.proofs.lemmas.List.Elements.{All-append, All-cons, All-filter, All-head, All-tail, All-weaker, filter_passes}
use Rattle.std.proofs.lemmas.List.FromFn.{get_or-range_with_len, length-range_with_len}
use Rattle.anti_kind.specs.declared.actor.Actor.TheVariants.{Process}
use Rattle.anti_kind.specs.declared.actor.Birth.{Birth}
use Rattle.anti_kind.specs.declared.entry.Entry.{Entry}
use Rattle.anti_app.specs.declared.app.App.{App}
use Rattle.anti_trace.specs.Traces.{is_by}
use Rattle.law_causal.specs.Reads.{is_at, is_read_of, places, reads_of}
use Rattle.law_causal.specs.Words.{reads}
use Rattle.law_serial.specs.Order.{is_in_past, listing, order_of, writes_at}
use Rattle.anti_order.proofs.Places.{is_at_entry, is_at_within, places_more}

pub all_within : (test : Entry → Bool) (trace : List Entry) (rs : List ℕ) → All (λ r. is_at test trace r ≡ true) rs → All (λ r. r < length trace) rs
all_within test trace rs all =
    All-weaker (λ r. is_at test trace r ≡ true) (λ r. r < length trace) (is_at_within test trace) rs all

-- ---- the reads of a span

-- what a test keeps of one place more
module _ (test : Entry → Bool) (trace : List Entry) (k : ℕ) (e : Entry) (at : slice_get trace k ≡ Some e) (kept : List ℕ)
    (so_far : kept ≡ filter (is_at test trace) (range_with_len 0 k)) where
  more : (t : Bool) → test e ≡ t → filter (is_at test trace) (range_with_len 0 (k + 1)) ≡ kept ++ cond t (k ∷ []) []
  more t is =
      places_more (is_at test trace) k
      ∙ ap (λ (is : List ℕ). is ++ cond (is_at test trace k) (k ∷ []) []) (sym so_far)
      ∙ ap (λ (b : Bool). kept ++ cond b (k ∷ []) []) (is_at_entry test trace k e at ∙ is)

  pub kept_more : test e ≡ true → kept ++ k ∷ [] ≡ filter (is_at test trace) (range_with_len 0 (k + 1))
  kept_more on = sym (more true on)

  pub passed_more : test e ≡ false → kept ≡ filter (is_at test trace) (range_with_len 0 (k + 1))
  passed_more off = sym (append-nil kept) ∙ sym (more false off)

pub are_reads : (trace : List Entry) (birth : Birth) (span : ℕ) → All (λ r. is_at (λ e. reads e.call) trace r ≡ true) (reads_of trace birth span)
are_reads trace birth span =
    All-weaker (λ r. is_at (is_read_of birth span) trace r ≡ true) (λ r. is_at (λ e. reads e.call) trace r ≡ true) (λ r is. by_entry (slice_get trace r) is)
    (reads_of trace birth span) (filter_passes (is_at (is_read_of birth span) trace) (places trace))
  where
    by_entry : (found : Option Entry) → option_map_or (is_read_of birth span) found false ≡ true → option_map_or (λ e. reads e.call) found false ≡ true
    by_entry None is = is
    by_entry (Some e) is = (and_parts (reads e.call) (is_by (Process birth) e && e.span == span) is).0

-- ---- an order

places_low : (trace : List Entry) → All (λ i. i < length trace) (places trace)
places_low trace k d low =
    let count : length (places trace) ≡ length trace = length-range_with_len 0 (length trace) in
    let is : get_or (places trace) k d ≡ 0 + k = get_or-range_with_len 0 (length trace) k d (omega arith) in
    let within : get_or (places trace) k d < length trace = omega arith in
    within

listing_low : (n : ℕ) (writes : ℕ → Bool) (past : ℕ → ℕ → Bool) (all rs : List ℕ) (listed : ℕ → Bool) → All (λ i. i < n) all → All (λ r. r < n) rs
    → All (λ i. i < n) (listing writes past all rs listed)
listing_low n writes past all [] listed low reads = All-filter (λ i. writes i && not (listed i)) (λ i. i < n) all low
listing_low n writes past all (r ∷ rs) listed low reads =
    let more : ℕ → Bool = λ i. listed i || past r i in
    All-append (λ i. i < n) (filter (λ i. writes i && (past r i && not (listed i))) all) (r ∷ listing writes past all rs more)
    (All-filter (λ i. writes i && (past r i && not (listed i))) (λ i. i < n) all low)
    (All-cons (λ i. i < n) r (listing writes past all rs more) (All-head (λ i. i < n) r rs reads)
    (listing_low n writes past all rs more low (All-tail (λ i. i < n) r rs reads)))

-- has no place past the end
pub order_within : (app : App) (trace : List Entry) (rs : List ℕ) → All (λ r. is_at (λ e. reads e.call) trace r ≡ true) rs
    → All (λ i. i < length trace) (order_of app trace rs)
order_within app trace rs all =
    listing_low (length trace) (writes_at trace) (is_in_past app trace) (places trace) rs (λ i. false) (places_low trace)
    (all_within (λ e. reads e.call) trace rs all)
