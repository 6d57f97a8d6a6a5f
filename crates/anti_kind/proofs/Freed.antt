-- What a subscription is handed out next: behind an entry that ships and hands back nothing, and is not its own pull, there is
-- something only where there was before.
use Rattle.std.proofs.Common.{◌≡◌, ℕ, ◌+◌, ◌<◌, ◌≤◌, Bool, true, false, not, cond, ◌&&◌, ◌||◌, List, [], ◌∷◌, ◌++◌, length, get_or, filter, slice_get, Option, Some, None, find, refl, sym, ap, ap₂, ◌∙◌, ⊎_elim, ◌==◌, ltb, eqb-true, arith, is_some, option_and_then}
use Rattle.std.specs.Prelude.{Contains}
use Rattle.std.proofs.lemmas.Bool.{and_parts, and_from, or_parts, or_from, not-true, not_from_false, both_ways, true_from_ne_false, cases_Bool, cases_lt, ltb-true, lt-ltb}
use Rattle.std.proofs.lemmas.List.{get_or_append_left}
use Rattle.std.proofs.lemmas.List.Elements.{All-contains}
use Rattle.std.proofs.lemmas.List.Folds.{list_any-append}
use Rattle.std.proofs.lemmas.Option.{slice_get_within, get_or_from_slice_get}
use Rattle.anti_kind.specs.Kinds.{facts_of}
use Rattle.anti_kind.specs.declared.call.Call.{Call}
use Rattle.anti_kind.specs.declared.call.Call.TheVariants.{Pull}
use Rattle.anti_kind.specs.declared.call.Reply.{Reply}
use Rattle.anti_kind.specs.declared.entry.Entry.{Entry}
use Rattle.anti_kind.specs.declared.row.Row.{Row}
use Rattle.anti_kind.specs.declared.store_kind.Sub.{Sub}
use Rattle.anti_kind.specs.Stored.{wrote, rows, is_ship, is_whole, is_in}
use Rattle.anti_kind.specs.Store.{Store, is_pull, is_pull_by, is_ack, is_nack, gives, pulls, is_acked, is_out, is_free, cells, cursor, next_of, next}
use Rattle.anti_kind.specs.Objects.{store, Follows, IsLegal}
use Rattle.anti_kind.proofs.Finding.{Found, find_found, none_passes, filter_contains}
use Rattle.anti_kind.proofs.Histories.{follows_in}
use Rattle.anti_kind.proofs.Rows.{or_false}
use Rattle.anti_kind.proofs.Handed.{some_there, IsHanded, handed, free_not_out, pulls_more, out_kept}
use Rattle.anti_kind.proofs.Sources.{whole_given}
use Rattle.anti_kind.proofs.Cells.{cells_more, if_whole}
use Rattle.anti_kind.proofs.Pulls.{cursor_more, cells_grow}
use Rattle.anti_kind.proofs.Deliveries.{slice_get_left}
use Rattle.anti_kind.proofs.Whole.{WasWhole, was_whole}

there_from : (o : Option Row) → (o ≡ None → ⊥) → is_some o ≡ true
there_from None some = absurd (some refl)
there_from (Some r) some = refl

given_whole : (s : Store) (h : List Entry) (g : ℕ) (o : Option Row) (r : Row) → if_whole s h g o ≡ Some r → is_whole s.kind h g r ≡ true
given_whole s h g o r is =
    let at : if_whole s h g (Some r) ≡ Some r = ap (if_whole s h g) (sym (whole_given s h g o r is)) ∙ is in
    true_from_ne_false (is_whole s.kind h g r) (λ off. let none : None ≡ Some r = sym (ap (λ (b : Bool). cond b (Some r) None) off) ∙ at in absurd (cc))

module _ (s : Store) (h : List Entry) (e : Entry) (l : IsLegal (store s) (h ++ e ∷ [])) (ships : (g v p : ℕ) → is_ship g v p e.call ≡ false) (nacks : (v : ℕ) → is_nack v e.call ≡ false) where
  -- A queue.

  abbrev follows : Follows (store s) h e
  follows = follows_in (store s) h e [] l

  acked_more : (v : ℕ) → is_acked (h ++ e ∷ []) v ≡ (is_acked h v || is_ack v e.call)
  acked_more v = list_any-append (λ (x : Entry). is_ack v x.call) h (e ∷ []) ∙ ap (λ (b : Bool). is_acked h v || b) (or_false (is_ack v e.call))

  -- what is not out was not: what was pulled is out, and was free
  not_out_before : (facts_of s.kind).tried ≡ true → (v : ℕ) → is_out (h ++ e ∷ []) v ≡ false → (is_ack v e.call || is_nack v e.call) ≡ false → is_out h v ≡ false
  not_out_before queue v off settles = by_call e.call refl where
    kept : (is_pull e.call && gives v e.reply) ≡ false → is_out h v ≡ false
    kept other = sym (out_kept h e v other settles) ∙ off

    by_call : (c : Call) → e.call ≡ c → is_out h v ≡ false
    by_call (Pull n) is =
        let got : (r : Row) × (sub : Sub) × IsHanded s h e r sub = handed s h e n queue follows is in
        let r : Row = got.0 in
        let pulling : (is_pull e.call && gives v e.reply) ≡ (r.version == v) = ap₂ (λ (c : Call) (y : Reply). is_pull c && gives v y) is got.2.reply in
        ⊎_elim (λ (same : (r.version == v) ≡ true). ap (is_out h) (sym (eqb-true r.version v same)) ∙ free_not_out s h got.1 r got.2.found.passes)
        (λ (other : (r.version == v) ≡ false). kept (pulling ∙ other))
        (cases_Bool (r.version == v))
    by_call _ is = kept (ap (λ (c : Call). is_pull c && gives v e.reply) is)

  record WasFree (sub : Sub) (r : Row) : Type 0 where
    here : Contains (rows h) r
    free : is_free s h sub r ≡ true

  was_free : (facts_of s.kind).tried ≡ true → (sub : Sub) (r : Row) → Contains (rows (h ++ e ∷ [])) r → is_free s (h ++ e ∷ []) sub r ≡ true → WasFree sub r
  was_free queue sub r in' free =
      let v : ℕ = r.version in
      let first = and_parts (is_in sub.channel r) _ free in
      let second = and_parts (is_whole s.kind (h ++ e ∷ []) sub.region r) _ first.1 in
      let third = and_parts (not (is_out (h ++ e ∷ []) v)) _ second.1 in
      let fourth = and_parts (not (is_acked (h ++ e ∷ []) v)) (ltb (pulls (h ++ e ∷ []) v) s.tries) third.1 in
      let whole : WasWhole s h e l sub.region r = was_whole s h e l sub.region r (ships sub.region v) in' second.0 in
      let acks = or_parts (is_acked h v) (is_ack v e.call) (sym (acked_more v) ∙ not-true (is_acked (h ++ e ∷ []) v) fourth.0) in
      let out : is_out h v ≡ false = not_out_before queue v (not-true (is_out (h ++ e ∷ []) v) third.0) (or_from (is_ack v e.call) (is_nack v e.call) acks.1 (nacks v)) in
      let few : pulls h v < s.tries = omega (arith, pulls_more h e v, ltb-true (pulls (h ++ e ∷ []) v) s.tries fourth.1) in
      record {
        here = whole.here;
        free = and_from (is_in sub.channel r) _ first.0 (and_from (is_whole s.kind h sub.region r) _ whole.whole
            (and_from (not (is_out h v)) _ (not_from_false (is_out h v) out)
            (and_from (not (is_acked h v)) _ (not_from_false (is_acked h v) acks.0) (lt-ltb (pulls h v) s.tries few))));
      }

  free_before : (facts_of s.kind).tried ≡ true → (sub : Sub) → is_some (find (is_free s (h ++ e ∷ []) sub) (rows (h ++ e ∷ []))) ≡ true → is_some (find (is_free s h sub) (rows h)) ≡ true
  free_before queue sub on =
      let some : (r : Row) × (find (is_free s (h ++ e ∷ []) sub) (rows (h ++ e ∷ [])) ≡ Some r) = some_there _ on in
      let found : Found (is_free s (h ++ e ∷ []) sub) (rows (h ++ e ∷ [])) some.0 = find_found (is_free s (h ++ e ∷ []) sub) (rows (h ++ e ∷ [])) some.0 some.1 in
      let was : WasFree sub some.0 = was_free queue sub some.0 (found.index, found.within, found.at some.0) found.passes in
      there_from (find (is_free s h sub) (rows h))
      (λ none. both_ways (is_free s h sub some.0) (All-contains (λ (r : Row). is_free s h sub r ≡ false) (rows h) some.0 (none_passes (is_free s h sub) (rows h) none) was.here) was.free)

  -- A topic.

  -- a cell that was written before stands where it stood
  cell_before : (channel : List ℕ) (i : ℕ) (r : Row) → slice_get (cells (h ++ e ∷ []) channel) i ≡ Some r → Contains (rows h) r → slice_get (cells h channel) i ≡ Some r
  cell_before channel i r is here =
      let rs : List Row = cells h channel in
      let new : List Row = filter (is_in channel) (wrote e.call e.reply) in
      let more : cells (h ++ e ∷ []) channel ≡ rs ++ new = cells_more h e channel in
      let within : i < length (cells (h ++ e ∷ []) channel) = slice_get_within (cells (h ++ e ∷ []) channel) i r is in
      let at : get_or (cells (h ++ e ∷ []) channel) i r ≡ r = get_or_from_slice_get (cells (h ++ e ∷ []) channel) i r r is in
      let cell : is_in channel r ≡ true = ((filter_contains (is_in channel) (rows (h ++ e ∷ [])) r).0 (i, within, at)).1 in
      let in' : Contains rs r = (filter_contains (is_in channel) (rows h) r).1 (here, cell) in
      ⊎_elim (λ (before : i < length rs). sym (slice_get_left rs new i before) ∙ ap (λ (xs : List Row). slice_get xs i) (sym more) ∙ is)
      (λ (past : length rs ≤ i).
      let first : get_or (cells (h ++ e ∷ []) channel) in'.0 r ≡ r = ap (λ (xs : List Row). get_or xs in'.0 r) more ∙ get_or_append_left rs new r in'.0 in'.1 ∙ in'.2 in
      absurd (omega (arith, cells_grow s (h ++ e ∷ []) l channel in'.0 i r (omega (arith, in'.1)) within, ap (λ (x : Row). x.version) first, ap (λ (x : Row). x.version) at)))
      (cases_lt i (length rs))

  cell_there : (n : ℕ) (sub : Sub) → is_pull_by n e.call ≡ false → is_some (if_whole s (h ++ e ∷ []) sub.region (slice_get (cells (h ++ e ∷ []) sub.channel) (cursor (h ++ e ∷ []) n))) ≡ true
      → is_some (if_whole s h sub.region (slice_get (cells h sub.channel) (cursor h n))) ≡ true
  cell_there n sub other on =
      let o : Option Row = slice_get (cells (h ++ e ∷ []) sub.channel) (cursor (h ++ e ∷ []) n) in
      let some : (r : Row) × (if_whole s (h ++ e ∷ []) sub.region o ≡ Some r) = some_there (if_whole s (h ++ e ∷ []) sub.region o) on in
      let r : Row = some.0 in
      let is : o ≡ Some r = whole_given s (h ++ e ∷ []) sub.region o r some.1 in
      let stays : cursor (h ++ e ∷ []) n ≡ cursor h n = cursor_more h e n ∙ ap (λ (b : Bool). cursor h n + cond b 1 0) other ∙ omega arith in
      let cell : slice_get (cells (h ++ e ∷ []) sub.channel) (cursor h n) ≡ Some r = ap (slice_get (cells (h ++ e ∷ []) sub.channel)) (sym stays) ∙ is in
      let at : Contains (cells (h ++ e ∷ []) sub.channel) r =
      (cursor h n, slice_get_within (cells (h ++ e ∷ []) sub.channel) (cursor h n) r cell, get_or_from_slice_get (cells (h ++ e ∷ []) sub.channel) (cursor h n) r r cell) in
      let was : WasWhole s h e l sub.region r =
      was_whole s h e l sub.region r (ships sub.region r.version) ((filter_contains (is_in sub.channel) (rows (h ++ e ∷ [])) r).0 at).0 (given_whole s (h ++ e ∷ []) sub.region o r some.1) in
      ap (λ (x : Option Row). is_some (if_whole s h sub.region x)) (cell_before sub.channel (cursor h n) r cell was.here)
      ∙ ap (λ (b : Bool). is_some (cond b (Some r) None)) was.whole

  -- Both.

  next_by : (n : ℕ) (sub : Sub) → is_pull_by n e.call ≡ false → (tried polled : Bool) → (facts_of s.kind).tried ≡ tried
      → is_some (next_of tried polled s (h ++ e ∷ []) n sub) ≡ true → is_some (next_of tried polled s h n sub) ≡ true
  next_by n sub other true polled is on = free_before is sub on
  next_by n sub other false true is on = cell_there n sub other on
  next_by n sub other false false is on = absurd (cc)

  subscribed : (n : ℕ) → is_pull_by n e.call ≡ false → (o : Option Sub) → is_some (option_and_then (next_of (facts_of s.kind).tried (facts_of s.kind).polled s (h ++ e ∷ []) n) o) ≡ true → is_some (option_and_then (next_of (facts_of s.kind).tried (facts_of s.kind).polled s h n) o) ≡ true
  subscribed n other None on = absurd (cc)
  subscribed n other (Some sub) on = next_by n sub other (facts_of s.kind).tried (facts_of s.kind).polled refl on

  -- What the subscription is handed out next was there before, unless the entry is its own pull.
  pub next_was_there : (n : ℕ) → is_pull_by n e.call ≡ false → is_some (next s (h ++ e ∷ []) n) ≡ true → is_some (next s h n) ≡ true
  next_was_there n other on = subscribed n other (slice_get s.subs n) on
