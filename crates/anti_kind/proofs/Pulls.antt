-- What a subscription of a topic pulled: the cells of its channel, from the first on, as many as it pulled. So one number tells them,
-- the version of the last.
use Rattle.std.proofs.Common.{◌≡◌, ℕ, zero, suc, ◌+◌, ◌-◌, ◌<◌, ◌≤◌, Bool, true, false, cond, ◌&&◌, ◌||◌, List, [], ◌∷◌, ◌++◌, length, get_or, take, filter, slice_get, Option, Some, None, AllPairs, refl, sym, ap, ap₂, ◌∙◌, ⊎_elim, ◌==◌, leb, eqb-true, length-append, arith, is_some, unwrap_or, option_and_then}
use Rattle.std.specs.Prelude.{Contains}
use Rattle.std.specs.Cmp.{both_ways as by_both}
use Rattle.std.specs.List.{list_any, Any}
use Rattle.std.proofs.lemmas.Bool.{and_parts, and_from, and_left, leb-true, le-leb, cases_lt, both_ways, or_from, cases_Bool, false_from_ne_true}
use Rattle.std.proofs.lemmas.List.{take-append-le, get_or-take, length-take-le, get_or_default}
use Rattle.std.proofs.lemmas.List.Folds.{list_any-append, list_any_more, list_any_at, Any-from_list_any}
use Rattle.std.proofs.lemmas.List.Kept.{AllPairs-filter}
use Rattle.std.proofs.lemmas.List.Sums.{sum_by_push}
use Rattle.std.proofs.lemmas.Option.{slice_get_within, get_or_from_slice_get}
use Rattle.anti_kind.specs.Kinds.{facts_of}
use Rattle.anti_kind.specs.declared.call.Call.{Call}
use Rattle.anti_kind.specs.declared.call.Call.TheVariants.{Pull}
use Rattle.anti_kind.specs.declared.call.Reply.{Reply}
use Rattle.anti_kind.specs.declared.call.Reply.TheVariants.{Pulled}
use Rattle.anti_kind.specs.declared.entry.Entry.{Entry}
use Rattle.anti_kind.specs.declared.row.Row.{Row}
use Rattle.anti_kind.specs.declared.store_kind.Sub.{Sub}
use Rattle.anti_kind.specs.Stored.{wrote, rows, row_of, is_in}
use Rattle.anti_kind.specs.Store.{Store, absent, is_pull_by, gives, cursor, next_of, next, was_pulled, store_ready, store_due, cells}
use Rattle.anti_kind.specs.Cells.{is_row_in, is_cell, nth_version, last_pulled}
use Rattle.anti_kind.specs.Objects.{store, Follows, IsLegal}
use Rattle.anti_kind.proofs.FactLaws.{polled_not_tried}
use Rattle.anti_kind.proofs.Finding.{Found, find_found, filter_contains}
use Rattle.anti_kind.proofs.Histories.{by_entries}
use Rattle.anti_kind.proofs.Rows.{or_false, is_write, version_at, versions_grow, row_in}
use Rattle.anti_kind.proofs.Handed.{some_there}
use Rattle.anti_kind.proofs.Sources.{whole_given, pull_of}
use Rattle.anti_kind.proofs.Cells.{cells_more, cells_other, if_whole}

-- One entry more.

pub was_pulled_more : (h : List Entry) (e : Entry) (n v : ℕ) → was_pulled (h ++ e ∷ []) n v ≡ (was_pulled h n v || (is_pull_by n e.call && gives v e.reply))
was_pulled_more h e n v =
    list_any-append (λ (x : Entry). is_pull_by n x.call && gives v x.reply) h (e ∷ []) ∙ ap (λ (b : Bool). was_pulled h n v || b) (or_false (is_pull_by n e.call && gives v e.reply))

pub cursor_more : (h : List Entry) (e : Entry) (n : ℕ) → cursor (h ++ e ∷ []) n ≡ cursor h n + cond (is_pull_by n e.call) 1 0
cursor_more h e n = sum_by_push (λ (x : Entry). cond {A = ℕ} (is_pull_by n x.call) 1 0) h e

-- A subscription that the store has not pulls nothing.

pub no_sub_pulled : (s : Store) (n : ℕ) → slice_get s.subs n ≡ None → (h : List Entry) → IsLegal (store s) h → (v : ℕ) → was_pulled h n v ≡ false
no_sub_pulled s n none h l = by_entries (store s) (λ k. (v : ℕ) → was_pulled k n v ≡ false) (λ v. refl) step h l where
  step : (k : List Entry) (e : Entry) → IsLegal (store s) k → Follows (store s) k e → ((v : ℕ) → was_pulled k n v ≡ false) → (v : ℕ) → was_pulled (k ++ e ∷ []) n v ≡ false
  step k e legal f was v =
      was_pulled_more k e n v
      ∙ or_from (was_pulled k n v) (is_pull_by n e.call && gives v e.reply) (was v)
      (and_left (is_pull_by n e.call) (gives v e.reply) (false_from_ne_true (is_pull_by n e.call) (λ by.
      let there : is_some (next s k n) ≡ true = ap (λ (c : Call). store_ready s k c) (sym (pull_of n e.call by)) ∙ f.is_ready in
      let gone : is_some (next s k n) ≡ false = ap (λ (o : Option Sub). is_some (option_and_then (next_of (facts_of s.kind).tried (facts_of s.kind).polled s k n) o)) none in
      both_ways (is_some (next s k n)) gone there)))

-- What a subscription pulled.

module _ (s : Store) (kind : (facts_of s.kind).polled ≡ true) (n : ℕ) (sub : Sub) (has : slice_get s.subs n ≡ Some sub) where
  -- a pull gives the next cell
  record IsNextCell (h : List Entry) (e : Entry) (r : Row) : Type 0 where
    reply : e.reply ≡ Pulled r
    cell : slice_get (cells h sub.channel) (cursor h n) ≡ Some r

  next_cell_given : (h : List Entry) (e : Entry) → Follows (store s) h e → e.call ≡ Pull n → (r : Row) × IsNextCell h e r
  next_cell_given h e f is =
      let some : (r : Row) × (next s h n ≡ Some r) = some_there (next s h n) (ap (λ (c : Call). store_ready s h c) (sym is) ∙ f.is_ready) in
      let cell : if_whole s h sub.region (slice_get (cells h sub.channel) (cursor h n)) ≡ Some some.0 =
      ap₂ (λ (tried polled : Bool). next_of tried polled s h n sub) (sym (polled_not_tried s.kind kind)) (sym kind) ∙ ap (option_and_then (next_of (facts_of s.kind).tried (facts_of s.kind).polled s h n)) (sym has) ∙ some.1 in (
        some.0,
        record {
          reply = f.reply ∙ ap (λ (c : Call). store_due s h c) is ∙ ap (λ (o : Option Row). Pulled (unwrap_or o (absent []))) some.1;
          cell = whole_given s h sub.region (slice_get (cells h sub.channel) (cursor h n)) some.0 cell;
        },
      )

  -- the cells that were pulled
  abbrev pub taken : List Entry → List Row
  taken h = take (cursor h n) (cells h sub.channel)

  pub record ArePulled (h : List Entry) : Type 0 where
    pub within : cursor h n ≤ length (cells h sub.channel)
    pub are : (v : ℕ) → was_pulled h n v ≡ list_any (λ r. r.version == v) (taken h)

  pulled_now : (h : List Entry) (e : Entry) → Follows (store s) h e → ArePulled h → is_pull_by n e.call ≡ true → ArePulled (h ++ e ∷ [])
  pulled_now h e f was by =
      let is : e.call ≡ Pull n = pull_of n e.call by in
      let got : (r : Row) × IsNextCell h e r = next_cell_given h e f is in
      let r : Row = got.0 in
      let short : cursor h n < length (cells h sub.channel) = slice_get_within (cells h sub.channel) (cursor h n) r got.1.cell in
      let at : get_or (cells h sub.channel) (cursor h n) r ≡ r = get_or_from_slice_get (cells h sub.channel) (cursor h n) r r got.1.cell in
      let same : cells (h ++ e ∷ []) sub.channel ≡ cells h sub.channel = cells_other h e sub.channel (ap is_write is) in
      let up : cursor (h ++ e ∷ []) n ≡ cursor h n + 1 = cursor_more h e n ∙ ap (λ (b : Bool). cursor h n + cond b 1 0) by in
      record {
        within = omega (arith, ap length same);
        are = λ v.
            was_pulled_more h e n v
            ∙ ap₂ (λ (b c : Bool). b || c) (was.are v) (ap₂ (λ (b : Bool) (x : Reply). b && gives v x) by got.1.reply)
            ∙ ap (λ (x : Row). list_any (λ (y : Row). y.version == v) (taken h) || (x.version == v)) (sym at)
            ∙ sym (list_any_more (λ (y : Row). y.version == v) (cells h sub.channel) (cursor h n) r short)
            ∙ ap₂ (λ (m : ℕ) (rs : List Row). list_any (λ (y : Row). y.version == v) (take m rs)) (sym up) (sym same);
      }

  pulled_not : (h : List Entry) (e : Entry) → ArePulled h → is_pull_by n e.call ≡ false → ArePulled (h ++ e ∷ [])
  pulled_not h e was off =
      let new : List Row = filter (is_in sub.channel) (wrote e.call e.reply) in
      let more : cells (h ++ e ∷ []) sub.channel ≡ cells h sub.channel ++ new = cells_more h e sub.channel in
      let same : cursor (h ++ e ∷ []) n ≡ cursor h n = cursor_more h e n ∙ ap (λ (b : Bool). cursor h n + cond b 1 0) off ∙ omega arith in
      let kept : taken (h ++ e ∷ []) ≡ taken h = ap₂ (λ (m : ℕ) (rs : List Row). take m rs) same more ∙ take-append-le (cursor h n) (cells h sub.channel) new was.within in
      record {
        within = omega (arith, was.within, same, ap length more, length-append (cells h sub.channel) new);
        are = λ v.
            was_pulled_more h e n v
            ∙ ap (λ (b : Bool). was_pulled h n v || b) (and_left (is_pull_by n e.call) (gives v e.reply) off)
            ∙ or_false (was_pulled h n v) ∙ was.are v
            ∙ ap (list_any (λ (y : Row). y.version == v)) (sym kept);
      }

  pulled_step : (h : List Entry) (e : Entry) → IsLegal (store s) h → Follows (store s) h e → ArePulled h → ArePulled (h ++ e ∷ [])
  pulled_step h e l f was = ⊎_elim (pulled_now h e f was) (pulled_not h e was) (cases_Bool (is_pull_by n e.call))

  -- A subscription pulled the cells of its channel, from the first on, as many as it pulled.
  pub are_pulled : (h : List Entry) → IsLegal (store s) h → ArePulled h
  are_pulled h l = by_entries (store s) ArePulled (record { within = omega arith; are = λ v. refl }) pulled_step h l

-- The version of the last cell tells which were pulled.

pub nth_version_is : (rs : List Row) (n : ℕ) → 1 ≤ n → nth_version rs n ≡ (get_or rs (n - 1) (absent [])).version
nth_version_is rs zero some = absurd (omega arith)
nth_version_is rs (suc i) some = let same : i ≡ suc i - 1 = omega arith in ap (λ (m : ℕ). (get_or rs m (absent [])).version) same

row_found : (channel : List ℕ) (o : Option Row) → is_row_in channel o ≡ true → (r : Row) × (o ≡ Some r) × (is_in channel r ≡ true)
row_found channel None on = absurd (cc)
row_found channel (Some r) on = (r, refl, on)

module _ (s : Store) (h : List Entry) (l : IsLegal (store s) h) (channel : List ℕ) where
  pub cells_grow : AllPairs (λ x y. x.version < y.version) (cells h channel)
  cells_grow = AllPairs-filter (λ (x y : Row). x.version < y.version) (is_in channel) (rows h) (versions_grow s h l)

  -- among the first n cells
  among_first : (n v : ℕ) → n ≤ length (cells h channel) → list_any (λ r. r.version == v) (take n (cells h channel)) ≡ true → (leb 1 v && (leb v (nth_version (cells h channel) n) && is_cell h v channel)) ≡ true
  among_first n v within on =
      let rs : List Row = cells h channel in
      let found : Any (λ (r : Row). (r.version == v) ≡ true) (take n rs) = Any-from_list_any (λ (r : Row). r.version == v) (take n rs) on in
      let i : ℕ = found.0 in
      let r : Row = found.1 in
      let short : i < n = omega (arith, found.2, length-take-le n rs within) in
      let at : get_or rs i r ≡ r = sym (get_or-take n rs i r short) ∙ found.3 in
      let version : r.version ≡ v = eqb-true r.version v found.4 in
      let here : Contains (rows h) r × (is_in channel r ≡ true) = (filter_contains (is_in channel) (rows h) r).0 (i, omega (arith, short, within), at) in
      let row : row_of h v ≡ Some r = ap (row_of h) (sym version) ∙ row_in s h l r here.0 in
      let some : 1 ≤ v = omega (arith, version, version_at s h l here.0.0 r here.0.1, ap (λ (x : Row). x.version) here.0.2) in
      let last : nth_version rs n ≡ (get_or rs (n - 1) r).version = nth_version_is rs n (omega (arith, short)) ∙ ap (λ (x : Row). x.version) (get_or_default rs (n - 1) (absent []) r (omega (arith, short, within))) in
      let below : v ≤ nth_version rs n =
      ⊎_elim (λ (before : i < n - 1). omega (arith, last, version, ap (λ (x : Row). x.version) at, cells_grow i (n - 1) r before (omega (arith, short, within))))
      (λ (end : n - 1 ≤ i).
      let same : n - 1 ≡ i = omega (arith, short) in
      omega (arith, last, version, ap (λ (x : Row). x.version) at, ap (λ (m : ℕ). (get_or rs m r).version) same))
      (cases_lt i (n - 1)) in
      and_from (leb 1 v) _ (le-leb 1 v some) (and_from (leb v (nth_version rs n)) (is_cell h v channel) (le-leb v (nth_version rs n) below) (ap (is_row_in channel) row ∙ here.1))

  in_first : (n v : ℕ) → n ≤ length (cells h channel) → (leb 1 v && (leb v (nth_version (cells h channel) n) && is_cell h v channel)) ≡ true → list_any (λ r. r.version == v) (take n (cells h channel)) ≡ true
  in_first n v within on =
      let rs : List Row = cells h channel in
      let first = and_parts (leb 1 v) _ on in
      let second = and_parts (leb v (nth_version rs n)) (is_cell h v channel) first.1 in
      let some : 1 ≤ v = leb-true 1 v first.0 in
      let below : v ≤ nth_version rs n = leb-true v (nth_version rs n) second.0 in
      let row : (r : Row) × (row_of h v ≡ Some r) × (is_in channel r ≡ true) = row_found channel (row_of h v) second.1 in
      let r : Row = row.0 in
      let found : Found (λ (x : Row). x.version == v) (rows h) r = find_found (λ (x : Row). x.version == v) (rows h) r row.1 in
      let version : r.version ≡ v = eqb-true r.version v found.passes in
      let here : Contains rs r = (filter_contains (is_in channel) (rows h) r).1 ((found.index, found.within, found.at r), row.2) in
      let short : here.0 < n =
      ⊎_elim (λ (in' : here.0 < n). in')
      (λ (past : n ≤ here.0).
      ⊎_elim
      (λ (none : n < 1). let zero' : n ≡ 0 = omega arith in absurd (omega (arith, some, below, ap (nth_version rs) zero')))
      (λ (one : 1 ≤ n).
      let last : nth_version rs n ≡ (get_or rs (n - 1) r).version = nth_version_is rs n one ∙ ap (λ (x : Row). x.version) (get_or_default rs (n - 1) (absent []) r (omega (arith, past, here.1))) in
      absurd (omega (arith, below, last, version, ap (λ (x : Row). x.version) here.2, cells_grow (n - 1) here.0 r (omega (arith, past, one)) here.1)))
      (cases_lt n 1))
      (cases_lt here.0 n) in
      list_any_at (λ (x : Row). x.version == v) (take n rs) here.0 r (omega (arith, short, length-take-le n rs within))
      (ap (λ (x : Row). x.version == v) (get_or-take n rs here.0 r short ∙ here.2) ∙ found.passes)

-- A subscription pulled a version exactly where it is that of a cell of its channel, and not above the last that it pulled.
pub pulled_by_last : (s : Store) → (facts_of s.kind).polled ≡ true → (n : ℕ) (sub : Sub) → slice_get s.subs n ≡ Some sub → (h : List Entry) → IsLegal (store s) h → (v : ℕ)
    → was_pulled h n v ≡ (leb 1 v && (leb v (last_pulled h n sub.channel) && is_cell h v sub.channel))
pulled_by_last s kind n sub has h l v =
    let pulled : ArePulled s kind n sub has h = are_pulled s kind n sub has h l in
    pulled.are v
    ∙ by_both (list_any (λ (r : Row). r.version == v) (take (cursor h n) (cells h sub.channel))) (leb 1 v && (leb v (last_pulled h n sub.channel) && is_cell h v sub.channel))
    (among_first s h l sub.channel (cursor h n) v pulled.within) (in_first s h l sub.channel (cursor h n) v pulled.within)
