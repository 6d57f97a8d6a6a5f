-- The cells of a channel: the nth has the key c#n, so what a region shows for that key is the nth cell, where it is whole there.
use Rattle.std.proofs.Common.{◌≡◌, ℕ, ◌+◌, ◌-◌, ◌^◌, ◌<◌, ◌≤◌, Bool, true, false, not, cond, ◌||◌, List, [], ◌∷◌, ◌++◌, length, get_or, filter, count_by, slice_get, Option, Some, None, refl, sym, ap, subst, ◌∙◌, inl, ⊎_elim, ◌==◌, eqb-true, append-nil, arith, option_and_then}
use Rattle.std.specs.Prelude.{decimal, bytes_eq, Contains}
use Rattle.std.specs.List.{list_all}
use Rattle.std.proofs.lemmas.Bool.{and_parts, or_cases, both_ways, cases_lt, false_from_ne_true, not_from_false}
use Rattle.std.proofs.lemmas.Fmt.{decimal_injective}
use Rattle.std.proofs.lemmas.List.{length_push, get_or_append_left, get_or_push, append_cancel_left}
use Rattle.std.proofs.lemmas.List.Elements.{filter-append}
use Rattle.std.proofs.lemmas.List.Sums.{length-filter, count_by-le-length, take_while-cons}
use Rattle.std.proofs.lemmas.Option.{slice_get_within, get_or_from_slice_get, slice_get-get_or}
use Rattle.anti_ids.specs.Names.{is_plain, is_plain_byte}
use Rattle.anti_ids.specs.declared.id.WriteId.{WriteId}
use Rattle.anti_kind.specs.Kinds.{facts_of}
use Rattle.anti_kind.specs.declared.call.Call.{Call}
use Rattle.anti_kind.specs.declared.call.Call.TheVariants.{Write}
use Rattle.anti_kind.specs.declared.entry.Entry.{Entry}
use Rattle.anti_kind.specs.declared.row.Row.{Row}
use Rattle.anti_kind.specs.Stored.{wrote, rows, row_of, is_whole, greatest, shows_of, channel_of, is_in}
use Rattle.anti_kind.specs.Store.{Store, store_ready, cells}
use Rattle.anti_kind.specs.Cells.{cell_key}
use Rattle.anti_kind.specs.Objects.{store, Follows, IsLegal}
use Rattle.anti_kind.proofs.Finding.{filter_contains}
use Rattle.anti_kind.proofs.Histories.{by_entries, few_entries}
use Rattle.anti_kind.proofs.Rows.{is_write, new_row, rows_more, rows_other, rows_write, rows_length, version_at, row_of_none, row_in}
use Rattle.anti_kind.proofs.Showing.{bytes_same, same_bytes, IsGreatest, greatest_passes, greatest_least}

-- A cell's key names its channel.

plain_byte : (b : ℕ) → is_plain_byte b ≡ true → not (b == 35) ≡ true
plain_byte b plain =
    not_from_false (b == 35) (false_from_ne_true (b == 35) (λ same.
    let is : is_plain_byte 35 ≡ true = ap is_plain_byte (sym (eqb-true b 35 same)) ∙ plain in absurd (cc)))

up_to_mark : (c rest : List ℕ) → list_all is_plain_byte c ≡ true → channel_of (c ++ 35 ∷ rest) ≡ c
up_to_mark [] rest plain = take_while-cons (λ b. not (b == 35)) 35 rest
up_to_mark (b ∷ c) rest plain =
    let both = and_parts (is_plain_byte b) (list_all is_plain_byte c) plain in
    take_while-cons (λ x. not (x == 35)) b (c ++ 35 ∷ rest)
    ∙ ap (λ (t : Bool). cond t (b ∷ channel_of (c ++ 35 ∷ rest)) []) (plain_byte b both.0)
    ∙ ap (λ (xs : List ℕ). b ∷ xs) (up_to_mark c rest both.1)

pub channel_of_cell : (c : List ℕ) (n : ℕ) → is_plain c ≡ true → channel_of (cell_key c n) ≡ c
channel_of_cell c n plain =
    let first = and_parts _ _ plain in
    let second = and_parts _ (list_all is_plain_byte c) first.1 in
    up_to_mark c (decimal n) second.1

-- One entry more.

pub cells_more : (h : List Entry) (e : Entry) (c : List ℕ) → cells (h ++ e ∷ []) c ≡ cells h c ++ filter (is_in c) (wrote e.call e.reply)
cells_more h e c = ap (filter (is_in c)) (rows_more h e) ∙ filter-append (is_in c) (rows h) (wrote e.call e.reply)

pub cells_other : (h : List Entry) (e : Entry) (c : List ℕ) → is_write e.call ≡ false → cells (h ++ e ∷ []) c ≡ cells h c
cells_other h e c off = ap (filter (is_in c)) (rows_other h e off)

-- what a write to the channel key adds
record IsCell (s : Store) (h : List Entry) (key : List ℕ) (r : Row) : Type 0 where
  plain : is_plain key ≡ true
  named : r.key ≡ cell_key key (length (cells h key) + 1)

new_cell : (s : Store) → (facts_of s.kind).keyed ≡ false → (h : List Entry) (e : Entry) (key value : List ℕ) (lineage : List WriteId) → Follows (store s) h e → e.call ≡ Write key value lineage → IsCell s h key (new_row s h key value lineage)
new_cell s keyless h e key value lineage f is =
    let can : ((facts_of s.kind).keyed || is_plain key) ≡ true = ap (λ (c : Call). store_ready s h c) (sym is) ∙ f.is_ready in
    record {
      plain = ⊎_elim (λ (keys : (facts_of s.kind).keyed ≡ true). absurd (both_ways (facts_of s.kind).keyed keyless keys)) (λ (plain : is_plain key ≡ true). plain) (or_cases (facts_of s.kind).keyed (is_plain key) can);
      named = ap (λ (b : Bool). cond b key (cell_key key (count_by (is_in key) (rows h) + 1))) keyless ∙ ap (λ (n : ℕ). cell_key key (n + 1)) (sym (length-filter (is_in key) (rows h)));
    }

-- The nth cell of a channel has the key c#n.

abbrev pub Named : List ℕ → List Row → Type 0
Named c rs = (i : ℕ) (d : Row) → i < length rs → (get_or rs i d).key ≡ cell_key c (i + 1)

named_push : (c : List ℕ) (rs : List Row) (r : Row) → Named c rs → r.key ≡ cell_key c (length rs + 1) → Named c (rs ++ r ∷ [])
named_push c rs r named is i d short =
    ⊎_elim (λ (before : i < length rs). ap (λ (x : Row). x.key) (get_or_append_left rs (r ∷ []) d i before) ∙ named i d before)
    (λ (last : length rs ≤ i).
    let same : length rs ≡ i = omega (arith, length_push rs r) in
    ap (λ (x : Row). x.key) (get_or_push rs r d i same) ∙ is ∙ ap (λ (n : ℕ). cell_key c (n + 1)) same)
    (cases_lt i (length rs))

named_write : (s : Store) (h : List Entry) (c key : List ℕ) (r : Row) → is_plain c ≡ true → IsCell s h key r → Named c (cells h c) → (b : Bool) → is_in c r ≡ b → Named c (cells h c ++ cond b (r ∷ []) [])
named_write s h c key r plain cell named true here =
    let same : key ≡ c = sym (channel_of_cell key (length (cells h key) + 1) cell.plain) ∙ ap channel_of (sym cell.named) ∙ bytes_same (channel_of r.key) c here in
    named_push c (cells h c) r named (cell.named ∙ ap (λ (k : List ℕ). cell_key k (length (cells h k) + 1)) same)
named_write s h c key r plain cell named false other = subst (Named c) (sym (append-nil (cells h c))) named

cells_step : (s : Store) → (facts_of s.kind).keyed ≡ false → (c : List ℕ) → is_plain c ≡ true → (h : List Entry) (e : Entry) → IsLegal (store s) h → Follows (store s) h e → Named c (cells h c) → Named c (cells (h ++ e ∷ []) c)
cells_step s keyless c plain h e l f named = by_call e.call refl where
  by_call : (call : Call) → e.call ≡ call → Named c (cells (h ++ e ∷ []) c)
  by_call (Write key value lineage) is =
      let r : Row = new_row s h key value lineage in
      subst (Named c) (sym (ap (filter (is_in c)) (rows_write s h e key value lineage f is) ∙ filter-append (is_in c) (rows h) (r ∷ [])))
      (named_write s h c key r plain (new_cell s keyless h e key value lineage f is) named (is_in c r) refl)
  by_call _ is = subst (Named c) (sym (cells_other h e c (ap is_write is))) named

pub cells_are : (s : Store) → (facts_of s.kind).keyed ≡ false → (h : List Entry) → IsLegal (store s) h → (c : List ℕ) → is_plain c ≡ true → Named c (cells h c)
cells_are s keyless h l c plain = by_entries (store s) (λ k. Named c (cells k c)) (λ i d short. absurd (omega arith)) (cells_step s keyless c plain) h l

-- What a region shows for the key of a cell.

-- a row with the key of the nth cell is the nth cell
pub cell_at : (s : Store) → (facts_of s.kind).keyed ≡ false → (h : List Entry) → IsLegal (store s) h → (c : List ℕ) → is_plain c ≡ true → (n : ℕ) → n < 2 ^ 64 → (r : Row) → Contains (rows h) r → r.key ≡ cell_key c n → slice_get (cells h c) (n - 1) ≡ Some r
cell_at s keyless h l c plain n small r here key =
    let in' : Contains (cells h c) r = (filter_contains (is_in c) (rows h) r).1 (here, same_bytes (channel_of r.key) c (ap channel_of key ∙ channel_of_cell c n plain)) in
    let many : length (cells h c) ≤ length (rows h) = omega (arith, length-filter (is_in c) (rows h), count_by-le-length (is_in c) (rows h)) in
    let keys : cell_key c (in'.0 + 1) ≡ cell_key c n = sym (cells_are s keyless h l c plain in'.0 r in'.1) ∙ ap (λ (x : Row). x.key) in'.2 ∙ key in
    let marks : 35 ∷ decimal (in'.0 + 1) ≡ 35 ∷ decimal n = append_cancel_left c (35 ∷ decimal (in'.0 + 1)) (35 ∷ decimal n) keys in
    let numbers : decimal (in'.0 + 1) ≡ decimal n = cc in
    let same : in'.0 + 1 ≡ n = decimal_injective (in'.0 + 1) n (omega (arith, in'.1, many, rows_length h, few_entries (store s) h l)) small numbers in
    ap (slice_get (cells h c)) (omega (arith, same)) ∙ slice_get-get_or (cells h c) in'.0 r in'.1 ∙ ap Some in'.2

-- where the region shows none, the nth cell is not whole there
not_whole : (s : Store) → (facts_of s.kind).keyed ≡ false → (h : List Entry) → IsLegal (store s) h → (g : ℕ) (c : List ℕ) → is_plain c ≡ true → (n : ℕ) → 1 ≤ n → shows_of s.kind h g (cell_key c n) ≡ 0
    → (r : Row) → slice_get (cells h c) (n - 1) ≡ Some r → is_whole s.kind h g r ≡ false
not_whole s keyless h l g c plain n some none r is =
    let short : n - 1 < length (cells h c) = slice_get_within (cells h c) (n - 1) r is in
    let at : get_or (cells h c) (n - 1) r ≡ r = get_or_from_slice_get (cells h c) (n - 1) r r is in
    let number : n - 1 + 1 ≡ n = omega arith in
    let key : r.key ≡ cell_key c n = ap (λ (x : Row). x.key) (sym at) ∙ cells_are s keyless h l c plain (n - 1) r short ∙ ap (cell_key c) number in
    let here : Contains (rows h) r = ((filter_contains (is_in c) (rows h) r).0 (n - 1, short, at)).0 in
    false_from_ne_true (is_whole s.kind h g r) (λ whole.
    let least : (get_or (rows h) here.0 r).version ≤ greatest (is_whole s.kind h g) (cell_key c n) (rows h) =
    greatest_least (is_whole s.kind h g) (cell_key c n) (rows h) here.0 r here.1
    (ap (λ (x : Row). bytes_eq x.key (cell_key c n)) here.2 ∙ same_bytes r.key (cell_key c n) key) (ap (is_whole s.kind h g) here.2 ∙ whole) in
    omega (arith, version_at s h l here.0 r here.1))

-- a cell, where it is whole at the region
abbrev pub if_whole : Store → List Entry → ℕ → Option Row → Option Row
if_whole s h g o = option_and_then (λ r. cond (is_whole s.kind h g r) (Some r) None) o

-- What a region shows for the key c#n is the nth cell of the channel c, where it is whole there.
pub next_cell : (s : Store) → (facts_of s.kind).keyed ≡ false → (h : List Entry) → IsLegal (store s) h → (g : ℕ) (c : List ℕ) → is_plain c ≡ true → (n : ℕ) → 1 ≤ n → n < 2 ^ 64
    → if_whole s h g (slice_get (cells h c) (n - 1)) ≡ row_of h (shows_of s.kind h g (cell_key c n))
next_cell s keyless h l g c plain n some small =
    ⊎_elim
    (λ (none : shows_of s.kind h g (cell_key c n) < 1).
    let zero' : shows_of s.kind h g (cell_key c n) ≡ 0 = omega arith in
    absent_cell (slice_get (cells h c) (n - 1)) (not_whole s keyless h l g c plain n some zero') ∙ sym (row_of_none s h l (shows_of s.kind h g (cell_key c n)) (inl zero')))
    (λ (shown : 1 ≤ shows_of s.kind h g (cell_key c n)).
    let found : (r : Row) × IsGreatest (is_whole s.kind h g) (cell_key c n) (rows h) r = greatest_passes (is_whole s.kind h g) (cell_key c n) (rows h) shown in
    let r : Row = found.0 in
    ap (if_whole s h g) (cell_at s keyless h l c plain n small r found.1.here found.1.key)
    ∙ ap (λ (b : Bool). cond b (Some r) None) found.1.passes
    ∙ sym (ap (row_of h) (sym found.1.version) ∙ row_in s h l r found.1.here))
    (cases_lt (shows_of s.kind h g (cell_key c n)) 1)
  where
    absent_cell : (o : Option Row) → ((r : Row) → o ≡ Some r → is_whole s.kind h g r ≡ false) → if_whole s h g o ≡ None
    absent_cell None off = refl
    absent_cell (Some r) off = ap (λ (b : Bool). cond b (Some r) None) (off r refl)
