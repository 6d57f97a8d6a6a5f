-- What a store wrote and shipped: the effect of one entry, the numbers of the rows, and that only what was written was shipped.
use Rattle.std.proofs.Common.{◌≡◌, ℕ, zero, suc, ◌+◌, ◌<◌, ◌≤◌, Bool, true, false, ◌&&◌, ◌||◌, List, [], ◌∷◌, ◌++◌, length, get_or, Some, None, find, refl, sym, ap, subst, ◌∙◌, append-nil, ◌⊎◌, inl, inr, ⊎_elim, ◌==◌, eq-eqb, ne_eqb, arith, length-append}
use Rattle.std.specs.Prelude.{Contains}
use Rattle.std.proofs.lemmas.List.Concat.{flat_map-append}
use Rattle.std.proofs.lemmas.List.Folds.{list_any-append}
use Rattle.anti_ids.specs.declared.id.WriteId.{WriteId}
use Rattle.anti_kind.specs.declared.call.Call.{Call}
use Rattle.anti_kind.specs.declared.call.Call.TheVariants.{Write, Ship}
use Rattle.anti_kind.specs.declared.call.Reply.{Reply}
use Rattle.anti_kind.specs.declared.call.Reply.TheVariants.{Written}
use Rattle.anti_kind.specs.declared.entry.Entry.{Entry}
use Rattle.anti_kind.specs.declared.row.Row.{Row}
use Rattle.anti_kind.specs.Stored.{stored, wrote, rows, row_of, is_ship, is_shipped}
use Rattle.anti_kind.specs.Store.{Store, key_for, over, store_due}
use Rattle.anti_kind.specs.Objects.{store, held, Follows, IsLegal}
use Rattle.anti_kind.specs.Laws.{IsOfWrite, VersionsGrow}
use Rattle.anti_kind.proofs.Histories.{by_entries, length_held}

abbrev pub is_write : Call → Bool
is_write (Write key value lineage) = true
is_write _ = false

abbrev pub is_shipping : Call → Bool
is_shipping (Ship region version part) = true
is_shipping _ = false

-- the row that a write adds
abbrev pub new_row : Store → List Entry → List ℕ → List ℕ → List WriteId → Row
new_row s h key value lineage = record { key = key_for s.kind h key; version = length (rows h) + 1; value = value; lineage = over s h key lineage }

pub or_false : (b : Bool) → (b || false) ≡ b
or_false true = refl
or_false false = refl

-- One entry more.

pub rows_more : (h : List Entry) (e : Entry) → rows (h ++ e ∷ []) ≡ rows h ++ wrote e.call e.reply
rows_more h e = flat_map-append (λ (x : Entry). wrote x.call x.reply) h (e ∷ []) ∙ ap (λ (xs : List Row). rows h ++ xs) (append-nil (wrote e.call e.reply))

wrote_none : (c : Call) (r : Reply) → is_write c ≡ false → wrote c r ≡ []
wrote_none (Write key value lineage) r off = absurd (cc)
wrote_none _ r off = refl

-- a call that is no write leaves the rows
pub rows_other : (h : List Entry) (e : Entry) → is_write e.call ≡ false → rows (h ++ e ∷ []) ≡ rows h
rows_other h e off = rows_more h e ∙ ap (λ (xs : List Row). rows h ++ xs) (wrote_none e.call e.reply off) ∙ append-nil (rows h)

-- a write adds its row
pub rows_write : (s : Store) (h : List Entry) (e : Entry) (key value : List ℕ) (lineage : List WriteId) → Follows (store s) h e → e.call ≡ Write key value lineage
    → rows (h ++ e ∷ []) ≡ rows h ++ new_row s h key value lineage ∷ []
rows_write s h e key value lineage f is =
    let due : e.reply ≡ store_due s h (Write key value lineage) = f.reply ∙ ap (λ (c : Call). store_due s h c) is in
    rows_more h e ∙ ap (λ (c : Call). rows h ++ wrote c e.reply) is ∙ ap (λ (r : Reply). rows h ++ wrote (Write key value lineage) r) due

-- what is kept beside a write is what was handed in and what the write that it replaces left
pub stored_is_over : (s : Store) (h : List Entry) (e : Entry) (key value : List ℕ) (lineage : List WriteId) → Follows (store s) h e → e.call ≡ Write key value lineage
    → stored e.call e.reply ≡ over s h key lineage
stored_is_over s h e key value lineage f is =
    let due : e.reply ≡ store_due s h (Write key value lineage) = f.reply ∙ ap (λ (c : Call). store_due s h c) is in
    ap (λ (c : Call). stored c e.reply) is ∙ ap (λ (r : Reply). stored (Write key value lineage) r) due

pub shipped_more : (h : List Entry) (e : Entry) (g v p : ℕ) → is_shipped (h ++ e ∷ []) g v p ≡ (is_shipped h g v p || is_ship g v p e.call)
shipped_more h e g v p =
    list_any-append (λ (x : Entry). is_ship g v p x.call) h (e ∷ []) ∙ ap (λ (b : Bool). is_shipped h g v p || b) (or_false (is_ship g v p e.call))

ships_none : (g v p : ℕ) (c : Call) → is_shipping c ≡ false → is_ship g v p c ≡ false
ships_none g v p (Ship region version part) off = absurd (cc)
ships_none g v p _ off = refl

-- what a call does not ship is shipped as before
pub shipped_kept : (h : List Entry) (e : Entry) (g v p : ℕ) → is_ship g v p e.call ≡ false → is_shipped (h ++ e ∷ []) g v p ≡ is_shipped h g v p
shipped_kept h e g v p off = shipped_more h e g v p ∙ ap (λ (b : Bool). is_shipped h g v p || b) off ∙ or_false (is_shipped h g v p)

-- so a call that is no shipment leaves what was shipped
pub shipped_other : (h : List Entry) (e : Entry) (g v p : ℕ) → is_shipping e.call ≡ false → is_shipped (h ++ e ∷ []) g v p ≡ is_shipped h g v p
shipped_other h e g v p off = shipped_kept h e g v p (ships_none g v p e.call off)

pub shipped_ship : (h : List Entry) (e : Entry) (g v p region version part : ℕ) → e.call ≡ Ship region version part
    → is_shipped (h ++ e ∷ []) g v p ≡ (is_shipped h g v p || ((region == g) && ((version == v) && (part == p))))
shipped_ship h e g v p region version part is = shipped_more h e g v p ∙ ap (λ (c : Call). is_shipped h g v p || is_ship g v p c) is

-- Numbers of rows.

-- the rows are numbered from n + 1 on
abbrev pub Numbered : ℕ → List Row → Type 0
Numbered n [] = Unit {0}
Numbered n (r ∷ rest) = (r.version ≡ n + 1) × Numbered (n + 1) rest

numbered_push : (n : ℕ) (rs : List Row) (r : Row) → Numbered n rs → r.version ≡ n + length rs + 1 → Numbered n (rs ++ r ∷ [])
numbered_push n [] r all is = (omega (arith, is), tt)
numbered_push n (x ∷ rest) r all is = (all.0, numbered_push (n + 1) rest r all.1 (omega (arith, is)))

pub numbered_at : (n : ℕ) (rs : List Row) → Numbered n rs → (i : ℕ) (d : Row) → i < length rs → (get_or rs i d).version ≡ n + i + 1
numbered_at n [] all i d short = absurd (omega arith)
numbered_at n (r ∷ rest) all zero d short = omega (arith, all.0)
numbered_at n (r ∷ rest) all (suc i) d short =
    let later : (get_or rest i d).version ≡ n + 1 + i + 1 = numbered_at (n + 1) rest all.1 i d (omega arith) in omega arith

numbered_more : (s : Store) (h : List Entry) (e : Entry) → IsLegal (store s) h → Follows (store s) h e → Numbered 0 (rows h) → Numbered 0 (rows (h ++ e ∷ []))
numbered_more s h e l f all = by_call e.call refl where
  by_call : (c : Call) → e.call ≡ c → Numbered 0 (rows (h ++ e ∷ []))
  by_call (Write key value lineage) is =
      subst (λ (rs : List Row). Numbered 0 rs) (sym (rows_write s h e key value lineage f is))
      (numbered_push 0 (rows h) (new_row s h key value lineage) all (omega arith))
  by_call _ is = subst (λ (rs : List Row). Numbered 0 rs) (sym (rows_other h e (ap is_write is))) all

-- the rows of a legal history are numbered 1, 2, ..
pub rows_numbered : (s : Store) (h : List Entry) → IsLegal (store s) h → Numbered 0 (rows h)
rows_numbered s h l = by_entries (store s) (λ h. Numbered 0 (rows h)) tt (numbered_more s) h l

pub version_at : (s : Store) (h : List Entry) → IsLegal (store s) h → (i : ℕ) (d : Row) → i < length (rows h) → (get_or (rows h) i d).version ≡ i + 1
version_at s h l i d short = let at : (get_or (rows h) i d).version ≡ 0 + i + 1 = numbered_at 0 (rows h) (rows_numbered s h l) i d short in omega arith

-- so the versions of the rows grow
pub versions_grow : (s : Store) → VersionsGrow s
versions_grow s h l i j d less short = omega (arith, version_at s h l i d (omega arith), version_at s h l j d short)

-- Finding a row by its version.

find_at : (n : ℕ) (rs : List Row) → Numbered n rs → (v i : ℕ) (d : Row) → v ≡ n + i + 1 → i < length rs → find (λ r. r.version == v) rs ≡ Some (get_or rs i d)
find_at n [] all v i d is short = absurd (omega arith)
find_at n (r ∷ rest) all v zero d is short = let yes : (r.version == v) ≡ true = eq-eqb r.version v (omega (arith, all.0)) in rw yes refl
find_at n (r ∷ rest) all v (suc i) d is short =
    let off : (r.version == v) ≡ false = ne_eqb r.version v (λ same. omega (arith, all.0)) in
    rw off (find_at (n + 1) rest all.1 v i d (omega arith) (omega arith))

find_none : (n : ℕ) (rs : List Row) → Numbered n rs → (v : ℕ) → (v ≤ n) ⊎ (n + length rs < v) → find (λ r. r.version == v) rs ≡ None
find_none n [] all v out = refl
find_none n (r ∷ rest) all v out =
    let off : (r.version == v) ≡ false = ne_eqb r.version v (λ same. ⊎_elim (λ (low : v ≤ n). omega (arith, all.0)) (λ (high : n + suc (length rest) < v). omega (arith, all.0)) out) in
    rw off (find_none (n + 1) rest all.1 v (⊎_elim (λ (low : v ≤ n). inl (omega arith)) (λ (high : n + suc (length rest) < v). inr (omega arith)) out))

-- the row of a version stands at its place
pub row_of_at : (s : Store) (h : List Entry) → IsLegal (store s) h → (v i : ℕ) (d : Row) → v ≡ i + 1 → i < length (rows h) → row_of h v ≡ Some (get_or (rows h) i d)
row_of_at s h l v i d is short = find_at 0 (rows h) (rows_numbered s h l) v i d (omega arith) short

pub row_of_none : (s : Store) (h : List Entry) → IsLegal (store s) h → (v : ℕ) → (v ≡ 0) ⊎ (length (rows h) < v) → row_of h v ≡ None
row_of_none s h l v out =
    find_none 0 (rows h) (rows_numbered s h l) v (⊎_elim (λ (low : v ≡ 0). inl (omega arith)) (λ (high : length (rows h) < v). inr (omega arith)) out)

-- each row is that of its version
pub row_in : (s : Store) (h : List Entry) → IsLegal (store s) h → (r : Row) → Contains (rows h) r → IsOfWrite h r
row_in s h l r in' =
    let number : r.version ≡ in'.0 + 1 = ap (λ (x : Row). x.version) (sym in'.2) ∙ version_at s h l in'.0 r in'.1 in
    row_of_at s h l r.version in'.0 r number in'.1 ∙ ap Some in'.2

-- Each row is that of an entry.

wrote_one : (c : Call) (r : Reply) → length (wrote c r) ≤ 1
wrote_one (Write key value lineage) (Written full version over) = omega arith
wrote_one (Write key value lineage) _ = omega arith
wrote_one _ r = omega arith

pub rows_length : (h : List Entry) → length (rows h) ≤ length h
rows_length [] = omega arith
rows_length (e ∷ h) =
    let first : length (wrote e.call e.reply) ≤ 1 = wrote_one e.call e.reply in
    let rest : length (rows h) ≤ length h = rows_length h in
    let both : length (rows (e ∷ h)) ≡ length (wrote e.call e.reply) + length (rows h) = length-append (wrote e.call e.reply) (rows h) in
    omega arith

pub rows_held : (h : List Entry) → length (rows h) ≤ held h
rows_held h = let a : length (rows h) ≤ length h = rows_length h in let b : length h ≤ held h = length_held h in omega arith
