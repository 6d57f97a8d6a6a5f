-- Orders of a worked trace: two processes write, and a third reads the key `k`, the key `x`, a cell that was stored with the ids of `x` and
-- of a later write to `k`, and `k` once more. Here is what the places of the trace hold.
use Rattle.std.proofs.Common.{◌≡◌, ℕ, zero, suc, ◌++◌, true, false, List, [], ◌∷◌, length, length-append, Contains, Some, slice_get, refl, sym, ap, ◌∙◌, subst, inl, inr, arith}
use Rattle.std.specs.Prelude.{codes}
use Rattle.std.specs.List.{list_any}
use Rattle.anti_ids.specs.Ids.{has_id, is_id}
use Rattle.anti_ids.specs.declared.id.WriteId.{WriteId}
use Rattle.anti_ids.proofs.IdLemmas.{same_id}
use Rattle.anti_kind.specs.declared.entry.Entry.{Entry}
use Rattle.anti_kind.proofs.Rows.{or_false}
use Rattle.anti_lang.specs.Program.{Block}
use Rattle.anti_lang.proofs.PlainLemmas.{block_again}
use Rattle.anti_app.specs.declared.app.App.{App}
use Rattle.law_causal.specs.Causal.{program}
use Rattle.law_causal.specs.Words.{brings, wrote}
use Rattle.law_causal.specs.Reads.{is_at, places}
use Rattle.law_causal.proofs.Stores.{IsWrite, write_parts}
use Rattle.law_causal.proofs.WorkedConcurrent.{app, read, read_x, reader_body, trace, write_u as entry_u, write_v as entry_v, write_x as entry_x}
use Rattle.law_causal.proofs.WorkedForms.{carried_with}
use Rattle.law_serial.specs.Order.{listing, order_of, writes_at}
use Rattle.law_serial.specs.Causes.{IsChain}
use Rattle.law_serial.specs.Serial.{IsLast, IsSerial, WritesNone, id_of, version_shown}

-- the writes: of `k`, of `x`, of `k` once more, and of the cell
abbrev write_v : ℕ
write_v = 3

abbrev write_x : ℕ
write_x = 4

abbrev write_u : ℕ
write_u = 5

abbrev write_cell : ℕ
write_cell = 7

-- the reads: of `k`, which shows the earlier write, of `x`, which shows none, of the cell, and of `k`, which shows the later write
abbrev read_v : ℕ
read_v = 8

abbrev read_none : ℕ
read_none = 11

abbrev read_cell : ℕ
read_cell = 13

abbrev read_again : ℕ
read_again = 17

abbrev all_reads : List ℕ
all_reads = read_v ∷ read_none ∷ read_cell ∷ read_again ∷ []

-- ---- orders

-- the order of reads by a process, where this is its body
abbrev pub order_with : App → List Entry → List ℕ → Block → List ℕ
order_with app trace reads body =
    let past : ℕ → Entry → List WriteId = λ r e. carried_with app trace r e body ++ brings app e in
    listing (writes_at trace) (λ r i. is_at (λ e. is_at (λ a. list_any (λ w. has_id w (past r e)) (wrote a)) trace i) trace r) (places trace) reads
    (λ i. false)

-- all writes, in the order of the trace
of_none : order_of app trace [] ≡ write_v ∷ write_x ∷ write_u ∷ write_cell ∷ []
of_none = refl

-- first the write that the read shows, then the read, and then all other writes
of_one : order_of app trace (read_v ∷ []) ≡ write_v ∷ read_v ∷ write_x ∷ write_u ∷ write_cell ∷ []
of_one = ap (order_with app trace (read_v ∷ [])) (block_again reader_body)

-- The write of `x` comes behind the read that does not show it. It comes before the read of the cell, which was stored with its id.
of_all : order_of app trace all_reads
    ≡ write_v ∷ read_v ∷ read_none ∷ write_x ∷ write_u ∷ write_cell ∷ read_cell ∷ read_again ∷ []
of_all = ap (order_with app trace all_reads) (block_again reader_body)

-- ---- what reads show

shows_earlier : version_shown read.reply (codes "k") ≡ 1
shows_earlier = refl

-- a key without a write, and one that is not shown
shows_none : version_shown read_x.reply (codes "x") ≡ 0
shows_none = refl

shows_no_other : version_shown read.reply (codes "x") ≡ 0
shows_no_other = refl

-- each read is causally before the next
chain : IsChain trace (read_v ∷ read_none ∷ [])
chain = (program read read_x refl refl (record { before = omega arith; process = refl; actor = refl; span = refl }), tt)

-- ---- the last write

abbrev both : List ℕ
both = write_v ∷ write_u ∷ []

-- of the two writes to `k` the later one is the last
last : IsLast trace both 0 (codes "k") 3
last = inr (record {
  front = write_v ∷ [];
  place = write_u;
  rest = [];
  cut = refl;
  entry = entry_u;
  there = refl;
  wrote = refl;
  none_later = λ v w. absurd (omega (arith, w.in_list.1));
})

-- and the earlier one is not
not_the_earlier : IsLast trace both 0 (codes "k") 1 → ⊥
not_the_earlier (inl (never, none)) = omega (arith, never)
not_the_earlier (inr l) = by_front l.front l.place l.rest l.cut l.entry l.there l.wrote l.none_later
  where
    by_front : (front : List ℕ) (place : ℕ) (rest : List ℕ) → both ≡ front ++ place ∷ rest → (e : Entry) → slice_get trace place ≡ Some e
        → has_id (id_of 0 (codes "k") 1) (wrote e) ≡ true → WritesNone trace rest 0 (codes "k") → ⊥
    by_front [] place rest cut e at has none =
        let behind : write_u ∷ [] ≡ rest = cc in
        none 3 (record {
          place = write_u;
          entry = entry_u;
          in_list = subst (λ (xs : List ℕ). Contains xs write_u) behind (0, omega arith, refl);
          there = refl;
          wrote = refl;
        })
    by_front (f ∷ []) place rest cut e at has none =
        let here : write_u ≡ place = cc in
        let there : slice_get trace write_u ≡ Some e = ap (slice_get trace) here ∙ at in
        let same : entry_u ≡ e = cc in
        let its : has_id (id_of 0 (codes "k") 1) (wrote entry_u) ≡ true =
        ap (λ (x : Entry). has_id (id_of 0 (codes "k") 1) (wrote x)) same ∙ has in
        absurd (cc)
    by_front (f ∷ g ∷ more) place rest cut e at has none =
        let count : length both ≡ length (f ∷ g ∷ (more ++ place ∷ rest)) = ap length cut in
        omega (arith, count, length-append more (place ∷ rest))

-- In another order the earlier write would be the last, though its version is not the greatest.
last_of_others : IsLast trace (write_u ∷ write_v ∷ []) 0 (codes "k") 1
last_of_others = inr (record {
  front = write_u ∷ [];
  place = write_v;
  rest = [];
  cut = refl;
  entry = entry_v;
  there = refl;
  wrote = refl;
  none_later = λ v w. absurd (omega (arith, w.in_list.1));
})

-- where no write to a key stands, the version is 0
none_to_x : IsLast trace both 0 (codes "x") 0
none_to_x = inl (
  refl,
  λ v w. each_of (λ i. (e : Entry) → slice_get trace i ≡ Some e → has_id (id_of 0 (codes "x") v) (wrote e) ≡ true → ⊥)
      (λ e at has. not_of_k v 1 entry_v e (let same : entry_v ≡ e = cc in same) refl has)
      (λ e at has. not_of_k v 3 entry_u e (let same : entry_u ≡ e = cc in same) refl has)
      w.place w.in_list w.entry w.there w.wrote,
)
  where
    each_of : (P : ℕ → Type 0) → P write_v → P write_u → (i : ℕ) → Contains both i → P i
    each_of P p q i (zero, short, is) = subst P is p
    each_of P p q i (suc zero, short, is) = subst P is q
    each_of P p q i (suc (suc k), short, is) = absurd (omega (arith, short))

    not_of_k : (v n : ℕ) (a e : Entry) → a ≡ e → wrote a ≡ id_of 0 (codes "k") n ∷ [] → has_id (id_of 0 (codes "x") v) (wrote e) ≡ true → ⊥
    not_of_k v n a e same is has =
        let its : WriteId = id_of 0 (codes "x") v in
        let own : WriteId = id_of 0 (codes "k") n in
        let among : has_id its (own ∷ []) ≡ true = ap (has_id its) (sym is ∙ ap (λ (x : Entry). wrote x) same) ∙ has in
        let keys : codes "x" ≡ codes "k" = ap (λ (x : WriteId). x.key) (same_id its own (sym (or_false (is_id its own)) ∙ among)) in
        absurd (cc)

-- ---- what is no order

-- all writes first: the read of `x` would show the write of it
writes_first : IsSerial trace all_reads
    (write_v ∷ write_x ∷ write_u ∷ write_cell ∷ read_v ∷ read_none ∷ read_cell ∷ read_again ∷ []) → ⊥
writes_first s =
    let front : List ℕ = write_v ∷ write_x ∷ write_u ∷ write_cell ∷ read_v ∷ [] in
    elim (s.explains front read_none (read_cell ∷ read_again ∷ []) refl (1, omega arith, refl) read_x refl (codes "x") refl) [
      | inl none ↦ none.1 2 (record { place = write_x; entry = entry_x; in_list = (1, omega arith, refl); there = refl; wrote = refl })
      | inr l ↦ no_version l.entry l.wrote
    ]
  where
    -- no write has the version 0
    no_version : (e : Entry) → has_id (id_of 0 (codes "x") 0) (wrote e) ≡ true → ⊥
    no_version e has =
        let it : IsWrite e.object e.call e.reply (id_of 0 (codes "x") 0) =
        write_parts e.object e.call e.reply (id_of 0 (codes "x") 0) has in
        let is : 0 ≡ it.version = ap (λ (w : WriteId). w.version) it.id in
        omega (arith, is, it.some)

-- a write is left out
left_out : IsSerial trace (read_v ∷ []) (write_v ∷ read_v ∷ write_x ∷ write_u ∷ []) → ⊥
left_out s = not_there ((s.members write_cell).1 (inl refl))
  where
    not_there : Contains (write_v ∷ read_v ∷ write_x ∷ write_u ∷ []) write_cell → ⊥
    not_there (zero, short, is) = omega (arith, is)
    not_there (suc zero, short, is) = omega (arith, is)
    not_there (suc (suc zero), short, is) = omega (arith, is)
    not_there (suc (suc (suc zero)), short, is) = omega (arith, is)
    not_there (suc (suc (suc (suc k))), short, is) = omega (arith, short)
