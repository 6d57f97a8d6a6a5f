-- Where what a call hands out and names comes from: rows are those of writes, regions those of replicas, and the ids of a look are of
-- the store.
use Rattle.std.proofs.Common.{◌≡◌, ℕ, Bool, true, false, cond, ◌&&◌, List, [], ◌∷◌, ◌++◌, get_or, filter, Option, Some, None, slice_get, All, refl, sym, ap, subst, ◌∙◌, ◌⊎◌, inl, inr, ⊎_elim, ◌==◌, eqb-true, is_some, unwrap_or, option_and_then}
use Rattle.std.specs.Prelude.{Contains}
use Rattle.std.specs.List.{list_any, list_all, Any}
use Rattle.std.proofs.lemmas.Bool.{and_parts, or_cases, false≢true}
use Rattle.std.proofs.lemmas.List.{get_or_default}
use Rattle.std.proofs.lemmas.List.Elements.{All-nil, All-cons}
use Rattle.std.proofs.lemmas.Option.{slice_get_within, get_or_from_slice_get}
use Rattle.std.proofs.lemmas.List.Folds.{list_any-append, Any-from_list_any}
use Rattle.std.proofs.lemmas.List.Sums.{AllPass-from_list_all}
use Rattle.anti_ids.specs.declared.id.WriteId.{WriteId}
use Rattle.anti_kind.specs.Kinds.{facts_of}
use Rattle.anti_kind.proofs.Cells.{if_whole}
use Rattle.anti_kind.specs.declared.call.Call.{Call}
use Rattle.anti_kind.specs.declared.call.Call.TheVariants.{Read, Scan, Poll, Look, Ship, Again, Pull, Repull}
use Rattle.anti_kind.specs.declared.call.Reply.TheVariants.{Pulled}
use Rattle.anti_kind.specs.declared.entry.Entry.{Entry}
use Rattle.anti_kind.specs.declared.row.Row.{Row}
use Rattle.anti_kind.specs.declared.store_kind.Sub.{Sub}
use Rattle.anti_kind.specs.Stored.{rows, row_of, is_whole, is_in}
use Rattle.anti_kind.specs.Store.{Store, is_replica, absent, shown_row, is_pull_by, gives, is_free, cursor, next_of, next, was_pulled, store_ready, store_due}
use Rattle.anti_kind.specs.Objects.{store, Follows, IsLegal}
use Rattle.anti_kind.specs.Laws.{IsOfWrite, RowsHaveSources, CallsNameOwn}
use Rattle.anti_kind.proofs.Finding.{Found, find_found, filter_contains}
use Rattle.anti_kind.proofs.Histories.{by_entries}
use Rattle.anti_kind.proofs.Rows.{or_false, row_in}
use Rattle.anti_kind.proofs.Handed.{some_there}
use Rattle.anti_kind.proofs.Scans.{all_scanned}
use Rattle.anti_kind.proofs.Shipped.{row_of_kept, ready_shipment, shipped_sound}

-- What a read shows.

-- what is found under a version is the row of a write
row_of_write : (h : List Entry) (v : ℕ) (r : Row) → row_of h v ≡ Some r → IsOfWrite h r
row_of_write h v r is = ap (row_of h) (eqb-true r.version v (find_found (λ (x : Row). x.version == v) (rows h) r is).passes) ∙ is

row_shown : (h : List Entry) (k : List ℕ) (v : ℕ) (o : Option Row) → row_of h v ≡ o → (unwrap_or o (absent k) ≡ absent (unwrap_or o (absent k)).key) ⊎ IsOfWrite h (unwrap_or o (absent k))
row_shown h k v None is = inl refl
row_shown h k v (Some r) is = inr (row_of_write h v r is)

one_shown : (h : List Entry) (r : Row) → (r ≡ absent r.key) ⊎ IsOfWrite h r → All (λ x. (x ≡ absent x.key) ⊎ IsOfWrite h x) (r ∷ [])
one_shown h r is = All-cons (λ (x : Row). (x ≡ absent x.key) ⊎ IsOfWrite h x) r [] is (All-nil (λ (x : Row). (x ≡ absent x.key) ⊎ IsOfWrite h x))

-- What a pull gives.

found_in : {X : Type 0} (p : X → Bool) (xs : List X) (x : X) → Found p xs x → Contains xs x
found_in p xs x f = (f.index, f.within, f.at x)

pub whole_given : (s : Store) (h : List Entry) (g : ℕ) (o : Option Row) (r : Row) → if_whole s h g o ≡ Some r → o ≡ Some r
whole_given s h g None r is = absurd (cc)
whole_given s h g (Some x) r is = by_whole (is_whole s.kind h g x) is where
  by_whole : (b : Bool) → cond b (Some x) None ≡ Some r → Some x ≡ Some r
  by_whole true same = same
  by_whole false same = absurd (cc)

got_in : {X : Type 0} (xs : List X) (i : ℕ) (x : X) → slice_get xs i ≡ Some x → Contains xs x
got_in xs i x is = (i, slice_get_within xs i x is, get_or_from_slice_get xs i x x is)

next_in : (tried polled : Bool) (s : Store) (h : List Entry) (n : ℕ) (sub : Sub) (r : Row) → next_of tried polled s h n sub ≡ Some r → Contains (rows h) r
next_in true polled s h n sub r is = found_in (is_free s h sub) (rows h) r (find_found (is_free s h sub) (rows h) r is)
next_in false true s h n sub r is =
    let cells : List Row = filter (is_in sub.channel) (rows h) in
    let got : slice_get cells (cursor h n) ≡ Some r = whole_given s h sub.region (slice_get cells (cursor h n)) r is in
    ((filter_contains (is_in sub.channel) (rows h) r).0 (got_in cells (cursor h n) r got)).0
next_in false false s h n sub r is = absurd (cc)

subscribed_in : (s : Store) (h : List Entry) (n : ℕ) (o : Option Sub) (r : Row) → option_and_then (next_of (facts_of s.kind).tried (facts_of s.kind).polled s h n) o ≡ Some r → Contains (rows h) r
subscribed_in s h n None r is = absurd (cc)
subscribed_in s h n (Some sub) r is = next_in (facts_of s.kind).tried (facts_of s.kind).polled s h n sub r is

-- the row that a ready pull gives
record IsGiven (s : Store) (h : List Entry) (n : ℕ) (r : Row) : Type 0 where
  next : next s h n ≡ Some r
  row : IsOfWrite h r

pull_gives : (s : Store) (h : List Entry) → IsLegal (store s) h → (n : ℕ) → is_some (next s h n) ≡ true → (r : Row) × IsGiven s h n r
pull_gives s h l n there =
    let some : (r : Row) × (next s h n ≡ Some r) = some_there (next s h n) there in
    (some.0, record { next = some.1; row = row_in s h l some.0 (subscribed_in s h n (slice_get s.subs n) some.0 some.1) })

-- its reply has the version of that row
pub next_given : (s : Store) (h : List Entry) (e : Entry) → IsLegal (store s) h → Follows (store s) h e → (n : ℕ) → e.call ≡ Pull n
    → (r : Row) → e.reply ≡ Pulled r → next s h n ≡ row_of h r.version
next_given s h e l f n is r given =
    let got : (x : Row) × IsGiven s h n x = pull_gives s h l n (ap (λ (c : Call). store_ready s h c) (sym is) ∙ f.is_ready) in
    let due : Pulled r ≡ Pulled got.0 = sym given ∙ f.reply ∙ ap (λ (c : Call). store_due s h c) is ∙ ap (λ (o : Option Row). Pulled (unwrap_or o (absent []))) got.1.next in
    let same : r ≡ got.0 = cc in
    got.1.next ∙ sym got.1.row ∙ ap (λ (x : Row). row_of h x.version) (sym same)

-- A version that a subscription pulled has its row.

pub pull_of : (n : ℕ) (c : Call) → is_pull_by n c ≡ true → c ≡ Pull n
pull_of n (Pull sub) by = ap Pull (eqb-true sub n by)
pull_of n _ by = absurd (false≢true by)

abbrev PulledThere : List Entry → Type 0
PulledThere h = (n v : ℕ) → was_pulled h n v ≡ true → (r : Row) × (row_of h v ≡ Some r)

pulled_now : (s : Store) (h : List Entry) (e : Entry) → IsLegal (store s) h → Follows (store s) h e → (n v : ℕ) → is_pull_by n e.call ≡ true → gives v e.reply ≡ true → (r : Row) × (row_of h v ≡ Some r)
pulled_now s h e l f n v by given =
    let is : e.call ≡ Pull n = pull_of n e.call by in
    let got : (r : Row) × IsGiven s h n r = pull_gives s h l n (ap (λ (c : Call). store_ready s h c) (sym is) ∙ f.is_ready) in
    let reply : e.reply ≡ Pulled got.0 = f.reply ∙ ap (λ (c : Call). store_due s h c) is ∙ ap (λ (o : Option Row). Pulled (unwrap_or o (absent []))) got.1.next in
    let version : got.0.version ≡ v = eqb-true got.0.version v (ap (gives v) (sym reply) ∙ given) in
    (got.0, ap (row_of h) (sym version) ∙ got.1.row)

pulled_more : (s : Store) (h : List Entry) (e : Entry) → IsLegal (store s) h → Follows (store s) h e → PulledThere h → PulledThere (h ++ e ∷ [])
pulled_more s h e l f was n v on =
    let here : (r : Row) × (row_of h v ≡ Some r) =
    ⊎_elim (was n v)
    (λ (now : list_any (λ (x : Entry). is_pull_by n x.call && gives v x.reply) (e ∷ []) ≡ true).
    let both = and_parts (is_pull_by n e.call) (gives v e.reply) (sym (or_false (is_pull_by n e.call && gives v e.reply)) ∙ now) in
    pulled_now s h e l f n v both.0 both.1)
    (or_cases (was_pulled h n v) _ (sym (list_any-append (λ (x : Entry). is_pull_by n x.call && gives v x.reply) h (e ∷ [])) ∙ on)) in
    (here.0, row_of_kept h e v here.0 here.1)

pub pulled_there : (s : Store) (h : List Entry) → IsLegal (store s) h → PulledThere h
pulled_there s h l = by_entries (store s) PulledThere (λ n v on. absurd (cc)) (pulled_more s) h l

-- Each row that a ready call hands out is that of a write.
pub rows_have_sources : (s : Store) → RowsHaveSources s
rows_have_sources s h (Read g k) l can = one_shown h (shown_row s h g k) (row_shown h k (s.shows h g k) (row_of h (s.shows h g k)) refl)
rows_have_sources s h (Poll g k) l can = one_shown h (shown_row s h g k) (row_shown h k (s.shows h g k) (row_of h (s.shows h g k)) refl)
rows_have_sources s h (Scan g prefix) l can = all_scanned s h l g prefix (λ r. (r ≡ absent r.key) ⊎ IsOfWrite h r) (λ r in' prefixed shown. inr (row_in s h l r in'))
rows_have_sources s h (Pull n) l can =
    let got : (r : Row) × IsGiven s h n r = pull_gives s h l n can in
    subst (λ (o : Option Row). IsOfWrite h (unwrap_or o (absent []))) (sym got.1.next) got.1.row
rows_have_sources s h (Repull n v) l can =
    let got : (r : Row) × (row_of h v ≡ Some r) = pulled_there s h l n v (and_parts (facts_of s.kind).polled (was_pulled h n v) can).1 in
    subst (λ (o : Option Row). IsOfWrite h (unwrap_or o (absent []))) (sym got.1) (row_of_write h v got.0 got.1)
rows_have_sources s h _ l can = tt

-- Regions and ids.

replica_in : (s : Store) (g : ℕ) → is_replica s g ≡ true → Contains s.regions g
replica_in s g is =
    let found : Any (λ (region : ℕ). (region == g) ≡ true) s.regions = Any-from_list_any (λ (region : ℕ). region == g) s.regions is in
    (found.0, found.2, get_or_default s.regions found.0 g found.1 found.2 ∙ found.3 ∙ eqb-true found.1 g found.4)

pub calls_name_own : (s : Store) → CallsNameOwn s
calls_name_own s h (Read g k) l can = replica_in s g (and_parts (facts_of s.kind).keyed (is_replica s g) can).1
calls_name_own s h (Scan g prefix) l can = replica_in s g (and_parts (facts_of s.kind).scanned (is_replica s g) can).1
calls_name_own s h (Poll g k) l can = replica_in s g (and_parts (facts_of s.kind).polled (is_replica s g) can).1
calls_name_own s h (Look g ids dry) l can =
    let first = and_parts (is_replica s g) _ can in
    let own = AllPass-from_list_all (λ (id : WriteId). id.store == s.number) ids (and_parts (list_all (λ (id : WriteId). id.store == s.number) ids) _ first.1).0 in
    (replica_in s g first.0, λ i d short. eqb-true (get_or ids i d).store s.number (own i d short))
calls_name_own s h (Ship g v p) l can = replica_in s g (ready_shipment s h g v p can).shipment.replica
calls_name_own s h (Again g v p) l can = replica_in s g (shipped_sound s h l g v p can).replica
calls_name_own s h _ l can = tt
