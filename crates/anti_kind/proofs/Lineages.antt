-- Lineages that are kept beside writes: of the store itself they hold only what was written before.
use Rattle.std.proofs.Common.{◌≡◌, ℕ, zero, suc, ◌+◌, ◌<◌, ◌≤◌, true, List, [], ◌∷◌, ◌++◌, length, get_or, All, refl, sym, ap, subst, ◌∙◌, append_assoc, append-nil, length-append, arith}
use Rattle.std.proofs.lemmas.List.{get_or-append-add}
use Rattle.std.proofs.lemmas.List.Elements.{All-append, All-weaker}
use Rattle.anti_ids.specs.declared.id.WriteId.{WriteId}
use Rattle.anti_kind.specs.declared.call.Call.{Call}
use Rattle.anti_kind.specs.declared.call.Call.TheVariants.{Write}
use Rattle.anti_kind.specs.declared.call.Reply.{Reply}
use Rattle.anti_kind.specs.declared.call.Reply.TheVariants.{Written}
use Rattle.anti_kind.specs.declared.entry.Entry.{Entry}
use Rattle.anti_kind.specs.declared.row.Row.{Row}
use Rattle.anti_kind.specs.Stored.{stored, wrote, rows}
use Rattle.anti_kind.specs.Store.{Store, is_written}
use Rattle.anti_kind.specs.Objects.{store, Follows, IsLegal}
use Rattle.anti_kind.specs.Laws.{IsOwn, OwnAfter, OwnIdsWritten}
use Rattle.anti_kind.proofs.Histories.{by_entries, legal_more}
use Rattle.anti_kind.proofs.Rows.{rows_more, version_at}
use Rattle.anti_kind.proofs.Showing.{row_written, written_stays}

-- The premise, entry by entry and by splits.

own_split : (s : Store) (h xs ys : List Entry) → OwnAfter s h (xs ++ ys) → OwnAfter s h xs × OwnAfter s (h ++ xs) ys
own_split s h [] ys own = (tt, subst (λ (zs : List Entry). OwnAfter s zs ys) (sym (append-nil h)) own)
own_split s h (x ∷ xs) ys own =
    let both : OwnAfter s (h ++ x ∷ []) xs × OwnAfter s ((h ++ x ∷ []) ++ xs) ys = own_split s (h ++ x ∷ []) xs ys own.1 in
    ((own.0, both.0), subst (λ (zs : List Entry). OwnAfter s zs ys) (append_assoc h (x ∷ []) xs) both.1)

own_from : (s : Store) (h rest : List Entry) → OwnIdsWritten s (h ++ rest) → OwnAfter s h rest
own_from s h [] own = tt
own_from s h (e ∷ rest) own =
    (own h e rest refl, own_from s (h ++ e ∷ []) rest (subst (OwnIdsWritten s) (sym (append_assoc h (e ∷ []) rest)) own))

pub own_after : (s : Store) (h : List Entry) → OwnIdsWritten s h → OwnAfter s [] h
own_after s h own = own_from s [] h own

-- The lineage that is kept beside a write has, of the store itself, only versions that were written earlier.

abbrev pub IsEarlier : Store → List Entry → Row → Type 0
IsEarlier s h r = All (λ id. id.store ≡ s.number → (id.version < r.version) × (is_written h id ≡ true)) r.lineage

earlier_stays : (s : Store) (h rest : List Entry) (r : Row) → IsEarlier s h r → IsEarlier s (h ++ rest) r
earlier_stays s h rest r was i d short same = let both = was i d short same in (both.0, written_stays h rest (get_or r.lineage i d) both.1)

wrote_lineage : (c : Call) (reply : Reply) → All (λ r. r.lineage ≡ stored c reply) (wrote c reply)
wrote_lineage (Write name value lineage) (Written key version over) zero d short = refl
wrote_lineage (Write name value lineage) (Written key version over) (suc k) d short = absurd (omega arith)
wrote_lineage _ _ k d short = absurd (omega arith)

-- the row that an entry adds has the next version
wrote_next : (s : Store) (h : List Entry) (e : Entry) → IsLegal (store s) h → Follows (store s) h e → (k : ℕ) (d : Row) → k < length (wrote e.call e.reply) → length (rows h) < (get_or (wrote e.call e.reply) k d).version
wrote_next s h e l f k d short =
    let more : rows (h ++ e ∷ []) ≡ rows h ++ wrote e.call e.reply = rows_more h e in
    let at : get_or (rows (h ++ e ∷ [])) (length (rows h) + k) d ≡ get_or (wrote e.call e.reply) k d =
    ap (λ (rs : List Row). get_or rs (length (rows h) + k) d) more ∙ get_or-append-add (rows h) (wrote e.call e.reply) k d in
    let place : (get_or (rows (h ++ e ∷ [])) (length (rows h) + k) d).version ≡ length (rows h) + k + 1 =
    version_at s (h ++ e ∷ []) (legal_more (store s) h e l f) (length (rows h) + k) d (omega (arith, ap (λ (rs : List Row). length rs) more, length-append (rows h) (wrote e.call e.reply))) in
    omega (arith, ap (λ (y : Row). y.version) at)

earlier_new : (s : Store) (h : List Entry) (e : Entry) → IsLegal (store s) h → Follows (store s) h e → IsOwn s h e → All (IsEarlier s (h ++ e ∷ [])) (wrote e.call e.reply)
earlier_new s h e l f own k d short i x within same =
    let lineage : (get_or (wrote e.call e.reply) k d).lineage ≡ stored e.call e.reply = wrote_lineage e.call e.reply k d short in
    let here : i < length (stored e.call e.reply) = omega (arith, within, ap (λ (ids : List WriteId). length ids) lineage) in
    let is : get_or (get_or (wrote e.call e.reply) k d).lineage i x ≡ get_or (stored e.call e.reply) i x = ap (λ (ids : List WriteId). get_or ids i x) lineage in
    let old : is_written h (get_or (stored e.call e.reply) i x) ≡ true = own i x here (ap (λ (id : WriteId). id.store) (sym is) ∙ same) in
    let old' : is_written h (get_or (get_or (wrote e.call e.reply) k d).lineage i x) ≡ true = ap (is_written h) is ∙ old in
    let version : (get_or (get_or (wrote e.call e.reply) k d).lineage i x).version ≤ length (rows h) = (row_written s h l (get_or (get_or (wrote e.call e.reply) k d).lineage i x) old').1.within in
    (omega (arith, version, wrote_next s h e l f k d short), written_stays h (e ∷ []) (get_or (get_or (wrote e.call e.reply) k d).lineage i x) old')

pub earlier : (s : Store) (h : List Entry) → IsLegal (store s) h → OwnAfter s [] h → All (IsEarlier s h) (rows h)
earlier s h l own = by_entries (store s) (λ k. OwnAfter s [] k → All (IsEarlier s k) (rows k)) (λ none k d short. absurd (omega arith)) step h l own where
  step : (k : List Entry) (e : Entry) → IsLegal (store s) k → Follows (store s) k e → (OwnAfter s [] k → All (IsEarlier s k) (rows k)) → OwnAfter s [] (k ++ e ∷ []) → All (IsEarlier s (k ++ e ∷ [])) (rows (k ++ e ∷ []))
  step k e legal f was all =
      let both : OwnAfter s [] k × OwnAfter s k (e ∷ []) = own_split s [] k (e ∷ []) all in
      let old : All (IsEarlier s (k ++ e ∷ [])) (rows k) = All-weaker (IsEarlier s k) (IsEarlier s (k ++ e ∷ [])) (earlier_stays s k (e ∷ [])) (rows k) (was both.0) in
      subst (All (IsEarlier s (k ++ e ∷ []))) (sym (rows_more k e)) (All-append (IsEarlier s (k ++ e ∷ [])) (rows k) (wrote e.call e.reply) old (earlier_new s k e legal f both.1.0))
