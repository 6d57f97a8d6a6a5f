-- The messages of a queue that are out: what each call does to their number.
use Rattle.std.proofs.Common.{◌≡◌, ℕ, ◌+◌, ◌-◌, ◌<◌, ◌≤◌, Bool, true, false, not, cond, ◌&&◌, ◌||◌, List, [], ◌∷◌, ◌++◌, length, get_or, Option, Some, None, count_by, slice_get, refl, sym, ap, ap₂, ◌∙◌, ◌⊎◌, inl, inr, ⊎_elim, ◌==◌, eq-eqb, ne_eqb, eqb-true, length-append, arith, is_some, unwrap_or, option_and_then}
use Rattle.std.proofs.lemmas.List.Sums.{sum_by_push}
use Rattle.std.proofs.lemmas.Bool.{and_parts, not-true, and_left, eqb-false, false_from_ne_true}
use Rattle.anti_ids.specs.declared.id.WriteId.{WriteId}
use Rattle.anti_kind.specs.Kinds.{facts_of}
use Rattle.anti_kind.specs.declared.call.Call.{Call}
use Rattle.anti_kind.specs.declared.call.Call.TheVariants.{Write, Pull, Ack, Nack}
use Rattle.anti_kind.specs.declared.call.Reply.{Reply}
use Rattle.anti_kind.specs.declared.call.Reply.TheVariants.{Pulled}
use Rattle.anti_kind.specs.declared.entry.Entry.{Entry}
use Rattle.anti_kind.specs.declared.row.Row.{Row}
use Rattle.anti_kind.specs.declared.store_kind.Sub.{Sub}
use Rattle.anti_kind.specs.Stored.{wrote, rows, is_whole, is_in}
use Rattle.anti_kind.specs.Store.{Store, is_pull, is_ack, is_nack, gives, pulls, settles, is_out, is_free, next, next_of, store_ready, store_due, outs, absent}
use Rattle.anti_kind.specs.Objects.{store, Follows, IsLegal}
pub use Rattle.anti_kind.proofs.Finding.{Found, find_found}
use Rattle.anti_kind.proofs.Histories.{by_entries}
use Rattle.anti_kind.proofs.Rows.{is_write, or_false, new_row, rows_more, rows_other, rows_write, version_at}
use Rattle.anti_kind.proofs.Sums.{count_same, count_one_less}

pub some_there : (o : Option Row) → is_some o ≡ true → (r : Row) × (o ≡ Some r)
some_there None is = absurd (cc)
some_there (Some r) is = (r, refl)

-- A ready pull of a queue is of a message that is free.

pub record IsHanded (s : Store) (h : List Entry) (e : Entry) (r : Row) (sub : Sub) : Type 0 where
  pub reply : e.reply ≡ Pulled r
  pub found : Found (is_free s h sub) (rows h) r

pub next_found : (s : Store) (h : List Entry) (n : ℕ) (o : Option Sub) (r : Row) → (facts_of s.kind).tried ≡ true → option_and_then (next_of (facts_of s.kind).tried (facts_of s.kind).polled s h n) o ≡ Some r → (sub : Sub) × Found (is_free s h sub) (rows h) r
next_found s h n None r kind is = absurd (cc)
next_found s h n (Some sub) r kind is =
    (sub, find_found (is_free s h sub) (rows h) r (ap (λ (tried : Bool). next_of tried (facts_of s.kind).polled s h n sub) (sym kind) ∙ is))

pub handed : (s : Store) (h : List Entry) (e : Entry) (n : ℕ) → (facts_of s.kind).tried ≡ true → Follows (store s) h e → e.call ≡ Pull n → (r : Row) × (sub : Sub) × IsHanded s h e r sub
handed s h e n queue f is =
    let there : is_some (next s h n) ≡ true = ap (λ (c : Call). store_ready s h c) (sym is) ∙ f.is_ready in
    let some : (r : Row) × (next s h n ≡ Some r) = some_there (next s h n) there in
    let got : (sub : Sub) × Found (is_free s h sub) (rows h) some.0 = next_found s h n (slice_get s.subs n) some.0 queue some.1 in
    (some.0, got.0, record { reply = f.reply ∙ ap (λ (c : Call). store_due s h c) is ∙ ap (λ (o : Option Row). Pulled (unwrap_or o (absent []))) some.1; found = got.1 })

pub free_not_out : (s : Store) (h : List Entry) (sub : Sub) (r : Row) → is_free s h sub r ≡ true → is_out h r.version ≡ false
free_not_out s h sub r free =
    let first = and_parts (is_in sub.channel r) _ free in
    let second = and_parts (is_whole s.kind h sub.region r) _ first.1 in
    let third = and_parts (not (is_out h r.version)) _ second.1 in
    not-true (is_out h r.version) third.0

-- One entry more.

abbrev pub settles_by : Call → Bool
settles_by (Ack version) = true
settles_by (Nack version) = true
settles_by _ = false

pub settles_none : (v : ℕ) (c : Call) → settles_by c ≡ false → (is_ack v c || is_nack v c) ≡ false
settles_none v (Ack version) off = absurd (cc)
settles_none v (Nack version) off = absurd (cc)
settles_none v _ off = refl

module _ (h : List Entry) (e : Entry) where
  pub pulls_more : (v : ℕ) → pulls (h ++ e ∷ []) v ≡ pulls h v + cond (is_pull e.call && gives v e.reply) 1 0
  pulls_more v = sum_by_push (λ (x : Entry). cond (is_pull x.call && gives v x.reply) 1 0) h e

  pub settles_more : (v : ℕ) → settles (h ++ e ∷ []) v ≡ settles h v + cond (is_ack v e.call || is_nack v e.call) 1 0
  settles_more v = sum_by_push (λ (x : Entry). cond (is_ack v x.call || is_nack v x.call) 1 0) h e

  pub pulls_kept : (v : ℕ) → (is_pull e.call && gives v e.reply) ≡ false → pulls (h ++ e ∷ []) v ≡ pulls h v
  pulls_kept v off = let more : pulls (h ++ e ∷ []) v ≡ pulls h v + 0 = pulls_more v ∙ ap (λ (b : Bool). pulls h v + cond b 1 0) off in omega arith

  pub settles_kept : (v : ℕ) → (is_ack v e.call || is_nack v e.call) ≡ false → settles (h ++ e ∷ []) v ≡ settles h v
  settles_kept v off = let more : settles (h ++ e ∷ []) v ≡ settles h v + 0 = settles_more v ∙ ap (λ (b : Bool). settles h v + cond b 1 0) off in omega arith

  pub pulls_up : (v : ℕ) → (is_pull e.call && gives v e.reply) ≡ true → pulls (h ++ e ∷ []) v ≡ pulls h v + 1
  pulls_up v on = pulls_more v ∙ ap (λ (b : Bool). pulls h v + cond b 1 0) on

  pub settles_up : (v : ℕ) → (is_ack v e.call || is_nack v e.call) ≡ true → settles (h ++ e ∷ []) v ≡ settles h v + 1
  settles_up v on = settles_more v ∙ ap (λ (b : Bool). settles h v + cond b 1 0) on

  pub out_kept : (v : ℕ) → (is_pull e.call && gives v e.reply) ≡ false → (is_ack v e.call || is_nack v e.call) ≡ false → is_out (h ++ e ∷ []) v ≡ is_out h v
  out_kept v off off' = ap₂ (λ (m n : ℕ). m == n + 1) (pulls_kept v off) (settles_kept v off')

  rows_longer : length (rows h) ≤ length (rows (h ++ e ∷ []))
  rows_longer = let more : length (rows (h ++ e ∷ [])) ≡ length (rows h) + length (wrote e.call e.reply) = ap length (rows_more h e) ∙ length-append (rows h) (wrote e.call e.reply) in omega arith

-- What was pulled is a row, and was given back or done as often, or once less.
pub record Counted (h : List Entry) (v : ℕ) : Type 0 where
  pub balance : (pulls h v ≡ settles h v) ⊎ (pulls h v ≡ settles h v + 1)
  pub within : 0 < pulls h v → (1 ≤ v) × (v ≤ length (rows h))

counted_kept : (h : List Entry) (e : Entry) (v : ℕ) → Counted h v → (is_pull e.call && gives v e.reply) ≡ false → (is_ack v e.call || is_nack v e.call) ≡ false → Counted (h ++ e ∷ []) v
counted_kept h e v was off off' =
    let a : pulls (h ++ e ∷ []) v ≡ pulls h v = pulls_kept h e v off in
    let b : settles (h ++ e ∷ []) v ≡ settles h v = settles_kept h e v off' in
    let c : length (rows h) ≤ length (rows (h ++ e ∷ [])) = rows_longer h e in
    record {
      balance = ⊎_elim (λ (same : pulls h v ≡ settles h v). inl (omega arith)) (λ (more : pulls h v ≡ settles h v + 1). inr (omega arith)) was.balance;
      within = λ some. let in' : (1 ≤ v) × (v ≤ length (rows h)) = was.within (omega arith) in (in'.0, omega (arith, in'.1));
    }

-- an entry that pulls the row r, which was not out
counted_pull : (s : Store) (h : List Entry) (e : Entry) (n : ℕ) → (facts_of s.kind).tried ≡ true → IsLegal (store s) h → Follows (store s) h e → e.call ≡ Pull n → (v : ℕ) → Counted h v → Counted (h ++ e ∷ []) v
counted_pull s h e n queue l f is v was =
    let got = handed s h e n queue f is in
    let r : Row = got.0 in
    let it : IsHanded s h e r got.1 = got.2 in
    let pulling : (is_pull e.call && gives v e.reply) ≡ (r.version == v) = ap₂ (λ (c : Call) (y : Reply). is_pull c && gives v y) is it.reply in
    let settling : (is_ack v e.call || is_nack v e.call) ≡ false = ap (λ (c : Call). is_ack v c || is_nack v c) is in
    by_version s h e l v was r (free_not_out s h got.1 r it.found.passes) it.found.index (ap (λ (x : Row). x.version) (sym (it.found.at r)) ∙ version_at s h l it.found.index r it.found.within) it.found.within pulling settling (r.version == v) refl
  where
    by_version : (s : Store) (h : List Entry) (e : Entry) → IsLegal (store s) h → (v : ℕ) → Counted h v → (r : Row) → is_out h r.version ≡ false → (i : ℕ) → r.version ≡ i + 1 → i < length (rows h)
        → (is_pull e.call && gives v e.reply) ≡ (r.version == v) → (is_ack v e.call || is_nack v e.call) ≡ false → (b : Bool) → (r.version == v) ≡ b → Counted (h ++ e ∷ []) v
    by_version s h e l v was r out i number within pulling settling true same =
        let eq : r.version ≡ v = eqb-true r.version v same in
        let up : pulls (h ++ e ∷ []) v ≡ pulls h v + 1 = pulls_up h e v (pulling ∙ same) in
        let kept : settles (h ++ e ∷ []) v ≡ settles h v = settles_kept h e v settling in
        let ins : (pulls h v ≡ settles h v + 1) → ⊥ = eqb-false (pulls h v) (settles h v + 1) (ap (is_out h) (sym eq) ∙ out) in
        let more : length (rows h) ≤ length (rows (h ++ e ∷ [])) = rows_longer h e in
        record {
          balance = ⊎_elim (λ (same' : pulls h v ≡ settles h v). inr (omega arith)) (λ (one : pulls h v ≡ settles h v + 1). absurd (ins one)) was.balance;
          within = λ some. (omega arith, omega arith);
        }
    by_version s h e l v was r out i number within pulling settling false same = counted_kept h e v was (pulling ∙ same) settling

-- an entry that gives back or is done with the message of version u, which was out
module _ (h : List Entry) (e : Entry) (u : ℕ) (out : is_out h u ≡ true) (pulling : (v : ℕ) → (is_pull e.call && gives v e.reply) ≡ false) (settling : (v : ℕ) → (is_ack v e.call || is_nack v e.call) ≡ (u == v)) where
  settled_one : (v : ℕ) → Counted h v → (b : Bool) → (u == v) ≡ b → Counted (h ++ e ∷ []) v
  settled_one v was true same =
      let eq : u ≡ v = eqb-true u v same in
      let kept : pulls (h ++ e ∷ []) v ≡ pulls h v = pulls_kept h e v (pulling v) in
      let up : settles (h ++ e ∷ []) v ≡ settles h v + 1 = settles_up h e v (settling v ∙ same) in
      let ins : pulls h v ≡ settles h v + 1 = eqb-true (pulls h v) (settles h v + 1) (ap (is_out h) (sym eq) ∙ out) in
      let in' : (1 ≤ v) × (v ≤ length (rows h)) = was.within (omega arith) in
      let more : length (rows h) ≤ length (rows (h ++ e ∷ [])) = rows_longer h e in
      record { balance = inl (omega arith); within = λ some. (in'.0, omega (arith, in'.1)) }
  settled_one v was false same = counted_kept h e v was (pulling v) (settling v ∙ same)

  pub not_out_then : is_out (h ++ e ∷ []) u ≡ false
  not_out_then =
      let kept : pulls (h ++ e ∷ []) u ≡ pulls h u = pulls_kept h e u (pulling u) in
      let up : settles (h ++ e ∷ []) u ≡ settles h u + 1 = settles_up h e u (settling u ∙ eq-eqb u u refl) in
      let ins : pulls h u ≡ settles h u + 1 = eqb-true (pulls h u) (settles h u + 1) out in
      ne_eqb (pulls (h ++ e ∷ []) u) (settles (h ++ e ∷ []) u + 1) (λ same. absurd (omega (arith, same)))

  pub out_else : (v : ℕ) → (u ≡ v → ⊥) → is_out (h ++ e ∷ []) v ≡ is_out h v
  out_else v differs = out_kept h e v (pulling v) (settling v ∙ ne_eqb u v differs)

pub settle_ready : (s : Store) (h : List Entry) (e : Entry) (c : Call) (u : ℕ) → Follows (store s) h e → e.call ≡ c → store_ready s h c ≡ ((facts_of s.kind).tried && is_out h u) → is_out h u ≡ true
settle_ready s h e c u f is says = (and_parts (facts_of s.kind).tried (is_out h u) (sym says ∙ ap (λ (x : Call). store_ready s h x) (sym is) ∙ f.is_ready)).1

counted_more : (s : Store) → (facts_of s.kind).tried ≡ true → (h : List Entry) (e : Entry) → IsLegal (store s) h → Follows (store s) h e → ((v : ℕ) → Counted h v) → (v : ℕ) → Counted (h ++ e ∷ []) v
counted_more s queue h e l f was v = by_call e.call refl where
  by_call : (c : Call) → e.call ≡ c → Counted (h ++ e ∷ []) v
  by_call (Pull n) is = counted_pull s h e n queue l f is v (was v)
  by_call (Ack u) is =
      settled_one h e u (settle_ready s h e (Ack u) u f is refl) (λ w. ap (λ (c : Call). is_pull c && gives w e.reply) is) (λ w. ap (λ (c : Call). is_ack w c || is_nack w c) is ∙ or_false (u == w)) v (was v) (u == v) refl
  by_call (Nack u) is =
      settled_one h e u (settle_ready s h e (Nack u) u f is refl) (λ w. ap (λ (c : Call). is_pull c && gives w e.reply) is) (λ w. ap (λ (c : Call). is_ack w c || is_nack w c) is) v (was v) (u == v) refl
  by_call _ is = counted_kept h e v (was v) (ap (λ (c : Call). is_pull c && gives v e.reply) is) (ap (λ (c : Call). is_ack v c || is_nack v c) is)

pub counted : (s : Store) → (facts_of s.kind).tried ≡ true → (h : List Entry) → IsLegal (store s) h → (v : ℕ) → Counted h v
counted s queue h l = by_entries (store s) (λ k. (v : ℕ) → Counted k v) (λ v. record { balance = inl refl; within = λ some. absurd (omega arith) }) (counted_more s queue) h l

-- a message that is out is a row
pub out_within : (s : Store) → (facts_of s.kind).tried ≡ true → (h : List Entry) → IsLegal (store s) h → (v : ℕ) → is_out h v ≡ true → (1 ≤ v) × (v ≤ length (rows h))
out_within s queue h l v out = let ins : pulls h v ≡ settles h v + 1 = eqb-true (pulls h v) (settles h v + 1) out in (counted s queue h l v).within (omega arith)

-- How many are out.

-- a call that hands out, settles and writes nothing
pub outs_other : (h : List Entry) (e : Entry) → is_write e.call ≡ false → is_pull e.call ≡ false → settles_by e.call ≡ false → outs (h ++ e ∷ []) ≡ outs h
outs_other h e writes pulling settling =
    ap (count_by (λ (r : Row). is_out (h ++ e ∷ []) r.version)) (rows_other h e writes)
    ∙ count_same (λ r. is_out (h ++ e ∷ []) r.version) (λ r. is_out h r.version) (rows h)
    (λ k d short. out_kept h e (get_or (rows h) k d).version (and_left (is_pull e.call) (gives (get_or (rows h) k d).version e.reply) pulling) (settles_none (get_or (rows h) k d).version e.call settling))

-- a write adds a message that is not out
pub outs_write : (s : Store) → (facts_of s.kind).tried ≡ true → (h : List Entry) (e : Entry) (key value : List ℕ) (lineage : List WriteId) → IsLegal (store s) h → Follows (store s) h e → e.call ≡ Write key value lineage → outs (h ++ e ∷ []) ≡ outs h
outs_write s queue h e key value lineage l f is =
    let kept : (v : ℕ) → is_out (h ++ e ∷ []) v ≡ is_out h v = λ v. out_kept h e v (ap (λ (c : Call). is_pull c && gives v e.reply) is) (ap (λ (c : Call). is_ack v c || is_nack v c) is) in
    let new : Row = new_row s h key value lineage in
    let fresh : is_out h new.version ≡ false = false_from_ne_true (is_out h new.version) (λ out. let in' : (1 ≤ new.version) × (new.version ≤ length (rows h)) = out_within s queue h l new.version out in omega (arith, in'.1)) in
    ap (count_by (λ (r : Row). is_out (h ++ e ∷ []) r.version)) (rows_write s h e key value lineage f is)
    ∙ sum_by_push (λ (r : Row). cond {A = ℕ} (is_out (h ++ e ∷ []) r.version) 1 0) (rows h) new
    ∙ ap₂ (λ (m n : ℕ). m + n) (count_same (λ r. is_out (h ++ e ∷ []) r.version) (λ r. is_out h r.version) (rows h) (λ k d short. kept (get_or (rows h) k d).version)) (ap (λ (b : Bool). cond {A = ℕ} b 1 0) (kept new.version ∙ fresh))
    ∙ omega arith

-- a pull hands one message out
pub outs_pull : (s : Store) → (facts_of s.kind).tried ≡ true → (h : List Entry) (e : Entry) (n : ℕ) → IsLegal (store s) h → Follows (store s) h e → e.call ≡ Pull n → outs (h ++ e ∷ []) ≡ outs h + 1
outs_pull s queue h e n l f is =
    let got = handed s h e n queue f is in
    let r : Row = got.0 in
    let it : IsHanded s h e r got.1 = got.2 in
    let i : ℕ = it.found.index in
    let pulling : (v : ℕ) → (is_pull e.call && gives v e.reply) ≡ (r.version == v) = λ v. ap₂ (λ (c : Call) (y : Reply). is_pull c && gives v y) is it.reply in
    let settling : (v : ℕ) → (is_ack v e.call || is_nack v e.call) ≡ false = λ v. ap (λ (c : Call). is_ack v c || is_nack v c) is in
    let was : is_out h r.version ≡ false = free_not_out s h got.1 r it.found.passes in
    let number : r.version ≡ i + 1 = ap (λ (x : Row). x.version) (sym (it.found.at r)) ∙ version_at s h l i r it.found.within in
    let kept : settles (h ++ e ∷ []) r.version ≡ settles h r.version = settles_kept h e r.version (settling r.version) in
    let up : pulls (h ++ e ∷ []) r.version ≡ pulls h r.version + 1 = pulls_up h e r.version (pulling r.version ∙ eq-eqb r.version r.version refl) in
    let ins : (pulls h r.version ≡ settles h r.version + 1) → ⊥ = eqb-false (pulls h r.version) (settles h r.version + 1) was in
    let even : pulls h r.version ≡ settles h r.version = ⊎_elim (λ (same : pulls h r.version ≡ settles h r.version). same) (λ (one : pulls h r.version ≡ settles h r.version + 1). absurd (ins one)) (counted s queue h l r.version).balance in
    let now : is_out (h ++ e ∷ []) r.version ≡ true = eq-eqb (pulls (h ++ e ∷ []) r.version) (settles (h ++ e ∷ []) r.version + 1) (omega arith) in
    ap (count_by (λ (x : Row). is_out (h ++ e ∷ []) x.version)) (rows_other h e (ap is_write is))
    ∙ count_one_less (λ x. is_out (h ++ e ∷ []) x.version) (λ x. is_out h x.version) (rows h) i it.found.within
    (λ d. ap (λ (x : Row). is_out (h ++ e ∷ []) x.version) (it.found.at d) ∙ now)
    (λ d. ap (λ (x : Row). is_out h x.version) (it.found.at d) ∙ was)
    (λ k d short differs. out_kept h e (get_or (rows h) k d).version
    (pulling (get_or (rows h) k d).version ∙ ne_eqb r.version (get_or (rows h) k d).version (λ same. differs (omega (arith, same, version_at s h l k d short, number))))
    (settling (get_or (rows h) k d).version))

-- an Ack or Nack settles one that was out
pub outs_settle : (s : Store) → (facts_of s.kind).tried ≡ true → (h : List Entry) (e : Entry) (u : ℕ) → IsLegal (store s) h → is_write e.call ≡ false → is_out h u ≡ true → ((v : ℕ) → (is_pull e.call && gives v e.reply) ≡ false) → ((v : ℕ) → (is_ack v e.call || is_nack v e.call) ≡ (u == v))
    → outs h ≡ outs (h ++ e ∷ []) + 1
outs_settle s queue h e u l writes out pulling settling =
    let in' : (1 ≤ u) × (u ≤ length (rows h)) = out_within s queue h l u out in
    let short : u - 1 < length (rows h) = omega (arith, in'.0, in'.1) in
    let number : (d : Row) → (get_or (rows h) (u - 1) d).version ≡ u = λ d. version_at s h l (u - 1) d short ∙ omega (arith, in'.0) in
    count_one_less (λ x. is_out h x.version) (λ x. is_out (h ++ e ∷ []) x.version) (rows h) (u - 1) short
    (λ d. ap (is_out h) (number d) ∙ out)
    (λ d. ap (is_out (h ++ e ∷ [])) (number d) ∙ not_out_then h e u out pulling settling)
    (λ k d within differs. sym (out_else h e u out pulling settling (get_or (rows h) k d).version (λ same. differs (omega (arith, same, version_at s h l k d within, in'.0)))))
    ∙ ap (λ (rs : List Row). count_by (λ (x : Row). is_out (h ++ e ∷ []) x.version) rs + 1) (sym (rows_other h e writes))

pub outs_ack : (s : Store) → (facts_of s.kind).tried ≡ true → (h : List Entry) (e : Entry) (u : ℕ) → IsLegal (store s) h → Follows (store s) h e → e.call ≡ Ack u → outs h ≡ outs (h ++ e ∷ []) + 1
outs_ack s queue h e u l f is =
    outs_settle s queue h e u l (ap is_write is) (settle_ready s h e (Ack u) u f is refl) (λ w. ap (λ (c : Call). is_pull c && gives w e.reply) is) (λ w. ap (λ (c : Call). is_ack w c || is_nack w c) is ∙ or_false (u == w))

pub outs_nack : (s : Store) → (facts_of s.kind).tried ≡ true → (h : List Entry) (e : Entry) (u : ℕ) → IsLegal (store s) h → Follows (store s) h e → e.call ≡ Nack u → outs h ≡ outs (h ++ e ∷ []) + 1
outs_nack s queue h e u l f is =
    outs_settle s queue h e u l (ap is_write is) (settle_ready s h e (Nack u) u f is refl) (λ w. ap (λ (c : Call). is_pull c && gives w e.reply) is) (λ w. ap (λ (c : Call). is_ack w c || is_nack w c) is)
