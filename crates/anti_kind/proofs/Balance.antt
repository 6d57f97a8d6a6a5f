-- Each entry of a store adds what its call needs to what is held and owed together.
use Rattle.std.proofs.Common.{◌≡◌, ℕ, ◌+◌, ◌*◌, Bool, true, false, cond, ◌&&◌, List, [], ◌∷◌, ◌++◌, length, refl, sym, ap, ◌∙◌, arith}
use Rattle.std.proofs.lemmas.Bool.{and_parts}
use Rattle.anti_ids.specs.declared.id.WriteId.{WriteId}
use Rattle.anti_kind.specs.Kinds.{facts_of}
use Rattle.anti_kind.specs.declared.call.Call.{Call}
use Rattle.anti_kind.specs.declared.call.Call.TheVariants.{Write, Read, Scan, Poll, Look, Ship, Again, Pull, Repull, Ack, Nack, Post, Take, Repost, TakeReply}
use Rattle.anti_kind.specs.declared.call.Reply.{Reply}
use Rattle.anti_kind.specs.declared.entry.Entry.{Entry}
use Rattle.anti_kind.specs.Stored.{parts_of}
use Rattle.anti_kind.specs.Store.{Store, is_pull, is_out, store_ready, store_due, store_need, owed_shipments, outs}
use Rattle.anti_kind.specs.Objects.{store, weight, held, owed, need, Follows, IsLegal}
use Rattle.anti_kind.specs.Starts.{IsStore}
use Rattle.anti_kind.proofs.Histories.{held_more, fits_number}
use Rattle.anti_kind.proofs.Rows.{is_write, is_shipping}
use Rattle.anti_kind.proofs.Overs.{fitting}
use Rattle.anti_kind.proofs.Units.{owed_other, owed_write, owed_ship}
use Rattle.anti_kind.proofs.Handed.{settles_by, outs_other, outs_write, outs_pull, outs_ack, outs_nack}

-- the messages that are out, where messages are tried
abbrev owed_messages : Store → List Entry → ℕ
owed_messages s h = cond (facts_of s.kind).tried (outs h) 0

messages_other : (s : Store) (h : List Entry) (e : Entry) → is_write e.call ≡ false → is_pull e.call ≡ false → settles_by e.call ≡ false → owed_messages s (h ++ e ∷ []) ≡ owed_messages s h
messages_other s h e writes pulling settling = ap (λ (n : ℕ). cond (facts_of s.kind).tried n 0) (outs_other h e writes pulling settling)

messages_write : (s : Store) (h : List Entry) (e : Entry) (key value : List ℕ) (lineage : List WriteId) → IsLegal (store s) h → Follows (store s) h e → e.call ≡ Write key value lineage → owed_messages s (h ++ e ∷ []) ≡ owed_messages s h
messages_write s h e key value lineage l f is = by_kind (facts_of s.kind).tried refl where
  by_kind : (b : Bool) → (facts_of s.kind).tried ≡ b → owed_messages s (h ++ e ∷ []) ≡ owed_messages s h
  by_kind true queue = ap (λ (n : ℕ). cond (facts_of s.kind).tried n 0) (outs_write s queue h e key value lineage l f is)
  by_kind false other = ap (λ (b : Bool). cond b (outs (h ++ e ∷ [])) 0) other ∙ sym (ap (λ (b : Bool). cond b (outs h) 0) other)

messages_pull : (s : Store) (h : List Entry) (e : Entry) (n : ℕ) → IsLegal (store s) h → Follows (store s) h e → e.call ≡ Pull n → 1 + owed_messages s (h ++ e ∷ []) ≡ owed_messages s h + cond (facts_of s.kind).tried 2 1
messages_pull s h e n l f is = by_kind (facts_of s.kind).tried refl where
  by_kind : (b : Bool) → (facts_of s.kind).tried ≡ b → 1 + owed_messages s (h ++ e ∷ []) ≡ owed_messages s h + cond (facts_of s.kind).tried 2 1
  by_kind true queue =
      let more : outs (h ++ e ∷ []) ≡ outs h + 1 = outs_pull s queue h e n l f is in
      let now : owed_messages s (h ++ e ∷ []) ≡ outs (h ++ e ∷ []) = ap (λ (b : Bool). cond b (outs (h ++ e ∷ [])) 0) queue in
      let was : owed_messages s h ≡ outs h = ap (λ (b : Bool). cond b (outs h) 0) queue in
      let two : cond {A = ℕ} (facts_of s.kind).tried 2 1 ≡ 2 = ap (λ (b : Bool). cond {A = ℕ} b 2 1) queue in
      omega arith
  by_kind false other =
      let now : owed_messages s (h ++ e ∷ []) ≡ 0 = ap (λ (b : Bool). cond b (outs (h ++ e ∷ [])) 0) other in
      let was : owed_messages s h ≡ 0 = ap (λ (b : Bool). cond b (outs h) 0) other in
      let one : cond {A = ℕ} (facts_of s.kind).tried 2 1 ≡ 1 = ap (λ (b : Bool). cond {A = ℕ} b 2 1) other in
      omega arith

module _ (s : Store) (h : List Entry) (e : Entry) (l : IsLegal (store s) h) (f : Follows (store s) h e) where
  -- what was ready was an Ack or Nack of a queue
  settling_queue : (c : Call) (u : ℕ) → e.call ≡ c → store_ready s h c ≡ ((facts_of s.kind).tried && is_out h u) → (facts_of s.kind).tried ≡ true
  settling_queue c u is says = (and_parts (facts_of s.kind).tried (is_out h u) (sym says ∙ ap (λ (x : Call). store_ready s h x) (sym is) ∙ f.is_ready)).0

  held_by : (c : Call) → e.call ≡ c → held (h ++ e ∷ []) ≡ held h + weight (store_due s h c)
  held_by c is = held_more h e ∙ ap (λ (r : Reply). held h + weight r) (f.reply ∙ ap (λ (x : Call). store_due s h x) is)

  need_by : (c : Call) → e.call ≡ c → need (store s) h e.call ≡ store_need s h c
  need_by c is = ap (λ (x : Call). store_need s h x) is

  never : (c : Call) → e.call ≡ c → store_ready s h c ≡ false → ⊥
  never c is off = let on : store_ready s h c ≡ true = ap (λ (x : Call). store_ready s h x) (sym is) ∙ f.is_ready in cc

  abbrev Adds : Type 0
  Adds = held (h ++ e ∷ []) + owed (store s) (h ++ e ∷ []) ≡ held h + owed (store s) h + need (store s) h e.call

  -- a call that writes, ships, hands out and settles nothing
  plainly : (c : Call) → e.call ≡ c → is_write c ≡ false → is_shipping c ≡ false → is_pull c ≡ false → settles_by c ≡ false → weight (store_due s h c) ≡ store_need s h c → Adds
  plainly c is writes ships pulling settling same =
      let a : owed_shipments s (h ++ e ∷ []) ≡ owed_shipments s h = owed_other s h e (ap is_write is ∙ writes) (ap is_shipping is ∙ ships) in
      let b : owed_messages s (h ++ e ∷ []) ≡ owed_messages s h = messages_other s h e (ap is_write is ∙ writes) (ap is_pull is ∙ pulling) (ap settles_by is ∙ settling) in
      let w : held (h ++ e ∷ []) ≡ held h + weight (store_due s h c) = held_by c is in
      let n : need (store s) h e.call ≡ store_need s h c = need_by c is in
      omega arith

  settled : (u : ℕ) (c : Call) → e.call ≡ c → is_write c ≡ false → is_shipping c ≡ false → weight (store_due s h c) ≡ 1 → store_need s h c ≡ 0 → (facts_of s.kind).tried ≡ true → outs h ≡ outs (h ++ e ∷ []) + 1 → Adds
  settled u c is writes ships one none queue less =
      let a : owed_shipments s (h ++ e ∷ []) ≡ owed_shipments s h = owed_other s h e (ap is_write is ∙ writes) (ap is_shipping is ∙ ships) in
      let now : owed_messages s (h ++ e ∷ []) ≡ outs (h ++ e ∷ []) = ap (λ (b : Bool). cond b (outs (h ++ e ∷ [])) 0) queue in
      let was : owed_messages s h ≡ outs h = ap (λ (b : Bool). cond b (outs h) 0) queue in
      let w : held (h ++ e ∷ []) ≡ held h + weight (store_due s h c) = held_by c is in
      let n : need (store s) h e.call ≡ store_need s h c = need_by c is in
      omega arith

  -- Held and owed after an entry are what they were before and what its call needed.
  pub store_units : IsStore s → Adds
  store_units sane = by_call e.call refl where
    by_call : (c : Call) → e.call ≡ c → Adds
    by_call (Write key value lineage) is =
        let a : owed_shipments s (h ++ e ∷ []) ≡ owed_shipments s h + length s.regions * parts_of s.kind value = owed_write s h e key value lineage l f is in
        let b : owed_messages s (h ++ e ∷ []) ≡ owed_messages s h = messages_write s h e key value lineage l f is in
        let w : held (h ++ e ∷ []) ≡ held h + 1 = held_by (Write key value lineage) is in
        let n : need (store s) h e.call ≡ store_need s h (Write key value lineage) = need_by (Write key value lineage) is in
        let fit = fitting s h key value lineage (omega (arith, n, fits_number (store s) h e f)) in
        omega (arith, fit.1)
    by_call (Ship g v p) is =
        let a : owed_shipments s h ≡ owed_shipments s (h ++ e ∷ []) + 1 = owed_ship s h e g v p sane l f is in
        let b : owed_messages s (h ++ e ∷ []) ≡ owed_messages s h = messages_other s h e (ap is_write is) (ap is_pull is) (ap settles_by is) in
        let w : held (h ++ e ∷ []) ≡ held h + 1 = held_by (Ship g v p) is in
        let n : need (store s) h e.call ≡ 0 = need_by (Ship g v p) is in
        omega arith
    by_call (Pull m) is =
        let a : owed_shipments s (h ++ e ∷ []) ≡ owed_shipments s h = owed_other s h e (ap is_write is) (ap is_shipping is) in
        let b : 1 + owed_messages s (h ++ e ∷ []) ≡ owed_messages s h + cond (facts_of s.kind).tried 2 1 = messages_pull s h e m l f is in
        let w : held (h ++ e ∷ []) ≡ held h + 1 = held_by (Pull m) is in
        let n : need (store s) h e.call ≡ cond (facts_of s.kind).tried 2 1 = need_by (Pull m) is in
        omega arith
    by_call (Ack u) is = let queue : (facts_of s.kind).tried ≡ true = settling_queue (Ack u) u is refl in settled u (Ack u) is refl refl refl refl queue (outs_ack s queue h e u l f is)
    by_call (Nack u) is = let queue : (facts_of s.kind).tried ≡ true = settling_queue (Nack u) u is refl in settled u (Nack u) is refl refl refl refl queue (outs_nack s queue h e u l f is)
    by_call (Post m) is = absurd (never (Post m) is refl)
    by_call (Take n) is = absurd (never (Take n) is refl)
    by_call (Repost n) is = absurd (never (Repost n) is refl)
    by_call (TakeReply n) is = absurd (never (TakeReply n) is refl)
    by_call (Read g k) is = plainly (Read g k) is refl refl refl refl refl
    by_call (Scan g prefix) is = plainly (Scan g prefix) is refl refl refl refl refl
    by_call (Poll g k) is = plainly (Poll g k) is refl refl refl refl refl
    by_call (Look g ids dry) is = plainly (Look g ids dry) is refl refl refl refl refl
    by_call (Again g v p) is = plainly (Again g v p) is refl refl refl refl refl
    by_call (Repull m v) is = plainly (Repull m v) is refl refl refl refl refl
