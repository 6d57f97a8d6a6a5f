-- What is kept of the messages after one entry more.
use Rattle.std.proofs.Common.{◌≡◌, ℕ, ◌+◌, ◌-◌, ◌<◌, ◌≤◌, Bool, true, false, cond, ◌&&◌, ◌||◌, List, [], ◌∷◌, ◌++◌, length, get_or, set, refl, sym, ap, ap₂, subst, ◌∙◌, inr, ⊎_elim, ◌==◌, eq-eqb, ne_eqb, arith}
use Rattle.std.proofs.lemmas.Bool.{and_left, cases_lt, cases_eq}
use Rattle.std.proofs.lemmas.List.{length_push, length-set, get_or_append_left, get_or_push, get_or-set_same, get_or-set_other}
use Rattle.std.proofs.lemmas.List.Folds.{list_any-append}
use Rattle.std.proofs.lemmas.List.Sums.{sum_by-cons}
use Rattle.anti_kind.specs.Kinds.{facts_of}
use Rattle.anti_kind.specs.declared.call.Call.{Call}
use Rattle.anti_kind.specs.declared.call.Call.TheVariants.{Pull, Ack, Nack}
use Rattle.anti_kind.specs.declared.call.Reply.{Reply}
use Rattle.anti_kind.specs.declared.call.Reply.TheVariants.{Pulled}
use Rattle.anti_kind.specs.declared.entry.Entry.{Entry}
use Rattle.anti_kind.specs.declared.row.Row.{Row}
use Rattle.anti_kind.specs.Stored.{rows}
use Rattle.anti_kind.specs.Store.{Store, is_pull, is_ack, is_nack, gives, pulls, settles, is_acked, is_out, outs}
use Rattle.anti_kind.specs.Objects.{store, IsLegal}
use Rattle.anti_kind.proofs.Handed.{Counted, counted, settles_by, settles_none, pulls_kept, settles_kept, pulls_up, out_kept, not_out_then}
use Rattle.anti_kind.proofs.Rows.{or_false}
use Rattle.anti_replicas.proofs.Places.{or_true}
use Rattle.anti_queue.specs.declared.message_states.MessageState.{MessageState}
use Rattle.anti_queue.specs.declared.message_states.MessageStates.{MessageStates}
use Rattle.anti_queue.specs.inner.Marks.{IsMessage, AreMessages, new_message, Changes, pulled, done, given_back}
use Rattle.anti_queue.proofs.Reading.{never_out}

-- the marks of a version stay from h to k
pub record SameMarks (h k : List Entry) (v : ℕ) : Type 0 where
  pub out : is_out k v ≡ is_out h v
  pub acked : is_acked k v ≡ is_acked h v
  pub pulls_are : pulls k v ≡ pulls h v

or_first : (a b : Bool) → (a || b) ≡ false → a ≡ false
or_first true b off = off
or_first false b off = refl

module _ (h : List Entry) (e : Entry) where
  acked_more : (v : ℕ) → is_acked (h ++ e ∷ []) v ≡ (is_acked h v || is_ack v e.call)
  acked_more v = list_any-append (λ (x : Entry). is_ack v x.call) h (e ∷ []) ∙ ap (λ (b : Bool). is_acked h v || b) (or_false (is_ack v e.call))

  acked_kept : (v : ℕ) → is_ack v e.call ≡ false → is_acked (h ++ e ∷ []) v ≡ is_acked h v
  acked_kept v off = acked_more v ∙ ap (λ (b : Bool). is_acked h v || b) off ∙ or_false (is_acked h v)

  same_marks : (v : ℕ) → (is_pull e.call && gives v e.reply) ≡ false → (is_ack v e.call || is_nack v e.call) ≡ false → SameMarks h (h ++ e ∷ []) v
  same_marks v pulling settling = record {
    out = out_kept h e v pulling settling;
    acked = acked_kept v (or_first (is_ack v e.call) (is_nack v e.call) settling);
    pulls_are = pulls_kept h e v pulling;
  }

  -- a call that hands out and settles nothing
  pub same_other : is_pull e.call ≡ false → settles_by e.call ≡ false → (v : ℕ) → SameMarks h (h ++ e ∷ []) v
  same_other pulling settling v = same_marks v (and_left (is_pull e.call) (gives v e.reply) pulling) (settles_none v e.call settling)

  -- a pull
  module _ (n : ℕ) (r : Row) (is : e.call ≡ Pull n) (reply : e.reply ≡ Pulled r) where
    pulling : (v : ℕ) → (is_pull e.call && gives v e.reply) ≡ (r.version == v)
    pulling v = ap₂ (λ (c : Call) (y : Reply). is_pull c && gives v y) is reply

    settling : (v : ℕ) → (is_ack v e.call || is_nack v e.call) ≡ false
    settling v = ap (λ (c : Call). is_ack v c || is_nack v c) is

    pub pull_others : (v : ℕ) → (r.version ≡ v → ⊥) → SameMarks h (h ++ e ∷ []) v
    pull_others v differs = same_marks v (pulling v ∙ ne_eqb r.version v differs) (settling v)

    pub pull_marks : (s : Store) → (facts_of s.kind).tried ≡ true → IsLegal (store s) h → is_out h r.version ≡ false → (x : MessageState) → IsMessage h r.version x → IsMessage (h ++ e ∷ []) r.version (pulled x)
    pull_marks s queue l off x was =
        let v : ℕ = r.version in
        let up : pulls (h ++ e ∷ []) v ≡ pulls h v + 1 = pulls_up h e v (pulling v ∙ eq-eqb v v refl) in
        let kept : settles (h ++ e ∷ []) v ≡ settles h v = settles_kept h e v (settling v) in
        let even : pulls h v ≡ settles h v =
        ⊎_elim (λ (same : pulls h v ≡ settles h v). same) (λ (more : pulls h v ≡ settles h v + 1). let on : is_out h v ≡ true = eq-eqb (pulls h v) (settles h v + 1) more in absurd (cc))
        (counted s queue h l v).balance in
        record {
          out = sym (eq-eqb (pulls (h ++ e ∷ []) v) (settles (h ++ e ∷ []) v + 1) (omega arith));
          acked = was.acked ∙ sym (acked_kept v (ap (is_ack v) is));
          pulls_are = omega (arith, was.pulls_are);
        }

  -- an Ack or a Nack of a message that was out
  module _ (u : ℕ) (out : is_out h u ≡ true) (unpulled : (v : ℕ) → (is_pull e.call && gives v e.reply) ≡ false) (settled : (v : ℕ) → (is_ack v e.call || is_nack v e.call) ≡ (u == v)) where
    settle_others : (v : ℕ) → (u ≡ v → ⊥) → SameMarks h (h ++ e ∷ []) v
    settle_others v differs = same_marks v (unpulled v) (settled v ∙ ne_eqb u v differs)

    settle_out : false ≡ is_out (h ++ e ∷ []) u
    settle_out = sym (not_out_then h e u out unpulled settled)

    settle_pulls : pulls (h ++ e ∷ []) u ≡ pulls h u
    settle_pulls = pulls_kept h e u (unpulled u)

module _ (h : List Entry) (e : Entry) (u : ℕ) (is : e.call ≡ Ack u) (out : is_out h u ≡ true) where
  ack_unpulled : (v : ℕ) → (is_pull e.call && gives v e.reply) ≡ false
  ack_unpulled v = ap (λ (c : Call). is_pull c && gives v e.reply) is

  ack_settled : (v : ℕ) → (is_ack v e.call || is_nack v e.call) ≡ (u == v)
  ack_settled v = ap (λ (c : Call). is_ack v c || is_nack v c) is ∙ or_false (u == v)

  pub ack_others : (v : ℕ) → (u ≡ v → ⊥) → SameMarks h (h ++ e ∷ []) v
  ack_others = settle_others h e u out ack_unpulled ack_settled

  pub acked_now : is_acked (h ++ e ∷ []) u ≡ true
  acked_now = acked_more h e u ∙ ap (λ (b : Bool). is_acked h u || b) (ap (is_ack u) is ∙ eq-eqb u u refl) ∙ or_true (is_acked h u)

  pub ack_marks : (x : MessageState) → IsMessage h u x → IsMessage (h ++ e ∷ []) u (done x)
  ack_marks x was = record {
    out = settle_out h e u out ack_unpulled ack_settled;
    acked = sym acked_now;
    pulls_are = was.pulls_are ∙ sym (settle_pulls h e u out ack_unpulled ack_settled);
  }

module _ (h : List Entry) (e : Entry) (u : ℕ) (is : e.call ≡ Nack u) (out : is_out h u ≡ true) where
  nack_unpulled : (v : ℕ) → (is_pull e.call && gives v e.reply) ≡ false
  nack_unpulled v = ap (λ (c : Call). is_pull c && gives v e.reply) is

  nack_settled : (v : ℕ) → (is_ack v e.call || is_nack v e.call) ≡ (u == v)
  nack_settled v = ap (λ (c : Call). is_ack v c || is_nack v c) is

  pub nack_others : (v : ℕ) → (u ≡ v → ⊥) → SameMarks h (h ++ e ∷ []) v
  nack_others = settle_others h e u out nack_unpulled nack_settled

  pub nack_marks : (x : MessageState) → IsMessage h u x → IsMessage (h ++ e ∷ []) u (given_back x)
  nack_marks x was = record {
    out = settle_out h e u out nack_unpulled nack_settled;
    acked = was.acked ∙ sym (acked_kept h e u (ap (is_ack u) is));
    pulls_are = was.pulls_are ∙ sym (settle_pulls h e u out nack_unpulled nack_settled);
  }

-- A version that was not written has no marks.

none_acked : (v : ℕ) (h : List Entry) → settles h v ≡ 0 → is_acked h v ≡ false
none_acked v [] none = refl
none_acked v (e ∷ h) none =
    let both : settles (e ∷ h) v ≡ cond (is_ack v e.call || is_nack v e.call) 1 0 + settles h v = sum_by-cons (λ (x : Entry). cond {A = ℕ} (is_ack v x.call || is_nack v x.call) 1 0) e h in
    let rest : settles h v ≡ 0 = omega arith in
    let first : cond {A = ℕ} (is_ack v e.call || is_nack v e.call) 1 0 ≡ 0 = omega arith in
    by_test (is_ack v e.call) (is_nack v e.call) first (none_acked v h rest)
  where
    by_test : (a b : Bool) → cond {A = ℕ} (a || b) 1 0 ≡ 0 → is_acked h v ≡ false → (a || is_acked h v) ≡ false
    by_test true b first off = absurd (omega (arith, first))
    by_test false b first off = off

pub unwritten_marks : (s : Store) → (facts_of s.kind).tried ≡ true → (h : List Entry) → IsLegal (store s) h → (v : ℕ) → length (rows h) < v → IsMessage h v new_message
unwritten_marks s queue h l v above =
    let count : Counted h v = counted s queue h l v in
    let pulls_none : pulls h v ≡ 0 = ⊎_elim (λ (none : pulls h v < 1). omega arith) (λ (some : 1 ≤ pulls h v). absurd (omega (arith, (count.within some).1))) (cases_lt (pulls h v) 1) in
    let settles_none' : settles h v ≡ 0 =
    ⊎_elim (λ (same : pulls h v ≡ settles h v). omega arith) (λ (more : pulls h v ≡ settles h v + 1). absurd (omega arith)) count.balance in
    record {
      out = sym (never_out s h queue l v (inr above));
      acked = sym (none_acked v h settles_none');
      pulls_are = sym pulls_none;
    }

-- All messages.

message_same : (h k : List Entry) (v : ℕ) (x : MessageState) → SameMarks h k v → IsMessage h v x → IsMessage k v x
message_same h k v x same was = record { out = was.out ∙ sym same.out; acked = was.acked ∙ sym same.acked; pulls_are = was.pulls_are ∙ sym same.pulls_are }

pub messages_kept : (m : MessageStates) (h k : List Entry) → rows k ≡ rows h → ((v : ℕ) → SameMarks h k v) → outs k ≡ outs h → AreMessages m h → AreMessages m k
messages_kept m h k same_rows same same_outs are = record {
  many = are.many ∙ ap length (sym same_rows);
  each = λ i d short. message_same h k (i + 1) (get_or m.list.items i d) (same (i + 1)) (are.each i d short);
  count = are.count ∙ sym same_outs;
}

pub messages_changed : (m n : MessageStates) (h k : List Entry) (v : ℕ) (change : MessageState → MessageState) → 1 ≤ v → v ≤ length m.list.items → rows k ≡ rows h → Changes change v m n → n.out ≡ outs k
    → ((x : MessageState) → IsMessage h v x → IsMessage k v (change x)) → ((w : ℕ) → (v ≡ w → ⊥) → SameMarks h k w) → AreMessages m h → AreMessages n k
messages_changed m n h k v change first kept same_rows changes count one others are = record {
  many = ap length (changes new_message) ∙ length-set m.list.items (v - 1) (change (get_or m.list.items (v - 1) new_message)) ∙ are.many ∙ ap length (sym same_rows);
  each = λ i d short. subst (λ (xs : List MessageState). IsMessage k (i + 1) (get_or xs i d)) (sym (changes d)) (by_place i d (omega (arith, ap length (changes d), length-set m.list.items (v - 1) (change (get_or m.list.items (v - 1) d)))));
  count = count;
}
  where
    by_place : (i : ℕ) (d : MessageState) → i < length m.list.items → IsMessage k (i + 1) (get_or (set m.list.items (v - 1) (change (get_or m.list.items (v - 1) d))) i d)
    by_place i d short =
        let new : MessageState = change (get_or m.list.items (v - 1) d) in
        ⊎_elim (λ (same : i ≡ v - 1).
        let number : i + 1 ≡ v = omega (arith, first) in
        let place : get_or (set m.list.items (v - 1) new) i d ≡ new = ap (λ (j : ℕ). get_or (set m.list.items (v - 1) new) j d) same ∙ get_or-set_same m.list.items (v - 1) new d (omega arith) in
        let was : IsMessage h v (get_or m.list.items (v - 1) d) =
        subst (λ (w : ℕ). IsMessage h w (get_or m.list.items (v - 1) d)) number (subst (λ (j : ℕ). IsMessage h (i + 1) (get_or m.list.items j d)) same (are.each i d short)) in
        subst (λ (w : ℕ). IsMessage k w (get_or (set m.list.items (v - 1) new) i d)) (sym number) (subst (IsMessage k v) (sym place) (one (get_or m.list.items (v - 1) d) was)))
        (λ (other : i ≡ v - 1 → ⊥).
        subst (IsMessage k (i + 1)) (sym (get_or-set_other m.list.items (v - 1) i new d other))
        (message_same h k (i + 1) (get_or m.list.items i d) (others (i + 1) (λ eq. other (omega (arith, eq)))) (are.each i d short)))
        (cases_eq i (v - 1))

pub messages_written : (m n : MessageStates) (h k : List Entry) (r : Row) (new : MessageState) → rows k ≡ rows h ++ r ∷ [] → n.list.items ≡ m.list.items ++ new ∷ [] → n.out ≡ m.out → outs k ≡ outs h
    → ((v : ℕ) → SameMarks h k v) → IsMessage h (length (rows h) + 1) new → AreMessages m h → AreMessages n k
messages_written m n h k r new more_rows more out same_outs same fresh are = record {
  many = ap length more ∙ length_push m.list.items new ∙ ap (λ (c : ℕ). c + 1) are.many ∙ sym (ap length more_rows ∙ length_push (rows h) r);
  each = λ i d short. subst (λ (xs : List MessageState). IsMessage k (i + 1) (get_or xs i d)) (sym more) (by_place i d (omega (arith, ap length more, length_push m.list.items new)));
  count = out ∙ are.count ∙ sym same_outs;
}
  where
    by_place : (i : ℕ) (d : MessageState) → i < length m.list.items + 1 → IsMessage k (i + 1) (get_or (m.list.items ++ new ∷ []) i d)
    by_place i d short =
        ⊎_elim (λ (before : i < length m.list.items).
        subst (IsMessage k (i + 1)) (sym (get_or_append_left m.list.items (new ∷ []) d i before))
        (message_same h k (i + 1) (get_or m.list.items i d) (same (i + 1)) (are.each i d before)))
        (λ (last : length m.list.items ≤ i).
        let here : length m.list.items ≡ i = omega arith in
        let number : length (rows h) + 1 ≡ i + 1 = omega (arith, are.many) in
        subst (IsMessage k (i + 1)) (sym (get_or_push m.list.items new d i here))
        (message_same h k (i + 1) new (same (i + 1)) (subst (λ (w : ℕ). IsMessage h w new) number fresh)))
        (cases_lt i (length m.list.items))
