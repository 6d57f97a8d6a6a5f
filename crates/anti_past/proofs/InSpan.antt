-- The entries of a span, by its key.
use Rattle.std.proofs.Common.{◌≡◌, ℕ, ◌<◌, Bool, true, false, cond, ◌&&◌, refl, sym, ap, ◌∙◌, subst, eqb-true}
use Rattle.std.specs.Prelude.{◌==◌, Option, Some, None}
use Rattle.std.specs.Cmp.{both_ways}
use Rattle.std.specs.Option.{option_map_or}
use Rattle.std.proofs.lemmas.Bool.{and_from, and_parts, eq-eqb}
use Rattle.anti_kind.specs.declared.actor.Actor.{Actor}
use Rattle.anti_kind.specs.declared.actor.Actor.TheVariants.{Carrier, Process, Newborn}
use Rattle.anti_kind.specs.declared.actor.Birth.{Birth}
use Rattle.anti_kind.specs.declared.entry.Entry.{Entry}
use Rattle.anti_trace.specs.Traces.{is_by, same_actor}
use Rattle.anti_trace.proofs.Puts.{same_actor_itself, same_actor_true}
use Rattle.law_causal.specs.Causal.{Earlier, is_process}
use Rattle.law_causal.specs.Reads.{is_read_of}
use Rattle.law_causal.specs.Words.{reads}
use Rattle.anti_past.specs.declared.span_keys.SpanKey.{SpanKey}
use Rattle.anti_past.specs.inner.Keys.{birth_in, is_in, is_read_in, key_by, key_of, read_key, same_key}
use Rattle.anti_past.proofs.KeyOrder.{same_key_is, same_key_itself}

-- ---- the key of an entry

-- an entry has the actor and the span of its key
pub key_by_is : (a : Actor) (span : ℕ) (key : SpanKey) → key_by a span ≡ Some key → (a ≡ Process (birth_in key)) × (span ≡ key.span)
key_by_is (Process b) span key is =
    let same : record { object = b.object; place = b.place; span = span } ≡ key = cc in
    (ap (λ (k : SpanKey). Process (birth_in k)) same, ap (λ (k : SpanKey). k.span) same)
key_by_is (Carrier number) span key is = absurd (cc)
key_by_is Newborn span key is = absurd (cc)

key_again : (k : SpanKey) (b : Birth) (span : ℕ) → birth_in k ≡ b → span ≡ k.span → record { object = b.object; place = b.place; span = span } ≡ k
key_again k b span birth same =
    ap (λ (c : Birth). record { object = c.object; place = c.place; span = span }) (sym birth)
    ∙ ap (λ (n : ℕ). record { object = k.object; place = k.place; span = n }) same

by_actor : (a : Actor) (span : ℕ) (k : SpanKey) → option_map_or (λ x. same_key x k) (key_by a span) false ≡ (same_actor (Process (birth_in k)) a && span == k.span)
by_actor (Process b) span k =
    both_ways (same_key (record { object = b.object; place = b.place; span = span }) k) (same_actor (Process (birth_in k)) (Process b) && span == k.span)
    (λ same. subst (λ (z : SpanKey). (same_actor (Process (birth_in z)) (Process b) && span == z.span) ≡ true)
    (same_key_is (record { object = b.object; place = b.place; span = span }) k same)
    (and_from (same_actor (Process b) (Process b)) (span == span) (same_actor_itself (Process b)) (eq-eqb span span refl)))
    (λ both.
    let parts = and_parts (same_actor (Process (birth_in k)) (Process b)) (span == k.span) both in
    let actors : Process (birth_in k) ≡ Process b = same_actor_true (Process (birth_in k)) (Process b) parts.0 in
    ap (λ (z : SpanKey). same_key z k) (key_again k b span (let births : birth_in k ≡ b = cc in births) (eqb-true span k.span parts.1)) ∙ same_key_itself k)
by_actor (Carrier number) span k = refl
by_actor Newborn span k = refl

-- a process has a key in each of its spans
pub no_process : (a : Actor) (span : ℕ) → key_by a span ≡ None → is_process a ≡ true → ⊥
no_process (Process b) span none is = absurd (cc)
no_process (Carrier number) span none is = absurd (cc)
no_process Newborn span none is = absurd (cc)

-- ---- the entries of a span

pub in_is : (k : SpanKey) (e : Entry) → is_in k e ≡ (is_by (Process (birth_in k)) e && e.span == k.span)
in_is k e = by_actor e.actor e.span k

-- the reads of a span, by its key and by its birth and number
pub read_in_is : (k : SpanKey) → is_read_in k ≡ is_read_of (birth_in k) k.span
read_in_is k = λ i. λ (e : Entry). reads e.call && in_is k e i

-- an entry with a key is in a span just where the key is the span's
pub in_by_key : (e : Entry) (key : SpanKey) → key_of e ≡ Some key → (q : SpanKey) → is_in q e ≡ same_key key q
in_by_key e key is q = ap (λ found. option_map_or (λ (k : SpanKey). same_key k q) found false) is

pub in_none : (e : Entry) → key_of e ≡ None → (q : SpanKey) → is_in q e ≡ false
in_none e is q = ap (λ found. option_map_or (λ (k : SpanKey). same_key k q) found false) is

pub key_in : (e : Entry) (q : SpanKey) → is_in q e ≡ true → key_of e ≡ Some q
key_in e q is = by_key (key_of e) refl is
  where
    by_key : (found : Option SpanKey) → key_of e ≡ found → option_map_or (λ (k : SpanKey). same_key k q) found false ≡ true → key_of e ≡ Some q
    by_key None none is = absurd (cc)
    by_key (Some key) some is = some ∙ ap Some (same_key_is key q is)

-- ---- earlier entries of the same span

module _ (q : SpanKey) (i : ℕ) (a : Entry) (j : ℕ) (e : Entry) (is : key_of e ≡ Some q) where
  pub earlier_from : is_in q a ≡ true → i < j → Earlier i a j e
  earlier_from within before =
      let own = key_by_is e.actor e.span q is in
      let its = key_by_is a.actor a.span q (key_in a q within) in
      record { before = before; process = ap is_process its.0; actor = its.0 ∙ sym own.0; span = its.1 ∙ sym own.1 }

  pub earlier_in : Earlier i a j e → is_in q a ≡ true
  earlier_in earlier =
      let one : key_of a ≡ Some q = ap (λ (x : Actor). key_by x a.span) earlier.actor ∙ ap (λ (n : ℕ). key_by e.actor n) earlier.span ∙ is in
      in_by_key a q one q ∙ same_key_itself q

-- ---- reads

-- whether an entry reads in a span, by the key under which it reads
pub read_by_key : (e : Entry) (found : Option SpanKey) → read_key e ≡ found → (q : SpanKey) → is_read_in q e ≡ option_map_or (λ k. same_key k q) found false
read_by_key e found is q = by_test (reads e.call) (key_of e) ∙ ap (λ o. option_map_or (λ (k : SpanKey). same_key k q) o false) is
  where
    by_test : (t : Bool) (o : Option SpanKey) → (t && option_map_or (λ k. same_key k q) o false) ≡ option_map_or (λ k. same_key k q) (cond t o None) false
    by_test true o = refl
    by_test false o = refl

-- what has such a key is a read, in the span of the key
pub read_keyed : (e : Entry) (q : SpanKey) → read_key e ≡ Some q → (reads e.call ≡ true) × (key_of e ≡ Some q)
read_keyed e q is = by_test (reads e.call) refl is
  where
    by_test : (t : Bool) → reads e.call ≡ t → cond t (key_of e) None ≡ Some q → (reads e.call ≡ true) × (key_of e ≡ Some q)
    by_test true on some = (on, some)
    by_test false off some = absurd (cc)

-- and each read of a process has one
pub no_read : (e : Entry) → read_key e ≡ None → (reads e.call ≡ true → is_process e.actor ≡ true) → reads e.call ≡ false
no_read e none process = by_test (reads e.call) refl none
  where
    by_test : (t : Bool) → reads e.call ≡ t → cond t (key_of e) None ≡ None → reads e.call ≡ false
    by_test true on its = absurd (no_process e.actor e.span its (process on))
    by_test false off its = off
