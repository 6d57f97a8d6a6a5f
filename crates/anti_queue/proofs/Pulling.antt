-- Messages that came to a region, are handed out, done, or given back.
use Rattle.std.proofs.Common.{◌≡◌, ℕ, ◌+◌, ◌-◌, ◌<◌, ◌≤◌, true, false, not, List, [], ◌∷◌, ◌++◌, length, get_or, Option, Some, slice_get, refl, sym, ap, subst, ◌∙◌, ⊎_elim, ◌==◌, ltb, leb-true, eqb-true, arith, is_some, unwrap_or}
use Rattle.std.proofs.lemmas.Bool.{and_parts, cases_eq, ltb-true}
use Rattle.anti_ids.specs.declared.limits.TheConstants.{MOST_UNITS}
use Rattle.anti_kind.specs.declared.actor.Actor.TheVariants.{Newborn}
use Rattle.anti_kind.specs.declared.call.Call.{Call}
use Rattle.anti_kind.specs.declared.call.Call.TheVariants.{Ship, Pull, Ack, Nack}
use Rattle.anti_kind.specs.declared.call.Reply.TheVariants.{Pulled, Done}
use Rattle.anti_kind.specs.declared.entry.Entry.{Entry}
use Rattle.anti_kind.specs.declared.row.Row.{Row}
use Rattle.anti_kind.specs.declared.store_kind.Sub.{Sub}
use Rattle.anti_kind.specs.Stored.{rows, row_of, is_whole, is_in}
use Rattle.anti_kind.specs.Store.{Store, is_pull, is_out, is_acked, is_free, pulls, next, store_ready, store_due, owed_shipments, outs, absent}
use Rattle.anti_kind.specs.Objects.{held, Follows, IsLegal}
use Rattle.anti_kind.specs.Machines.{StandsFor, MayMake}
use Rattle.anti_kind.proofs.Handed.{Found, find_found, some_there, next_found, free_not_out, settles_by, outs_other, outs_pull, outs_ack, outs_nack, outs_settle, out_within}
use Rattle.anti_kind.proofs.Rows.{is_write, is_shipping, or_false, rows_other, shipped_other, version_at}
use Rattle.anti_kind.proofs.Shipped.{ready_ship, version_within}
use Rattle.anti_replicas.specs.declared.replicas.Replicas.{Replicas}
use Rattle.anti_replicas.specs.Stores.{At, number_of, regions_of}
use Rattle.anti_replicas.specs.inner.Standing.{Stands}
use Rattle.anti_replicas.proofs.Counting.{counts_other}
use Rattle.anti_replicas.proofs.Shows.{of_another}
use Rattle.anti_queue.specs.declared.message_states.MessageState.{MessageState}
use Rattle.anti_queue.specs.declared.message_states.MessageStates.{MessageStates}
use Rattle.anti_queue.specs.declared.queue_store.Queue.{Queue}
use Rattle.anti_queue.specs.inner.Marks.{IsMessage, AreMessages, can_go_out, Changes, pulled, done, given_back, Pullable, Settleable}
use Rattle.anti_queue.specs.inner.Lists.{subs_of, AreSorted}
use Rattle.anti_queue.specs.QueueStates.{its_store, its_start, QueueStands}
use Rattle.anti_queue.proofs.Marking.{SameMarks, same_other, pull_others, pull_marks, acked_now, ack_others, ack_marks, nack_others, nack_marks, messages_kept, messages_changed}
use Rattle.anti_queue.proofs.Listing.{free_same, free_kept, unfree_out, unfree_acked}
use Rattle.anti_queue.proofs.Standing.{same_store, stands_as, base_next, stands_sorted}

-- The message that a ready pull hands out.

pub record IsNext (m : Queue) (h : List Entry) (n v : ℕ) (r : Row) (sub : Sub) : Type 0 where
  pub is : next (its_store m) h n ≡ Some r
  pub found : Found (is_free (its_store m) h sub) (rows h) r
  pub version : r.version ≡ v

pub next_row : (m : Queue) (h : List Entry) (n v : ℕ) → next (its_store m) h n ≡ row_of h v → is_some (next (its_store m) h n) ≡ true → (r : Row) × (sub : Sub) × IsNext m h n v r sub
next_row m h n v is there =
    let some : (r : Row) × (next (its_store m) h n ≡ Some r) = some_there (next (its_store m) h n) there in
    let got : (sub : Sub) × Found (is_free (its_store m) h sub) (rows h) some.0 = next_found (its_store m) h n (slice_get (subs_of m.subscribers) n) some.0 refl some.1 in
    let at : Found (λ (x : Row). x.version == v) (rows h) some.0 = find_found (λ (x : Row). x.version == v) (rows h) some.0 (sym is ∙ some.1) in
    (some.0, got.0, record { is = some.1; found = got.1; version = eqb-true some.0.version v at.passes })

-- its version is that of a row
next_within : (m : Queue) (h : List Entry) (n v : ℕ) (r : Row) (sub : Sub) → IsLegal (its_start m) h → IsNext m h n v r sub → (1 ≤ v) × (v ≤ length (rows h))
next_within m h n v r sub l next' =
    let number : v ≡ next'.found.index + 1 = sym next'.version ∙ ap (λ (x : Row). x.version) (sym (next'.found.at r)) ∙ version_at (its_store m) h l next'.found.index r next'.found.within in
    (omega arith, omega (arith, next'.found.within))

-- and it was pulled less often than it may be
next_tries : (m : Queue) (h : List Entry) (n v : ℕ) (r : Row) (sub : Sub) → IsNext m h n v r sub → pulls h v < m.tries
next_tries m h n v r sub next' =
    let first = and_parts (is_in sub.channel r) _ next'.found.passes in
    let second = and_parts (is_whole (its_store m).kind h sub.region r) _ first.1 in
    let third = and_parts (not (is_out h r.version)) _ second.1 in
    let fourth = and_parts (not (is_acked h r.version)) (ltb (pulls h r.version) m.tries) third.1 in
    subst (λ (w : ℕ). pulls h w < m.tries) next'.version (ltb-true (pulls h r.version) m.tries fourth.1)

-- What a call finds that may be made.

pub pullable : (m : Queue) (n v : ℕ) → ((h : List Entry) → StandsFor (its_start m) (QueueStands m) h → next (its_store m) h n ≡ row_of h v) → MayMake (its_start m) (QueueStands m) (Pull n) → Pullable m.messages v
pullable m n v is may =
    let h : List Entry = may.history in
    let at : StandsFor (its_start m) (QueueStands m) h = may.stands_for in
    let got : (r : Row) × (sub : Sub) × IsNext m h n v r sub = next_row m h n v (is h at) may.is_ready in
    let within : (1 ≤ v) × (v ≤ length (rows h)) = next_within m h n v got.0 got.1 at.legal got.2 in
    let units : held h + (owed_shipments (its_store m) h + outs h) + 2 ≤ MOST_UNITS = leb-true _ _ may.fits in
    record {
      first = within.0;
      kept = omega (arith, within.1, at.state.messages.many);
      tries = λ d.
          let number : v - 1 + 1 ≡ v = omega (arith, within.0) in
          let is' : IsMessage h v (get_or m.messages.list.items (v - 1) d) =
          subst (λ (w : ℕ). IsMessage h w (get_or m.messages.list.items (v - 1) d)) number (at.state.messages.each (v - 1) d (omega (arith, within.0, within.1, at.state.messages.many))) in
          omega (arith, is'.pulls_are, next_tries m h n v got.0 got.1 got.2, at.sane.tries.1);
      units = omega (arith, at.state.messages.count);
    }

pub settleable : (m : Queue) (h : List Entry) (u : ℕ) → StandsFor (its_start m) (QueueStands m) h → is_out h u ≡ true → Settleable m.messages u
settleable m h u at out =
    let within : (1 ≤ u) × (u ≤ length (rows h)) = out_within (its_store m) refl h at.legal u out in
    let e : Entry = record { stamp = 0; object = 0; place = 0; seat = 0; actor = Newborn; span = 0; call = Ack u; reply = Done } in
    let less : outs h ≡ outs (h ++ e ∷ []) + 1 = outs_settle (its_store m) refl h e u at.legal refl out (λ w. refl) (λ w. or_false (u == w)) in
    record {
      first = within.0;
      kept = omega (arith, within.1, at.state.messages.many);
      some = omega (arith, at.state.messages.count);
    }

-- What the queue stands for then.

module _ (m n : Queue) (b : Replicas) (ms : MessageStates) (h : List Entry) (e : Entry)
    (at : StandsFor (its_start m) (QueueStands m) h) (f : Follows (its_start m) h e)
    (others : n ≡ record m { base = b; messages = ms; subscribers = n.subscribers }) (number : number_of b ≡ number_of m.base) (regions : regions_of b ≡ regions_of m.base)
    (subs : subs_of n.subscribers ≡ subs_of m.subscribers) (stands : Stands b (its_store m) (h ++ e ∷ [])) where
  abbrev Sorted : ℕ → Type 0
  Sorted v = (s : Store) (k : List Entry) → At b s k → AreMessages ms k → 1 ≤ v → v ≤ length (rows k) → AreSorted k v (can_go_out k v m.tries) m.subscribers.list.items n.subscribers.list.items

  -- after a call that is no write, and keeps the marks and the shipments of all messages but that of version v
  sorted_at : (v : ℕ) → Sorted v → is_write e.call ≡ false → AreMessages ms (h ++ e ∷ []) → (1 ≤ v) × (v ≤ length (rows h))
      → ((w : ℕ) → (v ≡ w → ⊥) → SameMarks h (h ++ e ∷ []) w) → is_shipping e.call ≡ false → QueueStands n (h ++ e ∷ [])
  sorted_at v sorted writes messages within same ships =
      stands_sorted m n b ms h e v at f writes others number regions subs stands messages within.0 within.1 same
      (λ g w differs. shipped_other h e g w 1 ships)
      (sorted (its_store m) (h ++ e ∷ []) (base_next m b h e at f stands) messages within.0 (omega (arith, within.1, ap length (rows_other h e writes))))

  pub stands_pulled : (sub v : ℕ) → e.call ≡ Pull sub → next (its_store m) h sub ≡ row_of h v → Sorted v → Changes pulled v m.messages ms → ms.out ≡ m.messages.out + 1 → QueueStands n (h ++ e ∷ [])
  stands_pulled sub v is next_is sorted changes more =
      let s : Store = its_store m in
      let there : is_some (next s h sub) ≡ true = ap (λ (c : Call). store_ready s h c) (sym is) ∙ f.is_ready in
      let got : (r : Row) × (x : Sub) × IsNext m h sub v r x = next_row m h sub v next_is there in
      let r : Row = got.0 in
      let within : (1 ≤ v) × (v ≤ length (rows h)) = next_within m h sub v r got.1 at.legal got.2 in
      let reply : e.reply ≡ Pulled r = f.reply ∙ ap (λ (c : Call). store_due s h c) is ∙ ap (λ (o : Option Row). Pulled (unwrap_or o (absent []))) got.2.is in
      let off : is_out h r.version ≡ false = free_not_out s h got.1 r got.2.found.passes in
      let same : (w : ℕ) → (v ≡ w → ⊥) → SameMarks h (h ++ e ∷ []) w = λ w differs. pull_others h e sub r is reply w (λ eq. differs (sym got.2.version ∙ eq)) in
      let one : (x : MessageState) → IsMessage h v x → IsMessage (h ++ e ∷ []) v (pulled x) =
      subst (λ (w : ℕ). (x : MessageState) → IsMessage h w x → IsMessage (h ++ e ∷ []) w (pulled x)) got.2.version (pull_marks h e sub r is reply s refl at.legal off) in
      let messages : AreMessages ms (h ++ e ∷ []) =
      messages_changed m.messages ms h (h ++ e ∷ []) v pulled within.0 (omega (arith, within.1, at.state.messages.many)) (rows_other h e (ap is_write is)) changes
      (omega (arith, more, at.state.messages.count, outs_pull s refl h e sub at.legal f is)) one same at.state.messages in
      sorted_at v sorted (ap is_write is) messages within same (ap is_shipping is)

  pub stands_given_back : (u : ℕ) → e.call ≡ Nack u → is_out h u ≡ true → Sorted u → Changes given_back u m.messages ms → ms.out + 1 ≡ m.messages.out → QueueStands n (h ++ e ∷ [])
  stands_given_back u is out sorted changes less =
      let s : Store = its_store m in
      let within : (1 ≤ u) × (u ≤ length (rows h)) = out_within s refl h at.legal u out in
      let messages : AreMessages ms (h ++ e ∷ []) =
      messages_changed m.messages ms h (h ++ e ∷ []) u given_back within.0 (omega (arith, within.1, at.state.messages.many)) (rows_other h e (ap is_write is)) changes
      (omega (arith, less, at.state.messages.count, outs_nack s refl h e u at.legal f is)) (nack_marks h e u is out) (nack_others h e u is out) at.state.messages in
      sorted_at u sorted (ap is_write is) messages within (nack_others h e u is out) (ap is_shipping is)

  pub stands_shipped : (region version part : ℕ) → e.call ≡ Ship region version part → ms ≡ m.messages → Sorted version → QueueStands n (h ++ e ∷ [])
  stands_shipped region version part is same_messages sorted =
      let s : Store = its_store m in
      let within : (1 ≤ version) × (version ≤ length (rows h)) = version_within s h at.legal version part (ready_ship s h e region version part f is).shipment.part in
      let same : (w : ℕ) → SameMarks h (h ++ e ∷ []) w = same_other h e (ap is_pull is) (ap settles_by is) in
      let same_rows : rows (h ++ e ∷ []) ≡ rows h = rows_other h e (ap is_write is) in
      let messages : AreMessages ms (h ++ e ∷ []) =
      subst (λ (x : MessageStates). AreMessages x (h ++ e ∷ [])) (sym same_messages)
      (messages_kept m.messages h (h ++ e ∷ []) same_rows same (outs_other h e (ap is_write is) (ap is_pull is) (ap settles_by is)) at.state.messages) in
      stands_sorted m n b ms h e version at f (ap is_write is) others number regions subs stands messages within.0 within.1 (λ w differs. same w)
      (λ g w differs. of_another s h e at.legal f g region version part is w 1 differs)
      (sorted s (h ++ e ∷ []) (base_next m b h e at f stands) messages within.0 (omega (arith, within.1, ap length same_rows)))

-- A message that is done was free for none, and is free for none from then on.
module _ (m : Queue) (b : Replicas) (ms : MessageStates) (h : List Entry) (e : Entry) (at : StandsFor (its_start m) (QueueStands m) h) (f : Follows (its_start m) h e) (u : ℕ) (is : e.call ≡ Ack u) (out : is_out h u ≡ true) where
  unfree : (sub : Sub) (r : Row) → is_free (its_store m) (h ++ e ∷ []) sub r ≡ is_free (its_store m) h sub r
  unfree sub r =
      ⊎_elim (λ (same : u ≡ r.version).
      unfree_acked (number_of m.base) (regions_of m.base) (subs_of m.subscribers) m.tries (h ++ e ∷ []) sub r (ap (is_acked (h ++ e ∷ [])) (sym same) ∙ acked_now h e u is out)
      ∙ sym (unfree_out (number_of m.base) (regions_of m.base) (subs_of m.subscribers) m.tries h sub r (ap (is_out h) (sym same) ∙ out)))
      (λ (other : u ≡ r.version → ⊥).
      free_same (number_of m.base) (regions_of m.base) (subs_of m.subscribers) m.tries h (h ++ e ∷ []) sub r (ack_others h e u is out r.version other) (shipped_other h e sub.region r.version 1 (ap is_shipping is)))
      (cases_eq u r.version)

  pub stands_acked : number_of b ≡ number_of m.base → regions_of b ≡ regions_of m.base → Stands b (its_store m) (h ++ e ∷ []) → Changes done u m.messages ms → ms.out + 1 ≡ m.messages.out → QueueStands (record m { base = b; messages = ms }) (h ++ e ∷ [])
  stands_acked number regions stands changes less =
      let s : Store = its_store m in
      let n : Queue = record m { base = b; messages = ms } in
      let within : (1 ≤ u) × (u ≤ length (rows h)) = out_within s refl h at.legal u out in
      let same_rows : rows (h ++ e ∷ []) ≡ rows h = rows_other h e (ap is_write is) in
      stands_as n s (h ++ e ∷ []) (same_store m n number regions refl refl) stands
      (counts_other m.channels h e (ap is_write is) at.state.channels)
      (messages_changed m.messages ms h (h ++ e ∷ []) u done within.0 (omega (arith, within.1, at.state.messages.many)) same_rows changes
      (omega (arith, less, at.state.messages.count, outs_ack s refl h e u at.legal f is)) (ack_marks h e u is out) (ack_others h e u is out) at.state.messages)
      (λ i d short.
      free_kept (number_of m.base) (regions_of m.base) (subs_of m.subscribers) m.tries h (h ++ e ∷ []) (get_or m.subscribers.list.items i d) same_rows (unfree (get_or m.subscribers.list.items i d).sub) (at.state.free i d short))

-- an Ack or a Nack that follows is of a message that is out
pub settled_out : (m : Queue) (h : List Entry) (e : Entry) (c : Call) (u : ℕ) → Follows (its_start m) h e → e.call ≡ c → store_ready (its_store m) h c ≡ is_out h u → is_out h u ≡ true
settled_out m h e c u f is says = sym says ∙ ap (λ (x : Call). store_ready (its_store m) h x) (sym is) ∙ f.is_ready
