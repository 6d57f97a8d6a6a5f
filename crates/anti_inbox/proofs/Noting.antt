-- What each call makes of what an inbox knows.
use Rattle.std.proofs.Common.{◌≡◌, ℕ, ◌+◌, ◌-◌, ◌≤◌, Bool, true, false, not, cond, ◌&&◌, ◌||◌, List, [], ◌∷◌, ◌++◌, length, get_or, set, map, take, refl, sym, ap, ap₂, subst, ◌∙◌, inl, inr, ◌==◌, leb, eq-eqb, ne_eqb, append-nil, length-append, arith}
use Rattle.std.specs.List.{filter, range_with_len}
use Rattle.std.proofs.lemmas.Bool.{and_parts, not-true, leb-true, cases_eq}
use Rattle.std.proofs.lemmas.List.{take-append-le}
use Rattle.std.proofs.lemmas.List.Elements.{filter_agree, filter-append}
use Rattle.std.proofs.lemmas.List.FromFn.{map-range_with_len_more}
use Rattle.anti_kind.specs.declared.call.Call.{Call}
use Rattle.anti_kind.specs.declared.call.Call.TheVariants.{Post, Take, Repost, TakeReply}
use Rattle.anti_kind.specs.declared.call.Reply.TheVariants.{Posted, Got, Done}
use Rattle.anti_kind.specs.declared.entry.Entry.{Entry}
use Rattle.anti_kind.specs.declared.message.Message.{Message}
use Rattle.anti_kind.specs.declared.message.MessageKind.{MessageKind}
use Rattle.anti_kind.specs.declared.message.MessageKind.TheVariants as kinds
use Rattle.anti_kind.specs.Inbox.{numbered, listed, posted, messages, is_call_message, delivered, deliveries, takes, is_taken, free, if_to, replied, has_reply, takes_reply, reply_is_taken, got_of, handed, post_ready, post_due, inbox_ready, inbox_due}
use Rattle.anti_kind.specs.inner.Owing.{numbers}
use Rattle.anti_kind.specs.Objects.{Follows}
use Rattle.anti_kind.proofs.Deliveries.{call_within, messages_more, deliveries_more, taken_more, taken_kept}
use Rattle.anti_inbox.specs.declared.inbox.Fate.{Fate}
use Rattle.anti_inbox.specs.declared.inbox.Inbox.{Inbox}
use Rattle.anti_inbox.specs.inner.Fates.{reposts, fate_of, untouched, taken, reposted, answered, heard}
use Rattle.anti_inbox.specs.inner.Inboxes.{start_of, requests_of, Knows, At, Keeps, Turns}
use Rattle.anti_inbox.proofs.Lists.{filter-and, filter-most, map_same, set_mapped}
use Rattle.anti_inbox.proofs.Fates.{fate_outside, fate_kept, fate_taken, fate_reposted, fate_answered, fate_heard}
use Rattle.anti_inbox.proofs.Reading.{its_counts, count_messages, count_fates, fate_at, at_number, IsHanding}

-- What it keeps.

-- more messages at the end leave the requests
same_requests : (m n : Inbox) (more : List Message) (fates : List Fate) (free' : List ℕ) → m.requests ≤ length m.messages.items → Turns m n (m.messages.items ++ more) fates free' → requests_of n ≡ requests_of m
same_requests m n more fates free' within turns =
    ap₂ (λ (k : ℕ) (ms : List Message). take k ms) turns.requests_is turns.messages_are ∙ take-append-le m.requests m.messages.items more within

none_more : (m n : Inbox) (fates : List Fate) (free' : List ℕ) → Turns m n m.messages.items fates free' → Turns m n (m.messages.items ++ []) fates free'
none_more m n fates free' turns = subst (λ (ms : List Message). Turns m n ms fates free') (sym (append-nil m.messages.items)) turns

pub keeps_more : (m n : Inbox) (more : List Message) (fates : List Fate) (free' : List ℕ) → m.requests ≤ length m.messages.items → Turns m n (m.messages.items ++ more) fates free' → Keeps m n
keeps_more m n more fates free' within turns = record { requests_are = same_requests m n more fates free' within turns; held_is = turns.held_is; owed_is = turns.owed_is }

pub keeps : (m n : Inbox) (fates : List Fate) (free' : List ℕ) → m.requests ≤ length m.messages.items → Turns m n m.messages.items fates free' → Keeps m n
keeps m n fates free' within turns = keeps_more m n [] fates free' within (none_more m n fates free' turns)

-- where nothing changed it knows what it knew
pub knows_same : (m n : Inbox) (h : List Entry) → Knows m h → Turns m n m.messages.items m.fates.items m.free.items → Knows n h
knows_same m n h knows turns =
    let same : requests_of n ≡ requests_of m = ap₂ (λ (k : ℕ) (ms : List Message). take k ms) turns.requests_is turns.messages_are in
    record {
      requests_within = omega (arith, knows.requests_within, turns.requests_is, ap length turns.messages_are);
      messages_are = turns.messages_are ∙ knows.messages_are ∙ ap (λ (rs : List Message). messages rs h) (sym same);
      fates_are = turns.fates_are ∙ knows.fates_are ∙ ap (λ (rs : List Message). map (fate_of h) (numbers rs h)) (sym same);
      free_are = turns.free_are ∙ knows.free_are ∙ ap (λ (rs : List Message). free rs h) (sym same);
      came_within = omega (arith, turns.came_within, knows.came_within, ap (λ (rs : List Message). length (deliveries rs h)) same);
    }

-- The free deliveries after one entry more.

module _ (requests : List Message) (h : List Entry) (e : Entry) where
  -- no message is taken
  free_more : ((n : ℕ) → takes n e.call e.reply ≡ false) → free requests (h ++ e ∷ []) ≡ free requests h ++ filter (λ n. not (is_taken h n)) (delivered e.call e.reply)
  free_more off =
      ap (filter (λ n. not (is_taken (h ++ e ∷ []) n))) (deliveries_more requests h e)
      ∙ filter_agree (λ n. not (is_taken (h ++ e ∷ []) n)) (λ n. not (is_taken h n)) (λ n. ap not (taken_kept requests h e n (off n))) (deliveries requests h ++ delivered e.call e.reply)
      ∙ filter-append (λ n. not (is_taken h n)) (deliveries requests h) (delivered e.call e.reply)

  free_kept : ((n : ℕ) → takes n e.call e.reply ≡ false) → delivered e.call e.reply ≡ [] → free requests (h ++ e ∷ []) ≡ free requests h
  free_kept off none =
      free_more off ∙ ap (λ (ns : List ℕ). free requests h ++ filter (λ n. not (is_taken h n)) ns) none ∙ append-nil (free requests h)

  not_or : (a b c : Bool) → b ≡ c → not (a || b) ≡ (not a && not c)
  not_or true b c same = refl
  not_or false b c same = ap not same

  never_fewer : length (deliveries requests h) ≤ length (deliveries requests (h ++ e ∷ []))
  never_fewer = omega (arith, ap length (deliveries_more requests h e), length-append (deliveries requests h) (delivered e.call e.reply))

  -- there are no more than were free and came
  free_most : length (free requests (h ++ e ∷ [])) + length (deliveries requests h) ≤ length (free requests h) + length (deliveries requests (h ++ e ∷ []))
  free_most =
      let p : ℕ → Bool = λ n. not (is_taken h n) in
      let q : ℕ → Bool = λ n. not (takes n e.call e.reply) in
      let ds : List ℕ = deliveries requests h in
      let new : List ℕ = delivered e.call e.reply in
      let parts : free requests (h ++ e ∷ []) ≡ filter q (free requests h) ++ filter (λ n. p n && q n) new =
      ap (filter (λ n. not (is_taken (h ++ e ∷ []) n))) (deliveries_more requests h e)
      ∙ filter_agree (λ n. not (is_taken (h ++ e ∷ []) n)) (λ n. p n && q n)
      (λ n. ap not (taken_more requests h e n) ∙ not_or (is_taken h n) (takes n e.call e.reply) (takes n e.call e.reply) refl) (ds ++ new)
      ∙ filter-append (λ n. p n && q n) ds new
      ∙ ap (λ (ns : List ℕ). ns ++ filter (λ n. p n && q n) new) (filter-and p q ds) in
      omega (
        arith,
        ap length parts,
        length-append (filter q (free requests h)) (filter (λ n. p n && q n) new),
        filter-most q (free requests h),
        filter-most (λ n. p n && q n) new,
        ap length (deliveries_more requests h e),
        length-append ds new,
      )

  -- the message numbered k is taken
  free_less : (k : ℕ) → ((n : ℕ) → takes n e.call e.reply ≡ (n == k)) → delivered e.call e.reply ≡ [] → free requests (h ++ e ∷ []) ≡ filter (λ n. not (n == k)) (free requests h)
  free_less k on none =
      ap (filter (λ n. not (is_taken (h ++ e ∷ []) n))) (deliveries_more requests h e ∙ ap (λ (ns : List ℕ). deliveries requests h ++ ns) none ∙ append-nil (deliveries requests h))
      ∙ filter_agree (λ n. not (is_taken (h ++ e ∷ []) n)) (λ n. not (is_taken h n) && not (n == k))
      (λ n. ap not (taken_more requests h e n) ∙ not_or (is_taken h n) (takes n e.call e.reply) (n == k) (on n)) (deliveries requests h)
      ∙ filter-and (λ n. not (is_taken h n)) (λ n. not (n == k)) (deliveries requests h)

-- What each call makes of it.

module _ (m n : Inbox) (h : List Entry) (e : Entry) (at : At m h) (f : Follows (start_of m) h e) where
  abbrev rs : List Message
  rs = requests_of m

  abbrev count : ℕ
  count = length (messages rs h)

  due_by : (c : Call) → e.call ≡ c → e.reply ≡ inbox_due rs h c
  due_by c is = f.reply ∙ ap (λ (x : Call). inbox_due rs h x) is

  ready_by : (c : Call) → e.call ≡ c → inbox_ready rs h c ≡ true
  ready_by c is = ap (λ (x : Call). inbox_ready rs h x) (sym is) ∙ f.is_ready

  knows_more : (fates : List Fate) (free' : List ℕ) → Turns m n (m.messages.items ++ posted e.call) fates free'
      → fates ≡ map (fate_of (h ++ e ∷ [])) (numbers rs (h ++ e ∷ [])) → free' ≡ free rs (h ++ e ∷ []) → Knows n (h ++ e ∷ [])
  knows_more fates free' turns fates_are free_are =
      let k = at.state.knows in
      let same : requests_of n ≡ rs = same_requests m n (posted e.call) fates free' k.requests_within turns in
      record {
        requests_within = omega (arith, k.requests_within, turns.requests_is, ap length turns.messages_are, length-append m.messages.items (posted e.call));
        messages_are =
            turns.messages_are ∙ ap (λ (ms : List Message). ms ++ posted e.call) k.messages_are ∙ sym (messages_more rs h e)
            ∙ ap (λ (xs : List Message). messages xs (h ++ e ∷ [])) (sym same);
        fates_are = turns.fates_are ∙ fates_are ∙ ap (λ (xs : List Message). map (fate_of (h ++ e ∷ [])) (numbers xs (h ++ e ∷ []))) (sym same);
        free_are = turns.free_are ∙ free_are ∙ ap (λ (xs : List Message). free xs (h ++ e ∷ [])) (sym same);
        came_within =
            omega (arith, turns.came_within, k.came_within, free_most rs h e, never_fewer rs h e, ap length free_are, ap length k.free_are, ap (λ (xs : List Message). length (deliveries xs (h ++ e ∷ []))) same);
      }

  -- where no message is posted
  module _ (none : posted e.call ≡ []) where
    same_numbers : numbers rs (h ++ e ∷ []) ≡ numbers rs h
    same_numbers =
        ap (λ (ms : List Message). range_with_len 1 (length ms)) (messages_more rs h e ∙ ap (λ (ms : List Message). messages rs h ++ ms) none ∙ append-nil (messages rs h))

    knows_other : (fates : List Fate) (free' : List ℕ) → Turns m n m.messages.items fates free'
        → fates ≡ map (fate_of (h ++ e ∷ [])) (numbers rs h) → free' ≡ free rs (h ++ e ∷ []) → Knows n (h ++ e ∷ [])
    knows_other fates free' turns fates_are free_are =
        knows_more fates free' (subst (λ (more : List Message). Turns m n (m.messages.items ++ more) fates free') (sym none) (none_more m n fates free' turns))
        (fates_are ∙ ap (λ (ns : List ℕ). map (fate_of (h ++ e ∷ [])) ns) (sym same_numbers)) free_are

    -- and one message has another fate
    knows_set : (k : ℕ) (change : Fate → Fate) (free' : List ℕ) → 1 ≤ k → k ≤ count
        → ((d : Fate) → Turns m n m.messages.items (set m.fates.items (k - 1) (change (get_or m.fates.items (k - 1) d))) free')
        → change (fate_of h k) ≡ fate_of (h ++ e ∷ []) k → ((j : ℕ) → (j ≡ k → ⊥) → fate_of h j ≡ fate_of (h ++ e ∷ []) j) → free' ≡ free rs (h ++ e ∷ [])
        → Knows n (h ++ e ∷ [])
    knows_set k change free' some within turns here others free_are =
        let is : change (get_or m.fates.items (k - 1) untouched) ≡ fate_of (h ++ e ∷ []) k =
        ap change (fate_at m h at k untouched some (omega (arith, count_fates m h at))) ∙ here in
        knows_other (set m.fates.items (k - 1) (change (get_or m.fates.items (k - 1) untouched))) free' (turns untouched)
        (ap (λ (fs : List Fate). set fs (k - 1) (change (get_or m.fates.items (k - 1) untouched))) at.state.knows.fates_are
        ∙ set_mapped (fate_of h) (fate_of (h ++ e ∷ [])) count k (change (get_or m.fates.items (k - 1) untouched)) some within is others)
        free_are

  -- a take
  pub knows_taken : (nth k : ℕ) → e.call ≡ Take nth → IsHanding m h nth k
      → ((d : Fate) → Turns m n m.messages.items (set m.fates.items (k - 1) (taken (get_or m.fates.items (k - 1) d))) (filter (λ j. not (j == k)) m.free.items))
      → Knows n (h ++ e ∷ [])
  knows_taken nth k is hand turns =
      let ms : List Message = messages rs h in
      let none : posted e.call ≡ [] = ap posted is in
      let message : Message = get_or ms (k - 1) no_message in
      let reply : e.reply ≡ Got k message =
      due_by (Take nth) is ∙ ap (handed ms) hand.here ∙ ap (got_of k) (at_number ms k no_message hand.some hand.within) in
      let on : (j : ℕ) → takes j e.call e.reply ≡ (j == k) = λ j. ap₂ (takes j) is reply ∙ flipped k j in
      knows_set none k taken (filter (λ j. not (j == k)) m.free.items) hand.some hand.within turns
      (sym (fate_taken rs h e k (on k ∙ eq-eqb k k refl) (ap (reposts k) is) (ap (replied k) is) (ap (takes_reply k) is)))
      (λ j differs. sym (fate_kept rs h e j (on j ∙ ne_eqb j k differs) (ap (reposts j) is) (ap (replied j) is) (ap (takes_reply j) is)))
      (ap (filter (λ j. not (j == k))) at.state.knows.free_are ∙ sym (free_less rs h e k on (ap₂ delivered is reply)))
    where
      no_message : Message
      no_message = record { kind = kinds.Request; to = 0; depth = 0; handler = []; value = []; baggage = record { items = []; spare = 0 } }

      flipped : (a b : ℕ) → (a == b) ≡ (b == a)
      flipped a b = elim (cases_eq a b) [
        | inl same ↦ eq-eqb a b same ∙ sym (eq-eqb b a (sym same))
        | inr other ↦ ne_eqb a b other ∙ sym (ne_eqb b a (λ x. other (sym x)))
      ]

  -- a repost
  pub knows_reposted : (k : ℕ) → e.call ≡ Repost k
      → ((d : Fate) → Turns m n m.messages.items (set m.fates.items (k - 1) (reposted (get_or m.fates.items (k - 1) d)))
      (m.free.items ++ filter (λ j. not (is_taken h j)) (k ∷ [])))
      → Knows n (h ++ e ∷ [])
  knows_reposted k is turns =
      let off : (j : ℕ) → takes j e.call e.reply ≡ false = λ j. ap (λ (c : Call). takes j c e.reply) is in
      let parts = and_parts (leb 1 k) (leb k count) (ready_by (Repost k) is) in
      knows_set (ap posted is) k reposted (m.free.items ++ filter (λ j. not (is_taken h j)) (k ∷ []))
      (leb-true 1 k parts.0) (leb-true k count parts.1) turns
      (sym (fate_reposted rs h e k (off k) (ap (reposts k) is ∙ eq-eqb k k refl) (ap (replied k) is) (ap (takes_reply k) is)))
      (λ j differs. sym (fate_kept rs h e j (off j) (ap (reposts j) is ∙ ne_eqb k j (λ x. differs (sym x))) (ap (replied j) is)
      (ap (takes_reply j) is)))
      (ap (λ (ns : List ℕ). ns ++ filter (λ j. not (is_taken h j)) (k ∷ [])) at.state.knows.free_are
      ∙ sym (free_more rs h e off ∙ ap (λ (c : Call). free rs h ++ filter (λ j. not (is_taken h j)) (delivered c e.reply)) is))

  -- a reply that is taken
  pub knows_heard : (k : ℕ) → e.call ≡ TakeReply k
      → ((d : Fate) → Turns m n m.messages.items (set m.fates.items (k - 1) (heard (get_or m.fates.items (k - 1) d))) m.free.items) → Knows n (h ++ e ∷ [])
  knows_heard k is turns =
      let off : (j : ℕ) → takes j e.call e.reply ≡ false = λ j. ap (λ (c : Call). takes j c e.reply) is in
      let parts = and_parts (has_reply h k) (not (reply_is_taken h k)) (ready_by (TakeReply k) is) in
      let within = call_within (messages rs h) k ((its_counts m h at).answered_call k parts.0) in
      knows_set (ap posted is) k heard m.free.items within.0 within.1 turns
      (sym (fate_heard rs h e k (off k) (ap (reposts k) is) (ap (replied k) is) (ap (takes_reply k) is ∙ eq-eqb k k refl)))
      (λ j differs. sym (fate_kept rs h e j (off j) (ap (reposts j) is) (ap (replied j) is) (ap (takes_reply j) is ∙ ne_eqb k j (λ x. differs (sym x)))))
      (at.state.knows.free_are ∙ sym (free_kept rs h e off (ap (λ (c : Call). delivered c e.reply) is)))

  -- a reply that is posted
  pub knows_answered : (message : Message) → e.call ≡ Post message → message.kind ≡ kinds.Reply
      → ((d : Fate) → Turns m n m.messages.items (set m.fates.items (message.to - 1) (answered message (get_or m.fates.items (message.to - 1) d))) m.free.items) → Knows n (h ++ e ∷ [])
  knows_answered message is kind turns =
      let k : ℕ = message.to in
      let reply : e.reply ≡ Done = due_by (Post message) is ∙ ap (post_due rs h) kind in
      let parts = and_parts (is_call_message (numbered (messages rs h) k)) (is_taken h k && not (has_reply h k))
      (ap (λ (x : MessageKind). post_ready rs h x k) (sym kind) ∙ ready_by (Post message) is) in
      let new = and_parts (is_taken h k) (not (has_reply h k)) parts.1 in
      let within = call_within (messages rs h) k parts.0 in
      let off : (j : ℕ) → takes j e.call e.reply ≡ false = λ j. ap (λ (c : Call). takes j c e.reply) is in
      let replies_by : (j : ℕ) → replied j e.call ≡ cond (k == j) (message ∷ []) [] = λ j. ap (replied j) is ∙ ap (λ (x : MessageKind). if_to j x message) kind in
      knows_set (ap posted is ∙ ap (λ (x : MessageKind). listed x message) kind) k (answered message) m.free.items within.0 within.1 turns
      (sym (fate_answered rs h e k message (off k) (not-true (has_reply h k) new.1) (ap (reposts k) is)
      (replies_by k ∙ ap (λ (b : Bool). cond {A = List Message} b (message ∷ []) []) (eq-eqb k k refl)) (ap (takes_reply k) is)))
      (λ j differs. sym (fate_kept rs h e j (off j) (ap (reposts j) is)
      (replies_by j ∙ ap (λ (b : Bool). cond {A = List Message} b (message ∷ []) []) (ne_eqb k j (λ x. differs (sym x)))) (ap (takes_reply j) is)))
      (at.state.knows.free_are ∙ sym (free_kept rs h e off (ap₂ delivered is reply)))

  -- a call or send that is posted
  module _ (message : Message) (is : e.call ≡ Post message) (one : posted e.call ≡ message ∷ []) (answers_none : (j : ℕ) → replied j e.call ≡ []) (reply : e.reply ≡ Posted (count + 1)) where
    off : (j : ℕ) → takes j e.call e.reply ≡ false
    off j = ap (λ (c : Call). takes j c e.reply) is

    kept : (j : ℕ) → fate_of (h ++ e ∷ []) j ≡ fate_of h j
    kept j = fate_kept rs h e j (off j) (ap (reposts j) is) (answers_none j) (ap (takes_reply j) is)

    fates_more : map (fate_of h) (numbers rs h) ++ untouched ∷ [] ≡ map (fate_of (h ++ e ∷ [])) (numbers rs (h ++ e ∷ []))
    fates_more =
        let size : length (messages rs (h ++ e ∷ [])) ≡ count + 1 = ap length (messages_more rs h e ∙ ap (λ (ms : List Message). messages rs h ++ ms) one) ∙ length-append (messages rs h) (message ∷ []) in
        let new : fate_of h (1 + count) ≡ untouched = fate_outside rs h (1 + count) (its_counts m h at) (λ some within. omega (arith, within)) in
        ap (λ (f' : Fate). map (fate_of h) (numbers rs h) ++ f' ∷ []) (sym new)
        ∙ sym (map-range_with_len_more (fate_of h) 1 count (1 + count) refl)
        ∙ ap (λ (k : ℕ). map (fate_of h) (range_with_len 1 k)) (sym size)
        ∙ map_same (fate_of h) (fate_of (h ++ e ∷ [])) (numbers rs (h ++ e ∷ [])) (λ j. sym (kept j))

    free_one : free rs h ++ (count + 1) ∷ [] ≡ free rs (h ++ e ∷ [])
    free_one =
        let new : is_taken h (count + 1) ≡ false = ap (λ (f' : Fate). f'.taken) (fate_outside rs h (count + 1) (its_counts m h at) (λ some within. omega (arith, within))) in
        sym (free_more rs h e off ∙ ap (λ (ns : List ℕ). free rs h ++ filter (λ j. not (is_taken h j)) ns) (ap₂ delivered is reply)
        ∙ ap (λ (b : Bool). free rs h ++ cond (not b) ((count + 1) ∷ []) []) new)

    knows_added : Turns m n (m.messages.items ++ message ∷ []) (m.fates.items ++ untouched ∷ []) (m.free.items ++ (length m.messages.items + 1) ∷ []) → Knows n (h ++ e ∷ [])
    knows_added turns =
        knows_more (m.fates.items ++ untouched ∷ []) (m.free.items ++ (length m.messages.items + 1) ∷ [])
        (subst (λ (more : List Message). Turns m n (m.messages.items ++ more) (m.fates.items ++ untouched ∷ []) (m.free.items ++ (length m.messages.items + 1) ∷ [])) (sym one) turns)
        (ap (λ (fs : List Fate). fs ++ untouched ∷ []) at.state.knows.fates_are ∙ fates_more)
        (ap₂ (λ (ns : List ℕ) (k : ℕ). ns ++ (k + 1) ∷ []) at.state.knows.free_are (count_messages m h at) ∙ free_one)

  pub knows_posted : (message : Message) → e.call ≡ Post message → (message.kind ≡ kinds.Reply → ⊥)
      → Turns m n (m.messages.items ++ message ∷ []) (m.fates.items ++ untouched ∷ []) (m.free.items ++ (length m.messages.items + 1) ∷ []) → Knows n (h ++ e ∷ [])
  knows_posted message is other turns = by_kind message.kind refl where
    by_kind : (k : MessageKind) → message.kind ≡ k → Knows n (h ++ e ∷ [])
    by_kind kinds.Request kind = let on : false ≡ true = ap (λ (x : MessageKind). post_ready rs h x message.to) (sym kind) ∙ ready_by (Post message) is in absurd (cc)
    by_kind kinds.Reply kind = absurd (other kind)
    by_kind kinds.Call kind =
        knows_added message is (ap posted is ∙ ap (λ (x : MessageKind). listed x message) kind) (λ j. ap (replied j) is ∙ ap (λ (x : MessageKind). if_to j x message) kind)
        (due_by (Post message) is ∙ ap (post_due rs h) kind) turns
    by_kind kinds.Send kind =
        knows_added message is (ap posted is ∙ ap (λ (x : MessageKind). listed x message) kind) (λ j. ap (replied j) is ∙ ap (λ (x : MessageKind). if_to j x message) kind)
        (due_by (Post message) is ∙ ap (post_due rs h) kind) turns
