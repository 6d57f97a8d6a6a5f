-- What an inbox that stands for a history finds of a message.
use Rattle.std.proofs.Common.{◌≡◌, ℕ, ◌+◌, ◌-◌, ◌≤◌, Bool, true, not, cond, ◌&&◌, List, length, get_or, slice_get, flat_map, All, Some, None, sym, ap, ◌∙◌, leb, arith}
use Rattle.std.proofs.lemmas.Bool.{leb-true, lt-ltb, and_parts}
use Rattle.std.proofs.lemmas.List.{length-append}
use Rattle.std.proofs.lemmas.List.Concat.{length-flat_map}
use Rattle.std.proofs.lemmas.List.Sums.{sum_by-le}
use Rattle.std.proofs.lemmas.List.Elements.{All-filter}
use Rattle.std.proofs.lemmas.List.FromFn.{length-map-range_with_len, get_or-map-range_with_len}
use Rattle.std.proofs.lemmas.Option.{slice_get-get_or}
use Rattle.std.specs.List.{range_with_len}
use Rattle.anti_ids.specs.declared.limits.TheConstants.{MOST_UNITS}
use Rattle.anti_kind.specs.declared.call.Call.{Call}
use Rattle.anti_kind.specs.declared.call.Call.TheVariants.{Post, Take, Repost, TakeReply}
use Rattle.anti_kind.specs.declared.entry.Entry.{Entry}
use Rattle.anti_kind.specs.declared.message.Message.{Message}
use Rattle.anti_kind.specs.declared.message.MessageKind.{MessageKind}
use Rattle.anti_kind.specs.declared.message.MessageKind.TheVariants as kinds
use Rattle.anti_kind.specs.declared.call.Reply.{Reply}
use Rattle.anti_kind.specs.declared.call.Reply.TheVariants.{Got, Posted}
use Rattle.anti_kind.specs.Inbox.{posted, messages, delivered, listed, numbered, is_call_message, is_taken, has_reply, reply_is_taken, deliveries, free, got_of, handed, post_ready}
use Rattle.anti_kind.specs.Objects.{inbox, ready, IsLegal}
use Rattle.anti_kind.specs.Starts.{IsInbox}
use Rattle.anti_kind.proofs.Bounds.{length_within}
use Rattle.anti_kind.proofs.Deliveries.{IsCounted, counted, call_within}
use Rattle.anti_inbox.specs.declared.inbox.Fate.{Fate}
use Rattle.anti_inbox.specs.declared.inbox.Inbox.{Inbox}
use Rattle.anti_inbox.specs.inner.Fates.{fate_of, untouched}
use Rattle.anti_inbox.specs.inner.Inboxes.{start_of, requests_of, At}
use Rattle.anti_inbox.proofs.Lists.{length_range}
use Rattle.anti_inbox.proofs.Fates.{fate_outside}

-- each entry adds at most one message
one_at_most : (c : Call) → length (posted c) ≤ 1
one_at_most (Post m) = by_kind m.kind where
  by_kind : (k : MessageKind) → length (listed k m) ≤ 1
  by_kind kinds.Call = omega arith
  by_kind kinds.Send = omega arith
  by_kind _ = omega arith
one_at_most _ = omega arith

-- a legal history has few messages
pub few_messages : (requests : List Message) (h : List Entry) → IsInbox requests → IsLegal (inbox requests) h → length (messages requests h) ≤ 4496
few_messages requests h sane legal =
    let both : length (messages requests h) ≡ length requests + length (flat_map (λ (e : Entry). posted e.call) h) = length-append requests (flat_map (λ (e : Entry). posted e.call) h) in
    let sum = length-flat_map (λ (e : Entry). posted e.call) h in
    let most = sum_by-le (λ (e : Entry). length (posted e.call)) 1 h (λ k d short. one_at_most (get_or h k d).call) in
    let short : length h ≤ MOST_UNITS = length_within (inbox requests) h sane legal in
    omega (arith, sane.few)

-- and each at most one delivery
one_delivery : (c : Call) (r : Reply) → length (delivered c r) ≤ 1
one_delivery (Post m) (Posted n) = omega arith
one_delivery (Repost n) r = omega arith
one_delivery _ _ = omega arith

few_deliveries : (requests : List Message) (h : List Entry) → IsInbox requests → IsLegal (inbox requests) h → length (deliveries requests h) ≤ 4496
few_deliveries requests h sane legal =
    let came : List ℕ = flat_map (λ (e : Entry). delivered e.call e.reply) h in
    let both : length (deliveries requests h) ≡ length (range_with_len 1 (length requests)) + length came = length-append (range_with_len 1 (length requests)) came in
    let sum = length-flat_map (λ (e : Entry). delivered e.call e.reply) h in
    let most = sum_by-le (λ (e : Entry). length (delivered e.call e.reply)) 1 h (λ k d short. one_delivery (get_or h k d).call (get_or h k d).reply) in
    let short : length h ≤ MOST_UNITS = length_within (inbox requests) h sane legal in
    omega (arith, sane.few, length_range (length requests))

module _ (m : Inbox) (h : List Entry) (at : At m h) where
  abbrev rs : List Message
  rs = requests_of m

  pub its_counts : IsCounted rs h
  its_counts = counted rs h at.legal

  pub count_messages : length m.messages.items ≡ length (messages rs h)
  count_messages = ap length at.state.knows.messages_are

  pub count_fates : length m.fates.items ≡ length (messages rs h)
  count_fates = ap length at.state.knows.fates_are ∙ length-map-range_with_len (fate_of h) 1 (length (messages rs h))

  pub its_few : length m.messages.items ≤ 4496
  its_few = omega (arith, count_messages, few_messages rs h at.sane at.legal)

  pub few_came : m.free.next ≤ 4496
  few_came = omega (arith, at.state.knows.came_within, few_deliveries rs h at.sane at.legal)

  -- what stands at the index of a number
  pub fate_at : (n : ℕ) (d : Fate) → 1 ≤ n → n ≤ length m.fates.items → get_or m.fates.items (n - 1) d ≡ fate_of h n
  fate_at n d some within =
      ap (λ (fs : List Fate). get_or fs (n - 1) d) at.state.knows.fates_are
      ∙ get_or-map-range_with_len (fate_of h) 1 (length (messages rs h)) (n - 1) n d (omega (arith, count_fates)) (omega arith)

  pub fate_none : (n : ℕ) → (1 ≤ n → n ≤ length m.fates.items → ⊥) → fate_of h n ≡ untouched
  fate_none n outside = fate_outside rs h n its_counts (λ some within. outside some (omega (arith, count_fates)))

-- the numbers of free deliveries are those of messages
pub free_within : (requests : List Message) (h : List Entry) → IsCounted requests h → All (λ k. (1 ≤ k) × (k ≤ length (messages requests h))) (free requests h)
free_within requests h was =
    All-filter (λ k. not (is_taken h k)) (λ k. (1 ≤ k) × (k ≤ length (messages requests h))) (deliveries requests h) was.delivered_within

-- the item with a number
pub at_number : {A : Type 0} (xs : List A) (n : ℕ) (d : A) → 1 ≤ n → n ≤ length xs → numbered xs n ≡ Some (get_or xs (n - 1) d)
at_number {A} xs n d some within =
    ap (λ (b : Bool). cond b (slice_get xs (n - 1)) None) (lt-ltb 0 n (omega arith)) ∙ slice_get-get_or xs (n - 1) d (omega arith)

-- the nth free delivery is there, and is one of the message numbered k
pub record IsHanding (m : Inbox) (h : List Entry) (nth k : ℕ) : Type 0 where
  pub some : 1 ≤ k
  pub within : k ≤ length (messages (requests_of m) h)
  pub here : numbered (free (requests_of m) h) nth ≡ Some k

-- a take that is ready takes one that the inbox has
pub taking_within : (m : Inbox) (h : List Entry) (nth : ℕ) → At m h → ready (start_of m) h (Take nth) ≡ true → (1 ≤ nth) × (nth ≤ length m.free.items)
taking_within m h nth at is_ready =
    let xs : List ℕ = free (requests_of m) h in
    let parts = and_parts (leb 1 nth) (leb nth (length xs)) is_ready in
    (leb-true 1 nth parts.0, omega (arith, leb-true nth (length xs) parts.1, ap length at.state.knows.free_are))

pub handing : (m : Inbox) (h : List Entry) (nth k : ℕ) → At m h → (1 ≤ nth) × (nth ≤ length m.free.items) → k ≡ get_or m.free.items (nth - 1) k → IsHanding m h nth k
handing m h nth k at there read =
    let xs : List ℕ = free (requests_of m) h in
    let within : nth ≤ length xs = omega (arith, there.1, ap length at.state.knows.free_are) in
    let is : k ≡ get_or xs (nth - 1) k = read ∙ ap (λ (ns : List ℕ). get_or ns (nth - 1) k) at.state.knows.free_are in
    let in' : (1 ≤ get_or xs (nth - 1) k) × (get_or xs (nth - 1) k ≤ length (messages (requests_of m) h)) =
    free_within (requests_of m) h (its_counts m h at) (nth - 1) k (omega (arith, there.0)) in
    record { some = omega (arith, in'.0); within = omega (arith, in'.1); here = at_number xs nth k there.0 within ∙ ap Some (sym is) }

-- what that delivery hands out
pub hands_out : (m : Inbox) (h : List Entry) (nth k : ℕ) (message : Message) → At m h → IsHanding m h nth k → slice_get m.messages.items (k - 1) ≡ Some message
    → handed (messages (requests_of m) h) (numbered (free (requests_of m) h) nth) ≡ Got k message
hands_out m h nth k message at hand there =
    let ms : List Message = messages (requests_of m) h in
    let found : numbered ms k ≡ Some message =
    ap (λ (b : Bool). cond b (slice_get ms (k - 1)) None) (lt-ltb 0 k (omega (arith, hand.some)))
    ∙ ap (λ (xs : List Message). slice_get xs (k - 1)) (sym at.state.knows.messages_are) ∙ there in
    ap (handed ms) hand.here ∙ ap (got_of k) found

-- what is delivered again is among them
pub reposting_within : (m : Inbox) (h : List Entry) (k : ℕ) → At m h → ready (start_of m) h (Repost k) ≡ true → (1 ≤ k) × (k ≤ length m.fates.items)
reposting_within m h k at is_ready =
    let parts = and_parts (leb 1 k) (leb k (length (messages (requests_of m) h))) is_ready in
    (leb-true 1 k parts.0, omega (arith, leb-true k (length (messages (requests_of m) h)) parts.1, count_fates m h at))

-- the call that a reply is for is among the messages
pub answering_within : (m : Inbox) (h : List Entry) (message : Message) → At m h → ready (start_of m) h (Post message) ≡ true → message.kind ≡ kinds.Reply
    → (1 ≤ message.to) × (message.to ≤ length m.fates.items)
answering_within m h message at is_ready kind =
    let ms : List Message = messages (requests_of m) h in
    let parts = and_parts (is_call_message (numbered ms message.to)) (is_taken h message.to && not (has_reply h message.to))
    (ap (λ (k : MessageKind). post_ready (requests_of m) h k message.to) (sym kind) ∙ is_ready) in
    let within = call_within ms message.to parts.0 in
    (within.0, omega (arith, within.1, count_fates m h at))

-- and so is the call whose reply is taken
pub hearing_within : (m : Inbox) (h : List Entry) (k : ℕ) → At m h → ready (start_of m) h (TakeReply k) ≡ true → (1 ≤ k) × (k ≤ length m.fates.items)
hearing_within m h k at is_ready =
    let parts = and_parts (has_reply h k) (not (reply_is_taken h k)) is_ready in
    let within = call_within (messages (requests_of m) h) k ((its_counts m h at).answered_call k parts.0) in
    (within.0, omega (arith, within.1, count_fates m h at))
