-- The messages of an inbox: what each call does to those that were not taken, not answered and not heard.
use Rattle.std.proofs.Common.{◌≡◌, ℕ, zero, suc, ◌+◌, ◌-◌, ◌*◌, ◌<◌, ◌≤◌, Bool, true, false, not, cond, ◌&&◌, ◌||◌, List, [], ◌∷◌, ◌++◌, length, get_or, slice_get, flat_map, Option, Some, None, All, sum_by, count_by, refl, sym, ap, ap₂, subst, ◌∙◌, ◌⊎◌, inl, inr, ⊎_elim, ◌==◌, leb, ltb, eq-eqb, ne_eqb, eqb-true, append_assoc, append-nil, length-append, arith}
use Rattle.std.specs.List.{range_with_len}
use Rattle.std.proofs.lemmas.List.Concat.{flat_map-append}
use Rattle.std.proofs.lemmas.List.{nil_from_length}
use Rattle.std.proofs.lemmas.List.Folds.{list_any-append}
use Rattle.std.proofs.lemmas.List.Sums.{sum_by-cons}
use Rattle.std.proofs.lemmas.List.FromFn.{get_or-range_with_len, length-range_with_len}
use Rattle.std.proofs.lemmas.List.Elements.{All-append, All-filter, filter_passes}
use Rattle.std.proofs.lemmas.Option.{get_or_from_slice_get, slice_get-get_or, slice_get_past, slice_get_cases}
use Rattle.std.proofs.lemmas.Bool.{leb-true, ltb-true, and_parts, or_cases, cases_lt, cases_eq, not-true, and_left, and_right, and_from, false_from_ne_true, lt-ltb, le-ltb, or_right}
use Rattle.anti_kind.specs.declared.call.Call.{Call}
use Rattle.anti_kind.specs.declared.call.Call.TheVariants.{Write, Read, Scan, Poll, Look, Ship, Again, Pull, Repull, Ack, Nack, Post, Take, Repost, TakeReply}
use Rattle.anti_kind.specs.declared.call.Reply.TheVariants.{Posted, Got, Done}
use Rattle.anti_kind.specs.declared.entry.Entry.{Entry}
use Rattle.anti_kind.specs.declared.message.Message.{Message}
use Rattle.anti_kind.specs.declared.message.MessageKind.{MessageKind}
use Rattle.anti_kind.specs.declared.message.MessageKind.TheVariants as kinds
use Rattle.anti_kind.specs.Inbox.{numbered, listed, posted, messages, is_call, is_call_message, delivered, deliveries, takes, is_taken, free, if_to, replied, replies, has_reply, takes_reply, reply_is_taken, got_of, handed, post_ready, post_due, post_need, inbox_ready, inbox_due, inbox_need, owed_for}
use Rattle.anti_kind.specs.inner.Owing.{numbers, untaken, unanswered, unheard}
use Rattle.anti_kind.specs.Objects.{inbox, weight, held, owed, need, Follows, IsLegal}
use Rattle.anti_kind.specs.Starts.{IsInbox}
use Rattle.anti_kind.proofs.Histories.{by_entries, held_more}
use Rattle.anti_kind.proofs.Rows.{or_false}
use Rattle.anti_kind.proofs.Sums.{count_numbers_same, count_numbers_less, count_numbers_more, count_all, count_none}

-- One entry more.

module _ (requests : List Message) (h : List Entry) (e : Entry) where
  pub messages_more : messages requests (h ++ e ∷ []) ≡ messages requests h ++ posted e.call
  messages_more =
      ap (λ (ms : List Message). requests ++ ms) (flat_map-append (λ (x : Entry). posted x.call) h (e ∷ []) ∙ ap (λ (ms : List Message). flat_map (λ (x : Entry). posted x.call) h ++ ms) (append-nil (posted e.call)))
      ∙ sym (append_assoc requests (flat_map (λ (x : Entry). posted x.call) h) (posted e.call))

  pub deliveries_more : deliveries requests (h ++ e ∷ []) ≡ deliveries requests h ++ delivered e.call e.reply
  deliveries_more =
      ap (λ (ns : List ℕ). range_with_len 1 (length requests) ++ ns) (flat_map-append (λ (x : Entry). delivered x.call x.reply) h (e ∷ []) ∙ ap (λ (ns : List ℕ). flat_map (λ (x : Entry). delivered x.call x.reply) h ++ ns) (append-nil (delivered e.call e.reply)))
      ∙ sym (append_assoc (range_with_len 1 (length requests)) (flat_map (λ (x : Entry). delivered x.call x.reply) h) (delivered e.call e.reply))

  pub taken_more : (n : ℕ) → is_taken (h ++ e ∷ []) n ≡ (is_taken h n || takes n e.call e.reply)
  taken_more n = list_any-append (λ (x : Entry). takes n x.call x.reply) h (e ∷ []) ∙ ap (λ (b : Bool). is_taken h n || b) (or_false (takes n e.call e.reply))

  pub heard_more : (n : ℕ) → reply_is_taken (h ++ e ∷ []) n ≡ (reply_is_taken h n || takes_reply n e.call)
  heard_more n = list_any-append (λ (x : Entry). takes_reply n x.call) h (e ∷ []) ∙ ap (λ (b : Bool). reply_is_taken h n || b) (or_false (takes_reply n e.call))

  pub replies_more : (n : ℕ) → replies (h ++ e ∷ []) n ≡ replies h n ++ replied n e.call
  replies_more n = flat_map-append (λ (x : Entry). replied n x.call) h (e ∷ []) ∙ ap (λ (ms : List Message). replies h n ++ ms) (append-nil (replied n e.call))

  pub taken_kept : (n : ℕ) → takes n e.call e.reply ≡ false → is_taken (h ++ e ∷ []) n ≡ is_taken h n
  taken_kept n off = taken_more n ∙ ap (λ (b : Bool). is_taken h n || b) off ∙ or_false (is_taken h n)

  pub heard_kept : (n : ℕ) → takes_reply n e.call ≡ false → reply_is_taken (h ++ e ∷ []) n ≡ reply_is_taken h n
  heard_kept n off = heard_more n ∙ ap (λ (b : Bool). reply_is_taken h n || b) off ∙ or_false (reply_is_taken h n)

  pub answered_kept : (n : ℕ) → replied n e.call ≡ [] → has_reply (h ++ e ∷ []) n ≡ has_reply h n
  answered_kept n off = ap (λ (ms : List Message). ltb 0 (length ms)) (replies_more n ∙ ap (λ (ms : List Message). replies h n ++ ms) off ∙ append-nil (replies h n))

-- Numbers in a list that grows.

pub slice_get_left : {A : Type 0} (xs ys : List A) (i : ℕ) → i < length xs → slice_get (xs ++ ys) i ≡ slice_get xs i
slice_get_left [] ys i short = absurd (omega arith)
slice_get_left (x ∷ xs) ys zero short = refl
slice_get_left (x ∷ xs) ys (suc i) short = slice_get_left xs ys i (omega arith)

slice_get_last : {A : Type 0} (xs : List A) (x : A) (i : ℕ) → i ≡ length xs → slice_get (xs ++ x ∷ []) i ≡ Some x
slice_get_last [] x i is = rw is refl
slice_get_last (y ∷ xs) x zero is = absurd (omega (arith, is))
slice_get_last (y ∷ xs) x (suc i) is = slice_get_last xs x i (omega (arith, is))

pub numbered_kept : {A : Type 0} (xs ys : List A) (n : ℕ) → n ≤ length xs → numbered (xs ++ ys) n ≡ numbered xs n
numbered_kept {A} xs ys n within =
    ⊎_elim (λ (some : 0 < n). ap (λ (o : Option A). cond (ltb 0 n) o None) (slice_get_left xs ys (n - 1) (omega arith)))
    (λ (none : n ≤ 0). let off : ltb 0 n ≡ false = le-ltb 0 n none in ap (λ (b : Bool). cond b (slice_get (xs ++ ys) (n - 1)) None) off ∙ sym (ap (λ (b : Bool). cond b (slice_get xs (n - 1)) None) off))
    (cases_lt 0 n)

-- the one that was added has the next number
pub numbered_new : {A : Type 0} (xs : List A) (x : A) (n : ℕ) → n ≡ length xs + 1 → numbered (xs ++ x ∷ []) n ≡ Some x
numbered_new xs x n is =
    let on : ltb 0 n ≡ true = lt-ltb 0 n (omega arith) in
    ap (λ (b : Bool). cond b (slice_get (xs ++ x ∷ []) (n - 1)) None) on ∙ slice_get_last xs x (n - 1) (omega arith)

pub numbered_past : {A : Type 0} (xs : List A) (n : ℕ) → length xs < n → numbered xs n ≡ None
numbered_past xs n past =
    let on : ltb 0 n ≡ true = lt-ltb 0 n (omega arith) in
    ap (λ (b : Bool). cond b (slice_get xs (n - 1)) None) on ∙ slice_get_past xs (n - 1) (omega arith)

pub call_within : (ms : List Message) (n : ℕ) → is_call_message (numbered ms n) ≡ true → (1 ≤ n) × (n ≤ length ms)
call_within ms n is = (
  ⊎_elim (λ (none : n < 1). let off : numbered ms n ≡ None = ap (λ (b : Bool). cond b (slice_get ms (n - 1)) None) (le-ltb 0 n (omega arith)) in absurd (nobody off)) (λ (some : 1 ≤ n). some) (cases_lt n 1),
  ⊎_elim (λ (past : length ms < n). absurd (nobody (numbered_past ms n past))) (λ (in' : n ≤ length ms). in') (cases_lt (length ms) n),
)
  where
    nobody : numbered ms n ≡ None → ⊥
    nobody none = let k : is_call_message None ≡ true = ap is_call_message (sym none) ∙ is in cc

-- What an inbox has taken, answered and heard are numbers of its messages, and only calls are answered.

pub record IsCounted (requests : List Message) (h : List Entry) : Type 0 where
  pub delivered_within : All (λ n. (1 ≤ n) × (n ≤ length (messages requests h))) (deliveries requests h)
  pub taken_within : (n : ℕ) → is_taken h n ≡ true → (1 ≤ n) × (n ≤ length (messages requests h))
  pub answered_call : (n : ℕ) → has_reply h n ≡ true → is_call_message (numbered (messages requests h) n) ≡ true
  pub heard_answered : (n : ℕ) → reply_is_taken h n ≡ true → has_reply h n ≡ true

-- What `ready` says, by the call.

module _ (requests : List Message) (h : List Entry) (e : Entry) (f : Follows (inbox requests) h e) where
  ready_by : (c : Call) → e.call ≡ c → inbox_ready requests h c ≡ true
  ready_by c is = ap (λ (x : Call). inbox_ready requests h x) (sym is) ∙ f.is_ready

  reply_by : (c : Call) → e.call ≡ c → e.reply ≡ inbox_due requests h c
  reply_by c is = f.reply ∙ ap (λ (x : Call). inbox_due requests h x) is

  -- a take hands out a delivery that is free
  pub record IsTaking (n : ℕ) : Type 0 where
    pub some : 1 ≤ n
    pub within : n ≤ length (messages requests h)
    pub new : is_taken h n ≡ false
    pub gets : (k : ℕ) → takes k e.call e.reply ≡ (n == k)
    pub one : weight e.reply ≡ 1

numbered_within : {A : Type 0} (xs : List A) (n : ℕ) → 1 ≤ n → n ≤ length xs → (x : A) × (numbered xs n ≡ Some x)
numbered_within {A} xs n some within =
    let on : numbered xs n ≡ slice_get xs (n - 1) = ap (λ (b : Bool). cond b (slice_get xs (n - 1)) None) (lt-ltb 0 n (omega arith)) in
    ⊎_elim (λ (found : (x : A) × (n - 1 < length xs) × (slice_get xs (n - 1) ≡ Some x) × (get_or xs (n - 1) x ≡ x)). (found.0, on ∙ found.2))
    (λ (past : (length xs ≤ n - 1) × (slice_get xs (n - 1) ≡ None)). absurd (omega (arith, past.0)))
    (slice_get_cases xs (n - 1)).1

and_true : (b : Bool) → (b && true) ≡ b
and_true true = refl
and_true false = refl

take_one : (requests : List Message) (h : List Entry) (e : Entry) (f : Follows (inbox requests) h e) (nth : ℕ) → IsCounted requests h → e.call ≡ Take nth → (n : ℕ) × IsTaking requests h e f n
take_one requests h e f nth was is =
    let on = and_parts (leb 1 nth) (leb nth (length (free requests h))) (ready_by requests h e f (Take nth) is) in
    let some : 1 ≤ nth = leb-true 1 nth on.0 in
    let within : nth ≤ length (free requests h) = leb-true nth (length (free requests h)) on.1 in
    let n : ℕ = get_or (free requests h) (nth - 1) 0 in
    let at : numbered (free requests h) nth ≡ Some n =
    ap (λ (b : Bool). cond b (slice_get (free requests h) (nth - 1)) None) (lt-ltb 0 nth (omega arith)) ∙ slice_get-get_or (free requests h) (nth - 1) 0 (omega arith) in
    let new : not (is_taken h n) ≡ true = filter_passes (λ k. not (is_taken h k)) (deliveries requests h) (nth - 1) 0 (omega arith) in
    let in' : (1 ≤ n) × (n ≤ length (messages requests h)) =
    All-filter (λ k. not (is_taken h k)) (λ k. (1 ≤ k) × (k ≤ length (messages requests h))) (deliveries requests h) was.delivered_within (nth - 1) 0 (omega arith) in
    let found : (m : Message) × (numbered (messages requests h) n ≡ Some m) = numbered_within (messages requests h) n in'.0 in'.1 in
    let reply : e.reply ≡ Got n found.0 =
    reply_by requests h e f (Take nth) is ∙ ap (handed (messages requests h)) at ∙ ap (got_of n) found.1 in
    (n, record { some = in'.0; within = in'.1; new = not-true (is_taken h n) new; gets = λ k. ap₂ (takes k) is reply; one = ap weight reply })

-- What each call does to the three counts.

module _ (requests : List Message) (h : List Entry) (e : Entry) where
  messages_same : posted e.call ≡ [] → messages requests (h ++ e ∷ []) ≡ messages requests h
  messages_same none = messages_more requests h e ∙ ap (λ (ms : List Message). messages requests h ++ ms) none ∙ append-nil (messages requests h)

  untaken_same : posted e.call ≡ [] → ((n : ℕ) → takes n e.call e.reply ≡ false) → untaken requests (h ++ e ∷ []) ≡ untaken requests h
  untaken_same none off =
      ap (λ (ms : List Message). count_by (λ n. not (is_taken (h ++ e ∷ []) n)) (range_with_len 1 (length ms))) (messages_same none)
      ∙ count_numbers_same (λ n. not (is_taken (h ++ e ∷ []) n)) (λ n. not (is_taken h n)) (length (messages requests h)) (λ n some within. ap not (taken_kept requests h e n (off n)))

  unanswered_same : posted e.call ≡ [] → ((n : ℕ) → replied n e.call ≡ []) → unanswered requests (h ++ e ∷ []) ≡ unanswered requests h
  unanswered_same none off =
      ap (λ (ms : List Message). count_by (λ n. is_call_message (numbered ms n) && not (has_reply (h ++ e ∷ []) n)) (range_with_len 1 (length ms))) (messages_same none)
      ∙ count_numbers_same (λ n. is_call_message (numbered (messages requests h) n) && not (has_reply (h ++ e ∷ []) n)) (λ n. is_call_message (numbered (messages requests h) n) && not (has_reply h n)) (length (messages requests h))
      (λ n some within. ap (λ (b : Bool). is_call_message (numbered (messages requests h) n) && not b) (answered_kept requests h e n (off n)))

  unheard_same : posted e.call ≡ [] → ((n : ℕ) → takes_reply n e.call ≡ false) → unheard requests (h ++ e ∷ []) ≡ unheard requests h
  unheard_same none off =
      ap (λ (ms : List Message). count_by (λ n. is_call_message (numbered ms n) && not (reply_is_taken (h ++ e ∷ []) n)) (range_with_len 1 (length ms))) (messages_same none)
      ∙ count_numbers_same (λ n. is_call_message (numbered (messages requests h) n) && not (reply_is_taken (h ++ e ∷ []) n)) (λ n. is_call_message (numbered (messages requests h) n) && not (reply_is_taken h n)) (length (messages requests h))
      (λ n some within. ap (λ (b : Bool). is_call_message (numbered (messages requests h) n) && not b) (heard_kept requests h e n (off n)))

  -- a message is taken
  untaken_less : posted e.call ≡ [] → (m : ℕ) → 1 ≤ m → m ≤ length (messages requests h) → is_taken h m ≡ false → ((n : ℕ) → takes n e.call e.reply ≡ (m == n)) → untaken requests h ≡ untaken requests (h ++ e ∷ []) + 1
  untaken_less none m some within new on =
      count_numbers_less (λ n. not (is_taken h n)) (λ n. not (is_taken (h ++ e ∷ []) n)) (length (messages requests h)) m some within (ap not new)
      (ap not (taken_more requests h e m ∙ or_right (is_taken h m) (takes m e.call e.reply) (on m ∙ eq-eqb m m refl)))
      (λ n differs. ap not (sym (taken_kept requests h e n (on n ∙ ne_eqb m n (λ same. differs (sym same))))))
      ∙ ap (λ (ms : List Message). count_by (λ n. not (is_taken (h ++ e ∷ []) n)) (range_with_len 1 (length ms)) + 1) (sym (messages_same none))

  -- a call is answered
  unanswered_less : posted e.call ≡ [] → (m : ℕ) → is_call_message (numbered (messages requests h) m) ≡ true → has_reply h m ≡ false → has_reply (h ++ e ∷ []) m ≡ true → ((n : ℕ) → (n ≡ m → ⊥) → replied n e.call ≡ [])
      → unanswered requests h ≡ unanswered requests (h ++ e ∷ []) + 1
  unanswered_less none m call was now others =
      let in' : (1 ≤ m) × (m ≤ length (messages requests h)) = call_within (messages requests h) m call in
      count_numbers_less (λ n. is_call_message (numbered (messages requests h) n) && not (has_reply h n)) (λ n. is_call_message (numbered (messages requests h) n) && not (has_reply (h ++ e ∷ []) n)) (length (messages requests h)) m in'.0 in'.1
      (and_from (is_call_message (numbered (messages requests h) m)) (not (has_reply h m)) call (ap not was))
      (and_right (is_call_message (numbered (messages requests h) m)) (not (has_reply (h ++ e ∷ []) m)) (ap not now))
      (λ n differs. ap (λ (b : Bool). is_call_message (numbered (messages requests h) n) && not b) (sym (answered_kept requests h e n (others n differs))))
      ∙ ap (λ (ms : List Message). count_by (λ n. is_call_message (numbered ms n) && not (has_reply (h ++ e ∷ []) n)) (range_with_len 1 (length ms)) + 1) (sym (messages_same none))

  -- a reply is taken
  unheard_less : posted e.call ≡ [] → (m : ℕ) → is_call_message (numbered (messages requests h) m) ≡ true → reply_is_taken h m ≡ false → ((n : ℕ) → takes_reply n e.call ≡ (m == n))
      → unheard requests h ≡ unheard requests (h ++ e ∷ []) + 1
  unheard_less none m call was on =
      let in' : (1 ≤ m) × (m ≤ length (messages requests h)) = call_within (messages requests h) m call in
      let now : reply_is_taken (h ++ e ∷ []) m ≡ true = heard_more requests h e m ∙ or_right (reply_is_taken h m) (takes_reply m e.call) (on m ∙ eq-eqb m m refl) in
      count_numbers_less (λ n. is_call_message (numbered (messages requests h) n) && not (reply_is_taken h n)) (λ n. is_call_message (numbered (messages requests h) n) && not (reply_is_taken (h ++ e ∷ []) n)) (length (messages requests h)) m in'.0 in'.1
      (and_from (is_call_message (numbered (messages requests h) m)) (not (reply_is_taken h m)) call (ap not was))
      (and_right (is_call_message (numbered (messages requests h) m)) (not (reply_is_taken (h ++ e ∷ []) m)) (ap not now))
      (λ n differs. ap (λ (b : Bool). is_call_message (numbered (messages requests h) n) && not b) (sym (heard_kept requests h e n (on n ∙ ne_eqb m n (λ same. differs (sym same))))))
      ∙ ap (λ (ms : List Message). count_by (λ n. is_call_message (numbered ms n) && not (reply_is_taken (h ++ e ∷ []) n)) (range_with_len 1 (length ms)) + 1) (sym (messages_same none))

  -- a message is added
  module _ (m : Message) (one : posted e.call ≡ m ∷ []) where
    messages_one : messages requests (h ++ e ∷ []) ≡ messages requests h ++ m ∷ []
    messages_one = messages_more requests h e ∙ ap (λ (ms : List Message). messages requests h ++ ms) one

    length_one : length (messages requests (h ++ e ∷ [])) ≡ length (messages requests h) + 1
    length_one = ap length messages_one ∙ length-append (messages requests h) (m ∷ [])

    kept_number : (n : ℕ) → n ≤ length (messages requests h) → numbered (messages requests (h ++ e ∷ [])) n ≡ numbered (messages requests h) n
    kept_number n within = ap (λ (ms : List Message). numbered ms n) messages_one ∙ numbered_kept (messages requests h) (m ∷ []) n within

    new_number : (n : ℕ) → n ≡ length (messages requests h) + 1 → numbered (messages requests (h ++ e ∷ [])) n ≡ Some m
    new_number n is = ap (λ (ms : List Message). numbered ms n) messages_one ∙ numbered_new (messages requests h) m n is

    untaken_new : IsCounted requests h → ((n : ℕ) → takes n e.call e.reply ≡ false) → untaken requests (h ++ e ∷ []) ≡ untaken requests h + 1
    untaken_new was off =
        let n : ℕ = length (messages requests h) in
        let n' : ℕ = length (messages requests (h ++ e ∷ [])) in
        let fresh : is_taken h n' ≡ false = false_from_ne_true (is_taken h n') (λ on. omega (arith, length_one, (was.taken_within n' on).1)) in
        count_numbers_more (λ k. not (is_taken (h ++ e ∷ []) k)) n n' length_one
        ∙ ap₂ (λ (a b : ℕ). a + b) (count_numbers_same (λ k. not (is_taken (h ++ e ∷ []) k)) (λ k. not (is_taken h k)) n (λ k some within. ap not (taken_kept requests h e k (off k))))
        (ap (λ (b : Bool). cond {A = ℕ} (not b) 1 0) (taken_kept requests h e n' (off n') ∙ fresh))

    -- a count of calls, by a test that the entry leaves and that holds of calls alone
    calls_new : (test test' : ℕ → Bool) → ((n : ℕ) → test' n ≡ test n) → ((n : ℕ) → test n ≡ true → is_call_message (numbered (messages requests h) n) ≡ true)
        → count_by (λ n. is_call_message (numbered (messages requests (h ++ e ∷ [])) n) && not (test' n)) (numbers requests (h ++ e ∷ []))
        ≡ count_by (λ n. is_call_message (numbered (messages requests h) n) && not (test n)) (numbers requests h) + cond (is_call m.kind) 1 0
    calls_new test test' same calls =
        let n : ℕ = length (messages requests h) in
        let n' : ℕ = length (messages requests (h ++ e ∷ [])) in
        let fresh : test' n' ≡ false = same n' ∙ false_from_ne_true (test n') (λ on. omega (arith, length_one, (call_within (messages requests h) n' (calls n' on)).1)) in
        let last : (is_call_message (numbered (messages requests (h ++ e ∷ [])) n') && not (test' n')) ≡ is_call m.kind =
        ap₂ (λ (o : Option Message) (b : Bool). is_call_message o && not b) (new_number n' length_one) fresh ∙ and_true (is_call m.kind) in
        count_numbers_more (λ k. is_call_message (numbered (messages requests (h ++ e ∷ [])) k) && not (test' k)) n n' length_one
        ∙ ap₂ (λ (a b : ℕ). a + b)
        (count_numbers_same (λ k. is_call_message (numbered (messages requests (h ++ e ∷ [])) k) && not (test' k)) (λ k. is_call_message (numbered (messages requests h) k) && not (test k)) n
        (λ k some within. ap₂ (λ (o : Option Message) (b : Bool). is_call_message o && not b) (kept_number k within) (same k)))
        (ap (λ (b : Bool). cond {A = ℕ} b 1 0) last)

    unanswered_new : IsCounted requests h → ((n : ℕ) → replied n e.call ≡ []) → unanswered requests (h ++ e ∷ []) ≡ unanswered requests h + cond (is_call m.kind) 1 0
    unanswered_new was off = calls_new (has_reply h) (has_reply (h ++ e ∷ [])) (λ n. answered_kept requests h e n (off n)) was.answered_call

    unheard_new : IsCounted requests h → ((n : ℕ) → takes_reply n e.call ≡ false) → unheard requests (h ++ e ∷ []) ≡ unheard requests h + cond (is_call m.kind) 1 0
    unheard_new was off =
        calls_new (reply_is_taken h) (reply_is_taken (h ++ e ∷ [])) (λ n. heard_kept requests h e n (off n)) (λ n on. was.answered_call n (was.heard_answered n on))

-- What is owed is the sum of the three counts.

turned : (b : Bool) → cond {A = ℕ} b 0 1 ≡ cond {A = ℕ} (not b) 1 0
turned true = refl
turned false = refl

owed_once : (taken call answered heard : Bool) → cond {A = ℕ} taken 0 1 + cond call (cond answered 0 1 + cond heard 0 1) 0
    ≡ cond {A = ℕ} (not taken) 1 0 + (cond (call && not answered) 1 0 + cond (call && not heard) 1 0)
owed_once taken true answered heard = omega (arith, turned taken, turned answered, turned heard)
owed_once taken false answered heard = omega (arith, turned taken)

module _ (ms : List Message) (h : List Entry) where
  owed_counts : (ns : List ℕ) → sum_by (owed_for ms h) ns
      ≡ count_by (λ n. not (is_taken h n)) ns + (count_by (λ n. is_call_message (numbered ms n) && not (has_reply h n)) ns + count_by (λ n. is_call_message (numbered ms n) && not (reply_is_taken h n)) ns)
  owed_counts [] = refl
  owed_counts (n ∷ ns) =
      let call : Bool = is_call_message (numbered ms n) in
      let once : owed_for ms h n ≡ cond {A = ℕ} (not (is_taken h n)) 1 0 + (cond (call && not (has_reply h n)) 1 0 + cond (call && not (reply_is_taken h n)) 1 0) =
      owed_once (is_taken h n) call (has_reply h n) (reply_is_taken h n) in
      let all = sum_by-cons (owed_for ms h) n ns in
      let a = sum_by-cons (λ (k : ℕ). cond {A = ℕ} (not (is_taken h k)) 1 0) n ns in
      let b = sum_by-cons (λ (k : ℕ). cond {A = ℕ} (is_call_message (numbered ms k) && not (has_reply h k)) 1 0) n ns in
      let c = sum_by-cons (λ (k : ℕ). cond {A = ℕ} (is_call_message (numbered ms k) && not (reply_is_taken h k)) 1 0) n ns in
      let rest = owed_counts ns in
      omega (arith, once, all, a, b, c, rest)

pub owes : (requests : List Message) (h : List Entry) → owed (inbox requests) h ≡ untaken requests h + (unanswered requests h + unheard requests h)
owes requests h = owed_counts (messages requests h) h (numbers requests h)

-- Along a legal history.

-- what an entry owes so that the inbox stays counted
record Owes (requests : List Message) (h : List Entry) (e : Entry) : Type 0 where
  new_delivered : All (λ n. (1 ≤ n) × (n ≤ length (messages requests (h ++ e ∷ [])))) (delivered e.call e.reply)
  new_taken : (n : ℕ) → takes n e.call e.reply ≡ true → (1 ≤ n) × (n ≤ length (messages requests h))
  new_answered : (n : ℕ) → 0 < length (replied n e.call) → is_call_message (numbered (messages requests h) n) ≡ true
  new_heard : (n : ℕ) → takes_reply n e.call ≡ true → has_reply h n ≡ true

module _ (requests : List Message) (h : List Entry) (e : Entry) where
  longer : length (messages requests h) ≤ length (messages requests (h ++ e ∷ []))
  longer = let more : length (messages requests (h ++ e ∷ [])) ≡ length (messages requests h) + length (posted e.call) = ap length (messages_more requests h e) ∙ length-append (messages requests h) (posted e.call) in omega arith

  call_kept : (n : ℕ) → is_call_message (numbered (messages requests h) n) ≡ true → is_call_message (numbered (messages requests (h ++ e ∷ [])) n) ≡ true
  call_kept n call =
      ap (λ (ms : List Message). is_call_message (numbered ms n)) (messages_more requests h e)
      ∙ ap is_call_message (numbered_kept (messages requests h) (posted e.call) n (call_within (messages requests h) n call).1) ∙ call

  count_replies : (n : ℕ) → length (replies (h ++ e ∷ []) n) ≡ length (replies h n) + length (replied n e.call)
  count_replies n = ap length (replies_more requests h e n) ∙ length-append (replies h n) (replied n e.call)

  answered_grows : (n : ℕ) → has_reply h n ≡ true → has_reply (h ++ e ∷ []) n ≡ true
  answered_grows n on = lt-ltb 0 (length (replies (h ++ e ∷ []) n)) (omega (arith, count_replies n, ltb-true 0 (length (replies h n)) on))

  answered_split : (n : ℕ) → has_reply (h ++ e ∷ []) n ≡ true → (has_reply h n ≡ true) ⊎ (0 < length (replied n e.call))
  answered_split n on =
      ⊎_elim (λ (before : 0 < length (replies h n)). inl (lt-ltb 0 (length (replies h n)) before))
      (λ (none : length (replies h n) ≤ 0). inr (omega (arith, count_replies n, ltb-true 0 (length (replies (h ++ e ∷ []) n)) on)))
      (cases_lt 0 (length (replies h n)))

  counted_step : IsCounted requests h → Owes requests h e → IsCounted requests (h ++ e ∷ [])
  counted_step was owes = record {
    delivered_within =
        subst (λ (ns : List ℕ). All (λ n. (1 ≤ n) × (n ≤ length (messages requests (h ++ e ∷ [])))) ns) (sym (deliveries_more requests h e))
        (All-append (λ n. (1 ≤ n) × (n ≤ length (messages requests (h ++ e ∷ [])))) (deliveries requests h) (delivered e.call e.reply)
        (λ k d short. let in' : (1 ≤ get_or (deliveries requests h) k d) × (get_or (deliveries requests h) k d ≤ length (messages requests h)) = was.delivered_within k d short in (in'.0, omega (arith, in'.1, longer)))
        owes.new_delivered);
    taken_within = λ n on.
        ⊎_elim (λ (before : is_taken h n ≡ true). let in' : (1 ≤ n) × (n ≤ length (messages requests h)) = was.taken_within n before in (in'.0, omega (arith, in'.1, longer)))
        (λ (now : takes n e.call e.reply ≡ true). let in' : (1 ≤ n) × (n ≤ length (messages requests h)) = owes.new_taken n now in (in'.0, omega (arith, in'.1, longer)))
        (or_cases (is_taken h n) (takes n e.call e.reply) (sym (taken_more requests h e n) ∙ on));
    answered_call = λ n on.
        ⊎_elim (λ (before : has_reply h n ≡ true). call_kept n (was.answered_call n before)) (λ (now : 0 < length (replied n e.call)). call_kept n (owes.new_answered n now)) (answered_split n on);
    heard_answered = λ n on.
        ⊎_elim (λ (before : reply_is_taken h n ≡ true). answered_grows n (was.heard_answered n before))
        (λ (now : takes_reply n e.call ≡ true). answered_grows n (owes.new_heard n now))
        (or_cases (reply_is_taken h n) (takes_reply n e.call) (sym (heard_more requests h e n) ∙ on));
  }

-- the replies that an entry adds, where it posts one
replied_reply : (n : ℕ) (k : MessageKind) (m : Message) → k ≡ kinds.Reply → if_to n k m ≡ cond (m.to == n) (m ∷ []) []
replied_reply n kinds.Reply m is = refl
replied_reply n _ m is = absurd (cc)

nothing_replied : (n : ℕ) (k : MessageKind) (m : Message) → (k ≡ kinds.Reply → ⊥) → if_to n k m ≡ []
nothing_replied n kinds.Reply m other = absurd (other refl)
nothing_replied n _ m other = refl

length_if : (b : Bool) (m : Message) → length (cond b (m ∷ []) []) ≡ cond b 1 0
length_if true m = refl
length_if false m = refl

single : {X : Type 0} (x : X) (P : X → Type 0) → P x → All P (x ∷ [])
single x P p zero d short = p
single x P p (suc k) d short = absurd (omega arith)

both_ways' : (t : Bool) → t ≡ false → t ≡ true → ⊥
both_ways' t off on = absurd (cc)

weight_got : (n : ℕ) (o : Option Message) → weight (got_of n o) ≡ 1
weight_got n None = refl
weight_got n (Some m) = refl

-- What an inbox's entries are.

-- a post of a call or send
record IsPosting (requests : List Message) (h : List Entry) (e : Entry) : Type 0 where
  message : Message
  one : posted e.call ≡ message ∷ []
  delivers : delivered e.call e.reply ≡ (length (messages requests h) + 1) ∷ []
  takes_none : (n : ℕ) → takes n e.call e.reply ≡ false
  answers_none : (n : ℕ) → replied n e.call ≡ []
  hears_none : (n : ℕ) → takes_reply n e.call ≡ false
  weighs_one : weight e.reply ≡ 1
  needs : need (inbox requests) h e.call ≡ 2 + 2 * cond (is_call message.kind) 1 0

-- a post of the reply to the call numbered m
record IsAnswering (requests : List Message) (h : List Entry) (e : Entry) (m : ℕ) : Type 0 where
  none : posted e.call ≡ []
  delivers : delivered e.call e.reply ≡ []
  takes_none : (n : ℕ) → takes n e.call e.reply ≡ false
  answers : (n : ℕ) → length (replied n e.call) ≡ cond (m == n) 1 0
  hears_none : (n : ℕ) → takes_reply n e.call ≡ false
  weighs_one : weight e.reply ≡ 1
  needs : need (inbox requests) h e.call ≡ 0
  call : is_call_message (numbered (messages requests h) m) ≡ true
  new : has_reply h m ≡ false

module _ (requests : List Message) (h : List Entry) (e : Entry) (f : Follows (inbox requests) h e) where
  need_by : (c : Call) → e.call ≡ c → need (inbox requests) h e.call ≡ inbox_need c
  need_by c is = ap inbox_need is

  call_posting : (m : Message) → e.call ≡ Post m → m.kind ≡ kinds.Call → IsPosting requests h e
  call_posting m is kind =
      let reply : e.reply ≡ Posted (length (messages requests h) + 1) = reply_by requests h e f (Post m) is ∙ ap (post_due requests h) kind in
      record {
        message = m;
        one = ap posted is ∙ ap (λ (k : MessageKind). listed k m) kind;
        delivers = ap₂ delivered is reply;
        takes_none = λ n. ap (λ (c : Call). takes n c e.reply) is;
        answers_none = λ n. ap (replied n) is ∙ ap (λ (k : MessageKind). if_to n k m) kind;
        hears_none = λ n. ap (takes_reply n) is;
        weighs_one = ap weight reply;
        needs = need_by (Post m) is ∙ ap post_need kind ∙ sym (ap (λ (k : MessageKind). 2 + 2 * cond (is_call k) 1 0) kind);
      }

  send_posting : (m : Message) → e.call ≡ Post m → m.kind ≡ kinds.Send → IsPosting requests h e
  send_posting m is kind =
      let reply : e.reply ≡ Posted (length (messages requests h) + 1) = reply_by requests h e f (Post m) is ∙ ap (post_due requests h) kind in
      record {
        message = m;
        one = ap posted is ∙ ap (λ (k : MessageKind). listed k m) kind;
        delivers = ap₂ delivered is reply;
        takes_none = λ n. ap (λ (c : Call). takes n c e.reply) is;
        answers_none = λ n. ap (replied n) is ∙ ap (λ (k : MessageKind). if_to n k m) kind;
        hears_none = λ n. ap (takes_reply n) is;
        weighs_one = ap weight reply;
        needs = need_by (Post m) is ∙ ap post_need kind ∙ sym (ap (λ (k : MessageKind). 2 + 2 * cond (is_call k) 1 0) kind);
      }

  answering : (m : Message) → e.call ≡ Post m → m.kind ≡ kinds.Reply → IsAnswering requests h e m.to
  answering m is kind =
      let reply : e.reply ≡ Done = reply_by requests h e f (Post m) is ∙ ap (post_due requests h) kind in
      let on = and_parts (is_call_message (numbered (messages requests h) m.to)) _ (ap (λ (k : MessageKind). post_ready requests h k m.to) (sym kind) ∙ ready_by requests h e f (Post m) is) in
      let new = and_parts (is_taken h m.to) (not (has_reply h m.to)) on.1 in
      record {
        none = ap posted is ∙ ap (λ (k : MessageKind). listed k m) kind;
        delivers = ap₂ delivered is reply;
        takes_none = λ n. ap (λ (c : Call). takes n c e.reply) is;
        answers = λ n. ap (λ (c : Call). length (replied n c)) is ∙ ap (λ (k : MessageKind). length (if_to n k m)) kind ∙ length_if (m.to == n) m;
        hears_none = λ n. ap (takes_reply n) is;
        weighs_one = ap weight reply;
        needs = need_by (Post m) is ∙ ap post_need kind;
        call = on.0;
        new = not-true (has_reply h m.to) new.1;
      }

  abbrev pub Adds : Type 0
  Adds = held (h ++ e ∷ []) + owed (inbox requests) (h ++ e ∷ []) ≡ held h + owed (inbox requests) h + need (inbox requests) h e.call

  -- an entry keeps the inbox counted and adds what its call needs
  abbrev Keeps : Type 0
  Keeps = IsCounted requests (h ++ e ∷ []) × Adds

  by_posting : IsCounted requests h → IsPosting requests h e → Keeps
  by_posting was post =
      let m : Message = post.message in
      let a : untaken requests (h ++ e ∷ []) ≡ untaken requests h + 1 = untaken_new requests h e m post.one was post.takes_none in
      let b : unanswered requests (h ++ e ∷ []) ≡ unanswered requests h + cond (is_call m.kind) 1 0 = unanswered_new requests h e m post.one was post.answers_none in
      let c : unheard requests (h ++ e ∷ []) ≡ unheard requests h + cond (is_call m.kind) 1 0 = unheard_new requests h e m post.one was post.hears_none in
      let w : held (h ++ e ∷ []) ≡ held h + weight e.reply = held_more h e in
      let len : length (messages requests (h ++ e ∷ [])) ≡ length (messages requests h) + 1 = length_one requests h e m post.one in (
        counted_step requests h e was (record {
          new_delivered = subst (λ (ns : List ℕ). All (λ n. (1 ≤ n) × (n ≤ length (messages requests (h ++ e ∷ [])))) ns) (sym post.delivers) (single (length (messages requests h) + 1) (λ n. (1 ≤ n) × (n ≤ length (messages requests (h ++ e ∷ [])))) (omega arith, omega arith));
          new_taken = λ n on. absurd (both_ways' (takes n e.call e.reply) (post.takes_none n) on);
          new_answered = λ n some. absurd (omega (arith, some, ap length (post.answers_none n)));
          new_heard = λ n on. absurd (both_ways' (takes_reply n e.call) (post.hears_none n) on);
        }),
        omega (arith, owes requests h, owes requests (h ++ e ∷ []), post.needs, post.weighs_one),
      )

  by_answering : IsCounted requests h → (m : ℕ) → IsAnswering requests h e m → Keeps
  by_answering was m it =
      let here : length (replied m e.call) ≡ 1 = it.answers m ∙ ap (λ (b : Bool). cond {A = ℕ} b 1 0) (eq-eqb m m refl) in
      let now : has_reply (h ++ e ∷ []) m ≡ true = lt-ltb 0 (length (replies (h ++ e ∷ []) m)) (omega (arith, count_replies requests h e m)) in
      let others : (n : ℕ) → (n ≡ m → ⊥) → replied n e.call ≡ [] = λ n differs.
      nil_from_length (replied n e.call) (it.answers n ∙ ap (λ (b : Bool). cond {A = ℕ} b 1 0) (ne_eqb m n (λ same. differs (sym same)))) in
      let a : untaken requests (h ++ e ∷ []) ≡ untaken requests h = untaken_same requests h e it.none it.takes_none in
      let b : unanswered requests h ≡ unanswered requests (h ++ e ∷ []) + 1 = unanswered_less requests h e it.none m it.call it.new now others in
      let c : unheard requests (h ++ e ∷ []) ≡ unheard requests h = unheard_same requests h e it.none it.hears_none in
      let w : held (h ++ e ∷ []) ≡ held h + weight e.reply = held_more h e in (
        counted_step requests h e was (record {
          new_delivered = subst (λ (ns : List ℕ). All (λ n. (1 ≤ n) × (n ≤ length (messages requests (h ++ e ∷ [])))) ns) (sym it.delivers) (λ k d short. absurd (omega arith));
          new_taken = λ n on. absurd (both_ways' (takes n e.call e.reply) (it.takes_none n) on);
          new_answered = λ n some. answered_only m n it.call (cases_eq n m) (λ differs. absurd (omega (arith, some, ap length (others n differs))));
          new_heard = λ n on. absurd (both_ways' (takes_reply n e.call) (it.hears_none n) on);
        }),
        omega (arith, owes requests h, owes requests (h ++ e ∷ []), it.needs, it.weighs_one),
      )
    where
      answered_only : (m n : ℕ) → is_call_message (numbered (messages requests h) m) ≡ true → (n ≡ m) ⊎ (n ≡ m → ⊥) → ((n ≡ m → ⊥) → ⊥) → is_call_message (numbered (messages requests h) n) ≡ true
      answered_only m n call (inl same) off = ap (λ (k : ℕ). is_call_message (numbered (messages requests h) k)) same ∙ call
      answered_only m n call (inr differs) off = absurd (off differs)

  by_take : IsCounted requests h → (nth : ℕ) → e.call ≡ Take nth → Keeps
  by_take was nth is =
      let one : (n : ℕ) × IsTaking requests h e f n = take_one requests h e f nth was is in
      let m : ℕ = one.0 in
      let it : IsTaking requests h e f m = one.1 in
      let none : posted e.call ≡ [] = ap posted is in
      let on : (n : ℕ) → takes n e.call e.reply ≡ (m == n) = it.gets in
      let a : untaken requests h ≡ untaken requests (h ++ e ∷ []) + 1 = untaken_less requests h e none m it.some it.within it.new on in
      let b : unanswered requests (h ++ e ∷ []) ≡ unanswered requests h = unanswered_same requests h e none (λ n. ap (replied n) is) in
      let c : unheard requests (h ++ e ∷ []) ≡ unheard requests h = unheard_same requests h e none (λ n. ap (takes_reply n) is) in
      let w : held (h ++ e ∷ []) ≡ held h + weight e.reply = held_more h e in
      let nd : need (inbox requests) h e.call ≡ 0 = need_by (Take nth) is in (
        counted_step requests h e was (record {
          new_delivered = subst (λ (ns : List ℕ). All (λ n. (1 ≤ n) × (n ≤ length (messages requests (h ++ e ∷ [])))) ns) (sym (ap (λ (x : Call). delivered x e.reply) is)) (λ k d short. absurd (omega arith));
          new_taken = λ n taken. let same : m ≡ n = eqb-true m n (sym (on n) ∙ taken) in (omega (arith, it.some), omega (arith, it.within));
          new_answered = λ n some. absurd (omega (arith, some, ap (λ (x : Call). length (replied n x)) is));
          new_heard = λ n heard. absurd (both_ways' (takes_reply n e.call) (ap (takes_reply n) is) heard);
        }),
        omega (arith, owes requests h, owes requests (h ++ e ∷ []), it.one),
      )

  by_repost : IsCounted requests h → (m : ℕ) → e.call ≡ Repost m → Keeps
  by_repost was m is =
      let none : posted e.call ≡ [] = ap posted is in
      let on = and_parts (leb 1 m) (leb m (length (messages requests h))) (ready_by requests h e f (Repost m) is) in
      let some : 1 ≤ m = leb-true 1 m on.0 in
      let within : m ≤ length (messages requests h) = leb-true m (length (messages requests h)) on.1 in
      let a : untaken requests (h ++ e ∷ []) ≡ untaken requests h = untaken_same requests h e none (λ n. ap (λ (c : Call). takes n c e.reply) is) in
      let b : unanswered requests (h ++ e ∷ []) ≡ unanswered requests h = unanswered_same requests h e none (λ n. ap (replied n) is) in
      let c : unheard requests (h ++ e ∷ []) ≡ unheard requests h = unheard_same requests h e none (λ n. ap (takes_reply n) is) in
      let w : held (h ++ e ∷ []) ≡ held h + weight e.reply = held_more h e in
      let one : weight e.reply ≡ 1 = ap weight (reply_by requests h e f (Repost m) is) in
      let nd : need (inbox requests) h e.call ≡ 1 = need_by (Repost m) is in (
        counted_step requests h e was (record {
          new_delivered = subst (λ (ns : List ℕ). All (λ n. (1 ≤ n) × (n ≤ length (messages requests (h ++ e ∷ [])))) ns) (sym (ap (λ (x : Call). delivered x e.reply) is)) (single m (λ n. (1 ≤ n) × (n ≤ length (messages requests (h ++ e ∷ [])))) (some, omega (arith, longer requests h e)));
          new_taken = λ n taken. absurd (both_ways' (takes n e.call e.reply) (ap (λ (x : Call). takes n x e.reply) is) taken);
          new_answered = λ n some'. absurd (omega (arith, some', ap (λ (x : Call). length (replied n x)) is));
          new_heard = λ n heard. absurd (both_ways' (takes_reply n e.call) (ap (takes_reply n) is) heard);
        }),
        omega (arith, owes requests h, owes requests (h ++ e ∷ [])),
      )

  by_hearing : IsCounted requests h → (m : ℕ) → e.call ≡ TakeReply m → Keeps
  by_hearing was m is =
      let none : posted e.call ≡ [] = ap posted is in
      let on = and_parts (has_reply h m) (not (reply_is_taken h m)) (ready_by requests h e f (TakeReply m) is) in
      let a : untaken requests (h ++ e ∷ []) ≡ untaken requests h = untaken_same requests h e none (λ n. ap (λ (c : Call). takes n c e.reply) is) in
      let b : unanswered requests (h ++ e ∷ []) ≡ unanswered requests h = unanswered_same requests h e none (λ n. ap (replied n) is) in
      let c : unheard requests h ≡ unheard requests (h ++ e ∷ []) + 1 = unheard_less requests h e none m (was.answered_call m on.0) (not-true (reply_is_taken h m) on.1) (λ n. ap (takes_reply n) is) in
      let w : held (h ++ e ∷ []) ≡ held h + weight e.reply = held_more h e in
      let one : weight e.reply ≡ 1 = ap weight (reply_by requests h e f (TakeReply m) is) ∙ weight_got m (slice_get (replies h m) 0) in
      let nd : need (inbox requests) h e.call ≡ 0 = need_by (TakeReply m) is in (
        counted_step requests h e was (record {
          new_delivered = subst (λ (ns : List ℕ). All (λ n. (1 ≤ n) × (n ≤ length (messages requests (h ++ e ∷ [])))) ns) (sym (ap (λ (x : Call). delivered x e.reply) is)) (λ k d short. absurd (omega arith));
          new_taken = λ n taken. absurd (both_ways' (takes n e.call e.reply) (ap (λ (x : Call). takes n x e.reply) is) taken);
          new_answered = λ n some'. absurd (omega (arith, some', ap (λ (x : Call). length (replied n x)) is));
          new_heard = λ n heard. ap (has_reply h) (sym (eqb-true m n (sym (ap (takes_reply n) is) ∙ heard))) ∙ on.0;
        }),
        omega (arith, owes requests h, owes requests (h ++ e ∷ [])),
      )

  never : (c : Call) → e.call ≡ c → inbox_ready requests h c ≡ false → ⊥
  never c is off = let on : inbox_ready requests h c ≡ true = ready_by requests h e f c is in cc

  by_post : IsCounted requests h → (m : Message) → e.call ≡ Post m → (k : MessageKind) → m.kind ≡ k → Keeps
  by_post was m is kinds.Request kind = absurd (never (Post m) is (ap (λ (k : MessageKind). post_ready requests h k m.to) kind))
  by_post was m is kinds.Call kind = by_posting was (call_posting m is kind)
  by_post was m is kinds.Send kind = by_posting was (send_posting m is kind)
  by_post was m is kinds.Reply kind = by_answering was m.to (answering m is kind)

  keeps : IsCounted requests h → (c : Call) → e.call ≡ c → Keeps
  keeps was (Post m) is = by_post was m is m.kind refl
  keeps was (Take n) is = by_take was n is
  keeps was (Repost m) is = by_repost was m is
  keeps was (TakeReply m) is = by_hearing was m is
  keeps was (Write key value lineage) is = absurd (never (Write key value lineage) is refl)
  keeps was (Read g k) is = absurd (never (Read g k) is refl)
  keeps was (Scan g prefix) is = absurd (never (Scan g prefix) is refl)
  keeps was (Poll g k) is = absurd (never (Poll g k) is refl)
  keeps was (Look g ids dry) is = absurd (never (Look g ids dry) is refl)
  keeps was (Ship g v p) is = absurd (never (Ship g v p) is refl)
  keeps was (Again g v p) is = absurd (never (Again g v p) is refl)
  keeps was (Pull n) is = absurd (never (Pull n) is refl)
  keeps was (Repull n v) is = absurd (never (Repull n v) is refl)
  keeps was (Ack v) is = absurd (never (Ack v) is refl)
  keeps was (Nack v) is = absurd (never (Nack v) is refl)

-- a legal history of an inbox is counted
none_counted : (requests : List Message) → IsCounted requests []
none_counted requests = record {
  delivered_within = λ k d short.
      let len : length (deliveries requests []) ≡ length requests = ap length (append-nil (range_with_len 1 (length requests))) ∙ length-range_with_len 1 (length requests) in
      let ms : length (messages requests []) ≡ length requests = ap length (append-nil requests) in
      let at : get_or (deliveries requests []) k d ≡ 1 + k = ap (λ (ns : List ℕ). get_or ns k d) (append-nil (range_with_len 1 (length requests))) ∙ get_or-range_with_len 1 (length requests) k d (omega arith) in
      (omega arith, omega arith);
  taken_within = λ n on. absurd (cc);
  answered_call = λ n on. absurd (cc);
  heard_answered = λ n on. absurd (cc);
}

pub counted : (requests : List Message) (h : List Entry) → IsLegal (inbox requests) h → IsCounted requests h
counted requests h l = by_entries (inbox requests) (IsCounted requests) (none_counted requests) (λ k e legal f was. (keeps requests k e f was e.call refl).0) h l

-- Held and owed after an entry are what they were before and what its call needed.
pub inbox_units : (requests : List Message) (h : List Entry) (e : Entry) → IsLegal (inbox requests) h → (f : Follows (inbox requests) h e) → Adds requests h e f
inbox_units requests h e l f = (keeps requests h e f (counted requests h l) e.call refl).1

-- At the start a unit is owed for each request.

no_call : (requests : List Message) → IsInbox requests → (n : ℕ) → is_call_message (numbered requests n) ≡ false
no_call requests sane n =
    false_from_ne_true (is_call_message (numbered requests n)) (λ call.
    let in' : (1 ≤ n) × (n ≤ length requests) = call_within requests n call in
    let found : (m : Message) × (numbered requests n ≡ Some m) = numbered_within requests n in'.0 in'.1 in
    let here : slice_get requests (n - 1) ≡ Some found.0 = sym (ap (λ (b : Bool). cond b (slice_get requests (n - 1)) None) (lt-ltb 0 n (omega (arith, in'.0)))) ∙ found.1 in
    let kind : found.0.kind ≡ kinds.Request =
    ap (λ (m : Message). m.kind) (sym (get_or_from_slice_get requests (n - 1) found.0 found.0 here)) ∙ sane.asked (n - 1) found.0 (omega (arith, in'.0, in'.1)) in
    both_ways' (is_call found.0.kind) (ap is_call kind) (ap is_call_message (sym found.1) ∙ call))

pub start_owes : (requests : List Message) → IsInbox requests → owed (inbox requests) [] ≡ length requests
start_owes requests sane =
    let same : messages requests [] ≡ requests = append-nil requests in
    let a : untaken requests [] ≡ length requests =
    count_all (λ n. not (is_taken [] n)) (range_with_len 1 (length (messages requests []))) (λ k d short. refl) ∙ length-range_with_len 1 (length (messages requests [])) ∙ ap length same in
    let b : unanswered requests [] ≡ 0 =
    count_none (λ n. is_call_message (numbered (messages requests []) n) && not (has_reply [] n)) (numbers requests []) (λ k d short.
    and_left (is_call_message (numbered (messages requests []) (get_or (numbers requests []) k d))) _ (ap (λ (ms : List Message). is_call_message (numbered ms (get_or (numbers requests []) k d))) same ∙ no_call requests sane (get_or (numbers requests []) k d))) in
    let c : unheard requests [] ≡ 0 =
    count_none (λ n. is_call_message (numbered (messages requests []) n) && not (reply_is_taken [] n)) (numbers requests []) (λ k d short.
    and_left (is_call_message (numbered (messages requests []) (get_or (numbers requests []) k d))) _ (ap (λ (ms : List Message). is_call_message (numbered ms (get_or (numbers requests []) k d))) same ∙ no_call requests sane (get_or (numbers requests []) k d))) in
    omega (arith, owes requests [])
