-- Where the messages and the replies that are taken come from.
use Rattle.std.proofs.Common.{zero, suc, get_or, slice_index_or, ◌≡◌, ℕ, ◌+◌, ◌-◌, ◌<◌, ◌≤◌, Bool, true, not, cond, ◌&&◌, List, [], ◌∷◌, ◌++◌, length, Some, None, refl, sym, ap, subst, ◌∙◌, ◌⊎◌, inl, inr, ◌==◌, eqb-true, append-nil, length-append, arith}
use Rattle.std.specs.List.{Contains, slice_get}
use Rattle.std.proofs.lemmas.Bool.{and_parts, lt-ltb, ltb-true, le-ltb, cases_lt, cases_Bool, cond-true, cond-false}
use Rattle.std.proofs.lemmas.List.Elements.{Contains-append_left, Contains-append_right, Contains-append_cases, Contains-get_or}
use Rattle.std.proofs.lemmas.Option.{slice_get_within, slice_get-get_or}
use Rattle.anti_kind.specs.declared.call.Call.{Call}
use Rattle.anti_kind.specs.declared.call.Call.TheVariants.{Post, Take, TakeReply}
use Rattle.anti_kind.specs.declared.call.Reply.TheVariants.{Posted, Got}
use Rattle.anti_kind.specs.declared.entry.Entry.{Entry}
use Rattle.anti_kind.specs.declared.message.Message.{Message}
use Rattle.anti_kind.specs.declared.message.MessageKind.{MessageKind}
use Rattle.anti_kind.specs.declared.message.MessageKind.TheVariants as kinds
use Rattle.anti_kind.specs.Inbox.{numbered, listed, posted, messages, if_to, replied, replies, has_reply, reply_is_taken, got_of, post_due, inbox_ready, inbox_due}
use Rattle.anti_kind.specs.Objects.{inbox, Follows, IsLegal}
use Rattle.anti_kind.specs.Starts.{IsStart}
use Rattle.anti_kind.proofs.Histories.{by_entries, legal_front, follows_in}
use Rattle.anti_kind.proofs.Deliveries.{messages_more, numbered_kept, numbered_new}
use Rattle.anti_inbox.proofs.Once.{takes_get}

-- Messages.

-- a number that names something is one of the list
numbered_inside : {A : Type 0} (xs : List A) (n : ℕ) (x : A) → numbered xs n ≡ Some x → (1 ≤ n) × (n ≤ length xs)
numbered_inside {A} xs n x is =
    elim (cases_lt 0 n) [
      | inl some ↦
          let here : slice_get xs (n - 1) ≡ Some x = sym (ap (λ (b : Bool). cond b (slice_get xs (n - 1)) None) (lt-ltb 0 n some)) ∙ is in
          (omega (arith, some), omega (arith, some, slice_get_within xs (n - 1) x here))
      | inr none ↦
          let off : numbered xs n ≡ None = ap (λ (b : Bool). cond b (slice_get xs (n - 1)) None) (le-ltb 0 n (omega (arith, none))) in
          absurd (cc)
    ]

some_same : {A : Type 0} (x y : A) → Some x ≡ Some y → x ≡ y
some_same x y same = cc

module _ (requests : List Message) where
  -- the message came as a request, or by a post that told its number
  abbrev Came : List Entry → ℕ → Message → Type 0
  Came h n m = (numbered requests n ≡ Some m) ⊎ ((d : Entry) × Contains h d × (d.call ≡ Post m) × (d.reply ≡ Posted n))

  came_more : (h : List Entry) (e : Entry) (n : ℕ) (m : Message) → Came h n m → Came (h ++ e ∷ []) n m
  came_more h e n m (inl request) = inl request
  came_more h e n m (inr post) = inr (post.0, Contains-append_left h (e ∷ []) post.0 post.1, post.2, post.3)

  module _ (h : List Entry) (e : Entry) (f : Follows (inbox requests) h e) (n : ℕ) (m : Message) where
    abbrev known : List Message
    known = messages requests h

    -- a message with a number above those that are known is the one that is posted now
    posted_now : (p : Message) → e.call ≡ Post p → e.reply ≡ Posted (length known + 1) → length known < n
        → numbered (known ++ p ∷ []) n ≡ Some m → Came (h ++ e ∷ []) n m
    posted_now p is reply past found =
        let within = numbered_inside (known ++ p ∷ []) n m found in
        let next : n ≡ length known + 1 = omega (arith, past, within.1, length-append known (p ∷ [])) in
        let same : p ≡ m = some_same p m (sym (numbered_new known p n next) ∙ found) in
        inr (e, Contains-append_right h (e ∷ []) e (0, omega arith, refl), is ∙ ap Post same, reply ∙ ap Posted (sym next))

    nothing_more : length known < n → numbered (known ++ []) n ≡ Some m → ⊥
    nothing_more past found =
        let within = numbered_inside (known ++ []) n m found in
        omega (arith, past, within.1, ap length (append-nil known))

    by_kind : (p : Message) (k : MessageKind) → e.call ≡ Post p → e.reply ≡ post_due requests h k → length known < n
        → numbered (known ++ listed k p) n ≡ Some m → Came (h ++ e ∷ []) n m
    by_kind p kinds.Call is reply past found = posted_now p is reply past found
    by_kind p kinds.Send is reply past found = posted_now p is reply past found
    by_kind p kinds.Reply is reply past found = absurd (nothing_more past found)
    by_kind p kinds.Request is reply past found = absurd (nothing_more past found)

    by_call : (c : Call) → e.call ≡ c → length known < n → numbered (known ++ posted c) n ≡ Some m → Came (h ++ e ∷ []) n m
    by_call (Post p) is past found = by_kind p p.kind is (f.reply ∙ ap (inbox_due requests h) is) past found
    by_call _ is past found = absurd (nothing_more past found)

    came_next : ((k : ℕ) (x : Message) → numbered known k ≡ Some x → Came h k x) → numbered (messages requests (h ++ e ∷ [])) n ≡ Some m
        → Came (h ++ e ∷ []) n m
    came_next was found =
        let here : numbered (known ++ posted e.call) n ≡ Some m = ap (λ (ms : List Message). numbered ms n) (sym (messages_more requests h e)) ∙ found in
        elim (cases_lt (length known) n) [
          | inl past ↦ by_call e.call refl past here
          | inr within ↦
              came_more h e n m (was n m (sym (numbered_kept known (posted e.call) n (omega (arith, within))) ∙ here))
        ]

  all_came : (h : List Entry) → IsLegal (inbox requests) h → (n : ℕ) (m : Message) → numbered (messages requests h) n ≡ Some m → Came h n m
  all_came h legal =
      by_entries (inbox requests) (λ k. (n : ℕ) (m : Message) → numbered (messages requests k) n ≡ Some m → Came k n m)
      (λ n m found. inl (ap (λ (ms : List Message). numbered ms n) (sym (append-nil requests)) ∙ found))
      (λ k e l f was n m found. came_next k e f n m was found) h legal

  got_same : (a b : ℕ) (x y : Message) → Got a x ≡ Got b y → (a ≡ b) × (x ≡ y)
  got_same a b x y same = (cc, cc)

  pub taken_came : (h rest : List Entry) (e : Entry) (nth n : ℕ) (m : Message) → IsStart (inbox requests) → IsLegal (inbox requests) (h ++ e ∷ rest)
      → e.call ≡ Take nth → e.reply ≡ Got n m → Came h n m
  taken_came h rest e nth n m sane legal is reply =
      let there = takes_get requests h rest e nth sane legal is in
      let same = got_same there.0 n there.1 m (sym there.2 ∙ reply) in
      let found : numbered (messages requests h) n ≡ Some m =
      ap (numbered (messages requests h)) (sym same.0) ∙ there.3 ∙ ap Some same.1 in
      all_came h (legal_front (inbox requests) h (e ∷ rest) legal) n m found

-- Replies.

-- the reply to the call numbered n was posted
abbrev WasAnswered : List Entry → ℕ → Message → Type 0
WasAnswered h n m = (d : Entry) × Contains h d × (d.call ≡ Post m) × (m.kind ≡ kinds.Reply) × (m.to ≡ n)

module _ (e : Entry) (n : ℕ) (m : Message) where
  if_to_is : (p : Message) (k : MessageKind) → p.kind ≡ k → Contains (if_to n k p) m → (p ≡ m) × (p.kind ≡ kinds.Reply) × (p.to ≡ n)
  if_to_is p kinds.Reply kind has =
      elim (cases_Bool (p.to == n)) [
        | inl on ↦
            let one : Contains (p ∷ []) m = subst (λ (ms : List Message). Contains ms m) (cond-true (p.to == n) (p ∷ []) [] on) has in
            (only p one, kind, eqb-true p.to n on)
        | inr off ↦ absurd (nobody (subst (λ (ms : List Message). Contains ms m) (cond-false (p.to == n) (p ∷ []) [] off) has))
      ]
    where
      nobody : Contains {X = Message} [] m → ⊥
      nobody h = omega (arith, h.1)

      only : (p : Message) → Contains (p ∷ []) m → p ≡ m
      only p h = first h.0 h.1 h.2 where
        first : (k : ℕ) → k < 1 → slice_index_or (p ∷ []) k m ≡ m → p ≡ m
        first zero short is = is
        first (suc k) short is = absurd (omega (arith, short))
  if_to_is p kinds.Request kind has = absurd (omega (arith, has.1))
  if_to_is p kinds.Call kind has = absurd (omega (arith, has.1))
  if_to_is p kinds.Send kind has = absurd (omega (arith, has.1))

  replied_is : (c : Call) → e.call ≡ c → Contains (replied n c) m → (e.call ≡ Post m) × (m.kind ≡ kinds.Reply) × (m.to ≡ n)
  replied_is (Post p) is has =
      let it = if_to_is p p.kind refl has in
      (is ∙ ap Post it.0, ap (λ (x : Message). x.kind) (sym it.0) ∙ it.1, ap (λ (x : Message). x.to) (sym it.0) ∙ it.2)
  replied_is _ is has = absurd (omega (arith, has.1))

was_answered : (h : List Entry) (n : ℕ) (m : Message) → Contains (replies h n) m → WasAnswered h n m
was_answered [] n m has = absurd (omega (arith, has.1))
was_answered (e ∷ h) n m has =
    elim (Contains-append_cases (replied n e.call) (replies h n) m has) [
      | inl now ↦
          let it = replied_is e n m e.call refl now in
          (e, Contains-append_left (e ∷ []) h e (0, omega arith, refl), it.0, it.1, it.2)
      | inr later ↦
          let it = was_answered h n m later in
          (it.0, Contains-append_right (e ∷ []) h it.0 it.1, it.2, it.3, it.4)
    ]

pub heard_came : (requests : List Message) (h rest : List Entry) (e : Entry) (n : ℕ) → IsStart (inbox requests) → IsLegal (inbox requests) (h ++ e ∷ rest)
    → e.call ≡ TakeReply n
    → (m : Message) × (d : Entry) × (e.reply ≡ Got n m) × Contains h d × (d.call ≡ Post m) × (m.kind ≡ kinds.Reply) × (m.to ≡ n)
heard_came requests h rest e n sane legal is =
    let f : Follows (inbox requests) h e = follows_in (inbox requests) h e rest legal in
    let can : (has_reply h n && not (reply_is_taken h n)) ≡ true = ap (inbox_ready requests h) (sym is) ∙ f.is_ready in
    let some : 0 < length (replies h n) = ltb-true 0 (length (replies h n)) (and_parts (has_reply h n) (not (reply_is_taken h n)) can).0 in
    let m : Message = get_or (replies h n) 0 no_message in
    let first : slice_get (replies h n) 0 ≡ Some m = slice_get-get_or (replies h n) 0 no_message some in
    let reply : e.reply ≡ Got n m = f.reply ∙ ap (inbox_due requests h) is ∙ ap (got_of n) first in
    let it = was_answered h n m (Contains-get_or (replies h n) 0 no_message some) in
    (m, it.0, reply, it.1, it.2, it.3, it.4)
  where
    no_message : Message
    no_message = record { kind = kinds.Request; to = 0; depth = 0; handler = []; value = []; baggage = record { items = []; spare = 0 } }
