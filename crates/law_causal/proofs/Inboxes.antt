-- What the inboxes of a legal trace give the causal order: a message that is taken was posted before, and what is taken is what was posted.
use Rattle.std.proofs.Common.{◌≡◌, ℕ, ◌+◌, ◌-◌, ◌<◌, ◌≤◌, ◌++◌, ◌⊎◌, ◌&&◌, ◌==◌, Bool, true, false, not, cond, List, [], ◌∷◌, length, length-append, refl, sym, ap, ap₂, ◌∙◌, subst, inl, inr, append-nil, append_assoc, arith}
use Rattle.std.specs.Prelude.{Contains, Option, Some, None, slice_get, take, nat_lt, flat_map}
use Rattle.std.specs.List.{Any}
use Rattle.std.proofs.lemmas.Bool.{and_parts, cases_lt, cases_order, eq-eqb, eqb-true, ltb-false, ltb-true, not-true}
use Rattle.std.proofs.lemmas.List.{length_push, nil_from_length}
use Rattle.std.proofs.lemmas.List.Concat.{flat_map-append}
use Rattle.std.proofs.lemmas.List.Elements.{All-contains}
use Rattle.std.proofs.lemmas.Option.{get_or_from_slice_get, slice_get_within}
use Rattle.anti_ids.specs.Ids.{has_id}
use Rattle.anti_ids.specs.declared.id.WriteId.{WriteId}
use Rattle.anti_kind.specs.declared.call.Call.{Call}
use Rattle.anti_kind.specs.declared.call.Call.TheVariants as calls
use Rattle.anti_kind.specs.declared.call.Reply.{Reply}
use Rattle.anti_kind.specs.declared.call.Reply.TheVariants as replies
use Rattle.anti_kind.specs.declared.entry.Entry.{Entry}
use Rattle.anti_kind.specs.declared.message.Message.{Message}
use Rattle.anti_kind.specs.declared.message.MessageKind.{MessageKind}
use Rattle.anti_kind.specs.declared.message.MessageKind.TheVariants as kinds
use Rattle.anti_kind.specs.Inbox.{free, got_of, handed, has_reply, if_to, inbox_due, inbox_ready, is_call_message, is_taken, listed, messages, numbered, post_due, post_ready, posted, replied, reply_is_taken}
use Rattle.anti_kind.specs.Inbox as inboxes
use Rattle.anti_kind.specs.Objects.{Start, store, inbox, Follows, IsLegal}
use Rattle.anti_kind.specs.Store.{Store, store_ready}
use Rattle.anti_kind.proofs.Deliveries.{messages_more, numbered_kept, numbered_new, numbered_past}
use Rattle.anti_kind.proofs.Finding.{joined_from}
use Rattle.anti_kind.proofs.Histories.{by_entries, follows_in}
use Rattle.anti_app.specs.declared.app.App.{App}
use Rattle.anti_object.specs.Starts.{start_of}
use Rattle.anti_proc.specs.Meaning.{stated_in}
use Rattle.anti_trace.specs.Legal.{IsLegalTrace}
use Rattle.anti_trace.specs.Traces.{entries_on}
use Rattle.law_causal.specs.Words.{Letter, asked, answered, hands_all, posts_in, takes_in}
use Rattle.law_causal.specs.inner.Taken.{taken, taken_in}
use Rattle.law_causal.specs.Causal.{Delivers, is_process}
use Rattle.law_causal.specs.Carried.{carried_at}
use Rattle.law_causal.proofs.Facts.{LetterSource, Passes}
use Rattle.law_causal.proofs.Lists.{same_at}
use Rattle.law_causal.proofs.Objects.{StatesNone, follows_at, history_cut, legal_at, only, start_is_of_app}
use Rattle.law_causal.proofs.Places.{seen, seen_at, there}

-- ---- letters of calls

alone : {X : Type 0} (x : X) → Contains (x ∷ []) x
alone x = (0, omega arith, refl)

-- the post of a call or a send
record IsAsk (c : Call) (y : Reply) (n : ℕ) : Type 0 where
  message : Message
  call : c ≡ calls.Post message
  reply : y ≡ replies.Posted n

ask_parts : (c : Call) (y : Reply) (n : ℕ) → Contains (posts_in c y) (asked n) → IsAsk c y n
ask_parts (calls.Post m) (replies.Posted number) n in' =
    let one : asked number ≡ asked n = only (asked number) (asked n) in' in
    let same : number ≡ n = cc in
    record { message = m; call = refl; reply = ap replies.Posted same }
ask_parts (calls.Post m) replies.Done n in' = let one : answered m.to ≡ asked n = only (answered m.to) (asked n) in' in absurd (cc)
ask_parts _ _ n in' = absurd (omega (arith, in'.1))

-- the post of a reply
record IsAnswer (c : Call) (y : Reply) (n : ℕ) : Type 0 where
  message : Message
  call : c ≡ calls.Post message
  reply : y ≡ replies.Done
  to : message.to ≡ n

answer_parts : (c : Call) (y : Reply) (n : ℕ) → Contains (posts_in c y) (answered n) → IsAnswer c y n
answer_parts (calls.Post m) (replies.Posted number) n in' = let one : asked number ≡ answered n = only (asked number) (answered n) in' in absurd (cc)
answer_parts (calls.Post m) replies.Done n in' =
    let one : answered m.to ≡ answered n = only (answered m.to) (answered n) in' in
    let same : m.to ≡ n = cc in
    record { message = m; call = refl; reply = refl; to = same }
answer_parts _ _ n in' = absurd (omega (arith, in'.1))

-- the taking of a message that is no reply
record IsTake (c : Call) (y : Reply) (n : ℕ) : Type 0 where
  nth : ℕ
  message : Message
  call : c ≡ calls.Take nth
  reply : y ≡ replies.Got n message

take_parts : (c : Call) (y : Reply) (n : ℕ) → Contains (takes_in c y) (asked n) → IsTake c y n
take_parts (calls.Take nth) (replies.Got number m) n in' =
    let one : asked number ≡ asked n = only (asked number) (asked n) in' in
    let same : number ≡ n = cc in
    record { nth = nth; message = m; call = refl; reply = ap (λ (k : ℕ). replies.Got k m) same }
take_parts (calls.TakeReply number) y n in' = let one : answered number ≡ asked n = only (answered number) (asked n) in' in absurd (cc)
take_parts _ _ n in' = absurd (omega (arith, in'.1))

-- the taking of a reply
hear_parts : (c : Call) (y : Reply) (n : ℕ) → Contains (takes_in c y) (answered n) → c ≡ calls.TakeReply n
hear_parts (calls.Take nth) (replies.Got number m) n in' = let one : asked number ≡ answered n = only (asked number) (answered n) in' in absurd (cc)
hear_parts (calls.TakeReply number) y n in' =
    let one : answered number ≡ answered n = only (answered number) (answered n) in' in
    let same : number ≡ n = cc in
    ap calls.TakeReply same
hear_parts _ _ n in' = absurd (omega (arith, in'.1))

-- ---- the messages of a history

abbrev later_messages : List Entry → List Message
later_messages rest = flat_map (λ e. posted e.call) rest

messages_cut : (requests : List Message) (before rest : List Entry) → messages requests (before ++ rest) ≡ messages requests before ++ later_messages rest
messages_cut requests before rest =
    ap (λ (ms : List Message). requests ++ ms) (flat_map-append (λ (e : Entry). posted e.call) before rest)
    ∙ sym (append_assoc requests (later_messages before) (later_messages rest))

numbered_here : (ms : List Message) (m : Message) (rest : List Message) (n : ℕ) → n ≡ length ms + 1 → numbered (ms ++ m ∷ rest) n ≡ Some m
numbered_here ms m rest n is =
    ap (λ (xs : List Message). numbered xs n) (sym (append_assoc ms (m ∷ []) rest))
    ∙ numbered_kept (ms ++ m ∷ []) rest n (omega (arith, is, length_push ms m))
    ∙ numbered_new ms m n is

-- what is there has a number within the list
numbered_within : (ms : List Message) (n : ℕ) (m : Message) → numbered ms n ≡ Some m → n ≤ length ms
numbered_within ms n m is =
    elim (cases_lt (length ms) n) [
      | inl past ↦ let none : numbered ms n ≡ None = numbered_past ms n past in absurd (cc)
      | inr within ↦ within
    ]

-- and stands in it
numbered_among : (ms : List Message) (n : ℕ) (m : Message) → numbered ms n ≡ Some m → Contains ms m
numbered_among ms n m is = by_test (nat_lt 0 n) is
  where
    by_test : (t : Bool) → cond t (slice_get ms (n - 1)) None ≡ Some m → Contains ms m
    by_test true at = (n - 1, slice_get_within ms (n - 1) m at, get_or_from_slice_get ms (n - 1) m m at)
    by_test false at = absurd (cc)

-- what a call posts is one message at most
one_at_most : (k : MessageKind) (m : Message) → (listed k m ≡ []) ⊎ ((listed k m ≡ m ∷ []) × ((k ≡ kinds.Call) ⊎ (k ≡ kinds.Send)))
one_at_most kinds.Call m = inr (refl, inl refl)
one_at_most kinds.Send m = inr (refl, inr refl)
one_at_most _ m = inl refl

-- the post of a message that is no reply
record IsPosted (c : Call) (m : Message) : Type 0 where
  call : c ≡ calls.Post m
  kind : (m.kind ≡ kinds.Call) ⊎ (m.kind ≡ kinds.Send)
  one : posted c ≡ m ∷ []

posts_of : (c : Call) → (posted c ≡ []) ⊎ ((m : Message) × IsPosted c m)
posts_of (calls.Post m) =
    elim (one_at_most m.kind m) [
      | inl none ↦ inl none
      | inr some ↦ inr (m, record { call = refl; kind = some.1; one = some.0 })
    ]
posts_of _ = inl refl

-- The message with a number is a request, or that of an entry after whose history it has the next number.
record IsPostOf (requests : List Message) (h : List Entry) (n : ℕ) (m : Message) : Type 0 where
  before : List Entry
  entry : Entry
  after : List Entry
  cut : h ≡ before ++ entry ∷ after
  post : IsPosted entry.call m
  number : n ≡ length (messages requests before) + 1

abbrev HasPosts : List Message → List Entry → Type 0
HasPosts requests h = (n : ℕ) (m : Message) → numbered (messages requests h) n ≡ Some m → Contains requests m ⊎ IsPostOf requests h n m

module _ (requests : List Message) (h : List Entry) (e : Entry) where
  post_before : (n : ℕ) (m : Message) → IsPostOf requests h n m → IsPostOf requests (h ++ e ∷ []) n m
  post_before n m it = record {
    before = it.before;
    entry = it.entry;
    after = it.after ++ e ∷ [];
    cut = ap (λ (xs : List Entry). xs ++ e ∷ []) it.cut ∙ append_assoc it.before (it.entry ∷ it.after) (e ∷ []);
    post = it.post;
    number = it.number;
  }

  was_posted : HasPosts requests h → (n : ℕ) (m : Message) → numbered (messages requests h) n ≡ Some m → Contains requests m ⊎ IsPostOf requests (h ++ e ∷ []) n m
  was_posted was n m is =
      elim (was n m is) [
        | inl request ↦ inl request
        | inr it ↦ inr (post_before n m it)
      ]

  posts_more : HasPosts requests h → HasPosts requests (h ++ e ∷ [])
  posts_more was n m is = by_post (posts_of e.call)
    where
      now : numbered (messages requests h ++ posted e.call) n ≡ Some m
      now = ap (λ (ms : List Message). numbered ms n) (sym (messages_more requests h e)) ∙ is

      by_post : (posted e.call ≡ []) ⊎ ((x : Message) × IsPosted e.call x) → Contains requests m ⊎ IsPostOf requests (h ++ e ∷ []) n m
      by_post (inl none) =
          was_posted was n m (ap (λ (ms : List Message). numbered ms n) (sym (ap (λ (ms : List Message). messages requests h ++ ms) none ∙ append-nil (messages requests h))) ∙ now)
      by_post (inr (x, it)) =
          let here : numbered (messages requests h ++ x ∷ []) n ≡ Some m = ap (λ (ms : List Message). numbered (messages requests h ++ ms) n) (sym it.one) ∙ now in
          elim (cases_lt (length (messages requests h)) n) [
            | inl past ↦
                let within : n ≤ length (messages requests h ++ x ∷ []) = numbered_within (messages requests h ++ x ∷ []) n m here in
                let number : n ≡ length (messages requests h) + 1 = omega (arith, past, within, length_push (messages requests h) x) in
                let both : Some x ≡ Some m = sym (numbered_new (messages requests h) x n number) ∙ here in
                let same : x ≡ m = cc in
                inr (record { before = h; entry = e; after = []; cut = refl; post = subst (IsPosted e.call) same it; number = number })
            | inr within ↦ was_posted was n m (sym (numbered_kept (messages requests h) (x ∷ []) n within) ∙ here)
          ]

has_posts : (requests : List Message) (h : List Entry) → IsLegal (inbox requests) h → HasPosts requests h
has_posts requests h l =
    by_entries (inbox requests) (HasPosts requests)
    (λ n m is. inl (numbered_among requests n m (ap (λ (ms : List Message). numbered ms n) (sym (append-nil requests)) ∙ is)))
    (λ k e legal f was. posts_more requests k e was) h l

-- ---- the replies of a history

replies_cut : (before rest : List Entry) (n : ℕ) → inboxes.replies (before ++ rest) n ≡ inboxes.replies before n ++ inboxes.replies rest n
replies_cut before rest n = flat_map-append (λ (e : Entry). replied n e.call) before rest

-- the post of the reply to a call
record IsReplied (n : ℕ) (c : Call) (m : Message) : Type 0 where
  call : c ≡ calls.Post m
  kind : m.kind ≡ kinds.Reply
  to : m.to ≡ n

reply_to : (n : ℕ) (k : MessageKind) (m x : Message) → m.kind ≡ k → Contains (if_to n k m) x → IsReplied n (calls.Post m) x
reply_to n kinds.Reply m x kind in' = by_test (m.to == n) refl in'
  where
    by_test : (t : Bool) → (m.to == n) ≡ t → Contains (cond t (m ∷ []) []) x → IsReplied n (calls.Post m) x
    by_test true to in' = subst (IsReplied n (calls.Post m)) (only m x in') (record { call = refl; kind = kind; to = eqb-true m.to n to })
    by_test false to in' = absurd (omega (arith, in'.1))
reply_to n _ m x kind in' = absurd (omega (arith, in'.1))

reply_of : (n : ℕ) (c : Call) (x : Message) → Contains (replied n c) x → IsReplied n c x
reply_of n (calls.Post m) x in' = reply_to n m.kind m x refl in'
reply_of n _ x in' = absurd (omega (arith, in'.1))

-- ---- what the table says

got_is : (k : ℕ) (o : Option Message) (n : ℕ) (m : Message) → got_of k o ≡ replies.Got n m → (k ≡ n) × (o ≡ Some m)
got_is k None n m is = absurd (cc)
got_is k (Some x) n m is = (cc, cc)

handed_is : (ms : List Message) (o : Option ℕ) (n : ℕ) (m : Message) → handed ms o ≡ replies.Got n m → numbered ms n ≡ Some m
handed_is ms None n m is = absurd (cc)
handed_is ms (Some k) n m is = let got = got_is k (numbered ms k) n m is in ap (numbered ms) (sym got.0) ∙ got.1

module _ (requests : List Message) (h : List Entry) (e : Entry) (f : Follows (inbox requests) h e) where
  ready_by : (c : Call) → e.call ≡ c → inbox_ready requests h c ≡ true
  ready_by c is = ap (λ (x : Call). inbox_ready requests h x) (sym is) ∙ f.is_ready

  reply_by : (c : Call) → e.call ≡ c → e.reply ≡ inbox_due requests h c
  reply_by c is = f.reply ∙ ap (λ (x : Call). inbox_due requests h x) is

  -- a call or a send gets the next number
  ask_next : (n : ℕ) (it : IsAsk e.call e.reply n) → (posted e.call ≡ it.message ∷ []) × (n ≡ length (messages requests h) + 1)
  ask_next n it = by_kind it.message.kind refl
    where
      by_kind : (k : MessageKind) → it.message.kind ≡ k → (posted e.call ≡ it.message ∷ []) × (n ≡ length (messages requests h) + 1)
      by_kind kinds.Request kind =
          let never : post_ready requests h kinds.Request it.message.to ≡ true = ap (λ (k : MessageKind). post_ready requests h k it.message.to) (sym kind) ∙ ready_by (calls.Post it.message) it.call in
          absurd (cc)
      by_kind kinds.Reply kind =
          let never : replies.Posted n ≡ replies.Done = sym it.reply ∙ reply_by (calls.Post it.message) it.call ∙ ap (post_due requests h) kind in
          absurd (cc)
      by_kind kinds.Call kind =
          let next : replies.Posted n ≡ replies.Posted (length (messages requests h) + 1) = sym it.reply ∙ reply_by (calls.Post it.message) it.call ∙ ap (post_due requests h) kind in
          (ap posted it.call ∙ ap (λ (k : MessageKind). listed k it.message) kind, cc)
      by_kind kinds.Send kind =
          let next : replies.Posted n ≡ replies.Posted (length (messages requests h) + 1) = sym it.reply ∙ reply_by (calls.Post it.message) it.call ∙ ap (post_due requests h) kind in
          (ap posted it.call ∙ ap (λ (k : MessageKind). listed k it.message) kind, cc)

  -- a reply is the only one to its call
  answer_first : (n : ℕ) (it : IsAnswer e.call e.reply n) → (replied n e.call ≡ it.message ∷ []) × (inboxes.replies h n ≡ [])
  answer_first n it = by_kind it.message.kind refl
    where
      due : (k : MessageKind) → it.message.kind ≡ k → replies.Done ≡ post_due requests h k
      due k kind = sym it.reply ∙ reply_by (calls.Post it.message) it.call ∙ ap (post_due requests h) kind

      by_kind : (k : MessageKind) → it.message.kind ≡ k → (replied n e.call ≡ it.message ∷ []) × (inboxes.replies h n ≡ [])
      by_kind kinds.Reply kind =
          let can : post_ready requests h kinds.Reply it.message.to ≡ true = ap (λ (k : MessageKind). post_ready requests h k it.message.to) (sym kind) ∙ ready_by (calls.Post it.message) it.call in
          let call = and_parts (is_call_message (numbered (messages requests h) it.message.to)) (is_taken h it.message.to && not (has_reply h it.message.to)) can in
          let first = and_parts (is_taken h it.message.to) (not (has_reply h it.message.to)) call.1 in
          let none : has_reply h n ≡ false = ap (has_reply h) (sym it.to) ∙ not-true (has_reply h it.message.to) first.1 in
          let few : length (inboxes.replies h n) ≤ 0 = ltb-false 0 (length (inboxes.replies h n)) none in (
            ap (replied n) it.call
                ∙ ap (λ (k : MessageKind). if_to n k it.message) kind
                ∙ ap (λ (t : Bool). cond t (it.message ∷ []) []) (eq-eqb it.message.to n it.to),
            nil_from_length (inboxes.replies h n) (omega (arith, few)),
          )
      by_kind kinds.Request kind = let never : replies.Done ≡ post_due requests h kinds.Request = due kinds.Request kind in absurd (cc)
      by_kind kinds.Call kind = let never : replies.Done ≡ post_due requests h kinds.Call = due kinds.Call kind in absurd (cc)
      by_kind kinds.Send kind = let never : replies.Done ≡ post_due requests h kinds.Send = due kinds.Send kind in absurd (cc)

  reply_done : (m : Message) → e.call ≡ calls.Post m → m.kind ≡ kinds.Reply → e.reply ≡ replies.Done
  reply_done m call kind = reply_by (calls.Post m) call ∙ ap (post_due requests h) kind

  -- what is taken has its number among the messages
  take_number : (n nth : ℕ) (m : Message) → e.call ≡ calls.Take nth → e.reply ≡ replies.Got n m → numbered (messages requests h) n ≡ Some m
  take_number n nth m call reply = handed_is (messages requests h) (numbered (free requests h) nth) n m (sym (reply_by (calls.Take nth) call) ∙ reply)

  -- a reply that is taken is the first one to its call
  hear_number : (to n : ℕ) (m : Message) → e.call ≡ calls.TakeReply to → e.reply ≡ replies.Got n m → (to ≡ n) × (slice_get (inboxes.replies h to) 0 ≡ Some m)
  hear_number to n m call reply = got_is to (slice_get (inboxes.replies h to) 0) n m (sym (reply_by (calls.TakeReply to) call) ∙ reply)

  hear_some : (n : ℕ) → e.call ≡ calls.TakeReply n → 0 < length (inboxes.replies h n)
  hear_some n call =
      ltb-true 0 (length (inboxes.replies h n)) (and_parts (has_reply h n) (not (reply_is_taken h n)) (ready_by (calls.TakeReply n) call)).0

-- ---- what is posted and what is taken

-- a store has no messages
no_post : (s : Store) (h : List Entry) (e : Entry) (m : Message) → Follows (store s) h e → e.call ≡ calls.Post m → ⊥
no_post s h e m f is = let never : store_ready s h (calls.Post m) ≡ true = ap (λ (c : Call). store_ready s h c) (sym is) ∙ f.is_ready in absurd (cc)

no_take : (s : Store) (h : List Entry) (e : Entry) (nth : ℕ) → Follows (store s) h e → e.call ≡ calls.Take nth → ⊥
no_take s h e nth f is = let never : store_ready s h (calls.Take nth) ≡ true = ap (λ (c : Call). store_ready s h c) (sym is) ∙ f.is_ready in absurd (cc)

no_hearing : (s : Store) (h : List Entry) (e : Entry) (to : ℕ) → Follows (store s) h e → e.call ≡ calls.TakeReply to → ⊥
no_hearing s h e to f is = let never : store_ready s h (calls.TakeReply to) ≡ true = ap (λ (c : Call). store_ready s h c) (sym is) ∙ f.is_ready in absurd (cc)

-- What is posted at place i is taken at place j: this is later, and the message is the same.
pub record IsPassed (i : ℕ) (a : Entry) (j : ℕ) (b : Entry) : Type 0 where
  pub before : i < j
  pub message : Message
  pub call : a.call ≡ calls.Post message
  pub gets : (app : App) → taken app b ≡ stated_in app message

module _ (app : App) (trace : List Entry) (legal : IsLegalTrace app trace) where
  -- two entries at places of one inbox
  module _ (o : ℕ) (requests : List Message) (start : start_of app o ≡ Some (inbox requests)) (i j : ℕ) (a b : Entry)
      (at_i : slice_get trace i ≡ Some a) (at_j : slice_get trace j ≡ Some b) (on_a : a.object ≡ o) (on_b : b.object ≡ o) where
    abbrev past : ℕ → List Entry
    past k = entries_on o (take k trace)

    follows_a : Follows (inbox requests) (past i) a
    follows_a = follows_at app trace legal o (inbox requests) start i a at_i on_a

    follows_b : Follows (inbox requests) (past j) b
    follows_b = follows_at app trace legal o (inbox requests) start j b at_j on_b

    -- no entry both posts and takes
    posts_or_takes : (m : Message) (c : Call) → a.call ≡ calls.Post m → b.call ≡ c → (i ≡ j → calls.Post m ≡ c)
    posts_or_takes m c posts takes same =
        let one : a ≡ b = same_at trace j a b (ap (slice_get trace) (sym same) ∙ at_i) at_j in
        sym posts ∙ ap (λ (e : Entry). e.call) one ∙ takes

    -- a number is posted once
    asked_once : (n : ℕ) → IsAsk a.call a.reply n → IsTake b.call b.reply n → IsPassed i a j b
    asked_once n ask got =
        let next = ask_next requests (past i) a follows_a n ask in
        let number : numbered (messages requests (past j)) n ≡ Some got.message = take_number requests (past j) b follows_b n got.nth got.message got.call got.reply in
        elim (cases_order i j) [
          | inl same ↦ let both : calls.Post ask.message ≡ calls.Take got.nth = posts_or_takes ask.message (calls.Take got.nth) ask.call got.call same in absurd (cc)
          | inr (inl less) ↦
              let cut = history_cut trace o i j a less at_i on_a in
              let all : messages requests (past j) ≡ messages requests (past i) ++ ask.message ∷ later_messages cut.0 =
              ap (messages requests) cut.1 ∙ messages_cut requests (past i) (a ∷ cut.0) ∙ ap (λ (ms : List Message). messages requests (past i) ++ (ms ++ later_messages cut.0)) next.0 in
              let both : Some ask.message ≡ Some got.message =
              sym (numbered_here (messages requests (past i)) ask.message (later_messages cut.0) n next.1) ∙ ap (λ (ms : List Message). numbered ms n) (sym all) ∙ number in
              let same : ask.message ≡ got.message = cc in
              record {
                before = less;
                message = ask.message;
                call = ask.call;
                gets = λ app. ap₂ (taken_in app) got.call got.reply ∙ ap (stated_in app) (sym same);
              }
          | inr (inr more) ↦
              let cut = history_cut trace o j i b more at_j on_b in
              let within : n ≤ length (messages requests (past j)) = numbered_within (messages requests (past j)) n got.message number in
              let all : length (messages requests (past i)) ≡ length (messages requests (past j)) + length (later_messages (b ∷ cut.0)) =
              ap (λ (h : List Entry). length (messages requests h)) cut.1 ∙ ap length (messages_cut requests (past j) (b ∷ cut.0)) ∙ length-append (messages requests (past j)) (later_messages (b ∷ cut.0)) in
              absurd (omega (arith, within, all, next.1))
        ]

    -- a call is answered once
    answered_once : (n : ℕ) → IsAnswer a.call a.reply n → b.call ≡ calls.TakeReply n → IsPassed i a j b
    answered_once n answer hears =
        let first = answer_first requests (past i) a follows_a n answer in
        let some : 0 < length (inboxes.replies (past j) n) = hear_some requests (past j) b follows_b n hears in
        elim (cases_order i j) [
          | inl same ↦ let both : calls.Post answer.message ≡ calls.TakeReply n = posts_or_takes answer.message (calls.TakeReply n) answer.call hears same in absurd (cc)
          | inr (inl less) ↦
              let cut = history_cut trace o i j a less at_i on_a in
              let all : inboxes.replies (past j) n ≡ answer.message ∷ inboxes.replies cut.0 n =
              ap (λ (h : List Entry). inboxes.replies h n) cut.1
              ∙ replies_cut (past i) (a ∷ cut.0) n
              ∙ ap₂ (λ (xs ys : List Message). xs ++ (ys ++ inboxes.replies cut.0 n)) first.1 first.0 in
              let reply : b.reply ≡ replies.Got n answer.message =
              reply_by requests (past j) b follows_b (calls.TakeReply n) hears ∙ ap (λ (ms : List Message). got_of n (slice_get ms 0)) all in
              record {
                before = less;
                message = answer.message;
                call = answer.call;
                gets = λ app. ap₂ (taken_in app) hears reply;
              }
          | inr (inr more) ↦
              let cut = history_cut trace o j i b more at_j on_b in
              let all : length (inboxes.replies (past i) n) ≡ length (inboxes.replies (past j) n) + length (inboxes.replies (b ∷ cut.0) n) =
              ap (λ (h : List Entry). length (inboxes.replies h n)) cut.1 ∙ ap length (replies_cut (past j) (b ∷ cut.0) n) ∙ length-append (inboxes.replies (past j) n) (inboxes.replies (b ∷ cut.0) n) in
              let none : length (inboxes.replies (past i) n) ≡ 0 = ap length first.1 in
              absurd (omega (arith, some, all, none))
        ]

  by_letter : (i j : ℕ) (a b : Entry) → slice_get trace i ≡ Some a → slice_get trace j ≡ Some b → a.object ≡ b.object
      → (start : Start) → start_of app b.object ≡ Some start
      → (t : Letter) → Contains (posts_in a.call a.reply) t → Contains (takes_in b.call b.reply) t → IsPassed i a j b
  by_letter i j a b at_i at_j on (store s) start (asked n) posts takes =
      let ask = ask_parts a.call a.reply n posts in
      absurd (no_post s (entries_on b.object (take i trace)) a ask.message (follows_at app trace legal b.object (store s) start i a at_i on) ask.call)
  by_letter i j a b at_i at_j on (store s) start (answered n) posts takes =
      let answer = answer_parts a.call a.reply n posts in
      absurd (no_post s (entries_on b.object (take i trace)) a answer.message (follows_at app trace legal b.object (store s) start i a at_i on) answer.call)
  by_letter i j a b at_i at_j on (inbox requests) start (asked n) posts takes =
      asked_once b.object requests start i j a b at_i at_j on refl n (ask_parts a.call a.reply n posts) (take_parts b.call b.reply n takes)
  by_letter i j a b at_i at_j on (inbox requests) start (answered n) posts takes =
      answered_once b.object requests start i j a b at_i at_j on refl n (answer_parts a.call a.reply n posts) (hear_parts b.call b.reply n takes)

  -- What is delivered was posted before, and is the message that was posted.
  pub is_passed : (i j : ℕ) (a b : Entry) → slice_get trace i ≡ Some a → slice_get trace j ≡ Some b → Delivers a b → IsPassed i a j b
  is_passed i j a b at_i at_j it =
      let start = there app trace legal j b at_j in
      by_letter i j a b at_i at_j it.inbox start.0 start.1 it.letter it.posted it.taken

  -- and what was carried into its post, where a post hands on what is carried
  pub passes : ((i : ℕ) (a : Entry) (m : Message) → slice_get trace i ≡ Some a → a.call ≡ calls.Post m → (stated_in app m ≡ carried_at app trace i a) × (is_process a.actor ≡ true))
      → (i j : ℕ) (a b : Entry) → slice_get trace i ≡ Some a → slice_get trace j ≡ Some b → Delivers a b → Passes app trace i a j b
  passes posts_carried i j a b at_i at_j it =
      let is : IsPassed i a j b = is_passed i j a b at_i at_j it in
      let carried = posts_carried i a is.message at_i is.call in
      record {
        before = is.before;
        process = carried.1;
        hands = ap hands_all is.call;
        same = λ w. ap (has_id w) (is.gets app ∙ carried.0);
      }

  -- ---- where a lineage that is taken comes from

  module _ (j : ℕ) (b : Entry) (at : slice_get trace j ≡ Some b) (w : WriteId) (requests : List Message) (start : start_of app b.object ≡ Some (inbox requests)) where
    abbrev here : List Entry
    here = entries_on b.object (take j trace)

    follows_here : Follows (inbox requests) here b
    follows_here = follows_at app trace legal b.object (inbox requests) start j b at refl

    legal_here : IsLegal (inbox requests) here
    legal_here = legal_at app trace legal b.object (inbox requests) start j

    -- a message that a post gave its number
    from_post : (n nth : ℕ) (m : Message) → b.call ≡ calls.Take nth → b.reply ≡ replies.Got n m → IsPostOf requests here n m → LetterSource trace j b
    from_post n nth m call reply it =
        let place = seen_at trace b.object j it.before it.entry it.after it.cut in
        let f : Follows (inbox requests) it.before it.entry = follows_in (inbox requests) it.before it.entry it.after (subst (IsLegal (inbox requests)) it.cut legal_here) in
        let next : (k : MessageKind) → m.kind ≡ k → it.entry.reply ≡ post_due requests it.before k =
        λ k kind. reply_by requests it.before it.entry f (calls.Post m) it.post.call ∙ ap (post_due requests it.before) kind in
        let number : it.entry.reply ≡ replies.Posted n =
        elim it.post.kind [
          | inl kind ↦ next kinds.Call kind ∙ ap replies.Posted (sym it.number)
          | inr kind ↦ next kinds.Send kind ∙ ap replies.Posted (sym it.number)
        ] in
        record {
          place = place.0;
          entry = it.entry;
          there = place.2;
          delivers = record {
            inbox = place.3;
            letter = asked n;
            posted = subst (λ (ts : List Letter). Contains ts (asked n)) (sym (ap₂ posts_in it.post.call number)) (alone (asked n));
            taken = subst (λ (ts : List Letter). Contains ts (asked n)) (sym (ap₂ takes_in call reply)) (alone (asked n));
          };
        }

    of_take : (n nth : ℕ) (m : Message) → b.call ≡ calls.Take nth → b.reply ≡ replies.Got n m → has_id w (stated_in app m) ≡ true → LetterSource trace j b
    of_take n nth m call reply has =
        elim (has_posts requests here legal_here n m (take_number requests here b follows_here n nth m call reply)) [
          | inl request ↦
              let none : stated_in app m ≡ [] = All-contains (StatesNone app) requests m (start_is_of_app app b.object (inbox requests) start) request in
              let never : has_id w [] ≡ true = ap (has_id w) (sym none) ∙ has in
              absurd (cc)
          | inr it ↦ from_post n nth m call reply it
        ]

    of_hearing : (to n : ℕ) (m : Message) → b.call ≡ calls.TakeReply to → b.reply ≡ replies.Got n m → LetterSource trace j b
    of_hearing to n m call reply =
        let first = (hear_number requests here b follows_here to n m call reply).1 in
        let among : Contains (inboxes.replies here to) m = (0, slice_get_within (inboxes.replies here to) 0 m first, get_or_from_slice_get (inboxes.replies here to) 0 m m first) in
        let found : Any (λ (e : Entry). Contains (replied to e.call) m) here = joined_from (λ (e : Entry). replied to e.call) here m among in
        let a : Entry = found.1 in
        let it : IsReplied to a.call m = reply_of to a.call m found.4 in
        let place = seen trace b.object j a (found.0, found.2, found.3) in
        let f = follows_at app trace legal b.object (inbox requests) start place.0 a place.2 place.3 in
        let done : a.reply ≡ replies.Done = reply_done requests (entries_on b.object (take place.0 trace)) a f m it.call it.kind in
        let one : posts_in a.call a.reply ≡ answered m.to ∷ [] = ap₂ posts_in it.call done in
        let own : answered m.to ≡ answered to = ap answered it.to in
        record {
          place = place.0;
          entry = a;
          there = place.2;
          delivers = record {
            inbox = place.3;
            letter = answered to;
            posted = subst (λ (ts : List Letter). Contains ts (answered to)) (sym one) (subst (λ (t : Letter). Contains (answered m.to ∷ []) t) own (alone (answered m.to)));
            taken = subst (λ (ts : List Letter). Contains ts (answered to)) (sym (ap₂ takes_in call reply)) (alone (answered to));
          };
        }

  by_call : (j : ℕ) (b : Entry) (w : WriteId) → slice_get trace j ≡ Some b → (start : Start) → start_of app b.object ≡ Some start
      → (c : Call) (y : Reply) → b.call ≡ c → b.reply ≡ y → has_id w (taken_in app c y) ≡ true → LetterSource trace j b
  by_call j b w at (store s) start (calls.Take nth) (replies.Got n m) call reply has =
      absurd (no_take s (entries_on b.object (take j trace)) b nth (follows_at app trace legal b.object (store s) start j b at refl) call)
  by_call j b w at (store s) start (calls.TakeReply to) (replies.Got n m) call reply has =
      absurd (no_hearing s (entries_on b.object (take j trace)) b to (follows_at app trace legal b.object (store s) start j b at refl) call)
  by_call j b w at (inbox requests) start (calls.Take nth) (replies.Got n m) call reply has = of_take j b at w requests start n nth m call reply has
  by_call j b w at (inbox requests) start (calls.TakeReply to) (replies.Got n m) call reply has = of_hearing j b at w requests start to n m call reply
  by_call j b w at _ start _ _ call reply has = absurd (cc)

  -- A lineage that is taken was posted.
  pub letters : (j : ℕ) (b : Entry) (w : WriteId) → slice_get trace j ≡ Some b → has_id w (taken app b) ≡ true → LetterSource trace j b
  letters j b w at has =
      let start = there app trace legal j b at in
      by_call j b w at start.0 start.1 b.call b.reply refl refl has
