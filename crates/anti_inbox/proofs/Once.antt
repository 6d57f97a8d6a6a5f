-- What happens at most once in a legal history of an inbox.
use Rattle.std.proofs.Common.{◌≡◌, ℕ, ◌+◌, ◌-◌, ◌≤◌, Bool, true, false, not, cond, ◌&&◌, ◌||◌, List, [], ◌∷◌, ◌++◌, length, get_or, Option, Some, None, count_by, refl, sym, ap, ◌∙◌, ◌==◌, leb, eqb-true, append-nil, length-append, arith}
use Rattle.std.specs.List.{list_any, Contains}
use Rattle.std.proofs.lemmas.Bool.{and_parts, not-true, leb-true, le-leb, or_right, false≢true}
use Rattle.std.proofs.lemmas.List.Folds.{list_any-append}
use Rattle.std.proofs.lemmas.List.Sums.{sum_by_push}
use Rattle.std.proofs.lemmas.List.Elements.{All-contains, filter_passes}
use Rattle.anti_ids.specs.declared.limits.TheConstants.{MOST_UNITS}
use Rattle.anti_kind.specs.declared.call.Call.{Call}
use Rattle.anti_kind.specs.declared.call.Call.TheVariants.{Post, Take, TakeReply}
use Rattle.anti_kind.specs.declared.call.Reply.TheVariants.{Got}
use Rattle.anti_kind.specs.declared.entry.Entry.{Entry}
use Rattle.anti_kind.specs.declared.message.Message.{Message}
use Rattle.anti_kind.specs.declared.message.MessageKind.{MessageKind}
use Rattle.anti_kind.specs.declared.message.MessageKind.TheVariants as kinds
use Rattle.anti_kind.specs.Inbox.{numbered, messages, deliveries, takes, is_taken, free, if_to, replied, replies, has_reply, takes_reply, reply_is_taken, is_call_message, got_of, handed, post_ready, inbox_ready, inbox_due, post_need, inbox_need}
use Rattle.anti_kind.specs.Objects.{inbox, need, fits, held, owed, Follows, IsLegal}
use Rattle.anti_kind.specs.Starts.{IsStart}
use Rattle.anti_kind.proofs.Histories.{by_entries, legal_front, follows_in}
use Rattle.anti_kind.proofs.Bounds.{within_units}
use Rattle.anti_kind.proofs.Rows.{or_false}
use Rattle.anti_kind.proofs.Deliveries.{counted, replies_more}
use Rattle.anti_inbox.specs.InboxLaws.{is_reply, is_reserved}
use Rattle.anti_inbox.proofs.Fates.{no_replies}
use Rattle.anti_inbox.proofs.Reading.{free_within, at_number}

-- Entries that pass a test, where one comes only when none was before.

module _ (p : Entry → Bool) where
  abbrev Once : List Entry → Type 0
  Once h = count_by p h ≡ cond (list_any p h) 1 0

  once_more : (h : List Entry) (e : Entry) → Once h → (p e ≡ true → list_any p h ≡ false) → Once (h ++ e ∷ [])
  once_more h e was new =
      let any : list_any p (h ++ e ∷ []) ≡ (list_any p h || p e) = list_any-append p h (e ∷ []) ∙ ap (λ (b : Bool). list_any p h || b) (or_false (p e)) in
      sum_by_push (λ (x : Entry). cond {A = ℕ} (p x) 1 0) h e
      ∙ ap (λ (n : ℕ). n + cond (p e) 1 0) was
      ∙ both (list_any p h) (p e) new
      ∙ ap (λ (b : Bool). cond {A = ℕ} b 1 0) (sym any)
    where
      both : (a b : Bool) → (b ≡ true → a ≡ false) → cond {A = ℕ} a 1 0 + cond {A = ℕ} b 1 0 ≡ cond (a || b) 1 0
      both true true new = let off : true ≡ false = new refl in absurd (cc)
      both true false new = refl
      both false true new = refl
      both false false new = refl

  at_most : (h : List Entry) → Once h → count_by p h ≤ 1
  at_most h is = low (list_any p h) is where
    low : (b : Bool) → count_by p h ≡ cond b 1 0 → count_by p h ≤ 1
    low true one = omega (arith, one)
    low false none = omega (arith, none)

module _ (requests : List Message) (h : List Entry) (e : Entry) (f : Follows (inbox requests) h e) where
  ready_by : (c : Call) → e.call ≡ c → inbox_ready requests h c ≡ true
  ready_by c is = ap (λ (x : Call). inbox_ready requests h x) (sym is) ∙ f.is_ready

  -- Takes.

  taken_at : (nth : ℕ) → e.call ≡ Take nth → (1 ≤ nth) × (nth ≤ length (free requests h))
  taken_at nth is =
      let parts = and_parts (leb 1 nth) (leb nth (length (free requests h))) (ready_by (Take nth) is) in
      (leb-true 1 nth parts.0, leb-true nth (length (free requests h)) parts.1)

  reply_at : (nth : ℕ) → e.call ≡ Take nth → e.reply ≡ handed (messages requests h) (Some (get_or (free requests h) (nth - 1) 0))
  reply_at nth is =
      let there = taken_at nth is in
      f.reply ∙ ap (λ (x : Call). inbox_due requests h x) is ∙ ap (handed (messages requests h)) (at_number (free requests h) nth 0 there.0 there.1)

  -- what is got was not taken before
  got_new : (nth k n : ℕ) (o : Option Message) → is_taken h k ≡ false → takes n (Take nth) (got_of k o) ≡ true → is_taken h n ≡ false
  got_new nth k n None new on = absurd (cc)
  got_new nth k n (Some m) new on = ap (is_taken h) (sym (eqb-true k n on)) ∙ new

  takes_new : (n : ℕ) (c : Call) → e.call ≡ c → takes n c e.reply ≡ true → is_taken h n ≡ false
  takes_new n (Take nth) is on =
      let there = taken_at nth is in
      let k : ℕ = get_or (free requests h) (nth - 1) 0 in
      let new : not (is_taken h k) ≡ true = filter_passes (λ j. not (is_taken h j)) (deliveries requests h) (nth - 1) 0 (omega (arith, there.0, there.1)) in
      got_new nth k n (numbered (messages requests h) k) (not-true (is_taken h k) new) (ap (takes n (Take nth)) (sym (reply_at nth is)) ∙ on)
  takes_new n _ is on = absurd (false≢true on)

  -- Replies.

  hears_new : (n : ℕ) (c : Call) → e.call ≡ c → takes_reply n c ≡ true → reply_is_taken h n ≡ false
  hears_new n (TakeReply k) is on =
      let parts = and_parts (has_reply h k) (not (reply_is_taken h k)) (ready_by (TakeReply k) is) in
      ap (reply_is_taken h) (sym (eqb-true k n on)) ∙ not-true (reply_is_taken h k) parts.1
  hears_new n _ is on = absurd (false≢true on)

  -- a reply comes only where there was none
  abbrev Adds : ℕ → List Message → Type 0
  Adds n more = length (replies h n ++ more) ≤ 1

  adds_none : (n : ℕ) → length (replies h n) ≤ 1 → Adds n []
  adds_none n was = omega (arith, was, ap length (append-nil (replies h n)))

  adds_one : (m : Message) (n : ℕ) (b : Bool) → (m.to == n) ≡ b → e.call ≡ Post m → m.kind ≡ kinds.Reply → length (replies h n) ≤ 1 → Adds n (cond b (m ∷ []) [])
  adds_one m n false off is kind was = adds_none n was
  adds_one m n true on is kind was =
      let parts = and_parts (is_call_message (numbered (messages requests h) m.to)) (is_taken h m.to && not (has_reply h m.to))
      (ap (λ (k : MessageKind). post_ready requests h k m.to) (sym kind) ∙ ready_by (Post m) is) in
      let new = and_parts (is_taken h m.to) (not (has_reply h m.to)) parts.1 in
      let none : replies h n ≡ [] = ap (replies h) (sym (eqb-true m.to n on)) ∙ no_replies h m.to (not-true (has_reply h m.to) new.1) in
      omega (arith, ap length none, length-append (replies h n) (m ∷ []))

  adds_kind : (m : Message) (n : ℕ) (k : MessageKind) → e.call ≡ Post m → m.kind ≡ k → length (replies h n) ≤ 1 → Adds n (if_to n k m)
  adds_kind m n kinds.Reply is kind was = adds_one m n (m.to == n) refl is kind was
  adds_kind m n kinds.Request is kind was = adds_none n was
  adds_kind m n kinds.Call is kind was = adds_none n was
  adds_kind m n kinds.Send is kind was = adds_none n was

  adds_few : (n : ℕ) (c : Call) → e.call ≡ c → length (replies h n) ≤ 1 → Adds n (replied n c)
  adds_few n (Post m) is was = adds_kind m n m.kind is refl was
  adds_few n _ is was = adds_none n was

module _ (requests : List Message) where
  pub takes_once : (h : List Entry) (n : ℕ) → IsStart (inbox requests) → IsLegal (inbox requests) h → count_by (λ (e : Entry). takes n e.call e.reply) h ≤ 1
  takes_once h n sane legal =
      at_most (λ (e : Entry). takes n e.call e.reply) h
      (by_entries (inbox requests) (Once (λ (e : Entry). takes n e.call e.reply)) refl
      (λ k e l f was. once_more (λ (x : Entry). takes n x.call x.reply) k e was (takes_new requests k e f n e.call refl)) h legal)

  pub heard_once : (h : List Entry) (n : ℕ) → IsStart (inbox requests) → IsLegal (inbox requests) h → count_by (λ (e : Entry). takes_reply n e.call) h ≤ 1
  heard_once h n sane legal =
      at_most (λ (e : Entry). takes_reply n e.call) h
      (by_entries (inbox requests) (Once (λ (e : Entry). takes_reply n e.call)) refl
      (λ k e l f was. once_more (λ (x : Entry). takes_reply n x.call) k e was (hears_new requests k e f n e.call refl)) h legal)

  pub answered_once : (h : List Entry) (n : ℕ) → IsStart (inbox requests) → IsLegal (inbox requests) h → length (replies h n) ≤ 1
  answered_once h n sane legal =
      by_entries (inbox requests) (λ (k : List Entry). length (replies k n) ≤ 1) (omega arith)
      (λ k e l f was. omega (arith, ap length (replies_more requests k e n), adds_few requests k e f n e.call refl was)) h legal

  pub takes_get : (h rest : List Entry) (e : Entry) (nth : ℕ) → IsStart (inbox requests) → IsLegal (inbox requests) (h ++ e ∷ rest) → e.call ≡ Take nth
      → (n : ℕ) × (m : Message) × (e.reply ≡ Got n m) × (numbered (messages requests h) n ≡ Some m)
  takes_get h rest e nth sane legal is =
      let f : Follows (inbox requests) h e = follows_in (inbox requests) h e rest legal in
      let there = taken_at requests h e f nth is in
      let ms : List Message = messages requests h in
      let n : ℕ = get_or (free requests h) (nth - 1) 0 in
      let within = free_within requests h (counted requests h (legal_front (inbox requests) h (e ∷ rest) legal)) (nth - 1) 0 (omega (arith, there.0, there.1)) in
      let m : Message = get_or ms (n - 1) (record { kind = kinds.Request; to = 0; depth = 0; handler = []; value = []; baggage = record { items = []; spare = 0 } }) in
      let found : numbered ms n ≡ Some m = at_number ms n _ within.0 within.1 in
      (n, m, reply_at requests h e f nth is ∙ ap (got_of n) found, found)

  pub taken_is_gone : (h rest : List Entry) (e : Entry) (n : ℕ) → IsStart (inbox requests) → IsLegal (inbox requests) (h ++ e ∷ rest)
      → takes n e.call e.reply ≡ true → Contains (free requests (h ++ e ∷ rest)) n → ⊥
  taken_is_gone h rest e n sane legal on has =
      let all : List Entry = h ++ e ∷ rest in
      let later : list_any (λ (x : Entry). takes n x.call x.reply) (e ∷ rest) ≡ true = ap (λ (b : Bool). b || list_any (λ (x : Entry). takes n x.call x.reply) rest) on in
      let taken : is_taken all n ≡ true =
      list_any-append (λ (x : Entry). takes n x.call x.reply) h (e ∷ rest) ∙ or_right (is_taken h n) (list_any (λ (x : Entry). takes n x.call x.reply) (e ∷ rest)) later in
      let not_taken : not (is_taken all n) ≡ true =
      All-contains (λ (k : ℕ). not (is_taken all k) ≡ true) (free requests all) n (filter_passes (λ k. not (is_taken all k)) (deliveries requests all)) has in
      let off : is_taken all n ≡ false = not-true (is_taken all n) not_taken in
      absurd (cc)

needs_none : (c : Call) → is_reserved c ≡ true → inbox_need c ≡ 0
needs_none (Take nth) on = refl
needs_none (TakeReply n) on = refl
needs_none (Post m) on = by_kind m.kind on where
  by_kind : (k : MessageKind) → is_reply k ≡ true → post_need k ≡ 0
  by_kind kinds.Reply on = refl
  by_kind _ on = absurd (false≢true on)
needs_none _ on = absurd (false≢true on)

pub reserved_fits : (requests : List Message) (h : List Entry) (c : Call) → IsStart (inbox requests) → IsLegal (inbox requests) h → is_reserved c ≡ true → fits (inbox requests) h c ≡ true
reserved_fits requests h c sane legal on =
    le-leb (held h + owed (inbox requests) h + need (inbox requests) h c) MOST_UNITS (omega (arith, within_units (inbox requests) h sane legal, needs_none c on))
