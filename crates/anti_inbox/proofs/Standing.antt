-- How an inbox stands for the empty history, and for one with an entry more.
use Rattle.std.proofs.Common.{◌≡◌, ℕ, ◌+◌, ◌-◌, ◌≤◌, true, not, List, [], ◌∷◌, ◌++◌, length, map, take, Option, Some, None, slice_get, refl, sym, ap, subst, ◌∙◌, append-nil, arith}
use Rattle.std.specs.List.{range_with_len}
use Rattle.std.proofs.Math.Seq.{take-length}
use Rattle.anti_kind.specs.declared.actor.Actor.TheVariants.{Carrier}
use Rattle.anti_kind.specs.declared.call.Call.{Call}
use Rattle.anti_kind.specs.declared.call.Call.TheVariants.{Post, Take, TakeReply}
use Rattle.anti_kind.specs.declared.entry.Entry.{Entry}
use Rattle.anti_kind.specs.declared.message.Message.{Message}
use Rattle.anti_kind.specs.declared.message.MessageKind.{MessageKind}
use Rattle.anti_kind.specs.declared.message.MessageKind.TheVariants as kinds
use Rattle.anti_kind.specs.Inbox.{numbered, messages, is_taken, deliveries, free, replies, got_of, handed, post_due, inbox_due}
use Rattle.anti_kind.specs.Objects.{inbox, weight, owed, need, ready, fits, last_stamp, Follows}
use Rattle.anti_kind.specs.Starts.{IsInbox}
use Rattle.anti_kind.specs.Machines.{MayMake}
use Rattle.anti_kind.proofs.Histories.{held_more, below_last}
use Rattle.anti_kind.proofs.Deliveries.{inbox_units, start_owes}
use Rattle.anti_inbox.specs.declared.inbox.Inbox.{Inbox}
use Rattle.anti_inbox.specs.inner.Fates.{fate_of}
use Rattle.anti_inbox.specs.inner.Inboxes.{start_of, requests_of, Knows, InboxStands, At, Keeps}
use Rattle.anti_inbox.proofs.Lists.{filter-all, length_range}

-- an inbox on which nothing has happened
pub stands_new : (m : Inbox) → IsInbox m.messages.items → m.requests ≡ length m.messages.items → m.fates.items ≡ map (fate_of []) (range_with_len 1 m.requests)
    → m.free.items ≡ range_with_len 1 m.requests → m.free.next ≡ m.requests → m.held ≡ 0 → m.owed ≡ length m.messages.items → InboxStands m []
stands_new m sane count fates_are free_are came held_is owed_is =
    let ms : List Message = m.messages.items in
    let all : requests_of m ≡ ms = ap (λ (k : ℕ). take k ms) count ∙ take-length ms in
    let size : m.requests ≡ length (messages (requests_of m) []) = count ∙ ap length (sym (append-nil (requests_of m) ∙ all)) in
    let size' : m.requests ≡ length (requests_of m) = count ∙ ap length (sym all) in
    record {
      knows = record {
        requests_within = omega (arith, count);
        messages_are = sym (append-nil (requests_of m) ∙ all);
        fates_are = fates_are ∙ ap (λ (k : ℕ). map (fate_of []) (range_with_len 1 k)) size;
        free_are =
            free_are ∙ ap (range_with_len 1) size'
            ∙ sym (filter-all (λ n. not (is_taken [] n)) (deliveries (requests_of m) []) (λ n. refl) ∙ append-nil (range_with_len 1 (length (requests_of m))));
        came_within =
            let all_come : length (deliveries (requests_of m) []) ≡ m.requests =
            ap length (append-nil (range_with_len 1 (length (requests_of m)))) ∙ length_range (length (requests_of m)) ∙ sym size' in
            omega (arith, came, all_come);
      };
      held_is = held_is;
      owed_is = owed_is ∙ sym (ap (λ (rs : List Message). owed (inbox rs) []) all ∙ start_owes ms sane);
    }

-- every entry of an inbox weighs one
weight_got : (n : ℕ) (o : Option Message) → weight (got_of n o) ≡ 1
weight_got n None = refl
weight_got n (Some m) = refl

weight_handed : (ms : List Message) (o : Option ℕ) → weight (handed ms o) ≡ 1
weight_handed ms None = refl
weight_handed ms (Some n) = weight_got n (numbered ms n)

weight_posted : (rs : List Message) (h : List Entry) (k : MessageKind) → weight (post_due rs h k) ≡ 1
weight_posted rs h kinds.Reply = refl
weight_posted rs h _ = refl

weight_due : (rs : List Message) (h : List Entry) (c : Call) → weight (inbox_due rs h c) ≡ 1
weight_due rs h (Post m) = weight_posted rs h m.kind
weight_due rs h (Take nth) = weight_handed (messages rs h) (numbered (free rs h) nth)
weight_due rs h (TakeReply n) = weight_got n (slice_get (replies h n) 0)
weight_due rs h _ = refl

module _ (m : Inbox) (h : List Entry) (e : Entry) (at : At m h) (f : Follows (start_of m) h e) where
  weighs_one : weight e.reply ≡ 1
  weighs_one = ap weight f.reply ∙ weight_due (requests_of m) h e.call

  -- what is owed after the entry and the unit of its own are what was owed and what it needs
  owes : owed (start_of m) (h ++ e ∷ []) + 1 ≡ m.owed + need (start_of m) h e.call
  owes =
      let units = inbox_units (requests_of m) h e at.legal f in
      omega (arith, units, held_more h e, weighs_one, at.state.owed_is)

  -- one that knows what the entry made, with its units
  pub stands_more : (k n : Inbox) (needs : ℕ) → needs ≡ need (start_of m) h e.call → Keeps m k → Knows k (h ++ e ∷ [])
      → n ≡ record k { held = k.held + 1; owed = k.owed + needs - 1 } → InboxStands n (h ++ e ∷ [])
  stands_more k n needs is keeps knows turns = subst (λ (x : Inbox). InboxStands x (h ++ e ∷ [])) (sym turns) (record {
    knows = record { requests_within = knows.requests_within; messages_are = knows.messages_are; fates_are = knows.fates_are; free_are = knows.free_are; came_within = knows.came_within };
    held_is = omega (arith, held_more h e, weighs_one, at.state.held_is, keeps.held_is);
    owed_is =
        let now : k.owed + needs - 1 ≡ owed (start_of m) (h ++ e ∷ []) = omega (arith, owes, is, keeps.owed_is) in
        now ∙ ap (λ (rs : List Message). owed (inbox rs) (h ++ e ∷ [])) (sym keeps.requests_are);
  })

-- and one that knows what it knew
pub stands_same : (m n : Inbox) (h : List Entry) → InboxStands m h → Keeps m n → Knows n h → InboxStands n h
stands_same m n h stands keeps knows = record {
  knows = knows;
  held_is = keeps.held_is ∙ stands.held_is;
  owed_is = keeps.owed_is ∙ stands.owed_is ∙ ap (λ (rs : List Message). owed (inbox rs) h) (sym keeps.requests_are);
}

-- The entry that a call makes.

abbrev pub entry_of : (m : Inbox) (h : List Entry) (c : Call) → Entry
entry_of m h c = record { stamp = last_stamp h + 1; object = 0; place = length h + 1; seat = 0; actor = Carrier 0; span = 0; call = c; reply = inbox_due (requests_of m) h c }

pub entry_follows : (m : Inbox) (h : List Entry) (c : Call) → ready (start_of m) h c ≡ true → fits (start_of m) h c ≡ true → Follows (start_of m) h (entry_of m h c)
entry_follows m h c can fit = record { place = refl; is_ready = can; fits = fit; reply = refl; stamp = λ k d short. omega (arith, below_last h k d short) }

-- there is a unit for the call to use
pub some_unit : (m : Inbox) (c : Call) (needs : ℕ) → (may : MayMake (start_of m) (InboxStands m) c) → needs ≡ need (start_of m) may.history c → 1 ≤ m.owed + needs
some_unit m c needs may is =
    omega (arith, owes m may.history (entry_of m may.history c) may.stands_for (entry_follows m may.history c may.is_ready may.fits), is)
