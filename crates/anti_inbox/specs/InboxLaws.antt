-- Laws of an inbox. They hold of every legal history of each one that starts with requests alone.
use Rattle.std.specs.Prelude.{◌≡◌, ℕ, ◌≤◌, Bool, true, false, List, ◌∷◌, ◌++◌, length, Some, count_by, Contains, ◌⊎◌}
use Rattle.anti_kind.specs.declared.call.Call.{Call}
use Rattle.anti_kind.specs.declared.call.Call.TheVariants.{Post, Take, TakeReply}
use Rattle.anti_kind.specs.declared.call.Reply.TheVariants.{Posted, Got}
use Rattle.anti_kind.specs.declared.entry.Entry.{Entry}
use Rattle.anti_kind.specs.declared.message.Message.{Message}
use Rattle.anti_kind.specs.declared.message.MessageKind.{MessageKind}
use Rattle.anti_kind.specs.declared.message.MessageKind.TheVariants as kinds
use Rattle.anti_kind.specs.Inbox.{messages, numbered, takes, free, replies, takes_reply}
use Rattle.anti_kind.specs.Objects.{inbox, fits, IsLegal}
use Rattle.anti_kind.specs.Starts.{IsStart}

-- Each take gets a message that was there, with its number.
abbrev pub TakesGet : Type 0
TakesGet =
    (requests : List Message) (h rest : List Entry) (e : Entry) (nth : ℕ) → IsStart (inbox requests) → IsLegal (inbox requests) (h ++ e ∷ rest)
    → e.call ≡ Take nth → (n : ℕ) × (m : Message) × (e.reply ≡ Got n m) × (numbered (messages requests h) n ≡ Some m)

-- A message that is taken is a request of the start with that number, or was posted before, and the post told that number.
abbrev pub TakenCame : Type 0
TakenCame =
    (requests : List Message) (h rest : List Entry) (e : Entry) (nth n : ℕ) (m : Message) → IsStart (inbox requests)
    → IsLegal (inbox requests) (h ++ e ∷ rest) → e.call ≡ Take nth → e.reply ≡ Got n m
    → (numbered requests n ≡ Some m) ⊎ ((d : Entry) × Contains h d × (d.call ≡ Post m) × (d.reply ≡ Posted n))

-- A reply that is taken was posted before, to that call.
abbrev pub HeardCame : Type 0
HeardCame =
    (requests : List Message) (h rest : List Entry) (e : Entry) (n : ℕ) → IsStart (inbox requests)
    → IsLegal (inbox requests) (h ++ e ∷ rest) → e.call ≡ TakeReply n
    → (m : Message) × (d : Entry) × (e.reply ≡ Got n m) × Contains h d × (d.call ≡ Post m) × (m.kind ≡ kinds.Reply) × (m.to ≡ n)

-- Of each message at most one take gets it, whatever is delivered again.
abbrev pub TakesOnce : Type 0
TakesOnce = (requests : List Message) (h : List Entry) (n : ℕ) → IsStart (inbox requests) → IsLegal (inbox requests) h → count_by (λ e. takes n e.call e.reply) h ≤ 1

-- Once a message was taken no delivery of it is free, whatever comes after.
abbrev pub TakenIsGone : Type 0
TakenIsGone =
    (requests : List Message) (h rest : List Entry) (e : Entry) (n : ℕ) → IsStart (inbox requests) → IsLegal (inbox requests) (h ++ e ∷ rest)
    → takes n e.call e.reply ≡ true → Contains (free requests (h ++ e ∷ rest)) n → ⊥

-- To each call at most one reply is posted.
abbrev pub AnsweredOnce : Type 0
AnsweredOnce = (requests : List Message) (h : List Entry) (n : ℕ) → IsStart (inbox requests) → IsLegal (inbox requests) h → length (replies h n) ≤ 1

-- And it is taken at most once.
abbrev pub HeardOnce : Type 0
HeardOnce = (requests : List Message) (h : List Entry) (n : ℕ) → IsStart (inbox requests) → IsLegal (inbox requests) h → count_by (λ e. takes_reply n e.call) h ≤ 1

-- the calls whose units are reserved before: a take, the post of a reply, and the taking of a reply
abbrev pub is_reply : MessageKind → Bool
is_reply kinds.Reply = true
is_reply _ = false

abbrev pub is_reserved : Call → Bool
is_reserved (Take nth) = true
is_reserved (Post m) = is_reply m.kind
is_reserved (TakeReply n) = true
is_reserved _ = false

-- These always fit.
abbrev pub ReservedFits : Type 0
ReservedFits =
    (requests : List Message) (h : List Entry) (c : Call) → IsStart (inbox requests) → IsLegal (inbox requests) h
    → is_reserved c ≡ true → fits (inbox requests) h c ≡ true
