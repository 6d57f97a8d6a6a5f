-- The table of an inbox that starts with the given requests.
use Rattle.std.specs.Prelude.{ℕ, ◌+◌, ◌-◌, Bool, true, false, cond, not, ◌&&◌, List, [], ◌∷◌, ◌++◌, length, ◌==◌, nat_lt, nat_le, Option, None, filter, flat_map, sum_by, slice_get}
use Rattle.std.specs.List.{list_any, range_with_len}
use Rattle.std.specs.Option.{option_map_or}
use Rattle.anti_kind.specs.declared.call.Call.{Call}
use Rattle.anti_kind.specs.declared.call.Call.TheVariants.{Post, Take, Repost, TakeReply}
use Rattle.anti_kind.specs.declared.call.Reply.{Reply}
use Rattle.anti_kind.specs.declared.call.Reply.TheVariants.{Posted, Got, Done}
use Rattle.anti_kind.specs.declared.entry.Entry.{Entry}
use Rattle.anti_kind.specs.declared.message.Message.{Message}
use Rattle.anti_kind.specs.declared.message.MessageKind.{MessageKind}
use Rattle.anti_kind.specs.declared.message.MessageKind.TheVariants as kinds

-- what a number, counted from 1, names in a list
abbrev pub numbered : {A : Type 0} → List A → ℕ → Option A
numbered xs n = cond (nat_lt 0 n) (slice_get xs (n - 1)) None

-- Messages other than replies have numbers: first the requests, then the calls and sends in the order of their posts.
abbrev pub listed : MessageKind → Message → List Message
listed kinds.Call m = m ∷ []
listed kinds.Send m = m ∷ []
listed _ m = []

abbrev pub posted : Call → List Message
posted (Post m) = listed m.kind m
posted _ = []

abbrev pub messages : List Message → List Entry → List Message
messages requests h = requests ++ flat_map (λ e. posted e.call) h

abbrev pub is_call : MessageKind → Bool
is_call kinds.Call = true
is_call _ = false

abbrev pub is_call_message : Option Message → Bool
is_call_message found = option_map_or (λ m. is_call m.kind) found false

-- Deliveries are numbers of messages: the requests, then one for each post of a call or send and one for each repost.
abbrev pub delivered : Call → Reply → List ℕ
delivered (Post m) (Posted n) = n ∷ []
delivered (Repost n) _ = n ∷ []
delivered _ _ = []

abbrev pub deliveries : List Message → List Entry → List ℕ
deliveries requests h = range_with_len 1 (length requests) ++ flat_map (λ e. delivered e.call e.reply) h

abbrev pub takes : ℕ → Call → Reply → Bool
takes n (Take nth) (Got number m) = number == n
takes n _ _ = false

-- whether the message numbered n was taken
abbrev pub is_taken : List Entry → ℕ → Bool
is_taken h n = list_any (λ e. takes n e.call e.reply) h

-- the deliveries whose message was not taken
abbrev pub free : List Message → List Entry → List ℕ
free requests h = filter (λ n. not (is_taken h n)) (deliveries requests h)

-- the replies to the call numbered n
abbrev pub if_to : ℕ → MessageKind → Message → List Message
if_to n kinds.Reply m = cond (m.to == n) (m ∷ []) []
if_to n _ m = []

abbrev pub replied : ℕ → Call → List Message
replied n (Post m) = if_to n m.kind m
replied n _ = []

abbrev pub replies : List Entry → ℕ → List Message
replies h n = flat_map (λ e. replied n e.call) h

abbrev pub has_reply : List Entry → ℕ → Bool
has_reply h n = nat_lt 0 (length (replies h n))

abbrev pub takes_reply : ℕ → Call → Bool
takes_reply n (TakeReply number) = number == n
takes_reply n _ = false

abbrev pub reply_is_taken : List Entry → ℕ → Bool
reply_is_taken h n = list_any (λ e. takes_reply n e.call) h

-- what is got of the message of that number
abbrev pub got_of : ℕ → Option Message → Reply
got_of n found = option_map_or (Got n) found Done

-- what a free delivery hands out
abbrev pub handed : List Message → Option ℕ → Reply
handed ms delivery = option_map_or (λ n. got_of n (numbered ms n)) delivery Done

-- The table, first of a post by the kind of its message.

abbrev pub post_ready : List Message → List Entry → MessageKind → ℕ → Bool
post_ready requests h kinds.Reply to = is_call_message (numbered (messages requests h) to) && (is_taken h to && not (has_reply h to))
post_ready requests h kinds.Request to = false
post_ready requests h _ to = true

abbrev pub post_due : List Message → List Entry → MessageKind → Reply
post_due requests h kinds.Reply = Done
post_due requests h _ = Posted (length (messages requests h) + 1)

abbrev pub post_need : MessageKind → ℕ
post_need kinds.Call = 4
post_need kinds.Send = 2
post_need _ = 0

abbrev pub inbox_ready : List Message → List Entry → Call → Bool
inbox_ready requests h (Post m) = post_ready requests h m.kind m.to
inbox_ready requests h (Take nth) = nat_le 1 nth && nat_le nth (length (free requests h))
inbox_ready requests h (Repost n) = nat_le 1 n && nat_le n (length (messages requests h))
inbox_ready requests h (TakeReply n) = has_reply h n && not (reply_is_taken h n)
inbox_ready requests h _ = false

abbrev pub inbox_due : List Message → List Entry → Call → Reply
inbox_due requests h (Post m) = post_due requests h m.kind
inbox_due requests h (Take nth) = handed (messages requests h) (numbered (free requests h) nth)
inbox_due requests h (TakeReply n) = got_of n (slice_get (replies h n) 0)
inbox_due requests h _ = Done

abbrev pub inbox_need : Call → ℕ
inbox_need (Post m) = post_need m.kind
inbox_need (Take nth) = 0
inbox_need (TakeReply n) = 0
inbox_need _ = 1

-- The units reserved for a message: one until it is taken, and for a call one until it has a reply and one until the reply is taken.
abbrev pub owed_for : List Message → List Entry → ℕ → ℕ
owed_for ms h n = cond (is_taken h n) 0 1 + cond (is_call_message (numbered ms n)) (cond (has_reply h n) 0 1 + cond (reply_is_taken h n) 0 1) 0

abbrev pub inbox_owed : List Message → List Entry → ℕ
inbox_owed requests h = sum_by (owed_for (messages requests h) h) (range_with_len 1 (length (messages requests h)))
