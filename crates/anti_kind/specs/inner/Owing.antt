-- What an inbox owes, as three counts of the numbers of its messages.
use Rattle.std.specs.Prelude.{ℕ, not, ◌&&◌, List, length, count_by}
use Rattle.std.specs.List.{range_with_len}
use Rattle.anti_kind.specs.declared.entry.Entry.{Entry}
use Rattle.anti_kind.specs.declared.message.Message.{Message}
use Rattle.anti_kind.specs.Inbox.{numbered, messages, is_call_message, is_taken, has_reply, reply_is_taken}

abbrev pub numbers : List Message → List Entry → List ℕ
numbers requests h = range_with_len 1 (length (messages requests h))

-- how many messages were not taken
abbrev pub untaken : List Message → List Entry → ℕ
untaken requests h = count_by (λ n. not (is_taken h n)) (numbers requests h)

-- how many calls have no reply
abbrev pub unanswered : List Message → List Entry → ℕ
unanswered requests h = count_by (λ n. is_call_message (numbered (messages requests h) n) && not (has_reply h n)) (numbers requests h)

-- of how many calls no reply was taken
abbrev pub unheard : List Message → List Entry → ℕ
unheard requests h = count_by (λ n. is_call_message (numbered (messages requests h) n) && not (reply_is_taken h n)) (numbers requests h)
