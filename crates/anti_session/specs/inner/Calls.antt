-- Calls as a map's keys name them: by the inbox and the number that they got there.
use Rattle.std.specs.Prelude.{ℕ, List, Option, None, Some, option_map, slice_get}
use Rattle.std.specs.Option.{option_and_then}
use Rattle.anti_kind.specs.declared.call.Call.{Call}
use Rattle.anti_kind.specs.declared.call.Call.TheVariants as calls
use Rattle.anti_kind.specs.declared.call.Reply.{Reply}
use Rattle.anti_kind.specs.declared.call.Reply.TheVariants as replies
use Rattle.anti_kind.specs.declared.entry.Entry.{Entry}
use Rattle.anti_session.specs.Members.{call_posted}

-- the number of the message that is taken
abbrev pub number_taken : Call → Reply → Option ℕ
number_taken (calls.Take nth) (replies.Got number m) = Some number
number_taken call reply = None

-- the message that an entry took
abbrev pub taken_of : Entry → Option (ℕ × ℕ)
taken_of e = option_map (λ (number : ℕ). (e.object, number)) (number_taken e.call e.reply)

-- the call that an entry posted
abbrev pub call_of : Entry → Option (ℕ × ℕ)
call_of e = option_map (λ (number : ℕ). (e.object, number)) (call_posted e.call e.reply)

-- the call that the entry at a place posted
abbrev pub call_at : List Entry → ℕ → Option (ℕ × ℕ)
call_at trace x = option_and_then call_of (slice_get trace x)
