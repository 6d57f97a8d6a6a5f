-- What became of a message.
use Rattle.std.specs.Prelude.{ℕ, Bool, true, false, ◌==◌, List, None, Some, slice_get}
use Rattle.std.specs.List.{list_any}
use Rattle.anti_kind.specs.declared.call.Call.{Call}
use Rattle.anti_kind.specs.declared.call.Call.TheVariants.{Repost}
use Rattle.anti_kind.specs.declared.entry.Entry.{Entry}
use Rattle.anti_kind.specs.declared.message.Message.{Message}
use Rattle.anti_kind.specs.Inbox.{is_taken, replies, reply_is_taken}
use Rattle.anti_inbox.specs.declared.inbox.Fate.{Fate}

-- whether the message numbered n was delivered again
abbrev pub reposts : ℕ → Call → Bool
reposts n (Repost number) = number == n
reposts n _ = false

abbrev pub is_reposted : List Entry → ℕ → Bool
is_reposted h n = list_any (λ e. reposts n e.call) h

-- what a history says of it
abbrev pub fate_of : List Entry → ℕ → Fate
fate_of h n = record {
  taken = is_taken h n;
  reposted = is_reposted h n;
  reply = slice_get (replies h n) 0;
  heard = reply_is_taken h n;
}

-- nothing has happened to it
abbrev pub untouched : Fate
untouched = record { taken = false; reposted = false; reply = None; heard = false }

-- it is taken, delivered again, answered, or its reply is taken

abbrev pub taken : Fate → Fate
taken f = record f { taken = true }

abbrev pub reposted : Fate → Fate
reposted f = record f { reposted = true }

abbrev pub answered : Message → Fate → Fate
answered m f = record f { reply = Some m }

abbrev pub heard : Fate → Fate
heard f = record f { heard = true }
