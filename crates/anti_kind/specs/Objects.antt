-- Objects: a store or an inbox, what it starts as, and which histories are legal from there.
use Rattle.std.specs.Prelude.{◌≡◌, ℕ, ◌+◌, ◌<◌, max, Bool, true, List, [], ◌∷◌, ◌++◌, length, nat_le, All, sum_by}
use Rattle.anti_ids.specs.declared.limits.TheConstants.{MOST_UNITS}
use Rattle.anti_kind.specs.declared.call.Call.{Call}
use Rattle.anti_kind.specs.declared.call.Reply.{Reply}
use Rattle.anti_kind.specs.declared.entry.Entry.{Entry}
use Rattle.anti_kind.specs.declared.message.Message.{Message}
use Rattle.anti_kind.specs.Store.{Store, store_ready, store_due, store_need, store_owed}
use Rattle.anti_kind.specs.Replies.{shown}
use Rattle.anti_kind.specs.Inbox.{inbox_ready, inbox_due, inbox_need, inbox_owed}

-- what an object starts as
pub data Start : Type 0 where
  store : Store → Start
  inbox : List Message → Start

-- The tables: whether a call is ready after a history, the reply that it is then due, and the units that it needs.
abbrev pub ready : Start → List Entry → Call → Bool
ready (store s) h c = store_ready s h c
ready (inbox requests) h c = inbox_ready requests h c

abbrev pub due : Start → List Entry → Call → Reply
due (store s) h c = store_due s h c
due (inbox requests) h c = inbox_due requests h c

abbrev pub need : Start → List Entry → Call → ℕ
need (store s) h c = store_need s h c
need (inbox requests) h c = inbox_need c

-- Units: an entry weighs one, but one with more than one row a unit for each row.
abbrev pub weight : Reply → ℕ
weight reply = max 1 (length (shown reply))

-- the units of the entries that were made
abbrev pub held : List Entry → ℕ
held h = sum_by (λ e. weight e.reply) h

-- the units reserved for later entries
abbrev pub owed : Start → List Entry → ℕ
owed (store s) h = store_owed s h
owed (inbox requests) h = inbox_owed requests h

abbrev pub fits : Start → List Entry → Call → Bool
fits start h c = nat_le (held h + owed start h + need start h c) MOST_UNITS

-- the greatest stamp, 0 where there is no entry
abbrev pub last_stamp : List Entry → ℕ
last_stamp [] = 0
last_stamp (e ∷ h) = max e.stamp (last_stamp h)

-- The entry e may come after the history h: its call is ready and fits, its reply is the one due, its place is the next, and its
-- stamp is above those before.
pub record Follows (start : Start) (h : List Entry) (e : Entry) : Type 0 where
  pub place : e.place ≡ length h + 1
  pub is_ready : ready start h e.call ≡ true
  pub fits : fits start h e.call ≡ true
  pub reply : e.reply ≡ due start h e.call
  pub stamp : All (λ d. d.stamp < e.stamp) h

-- each of the further entries may come after those before it
abbrev pub LegalAfter : Start → List Entry → List Entry → Type 0
LegalAfter start h [] = Unit {0}
LegalAfter start h (e ∷ rest) = Follows start h e × LegalAfter start (h ++ e ∷ []) rest

abbrev pub IsLegal : Start → List Entry → Type 0
IsLegal start h = LegalAfter start [] h
