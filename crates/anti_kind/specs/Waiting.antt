-- What a call that is not ready waits for at its object, and which calls bring it.
use Rattle.std.specs.Prelude.{◌≡◌, ℕ, Bool, true, false, not, ◌&&◌, List, [], ◌∷◌, ◌++◌, ◌==◌, nat_le, None, Some}
use Rattle.std.specs.List.{list_any, list_all}
use Rattle.anti_ids.specs.declared.id.WriteId.{WriteId}
use Rattle.anti_kind.specs.declared.awaited.Awaited.{Awaited}
use Rattle.anti_kind.specs.declared.awaited.Awaited.TheVariants.{Delivery, Handout, Reply, Version, Writing}
use Rattle.anti_kind.specs.declared.awaited.Brought.{Brought}
use Rattle.anti_kind.specs.declared.awaited.Brought.TheVariants as brings
use Rattle.anti_kind.specs.declared.call.Call.{Call}
use Rattle.anti_kind.specs.declared.call.Call.TheVariants.{Again, Look, Nack, Post, Pull, Repost, Ship, Take, TakeReply, Write}
use Rattle.anti_kind.specs.declared.entry.Entry.{Entry}
use Rattle.anti_kind.specs.declared.message.MessageKind.{MessageKind}
use Rattle.anti_kind.specs.declared.message.MessageKind.TheVariants as kinds
use Rattle.anti_kind.specs.Kinds.{facts_of}
use Rattle.anti_kind.specs.Stored.{shows_of}
use Rattle.anti_kind.specs.Store.{Store, is_visible, is_written, store_ready}
use Rattle.anti_kind.specs.Inbox.{has_reply, inbox_ready}
use Rattle.anti_kind.specs.Objects.{Start, store, inbox, ready, IsLegal}
use Rattle.anti_kind.specs.Shipments.{next_ship}
use Rattle.anti_kind.specs.Caches.{stale}

-- an id of this version is not visible at the region
abbrev pub lacks : Store → List Entry → ℕ → ℕ → WriteId → Bool
lacks s h g v id = (id.version == v) && not (is_visible s h g id)

-- Whether a call waits for this: a take for a free delivery, the taking of a reply for that reply, a pull for what its subscription is
-- handed out next, and a look of written ids, which is not dry, for the version of one that is not visible. At a store with caches
-- a look waits for no version alone: a read and what comes again may make it ready too.
abbrev pub waits : Start → List Entry → Call → Awaited → Bool
waits (inbox requests) h (Take nth) Delivery = not (inbox_ready requests h (Take nth))
waits (inbox requests) h (TakeReply number) (Reply to) = (number == to) && not (has_reply h to)
waits (store s) h (Pull sub) (Handout to) = (sub == to) && not (store_ready s h (Pull sub))
waits (store s) h (Look g ids dry) (Version region version) =
    not (facts_of s.kind).cached && ((g == region) && (not dry && (list_all (is_written h) ids && list_any (lacks s h g version) ids)))
waits start h call awaited = false

-- what a call brings, or may bring, to those who wait at its object
abbrev pub posted_as : MessageKind → ℕ → Brought
posted_as kinds.Call to = brings.Delivered
posted_as kinds.Send to = brings.Delivered
posted_as kinds.Reply to = brings.Answered to
posted_as kinds.Request to = brings.Nothing

abbrev pub brought : Call → Brought
brought (Post m) = posted_as m.kind m.to
brought (Repost number) = brings.Delivered
brought (Write key value lineage) = brings.Written
brought (Ship region version part) = brings.Shipped region version
brought (Nack version) = brings.HandedBack
brought call = brings.Nothing

-- Whether what is brought may be what is awaited: what comes to a region may be the awaited version or a later one, and may be handed out
-- next to any subscription, as what is handed back.
abbrev pub reaches : Brought → Awaited → Bool
reaches brings.Delivered Delivery = true
reaches (brings.Answered to) (Reply number) = to == number
reaches brings.Written Writing = true
reaches (brings.Shipped region version) (Version awaited_at awaited) = (region == awaited_at) && nat_le awaited version
reaches (brings.Shipped region version) (Handout sub) = true
reaches brings.HandedBack (Handout sub) = true
reaches what awaited = false

-- but where there are caches, regions show the greatest version that is whole there
abbrev pub ShowsWhole : Start → Type 0
ShowsWhole (store s) = (facts_of s.kind).cached ≡ false → s.shows ≡ shows_of s.kind
ShowsWhole (inbox requests) = Unit {0}

-- What waits is not ready.
abbrev pub WaitingIsNotReady : Type 0
WaitingIsNotReady = (start : Start) (h : List Entry) (c : Call) (a : Awaited) → waits start h c a ≡ true → ready start h c ≡ false

-- What waits goes on to wait for the same, behind each entry that does not bring it.
abbrev pub WaitingGoesOn : Type 0
WaitingGoesOn =
    (start : Start) (h : List Entry) (e : Entry) (c : Call) (a : Awaited) → ShowsWhole start → IsLegal start (h ++ e ∷ [])
    → waits start h c a ≡ true → reaches (brought e.call) a ≡ false → waits start (h ++ e ∷ []) c a ≡ true

-- Where nothing is left to be shipped to a region, nothing is behind each entry that writes nothing.
abbrev pub NoneLeftGoesOn : Type 0
NoneLeftGoesOn =
    (start : Start) (h : List Entry) (e : Entry) (g : ℕ) → IsLegal start (h ++ e ∷ [])
    → next_ship start h g ≡ None → reaches (brought e.call) Writing ≡ false → next_ship start (h ++ e ∷ []) g ≡ None

-- What is told to come again next to a region can.
abbrev pub StaleIsReady : Type 0
StaleIsReady = (start : Start) (h : List Entry) (g v : ℕ) → stale start h g ≡ Some v → ready start h (Again g v 1) ≡ true

-- Where no cache of a region is behind, none is behind each entry that ships nothing there.
abbrev pub NoneStaleGoesOn : Type 0
NoneStaleGoesOn =
    (start : Start) (h : List Entry) (e : Entry) (g : ℕ) → IsLegal start (h ++ e ∷ [])
    → stale start h g ≡ None → reaches (brought e.call) (Version g 0) ≡ false → stale start (h ++ e ∷ []) g ≡ None
