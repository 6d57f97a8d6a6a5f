-- The looks of a barrier: which they are, how one follows another, and when it is answered.
use Rattle.std.specs.Prelude.{◌≡◌, ℕ, ◌==◌, ◌&&◌, Bool, Some, is_some, List, [], ◌∷◌, length, filter, slice_get, if◌then◌else◌}
use Rattle.std.specs.List.{list_any}
use Rattle.anti_ids.specs.Ids.{has_id, ids_of}
use Rattle.anti_ids.specs.declared.id.WriteId.{WriteId}
use Rattle.anti_kind.specs.declared.call.Call.{Call}
use Rattle.anti_kind.specs.declared.call.Call.TheVariants as calls
use Rattle.anti_kind.specs.declared.call.Reply.{Reply}
use Rattle.anti_shim.specs.declared.looks.PlannedLook.{PlannedLook}
use Rattle.anti_shim.specs.Plans.{with_look}
use Rattle.anti_proc.specs.Local.{Setting, Local}
use Rattle.anti_proc.specs.Meaning.{Go, planned}
use Rattle.anti_app.specs.Objects.{is_store_here}
use Rattle.anti_proc.specs.Trees.{Tree, Ask, Asks, Ends, Make, after, ask_of}
use Rattle.anti_proc.specs.Asked.{next_of}
use Rattle.anti_proc.specs.Looks.{is_look}

-- those of these looks that are made at a store
abbrev pub made_at : ℕ → List PlannedLook → List PlannedLook
made_at store looks = filter (λ look. look.store == store) looks

-- At a store with a replica in the region it makes one look, for just the ids of the store that the process carries, and none where
-- there are no such ids. At another store it makes none.
abbrev pub LooksOnceAt : Setting → Local → ℕ → Type 0
LooksOnceAt s l store =
    made_at store (planned s l) ≡ (if is_store_here s.app s.role.region store then with_look store (ids_of store l.carried) [] else [])

-- whether one of these looks asks for an id
abbrev pub is_asked : WriteId → List PlannedLook → Bool
is_asked i looks = list_any (λ look. has_id i look.ids) looks

-- An id is asked for just where the process carries it and its store has a replica in the region.
abbrev pub AsksFor : Setting → Local → WriteId → Type 0
AsksFor s l i = is_asked i (planned s l) ≡ (is_store_here s.app s.role.region i.store && has_id i l.carried)

-- After so many replies it makes the look of that number, or goes on, where it has made all.
abbrev pub GoesOver : Setting → Local → Bool → (Go → Tree) → Type 0
GoesOver s l dry tree =
    (go : Go) (replies : List Reply)
    → ((look : PlannedLook) → slice_get (planned s l) (length replies) ≡ Some look → next_of (tree go) replies ≡ Make look.store l.span (calls.Look s.role.region look.ids dry))
    × (length replies ≡ length (planned s l) → after (tree go) replies ≡ go l)

-- It begins with the first of its looks, where there are any, and the others are left after that one.
abbrev pub BeginsItsLooks : Setting → Local → Bool → (Go → Tree) → Type 0
BeginsItsLooks s l dry tree =
    (go : Go) (look : PlannedLook) (later : List PlannedLook) → planned s l ≡ look ∷ later
    → ask_of (tree go)
    ≡ Some (record { object = look.store; span = l.span; call = calls.Look s.role.region look.ids dry; carried = l.carried; left = Some later })

-- a look of the same region, as dry, for other ids
abbrev pub looking_for : List WriteId → Call → Call
looking_for ids (calls.Look region others dry) = calls.Look region ids dry
looking_for ids call = call

-- The look that its barrier makes after this one, and after which the later ones are left: at its own store and for its own ids, but of the
-- same region, as dry, in the same span and with the same lineage.
abbrev pub next_look : Ask → PlannedLook → List PlannedLook → Ask
next_look ask look later = record ask { object = look.store; call = looking_for look.ids ask.call; left = Some later }

-- A look, and no other call, has a list of the looks that are left after it. As long as there are any, the process asks next for the first
-- of them, whatever the reply is.
pub record LooksInARow (ask : Ask) (go : Reply → Tree) : Type 0 where
  pub look : is_look ask.call ≡ is_some ask.left
  pub next : (first : PlannedLook) (later : List PlannedLook) → ask.left ≡ Some (first ∷ later)
      → (reply : Reply) → ask_of (go reply) ≡ Some (next_look ask first later)

-- it is so of each call that the process makes, whatever it is answered
abbrev pub AllLookInARow : Tree → Type 0
AllLookInARow (Asks ask go) = LooksInARow ask go × ((reply : Reply) → AllLookInARow (go reply))
AllLookInARow (Ends end) = Unit {0}
