-- Sights: what the looks of a barrier have seen.
use Rattle.std.specs.Prelude.{◌≡◌, ℕ, ◌<◌, Bool, true, false, not, List, [], ◌==◌, filter, All, AllPairs, Contains, Option, Some}
use Rattle.std.specs.List.{list_any}
use Rattle.anti_kind.specs.declared.call.Call.TheVariants.{Look}
use Rattle.anti_kind.specs.declared.call.Reply.TheVariants.{Missing}
use Rattle.anti_kind.specs.declared.entry.Entry.{Entry}
use Rattle.anti_kind.specs.Inbox.{numbered}
use Rattle.anti_kind.specs.Store.{Store, is_replica}
use Rattle.anti_kind.specs.Objects.{Start, store}
use Rattle.anti_kind.specs.Ports.{View}
use Rattle.anti_kind.specs.Entries.{named}
use Rattle.anti_shim.specs.declared.caller.Caller.{Caller}
use Rattle.anti_shim.specs.declared.looks.PlannedLook.{PlannedLook}
use Rattle.anti_shim.specs.declared.sight.Sight.{Sight}

-- The stores with a replica in a region, in ascending order.
abbrev pub HasReplica : (ℕ → Option Start) → ℕ → ℕ → Type 0
HasReplica starts region o =
    (s : Store) × (starts o ≡ Some (store s)) × (s.number ≡ o) × (is_replica s region ≡ true)

pub record IsHere (starts : ℕ → Option Start) (region : ℕ) (here : List ℕ) : Type 0 where
  pub ascending : AllPairs (λ a b. a < b) here
  pub replicas : All (HasReplica starts region) here

-- whether a store is among the sights
abbrev pub has_sight : List Sight → ℕ → Bool
has_sight sights o = list_any (λ sight. sight.store == o) sights

-- the looks at stores of which there is no sight
abbrev pub unseen : List Sight → List PlannedLook → List PlannedLook
unseen sights looks = filter (λ look. not (has_sight sights look.store)) looks

-- At the sight's place, in the history that was seen of its store, stands the planned look: it is
-- this caller's, with the sight's stamp, is not dry, and found nothing missing.
pub record IsSeen (now : ℕ → View) (who : Caller) (region : ℕ) (look : PlannedLook) (sight : Sight)
    : Type 0 where
  pub store : sight.store ≡ look.store
  pub entry : Entry
  pub place : numbered (now look.store).seen sight.place ≡ Some entry
  pub stamp : entry.stamp ≡ sight.stamp
  pub actor : entry.actor ≡ named who.actor look.store sight.place
  pub span : entry.span ≡ who.span
  pub call : entry.call ≡ Look region look.ids false
  pub reply : entry.reply ≡ Missing [] []

-- The sights are of different stores, and each is of one of the planned looks.
pub record HasSights (now : ℕ → View) (who : Caller) (region : ℕ) (planned : List PlannedLook)
    (sights : List Sight) : Type 0 where
  pub distinct : AllPairs (λ a b. a.store ≡ b.store → ⊥) sights
  pub seen : All
      (λ sight. (look : PlannedLook) × Contains planned look × IsSeen now who region look sight)
      sights
