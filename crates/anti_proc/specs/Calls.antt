-- What is true of all calls of a process.
use Rattle.std.specs.Prelude.{ℕ, ◌≡◌, ◌≤◌, ◌==◌, true}
use Rattle.std.specs.List.{list_all}
use Rattle.anti_kind.specs.declared.call.Call.{Call}
use Rattle.anti_kind.specs.declared.call.Call.TheVariants as calls
use Rattle.anti_kind.specs.declared.call.Reply.{Reply}
use Rattle.anti_app.specs.declared.app.App.{App}
use Rattle.anti_app.specs.Numbers.{IsInbox, IsStore}
use Rattle.anti_app.specs.Objects.{is_store_here}
use Rattle.anti_proc.specs.Trees.{Tree, Asks, Ends}

-- A write, a read, a scan, a poll, a look, an ack or a nack is made at a store that is there, a post or the taking of a reply at an inbox
-- that is there. A process makes no other call.
abbrev pub IsMadeOn : App → ℕ → Call → Type 0
IsMadeOn app o (calls.Write key value lineage) = IsStore app o
IsMadeOn app o (calls.Read region key) = IsStore app o
IsMadeOn app o (calls.Scan region prefix) = IsStore app o
IsMadeOn app o (calls.Poll region key) = IsStore app o
IsMadeOn app o (calls.Look region ids dry) = IsStore app o
IsMadeOn app o (calls.Ack version) = IsStore app o
IsMadeOn app o (calls.Nack version) = IsStore app o
IsMadeOn app o (calls.Post message) = IsInbox app o
IsMadeOn app o (calls.TakeReply number) = IsInbox app o
IsMadeOn app o _ = ⊥

-- a look is made at a store with a replica in the region, for ids of that store alone
abbrev pub LooksWhereItMay : App → ℕ → Call → Type 0
LooksWhereItMay app o (calls.Look region ids dry) =
    (is_store_here app region o ≡ true) × (list_all (λ id. id.store == o) ids ≡ true)
LooksWhereItMay app o _ = Unit {0}

-- a call that a process makes, in a span
pub record IsOfProcess (app : App) (o n : ℕ) (c : Call) : Type 0 where
  pub span : 1 ≤ n
  pub call : IsMadeOn app o c
  pub look : LooksWhereItMay app o c

-- each call that the process makes, whatever it is answered, is such a call
abbrev pub AllOfProcess : App → Tree → Type 0
AllOfProcess app (Asks ask go) =
    IsOfProcess app ask.object ask.span ask.call × ((reply : Reply) → AllOfProcess app (go reply))
AllOfProcess app (Ends end) = Unit {0}
