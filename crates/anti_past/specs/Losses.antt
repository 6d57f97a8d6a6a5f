-- Where a trace loses an id first.
use Rattle.std.specs.Prelude.{ℕ, ◌≡◌, ◌<◌, true, false, List, Some, slice_get}
use Rattle.anti_ids.specs.Ids.{has_id}
use Rattle.anti_ids.specs.declared.id.WriteId.{WriteId}
use Rattle.anti_kind.specs.declared.entry.Entry.{Entry}
use Rattle.anti_app.specs.declared.app.App.{App}
use Rattle.anti_trace.specs.declared.mark.Mark.{Mark}
use Rattle.law_causal.specs.Words.{hands_all}
use Rattle.law_causal.specs.Carried.{Brought, carried_at}

-- At the entry e, at place j, which is a write, a read, a look or a post, its process does not carry an id that came to the span before.
pub record Loses (app : App) (trace : List Entry) (j : ℕ) (e : Entry) : Type 0 where
  pub hands : hands_all e.call ≡ true
  pub id : WriteId
  pub brought : Brought app trace j e id
  pub lost : has_id id (carried_at app trace j e) ≡ false

abbrev pub mark_of : Entry → Mark
mark_of e = record { object = e.object; place = e.place }

-- the entry that is marked is the first that loses an id
pub record LosesFirst (app : App) (trace : List Entry) (mark : Mark) : Type 0 where
  pub place : ℕ
  pub entry : Entry
  pub there : slice_get trace place ≡ Some entry
  pub marked : mark_of entry ≡ mark
  pub loses : Loses app trace place entry
  pub first : (i : ℕ) (a : Entry) → i < place → slice_get trace i ≡ Some a → Loses app trace i a → ⊥
