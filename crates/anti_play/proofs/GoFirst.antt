-- The processes of an object, one after another in the order of their births.
use Rattle.std.proofs.Common.{◌≡◌, ℕ, List, length, get_or, sym, ap, ◌∙◌, subst}
use Rattle.std.specs.Prelude.{Some, position, slice_get}
use Rattle.std.proofs.lemmas.Option.{slice_get_within, get_or_from_slice_get}
use Rattle.anti_kind.specs.declared.actor.Actor.TheVariants.{Newborn}
use Rattle.anti_kind.specs.declared.call.Call.TheVariants.{Take}
use Rattle.anti_kind.specs.declared.call.Reply.TheVariants.{Done}
use Rattle.anti_kind.specs.declared.entry.Entry.{Entry}
use Rattle.anti_app.specs.declared.app.App.{App}
use Rattle.anti_trace.specs.Traces.{entries_on}
use Rattle.anti_proc.specs.declared.process.Process.{Process}
use Rattle.anti_proc.specs.Births.{birth_at, births}
use Rattle.anti_proc.specs.inner.Standing.{birth_of}
use Rattle.anti_play.specs.declared.world.World.{World}
use Rattle.anti_trace.specs.inner.Living.{AreInOrder, born_at, is_named, lists}
use Rattle.anti_play.specs.inner.Standing.{WorldStands}
use Rattle.anti_trace.proofs.InOrder.{as_many, birth_is as birth_of_at, found_itself, in_order}

-- an entry, to name what is past the end of a list
abbrev pub no_entry : Entry
no_entry = record { stamp = 0; object = 0; place = 0; seat = 0; actor = Newborn; span = 0; call = Take 0; reply = Done }

module _ (app : App) (w : World) (trace : List Entry) (o : ℕ) (s : WorldStands app w trace) where
  abbrev ps : List Process
  ps = born_at (lists w.processes) o

  abbrev bs : List Entry
  bs = births (entries_on o trace)

  pub born_length : length ps ≡ length bs
  born_length = sym (as_many trace o (lists w.processes) s.processes.born)

  -- the process at a place is that of the birth at it
  pub birth_is : (i : ℕ) (p : Process) (e : Entry) → slice_get ps i ≡ Some p → birth_of p ≡ birth_at (get_or bs i e)
  birth_is i p e at =
      ap (λ (x : Process). birth_of x) (sym (get_or_from_slice_get ps i p p at))
      ∙ birth_of_at trace o (lists w.processes) s.processes.born i p e (slice_get_within ps i p at)

  order : AreInOrder o ps
  order = in_order app trace s.run o (lists w.processes) s.processes.born

  pub birth_here : (i : ℕ) (p : Process) → slice_get ps i ≡ Some p → (birth_of p).object ≡ o
  birth_here i p at = subst (λ (x : Process). (birth_of x).object ≡ o) (get_or_from_slice_get ps i p p at) (order.here i p (slice_get_within ps i p at))

  -- it is the first of its name
  pub birth_found : (i : ℕ) (p : Process) → slice_get ps i ≡ Some p → position (is_named (birth_of p)) ps ≡ Some i
  birth_found i p at =
      subst (λ (x : Process). position (is_named (birth_of x)) ps ≡ Some i) (get_or_from_slice_get ps i p p at) (found_itself o ps order i p (slice_get_within ps i p at))
