-- How the passes of a client are asked whether others are out, and how the shared objects are closed by them.
use Rattle.std.specs.Prelude.{◌≡◌, ℕ, ◌≤◌, Bool, not, List, ◌++◌, length, reverse, take}
use Rattle.std.specs.List.{AllZip, list_any}
use Rattle.anti_ids.specs.List.{Listed}
use Rattle.anti_kind.specs.declared.entry.Entry.{Entry}
use Rattle.anti_object.specs.declared.object.Object.{Object}
use Rattle.anti_shared.specs.Passes.{PassView, SharedView}
use Rattle.anti_live.specs.Clients.{IsAsked, IsLeft, is_another_out}
use Rattle.anti_live.specs.inner.Changing.{HaveChanged}
use Rattle.anti_live.specs.inner.Lives.{AreOf}

-- Those before a place were asked, and this is whether none of them was answered that another is out.
pub record AreAsking (old : List (PassView Object)) (at : ℕ) (now : List (PassView Object)) (alone : Bool) : Type 0 where
  pub asked : HaveChanged IsAsked old at now
  pub answer : alone ≡ not (list_any is_another_out (take at now))

-- These objects and their passes are left, the last one first. Those before them were closed, and there is room for the others.
pub record AreClosing (passes : List (PassView Object)) (shareds : List (SharedView Object)) (left : List (PassView Object)) (kepts : Listed (Object × Listed Entry)) : Type 0 where
  pub gone : List (PassView Object)
  pub whole : passes ≡ gone ++ reverse left
  pub of : AreOf (reverse shareds) (reverse left)
  pub closed : AllZip IsLeft gone kepts.items
  pub room : length shareds ≤ kepts.spare
