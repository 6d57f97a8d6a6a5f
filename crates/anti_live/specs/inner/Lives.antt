-- How the code stands for shared stores and for a client.
use Rattle.std.specs.Prelude.{◌≡◌, ℕ, ◌≤◌, true, List, [], length, map, Some, is_some, slice_get}
use Rattle.anti_ids.specs.List.{Listed, plain}
use Rattle.anti_kind.specs.declared.entry.Entry.{Entry}
use Rattle.anti_object.specs.declared.object.Object.{Object}
use Rattle.anti_object.specs.Standing.{ObjectAt, object_start}
use Rattle.anti_shared.specs.Passes.{IsJoined, IsSplit, PassView, SharedView, first_pass, rest_of, start_of}
use Rattle.anti_live.specs.declared.stores.LiveStore.{LiveStore}
use Rattle.anti_live.specs.Stores.{AreStores, start_at}
use Rattle.anti_live.specs.Clients.{id_of_pass, id_of_shared}
use Rattle.anti_live.specs.Headers.{names_of}

-- Each store is shared under its number, and began with nothing.
pub record AreShared (stores : List LiveStore) (shareds : List (SharedView Object)) : Type 0 where
  pub count : length shareds ≡ length stores
  pub object : (n : ℕ) (x : SharedView Object) → slice_get shareds n ≡ Some x → x.id.object ≡ n
  pub start : (n : ℕ) (s : LiveStore) (x : SharedView Object) → slice_get stores n ≡ Some s → slice_get shareds n ≡ Some x → start_of object_start x.id ≡ Some (start_at n s)

-- The stores can be, are shared, and there is room for all of them at their end.
pub record IsLive (stores : List LiveStore) (names : List (List ℕ)) (shareds : List (SharedView Object)) (kepts : Listed (Object × Listed Entry)) : Type 0 where
  pub are_stores : AreStores stores
  pub names_are : names ≡ names_of stores
  pub are_shared : AreShared stores shareds
  pub none : kepts.items ≡ []
  pub room : length stores ≤ kepts.spare

-- The passes are those of the shared objects, each of which has the number of its place, and a start.
pub record ArePasses (shareds : List (SharedView Object)) (passes : List (PassView Object)) : Type 0 where
  pub ids : map id_of_pass passes ≡ map id_of_shared shareds
  pub numbered : (o : ℕ) (x : SharedView Object) → slice_get shareds o ≡ Some x → x.id.object ≡ o
  pub started : (o : ℕ) (x : SharedView Object) → slice_get shareds o ≡ Some x → is_some (start_of object_start x.id) ≡ true

-- what of the passes no call changes
abbrev pub rests_of : List (PassView Object) → Listed (PassView Object)
rests_of passes = plain (map rest_of passes)

-- ---- how stores are shared

-- The store of a number, on which nothing has happened yet.
pub record IsNewStore (number : ℕ) (s : LiveStore) (o : Object) : Type 0 where
  pub start : object_start o ≡ start_at number s
  pub stands : ObjectAt o []

-- It was shared, and this is its first pass.
pub record IsSharedAt (number : ℕ) (s : LiveStore) (made : SharedView Object × PassView Object) : Type 0 where
  pub object_is : made.0.id.object ≡ number
  pub start_is : start_of object_start made.0.id ≡ Some (start_at number s)
  pub pass_is : made.1 ≡ first_pass made.0.id

-- ---- how clients are split and joined

-- the passes are those of the shared objects, in their order
abbrev pub AreOf : List (SharedView Object) → List (PassView Object) → Type 0
AreOf shareds passes = map id_of_pass passes ≡ map id_of_shared shareds

-- One was split off each.
pub record AreSplit (shareds : List (SharedView Object)) (old rest new : List (PassView Object)) : Type 0 where
  pub rest_of_them : AreOf shareds rest
  pub new_of_them : AreOf shareds new
  pub split : (o : ℕ) (was left made : PassView Object) → slice_get old o ≡ Some was → slice_get rest o ≡ Some left → slice_get new o ≡ Some made → IsSplit was left made

-- Each was joined into the one of its object.
pub record AreJoined (shareds : List (SharedView Object)) (old from new : List (PassView Object)) : Type 0 where
  pub of : AreOf shareds new
  pub joined : (o : ℕ) (one other both : PassView Object) → slice_get old o ≡ Some one → slice_get from o ≡ Some other → slice_get new o ≡ Some both → IsJoined one other both
