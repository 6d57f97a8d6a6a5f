-- The passes of a client behind one call that was made by one of them.
use Rattle.std.proofs.Common.{◌≡◌, ℕ, suc, ◌<◌, true, List, [], length, map, Option, None, Some, refl, sym, ap, subst, ◌∙◌, arith, inl, inr}
use Rattle.std.specs.Prelude.{is_some, nat_lt, slice_get, slice_set, option_map}
use Rattle.std.specs.Option.{option_and_then, option_map_or}
use Rattle.std.proofs.Math.Seq.{map-set_same}
use Rattle.std.proofs.lemmas.Bool.{cases_lt, le-leb, le-ltb}
use Rattle.std.proofs.lemmas.Option.{slice_get-map, slice_get_past, slice_get_within, get_or_from_slice_get}
use Rattle.anti_ids.specs.List.{plain}
use Rattle.anti_kind.specs.declared.actor.Actor.{Actor}
use Rattle.anti_kind.specs.declared.call.Call.{Call}
use Rattle.anti_kind.specs.declared.port.Answer.{Answer}
use Rattle.anti_kind.specs.Objects.{Start}
use Rattle.anti_kind.specs.Ports.{Answered, View}
use Rattle.anti_object.specs.declared.object.Object.{Object}
use Rattle.anti_object.specs.Standing.{object_start}
use Rattle.anti_shared.specs.Passes.{Identity, PassView, SharedView, rest_of, start_of, view_of}
use Rattle.anti_live.specs.Clients.{id_of_pass, id_of_shared, starts_in, views_in}
use Rattle.anti_live.specs.declared.stores.LiveStore.{LiveStore}
use Rattle.anti_live.specs.Stores.{start_at}
use Rattle.anti_live.specs.inner.Lives.{ArePasses, AreShared, rests_of}
use Rattle.anti_live.proofs.Belonging.{id_at, same_long}
use Rattle.anti_live.proofs.Places.{item_at, set_here, set_other}

-- passes of shared stores
pub are_passes : (stores : List LiveStore) (shareds : List (SharedView Object)) (passes : List (PassView Object)) → AreShared stores shareds
    → map id_of_pass passes ≡ map id_of_shared shareds → ArePasses shareds passes
are_passes stores shareds passes are same = record {
  ids = same;
  numbered = are.object;
  started = λ o x at.
      let s = item_at stores o (let low = slice_get_within shareds o x at in omega (arith, are.count, low)) in
      ap (λ (start : Option Start). is_some start) (are.start o s.0 x s.1 at);
}

-- a store that is there has a pass
pub there : (passes : List (PassView Object)) (o : ℕ) → is_some (starts_in passes o) ≡ true → o < length passes
there passes o is =
    elim (cases_lt o (length passes)) as (λ _. o < length passes) [
      | inl low ↦ low
      | inr past ↦
          let none : slice_get passes o ≡ None = slice_get_past passes o past in
          absurd (let no : is_some (option_and_then (λ (p : PassView Object). start_of object_start p.id) None) ≡ true = subst (λ (p : Option (PassView Object)). is_some (option_and_then (λ (q : PassView Object). start_of object_start q.id) p) ≡ true) none is in cc)
    ]

-- and just those that are there have a start
pub is_there : (shareds : List (SharedView Object)) (passes : List (PassView Object)) (o : ℕ) → ArePasses shareds passes → nat_lt o (length shareds) ≡ is_some (starts_in passes o)
is_there shareds passes o are =
    elim (cases_lt o (length shareds)) as (λ _. nat_lt o (length shareds) ≡ is_some (starts_in passes o)) [
      | inl low ↦
          let many = same_long shareds passes are.ids in
          let pass = item_at passes o (omega (arith, many, low)) in
          let x = item_at shareds o low in
          let same : id_of_pass pass.0 ≡ id_of_shared x.0 =
          (let both : Some (id_of_pass pass.0) ≡ Some (id_of_shared x.0) =
          ap (option_map id_of_pass) (sym pass.1) ∙ sym (slice_get-map id_of_pass passes o) ∙ ap (λ (ids : List (Identity Object)). slice_get ids o) are.ids
          ∙ slice_get-map id_of_shared shareds o ∙ ap (option_map id_of_shared) x.1 in cc) in
          le-leb (suc o) (length shareds) low
          ∙ sym (ap (λ (p : Option (PassView Object)). is_some (option_and_then (λ (q : PassView Object). start_of object_start q.id) p)) pass.1
          ∙ ap (λ (id : Identity Object). is_some (start_of object_start id)) same ∙ are.started o x.0 x.1)
      | inr past ↦
          le-ltb o (length shareds) past
          ∙ sym (ap (λ (p : Option (PassView Object)). is_some (option_and_then (λ (q : PassView Object). start_of object_start q.id) p)) (slice_get_past passes o (let many = same_long shareds passes are.ids in omega (arith, many, past))))
    ]

module _ (shareds : List (SharedView Object)) (passes : List (PassView Object)) (o : ℕ) (x : SharedView Object) (pass : PassView Object) (are : ArePasses shareds passes)
    (x_is : slice_get shareds o ≡ Some x) (pass_is : slice_get passes o ≡ Some pass) where
  pub same_id : pass.id ≡ x.id
  same_id =
      id_at shareds passes are.ids o x pass (slice_get_within shareds o x x_is) (sym (get_or_from_slice_get shareds o x x x_is))
      (sym (get_or_from_slice_get passes o pass pass pass_is))

  pub its_number : pass.id.object ≡ o
  its_number = ap (λ (id : Identity Object). id.object) same_id ∙ are.numbered o x x_is

  module _ (after : PassView Object) where
    abbrev now : List (PassView Object)
    now = slice_set passes o after

    here : slice_get now o ≡ Some after
    here = set_here passes o after (slice_get_within passes o pass pass_is)

    pub still_are : after.id ≡ pass.id → ArePasses shareds now
    still_are same = record {
      ids = map-set_same id_of_pass passes o after pass (same ∙ sym (ap id_of_pass (get_or_from_slice_get passes o pass pass pass_is))) ∙ are.ids;
      numbered = are.numbered;
      started = are.started;
    }

    pub rests_stay : rest_of after ≡ rest_of pass → rests_of now ≡ rests_of passes
    rests_stay same =
        ap plain (map-set_same rest_of passes o after pass (same ∙ sym (ap rest_of (get_or_from_slice_get passes o pass pass pass_is))))

    pub starts_stay : after.id ≡ pass.id → (k : ℕ) → starts_in now k ≡ starts_in passes k
    starts_stay same k =
        sym (starts_by now k) ∙ ap (λ (ids : List (Identity Object)). option_and_then (start_of object_start) (slice_get ids k))
        (map-set_same id_of_pass passes o after pass (same ∙ sym (ap id_of_pass (get_or_from_slice_get passes o pass pass pass_is)))) ∙ starts_by passes k
      where
        by_pass : (p : Option (PassView Object)) → option_and_then (start_of object_start) (option_map id_of_pass p) ≡ option_and_then (λ q. start_of object_start q.id) p
        by_pass None = refl
        by_pass (Some p) = refl

        starts_by : (all : List (PassView Object)) (j : ℕ) → option_and_then (start_of object_start) (slice_get (map id_of_pass all) j) ≡ starts_in all j
        starts_by all j = ap (option_and_then (start_of object_start)) (slice_get-map id_of_pass all j) ∙ by_pass (slice_get all j)

    abbrev nothing : View
    nothing = record { seen = []; made = []; visits = 0 }

    pub others_stay : (k : ℕ) → (k ≡ o → ⊥) → views_in now k ≡ views_in passes k
    others_stay k other = ap (λ (p : Option (PassView Object)). option_map_or view_of p nothing) (set_other passes o after k (λ same. other (sym same)))

    pub is_answered : (actor : Actor) (span clock : ℕ) (c : Call) (answer : Answer)
        → Answered (start_of object_start pass.id) (record { object = pass.id.object; actor = actor; span = span; clock = clock; call = c }) (view_of pass) (view_of after) answer
        → Answered (starts_in passes o) (record { object = o; actor = actor; span = span; clock = clock; call = c }) (views_in passes o) (views_in now o) answer
    is_answered actor span clock c answer answered =
        let start : start_of object_start pass.id ≡ starts_in passes o = ap (option_and_then (λ (p : PassView Object). start_of object_start p.id)) (sym pass_is) in
        let old : view_of pass ≡ views_in passes o = ap (λ (p : Option (PassView Object)). option_map_or view_of p nothing) (sym pass_is) in
        let new : view_of after ≡ views_in now o = ap (λ (p : Option (PassView Object)). option_map_or view_of p nothing) (sym here) in
        subst
        (λ (z : Option Start × ℕ × View × View). Answered z.0 (record { object = z.1; actor = actor; span = span; clock = clock; call = c }) z.2 z.3 answer)
        (λ i. (start i, its_number i, old i, new i)) answered

-- each store starts as it is defined
pub started_at : (stores : List LiveStore) (shareds : List (SharedView Object)) (passes : List (PassView Object)) → AreShared stores shareds
    → map id_of_pass passes ≡ map id_of_shared shareds → (o : ℕ) (s : LiveStore) → slice_get stores o ≡ Some s → starts_in passes o ≡ Some (start_at o s)
started_at stores shareds passes are same o s at =
    let those : ArePasses shareds passes = are_passes stores shareds passes are same in
    let low : o < length shareds = (let within = slice_get_within stores o s at in omega (arith, within, are.count)) in
    let x = item_at shareds o low in
    let pass = item_at passes o (let many = same_long shareds passes those.ids in omega (arith, many, low)) in
    ap (λ (p : Option (PassView Object)). option_and_then (λ q. start_of object_start q.id) p) pass.1
    ∙ ap (start_of object_start) (same_id shareds passes o x.0 pass.0 those x.1 pass.1) ∙ are.start o s x.0 at x.1
