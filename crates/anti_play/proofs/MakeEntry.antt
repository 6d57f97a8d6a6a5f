-- The objects of a world when the call of an entry is made at its object.
use Rattle.std.proofs.Common.{◌≡◌, ℕ, ◌<◌, ◌++◌, inl, inr, List, [], ◌∷◌, length, get_or, refl, sym, ap, ◌∙◌, subst, arith}
use Rattle.std.specs.Prelude.{Some, slice_get, slice_set, Result, Ok, Err, OnOk, OnErr}
use Rattle.std.specs.Result.{result_and}
use Rattle.std.proofs.lemmas.List.{length-set, get_or-set_same, get_or-set_other}
use Rattle.std.proofs.lemmas.Option.{slice_get-get_or}
use Rattle.anti_kind.specs.declared.entry.Entry.{Entry}
use Rattle.anti_kind.specs.Objects.{Follows}
use Rattle.anti_kind.specs.Records.{Record}
use Rattle.anti_app.specs.declared.app.App.{App}
use Rattle.anti_object.specs.declared.object.Object.{Object}
use Rattle.anti_object.specs.Standing.{object_start}
use Rattle.anti_trace.specs.Traces.{entries_on}
use Rattle.anti_trace.specs.inner.Living.{Grows}
use Rattle.anti_play.specs.inner.Standing.{AllStand, IsObject, MayGrow}
use Rattle.anti_trace.proofs.Living.{decide}

-- what is found within a list does not depend on what is taken past its end
pub any_default : {T : Type 0} (xs : List T) (i : ℕ) (c d : T) → i < length xs → get_or xs i c ≡ get_or xs i d
any_default xs i c d lt =
    let one : slice_get xs i ≡ Some (get_or xs i c) = slice_get-get_or xs i c lt in
    let two : slice_get xs i ≡ Some (get_or xs i d) = slice_get-get_or xs i d lt in
    let both : Some (get_or xs i c) ≡ Some (get_or xs i d) = sym one ∙ two in
    cc

-- one object in place of another
module _ (app : App) (objects : List (Record Object)) (i : ℕ) (r : Record Object) (inside : i < length objects)
    (same : (d : Record Object) → object_start r.machine ≡ object_start (get_or objects i d).machine) where
  pub all_with : (before after : List Entry) → AllStand app objects before → r.history ≡ entries_on i after
      → ((o : ℕ) → (i ≡ o → ⊥) → entries_on o after ≡ entries_on o before) → AllStand app (slice_set objects i r) after
  all_with before after all history others = record {
    count = length-set objects i r ∙ all.count;
    each = λ o d lt.
        let low : o < length objects = let same_length : length (slice_set objects i r) ≡ length objects = length-set objects i r in omega arith in
        elim (decide i o) as (λ _. IsObject app o (get_or (slice_set objects i r) o d) (entries_on o after)) [
          | inl here ↦ subst (λ (n : ℕ). IsObject app n (get_or (slice_set objects i r) n d) (entries_on n after)) here
              (subst (λ (x : Record Object). IsObject app i x (entries_on i after)) (sym (get_or-set_same objects i r d inside))
              (record { start = (all.each i d inside).start ∙ ap Some (sym (same d)); history = history }))
          | inr other ↦ subst (λ (x : Record Object). IsObject app o x (entries_on o after)) (sym (get_or-set_other objects i o r d (λ e. other (sym e))))
              (subst (λ (x : List Entry). IsObject app o (get_or objects o d) x) (sym (others o other)) (all.each o d low))
        ];
  }

-- what is at the number of an object
object_at : (app : App) (objects : List (Record Object)) (trace : List Entry) (o : ℕ) (r : Record Object) → AllStand app objects trace → r ≡ get_or objects o r → o < length objects
    → IsObject app o r (entries_on o trace)
object_at app objects trace o r all is inside = subst (λ (x : Record Object). IsObject app o x (entries_on o trace)) (sym is) (all.each o r inside)

-- the entry may come next at its object
pub may_make : (objects : List (Record Object)) (e : Entry) (r : Record Object) → r ≡ get_or objects e.object r → MayGrow objects e → Follows (object_start r.machine) r.history e
may_make objects e r is may =
    let here : IsObject may.app e.object r (entries_on e.object may.before) = object_at may.app objects may.before e.object r may.stand is may.known in
    subst (λ (h : List Entry). Follows (object_start r.machine) h e) (sym here.history) (may.grows.follows (object_start r.machine) here.start)

module _ (objects : List (Record Object)) (e : Entry) (r n : Record Object) (is : r ≡ get_or objects e.object r) (inside : e.object < length objects)
    (start : object_start n.machine ≡ object_start r.machine) where
  same_start : (d : Record Object) → object_start n.machine ≡ object_start (get_or objects e.object d).machine
  same_start d = start ∙ ap (λ (x : Record Object). object_start x.machine) (is ∙ any_default objects e.object r d inside)

  pub all_grow : n.history ≡ r.history ++ e ∷ []
      → (app : App) (before after : List Entry) → AllStand app objects before → Grows app before after e → AllStand app (slice_set objects e.object n) after
  all_grow made app before after all grows =
      let here : IsObject app e.object r (entries_on e.object before) = object_at app objects before e.object r all is inside in
      all_with app objects e.object n inside same_start before after all
      (made ∙ ap (λ (h : List Entry). h ++ e ∷ []) here.history ∙ sym grows.extends.here) grows.extends.others

  pub all_kept : n.history ≡ r.history → (app : App) (before : List Entry) → AllStand app objects before → AllStand app (slice_set objects e.object n) before
  all_kept kept app before all =
      let here : IsObject app e.object r (entries_on e.object before) = object_at app objects before e.object r all is inside in
      all_with app objects e.object n inside same_start before before all (kept ∙ here.history) (λ o other. refl)

-- what is so is so after want of memory
pub on_err : {T E : Type 0} (r : Result T E) (P : Type 0) → P → OnErr r P
on_err (Ok x) P p = tt
on_err (Err e) P p = p

-- what is so of both, where a value was kept behind a call by `and`, or was given up
module _ {T U E : Type 0} (r : Result U E) (s : T) (x : Result T E) (is : x ≡ result_and r (Ok s)) where
  pub by_and : {Q : Type 0} (P : Result T E → Type 0) → OnOk r Q → (Q → P (Ok s)) → ((e : E) → P (Err e)) → P x
  by_and {Q} P fact done lost = subst P (sym is) (go r fact)
    where
      go : (r : Result U E) → OnOk r Q → P (result_and r (Ok s))
      go (Ok u) q = done q
      go (Err e) q = lost e
