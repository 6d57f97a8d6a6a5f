-- Ids of writes in their order, and lineages: sets of ids, each written as its ascending list.
use Rattle.std.specs.Prelude.{ℕ, List, [], ◌∷◌, ◌==◌, Bool, not, filter}
use Rattle.std.specs.declared.cmp.Ordering.{Ordering}
use Rattle.std.specs.declared.cmp.Ordering.TheVariants.{Less, Equal, Greater}
use Rattle.std.specs.Cmp.Lexicographic.{slice_cmp}
use Rattle.std.specs.Ordering.{nat_cmp, on, then_cmp, is_eq}
use Rattle.std.specs.List.{list_any}
use Rattle.anti_ids.specs.declared.id.WriteId.{WriteId}

-- by store, then version, then the bytes of the key
abbrev pub id_cmp : WriteId → WriteId → Ordering
id_cmp = then_cmp (on (λ i. i.store) nat_cmp) (then_cmp (on (λ i. i.version) nat_cmp) (on (λ i. i.key) (slice_cmp nat_cmp)))

-- whether two ids are the same
abbrev pub is_id : WriteId → WriteId → Bool
is_id i j = is_eq (id_cmp i j)

-- whether an id is among these
abbrev pub has_id : WriteId → List WriteId → Bool
has_id i ids = list_any (λ j. is_id i j) ids

-- an id put before j, or taken as j, or put further on
abbrev pub placed : Ordering → WriteId → WriteId → List WriteId → List WriteId → List WriteId
placed Less i j js further = i ∷ j ∷ js
placed Equal i j js further = j ∷ js
placed Greater i j js further = j ∷ further

-- the set with one more id, at its place
abbrev pub with_id : WriteId → List WriteId → List WriteId
with_id i [] = i ∷ []
with_id i (j ∷ js) = placed (id_cmp i j) i j js (with_id i js)

-- the set with these ids too, one after another
abbrev pub with_ids : List WriteId → List WriteId → List WriteId
with_ids [] js = js
with_ids (i ∷ is) js = with_ids is (with_id i js)

-- the set without an id
abbrev pub without_id : WriteId → List WriteId → List WriteId
without_id i js = filter (λ j. not (is_id i j)) js

-- the ids of one store
abbrev pub ids_of : ℕ → List WriteId → List WriteId
ids_of store js = filter (λ j. j.store == store) js
