-- The looks of a barrier, over the stores with a replica in the region.
use Rattle.std.proofs.Common.{◌≡◌, ℕ, zero, suc, ◌+◌, ◌<◌, ◌==◌, ◌&&◌, ◌||◌, Bool, true, false, cond, if◌then◌else◌, List, [], ◌∷◌, length, refl, sym, ap, ◌∙◌, arith}
use Rattle.std.specs.Prelude.{slice_get}
use Rattle.std.specs.List.{list_any, list_all}
use Rattle.std.specs.Option.{option_map_or}
use Rattle.std.proofs.lemmas.Bool.{eqb-true, ne_eqb, eq-eqb, or_left, or_right, or_from}
use Rattle.std.proofs.lemmas.Bool.Decides.{nat_tests}
use Rattle.anti_ids.specs.Each.{Each}
use Rattle.anti_ids.specs.Ids.{has_id, ids_of}
use Rattle.anti_ids.specs.declared.id.WriteId.{WriteId}
use Rattle.anti_ids.proofs.IdLemmas.{has_id-ids_of}
use Rattle.anti_app.specs.declared.app.StoreDef.{StoreDef}
use Rattle.anti_shim.specs.declared.looks.PlannedLook.{PlannedLook}
use Rattle.anti_shim.specs.Plans.{with_look, plan}
use Rattle.anti_proc.specs.Barriers.{made_at, is_asked}
use Rattle.anti_app.specs.Objects.{is_here, here_from}

-- whether a number is among these
abbrev pub is_among : ℕ → List ℕ → Bool
is_among store stores = list_any (λ other. other == store) stores

-- ---- the stores with a replica in the region

not_put : (here : Bool) (n store : ℕ) (further : List ℕ) → store < n → is_among store further ≡ false → is_among store (if here then n ∷ further else further) ≡ false
not_put true n store further lt none = or_from (n == store) (is_among store further) (ne_eqb n store (λ e. omega arith)) none
not_put false n store further lt none = none

not_before : (region n store : ℕ) (stores : List StoreDef) → store < n → is_among store (here_from region n stores) ≡ false
not_before region n store [] lt = refl
not_before region n store (s ∷ ss) lt =
    not_put (is_here region s) n store (here_from region (suc n) ss) lt (not_before region (suc n) store ss (omega arith))

is_first : (here : Bool) (n store : ℕ) (further : List ℕ) → store ≡ n → is_among store further ≡ false → is_among store (if here then n ∷ further else further) ≡ here
is_first true n store further e none = or_left (n == store) (is_among store further) (eq-eqb n store (sym e))
is_first false n store further e none = none

is_later : (here : Bool) (n store : ℕ) (further : List ℕ) → n < store → is_among store (if here then n ∷ further else further) ≡ is_among store further
is_later true n store further lt = ap (λ (b : Bool). b || is_among store further) (ne_eqb n store (λ e. omega arith))
is_later false n store further lt = refl

-- a store is among them just where it has a replica there
pub among_here : (region n at store : ℕ) (stores : List StoreDef) → store ≡ n + at → is_among store (here_from region n stores) ≡ option_map_or (is_here region) (slice_get stores at) false
among_here region n at store [] e = refl
among_here region n zero store (s ∷ ss) e =
    is_first (is_here region s) n store (here_from region (suc n) ss) (omega arith) (not_before region (suc n) store ss (omega arith))
among_here region n (suc at) store (s ∷ ss) e =
    is_later (is_here region s) n store (here_from region (suc n) ss) (omega arith) ∙ among_here region (suc n) at store ss (omega arith)

-- ---- one look at a store

same_either : {X : Type 0} (b : Bool) (x : X) → x ≡ cond b x x
same_either true x = refl
same_either false x = refl

at_with_look : (o store : ℕ) (ids : List WriteId) (further : List PlannedLook)
    → made_at o (with_look store ids further) ≡ cond (store == o) (with_look store ids (made_at o further)) (made_at o further)
at_with_look o store [] further = same_either (store == o) (made_at o further)
at_with_look o store (i ∷ is) further = refl

-- the look at a store, where it is among the stores that are looked at
abbrev pub its_look : Bool → ℕ → List WriteId → List PlannedLook
its_look here store lineage = cond here (with_look store (ids_of store lineage) []) []

module _ (n o : ℕ) (further : List ℕ) (lineage : List WriteId) (behind : n ≡ o → is_among o further ≡ false)
    (rest : made_at o (plan further lineage) ≡ its_look (is_among o further) o lineage) where
  by_test : (t : Bool) → t ≡ (n == o)
      → cond t (with_look n (ids_of n lineage) (made_at o (plan further lineage))) (made_at o (plan further lineage)) ≡ its_look (t || is_among o further) o lineage
  by_test true t =
      let same : n ≡ o = eqb-true n o (sym t) in
      let none : made_at o (plan further lineage) ≡ [] = rest ∙ ap (λ (b : Bool). its_look b o lineage) (behind same) in
      ap (λ (x : List PlannedLook). with_look n (ids_of n lineage) x) none ∙ ap (λ (m : ℕ). with_look m (ids_of m lineage) []) same
  by_test false t = rest

  at_store : (here : Bool) → made_at o (plan (if here then n ∷ further else further) lineage) ≡ its_look (is_among o (if here then n ∷ further else further)) o lineage
  at_store true = at_with_look o n (ids_of n lineage) (plan further lineage) ∙ by_test (n == o) refl
  at_store false = rest

pub one_look : (region n o : ℕ) (stores : List StoreDef) (lineage : List WriteId)
    → made_at o (plan (here_from region n stores) lineage) ≡ its_look (is_among o (here_from region n stores)) o lineage
one_look region n o [] lineage = refl
one_look region n o (s ∷ ss) lineage =
    at_store n o (here_from region (suc n) ss) lineage (λ e. not_before region (suc n) o ss (omega arith)) (one_look region (suc n) o ss lineage) (is_here region s)

-- ---- the ids that are asked for

turned : (m n : ℕ) → (m == n) ≡ (n == m)
turned m n = grind (arith, nat_tests)

swapped : (a b : Bool) → (a && b) ≡ (b && a)
swapped true true = refl
swapped true false = refl
swapped false true = refl
swapped false false = refl

-- an id among those of one store
has_of : (i : WriteId) (store : ℕ) (lineage : List WriteId) → has_id i (ids_of store lineage) ≡ ((store == i.store) && has_id i lineage)
has_of i store lineage =
    has_id-ids_of i store lineage ∙ swapped (has_id i lineage) (i.store == store) ∙ ap (λ (b : Bool). b && has_id i lineage) (turned i.store store)

asked_with : (i : WriteId) (store : ℕ) (ids : List WriteId) (further : List PlannedLook) → is_asked i (with_look store ids further) ≡ (has_id i ids || is_asked i further)
asked_with i store [] further = refl
asked_with i store (j ∷ js) further = refl

either_and : (a b c : Bool) → ((a && c) || (b && c)) ≡ ((a || b) && c)
either_and true true true = refl
either_and true true false = refl
either_and true false true = refl
either_and true false false = refl
either_and false b c = refl

-- just those of the lineage whose store is among the stores
pub asked_of : (i : WriteId) (stores : List ℕ) (lineage : List WriteId) → is_asked i (plan stores lineage) ≡ (is_among i.store stores && has_id i lineage)
asked_of i [] lineage = refl
asked_of i (store ∷ stores) lineage =
    asked_with i store (ids_of store lineage) (plan stores lineage)
    ∙ ap (λ (b : Bool). b || is_asked i (plan stores lineage)) (has_of i store lineage)
    ∙ ap (λ (b : Bool). ((store == i.store) && has_id i lineage) || b) (asked_of i stores lineage)
    ∙ either_and (store == i.store) (is_among i.store stores) (has_id i lineage)

-- ---- where the looks are made

-- a look for ids of its store alone, which is one of these
pub record IsLookAt (stores : List ℕ) (look : PlannedLook) : Type 0 where
  pub among : is_among look.store stores ≡ true
  pub its_own : list_all (λ id. id.store == look.store) look.ids ≡ true

one_of_store : (t : Bool) (store : ℕ) (i : WriteId) (is : List WriteId) → t ≡ (i.store == store) → list_all (λ id. id.store == store) is ≡ true
    → list_all (λ id. id.store == store) (cond t (i ∷ is) is) ≡ true
one_of_store true store i is t all = ap (λ (b : Bool). b && list_all (λ id. id.store == store) is) (sym t) ∙ all
one_of_store false store i is t all = all

all_of_store : (store : ℕ) (ids : List WriteId) → list_all (λ id. id.store == store) (ids_of store ids) ≡ true
all_of_store store [] = refl
all_of_store store (i ∷ is) = one_of_store (i.store == store) store i (ids_of store is) refl (all_of_store store is)

each_with_look : (all : List ℕ) (store : ℕ) (ids : List WriteId) (further : List PlannedLook) → is_among store all ≡ true
    → list_all (λ id. id.store == store) ids ≡ true → Each (IsLookAt all) further → Each (IsLookAt all) (with_look store ids further)
each_with_look all store [] further among own each = each
each_with_look all store (i ∷ is) further among own each = (record { among = among; its_own = own }, each)

each_look : (all stores : List ℕ) (lineage : List WriteId) → ((store : ℕ) → is_among store stores ≡ true → is_among store all ≡ true)
    → Each (IsLookAt all) (plan stores lineage)
each_look all [] lineage within = tt
each_look all (store ∷ stores) lineage within =
    each_with_look all store (ids_of store lineage) (plan stores lineage)
    (within store (or_left (store == store) (is_among store stores) (eq-eqb store store refl)))
    (all_of_store store lineage)
    (each_look all stores lineage (λ o among. within o (or_right (store == o) (is_among o stores) among)))

pub looks_are_at : (stores : List ℕ) (lineage : List WriteId) → Each (IsLookAt stores) (plan stores lineage)
looks_are_at stores lineage = each_look stores stores lineage (λ store among. among)

-- a store with a replica is one of these
pub here_within : (region at : ℕ) (stores : List StoreDef) → option_map_or (is_here region) (slice_get stores at) false ≡ true → at < length stores
here_within region at [] here = absurd (cc)
here_within region zero (s ∷ ss) here = omega arith
here_within region (suc at) (s ∷ ss) here = let within = here_within region at ss here in omega arith
