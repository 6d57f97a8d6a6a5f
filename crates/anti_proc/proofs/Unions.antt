-- The ids of two lists are added one after the other, and what is added is never fewer.
use Rattle.std.proofs.Common.{◌≡◌, ℕ, ◌<◌, ◌++◌, List, [], ◌∷◌, length, refl, sym, ap, ◌∙◌, subst, arith}
use Rattle.std.specs.Prelude.{Err}
use Rattle.anti_ids.specs.Ids.{with_id, with_ids}
use Rattle.anti_ids.specs.declared.id.WriteId.{WriteId}
use Rattle.anti_ids.specs.declared.limits.TheConstants.{MOST_IDS}
use Rattle.anti_ids.specs.declared.lineage.LineageRefused.{LineageRefused}
use Rattle.anti_ids.specs.declared.lineage.LineageRefused.TheVariants.{Full, NoMemory}
use Rattle.anti_kind.specs.declared.row.Row.{Row}
use Rattle.anti_proc.specs.inner.Adding.{Adds}
use Rattle.anti_proc.specs.Local.{row_ids, rows_ids}
use Rattle.anti_ids.proofs.IdLemmas.{le-length-with_ids}

pub with_ids_append : (is js ids : List WriteId) → with_ids (is ++ js) ids ≡ with_ids js (with_ids is ids)
with_ids_append [] js ids = refl
with_ids_append (i ∷ is) js ids = with_ids_append is js (with_id i ids)

-- too many at first are too many with more
pub too_many : (most : ℕ) (is js ids : List WriteId) → most < length (with_ids is ids) → most < length (with_ids (is ++ js) ids)
too_many most is js ids more = rw (with_ids_append is js ids) (omega (arith, le-length-with_ids js (with_ids is ids)))

-- what was refused of some is refused of more
pub more_refused : (is js old new other : List WriteId) (e : LineageRefused) → Adds {X = Unit {0}} is old new (Err e) → Adds {X = Unit {0}} (is ++ js) old other (Err e)
more_refused is js old new other Full more = too_many MOST_IDS is js old more
more_refused is js old new other NoMemory more = tt

same_refused : (is js old was new : List WriteId) (e : LineageRefused) → with_ids is old ≡ with_ids js was → Adds {X = Unit {0}} is old new (Err e) → Adds {X = Unit {0}} js was new (Err e)
same_refused is js old was new Full same more = subst (λ (ids : List WriteId). MOST_IDS < length ids) same more
same_refused is js old was new NoMemory same more = tt

module _ (store : ℕ) (row : Row) (rows left all : List Row) (carried was : List WriteId) (is : left ≡ row ∷ rows)
    (same : with_ids (rows_ids store left) carried ≡ with_ids (rows_ids store all) was) where
  -- the ids of the first row are added, and then those of the others
  pub first_added : with_ids (rows_ids store rows) (with_ids (row_ids store row) carried) ≡ with_ids (rows_ids store all) was
  first_added =
      sym (with_ids_append (row_ids store row) (rows_ids store rows) carried)
      ∙ ap (λ (further : List Row). with_ids (rows_ids store further) carried) (sym is)
      ∙ same

  pub first_refused : (new : List WriteId) (e : LineageRefused) → Adds {X = Unit {0}} (row_ids store row) carried new (Err e) → Adds {X = Unit {0}} (rows_ids store all) was new (Err e)
  first_refused new e more =
      same_refused (row_ids store row ++ rows_ids store rows) (rows_ids store all) carried was new e
      (ap (λ (further : List Row). with_ids (rows_ids store further) carried) (sym is) ∙ same)
      (more_refused (row_ids store row) (rows_ids store rows) carried new new e more)
