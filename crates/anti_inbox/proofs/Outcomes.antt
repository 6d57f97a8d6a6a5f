-- What holds of a result where more holds.
use Rattle.std.proofs.Common.{Result, Ok, Err}
use Rattle.std.specs.Prelude.{OnOk, OnErr}

module _ {T E P Q : Type 0} (gives : P → Q) where
  pub on_ok : (r : Result T E) → OnOk r P → OnOk r Q
  on_ok (Ok x) holds = gives holds
  on_ok (Err e) holds = tt

  pub on_err : (r : Result T E) → OnErr r P → OnErr r Q
  on_err (Ok x) holds = tt
  on_err (Err e) holds = gives holds

-- the same of what holds for each item
pub on_ok_each : {T E X Q : Type 0} {P : X → Type 0} (r : Result T E) → ((x : X) → OnOk r (P x)) → (((x : X) → P x) → Q) → OnOk r Q
on_ok_each (Ok y) holds gives = gives holds
on_ok_each (Err e) holds gives = tt

-- what holds of both outcomes
pub both_ways : {T E P Q R : Type 0} (r : Result T E) → OnOk r P → OnErr r Q → (P → R) → (Q → R) → R
both_ways (Ok x) p q left right = left p
both_ways (Err e) p q left right = right q

pub if_err : {T E P : Type 0} (r : Result T E) → P → OnErr r P
if_err (Ok x) holds = tt
if_err (Err e) holds = holds
