-- No process was born yet.
use Rattle.std.proofs.Common.{◌≡◌, ℕ, zero, suc, ◌+◌, ◌++◌, List, [], ◌∷◌, map, refl, sym, ap, ◌∙◌, subst, arith, length-append}
use Rattle.std.specs.Prelude.{position}
use Rattle.anti_app.specs.declared.app.App.{App}
use Rattle.anti_app.specs.Objects.{object_count}
use Rattle.anti_proc.specs.declared.process.Process.{Process}
use Rattle.anti_proc.specs.inner.Standing.{birth_of}
use Rattle.anti_trace.specs.declared.processes.AtObject.{AtObject}
use Rattle.anti_trace.specs.inner.Living.{AreProcessesOf, Lives, NoneBorn, born_at, is_named}

-- they stand for the trace of which nothing has happened
pub none_are : (app : App) (all : List AtObject) (count : ℕ) → NoneBorn count all → count ≡ object_count app → AreProcessesOf app all []
none_are app all count none is = record {
  count = none.many ∙ is;
  born = λ o. ap (λ (ps : List Process). map birth_of ps) (none.none o);
  live = λ b. subst (λ (ps : List Process). Lives app [] ps (position (is_named b) ps) []) (sym (none.none b.object)) refl;
}

-- one object more, at which none was born

none_appended : (all : List AtObject) (here : AtObject) → ((o : ℕ) → born_at all o ≡ []) → here.born.items ≡ [] → (o : ℕ) → born_at (all ++ here ∷ []) o ≡ []
none_appended [] here none empty zero = empty
none_appended [] here none empty (suc o) = refl
none_appended (x ∷ xs) here none empty zero = none zero
none_appended (x ∷ xs) here none empty (suc o) = none_appended xs here (λ k. none (suc k)) empty o

pub none_more : (count : ℕ) (all : List AtObject) (here : AtObject) → NoneBorn count all → here.born.items ≡ [] → NoneBorn (count + 1) (all ++ here ∷ [])
none_more count all here none empty = record {
  many = omega (arith, none.many, length-append all (here ∷ []));
  none = none_appended all here none.none empty;
}
