-- The processes of all objects, where those of one have changed.
use Rattle.std.proofs.Common.{◌≡◌, ℕ, zero, suc, ◌<◌, List, [], ◌∷◌, length, get_or, refl, sym, ap, ◌∙◌, subst, arith, inl, inr}
use Rattle.std.specs.Prelude.{Some, slice_get, slice_set}
use Rattle.std.proofs.lemmas.Bool.{cases_lt}
use Rattle.std.proofs.lemmas.List.{length-set, get_or-set_same, get_or-set_other}
use Rattle.std.proofs.lemmas.Option.{slice_get_past, slice_get_within, slice_get-get_or}
use Rattle.anti_proc.specs.declared.process.Process.{Process}
use Rattle.anti_proc.specs.declared.run.Advance.{Advance}
use Rattle.anti_trace.specs.declared.processes.AtObject.{AtObject}
use Rattle.anti_trace.specs.inner.Living.{Becomes, Changes, IsAt, MakesRoom, TakesOver, born_at, born_in}

-- ---- one item of a list

module _ {X : Type 0} (xs : List X) (i : ℕ) (y : X) where
  pub set_here : i < length xs → slice_get (slice_set xs i y) i ≡ Some y
  set_here within =
      slice_get-get_or (slice_set xs i y) i y (let count : length (slice_set xs i y) ≡ length xs = length-set xs i y in omega arith)
      ∙ ap Some (get_or-set_same xs i y y within)

  pub set_other : (k : ℕ) → (i ≡ k → ⊥) → slice_get (slice_set xs i y) k ≡ slice_get xs k
  set_other k other =
      let count : length (slice_set xs i y) ≡ length xs = length-set xs i y in
      elim (cases_lt k (length xs)) as (λ _. slice_get (slice_set xs i y) k ≡ slice_get xs k) [
        | inl low ↦
            slice_get-get_or (slice_set xs i y) k y (omega arith)
            ∙ ap Some (get_or-set_other xs i k y y (λ same. other (sym same)))
            ∙ sym (slice_get-get_or xs k y low)
        | inr past ↦ slice_get_past (slice_set xs i y) k (omega arith) ∙ sym (slice_get_past xs k past)
      ]

-- an item that was put in place of another, and then another in place of it
pub set_again : {X : Type 0} (xs : List X) (i : ℕ) (y z : X) → slice_set (slice_set xs i y) i z ≡ slice_set xs i z
set_again [] i y z = refl
set_again (x ∷ xs) zero y z = refl
set_again {X} (x ∷ xs) (suc i) y z = ap (λ (ys : List X). x ∷ ys) (set_again xs i y z)

-- ---- the processes of one object

-- those that were read at an object
pub at_object : (all : List AtObject) (o : ℕ) (here : AtObject) → here ≡ get_or all o here → o < length all → slice_get all o ≡ Some here
at_object all o here is within = slice_get-get_or all o here within ∙ ap Some (sym is)

pub born_here : (all : List AtObject) (o : ℕ) (here : AtObject) → here ≡ get_or all o here → o < length all → born_at all o ≡ here.born.items
born_here all o here is within = ap born_in (at_object all o here is within)

-- those that were looked up at an object
pub born_found : (all given : List AtObject) (o : ℕ) (here : AtObject) → given ≡ all → here ≡ get_or given o here → o < length given → born_at all o ≡ here.born.items
born_found all given o here same is within = ap (λ (xs : List AtObject). born_at xs o) (sym same) ∙ born_here given o here is within

-- one of them
pub low_here : (all : List AtObject) (o : ℕ) (here : AtObject) → here ≡ get_or all o here → o < length all → (i : ℕ) → i < length (born_at all o) → i < length here.born.items
low_here all o here is within i low = subst (λ (ps : List Process). i < length ps) (born_here all o here is within) low

pub process_here : (all : List AtObject) (o : ℕ) (here : AtObject) → here ≡ get_or all o here → o < length all → (i : ℕ) (p : Process)
    → p ≡ get_or here.born.items i p → i < length (born_at all o) → slice_get (born_at all o) i ≡ Some p
process_here all o here is within i p at low =
    ap (λ (ps : List Process). slice_get ps i) (born_here all o here is within)
    ∙ slice_get-get_or here.born.items i p (low_here all o here is within i low) ∙ ap Some (sym at)

module _ (all : List AtObject) (o : ℕ) (here new : AtObject) (is : here ≡ get_or all o here) (within : o < length all) where
  pub changes_set : Changes all (slice_set all o new) o new.born.items
  changes_set = record {
    count = length-set all o new;
    here_are = ap born_in (set_here all o new within);
    others = λ k other. ap born_in (set_other all o new k other);
  }

  -- they may be the same as before
  pub changes_same : new.born.items ≡ here.born.items → Changes all (slice_set all o new) o (born_at all o)
  changes_same same = subst (Changes all (slice_set all o new) o) (same ∙ sym (born_here all o here is within)) changes_set

  -- one process of it
  module _ (By : Process → Process → Type 0) (i : ℕ) (old then : Process) (at : old ≡ get_or here.born.items i old) (low : i < length here.born.items) where
    pub becomes_set : new.born.items ≡ slice_set here.born.items i then → By old then → Becomes By all (slice_set all o new) o i
    becomes_set items by = record {
      old = old;
      new = then;
      was = ap (λ (ps : List Process). slice_get ps i) (born_here all o here is within) ∙ slice_get-get_or here.born.items i old low ∙ ap Some (sym at);
      changes = subst (λ (ps : List Process). Changes all (slice_set all o new) o ps)
          (items ∙ ap (λ (ps : List Process). slice_set ps i then) (sym (born_here all o here is within))) changes_set;
      by = by;
    }

  -- and what is known of it
  pub is_at_set : (Is : Process → Type 0) (i : ℕ) (then : Process) → i < length here.born.items → new.born.items ≡ slice_set here.born.items i then
      → Is then → IsAt Is (slice_set all o new) o i
  is_at_set Is i then low items known = λ p there.
      let both : Some p ≡ Some then =
      sym there ∙ ap (λ (ps : List Process). slice_get ps i) (changes_set.here_are ∙ items) ∙ set_here here.born.items i then low in
      let same : then ≡ p = cc in subst Is same known

-- ---- changes one after another

pub changes_then : (ps ms ns : List AtObject) (o : ℕ) (here : List Process) → Changes ps ms o (born_at ps o) → Changes ms ns o here → Changes ps ns o here
changes_then ps ms ns o here one two = record {
  count = two.count ∙ one.count;
  here_are = two.here_are;
  others = λ k other. two.others k other ∙ one.others k other;
}

-- room was made, and then it took over what a reply made of it
pub room_then : (ps ms ns : List AtObject) (o i stamp : ℕ) (a : Advance) → Becomes MakesRoom ps ms o i → Becomes (TakesOver stamp a) ms ns o i → Becomes (TakesOver stamp a) ps ns o i
room_then ps ms ns o i stamp a one two =
    let within : i < length (born_at ps o) = slice_get_within (born_at ps o) i one.old one.was in
    let mid : slice_get (born_at ms o) i ≡ Some one.new =
    ap (λ (xs : List Process). slice_get xs i) one.changes.here_are ∙ set_here (born_at ps o) i one.new within in
    let same : two.old ≡ one.new = (let both : Some two.old ≡ Some one.new = sym two.was ∙ mid in cc) in
    record {
      old = one.old;
      new = two.new;
      was = one.was;
      changes = record {
        count = two.changes.count ∙ one.changes.count;
        here_are = two.changes.here_are ∙ ap (λ (xs : List Process). slice_set xs i two.new) one.changes.here_are ∙ set_again (born_at ps o) i one.new two.new;
        others = λ k other. two.changes.others k other ∙ one.changes.others k other;
      };
      by = taken two.old same two.by;
    }
  where
    taken : (mid : Process) → mid ≡ one.new → TakesOver stamp a mid two.new → TakesOver stamp a one.old two.new
    taken mid is took =
        let by : TakesOver stamp a one.new two.new = subst (λ (x : Process). TakesOver stamp a x two.new) is took in
        record {
          tree = λ app. by.tree app ∙ one.by.advance app a;
          run = λ app spans. by.run app (one.by.spans app a spans);
          clock = by.clock;
          birth = by.birth ∙ one.by.birth;
          role = by.role ∙ one.by.role;
          full = λ full. by.full (full ∙ sym one.by.full) ∙ one.by.full;
        }
