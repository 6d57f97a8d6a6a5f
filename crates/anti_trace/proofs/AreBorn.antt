-- The processes of each object are named by the births of its history, as the trace grows.
use Rattle.std.proofs.Common.{◌≡◌, ℕ, ◌++◌, inl, inr, List, [], ◌∷◌, Bool, true, false, cond, ◌&&◌, map, get_or, nat_eq, refl, sym, ap, ◌∙◌, subst, append-nil}
use borrow.Author.Tests.{eqb-true, eq-eqb}
use Rattle.std.specs.Prelude.{slice_set}
use Rattle.std.proofs.lemmas.Bool.{and_parts}
use Rattle.std.proofs.lemmas.List.Elements.{filter-append}
use Rattle.std.proofs.lemmas.List.{map-append}
use Rattle.std.proofs.Math.Seq.{map-set_same}
use Rattle.anti_kind.specs.declared.actor.Actor.{Actor}
use Rattle.anti_kind.specs.declared.actor.Actor.TheVariants.{Carrier, Process as Acting, Newborn}
use Rattle.anti_kind.specs.declared.actor.Birth.{Birth}
use Rattle.anti_kind.specs.declared.entry.Entry.{Entry}
use Rattle.anti_trace.specs.Traces.{entries_on}
use Rattle.anti_proc.specs.declared.process.Process.{Process}
use Rattle.anti_proc.specs.Births.{birth_at, births, is_birth, is_started_by}
use Rattle.anti_proc.specs.inner.Standing.{birth_of}
use Rattle.anti_trace.specs.declared.processes.AtObject.{AtObject}
use Rattle.anti_trace.specs.inner.Living.{born_at, AreBorn, Changes, Extends}
use Rattle.anti_trace.proofs.Living.{decide}

-- ---- which entries are births

pub is_birth_itself : (e : Entry) → e.actor ≡ Acting (birth_at e) → is_birth e ≡ true
is_birth_itself e is =
    let one : nat_eq e.object e.object ≡ true = eq-eqb e.object e.object refl in
    let two : nat_eq e.place e.place ≡ true = eq-eqb e.place e.place refl in
    ap (λ (a : Actor). is_started_by a e) is ∙ ap (λ (b : Bool). b && nat_eq e.place e.place) one ∙ two

pub no_birth : (e : Entry) → (e.actor ≡ Acting (birth_at e) → ⊥) → is_birth e ≡ false
no_birth e other = by_actor e.actor refl
  where
    by_test : (b : Birth) → e.actor ≡ Acting b → (t : Bool) → t ≡ (nat_eq b.object e.object && nat_eq b.place e.place) → t ≡ false
    by_test b at false is = refl
    by_test b at true is =
        let parts = and_parts (nat_eq b.object e.object) (nat_eq b.place e.place) (sym is) in
        let object : b.object ≡ e.object = eqb-true b.object e.object parts.0 in
        let place : b.place ≡ e.place = eqb-true b.place e.place parts.1 in
        let same : b ≡ birth_at e =
        ap (λ (o : ℕ). record { object = o; place = b.place }) object ∙ ap (λ (n : ℕ). record { object = e.object; place = n }) place in
        absurd (other (at ∙ ap Acting same))

    by_actor : (a : Actor) → e.actor ≡ a → is_started_by a e ≡ false
    by_actor (Carrier n) at = refl
    by_actor (Acting b) at = by_test b at (nat_eq b.object e.object && nat_eq b.place e.place) refl
    by_actor Newborn at = refl

births_more : (h : List Entry) (e : Entry) (b : Bool) → is_birth e ≡ b → births (h ++ e ∷ []) ≡ births h ++ cond b (e ∷ []) []
births_more h e b is = filter-append is_birth h (e ∷ []) ∙ ap (λ (x : Bool). births h ++ cond x (e ∷ []) []) is

-- ---- the processes of all objects

-- those of one object have changed to themselves: so they are the same
pub same_changed : (ps ns : List AtObject) (o : ℕ) → Changes ps ns o (born_at ps o) → (k : ℕ) → born_at ns k ≡ born_at ps k
same_changed ps ns o changes k =
    elim (decide o k) as (λ _. born_at ns k ≡ born_at ps k) [
      | inl is ↦ subst (λ (n : ℕ). born_at ns n ≡ born_at ps n) is changes.here_are
      | inr other ↦ changes.others k other
    ]

-- ---- as the histories grow

module _ (ps : List AtObject) (trace after : List Entry) (e : Entry) (born : AreBorn ps trace) (grows : Extends trace after e) where
  born_others : (ns : List AtObject) → (o : ℕ) → (e.object ≡ o → ⊥) → born_at ns o ≡ born_at ps o → map birth_of (born_at ns o) ≡ map birth_at (births (entries_on o after))
  born_others ns o other same =
      ap (λ (xs : List Process). map birth_of xs) same ∙ born o ∙ sym (ap (λ (h : List Entry). map birth_at (births h)) (grows.others o other))

  born_here : (b : Bool) → is_birth e ≡ b → births (entries_on e.object after) ≡ births (entries_on e.object trace) ++ cond b (e ∷ []) []
  born_here b is = ap (λ (h : List Entry). births h) grows.here ∙ births_more (entries_on e.object trace) e b is

  -- the entry is no birth
  pub born_kept : (ns : List AtObject) → is_birth e ≡ false → ((o : ℕ) → map birth_of (born_at ns o) ≡ map birth_of (born_at ps o)) → AreBorn ns after
  born_kept ns is same o =
      elim (decide e.object o) as (λ _. map birth_of (born_at ns o) ≡ map birth_at (births (entries_on o after))) [
        | inl here ↦ subst (λ (k : ℕ). map birth_of (born_at ns k) ≡ map birth_at (births (entries_on k after))) here
            (same e.object ∙ born e.object
            ∙ sym (ap (λ (es : List Entry). map birth_at es) (born_here false is ∙ append-nil (births (entries_on e.object trace)))))
        | inr other ↦ same o ∙ born o ∙ sym (ap (λ (h : List Entry). map birth_at (births h)) (grows.others o other))
      ]

  -- it is one
  pub born_more : (ns : List AtObject) (p : Process) → is_birth e ≡ true → birth_of p ≡ birth_at e
      → Changes ps ns e.object (born_at ps e.object ++ p ∷ []) → AreBorn ns after
  born_more ns p is named changes o =
      elim (decide e.object o) as (λ _. map birth_of (born_at ns o) ≡ map birth_at (births (entries_on o after))) [
        | inl here ↦ subst (λ (k : ℕ). map birth_of (born_at ns k) ≡ map birth_at (births (entries_on k after))) here
            (ap (λ (xs : List Process). map birth_of xs) changes.here_are
            ∙ map-append birth_of (born_at ps e.object) (p ∷ [])
            ∙ ap (λ (bs : List Birth). bs ++ birth_of p ∷ []) (born e.object)
            ∙ ap (λ (b : Birth). map birth_at (births (entries_on e.object trace)) ++ b ∷ []) named
            ∙ sym (map-append birth_at (births (entries_on e.object trace)) (e ∷ []))
            ∙ sym (ap (λ (es : List Entry). map birth_at es) (born_here true is)))
        | inr other ↦ born_others ns o other (changes.others o other)
      ]

-- a process in place of one of the same birth
pub births_set : (ps ns : List AtObject) (b : Birth) (i : ℕ) (p : Process) → Changes ps ns b.object (slice_set (born_at ps b.object) i p)
    → ((d : Process) → birth_of p ≡ birth_of (get_or (born_at ps b.object) i d)) → (o : ℕ) → map birth_of (born_at ns o) ≡ map birth_of (born_at ps o)
births_set ps ns b i p changes named o =
    elim (decide b.object o) as (λ _. map birth_of (born_at ns o) ≡ map birth_of (born_at ps o)) [
      | inl here ↦ subst (λ (k : ℕ). map birth_of (born_at ns k) ≡ map birth_of (born_at ps k)) here
          (ap (λ (xs : List Process). map birth_of xs) changes.here_are ∙ map-set_same birth_of (born_at ps b.object) i p p (named p))
      | inr other ↦ ap (λ (xs : List Process). map birth_of xs) (changes.others o other)
    ]
