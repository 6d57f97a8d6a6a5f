-- Lists that are cut at an item, what tests keep of a list, and lists of entries that are traces.
use Rattle.std.proofs.Common.{◌≡◌, ◌<◌, ◌++◌, ◌&&◌, Bool, true, false, cond, List, [], ◌∷◌, refl, sym, ap, ◌∙◌, subst, inl, inr, arith}
use Rattle.std.specs.Prelude.{All, IsTrue}
use Rattle.std.specs.List.{filter}
use Rattle.std.proofs.Math.Bool.{and_comm}
use Rattle.std.proofs.lemmas.Bool.{cases_Bool, false_from_ne_true, false≢true}
use Rattle.std.proofs.lemmas.List.Elements.{All-nil, All-cons, All-head, All-tail, All-filter, filter_agree}
use Rattle.anti_kind.specs.declared.entry.Entry.{Entry}
use Rattle.anti_kind.specs.Objects.{last_stamp}
use Rattle.anti_trace.specs.Traces.{IsTrace, comes_before}
use Rattle.anti_trace.proofs.Orders.{before_stamp}
use Rattle.anti_trace.proofs.Puts.{filter-yes, filter-no}

-- what holds of each item at which the list can be cut holds of all
pub all_cut : {X : Type 0} (P : X → Type 0) (xs : List X) → ((before : List X) (x : X) (after : List X) → xs ≡ before ++ x ∷ after → P x) → All P xs
all_cut P [] each = All-nil P
all_cut P (x ∷ xs) each =
    All-cons P x xs (each [] x xs refl) (all_cut P xs (λ before y after is. each (x ∷ before) y after (ap (λ zs. x ∷ zs) is)))

-- ---- what tests keep

-- what one test keeps of what another keeps
pub filter-filter : {X : Type 0} (p q : X → Bool) (xs : List X) → filter p (filter q xs) ≡ filter (λ x. q x && p x) xs
filter-filter p q [] = refl
filter-filter {X} p q (x ∷ xs) = by_test (q x) (filter-filter p q xs)
  where
    by_test : (t : Bool) → filter p (filter q xs) ≡ filter (λ x. q x && p x) xs
        → filter p (cond t (x ∷ filter q xs) (filter q xs))
        ≡ cond (t && p x) (x ∷ filter (λ x. q x && p x) xs) (filter (λ x. q x && p x) xs)
    by_test true rest = ap (λ (ys : List X). cond (p x) (x ∷ ys) ys) rest
    by_test false rest = rest

-- so it does not matter which is made first
pub filter_swap : {X : Type 0} (p q : X → Bool) (xs : List X) → filter p (filter q xs) ≡ filter q (filter p xs)
filter_swap p q xs =
    filter-filter p q xs ∙ filter_agree (λ x. q x && p x) (λ x. p x && q x) (λ x. and_comm (q x) (p x)) xs ∙ sym (filter-filter q p xs)

-- and a test keeps the same of what another keeps that each item passes which passes the first
pub filter_within : {X : Type 0} (p q : X → Bool) (xs : List X) → All (λ x. p x ≡ true → q x ≡ true) xs → filter p (filter q xs) ≡ filter p xs
filter_within p q [] within = refl
filter_within {X} p q (x ∷ xs) within =
    let rest : filter p (filter q xs) ≡ filter p xs = filter_within p q xs (All-tail (λ y. p y ≡ true → q y ≡ true) x xs within) in
    elim (cases_Bool (q x)) [
      | inl on ↦ ap (filter p) (filter-yes q x xs on) ∙ ap (λ (ys : List X). cond (p x) (x ∷ ys) ys) rest
      | inr off ↦
          let neither : p x ≡ false = false_from_ne_true (p x) (λ on. false≢true (sym off ∙ All-head (λ y. p y ≡ true → q y ≡ true) x xs within on)) in
          ap (filter p) (filter-no q x xs off) ∙ rest ∙ sym (filter-no p x xs neither)
    ]

-- A list is cut at an item that a test keeps, by what the test keeps of the items before it and behind it.
pub record IsKeptAt {X : Type 0} (p : X → Bool) (xs front : List X) (e : X) (back : List X) : Type 0 where
  pub before : List X
  pub after : List X
  pub cut : xs ≡ before ++ e ∷ after
  pub passes : p e ≡ true
  pub front_is : filter p before ≡ front
  pub back_is : filter p after ≡ back

module _ {X : Type 0} (p : X → Bool) where
  kept_here : (x : X) (xs front : List X) (e : X) (back : List X) → p x ≡ true → x ∷ filter p xs ≡ front ++ e ∷ back
      → ((rest : List X) → filter p xs ≡ rest ++ e ∷ back → IsKeptAt p xs rest e back) → IsKeptAt p (x ∷ xs) front e back
  kept_here x xs [] e back on is further =
      let same : x ≡ e = cc in
      let rest : filter p xs ≡ back = cc in
      record { before = []; after = xs; cut = ap (λ y. y ∷ xs) same; passes = ap p (sym same) ∙ on; front_is = refl; back_is = rest }
  kept_here x xs (f ∷ front) e back on is further =
      let same : x ≡ f = cc in
      let rest : filter p xs ≡ front ++ e ∷ back = cc in
      let at : IsKeptAt p xs front e back = further front rest in
      record {
        before = x ∷ at.before;
        after = at.after;
        cut = ap (λ ys. x ∷ ys) at.cut;
        passes = at.passes;
        front_is = filter-yes p x at.before on ∙ ap (λ ys. x ∷ ys) at.front_is ∙ ap (λ y. y ∷ front) same;
        back_is = at.back_is;
      }

  -- where an item is kept the list can be cut at it
  pub filter_at : (xs front : List X) (e : X) (back : List X) → filter p xs ≡ front ++ e ∷ back → IsKeptAt p xs front e back
  filter_at [] [] e back is = absurd (cc)
  filter_at [] (f ∷ front) e back is = absurd (cc)
  filter_at (x ∷ xs) front e back is =
      elim (cases_Bool (p x)) [
        | inl on ↦ kept_here x xs front e back on (sym (filter-yes p x xs on) ∙ is) (λ rest more. filter_at xs rest e back more)
        | inr off ↦
            let at : IsKeptAt p xs front e back = filter_at xs front e back (sym (filter-no p x xs off) ∙ is) in
            record {
              before = x ∷ at.before;
              after = at.after;
              cut = ap (λ ys. x ∷ ys) at.cut;
              passes = at.passes;
              front_is = filter-no p x at.before off ∙ at.front_is;
              back_is = at.back_is;
            }
      ]

-- ---- traces

-- what a test keeps of a trace is one
pub filter_trace : (p : Entry → Bool) (t : List Entry) → IsTrace t → IsTrace (filter p t)
filter_trace p [] order = tt
filter_trace p (e ∷ t) order =
    elim (cases_Bool (p e)) [
      | inl on ↦ subst IsTrace (sym (filter-yes p e t on)) (All-filter p (λ d. IsTrue (comes_before e d)) t order.0, filter_trace p t order.1)
      | inr off ↦ subst IsTrace (sym (filter-no p e t off)) (filter_trace p t order.1)
    ]

-- the stamp of each entry is above those of all before it
abbrev pub Rises : List Entry → Type 0
Rises t = (before : List Entry) (e : Entry) (after : List Entry) → t ≡ before ++ e ∷ after → last_stamp before < e.stamp

-- such a list is a trace
pub rises_trace : (t : List Entry) → Rises t → IsTrace t
rises_trace [] rises = tt
rises_trace (x ∷ t) rises =
    let above : (before : List Entry) (e : Entry) (after : List Entry) → t ≡ before ++ e ∷ after → last_stamp (x ∷ before) < e.stamp =
    λ before e after is. rises (x ∷ before) e after (ap (λ (r : List Entry). x ∷ r) is) in (
      all_cut (λ d. IsTrue (comes_before x d)) t (λ before e after is. before_stamp x e (let low = above before e after is in omega arith)),
      rises_trace t (λ before e after is. let low = above before e after is in omega arith),
    )
