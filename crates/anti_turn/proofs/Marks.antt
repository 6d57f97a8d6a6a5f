-- What each step leaves of the marks, and of what seats note of them.
use Rattle.std.proofs.Common.{◌≡◌, ◌≢◌, ◌==◌, ℕ, zero, suc, ◌<◌, ◌≤◌, max, cond, List, [], ◌∷◌, ◌++◌, length, get_or, set, replicate, sym, refl, ◌∙◌, subst, ⊎_elim, length-set, get_or-set_same, get_or-set_other, arith}
use mathlib.Core.Option as home
use lib.ListN.{get_elem?}
use Rattle.std.proofs.lemmas.Bool.{cases_eq}
use Rattle.atomic_table.proofs.Lists.{at_snoc}
use Rattle.anti_turn.specs.declared.view.View.{View}
use Rattle.anti_turn.specs.Lists.{IsFront, top}
use Rattle.anti_turn.specs.inner.Views.{first_view, spent_view}
use Rattle.anti_turn.specs.inner.Rules.{IsNoted, IsMarked}
use Rattle.anti_turn.specs.inner.Steps.{rest_view, split_view, joined_view, marked_view, looked_view}
use Rattle.anti_turn.proofs.Totals.{each_set}
use Rattle.anti_turn.proofs.Tops.{top-append, top_own, top_other}

-- ---- the list of marks, where one is raised

abbrev raised_marks : List ℕ → ℕ → ℕ → List ℕ
raised_marks marks word n = set marks word (max (get_or marks word 0) n)

module _ (marks : List ℕ) (word n : ℕ) (within : word < length marks) where
  here : get_or (raised_marks marks word n) word 0 ≡ max (get_or marks word 0) n
  here = get_or-set_same marks word (max (get_or marks word 0) n) 0 within

  there : (k : ℕ) → k ≢ word → get_or (raised_marks marks word n) k 0 ≡ get_or marks k 0
  there k apart = get_or-set_other marks word k (max (get_or marks word 0) n) 0 apart

  none_falls : (k : ℕ) → get_or marks k 0 ≤ get_or (raised_marks marks word n) k 0
  none_falls k = ⊎_elim
      (λ (same : k ≡ word). subst (λ (j : ℕ). get_or marks j 0 ≤ get_or (raised_marks marks word n) j 0) (sym same) (let is = here in omega arith))
      (λ (apart : k ≢ word). let is = there k apart in omega arith)
      (cases_eq k word)

  has_number : (k : ℕ) → cond (word == k) n 0 ≤ get_or (raised_marks marks word n) k 0
  has_number k = ⊎_elim
      (λ (same : word ≡ k). subst (λ (j : ℕ). cond (word == j) n 0 ≤ get_or (raised_marks marks word n) j 0) same (let is = here in let own = top_own word n in omega arith))
      (λ (apart : word ≢ k). let other = top_other word k n apart in omega arith)
      (cases_eq word k)

  still_under : (most : ℕ → ℕ) → ((k : ℕ) → get_or marks k 0 ≤ most k) → n ≤ most word → (k : ℕ) → get_or (raised_marks marks word n) k 0 ≤ most k
  still_under most under most_here k = ⊎_elim
      (λ (same : k ≡ word). subst (λ (j : ℕ). get_or (raised_marks marks word n) j 0 ≤ most j) (sym same) (let is = here in let old = under word in omega arith))
      (λ (apart : k ≢ word). let is = there k apart in let old = under k in omega arith)
      (cases_eq k word)

module _ {E F : Type 0} (mark : F → ℕ → List E → ℕ) (part : F) where
  spent_notes : (marks : List ℕ) (all : List E) → IsNoted mark part marks all (spent_view {E = E} {F = F})
  spent_notes marks all = record { raised = λ word. omega arith; loaded = λ word. omega arith }

  no_marks : (word : ℕ) → get_or (0 ∷ 0 ∷ 0 ∷ 0 ∷ 0 ∷ 0 ∷ 0 ∷ 0 ∷ []) word 0 ≤ 0
  no_marks word = zeros 8 word
    where
      zeros : (n k : ℕ) → get_or (replicate n 0) k 0 ≤ 0
      zeros zero k = omega arith
      zeros (suc n) zero = omega arith
      zeros (suc n) (suc k) = zeros n k

  pub marks_begin : (x : F) → IsMarked mark part (0 ∷ 0 ∷ 0 ∷ 0 ∷ 0 ∷ 0 ∷ 0 ∷ 0 ∷ []) [] (first_view {E = E} x ∷ [])
  marks_begin x = record {
    eight = refl;
    under = λ word. let none = no_marks word in omega arith;
    noted = λ id v at. first_notes id v at;
  }
    where
      first_notes : (id : ℕ) (v : View E F) → get_elem? (first_view {E = E} x ∷ []) id ≡ home.some v → IsNoted mark part (0 ∷ 0 ∷ 0 ∷ 0 ∷ 0 ∷ 0 ∷ 0 ∷ 0 ∷ []) [] v
      first_notes zero v at = subst (IsNoted mark part (0 ∷ 0 ∷ 0 ∷ 0 ∷ 0 ∷ 0 ∷ 0 ∷ 0 ∷ []) []) (home.some-injective (first_view x) v at) (record { raised = λ word. omega arith; loaded = λ word. omega arith })
      first_notes (suc id) v at = absurd (home.some-ne-none v (sym at))

  -- one view changes
  marks_set : (marks : List ℕ) (all : List E) (views : List (View E F)) (id : ℕ) (w : View E F) → IsNoted mark part marks all w
      → IsMarked mark part marks all views → IsMarked mark part marks all (set views id w)
  marks_set marks all views id w mine m = record {
    eight = m.eight;
    under = m.under;
    noted = each_set (λ (k : ℕ) (u : View E F). IsNoted mark part marks all u) views id w mine (λ k u apart at. m.noted k u at);
  }

  -- one view changes, and notes what it did
  pub marks_stay : (marks : List ℕ) (all : List E) (views : List (View E F)) (id : ℕ) (v w : View E F) → get_elem? views id ≡ home.some v → w.raised ≡ v.raised → w.loaded ≡ v.loaded
      → IsMarked mark part marks all views → IsMarked mark part marks all (set views id w)
  marks_stay marks all views id v w at same also m =
      let mine = m.noted id v at in
      marks_set marks all views id w (record {
        raised = λ word. subst (λ (notes : List (ℕ × ℕ)). top word notes ≤ get_or marks word 0) (sym same) (mine.raised word);
        loaded = λ word. subst (λ (notes : List (ℕ × ℕ)). top word notes ≤ mark part word all) (sym also) (mine.loaded word);
      }) m

  module _ (rises : (x : F) (word : ℕ) (xs ys : List E) → mark x word xs ≤ mark x word (xs ++ ys)) where
    pub mark_of_front : (word : ℕ) (xs ys : List E) → IsFront xs ys → mark part word xs ≤ mark part word ys
    mark_of_front word xs ys p = subst (λ (zs : List E). mark part word xs ≤ mark part word zs) (sym p.1) (rises part word xs p.0)

    -- the list grows
    pub marks_grow : (marks : List ℕ) (all more : List E) (views : List (View E F)) → IsFront all more → IsMarked mark part marks all views → IsMarked mark part marks more views
    marks_grow marks all more views front m = record {
      eight = m.eight;
      under = λ word. let old = m.under word in let further = mark_of_front word all more front in omega arith;
      noted = λ id v at. let mine = m.noted id v at in record {
        raised = mine.raised;
        loaded = λ word. let old = mine.loaded word in let further = mark_of_front word all more front in omega arith;
      };
    }

  module _ (marks : List ℕ) (all : List E) (views : List (View E F)) (m : IsMarked mark part marks all views) (id : ℕ) (v : View E F) (at : get_elem? views id ≡ home.some v) where
    pub marks_split : IsMarked mark part marks all (set views id (rest_view v) ++ split_view v ∷ [])
    marks_split =
        let mine = m.noted id v at in
        let kept = marks_set marks all views id (rest_view v) (record { raised = mine.raised; loaded = mine.loaded }) m in
        record {
          eight = m.eight;
          under = m.under;
          noted = λ k u there. ⊎_elim
              (λ (old : get_elem? (set views id (rest_view v)) k ≡ home.some u). kept.noted k u old)
              (λ (is : split_view v ≡ u). subst (IsNoted mark part marks all) is (record { raised = mine.raised; loaded = mine.loaded }))
              (at_snoc (set views id (rest_view v)) (split_view v) u k there);
        }

    pub marks_join : (other : ℕ) (u : View E F) → get_elem? views other ≡ home.some u → IsMarked mark part marks all (set (set views id (joined_view v u)) other spent_view)
    marks_join other u also =
        let mine = m.noted id v at in
        let theirs = m.noted other u also in
        let both : IsNoted mark part marks all (joined_view v u) = record {
          raised = λ word. let a = mine.raised word in let b = theirs.raised word in let sum = top-append word v.raised u.raised in omega arith;
          loaded = λ word. let a = mine.loaded word in let b = theirs.loaded word in let sum = top-append word v.loaded u.loaded in omega arith;
        } in
        marks_set marks all (set views id (joined_view v u)) other spent_view (spent_notes marks all) (marks_set marks all views id (joined_view v u) both m)

    -- a mark is raised to what the list has reached
    pub marks_up : (word n : ℕ) → word < 8 → n ≤ mark part word all → IsMarked mark part (set marks word (max (get_or marks word 0) n)) all (set views id (marked_view v word n))
    marks_up word n small most =
        let long = m.eight in
        let within : word < length marks = omega arith in
        let mine = m.noted id v at in
        let others : (k : ℕ) (u : View E F) → get_elem? views k ≡ home.some u → IsNoted mark part (raised_marks marks word n) all u =
        λ k u there. let theirs = m.noted k u there in record {
          raised = λ j. let old = theirs.raised j in let rise = none_falls marks word n within j in omega arith;
          loaded = theirs.loaded;
        } in
        record {
          eight = length-set marks word (max (get_or marks word 0) n) ∙ m.eight;
          under = still_under marks word n within (λ (j : ℕ). mark part j all) m.under most;
          noted = each_set (λ (k : ℕ) (u : View E F). IsNoted mark part (raised_marks marks word n) all u) views id (marked_view v word n)
              (record {
                raised = λ j. let old = mine.raised j in let rise = none_falls marks word n within j in let has = has_number marks word n within j in omega arith;
                loaded = mine.loaded;
              })
              (λ k u apart there. others k u there);
        }

    -- a mark is loaded
    pub marks_down : (word n : ℕ) → n ≡ get_or marks word 0 → IsMarked mark part marks all (set views id (looked_view v word n))
    marks_down word n found =
        let mine = m.noted id v at in
        let under = m.under word in
        marks_set marks all views id (looked_view v word n) (record {
          raised = mine.raised;
          loaded = λ j. let old = mine.loaded j in ⊎_elim
              (λ (same : word ≡ j). let own = top_own word n in
              let now : cond (word == j) n 0 ≡ n = subst (λ (i : ℕ). cond (word == i) n 0 ≡ n) same own in
              let most : n ≤ mark part j all = subst (λ (i : ℕ). n ≤ mark part i all) same (omega arith) in omega arith)
              (λ (apart : word ≢ j). let other = top_other word j n apart in omega arith)
              (cases_eq word j);
        }) m
