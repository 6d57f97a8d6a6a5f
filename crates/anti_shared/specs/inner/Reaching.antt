-- How far regions have everything, as a history grows.
use Rattle.std.proofs.Common.{◌≡◌, ℕ, ◌+◌, ◌≤◌, Bool, true, false, cond, List, [], ◌∷◌, ◌++◌, sym, subst, refl, arith}
use Rattle.std.specs.List.{prefix_len}
use Rattle.anti_kind.specs.declared.entry.Entry.{Entry}
use Rattle.anti_kind.specs.declared.row.Row.{Row}
use Rattle.anti_kind.specs.Objects.{Start, store, inbox}
use Rattle.anti_kind.specs.Shipments.{upto}
use Rattle.anti_kind.specs.Stored.{rows, is_whole}
use Rattle.anti_kind.proofs.Showing.{rows-append, whole_stays}

one_more : (b c : Bool) → (b ≡ true → c ≡ true) → (m n : ℕ) → m ≤ n → cond b (1 + m) 0 ≤ cond c (1 + n) 0
one_more true true passes m n le = omega arith
one_more true false passes m n le = let no : false ≡ true = passes refl in absurd (cc)
one_more false c passes m n le = omega arith

-- as many pass in front of a longer list, where what passes goes on to pass
passes_more : {X : Type 0} (p q : X → Bool) (xs ys : List X) → ((x : X) → p x ≡ true → q x ≡ true) → prefix_len p xs ≤ prefix_len q (xs ++ ys)
passes_more p q [] ys passes = omega arith
passes_more p q (x ∷ xs) ys passes = one_more (p x) (q x) (passes x) (prefix_len p xs) (prefix_len q (xs ++ ys)) (passes_more p q xs ys passes)

-- nothing is whole before anything was written
pub upto_none : (start : Start) (region : ℕ) → upto start [] region ≤ 0
upto_none (store s) region = omega arith
upto_none (inbox requests) region = omega arith

-- no region has less where the history has more
pub upto_rises : (start : Start) (region : ℕ) (h more : List Entry) → upto start h region ≤ upto start (h ++ more) region
upto_rises (store s) region h more =
    subst (λ (written : List Row). prefix_len (is_whole s.kind h region) (rows h) ≤ prefix_len (is_whole s.kind (h ++ more) region) written) (sym (rows-append h more))
    (passes_more (is_whole s.kind h region) (is_whole s.kind (h ++ more) region) (rows h) (rows more) (λ r. whole_stays s.kind h more region r))
upto_rises (inbox requests) region h more = omega arith
