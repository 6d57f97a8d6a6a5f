-- The nodes lie at different places, so a pointer names one node.
use Rattle.std.proofs.Common.{◌≡◌, true, false, ◌&&◌, ◌==◌, List, [], ◌∷◌, ◌++◌, map, refl, sym, ap, ◌∙◌, subst, append_assoc, append-nil, map-id, eqb→eq, T}
use Rattle.std.specs.List.{AllByRecursion, IsDistinct}
use Rattle.std.proofs.lemmas.List.{map-append}
use lib.Dec.{eqb_refl}
use mathlib.Core.Bool.{Bool}
use denote.RawPtr.{Ptr, block_ptr, null_ptr}
use Rattle.anti_flight.specs.inner.Linked.{Linked, same_ptr, IsApart, HasNext, HasPrev, places, ring}
use Rattle.anti_flight.proofs.Splits.{cons_head, last_from, last_from-push, distinct_without, distinct_with, alike_cut}

true_of : (b : Bool) → T b → b ≡ true
true_of true t = refl
true_of false t = absurd t

pub same_ptr_refl : (p : Ptr) → same_ptr p p ≡ true
same_ptr_refl (block_ptr b o) = λ i. true_of (b == b) (eqb_refl b) i && true_of (o == o) (eqb_refl o) i
same_ptr_refl null_ptr = refl

both : (x y : Bool) → (x && y) ≡ true → T x × T y
both true true e = (tt, tt)
both true false e = cc
both false y e = cc

pub same_ptr_eq : (p q : Ptr) → same_ptr p q ≡ true → p ≡ q
same_ptr_eq (block_ptr b o) (block_ptr c p) e = let t = both (b == c) (o == p) e in λ i. block_ptr (eqb→eq b c t.0 i) (eqb→eq o p t.1 i)
same_ptr_eq (block_ptr b o) null_ptr e = cc
same_ptr_eq null_ptr (block_ptr c p) e = cc
same_ptr_eq null_ptr null_ptr e = refl

alike : (x y : Bool) → (x ≡ true → y ≡ true) → (y ≡ true → x ≡ true) → x ≡ y
alike true y f g = sym (f refl)
alike false true f g = g refl
alike false false f g = refl

pub same_ptr_symm : (p q : Ptr) → same_ptr p q ≡ same_ptr q p
same_ptr_symm p q = alike (same_ptr p q) (same_ptr q p)
    (λ e. subst (λ r. same_ptr r p ≡ true) (same_ptr_eq p q e) (same_ptr_refl p)) (λ e. subst (λ r. same_ptr r q ≡ true) (same_ptr_eq q p e) (same_ptr_refl q))

same_cut : {X : Type 0} (f : X → Ptr) (xs : List X) (x : X) (ys us : List X) (y : X) (vs : List X) → IsApart (map f (xs ++ x ∷ ys)) → xs ++ x ∷ ys ≡ us ++ y ∷ vs → f x ≡ f y
    → (xs ≡ us) × (x ≡ y) × (ys ≡ vs)
same_cut f xs x ys us y vs d e at = alike_cut f same_ptr same_ptr_symm xs x ys us y vs d e (subst (λ r. same_ptr (f x) r ≡ true) at (same_ptr_refl (f x)))

abbrev pub IsFresh : Ptr → List Ptr → Type 0
IsFresh p = AllByRecursion (λ q. same_ptr p q ≡ false)

mapped : (ps : List Ptr) → IsApart ps → IsApart (map (λ p. p) ps)
mapped ps = subst IsApart (sym (map-id ps))

unmapped : (ps : List Ptr) → IsApart (map (λ p. p) ps) → IsApart ps
unmapped ps = subst IsApart (map-id ps)

apart_without : (xs : List Ptr) (p : Ptr) (ys : List Ptr) → IsApart (xs ++ p ∷ ys) → IsApart (xs ++ ys)
apart_without xs p ys d = unmapped (xs ++ ys) (distinct_without (λ q. q) same_ptr xs p ys (mapped (xs ++ p ∷ ys) d))

apart_with : (xs : List Ptr) (p : Ptr) (ys : List Ptr) → IsFresh p (xs ++ ys) → IsApart (xs ++ ys) → IsApart (xs ++ p ∷ ys)
apart_with xs p ys h d = unmapped (xs ++ p ∷ ys) (distinct_with (λ q. q) same_ptr same_ptr_symm xs p ys h (mapped (xs ++ ys) d))

pub apart_two : (h t : Ptr) → same_ptr h t ≡ false → IsApart (h ∷ t ∷ [])
unfolding IsDistinct
apart_two h t e = ((e, tt), (tt, tt))

pub same_next : (ps : List Ptr) (p q r : Ptr) → IsApart ps → HasNext ps p q → HasNext ps p r → q ≡ r
same_next ps p q r d a b =
    cons_head q r a.1 b.1 (same_cut (λ x. x) a.0 p (q ∷ a.1) b.0 p (r ∷ b.1) (mapped (a.0 ++ p ∷ q ∷ a.1) (subst IsApart a.2 d)) (sym a.2 ∙ b.2) refl).2

pub same_prev : (ps : List Ptr) (p q r : Ptr) → IsApart ps → HasPrev ps p q → HasPrev ps p r → q ≡ r
same_prev ps p q r d a b =
    let ea : ps ≡ (a.0 ++ q ∷ []) ++ p ∷ a.1 = a.2 ∙ sym (append_assoc a.0 (q ∷ []) (p ∷ a.1)) in
    let eb : ps ≡ (b.0 ++ r ∷ []) ++ p ∷ b.1 = b.2 ∙ sym (append_assoc b.0 (r ∷ []) (p ∷ b.1)) in
    let front = (same_cut (λ x. x) (a.0 ++ q ∷ []) p a.1 (b.0 ++ r ∷ []) p b.1 (mapped ((a.0 ++ q ∷ []) ++ p ∷ a.1) (subst IsApart ea d)) (sym ea ∙ eb) refl).0 in
    sym (last_from-push p a.0 q) ∙ ap (last_from p) front ∙ last_from-push p b.0 r

module _ {T : Type 0} where
  -- the places after the head, cut at a node
  pub places_cut : (xs : List (Linked T)) (n : Linked T) (ys : List (Linked T)) (t : Ptr) → places (xs ++ n ∷ ys) ++ t ∷ [] ≡ places xs ++ n.place ∷ (places ys ++ t ∷ [])
  places_cut xs n ys t = ap (λ l. l ++ t ∷ []) (map-append (λ (m : Linked T). m.place) xs (n ∷ ys)) ∙ append_assoc (places xs) (n.place ∷ places ys) (t ∷ [])

  pub places_joined : (xs ys : List (Linked T)) (t : Ptr) → places (xs ++ ys) ++ t ∷ [] ≡ places xs ++ (places ys ++ t ∷ [])
  places_joined xs ys t = ap (λ l. l ++ t ∷ []) (map-append (λ (m : Linked T). m.place) xs ys) ∙ append_assoc (places xs) (places ys) (t ∷ [])

  pub apart_detached : (h : Ptr) (xs : List (Linked T)) (n : Linked T) (ys : List (Linked T)) (t : Ptr) → IsApart (ring h (xs ++ n ∷ ys) t) → IsApart (ring h (xs ++ ys) t)
  apart_detached h xs n ys t d =
      subst (λ l. IsApart (h ∷ l)) (sym (places_joined xs ys t)) (apart_without (h ∷ places xs) n.place (places ys ++ t ∷ []) (subst (λ l. IsApart (h ∷ l)) (places_cut xs n ys t) d))

  pub apart_attached_last : (h : Ptr) (n : Linked T) (ns : List (Linked T)) (t : Ptr) → IsFresh n.place (ring h ns t) → IsApart (ring h ns t) → IsApart (ring h (ns ++ n ∷ []) t)
  apart_attached_last h n ns t f d = subst (λ l. IsApart (h ∷ l)) (sym (places_cut ns n [] t)) (apart_with (h ∷ places ns) n.place (t ∷ []) f d)

  pub apart_places : (h : Ptr) (ns : List (Linked T)) (t : Ptr) → IsApart (ring h ns t) → IsApart (places ns)
  apart_places h ns t d = subst IsApart (append-nil (places ns)) (apart_without (places ns) t [] (apart_without [] h (places ns ++ t ∷ []) d))

  pub same_node : (ns xs : List (Linked T)) (n : Linked T) (ys us : List (Linked T)) (m : Linked T) (vs : List (Linked T)) → IsApart (places ns) → ns ≡ xs ++ n ∷ ys → ns ≡ us ++ m ∷ vs → n.place ≡ m.place
      → (xs ≡ us) × (n ≡ m) × (ys ≡ vs)
  same_node ns xs n ys us m vs d a b at = same_cut (λ (k : Linked T). k.place) xs n ys us m vs (subst (λ l. IsApart (places l)) a d) (sym a ∙ b) at
