-- The nodes of a list and its pairs, cut at the same place.
use Rattle.std.proofs.Common.{◌≡◌, ℕ, zero, suc, ◌+◌, ◌-◌, ◌<◌, ◌==◌, ◌||◌, true, false, List, [], ◌∷◌, ◌++◌, map, length, take, drop, Option, Some, None, refl, sym, ap, ◌∙◌, subst, arith, append_assoc, length-append, eqb→eq, T as T'}
use Rattle.std.proofs.lemmas.List.{map-append}
use denote.RawPtr.{Ptr}
use Rattle.anti_flight.specs.declared.held.Held.{Held}
use Rattle.anti_flight.specs.declared.ticket.Ticket.{Ticket}
use Rattle.anti_flight.specs.Tickets.{InFlight, Holds, Rises, first_ticket, has_number}
use Rattle.anti_flight.specs.inner.Linked.{Linked, linked, IsAt, AtNode, IsFirst, IsLast}
use Rattle.anti_flight.specs.inner.Standing.{ticket_of, pair_of, pairs_of, nodes_of, shown, Stands}
use Rattle.anti_flight.proofs.Items.{at_index}
use Rattle.anti_flight.proofs.Splits.{cons_head, cons_tail}
use Rattle.anti_flight.proofs.Rising.{rises_without, rises_pushed, below_later}

module _ {X Y : Type 0} (f : X → Y) where
  pub record Cut (ns : List X) (xs : List Y) (y : Y) (ys : List Y) : Type 0 where
    pub before : List X
    pub node : X
    pub behind : List X
    pub cut : ns ≡ before ++ node ∷ behind
    pub before_is : map f before ≡ xs
    pub node_is : f node ≡ y
    pub behind_is : map f behind ≡ ys

  -- where the images are cut, so are the nodes
  pub map_cut : (ns : List X) (xs : List Y) (y : Y) (ys : List Y) → map f ns ≡ xs ++ y ∷ ys → Cut ns xs y ys
  map_cut [] [] y ys e = absurd cc
  map_cut [] (x ∷ xs) y ys e = absurd cc
  map_cut (n ∷ ns) [] y ys e = record { before = []; node = n; behind = ns; cut = refl; before_is = refl; node_is = cons_head (f n) y (map f ns) ys e; behind_is = cons_tail (f n) y (map f ns) ys e }
  map_cut (n ∷ ns) (x ∷ xs) y ys e =
      let on = map_cut ns xs y ys (cons_tail (f n) x (map f ns) (xs ++ y ∷ ys) e) in
      record {
        before = n ∷ on.before;
        node = on.node;
        behind = on.behind;
        cut = ap (λ l. n ∷ l) on.cut;
        before_is = λ i. cons_head (f n) x (map f ns) (xs ++ y ∷ ys) e i ∷ on.before_is i;
        node_is = on.node_is;
        behind_is = on.behind_is;
      }

pub cut_end : {X : Type 0} (x : X) (xs : List X) → (us : List X) × (y : X) × (x ∷ xs ≡ us ++ y ∷ [])
cut_end x [] = ([], x, refl)
cut_end x (z ∷ xs) = let on = cut_end z xs in (x ∷ on.0, on.1, ap (λ l. x ∷ l) on.2)

not_equal : (a b : ℕ) → (a ≡ b → ⊥) → (a == b) ≡ false
not_equal a b differ = (elim (a == b) as (λ y. (a == b) ≡ y → (a == b) ≡ false) [
  | true ↦ λ e. absurd (differ (eqb→eq a b (subst T' (sym e) tt)))
  | false ↦ λ e. e
]) refl

nil_cut : {X : Type 0} (us : List X) (m : X) (vs : List X) → [] ≡ us ++ m ∷ vs → ⊥
nil_cut [] m vs d = cc
nil_cut (u ∷ us) m vs d = cc

abbrev Node : Type 0 → Type 0
Node T = Linked (Held T)

module _ {T : Type 0} where
  pub pairs_at : (xs : List (Node T)) (n : Node T) (ys : List (Node T)) → pairs_of (xs ++ n ∷ ys) ≡ pairs_of xs ++ pair_of n ∷ pairs_of ys
  pairs_at xs n ys = map-append pair_of xs (n ∷ ys)

  -- what a list with ends shows
  pub shown_some : (ends : Option (List (Node T))) (next : ℕ) (f : InFlight T) (ns : List (Node T)) → shown ends next ≡ f → ends ≡ Some ns → pairs_of ns ≡ f.pairs
  shown_some ends next f ns v e = (λ i. pairs_of (nodes_of (sym e i))) ∙ ap (λ (g : InFlight T). g.pairs) v

  pub stands_some : (ends : Option (List (Node T))) (len next : ℕ) (ns : List (Node T)) → Stands ends len next → ends ≡ Some ns → Stands (Some ns) len next
  stands_some ends len next ns s e = subst (λ (o : Option (List (Node T))). Stands o len next) e s

  pub stands_same : (ends : Option (List (Node T))) (len next : ℕ) (ns : List (Node T)) → ns ≡ nodes_of ends → Stands ends len next → Stands (Some ns) len next
  stands_same ends len next ns e s = subst (λ ms. Stands (Some ms) len next) (sym e) s

  -- a ticket that is held has its node
  pub node_at : (ns : List (Node T)) (ps : List (Ticket × T)) (t : Ticket) → pairs_of ns ≡ ps → Holds ps t → IsAt ns t.place.ptr
  node_at ns ps t same h =
      let on = map_cut pair_of ns h.0 (t, h.1) h.2 (same ∙ h.3) in (on.before, on.node, on.behind, on.cut, ap (λ (p : Ticket × T). p.0.place.ptr) on.node_is)

  pub first_at : (ns : List (Node T)) (p : Ptr) → (length ns ≡ 0 → ⊥) → IsFirst ns p → IsAt ns p
  first_at [] p some h = absurd (some refl)
  first_at (n ∷ ns) p some h = ([], n, ns, refl, h n ns refl)

  pub last_at : (ns : List (Node T)) (p q : Ptr) → IsAt ns q → IsLast ns p → IsAt ns p
  last_at [] p q at h = absurd (nil_cut at.0 at.1 at.2 at.3)
  last_at (n ∷ ns) p q at h = let on = cut_end n ns in (on.0, on.1, [], on.2, h on.0 on.1 on.2)

  module _ (ns : List (Node T)) (p : Ptr) (t : Ticket) (is : AtNode ns p (λ _ n _. t ≡ ticket_of n)) where
    -- the ticket of a node is held
    pub ticket_held : IsAt ns p → Holds (pairs_of ns) t
    ticket_held a =
        (pairs_of a.0, a.1.value.item, pairs_of a.2, ap pairs_of a.3 ∙ pairs_at a.0 a.1 a.2 ∙ (λ i. pairs_of a.0 ++ (sym (is a.0 a.1 a.2 a.3 a.4) i, a.1.value.item) ∷ pairs_of a.2))

  pub first_is : (ns : List (Node T)) (p : Ptr) (t : Ticket) → (length ns ≡ 0 → ⊥) → IsFirst ns p → AtNode ns p (λ _ n _. t ≡ ticket_of n) → Some t ≡ first_ticket (pairs_of ns)
  first_is [] p t some h is = absurd (some refl)
  first_is (n ∷ ns) p t some h is = ap Some (is [] n ns refl (h n ns refl))

  module _ (ns : List (Node T)) (last : Ptr) (l : Ticket) (is_last : IsLast ns last) (is : AtNode ns last (λ _ n _. l ≡ ticket_of n)) where
    -- the last node's ticket is l
    last_is : (us : List (Node T)) (n : Node T) → ns ≡ us ++ n ∷ [] → l ≡ ticket_of n
    last_is us n e = is us n [] e (is_last us n e)

    -- behind the last's number there is nothing
    none_behind : (us : List (Node T)) (n : Node T) (vs : List (Node T)) (next : ℕ) → Rises (pairs_of ns) next → ns ≡ us ++ n ∷ vs → l.number ≡ n.value.number → vs ≡ []
    none_behind us n [] next r e same = refl
    none_behind us n (v ∷ vs) next r e same =
        let on = cut_end v vs in
        let end : ns ≡ (us ++ n ∷ on.0) ++ on.1 ∷ [] = e ∙ ap (λ w. us ++ n ∷ w) on.2 ∙ sym (append_assoc us (n ∷ on.0) (on.1 ∷ [])) in
        let number : l.number ≡ on.1.value.number = ap (λ (t : Ticket). t.number) (last_is (us ++ n ∷ on.0) on.1 end) in
        let cut : pairs_of ns ≡ pairs_of us ++ pair_of n ∷ (pairs_of on.0 ++ pair_of on.1 ∷ []) =
        ap pairs_of e ∙ pairs_at us n (v ∷ vs) ∙ (λ i. pairs_of us ++ pair_of n ∷ (ap pairs_of on.2 ∙ pairs_at on.0 on.1 []) i) in
        let low : n.value.number < on.1.value.number = below_later (pairs_of us) (pair_of n) (pairs_of on.0) (pair_of on.1) [] next (subst (λ ps. Rises ps next) cut r) in
        absurd (omega arith)

    pub none_after : (t : Ticket) (next : ℕ) → Rises (pairs_of ns) next → l.number ≡ t.number
        → (xs : List (Ticket × T)) (x : T) (ys : List (Ticket × T)) → pairs_of ns ≡ xs ++ (t, x) ∷ ys → None ≡ first_ticket ys
    none_after t next r same xs x ys e =
        let on = map_cut pair_of ns xs (t, x) ys e in
        let none = none_behind on.before on.node on.behind next r on.cut (same ∙ sym (ap (λ (p : Ticket × T). p.0.number) on.node_is)) in
        ap first_ticket (sym (ap pairs_of none) ∙ on.behind_is)

    -- where the numbers differ something lies behind
    some_behind : (t : Ticket) → (l.number ≡ t.number → ⊥) → (us : List (Node T)) (n : Node T) (vs : List (Node T)) → ns ≡ us ++ n ∷ vs → ticket_of n ≡ t → (m : Node T) × (ws : List (Node T)) × (vs ≡ m ∷ ws)
    some_behind t differ us n [] e at = absurd (differ (ap (λ (k : Ticket). k.number) (last_is us n e ∙ at)))
    some_behind t differ us n (v ∷ vs) e at = (v, vs, refl)

    module _ (t : Ticket) (q : Ptr) (differ : l.number ≡ t.number → ⊥) (after : AtNode ns t.place.ptr (λ _ _ ys. IsFirst ys q)) where
      next_at : (us : List (Node T)) (n : Node T) (vs : List (Node T)) → ns ≡ us ++ n ∷ vs → ticket_of n ≡ t → (m : Node T) × (ws : List (Node T)) × (vs ≡ m ∷ ws) × (ns ≡ (us ++ n ∷ []) ++ m ∷ ws) × (m.place ≡ q)
      next_at us n vs e at =
          let on = some_behind t differ us n vs e at in
          (on.0, on.1, on.2, e ∙ ap (λ w. us ++ n ∷ w) on.2 ∙ sym (append_assoc us (n ∷ []) (on.0 ∷ on.1)), after us n vs e (ap (λ (k : Ticket). k.place.ptr) at) on.0 on.1 on.2)

      pub after_at : (ps : List (Ticket × T)) → pairs_of ns ≡ ps → Holds ps t → IsAt ns q
      after_at ps same h =
          let on = map_cut pair_of ns h.0 (t, h.1) h.2 (same ∙ h.3) in
          let next = next_at on.before on.node on.behind on.cut (ap (λ (p : Ticket × T). p.0) on.node_is) in
          (on.before ++ on.node ∷ [], next.0, next.1, next.3, next.4)

      pub after_is : (k : Ticket) → AtNode ns q (λ _ n _. k ≡ ticket_of n)
          → (xs : List (Ticket × T)) (x : T) (ys : List (Ticket × T)) → pairs_of ns ≡ xs ++ (t, x) ∷ ys → Some k ≡ first_ticket ys
      after_is k found xs x ys e =
          let on = map_cut pair_of ns xs (t, x) ys e in
          let next = next_at on.before on.node on.behind on.cut (ap (λ (p : Ticket × T). p.0) on.node_is) in
          ap Some (found (on.before ++ on.node ∷ []) next.0 next.1 next.3 next.4) ∙ ap first_ticket (sym (ap pairs_of next.2) ∙ on.behind_is)

  -- what an item of a node at a ticket's place is
  pub item_is : (ns : List (Node T)) (t : Ticket) (h : Held T) → AtNode ns t.place.ptr (λ _ n _. h ≡ n.value) → (xs : List (Ticket × T)) (x : T) (ys : List (Ticket × T)) → pairs_of ns ≡ xs ++ (t, x) ∷ ys → h.item ≡ x
  item_is ns t h is xs x ys e =
      let on = map_cut pair_of ns xs (t, x) ys e in
      ap (λ (k : Held T). k.item) (is on.before on.node on.behind on.cut (ap (λ (p : Ticket × T). p.0.place.ptr) on.node_is)) ∙ ap (λ (p : Ticket × T). p.1) on.node_is

  module _ (ns new : List (Node T)) (t : Ticket) (h : Held T) (is : AtNode ns t.place.ptr (λ xs n ys. (new ≡ xs ++ ys) × (h ≡ n.value))) where
    -- the pairs without the one of a node that left
    pub without : (xs : List (Ticket × T)) (x : T) (ys : List (Ticket × T)) → pairs_of ns ≡ xs ++ (t, x) ∷ ys → (pairs_of new ≡ xs ++ ys) × (h.item ≡ x)
    without xs x ys e =
        let on = map_cut pair_of ns xs (t, x) ys e in
        let left = is on.before on.node on.behind on.cut (ap (λ (p : Ticket × T). p.0.place.ptr) on.node_is) in (
          ap pairs_of left.0 ∙ map-append pair_of on.before on.behind ∙ (λ i. on.before_is i ++ on.behind_is i),
          ap (λ (k : Held T). k.item) left.1 ∙ ap (λ (p : Ticket × T). p.1) on.node_is,
        )

    pub stands_without : (ps : List (Ticket × T)) (len next : ℕ) → pairs_of ns ≡ ps → Holds ps t → Stands (Some ns) len next → Stands (Some new) (len - 1) next
    stands_without ps len next same held s =
        let on = map_cut pair_of ns held.0 (t, held.1) held.2 (same ∙ held.3) in
        let left = (is on.before on.node on.behind on.cut (ap (λ (p : Ticket × T). p.0.place.ptr) on.node_is)).0 in
        let was : length ns ≡ length on.before + length (on.node ∷ on.behind) = ap length on.cut ∙ length-append on.before (on.node ∷ on.behind) in
        let now : length new ≡ length on.before + length on.behind = ap length left ∙ length-append on.before on.behind in
        let count = s.0 in (
          omega arith,
          subst (λ ps. Rises ps next) (sym (ap pairs_of left ∙ map-append pair_of on.before on.behind))
              (rises_without (pairs_of on.before) (pair_of on.node) (pairs_of on.behind) next (subst (λ ps. Rises ps next) (ap pairs_of on.cut ∙ pairs_at on.before on.node on.behind) s.1)),
        )

  -- with a node more
  pub stands_pushed : (ns new : List (Node T)) (p : Ptr) (h : Held T) (len : ℕ) → new ≡ ns ++ linked p h ∷ [] → Stands (Some ns) len h.number → Stands (Some new) (len + 1) (h.number + 1)
  stands_pushed ns new p h len e s =
      let now : length new ≡ length ns + length (linked p h ∷ []) = ap length e ∙ length-append ns (linked p h ∷ []) in
      let count = s.0 in
      (omega arith, subst (λ ps. Rises ps (h.number + 1)) (sym (ap pairs_of e ∙ pairs_at ns (linked p h) [])) (rises_pushed (pairs_of ns) (pair_of (linked p h)) s.1))

  pub pairs_pushed : (ns new : List (Node T)) (p : Ptr) (h : Held T) → new ≡ ns ++ linked p h ∷ [] → pairs_of new ≡ pairs_of ns ++ pair_of (linked p h) ∷ []
  pairs_pushed ns new p h e = ap pairs_of e ∙ pairs_at ns (linked p h) []

  -- one index on, where the pair there has another number
  pub one_on : (i : ℕ) (ps : List (Ticket × T)) (t : Ticket) (n : ℕ) (next : Option Ticket) → first_ticket (drop i ps) ≡ Some t → (t.number ≡ n → ⊥)
      → ((xs : List (Ticket × T)) (x : T) (ys : List (Ticket × T)) → ps ≡ xs ++ (t, x) ∷ ys → next ≡ first_ticket ys) → has_number n (drop i ps) ≡ has_number n ps
      → (next ≡ first_ticket (drop (i + 1) ps)) × (has_number n (drop (i + 1) ps) ≡ has_number n ps)
  one_on i ps t n next e differ after left =
      let on = at_index i ps t e in
      let one : i + 1 ≡ suc i = omega arith in let other = not_equal t.number n differ in
      let rest : has_number n (drop (suc i) ps) ≡ has_number n (drop i ps) = (λ j. sym other j || has_number n (drop (suc i) ps)) ∙ sym (ap (has_number n) on.1) in
      (after (take i ps) on.0 (drop (suc i) ps) on.2 ∙ (λ j. first_ticket (drop (sym one j) ps)), (λ j. has_number n (drop (one j) ps)) ∙ rest ∙ left)
