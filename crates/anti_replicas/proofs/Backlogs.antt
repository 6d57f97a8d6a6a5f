-- The groups of versions that a region does not have: what a mark, a new version and a new base make of them, and how far they tell that it has all.
use Rattle.std.proofs.Common.{◌≡◌, ◌≢◌, ℕ, zero, suc, ◌+◌, ◌-◌, ◌*◌, ◌<◌, ◌≤◌, Bool, true, false, cond, List, [], ◌∷◌, ◌++◌, length, map, get_or, set, take, Option, Some, ⊎_elim, refl, sym, ap, subst, ◌∙◌, ◌==◌, eq-eqb, ne_eqb, append-nil, append_assoc, true≢false, arith}
use Rattle.std.specs.List.{AllByRecursion, list_any, prefix_len}
use Rattle.std.proofs.lemmas.Bool.{cases_eq, or_from, true_from_ne_false}
use Rattle.std.proofs.lemmas.List.{map_push, length_push, length-append, length-map, length-set, map-set, set-get_or, get_or-map, get_or_default, get_or-set_same, get_or-set_other}
use Rattle.std.proofs.lemmas.List.Folds.{list_any_at, list_any_more}
use Rattle.anti_flight.specs.declared.ticket.Ticket.{Ticket}
use Rattle.anti_flight.specs.Queued.{Queued, queued, items_of, seen}
use Rattle.anti_flight.specs.Tickets.{InFlight, in_flight, Holds, first_ticket}
use Rattle.anti_replicas.specs.declared.kept_write.KeptWrite.{KeptWrite}
use Rattle.anti_replicas.specs.inner.Backlogs.{IsFirst, first, remove_first, passed, places_off, wholes, IsBehind, AreBehind, AreBelow, HaveNext}
use Rattle.anti_replicas.specs.inner.Marks.{has_all}
use Rattle.anti_replicas.proofs.Groups.{groups, groups_length, groups_push, groups_more}

-- The places of what is false.

pub off_push : (n : ℕ) (bs : List Bool) → places_off n (bs ++ false ∷ []) ≡ places_off n bs ++ (n + length bs) ∷ []
off_push n [] = let same : n ≡ n + 0 = omega arith in ap (λ (k : ℕ). k ∷ []) same
off_push n (b ∷ bs) =
    let on : n + 1 + length bs ≡ n + suc (length bs) = omega arith in
    by_test b (off_push (n + 1) bs ∙ ap (λ (k : ℕ). places_off (n + 1) bs ++ k ∷ []) on) where
      by_test : (c : Bool) → places_off (n + 1) (bs ++ false ∷ []) ≡ places_off (n + 1) bs ++ (n + suc (length bs)) ∷ []
          → places_off n (c ∷ (bs ++ false ∷ [])) ≡ places_off n (c ∷ bs) ++ (n + suc (length bs)) ∷ []
      by_test true rest = rest
      by_test false rest = ap (λ (ks : List ℕ). n ∷ ks) rest

pub off_set : (n i : ℕ) (bs : List Bool) → i < length bs → get_or bs i true ≡ false → places_off n (set bs i true) ≡ remove_first (n + i) (places_off n bs)
off_set n i [] short off = absurd (omega arith)
off_set n zero (true ∷ bs) short off = absurd (cc)
off_set n zero (false ∷ bs) short off =
    let on : (n == n + 0) ≡ true = eq-eqb n (n + 0) (omega arith) in
    sym (ap (λ (c : Bool). cond c (places_off (n + 1) bs) (n ∷ remove_first (n + 0) (places_off (n + 1) bs))) on)
off_set n (suc i) (true ∷ bs) short off =
    let on : n + 1 + i ≡ n + suc i = omega arith in
    off_set (n + 1) i bs (omega arith) off ∙ ap (λ (k : ℕ). remove_first k (places_off (n + 1) bs)) on
off_set n (suc i) (false ∷ bs) short off =
    let on : n + 1 + i ≡ n + suc i = omega arith in
    let other : (n == n + suc i) ≡ false = ne_eqb n (n + suc i) (λ same. omega (arith, same)) in
    ap (λ (ks : List ℕ). n ∷ ks) (off_set (n + 1) i bs (omega arith) off ∙ ap (λ (k : ℕ). remove_first k (places_off (n + 1) bs)) on)
    ∙ sym (ap (λ (c : Bool). cond c (places_off (n + 1) bs) (n ∷ remove_first (n + suc i) (places_off (n + 1) bs))) other)

passed_from : (n : ℕ) (bs : List Bool) → 1 ≤ n → passed (places_off n bs) (n + length bs - 1) ≡ n - 1 + prefix_len (λ b. b) bs
passed_from n [] least = omega arith
passed_from n (true ∷ bs) least =
    let on : n + suc (length bs) - 1 ≡ n + 1 + length bs - 1 = omega arith in
    let rest : passed (places_off (n + 1) bs) (n + 1 + length bs - 1) ≡ n + 1 - 1 + prefix_len (λ b. b) bs = passed_from (n + 1) bs (omega arith) in
    ap (λ (k : ℕ). passed (places_off (n + 1) bs) k) on ∙ rest ∙ omega arith
passed_from n (false ∷ bs) least = omega arith

-- A region has all up to the first group that it does not have, and where it has each it has all.
pub off_passed : (bs : List Bool) → passed (places_off 1 bs) (length bs) ≡ prefix_len (λ b. b) bs
off_passed bs =
    let all : length bs ≡ 1 + length bs - 1 = omega arith in
    let count : 1 - 1 + prefix_len (λ b. b) bs ≡ prefix_len (λ b. b) bs = omega arith in
    ap (λ (k : ℕ). passed (places_off 1 bs) k) all ∙ passed_from 1 bs (omega arith) ∙ count

-- Which groups are whole at a region.

module _ (g : ℕ) where
  -- a write that is kept and nowhere yet is as one that is not kept
  pub wholes_kept : (ks : List KeptWrite) (k : KeptWrite) (count : ℕ) → has_all g k ≡ false → wholes g (ks ++ k ∷ []) count ≡ wholes g ks count
  wholes_kept ks k count off =
      ap (λ (bs : List Bool). groups bs count) (map_push (has_all g) ks k ∙ ap (λ (b : Bool). map (has_all g) ks ++ b ∷ []) off)
      ∙ groups_push (map (has_all g) ks) count

  -- what is kept of a write changed, and it is whole if and only if it was
  pub wholes_same : (i : ℕ) (ks : List KeptWrite) (k d : KeptWrite) (count : ℕ) → i < length ks → has_all g k ≡ has_all g (get_or ks i d)
      → wholes g (set ks i k) count ≡ wholes g ks count
  wholes_same i ks k d count within same =
      ap (λ (bs : List Bool). groups bs count) (
      map-set (has_all g) ks i k
      ∙ ap (λ (b : Bool). set (map (has_all g) ks) i b) (same ∙ sym (get_or-map (has_all g) ks i d true within))
      ∙ set-get_or (map (has_all g) ks) i true
      )

  -- so many versions are there as pass
  pub wholes_prefix : (ks : List KeptWrite) → prefix_len (λ b. b) (map (has_all g) ks) ≡ prefix_len (has_all g) ks
  wholes_prefix [] = refl
  wholes_prefix (k ∷ ks) = ap (λ (m : ℕ). cond (has_all g k) (1 + m) 0) (wholes_prefix ks)

-- A new base, whose regions wait for nothing.

pub behind_none : (g : ℕ) (backlog : Queued ℕ) → backlog ≡ queued [] 0 → IsBehind g [] backlog
behind_none g backlog new = record {
  items = ap (λ (q : Queued ℕ). q.items) new ∙ sym (ap (λ (q : Queued ℕ). places_off 1 (wholes g [] q.next)) new);
  least = omega arith;
  most = let none : backlog.next ≡ 0 = ap (λ (q : Queued ℕ). q.next) new in omega arith;
}

pub behind_new : (regions : List ℕ) (backlogs : List (Queued ℕ)) → length backlogs ≡ 8
    → ((g : ℕ) (d : Queued ℕ) → g < 8 → get_or backlogs g d ≡ queued [] 0) → AreBehind regions [] backlogs
behind_new regions backlogs count new = record {
  count = count;
  behind = λ g d low among. behind_none g (get_or backlogs g d) (new g d low);
  none = λ g d low off. new g d low;
}

-- The group of the next version, put into backlogs.

module _ (ks : List KeptWrite) where
  behind_more : (g : ℕ) (backlog : Queued ℕ) → IsBehind g ks backlog → backlog.next * 8 ≤ length ks
      → IsBehind g ks (queued (backlog.items ++ (backlog.next + 1) ∷ []) (backlog.next + 1))
  behind_more g backlog behind full =
      let bs : List Bool = map (has_all g) ks in
      let all : length bs ≤ backlog.next * 8 = omega (arith, length-map ks (has_all g), behind.least) in
      let place : 1 + length (wholes g ks backlog.next) ≡ backlog.next + 1 = omega (arith, groups_length bs backlog.next) in
      record {
        items =
            ap (λ (vs : List ℕ). vs ++ (backlog.next + 1) ∷ []) behind.items
            ∙ sym (
            ap (places_off 1) (groups_more bs backlog.next all)
            ∙ off_push 1 (wholes g ks backlog.next)
            ∙ ap (λ (k : ℕ). places_off 1 (wholes g ks backlog.next) ++ k ∷ []) place
            );
        least = omega (arith, behind.least);
        most = omega (arith, full);
      }

  module _ (regions : List ℕ) (backlogs : List (Queued ℕ)) (behind : AreBehind regions ks backlogs) (r : ℕ) (low : r < 8) (is : list_any (λ region. region == r) regions ≡ true) where
    -- one backlog changed
    pub behind_set : (new : Queued ℕ) → IsBehind r ks new → AreBehind regions ks (set backlogs r new)
    behind_set new now = record {
      count = length-set backlogs r new ∙ behind.count;
      behind = λ g d low' one. ⊎_elim
          (λ (same : g ≡ r). subst (λ (k : ℕ). IsBehind k ks (get_or (set backlogs r new) k d)) (sym same) (subst (IsBehind r ks) (sym (get_or-set_same backlogs r new d within)) now))
          (λ (other : g ≢ r). subst (IsBehind g ks) (sym (get_or-set_other backlogs r g new d other)) (behind.behind g d low' one))
          (cases_eq g r);
      none = λ g d short off.
          let other : g ≢ r = λ same. true≢false (sym is ∙ ap (λ (k : ℕ). list_any (λ region. region == k) regions) (sym same) ∙ off) in
          get_or-set_other backlogs r g new d other ∙ behind.none g d short off;
    } where
      within : r < length backlogs
      within = omega (arith, behind.count)

-- The region at an index gets the group of the next version, if it does not have it yet.
module _ (ks : List KeptWrite) (regions : List ℕ) (i r : ℕ) (short : i < length regions) (here : r ≡ get_or regions i r) (below : AreBelow regions)
    (backlogs : List (Queued ℕ)) (behind : AreBehind regions ks backlogs) (have : HaveNext (take i regions) ks backlogs)
    (d : Queued ℕ) where
  abbrev backlog : Queued ℕ
  backlog = get_or backlogs r d

  below_eight : r < 8
  below_eight = omega (arith, here, below i r short)

  listed : list_any (λ region. region == r) regions ≡ true
  listed = list_any_at (λ region. region == r) regions i r short (eq-eqb (get_or regions i r) r (sym here))

  within : r < length backlogs
  within = omega (arith, below_eight, behind.count)

  its_own : IsBehind r ks backlog
  its_own = behind.behind r d below_eight listed

  have_more : (now : List (Queued ℕ)) → ((e : Queued ℕ) → length ks < (get_or now r e).next * 8) → ((g : ℕ) (e : Queued ℕ) → g ≢ r → get_or now g e ≡ get_or backlogs g e)
      → HaveNext (take (i + 1) regions) ks now
  have_more now one same g e one_of = ⊎_elim (λ (it : g ≡ r). subst (λ (k : ℕ). length ks < (get_or now k e).next * 8) (sym it) (one e))
      (λ (other : g ≢ r). subst (λ (q : Queued ℕ). length ks < q.next * 8) (sym (same g e other)) (have g e (before other)))
      (cases_eq g r) where
        before : g ≢ r → list_any (λ region. region == g) (take i regions) ≡ true
        before other =
            let off : (get_or regions i r == g) ≡ false = ne_eqb (get_or regions i r) g (λ it. other (sym it ∙ sym here)) in
            true_from_ne_false (list_any (λ region. region == g) (take i regions))
            (λ out. true≢false (sym one_of ∙ list_any_more (λ region. region == g) regions i r short ∙ or_from (list_any (λ region. region == g) (take i regions)) (get_or regions i r == g) out off))

  pub waits_already : (backlog.next * 8 ≤ length ks → ⊥) → HaveNext (take (i + 1) regions) ks backlogs
  waits_already there =
      have_more backlogs (λ e. subst (λ (q : Queued ℕ). length ks < q.next * 8) (sym (get_or_default backlogs r e d within)) (omega (arith, there))) (λ g e other. refl)

  pub waits_now : backlog.next * 8 ≤ length ks → (new : Queued ℕ) → new ≡ queued (backlog.items ++ (backlog.next + 1) ∷ []) (backlog.next + 1)
      → AreBehind regions ks (set backlogs r new) × HaveNext (take (i + 1) regions) ks (set backlogs r new)
  waits_now full new more = (
    behind_set ks regions backlogs behind r below_eight listed new (subst (IsBehind r ks) (sym more) (behind_more ks r backlog its_own full)),
    have_more (set backlogs r new)
        (λ e. subst (λ (q : Queued ℕ). length ks < q.next * 8) (sym (get_or-set_same backlogs r new e within ∙ more)) (omega (arith, its_own.least)))
        (λ g e other. get_or-set_other backlogs r g new e other),
  )

-- The way to a group through the pairs of a list.

abbrev Pairs : Type 0
Pairs = List (Ticket × ℕ)

-- no pair has the group
abbrev Others : ℕ → Pairs → Type 0
Others v = AllByRecursion (λ (p : Ticket × ℕ). p.1 ≢ v)

-- i pairs, none with the group, are behind the search, and `at` is the ticket of the first of those ahead
pub record IsPast (v i : ℕ) (at : Option Ticket) (ps : Pairs) : Type 0 where
  pub behind : Pairs
  pub ahead : Pairs
  pub cut : ps ≡ behind ++ ahead
  pub count : length behind ≡ i
  pub here : at ≡ first_ticket ahead
  pub others : Others v behind

pub past_none : (v : ℕ) (at : Option Ticket) (ps : Pairs) → at ≡ first_ticket ps → IsPast v 0 at ps
past_none v at ps here = record { behind = []; ahead = ps; cut = refl; count = refl; here = here; others = tt }

pub first_pair : (at : Option Ticket) (t : Ticket) (ps : Pairs) → at ≡ first_ticket ps → at ≡ Some t → (x : ℕ) × (rest : Pairs) × (ps ≡ (t, x) ∷ rest)
first_pair at t [] here is = absurd (cc)
first_pair at t (p ∷ ps) here is = let same : p.0 ≡ t = cc in (p.1, ps, (λ j. (same j, p.1) ∷ ps))

-- what stands first
pub first_item : (at : Option Ticket) (t : Ticket) (ps : Pairs) (item : ℕ) → at ≡ first_ticket ps → at ≡ Some t
    → ((xs : Pairs) (x : ℕ) (ys : Pairs) → ps ≡ xs ++ (t, x) ∷ ys → item ≡ x) → Some item ≡ first (items_of ps)
first_item at t ps item here is read =
    let on = first_pair at t ps here is in ap Some (read [] on.0 on.1 on.2) ∙ sym (ap (λ (l : Pairs). first (items_of l)) on.2)

others_push : (v : ℕ) (xs : Pairs) (p : Ticket × ℕ) → Others v xs → p.1 ≢ v → Others v (xs ++ p ∷ [])
others_push v [] p others other = (other, tt)
others_push v (x ∷ xs) p others other = (others.0, others_push v xs p others.1 other)

-- where the search stands at a ticket
module _ (v i : ℕ) (at : Option Ticket) (ps : Pairs) (past : IsPast v i at ps) (t : Ticket) (is : at ≡ Some t) where
  abbrev pub past_holds : Holds ps t
  past_holds =
      let on = first_pair at t past.ahead past.here is in
      (past.behind, on.0, on.1, past.cut ∙ ap (λ (l : Pairs). past.behind ++ l) on.2)

  module _ (item : ℕ) (read : (xs : Pairs) (x : ℕ) (ys : Pairs) → ps ≡ xs ++ (t, x) ∷ ys → item ≡ x) where
    its_item : item ≡ past_holds.1
    its_item = read past_holds.0 past_holds.1 past_holds.2 past_holds.3

    -- it is the group's
    pub past_found : item ≡ v → IsFirst v t ps
    past_found same =
        let group : past_holds.1 ≡ v = sym its_item ∙ same in
        (past.behind, past_holds.2, past_holds.3 ∙ ap (λ (x : ℕ). past.behind ++ (t, x) ∷ past_holds.2) group, past.others)

    -- it is of another group, and the search goes on
    pub past_next : (item ≡ v → ⊥) → (next : Option Ticket) → ((xs : Pairs) (x : ℕ) (ys : Pairs) → ps ≡ xs ++ (t, x) ∷ ys → next ≡ first_ticket ys) → IsPast v (i + 1) next ps
    past_next other next after = record {
      behind = past.behind ++ (t, past_holds.1) ∷ [];
      ahead = past_holds.2;
      cut = past_holds.3 ∙ sym (append_assoc past.behind ((t, past_holds.1) ∷ []) past_holds.2);
      count = omega (arith, length_push past.behind (t, past_holds.1), past.count);
      here = after past_holds.0 past_holds.1 past_holds.2 past_holds.3;
      others = others_push v past.behind (t, past_holds.1) past.others (λ same. other (its_item ∙ same));
    }

pub past_some : (v i : ℕ) (at : Option Ticket) (ps : Pairs) → IsPast v i at ps → ((t : Ticket) → at ≡ Some t → ⊥) → i < length ps → ⊥
past_some v i at ps past none short = by_ahead past.ahead past.cut past.here where
  by_ahead : (ahead : Pairs) → ps ≡ past.behind ++ ahead → at ≡ first_ticket ahead → ⊥
  by_ahead [] cut here = let all : length ps ≡ length past.behind = ap length (cut ∙ append-nil past.behind) in omega (arith, past.count)
  by_ahead (p ∷ rest) cut here = none p.0 here

others_stay : (v : ℕ) (ps : Pairs) → Others v ps → remove_first v (items_of ps) ≡ items_of ps
others_stay v [] others = refl
others_stay v (p ∷ ps) others =
    let off : (p.1 == v) ≡ false = ne_eqb p.1 v others.0 in
    ap (λ (b : Bool). cond b (items_of ps) (p.1 ∷ remove_first v (items_of ps))) off ∙ ap (λ (vs : List ℕ). p.1 ∷ vs) (others_stay v ps others.1)

-- past all of them the group is not there
pub past_all : (v i : ℕ) (at : Option Ticket) (ps : Pairs) → IsPast v i at ps → length ps ≤ i → remove_first v (items_of ps) ≡ items_of ps
past_all v i at ps past all = by_ahead past.ahead past.cut where
  by_ahead : (ahead : Pairs) → ps ≡ past.behind ++ ahead → remove_first v (items_of ps) ≡ items_of ps
  by_ahead [] cut = let is : past.behind ≡ ps = sym (cut ∙ append-nil past.behind) in others_stay v ps (subst (Others v) is past.others)
  by_ahead (p ∷ rest) cut = absurd (omega (arith, past.count, ap length cut, length-append past.behind (p ∷ rest)))

-- A group that is put in behind those up to `last` leaves as many passed.
pub passed_push : (vs : List ℕ) (last : ℕ) → passed (vs ++ (last + 1) ∷ []) (last + 1) ≡ passed vs last
passed_push [] last = omega arith
passed_push (v ∷ vs) last = refl

-- A group that leaves.

taken_out : (v : ℕ) (t : Ticket) (xs ys : Pairs) → Others v xs → items_of (xs ++ ys) ≡ remove_first v (items_of (xs ++ (t, v) ∷ ys))
taken_out v t [] ys others =
    let on : (v == v) ≡ true = eq-eqb v v refl in sym (ap (λ (b : Bool). cond b (items_of ys) (v ∷ remove_first v (items_of ys))) on)
taken_out v t (x ∷ xs) ys others =
    let off : (x.1 == v) ≡ false = ne_eqb x.1 v others.0 in
    ap (λ (vs : List ℕ). x.1 ∷ vs) (taken_out v t xs ys others.1)
    ∙ sym (ap (λ (b : Bool). cond b (items_of (xs ++ (t, v) ∷ ys)) (x.1 ∷ remove_first v (items_of (xs ++ (t, v) ∷ ys)))) off)

module _ (v : ℕ) (t : Ticket) (ps : Pairs) (is : IsFirst v t ps) where
  pub first_holds : Holds ps t
  first_holds = (is.0, v, is.1, is.2)

  module _ (next item : ℕ) (new : InFlight ℕ) (left : (xs : Pairs) (x : ℕ) (ys : Pairs) → ps ≡ xs ++ (t, x) ∷ ys → (new ≡ in_flight (xs ++ ys) next) × (item ≡ x)) where
    pub first_leaves : seen new ≡ queued (remove_first v (items_of ps)) next
    first_leaves =
        ap seen (left is.0 v is.1 is.2).0
        ∙ ap (λ (vs : List ℕ). queued vs next) (taken_out v t is.0 is.1 is.3 ∙ sym (ap (λ (l : Pairs). remove_first v (items_of l)) is.2))

    pub first_fewer : length ps ≤ next → length new.pairs ≤ new.next
    first_fewer short =
        let gone = (left is.0 v is.1 is.2).0 in
        omega (arith, ap (λ (f : InFlight ℕ). length f.pairs) gone, ap (λ (f : InFlight ℕ). f.next) gone, ap length is.2, length-append is.0 ((t, v) ∷ is.1), length-append is.0 is.1)
