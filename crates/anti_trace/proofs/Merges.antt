-- Histories that are merged: how one entry goes over from the end of its history to the front of the trace.
use Rattle.std.proofs.Common.{ℕ, suc, ◌+◌, ◌-◌, ◌<◌, ◌≤◌, ◌≡◌, ◌∙◌, Bool, false, List, [], ◌∷◌, ◌++◌, length, get_or, set, take, drop, refl, ap, sym, subst, inl, inr, arith}
use Rattle.std.specs.Prelude.{IsTrue}
use Rattle.std.specs.List.{All, filter}
use Rattle.std.proofs.lemmas.Bool.{cases_lt, cases_eq, eq-eqb, ne_eqb}
use Rattle.std.proofs.lemmas.List.{append_assoc, append-nil, get_or-map, get_or_push, get_or_append_left, get_or_default, get_or_read, get_or-set_same, get_or-set_other, get_or-drop, length-drop, length-set, length_push, set-get_or, set_split}
use Rattle.std.proofs.lemmas.List.Concat.{flat_map-append, length-flat_map}
use Rattle.std.proofs.lemmas.List.Elements.{All-nil, All-cons, All-head, All-tail, All-append, All-from_get_or, All-push, All-set, All-weaker, filter-append}
use Rattle.std.proofs.lemmas.List.Quantifiers.{all_pairs_push}
use Rattle.std.proofs.lemmas.List.Sums.{sum_by-set}
use Rattle.anti_ids.specs.List.{Listed, empty}
use Rattle.anti_kind.proofs.Histories.{ascending}
use Rattle.anti_kind.specs.Objects.{Start, IsLegal}
use Rattle.anti_kind.specs.declared.entry.Entry.{Entry}
use Rattle.anti_trace.specs.Traces.{comes_before, IsTrace, is_on, entries_on}
use Rattle.anti_trace.specs.Histories.{IsHistory, AreApart, AreHistories, all_entries}
use Rattle.anti_trace.specs.inner.Heads.{end_object, end_stamp, history_at}
use Rattle.anti_trace.proofs.HeadLemmas.{IsLast, some_inside}
use Rattle.anti_trace.proofs.Orders.{before_to, before_stamp}
use Rattle.anti_trace.proofs.Puts.{filter-yes, filter-no}

-- on one object, and by a smaller stamp
abbrev pub Ascends : Entry → Entry → Type 0
Ascends d e = (d.object ≡ e.object) × (d.stamp < e.stamp)

-- no entries are a history
pub history_none : IsHistory []
history_none = λ i j d l r. absurd (omega arith)

-- one entry is a history
pub history_one : (e : Entry) → IsHistory (e ∷ [])
history_one e = λ i j d l r. absurd (omega arith)

-- a history with its next entry is a history
pub history_push : (h : List Entry) (e : Entry) → IsHistory h → All (λ d. Ascends d e) h → IsHistory (h ++ e ∷ [])
history_push h e is last = all_pairs_push Ascends h e is last

-- lists on two objects are apart
pub apart_on : (o p : ℕ) (g h : List Entry) → All (λ e. e.object ≡ o) g → All (λ e. e.object ≡ p) h → (o ≡ p → ⊥) → AreApart g h
apart_on o p g h own other ne = λ i d l j e m same. ne (sym (own i d l) ∙ same ∙ other j e m)

-- a legal history of an object is one that can be merged
pub legal_is_history : (start : Start) (o : ℕ) (h : List Entry) → IsLegal start h → All (λ e. e.object ≡ o) h → IsHistory h
legal_is_history start o h legal on = λ i j d l r. (on i d (omega arith) ∙ sym (on j d r), ascending start h legal i j d l r)

-- no histories
pub are_none : AreHistories []
are_none = record {
  each = All-nil (λ h. IsHistory h.items);
  apart = λ i j d l r. absurd (omega arith);
}

-- one more history, which is apart from the others
pub are_more : (hs : List (Listed Entry)) (h : Listed Entry) → AreHistories hs → IsHistory h.items → All (λ g. AreApart g.items h.items) hs → AreHistories (hs ++ h ∷ [])
are_more hs h are is apart = record {
  each = All-push (λ x. IsHistory x.items) hs h are.each is;
  apart = all_pairs_push (λ x y. AreApart x.items y.items) hs h are.apart apart;
}

-- no histories have no entries
pub all_none : (hs : List (Listed Entry)) → ((k : ℕ) → history_at hs k ≡ []) → all_entries hs ≡ []
all_none [] none = refl
all_none (h ∷ hs) none = ap (λ (x : List Entry). x ++ all_entries hs) (none 0) ∙ all_none hs (λ k. none (suc k))

-- A history and its last entry.
module _ (h : List Entry) (e : Entry) where
  pub front_all : (P : Entry → Type 0) → All P (h ++ e ∷ []) → All P h
  front_all P all = λ k d l. let n = length_push h e in subst P (get_or_append_left h (e ∷ []) d k l) (all k d (omega arith))

  pub last_all : (P : Entry → Type 0) → All P (h ++ e ∷ []) → P e
  last_all P all = let n = length_push h e in subst P (get_or_push h e e (length h) refl) (all (length h) e (omega arith))

  pub end_stamp-push : end_stamp (h ++ e ∷ []) ≡ e.stamp
  end_stamp-push =
      let n = length_push h e in
      get_or-map (λ (x : Entry). x.stamp) (h ++ e ∷ []) (length (h ++ e ∷ []) - 1) e 0 (omega arith)
      ∙ ap (λ (x : Entry). x.stamp) (get_or_push h e e (length (h ++ e ∷ []) - 1) (omega arith))

  pub end_object-push : end_object (h ++ e ∷ []) ≡ e.object
  end_object-push =
      let n = length_push h e in
      get_or-map (λ (x : Entry). x.object) (h ++ e ∷ []) (length (h ++ e ∷ []) - 1) e 0 (omega arith)
      ∙ ap (λ (x : Entry). x.object) (get_or_push h e e (length (h ++ e ∷ []) - 1) (omega arith))

  module _ (is : IsHistory (h ++ e ∷ [])) where
    pub front_is_history : IsHistory h
    front_is_history i j d l r =
        let n = length_push h e in
        let both : Ascends (get_or (h ++ e ∷ []) i d) (get_or (h ++ e ∷ []) j d) = is i j d l (omega arith) in
        let p : get_or (h ++ e ∷ []) i d ≡ get_or h i d = get_or_append_left h (e ∷ []) d i (omega arith) in
        let q : get_or (h ++ e ∷ []) j d ≡ get_or h j d = get_or_append_left h (e ∷ []) d j r in
        subst (λ (x : Entry). Ascends x (get_or h j d)) p (subst (Ascends (get_or (h ++ e ∷ []) i d)) q both)

    pub front_below_last : All (λ d. Ascends d e) h
    front_below_last k d l =
        let n = length_push h e in
        let both : Ascends (get_or (h ++ e ∷ []) k d) (get_or (h ++ e ∷ []) (length h) d) = is k (length h) d l (omega arith) in
        let p : get_or (h ++ e ∷ []) k d ≡ get_or h k d = get_or_append_left h (e ∷ []) d k l in
        let q : get_or (h ++ e ∷ []) (length h) d ≡ e = get_or_push h e d (length h) refl in
        subst (λ (x : Entry). Ascends x e) p (subst (Ascends (get_or (h ++ e ∷ []) k d)) q both)

-- each entry is on the object of the last, and no stamp is above that of the last
abbrev pub WithinEnd : List Entry → Entry → Type 0
WithinEnd h d = (d.stamp ≤ end_stamp h) × (d.object ≡ end_object h)

pub within_end : (h : List Entry) → IsHistory h → All (WithinEnd h) h
within_end h is = λ k d l.
    let s = get_or-map (λ (x : Entry). x.stamp) h (length h - 1) d 0 (omega arith) in
    let o = get_or-map (λ (x : Entry). x.object) h (length h - 1) d 0 (omega arith) in
    elim (cases_eq k (length h - 1)) [
      | inl same ↦
          let p = ap (λ (i : ℕ). (get_or h i d).stamp) same in
          let q = ap (λ (i : ℕ). (get_or h i d).object) same in (omega arith, omega arith)
      | inr ne ↦
          let both : Ascends (get_or h k d) (get_or h (length h - 1) d) = is k (length h - 1) d (omega arith) (omega arith) in
          let p = both.0 in
          let q = both.1 in (omega arith, omega arith)
    ]

-- histories at different numbers are apart, in either order
pub apart_at : (hs : List (Listed Entry)) → AreHistories hs → (j k : ℕ) → j < length hs → k < length hs → (j ≡ k → ⊥) → AreApart (history_at hs j) (history_at hs k)
apart_at hs are j k a b ne =
    elim (cases_lt j k) [
      | inl l ↦ are.apart j k empty l b
      | inr l ↦ λ i d m i' d' m' same. are.apart k j empty (omega arith) a i' d' m' i d m (sym same)
    ]

pub filter-none : {X : Type 0} (p : X → Bool) (xs : List X) → All (λ x. p x ≡ false) xs → filter p xs ≡ []
filter-none p [] all = refl
filter-none p (x ∷ xs) all = filter-no p x xs (All-head (λ y. p y ≡ false) x xs all) ∙ filter-none p xs (All-tail (λ y. p y ≡ false) x xs all)

-- what holds of the entries of each history holds of all
pub all_of_all : (P : Entry → Type 0) (hs : List (Listed Entry)) → All (λ h. All P h.items) hs → All P (all_entries hs)
all_of_all P [] all = All-nil P
all_of_all P (h ∷ hs) all =
    All-append P h.items (all_entries hs) (All-head (λ x. All P x.items) h hs all) (all_of_all P hs (All-tail (λ x. All P x.items) h hs all))

-- an entry goes over where nothing of its object stands behind its history
goes_over : (a r b d : List Entry) (e : Entry) → b ≡ [] → (a ++ (r ++ b)) ++ e ∷ d ≡ (a ++ ((r ++ e ∷ []) ++ b)) ++ d
goes_over a r b d e none =
    rw (none, append-nil r, append-nil (r ++ e ∷ []), append_assoc a (r ++ e ∷ []) d, append_assoc r (e ∷ []) d) (append_assoc a r (e ∷ d))

-- what a write to the history at k left, where its last entry was taken
pub taken_at : (left : List (Listed Entry)) (k : ℕ) (h rest : Listed Entry) (e : Entry) → IsLast left k → h ≡ get_or left k h → h.items ≡ rest.items ++ e ∷ [] → history_at left k ≡ rest.items ++ e ∷ []
taken_at left k h rest e last read taken = sym (ap (λ (x : Listed Entry). x.items) (get_or_read left k h last.inside read empty)) ∙ taken

-- The merge: what is left of the histories, and the trace of what was taken from their ends.
pub record Merging (source left : List (Listed Entry)) (done : List Entry) : Type 0 where
  pub own : AreHistories left
  pub kept : (o : ℕ) → entries_on o (all_entries left) ++ entries_on o done ≡ entries_on o (all_entries source)
  pub order : IsTrace done
  pub before : (k : ℕ) → All (λ e. All (λ d. IsTrue (comes_before e d)) done) (history_at left k)
  pub count : length (all_entries left) + length done ≡ length (all_entries source)

module _ (source left : List (Listed Entry)) (done : List Entry) (m : Merging source left done) (k : ℕ) (last : IsLast left k) (rest : Listed Entry) (e : Entry) (taken : history_at left k ≡ rest.items ++ e ∷ []) where
  whole : IsHistory (rest.items ++ e ∷ [])
  whole = subst IsHistory taken (m.own.each k empty last.inside)

  at_same : history_at (set left k rest) k ≡ rest.items
  at_same = ap (λ (x : Listed Entry). x.items) (get_or-set_same left k rest empty last.inside)

  at_other : (j : ℕ) → (j ≡ k → ⊥) → history_at (set left k rest) j ≡ history_at left j
  at_other j ne = ap (λ (x : Listed Entry). x.items) (get_or-set_other left k j rest empty ne)

  -- what is left at a number is of what was left there
  part : (P : Entry → Type 0) (j : ℕ) → All P (history_at left j) → All P (history_at (set left k rest) j)
  part P j all = elim (cases_eq j k) [
    | inl same ↦ subst (λ (i : ℕ). All P (history_at (set left k rest) i)) (sym same)
        (subst (All P) (sym at_same) (front_all rest.items e P (subst (All P) taken (subst (λ (i : ℕ). All P (history_at left i)) same all))))
    | inr ne ↦ subst (All P) (sym (at_other j ne)) all
  ]

  more_apart : (i j : ℕ) → i < j → j < length left → AreApart (history_at (set left k rest) i) (history_at (set left k rest) j)
  more_apart i j l r =
      part (λ d. All (λ x. d.object ≡ x.object → ⊥) (history_at (set left k rest) j)) i
      (λ n d s. part (λ x. (get_or (history_at left i) n d).object ≡ x.object → ⊥) j (m.own.apart i j empty l r n d s))

  more_own : AreHistories (set left k rest)
  more_own =
      let n = length-set left k rest in
      record {
        each = All-set (λ h. IsHistory h.items) left k rest (front_is_history rest.items e whole) m.own.each;
        apart = λ i j d l r.
            subst (λ (x : Listed Entry). AreApart x.items (get_or (set left k rest) j d).items) (get_or_default (set left k rest) i empty d (omega arith))
            (subst (λ (x : Listed Entry). AreApart (history_at (set left k rest) i) x.items) (get_or_default (set left k rest) j empty d r) (more_apart i j l (omega arith)));
      }

  -- the entries of all histories, by those in front of the one at k and those behind it
  parts : (x : Listed Entry) → all_entries (set left k x) ≡ all_entries (take k left) ++ (x.items ++ all_entries (drop (suc k) left))
  parts x = ap all_entries (set_split left k x last.inside) ∙ flat_map-append (λ (h : Listed Entry). h.items) (take k left) (x ∷ drop (suc k) left)

  on_parts : (o : ℕ) (x : Listed Entry) → entries_on o (all_entries (set left k x))
      ≡ entries_on o (all_entries (take k left)) ++ (entries_on o x.items ++ entries_on o (all_entries (drop (suc k) left)))
  on_parts o x =
      ap (entries_on o) (parts x)
      ∙ filter-append (is_on o) (all_entries (take k left)) (x.items ++ all_entries (drop (suc k) left))
      ∙ ap (λ (y : List Entry). entries_on o (all_entries (take k left)) ++ y) (filter-append (is_on o) x.items (all_entries (drop (suc k) left)))

  -- no entry of another history is on the object of the one that is taken
  apart_last : (j : ℕ) → (j ≡ k → ⊥) → j < length left → All (λ x. e.object ≡ x.object → ⊥) (history_at left j)
  apart_last j ne inside =
      last_all rest.items e (λ y. All (λ x. y.object ≡ x.object → ⊥) (history_at left j))
      (subst (All (λ y. All (λ x. y.object ≡ x.object → ⊥) (history_at left j))) taken (apart_at left m.own k j last.inside inside (λ same. ne (sym same))))

  none_behind : entries_on e.object (all_entries (drop (suc k) left)) ≡ []
  none_behind =
      let Off : Entry → Type 0 = λ x. is_on e.object x ≡ false in
      let rest_long = length-drop (suc k) left in
      filter-none (is_on e.object) (all_entries (drop (suc k) left))
      (all_of_all Off (drop (suc k) left) (All-from_get_or (λ h. All Off h.items) (drop (suc k) left) empty (λ i l.
      subst (λ (h : Listed Entry). All Off h.items) (sym (get_or-drop (suc k) left i empty))
      (λ n d s. ne_eqb (get_or (history_at left (suc k + i)) n d).object e.object
      (λ same. apart_last (suc k + i) (λ here. absurd (omega arith)) (omega arith) n d s (sym same))))))

  was : (o : ℕ) → entries_on o (all_entries left)
      ≡ entries_on o (all_entries (take k left)) ++ (entries_on o (history_at left k) ++ entries_on o (all_entries (drop (suc k) left)))
  was o = ap (λ (hs : List (Listed Entry)). entries_on o (all_entries hs)) (sym (set-get_or left k empty)) ∙ on_parts o (get_or left k empty)

  here_parts : (o : ℕ) → entries_on o (history_at left k) ≡ entries_on o rest.items ++ entries_on o (e ∷ [])
  here_parts o = ap (entries_on o) taken ∙ filter-append (is_on o) rest.items (e ∷ [])

  kept_here : (o : ℕ) → e.object ≡ o → entries_on o (all_entries (set left k rest)) ++ entries_on o (e ∷ done) ≡ entries_on o (all_entries source)
  kept_here o on =
      let f : List Entry = entries_on o (all_entries (take k left)) in
      let r : List Entry = entries_on o rest.items in
      let b : List Entry = entries_on o (all_entries (drop (suc k) left)) in
      let t : List Entry = entries_on o done in
      let none : b ≡ [] = subst (λ (i : ℕ). entries_on i (all_entries (drop (suc k) left)) ≡ []) on none_behind in
      let here : entries_on o (history_at left k) ≡ r ++ e ∷ [] =
      here_parts o ∙ ap (λ (x : List Entry). r ++ x) (filter-yes (is_on o) e [] (eq-eqb e.object o on)) in
      ap (λ (x : List Entry). x ++ entries_on o (e ∷ done)) (on_parts o rest)
      ∙ ap (λ (x : List Entry). (f ++ (r ++ b)) ++ x) (filter-yes (is_on o) e done (eq-eqb e.object o on))
      ∙ goes_over f r b t e none
      ∙ ap (λ (x : List Entry). (f ++ (x ++ b)) ++ t) (sym here)
      ∙ ap (λ (x : List Entry). x ++ t) (sym (was o))
      ∙ m.kept o

  kept_other : (o : ℕ) → (e.object ≡ o → ⊥) → entries_on o (all_entries (set left k rest)) ++ entries_on o (e ∷ done) ≡ entries_on o (all_entries source)
  kept_other o off =
      let f : List Entry = entries_on o (all_entries (take k left)) in
      let r : List Entry = entries_on o rest.items in
      let b : List Entry = entries_on o (all_entries (drop (suc k) left)) in
      let t : List Entry = entries_on o done in
      let here : entries_on o (history_at left k) ≡ r =
      here_parts o ∙ ap (λ (x : List Entry). r ++ x) (filter-no (is_on o) e [] (ne_eqb e.object o off)) ∙ append-nil r in
      ap (λ (x : List Entry). x ++ entries_on o (e ∷ done)) (on_parts o rest)
      ∙ ap (λ (x : List Entry). (f ++ (r ++ b)) ++ x) (filter-no (is_on o) e done (ne_eqb e.object o off))
      ∙ ap (λ (x : List Entry). (f ++ (x ++ b)) ++ t) (sym here)
      ∙ ap (λ (x : List Entry). x ++ t) (sym (was o))
      ∙ m.kept o

  more_kept : (o : ℕ) → entries_on o (all_entries (set left k rest)) ++ entries_on o (e ∷ done) ≡ entries_on o (all_entries source)
  more_kept o = elim (cases_eq e.object o) [ inl on ↦ kept_here o on | inr off ↦ kept_other o off ]

  end_stamp_here : end_stamp (history_at left k) ≡ e.stamp
  end_stamp_here = ap end_stamp taken ∙ end_stamp-push rest.items e

  end_object_here : end_object (history_at left k) ≡ e.object
  end_object_here = ap end_object taken ∙ end_object-push rest.items e

  all_after : All (λ d. IsTrue (comes_before e d)) done
  all_after =
      last_all rest.items e (λ x. All (λ d. IsTrue (comes_before x d)) done)
      (subst (All (λ x. All (λ d. IsTrue (comes_before x d)) done)) taken (m.before k))

  -- an entry that is left of another history comes before the one that is taken
  other_before : (j : ℕ) → (j ≡ k → ⊥) → All (λ x. IsTrue (comes_before x e)) (history_at left j)
  other_before j ne = λ i d l.
      let x : Entry = get_or (history_at left j) i d in
      let some : 0 < length (history_at left j) = omega arith in
      let inside : j < length left = some_inside left j some in
      let within : WithinEnd (history_at left j) x = within_end (history_at left j) (m.own.each j empty inside) i d l in
      let low = within.0 in
      let on = within.1 in
      let apart : e.object ≡ x.object → ⊥ = apart_last j ne inside i d l in
      let s = end_stamp_here in
      let o = end_object_here in
      elim (last.others j some) [
        | inl less ↦ before_stamp x e (omega arith)
        | inr tie ↦ elim (cases_lt x.stamp e.stamp) [
          | inl less ↦ before_stamp x e less
          | inr same ↦ before_to x e (inr (omega arith, omega arith))
        ]
      ]

  left_before : (j : ℕ) → All (λ x. IsTrue (comes_before x e)) (history_at (set left k rest) j)
  left_before j = elim (cases_eq j k) [
    | inl same ↦ subst (λ (i : ℕ). All (λ x. IsTrue (comes_before x e)) (history_at (set left k rest) i)) (sym same)
        (subst (All (λ x. IsTrue (comes_before x e))) (sym at_same)
        (All-weaker (λ x. Ascends x e) (λ x. IsTrue (comes_before x e)) (λ x up. before_stamp x e up.1) rest.items (front_below_last rest.items e whole)))
    | inr ne ↦ subst (All (λ x. IsTrue (comes_before x e))) (sym (at_other j ne)) (other_before j ne)
  ]

  more_before : (j : ℕ) → All (λ x. All (λ d. IsTrue (comes_before x d)) (e ∷ done)) (history_at (set left k rest) j)
  more_before j = λ i d l.
      let x : Entry = get_or (history_at (set left k rest) j) i d in
      All-cons (λ y. IsTrue (comes_before x y)) e done (left_before j i d l)
      (part (λ y. All (λ z. IsTrue (comes_before y z)) done) j (m.before j) i d l)

  pub one_less : length (all_entries (set left k rest)) + 1 ≡ length (all_entries left)
  one_less =
      let a = length-flat_map (λ (h : Listed Entry). h.items) (set left k rest) in
      let b = length-flat_map (λ (h : Listed Entry). h.items) left in
      let s = sum_by-set (λ (h : Listed Entry). length h.items) left k rest empty last.inside in
      let n = length_push rest.items e in
      let t = ap length taken in omega arith

  pub merging_more : Merging source (set left k rest) (e ∷ done)
  merging_more = record {
    own = more_own;
    kept = more_kept;
    order = (all_after, m.order);
    before = more_before;
    count = let n = one_less in let c = m.count in omega arith;
  }

-- once nothing is left, the trace has all
pub merging_all : (source left : List (Listed Entry)) (done : List Entry) → Merging source left done → ((k : ℕ) → history_at left k ≡ []) → (o : ℕ) → entries_on o done ≡ entries_on o (all_entries source)
merging_all source left done m none o = ap (λ (h : List Entry). entries_on o h ++ entries_on o done) (sym (all_none left none)) ∙ m.kept o
