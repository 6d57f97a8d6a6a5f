-- Legal histories: more entries, an induction along them, places, stamps and weights.
use Rattle.std.proofs.Common.{◌≡◌, ℕ, suc, ◌+◌, ◌-◌, ◌<◌, ◌≤◌, max, List, [], ◌∷◌, ◌++◌, length, get_or, take, All, sym, ap, subst, ◌∙◌, append_assoc, append-nil, ⊎_elim, zero, arith}
use Rattle.std.proofs.lemmas.List.{length_push, get_or_append_left, get_or_push, take_all, take_more}
use Rattle.std.proofs.lemmas.List.Sums.{sum_by_push, sum_by-cons}
use Rattle.std.proofs.lemmas.List.Quantifiers.{all_pairs_push}
use Rattle.std.proofs.lemmas.Bool.{leb-true, cases_lt}
use Rattle.anti_ids.specs.declared.limits.TheConstants.{MOST_UNITS}
use Rattle.anti_kind.specs.declared.entry.Entry.{Entry}
use Rattle.anti_kind.specs.declared.call.Reply.{Reply}
use Rattle.anti_kind.specs.declared.call.Reply.TheVariants.{Shown}
use Rattle.anti_kind.specs.Objects.{Start, weight, held, owed, need, last_stamp, Follows, LegalAfter, IsLegal}

-- a legal history with an entry that follows
legal_after_more : (start : Start) (h rest : List Entry) (e : Entry) → LegalAfter start h rest → Follows start (h ++ rest) e → LegalAfter start h (rest ++ e ∷ [])
legal_after_more start h [] e l f = (subst (λ (xs : List Entry). Follows start xs e) (append-nil h) f, tt)
legal_after_more start h (x ∷ rest) e l f =
    (l.0, legal_after_more start (h ++ x ∷ []) rest e l.1 (subst (λ (xs : List Entry). Follows start xs e) (sym (append_assoc h (x ∷ []) rest)) f))

pub legal_more : (start : Start) (h : List Entry) (e : Entry) → IsLegal start h → Follows start h e → IsLegal start (h ++ e ∷ [])
legal_more start h e l f = legal_after_more start [] h e l f

-- a part of a legal history from the front, and what follows it
pub legal_split : (start : Start) (h xs ys : List Entry) → LegalAfter start h (xs ++ ys) → LegalAfter start h xs × LegalAfter start (h ++ xs) ys
legal_split start h [] ys l = (tt, subst (λ (zs : List Entry). LegalAfter start zs ys) (sym (append-nil h)) l)
legal_split start h (x ∷ xs) ys l =
    let both : LegalAfter start (h ++ x ∷ []) xs × LegalAfter start ((h ++ x ∷ []) ++ xs) ys = legal_split start (h ++ x ∷ []) xs ys l.1 in
    ((l.0, both.0), subst (λ (zs : List Entry). LegalAfter start zs ys) (append_assoc h (x ∷ []) xs) both.1)

pub legal_front : (start : Start) (xs ys : List Entry) → IsLegal start (xs ++ ys) → IsLegal start xs
legal_front start xs ys l = (legal_split start [] xs ys l).0

-- each entry of a legal history follows those before it
pub follows_in : (start : Start) (xs : List Entry) (e : Entry) (ys : List Entry) → IsLegal start (xs ++ e ∷ ys) → Follows start xs e
follows_in start xs e ys l = (legal_split start [] xs (e ∷ ys) l).1.0

-- an induction along a legal history
module _ (start : Start) (P : List Entry → Type 0) (none : P []) (more : (h : List Entry) (e : Entry) → IsLegal start h → Follows start h e → P h → P (h ++ e ∷ [])) where
  along : (h rest : List Entry) → IsLegal start h → P h → LegalAfter start h rest → P (h ++ rest)
  along h [] l p t = subst P (sym (append-nil h)) p
  along h (e ∷ rest) l p t =
      subst P (append_assoc h (e ∷ []) rest) (along (h ++ e ∷ []) rest (legal_more start h e l t.0) (more h e l t.0 p) t.1)

  pub by_entries : (h : List Entry) → IsLegal start h → P h
  by_entries h l = along [] h tt none l

-- Places.

abbrev pub Placed : List Entry → Type 0
Placed h = (i : ℕ) (d : Entry) → i < length h → (get_or h i d).place ≡ i + 1

placed_more : (start : Start) (h : List Entry) (e : Entry) → IsLegal start h → Follows start h e → Placed h → Placed (h ++ e ∷ [])
placed_more start h e l f p i d short =
    ⊎_elim (λ (before : i < length h). ap (λ (x : Entry). x.place) (get_or_append_left h (e ∷ []) d i before) ∙ p i d before)
    (λ (last : length h ≤ i). let same : length h ≡ i = omega (arith, length_push h e) in
    ap (λ (x : Entry). x.place) (get_or_push h e d i same) ∙ f.place ∙ ap (λ (n : ℕ). n + 1) same)
    (cases_lt i (length h))

-- the entry at index i of a legal history has the place i + 1
pub placed : (start : Start) (h : List Entry) → IsLegal start h → Placed h
placed start h l = by_entries start Placed (λ i d short. absurd (omega arith)) (placed_more start) h l

-- Stamps.

pub below_last : (h : List Entry) → All (λ d. d.stamp ≤ last_stamp h) h
below_last [] i d short = absurd (omega arith)
below_last (e ∷ h) zero d short = omega arith
below_last (e ∷ h) (suc i) d short = let rest : (get_or h i d).stamp ≤ last_stamp h = below_last h i d (omega arith) in omega arith

-- a bound on the stamps is one on the greatest
pub last_below : (h : List Entry) (n : ℕ) → 0 < n → All (λ d. d.stamp < n) h → last_stamp h < n
last_below [] n some below = some
last_below (e ∷ h) n some below =
    let first : e.stamp < n = below 0 e (omega arith) in
    let rest : last_stamp h < n = last_below h n some (λ i d short. below (suc i) d (omega arith)) in
    omega arith

pub last_stamp-append : (h rest : List Entry) → last_stamp (h ++ rest) ≡ max (last_stamp h) (last_stamp rest)
last_stamp-append [] rest = omega arith
last_stamp-append (e ∷ h) rest = let more : last_stamp (h ++ rest) ≡ max (last_stamp h) (last_stamp rest) = last_stamp-append h rest in omega arith

-- what comes above all stamps has the last one
pub last_is : (h : List Entry) (e : Entry) → All (λ d. d.stamp < e.stamp) h → last_stamp (h ++ e ∷ []) ≡ e.stamp
last_is [] e above = omega arith
last_is (x ∷ h) e above =
    let first : x.stamp < e.stamp = above 0 x (omega arith) in
    let rest : last_stamp (h ++ e ∷ []) ≡ e.stamp = last_is h e (λ i d short. above (suc i) d (omega arith)) in
    omega arith

pub last_of_follows : (start : Start) (h : List Entry) (e : Entry) → Follows start h e → last_stamp (h ++ e ∷ []) ≡ e.stamp
last_of_follows start h e f = last_is h e f.stamp

-- the last entry of a legal history has the last stamp
pub last_of_legal : (start : Start) (h : List Entry) (e : Entry) → 0 < length h → e ≡ get_or h (length h - 1) e → IsLegal start h → last_stamp h ≡ e.stamp
last_of_legal start h e some is l =
    let n : ℕ = length h - 1 in
    let last : Entry = get_or h n e in
    let whole : h ≡ take n h ++ last ∷ [] = sym (take_all (n + 1) h (omega arith)) ∙ take_more h n e (omega arith) in
    ap last_stamp whole ∙ last_of_follows start (take n h) last (follows_in start (take n h) last [] (subst (IsLegal start) whole l))
    ∙ ap (λ (x : Entry). x.stamp) (sym is)

abbrev pub Ascending : List Entry → Type 0
Ascending h = (i j : ℕ) (d : Entry) → i < j → j < length h → (get_or h i d).stamp < (get_or h j d).stamp

ascending_more : (start : Start) (h : List Entry) (e : Entry) → IsLegal start h → Follows start h e → Ascending h → Ascending (h ++ e ∷ [])
ascending_more start h e l f a = all_pairs_push (λ (x y : Entry). x.stamp < y.stamp) h e a f.stamp

-- the stamps of a legal history ascend
pub ascending : (start : Start) (h : List Entry) → IsLegal start h → Ascending h
ascending start h l = by_entries start Ascending (λ i j d less short. absurd (omega arith)) (ascending_more start) h l

-- Units.

pub weighs : (r : Reply) → 1 ≤ weight r
weighs (Shown shown) = omega arith
weighs _ = omega arith

pub held_more : (h : List Entry) (e : Entry) → held (h ++ e ∷ []) ≡ held h + weight e.reply
held_more h e = sum_by_push (λ (x : Entry). weight x.reply) h e

-- each entry weighs a unit at least
pub length_held : (h : List Entry) → length h ≤ held h
length_held [] = omega arith
length_held (e ∷ h) =
    let first : held (e ∷ h) ≡ weight e.reply + held h = sum_by-cons (λ (x : Entry). weight x.reply) e h in
    let rest : length h ≤ held h = length_held h in
    let one : 1 ≤ weight e.reply = weighs e.reply in
    omega arith

-- a call that fits, in numbers
pub fits_number : (start : Start) (h : List Entry) (e : Entry) → Follows start h e → held h + owed start h + need start h e.call ≤ MOST_UNITS
fits_number start h e f = leb-true _ _ f.fits

-- so no legal history has many more entries than an object has units
pub few_entries : (start : Start) (h : List Entry) → IsLegal start h → length h ≤ MOST_UNITS + 1
few_entries start h l =
    by_entries start (λ k. length k ≤ MOST_UNITS + 1) (omega arith)
    (λ k e legal f was. omega (arith, fits_number start k e f, length_held k, length_push k e)) h l
