-- What is noted of the reads in turn is what they miss.
use Rattle.std.proofs.Common.{◌≡◌, ◌≢◌, ℕ, suc, ◌<◌, ◌||◌, ◌++◌, Bool, true, false, cond, List, [], ◌∷◌, length, get_or, map, refl, sym, ap, ◌∙◌, subst, append-nil, append_assoc, eqb-true, arith}
use Rattle.std.specs.Prelude.{◌==◌, All, AllPairs, Contains, Option, None, Some, is_some, nat_eq, slice_get}
use Rattle.std.specs.Cmp.Lexicographic.{slice_cmp}
use Rattle.std.specs.List.{list_any}
use Rattle.std.specs.Map.{lookup}
use Rattle.std.specs.Option.{option_map_or}
use Rattle.std.specs.Ordering.{nat_cmp}
use Rattle.std.specs.declared.cmp.Ordering.TheVariants.{Less}
use Rattle.std.proofs.lemmas.Bool.{and_parts, eq-eqb, false_from_ne_true}
use Rattle.std.proofs.lemmas.Cmp.{nat_list_cmp_total, tied_itself}
use Rattle.std.proofs.lemmas.List.{map_push}
use Rattle.std.proofs.lemmas.List.Elements.{All-append, All-cons, All-nil, Contains-get_or}
use Rattle.std.proofs.lemmas.List.Folds.{list_any-append}
use Rattle.std.proofs.lemmas.Option.{slice_get_within}
use Rattle.anti_ids.specs.declared.id.WriteId.{WriteId}
use Rattle.anti_kind.specs.declared.entry.Entry.{Entry}
use Rattle.law_causal.specs.Reads.{is_at}
use Rattle.anti_doctor.specs.Missed.{AreMissed, AreMissedAt, Pair, is_newer, misses, new_pairs, write_at}
use Rattle.anti_doctor.specs.inner.Findings.{IsFoundUpTo, is_known, pair_of, with_finding, with_findings}
use Rattle.anti_doctor.proofs.KeyWrites.{write_of}

-- ---- the writes that a read misses most are different

-- what is missed is a write
pub missed_is_write : (trace : List Entry) (past : ℕ → ℕ → Bool) (r i : ℕ) → misses trace past r i ≡ true
    → (w : WriteId) × (write_at trace i ≡ Some w)
missed_is_write trace past r i missed =
    by_write (write_at trace i) refl (slice_get trace r) (and_parts (past r i) (is_at (λ e. option_map_or (is_newer e) (write_at trace i) false) trace r) missed).1
  where
    by_write : (found : Option WriteId) → write_at trace i ≡ found → (o : Option Entry)
        → option_map_or (λ e. option_map_or (is_newer e) found false) o false ≡ true → (w : WriteId) × (write_at trace i ≡ Some w)
    by_write (Some w) at o is = (w, at)
    by_write None at None is = absurd (cc)
    by_write None at (Some e) is = absurd (cc)

different : (trace : List Entry) (past : ℕ → ℕ → Bool) (r : ℕ) (is : List ℕ) → AreMissedAt trace past r is → AllPairs (λ x y. x ≢ y) is
different trace past r is are i j d less low same =
    let x : ℕ = get_or is i d in
    let y : ℕ = get_or is j d in
    let one = missed_is_write trace past r x ((are.just x).0 (Contains-get_or is i d (omega (arith, less, low)))).missed in
    let less_than_itself : slice_cmp nat_cmp one.0.key one.0.key ≡ Less = are.ascending i j d less low one.0 one.0 one.1 (ap (write_at trace) (sym same) ∙ one.1) in
    let tie = tied_itself nat_list_cmp_total one.0.key in
    cc

-- ---- what is known

known_push : (j i r : ℕ) (es : List (ℕ × ℕ)) → is_known j (es ++ (i, r) ∷ []) ≡ (is_known j es || (j == i))
known_push j i r [] = by_test (j == i)
  where
    by_test : (t : Bool) → is_some (cond t (Some r) None) ≡ t
    by_test true = refl
    by_test false = refl
known_push j i r (e ∷ es) = by_test (j == e.0) (known_push j i r es)
  where
    by_test : (t : Bool) → is_known j (es ++ (i, r) ∷ []) ≡ (is_known j es || (j == i))
        → is_some (cond t (Some e.1) (lookup (nat_eq j) (es ++ (i, r) ∷ []))) ≡ (is_some (cond t (Some e.1) (lookup (nat_eq j) es)) || (j == i))
    by_test true rest = refl
    by_test false rest = rest

known_more : (j i r : ℕ) (es : List (ℕ × ℕ)) → is_known j (with_finding r i es) ≡ ((i == j) || is_known j es)
known_more j i r es = by_test (is_known i es) refl (i == j) refl
  where
    flips : (t : Bool) → (i == j) ≡ t → (j == i) ≡ t
    flips true on = eq-eqb j i (sym (eqb-true i j on))
    flips false off = false_from_ne_true (j == i) (λ on. let back : (i == j) ≡ true = eq-eqb i j (sym (eqb-true j i on)) in cc)

    or_last : (b : Bool) → (b || true) ≡ true
    or_last true = refl
    or_last false = refl

    or_none : (b : Bool) → (b || false) ≡ b
    or_none true = refl
    or_none false = refl

    by_test : (t : Bool) → is_known i es ≡ t → (s : Bool) → (i == j) ≡ s → is_known j (cond t es (es ++ (i, r) ∷ [])) ≡ (s || is_known j es)
    by_test true known true on = ap (λ (k : ℕ). is_known k es) (sym (eqb-true i j on)) ∙ known
    by_test true known false off = refl
    by_test false known true on = known_push j i r es ∙ ap (λ (b : Bool). is_known j es || b) (flips true on) ∙ or_last (is_known j es)
    by_test false known false off = known_push j i r es ∙ ap (λ (b : Bool). is_known j es || b) (flips false off) ∙ or_none (is_known j es)

known_all : (j r : ℕ) (is : List ℕ) (es : List (ℕ × ℕ)) → is_known j (with_findings r is es) ≡ (list_any (λ i. i == j) is || is_known j es)
known_all j r [] es = refl
known_all j r (i ∷ is) es =
    known_all j r is (with_finding r i es)
    ∙ ap (λ (b : Bool). list_any (λ i. i == j) is || b) (known_more j i r es)
    ∙ swap (list_any (λ i. i == j) is) (i == j) (is_known j es)
  where
    swap : (a b c : Bool) → (a || (b || c)) ≡ ((b || a) || c)
    swap true true c = refl
    swap true false c = refl
    swap false true c = refl
    swap false false c = refl

-- ---- the pairs of a read

pairs_found : (r : ℕ) (is : List ℕ) → AllPairs (λ x y. x ≢ y) is → (seen : List ℕ) (es : List (ℕ × ℕ))
    → ((i : ℕ) → Contains is i → is_known i es ≡ list_any (λ j. j == i) seen) → map pair_of (with_findings r is es) ≡ map pair_of es ++ new_pairs r is seen
pairs_found r [] apart seen es known = sym (append-nil (map pair_of es))
pairs_found r (i ∷ is) apart seen es known =
    by_test (λ rest fs. pairs_found r is rest seen fs) (is_known i es) refl (list_any (λ j. j == i) seen) (sym (known i (0, omega arith, refl)))
  where
    rest_apart : AllPairs (λ x y. x ≢ y) is
    rest_apart k l d less low = apart (suc k) (suc l) d (omega arith) (omega arith)

    in_rest : (j : ℕ) → Contains is j → Contains (i ∷ is) j
    in_rest j (k, low, at) = (suc k, omega arith, at)

    others : (j : ℕ) → Contains is j → i ≢ j
    others j (k, low, at) same = apart 0 (suc k) j (omega arith) (omega arith) (same ∙ sym at)

    still : (j : ℕ) → Contains is j → is_known j (with_finding r i es) ≡ list_any (λ k. k == j) seen
    still j among =
        known_more j i r es
        ∙ ap (λ (b : Bool). b || is_known j es) (false_from_ne_true (i == j) (λ on. others j among (eqb-true i j on)))
        ∙ known j (in_rest j among)

    by_test : (AllPairs (λ x y. x ≢ y) is → (fs : List (ℕ × ℕ)) → ((j : ℕ) → Contains is j → is_known j fs ≡ list_any (λ k. k == j) seen)
        → map pair_of (with_findings r is fs) ≡ map pair_of fs ++ new_pairs r is seen)
        → (t : Bool) → is_known i es ≡ t → (s : Bool) → s ≡ is_known i es
        → map pair_of (with_findings r is (cond t es (es ++ (i, r) ∷ []))) ≡ map pair_of es ++ cond s (new_pairs r is seen) (record { read = r; write = i } ∷ new_pairs r is seen)
    by_test later true on true is' = later rest_apart es (λ j among. known j (in_rest j among))
    by_test later false off false is' =
        let made : with_finding r i es ≡ es ++ (i, r) ∷ [] = ap (λ (b : Bool). cond b es (es ++ (i, r) ∷ [])) off in
        later rest_apart (es ++ (i, r) ∷ []) (λ j among. ap (is_known j) (sym made) ∙ still j among)
        ∙ ap (λ (ps : List Pair). ps ++ new_pairs r is seen) (map_push pair_of es (i, r))
        ∙ append_assoc (map pair_of es) (record { read = r; write = i } ∷ []) (new_pairs r is seen)
    by_test later true on false is' = absurd (cc)
    by_test later false off true is' = absurd (cc)

-- ---- one read more

pub none_found : (trace : List Entry) (past : ℕ → ℕ → Bool) (rs : List ℕ) → IsFoundUpTo trace past rs rs []
none_found trace past rs = record { seen = []; known = λ i. refl; goes_on = λ later are. are }

pub found_more : (trace : List Entry) (past : ℕ → ℕ → Bool) (all : List ℕ) (r : ℕ) (rs : List ℕ) (es : List (ℕ × ℕ)) (writes : List ℕ)
    → IsFoundUpTo trace past all (r ∷ rs) es → AreMissedAt trace past r writes → IsFoundUpTo trace past all rs (with_findings r writes es)
found_more trace past all r rs es writes f are = record {
  seen = writes ++ f.seen;
  known = λ i.
      known_all i r writes es
      ∙ ap (λ (b : Bool). list_any (λ j. j == i) writes || b) (f.known i)
      ∙ sym (list_any-append (λ j. j == i) writes f.seen);
  goes_on = λ later missed.
      let pairs = pairs_found r writes (different trace past r writes are) f.seen es (λ i among. f.known i) in
      let whole : map pair_of es ++ (new_pairs r writes f.seen ++ later) ≡ map pair_of (with_findings r writes es) ++ later =
      sym (append_assoc (map pair_of es) (new_pairs r writes f.seen) later) ∙ ap (λ (ps : List Pair). ps ++ later) (sym pairs) in
      subst (AreMissed trace past all []) whole (f.goes_on (new_pairs r writes f.seen ++ later) (writes, later, are, refl, missed));
}

pub all_found : (trace : List Entry) (past : ℕ → ℕ → Bool) (all : List ℕ) (es : List (ℕ × ℕ)) → IsFoundUpTo trace past all [] es
    → AreMissed trace past all [] (map pair_of es)
all_found trace past all es f = subst (AreMissed trace past all []) (append-nil (map pair_of es)) (f.goes_on [] refl)

-- ---- pairs are of entries of the trace

abbrev IsInside : List Entry → Pair → Type 0
IsInside trace p = (p.write < length trace) × (p.read < length trace)

new_inside : (trace : List Entry) (r : ℕ) (is seen : List ℕ) → r < length trace → ((i : ℕ) → Contains is i → i < length trace)
    → All (IsInside trace) (new_pairs r is seen)
new_inside trace r [] seen low within = All-nil (IsInside trace)
new_inside trace r (i ∷ is) seen low within = by_test (list_any (λ j. j == i) seen) (new_inside trace r is seen low (λ j among. within j (suc among.0, omega (arith, among.1), among.2)))
  where
    by_test : (t : Bool) → All (IsInside trace) (new_pairs r is seen)
        → All (IsInside trace) (cond t (new_pairs r is seen) (record { read = r; write = i } ∷ new_pairs r is seen))
    by_test true rest = rest
    by_test false rest = All-cons (IsInside trace) (record { read = r; write = i }) (new_pairs r is seen) (within i (0, omega arith, refl), low) rest

pub missed_inside : (trace : List Entry) (past : ℕ → ℕ → Bool) (rs seen : List ℕ) (missed : List Pair)
    → ((r : ℕ) → Contains rs r → r < length trace)
    → AreMissed trace past rs seen missed → All (IsInside trace) missed
missed_inside trace past [] seen missed low are = subst (All (IsInside trace)) (sym are) (All-nil (IsInside trace))
missed_inside trace past (r ∷ rs) seen missed low (writes, rest, at, is, later) =
    let within : (i : ℕ) → Contains writes i → i < length trace =
    λ i among.
    let w = missed_is_write trace past r i ((at.just i).0 among).missed in
    let it = write_of trace i w.0 w.1 in
    slice_get_within trace i it.entry it.there in
    subst (All (IsInside trace)) (sym is)
    (All-append (IsInside trace) (new_pairs r writes seen) rest (new_inside trace r writes seen (low r (0, omega arith, refl)) within)
    (missed_inside trace past rs (writes ++ seen) rest (λ x among. low x (suc among.0, omega (arith, among.1), among.2)) later))
