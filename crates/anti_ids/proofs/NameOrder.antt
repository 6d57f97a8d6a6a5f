-- The order of names, found from their texts, eight bytes at once.
use Rattle.std.proofs.Common.{◌≡◌, ℕ, zero, suc, ◌+◌, ◌-◌, ◌*◌, ◌%◌, ◌<◌, ◌≤◌, ◌++◌, List, [], ◌∷◌, true, ◌&&◌, Ordering, Less, Equal, Greater, nat_lt, nat_le, length, take, drop, get_or, refl, sym, ap, ◌∙◌, subst, arith}
use Rattle.std.specs.Prelude.{replicate}
use Rattle.std.specs.Ordering.{MatchOrdering, nat_cmp, ordering_then, is_eq}
use Rattle.std.specs.Cmp.{ranks, nat_cmp_is}
use Rattle.std.specs.Cmp.Lexicographic.{slice_cmp}
use Rattle.std.specs.Int.{from_be_bytes, w64}
use Rattle.std.specs.List.{list_all}
use Rattle.std.specs.Str.{bytes_eq}
use Rattle.std.proofs.lemmas.Bool.{and_parts}
use Rattle.std.proofs.lemmas.Cmp.{by_ranked, nat_cmp_total, nat_list_cmp_total, tied_itself}
use Rattle.std.proofs.lemmas.List.{drop-drop, drop_all, length-drop, length-take-le}
use Rattle.std.proofs.lemmas.Map.Text.{is_eq-slice_cmp}
use Rattle.anti_ids.specs.Names.{is_name_byte, is_name}
use Rattle.anti_ids.specs.NameBytes.{HoldsName, padded}
use Rattle.anti_ids.proofs.NameLemmas.{eight_fit}

-- the number of a front and then of more bytes, the big end first
abbrev value : ℕ → List ℕ → ℕ
value front [] = front
value front (x ∷ xs) = value (front * 256 + x) xs

-- of a lower front it is lower, whatever the bytes behind
lower : (front other : ℕ) (xs ys : List ℕ) → length xs ≡ length ys → ((i : ℕ) → get_or xs i 0 < 256) → front < other → value front xs < value other ys
lower front other [] [] same fit less = less
lower front other [] (y ∷ ys) same fit less = absurd (omega arith)
lower front other (x ∷ xs) [] same fit less = absurd (omega arith)
lower front other (x ∷ xs) (y ∷ ys) same fit less =
    let first : x < 256 = fit 0 in
    lower (front * 256 + x) (other * 256 + y) xs ys (omega arith) (λ i. fit (suc i)) (omega (arith, first, less))

-- numbers of as many bytes are ordered as these
value_order : (front : ℕ) (xs ys : List ℕ) → length xs ≡ length ys → ((i : ℕ) → get_or xs i 0 < 256) → ((i : ℕ) → get_or ys i 0 < 256)
    → nat_cmp (value front xs) (value front ys) ≡ slice_cmp nat_cmp xs ys
value_order front [] [] same fit fits = tied_itself nat_cmp_total front
value_order front [] (y ∷ ys) same fit fits = absurd (omega arith)
value_order front (x ∷ xs) [] same fit fits = absurd (omega arith)
value_order front (x ∷ xs) (y ∷ ys) same fit fits =
    by_ranked (x < y) (x ≡ y) (y < x) (nat_cmp x y) (ranks x y) less (tied (value_order (front * 256 + x) xs ys (omega arith) (λ i. fit (suc i)) (λ i. fits (suc i)))) more
  where
    this : ℕ
    this = value (front * 256 + x) xs

    that : ℕ
    that = value (front * 256 + y) ys

    rest : Ordering → Ordering
    rest o = ordering_then o (slice_cmp nat_cmp xs ys)

    less : nat_cmp x y ≡ Less → x < y → nat_cmp this that ≡ rest (nat_cmp x y)
    less is below =
        sym (nat_cmp_is this that Less (lower (front * 256 + x) (front * 256 + y) xs ys (omega arith) (λ i. fit (suc i)) (omega (arith, below)))) ∙ sym (ap rest is)

    tied : nat_cmp this (value (front * 256 + x) ys) ≡ slice_cmp nat_cmp xs ys → nat_cmp x y ≡ Equal → x ≡ y → nat_cmp this that ≡ rest (nat_cmp x y)
    tied behind is alike = ap (λ (z : ℕ). nat_cmp this (value (front * 256 + z) ys)) (sym alike) ∙ behind ∙ sym (ap rest is)

    more : nat_cmp x y ≡ Greater → y < x → nat_cmp this that ≡ rest (nat_cmp x y)
    more is above =
        sym (nat_cmp_is this that Greater (lower (front * 256 + y) (front * 256 + x) ys xs (omega arith) (λ i. fits (suc i)) (omega (arith, above)))) ∙ sym (ap rest is)

eight_value : (bytes : List ℕ) (n : ℕ) → length bytes ≡ 8 → n ≡ from_be_bytes w64 bytes → n ≡ value 0 bytes
eight_value [] n size is = absurd (omega arith)
eight_value (a ∷ []) n size is = absurd (omega arith)
eight_value (a ∷ b ∷ []) n size is = absurd (omega arith)
eight_value (a ∷ b ∷ c ∷ []) n size is = absurd (omega arith)
eight_value (a ∷ b ∷ c ∷ d ∷ []) n size is = absurd (omega arith)
eight_value (a ∷ b ∷ c ∷ d ∷ e ∷ []) n size is = absurd (omega arith)
eight_value (a ∷ b ∷ c ∷ d ∷ e ∷ f ∷ []) n size is = absurd (omega arith)
eight_value (a ∷ b ∷ c ∷ d ∷ e ∷ f ∷ g ∷ []) n size is = absurd (omega arith)
eight_value (a ∷ b ∷ c ∷ d ∷ e ∷ f ∷ g ∷ h ∷ []) n size is = omega arith
eight_value (a ∷ b ∷ c ∷ d ∷ e ∷ f ∷ g ∷ h ∷ x ∷ more) n size is = absurd (omega arith)

then_assoc : (a b c : Ordering) → ordering_then a (ordering_then b c) ≡ ordering_then (ordering_then a b) c
then_assoc Less b c = refl
then_assoc Equal b c = refl
then_assoc Greater b c = refl

-- lists are ordered as their fronts, and where these are the same as their rests
fronts_first : (n : ℕ) (xs ys : List ℕ)
    → slice_cmp nat_cmp xs ys ≡ ordering_then (slice_cmp nat_cmp (take n xs) (take n ys)) (slice_cmp nat_cmp (drop n xs) (drop n ys))
fronts_first zero xs ys = refl
fronts_first (suc n) [] [] = refl
fronts_first (suc n) [] (y ∷ ys) = refl
fronts_first (suc n) (x ∷ xs) [] = refl
fronts_first (suc n) (x ∷ xs) (y ∷ ys) =
    ap (ordering_then (nat_cmp x y)) (fronts_first n xs ys)
    ∙ then_assoc (nat_cmp x y) (slice_cmp nat_cmp (take n xs) (take n ys)) (slice_cmp nat_cmp (drop n xs) (drop n ys))

-- What is left of two texts of 32 bytes from a place on, in eights, decides their order.
pub record LeftDecides (one other : List ℕ) (at : ℕ) : Type 0 where
  pub left : slice_cmp nat_cmp one other ≡ slice_cmp nat_cmp (drop at one) (drop at other)
  pub eights : at % 8 ≡ 0
  pub within : at ≤ 32

then_stays : (o rest : Ordering) → (o ≡ Equal → ⊥) → ordering_then o rest ≡ o
then_stays Less rest some = refl
then_stays Equal rest some = absurd (some refl)
then_stays Greater rest some = refl

module _ (one other : List ℕ) (at this that : ℕ) (size : length one ≡ 32) (sizes : length other ≡ 32) (fit : (i : ℕ) → get_or one i 0 < 256) (fits : (i : ℕ) → get_or other i 0 < 256)
    (is_this : this ≡ from_be_bytes w64 (take 8 (drop at one))) (is_that : that ≡ from_be_bytes w64 (take 8 (drop at other))) (more : at < 32) (decides : LeftDecides one other at) where
  abbrev front : List ℕ → List ℕ
  front text = take 8 (drop at text)

  eight : (text : List ℕ) → length text ≡ 32 → length (front text) ≡ 8
  eight text long = length-take-le 8 (drop at text) (omega (arith, length-drop at text, decides.eights, more))

  abbrev rest : Ordering
  rest = slice_cmp nat_cmp (drop (at + 8) one) (drop (at + 8) other)

  fronts : nat_cmp this that ≡ slice_cmp nat_cmp (front one) (front other)
  fronts =
      ap (λ (n : ℕ). nat_cmp n that) (eight_value (front one) this (eight one size) is_this)
      ∙ ap (nat_cmp (value 0 (front one))) (eight_value (front other) that (eight other sizes) is_that)
      ∙ value_order 0 (front one) (front other) (eight one size ∙ sym (eight other sizes)) (eight_fit one at fit) (eight_fit other at fits)

  next_eight : slice_cmp nat_cmp one other ≡ ordering_then (nat_cmp this that) rest
  next_eight =
      decides.left
      ∙ fronts_first 8 (drop at one) (drop at other)
      ∙ ap (λ (o : Ordering). ordering_then o (slice_cmp nat_cmp (drop 8 (drop at one)) (drop 8 (drop at other)))) (sym fronts)
      ∙ ap (λ (xs : List ℕ). ordering_then (nat_cmp this that) (slice_cmp nat_cmp xs (drop 8 (drop at other)))) (drop-drop 8 at one)
      ∙ ap (λ (xs : List ℕ). ordering_then (nat_cmp this that) (slice_cmp nat_cmp (drop (at + 8) one) xs)) (drop-drop 8 at other)

  -- where the next eight bytes differ they decide
  pub differing : (this ≡ that → ⊥) → nat_cmp this that ≡ slice_cmp nat_cmp one other
  differing differ = sym (next_eight ∙ then_stays (nat_cmp this that) rest (λ tied. differ (subst (λ (o : Ordering). MatchOrdering o (this < that) (this ≡ that) (that < this)) tied (ranks this that))))

  -- and where they are the same what is left behind them
  pub same_eight : this ≡ that → LeftDecides one other (at + 8)
  same_eight same = record {
    left = next_eight ∙ ap (λ (o : Ordering). ordering_then o rest) (ap (nat_cmp this) (sym same) ∙ tied_itself nat_cmp_total this);
    eights = omega (arith, decides.eights);
    within = omega (arith, decides.eights, more);
  }

-- where nothing is left the texts are the same
pub none_left : (one other : List ℕ) (at : ℕ) → length one ≡ 32 → length other ≡ 32 → 32 ≤ at → LeftDecides one other at → slice_cmp nat_cmp one other ≡ Equal
none_left one other at size sizes ended decides =
    decides.left
    ∙ ap (λ (xs : List ℕ). slice_cmp nat_cmp xs (drop at other)) (drop_all at one (omega (arith, size, ended)))
    ∙ ap (slice_cmp nat_cmp (let none : List ℕ = [] in none)) (drop_all at other (omega (arith, sizes, ended)))

no_zero : (b : ℕ) → is_name_byte b ≡ true → 0 < b
no_zero zero good = absurd (cc)
no_zero (suc b) good = omega arith

-- zeros behind bytes of names, up to one length, are of no matter
zeros_behind : (xs ys : List ℕ) (n m : ℕ) → list_all is_name_byte xs ≡ true → list_all is_name_byte ys ≡ true → length xs + n ≡ length ys + m
    → slice_cmp nat_cmp (xs ++ replicate n (let z : ℕ = 0 in z)) (ys ++ replicate m (let z : ℕ = 0 in z)) ≡ slice_cmp nat_cmp xs ys
zeros_behind [] [] n m good fine same =
    ap (λ (k : ℕ). slice_cmp nat_cmp (replicate n (let z : ℕ = 0 in z)) (replicate k (let z : ℕ = 0 in z))) (let alike : m ≡ n = omega (arith, same) in alike)
    ∙ tied_itself nat_list_cmp_total (replicate n (let z : ℕ = 0 in z))
zeros_behind [] (y ∷ ys) zero m good fine same = absurd (omega arith)
zeros_behind [] (y ∷ ys) (suc n) m good fine same =
    let first = and_parts (is_name_byte y) (list_all is_name_byte ys) fine in
    ap (λ (o : Ordering). ordering_then o (slice_cmp nat_cmp (replicate n (let z : ℕ = 0 in z)) (ys ++ replicate m (let z : ℕ = 0 in z)))) (sym (nat_cmp_is 0 y Less (no_zero y first.0)))
zeros_behind (x ∷ xs) [] n zero good fine same = absurd (omega arith)
zeros_behind (x ∷ xs) [] n (suc m) good fine same =
    let first = and_parts (is_name_byte x) (list_all is_name_byte xs) good in
    ap (λ (o : Ordering). ordering_then o (slice_cmp nat_cmp (xs ++ replicate n (let z : ℕ = 0 in z)) (replicate m (let z : ℕ = 0 in z)))) (sym (nat_cmp_is x 0 Greater (no_zero x first.0)))
zeros_behind (x ∷ xs) (y ∷ ys) n m good fine same =
    ap (ordering_then (nat_cmp x y)) (zeros_behind xs ys n m (and_parts (is_name_byte x) (list_all is_name_byte xs) good).1 (and_parts (is_name_byte y) (list_all is_name_byte ys) fine).1 (omega arith))

all_good : (text : List ℕ) (len : ℕ) → HoldsName text len → list_all is_name_byte (take len text) ≡ true
all_good text len held =
    let name = take len text in
    let more = and_parts (nat_lt 0 (length name)) (nat_le (length name) 32 && list_all is_name_byte name) held.named in
    (and_parts (nat_le (length name) 32) (list_all is_name_byte name) more.1).1

-- names are ordered as their texts
pub texts_order : (a b : List ℕ) (n m : ℕ) (name second : List ℕ) → HoldsName a n → HoldsName b m → take n a ≡ name → take m b ≡ second
    → slice_cmp nat_cmp a b ≡ slice_cmp nat_cmp name second
texts_order a b n m name second one other is_name is_second =
    ap (λ (text : List ℕ). slice_cmp nat_cmp text b) one.rest
    ∙ ap (slice_cmp nat_cmp (padded (take n a))) other.rest
    ∙ zeros_behind (take n a) (take m b) (32 - length (take n a)) (32 - length (take m b)) (all_good a n one) (all_good b m other)
    (omega (arith, one.front, one.within, other.front, other.within))
    ∙ ap (λ (x : List ℕ). slice_cmp nat_cmp x (take m b)) is_name
    ∙ ap (slice_cmp nat_cmp name) is_second

-- and are the same where these are
pub texts_same : (a b : List ℕ) (n m : ℕ) (name second : List ℕ) → HoldsName a n → HoldsName b m → take n a ≡ name → take m b ≡ second → bytes_eq a b ≡ bytes_eq name second
texts_same a b n m name second one other is_name is_second =
    sym (is_eq-slice_cmp a b) ∙ ap is_eq (texts_order a b n m name second one other is_name is_second) ∙ is_eq-slice_cmp name second
