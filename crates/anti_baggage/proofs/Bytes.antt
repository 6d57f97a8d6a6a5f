-- Bytes that are the same, bytes with escapes, and where they are cut.
use Rattle.std.proofs.Common.{◌≡◌, ℕ, ◌+◌, ◌<◌, ◌≤◌, ◌++◌, List, [], ◌∷◌, Bool, true, false, ◌&&◌, length, take, drop, get_or, refl, sym, ap, ◌∙◌, nat_eq, arith}
use Rattle.std.specs.Str.{bytes_eq}
use Rattle.std.specs.Cmp.Lexicographic.{same_text}
use Rattle.std.proofs.lemmas.Bool.{eq-eqb, both_ways, false_from_ne_true}
use Rattle.std.proofs.lemmas.Grind.{flat_map-append}
use Rattle.std.proofs.lemmas.List.{length-append, take-append-drop, drop_more, take_at}
use Rattle.std.proofs.lemmas.Slice.Eq.{bytes_eq-Decides}
use Rattle.anti_baggage.specs.Escapes.{escaped, escaped_byte}

-- ---- bytes that are the same

pub same : (xs ys : List ℕ) → bytes_eq xs ys ≡ true → xs ≡ ys
same xs ys h = same_text xs ys (sym h)

pub same_itself : (xs : List ℕ) → bytes_eq xs xs ≡ true
same_itself xs = (bytes_eq-Decides xs xs).1 refl

one_first : (b c : Bool) → b ≡ true → (b && c) ≡ c
one_first true c e = refl
one_first false c e = absurd (cc)

same_front : (front xs ys : List ℕ) → bytes_eq (front ++ xs) (front ++ ys) ≡ bytes_eq xs ys
same_front [] xs ys = refl
same_front (b ∷ bs) xs ys = one_first (nat_eq b b) (bytes_eq (bs ++ xs) (bs ++ ys)) (eq-eqb b b refl) ∙ same_front bs xs ys

-- ---- bytes with escapes

-- the escaped form of a byte is taken off the front of a text
pub behind_byte : (b : ℕ) (bs front rest behind : List ℕ) → front ≡ escaped_byte b → bytes_eq (take (length front) rest) front ≡ true → behind ≡ drop (length front) rest
    → bytes_eq (escaped (b ∷ bs)) rest ≡ bytes_eq (escaped bs) behind
behind_byte b bs front rest behind e is cut =
    let whole : rest ≡ front ++ behind =
    sym (take-append-drop (length front) rest) ∙ ap (λ (x : List ℕ). x ++ drop (length front) rest) (same _ _ is) ∙ ap (λ (x : List ℕ). front ++ x) (sym cut) in
    ap (λ (x : List ℕ). bytes_eq (x ++ escaped bs) rest) (sym e) ∙ ap (λ (x : List ℕ). bytes_eq (front ++ escaped bs) x) whole ∙ same_front front (escaped bs) behind

-- or it does not stand there
pub other_byte : (b : ℕ) (bs front rest : List ℕ) → front ≡ escaped_byte b → bytes_eq (take (length front) rest) front ≡ false → bytes_eq (escaped (b ∷ bs)) rest ≡ false
other_byte b bs front rest e other =
    false_from_ne_true (bytes_eq (escaped (b ∷ bs)) rest)
    (λ is. let whole : front ++ escaped bs ≡ rest = ap (λ (x : List ℕ). x ++ escaped bs) e ∙ same _ _ is in
    let here : take (length front) rest ≡ front = ap (λ (x : List ℕ). take (length front) x) (sym whole) ∙ take_at front (escaped bs) (length front) refl in
    both_ways (bytes_eq (take (length front) rest) front) other ((bytes_eq-Decides (take (length front) rest) front).1 here))

-- the escaped form of the bytes so far and of the next are within that of all
pub escaped_within : (bytes : List ℕ) (i : ℕ) → i < length bytes → length (escaped (take i bytes)) + length (escaped_byte (get_or bytes i 0)) ≤ length (escaped bytes)
escaped_within bytes i lt =
    let rest = escaped (drop (i + 1) bytes) in
    let next = escaped_byte (get_or bytes i 0) in
    let whole : escaped bytes ≡ escaped (take i bytes) ++ (next ++ rest) =
    ap escaped (sym (take-append-drop i bytes)) ∙ flat_map-append escaped_byte (take i bytes) (drop i bytes) ∙ ap (λ (x : List ℕ). escaped (take i bytes) ++ escaped x) (drop_more bytes i 0 lt) in
    omega (arith, ap length whole, length-append (escaped (take i bytes)) (next ++ rest), length-append next rest)
