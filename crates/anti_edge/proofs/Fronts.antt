-- What a loop over a source has read, and what a loop over a sink has written.
use Rattle.std.proofs.Common.{ℕ, ◌≡◌, ◌+◌, ◌-◌, ◌<◌, ◌≤◌, List, [], ◌∷◌, ◌++◌, Option, None, Some, IfSome, length, take, drop, refl, sym, ◌∙◌, ap, subst, arith, append_assoc, length-append}
use Rattle.std.proofs.Math.Seq.{drop-append_seam, take-append_seam}
use Rattle.std.proofs.lemmas.List.{append-nil, take-append-drop}
use Rattle.anti_edge.specs.Outside.{IsFrontGiven, IsEnd, after_front, with_bytes, with_front, AddsFront, TakesAtMost}
use Rattle.anti_edge.specs.Streams.{TakesFront}

-- the bytes were read, where the source tells what was left and what is left now
abbrev pub HasRead : Option (List ℕ) → Option (List ℕ) → List ℕ → Type 0
HasRead None now bytes = now ≡ None
HasRead (Some all) now bytes = (rest : List ℕ) × (now ≡ Some rest) × (all ≡ bytes ++ rest)

pub HasRead-start : (before : Option (List ℕ)) → HasRead before before []
HasRead-start None = refl
HasRead-start (Some all) = (all, refl, refl)

pub HasRead-step : (before now after : Option (List ℕ)) (bytes block : List ℕ) (n : ℕ) → HasRead before now bytes →
    IfSome now (IsFrontGiven n block) → after ≡ after_front n now → HasRead before after (bytes ++ take n block)
HasRead-step None now after bytes block n read given moved = moved ∙ ap (λ (o : Option (List ℕ)). after_front n o) read
HasRead-step (Some all) now after bytes block n (rest, is, whole) given moved =
    let at_rest : IsFrontGiven n block rest = subst (λ (o : Option (List ℕ)). IfSome o (IsFrontGiven n block)) is given in
    let split : bytes ++ rest ≡ (bytes ++ take n block) ++ drop n rest =
    ap (λ (l : List ℕ). bytes ++ l) (sym (take-append-drop n rest)) ∙ sym (append_assoc bytes (take n rest) (drop n rest))
    ∙ ap (λ (l : List ℕ). (bytes ++ l) ++ drop n rest) (sym at_rest.1) in
    (drop n rest, moved ∙ ap (λ (o : Option (List ℕ)). after_front n o) is, whole ∙ split)

pub HasRead-end : (before now : Option (List ℕ)) (bytes : List ℕ) → HasRead before now bytes → IsEnd now → IfSome before (λ left. bytes ≡ left)
HasRead-end None now bytes read end = tt
HasRead-end (Some all) now bytes (rest, is, whole) end =
    let none : rest ≡ [] = subst (λ (o : Option (List ℕ)). IsEnd o) is end in
    sym (whole ∙ ap (λ (l : List ℕ). bytes ++ l) none ∙ append-nil bytes)

pub HasRead-front : (before now : Option (List ℕ)) (bytes : List ℕ) → HasRead before now bytes → TakesFront before now
HasRead-front None now bytes read = (0, read)
HasRead-front (Some all) now bytes (rest, is, whole) =
    (length bytes, is ∙ ap (λ (l : List ℕ). Some l) (sym (ap (λ (l : List ℕ). drop (length bytes) l) whole ∙ drop-append_seam bytes rest)))

-- and not more of it than so many bytes
pub HasRead-most : (before now : Option (List ℕ)) (bytes : List ℕ) (most : ℕ) → HasRead before now bytes → length bytes ≤ most → TakesAtMost most before now
HasRead-most None now bytes most read short = (0, omega arith, read)
HasRead-most (Some all) now bytes most (rest, is, whole) short =
    (length bytes, short, is ∙ ap (λ (l : List ℕ). Some l) (sym (ap (λ (l : List ℕ). drop (length bytes) l) whole ∙ drop-append_seam bytes rest)))

pub HasRead-more : (before now : Option (List ℕ)) (bytes block : List ℕ) (n limit : ℕ) → HasRead before now bytes →
    IfSome now (IsFrontGiven n block) → limit - length bytes < n → IfSome before (λ left. limit < length left)
HasRead-more None now bytes block n limit read given more = tt
HasRead-more (Some all) now bytes block n limit (rest, is, whole) given more =
    let at_rest : IsFrontGiven n block rest = subst (λ (o : Option (List ℕ)). IfSome o (IsFrontGiven n block)) is given in
    let long : length all ≡ length bytes + length rest = ap length whole ∙ length-append bytes rest in
    let enough : n ≤ length rest = at_rest.0 in
    omega arith

-- some bytes were written, and the rest of them is to be written
pub record HasWritten (before now : Option (List ℕ)) (bytes rest : List ℕ) : Type 0 where
  pub front : List ℕ
  pub whole : bytes ≡ front ++ rest
  pub told : now ≡ with_bytes front before

-- nothing more was written
pub with_bytes-nil : (before : Option (List ℕ)) → before ≡ with_bytes [] before
with_bytes-nil None = refl
with_bytes-nil (Some bytes) = ap (λ (l : List ℕ). Some l) (sym (append-nil bytes))

pub with_bytes-append : (before : Option (List ℕ)) (xs ys : List ℕ) → with_bytes ys (with_bytes xs before) ≡ with_bytes (xs ++ ys) before
with_bytes-append None xs ys = refl
with_bytes-append (Some bytes) xs ys = ap (λ (l : List ℕ). Some l) (append_assoc bytes xs ys)

pub HasWritten-start : (before : Option (List ℕ)) (bytes : List ℕ) → HasWritten before before bytes bytes
HasWritten-start before bytes = record { front = []; whole = refl; told = with_bytes-nil before }

pub HasWritten-step : (before now after : Option (List ℕ)) (bytes rest : List ℕ) (n : ℕ) → HasWritten before now bytes rest →
    after ≡ with_front n rest now → HasWritten before after bytes (drop n rest)
HasWritten-step before now after bytes rest n so_far taken = record {
  front = so_far.front ++ take n rest;
  whole = so_far.whole ∙ ap (λ (l : List ℕ). so_far.front ++ l) (sym (take-append-drop n rest)) ∙ sym (append_assoc so_far.front (take n rest) (drop n rest));
  told = taken ∙ ap (λ (o : Option (List ℕ)). with_front n rest o) so_far.told ∙ with_bytes-append before so_far.front (take n rest);
}

pub HasWritten-end : (before now : Option (List ℕ)) (bytes rest : List ℕ) → HasWritten before now bytes rest → length rest ≡ 0 →
    now ≡ with_bytes bytes before
HasWritten-end before now bytes [] so_far none =
    so_far.told ∙ ap (λ (l : List ℕ). with_bytes l before) (sym (so_far.whole ∙ append-nil so_far.front))
HasWritten-end before now bytes (byte ∷ rest) so_far none = absurd (omega arith)

pub HasWritten-front : (before now : Option (List ℕ)) (bytes rest : List ℕ) → HasWritten before now bytes rest → AddsFront bytes before now
HasWritten-front before now bytes rest so_far =
    let seam : take (length so_far.front) bytes ≡ so_far.front =
    ap (λ (l : List ℕ). take (length so_far.front) l) so_far.whole ∙ take-append_seam so_far.front rest in
    let long : length bytes ≡ length so_far.front + length rest = ap length so_far.whole ∙ length-append so_far.front rest in
    let within : length so_far.front ≤ length bytes = omega arith in
    (length so_far.front, within, so_far.told ∙ ap (λ (l : List ℕ). with_bytes l before) (sym seam))
