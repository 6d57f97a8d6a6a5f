-- The newest write to a key that a read misses: it is found from the last of the writes to the key down to the one that is shown.
use Rattle.std.proofs.Common.{◌≡◌, ℕ, zero, suc, ◌+◌, ◌<◌, ◌≤◌, ◌&&◌, ◌++◌, Bool, true, false, cond, nat_lt, List, [], ◌∷◌, take, refl, sym, ap, ◌∙◌, subst, arith}
use Rattle.std.specs.Prelude.{Option, None, Some, All, slice_get}
use Rattle.std.specs.Option.{option_or}
use Rattle.std.proofs.lemmas.Bool.{le-ltb, or_left}
use Rattle.std.proofs.lemmas.List.{take_more}
use Rattle.std.proofs.lemmas.List.Elements.{All-head, All-tail, All-weaker}
use Rattle.std.proofs.lemmas.Option.{get_or_from_slice_get, slice_get_within}
use Rattle.anti_ids.specs.Ids.{has_id, is_id}
use Rattle.anti_ids.specs.declared.id.WriteId.{WriteId}
use Rattle.anti_ids.proofs.IdLemmas.{is_id-itself}
use Rattle.anti_kind.specs.declared.entry.Entry.{Entry}
use Rattle.law_causal.specs.Words.{wrote}
use Rattle.law_serial.proofs.Pasts.{is_at_there}
use Rattle.anti_order.specs.declared.writes.Writes.{Writes}
use Rattle.anti_order.specs.inner.NumberSets.{has}
use Rattle.anti_order.specs.inner.Writes.{AreWritesOf, number_at, number_in}
use Rattle.anti_doctor.specs.Missed.{first_of}
use Rattle.anti_doctor.specs.inner.Missing.{Ascend, is_missed, newest_of, version_at}

-- ---- the number of a write

pub has_first : (w : WriteId) (ids : List WriteId) → first_of ids ≡ Some w → has_id w ids ≡ true
has_first w [] first = absurd (cc)
has_first w (v ∷ vs) first =
    let same : w ≡ v = cc in
    or_left (is_id w v) (has_id w vs) (ap (is_id w) (sym same) ∙ is_id-itself w)

pub number_known : (trace : List Entry) (writes : Writes) → AreWritesOf trace writes → (i : ℕ) (e : Entry) (w : WriteId)
    → slice_get trace i ≡ Some e
    → first_of (wrote e) ≡ Some w → number_in writes w ≡ Some (number_at trace i)
number_known trace writes are i e w at first = are.known w i (is_at_there (λ a. has_id w (wrote a)) trace i e at ∙ has_first w (wrote e) first)

-- ---- the last that passes a test

newest_push : (test : ℕ → Bool) (is : List ℕ) (i : ℕ) → newest_of test (is ++ i ∷ []) ≡ cond (test i) (Some i) (newest_of test is)
newest_push test [] i = by_test (test i)
  where
    by_test : (t : Bool) → option_or None (cond t (Some i) None) ≡ cond t (Some i) None
    by_test true = refl
    by_test false = refl
newest_push test (j ∷ js) i =
    ap (λ (found : Option ℕ). option_or found (cond (test j) (Some j) None)) (newest_push test js i) ∙ by_test (test i)
  where
    by_test : (t : Bool)
        → option_or (cond t (Some i) (newest_of test js)) (cond (test j) (Some j) None) ≡ cond t (Some i) (option_or (newest_of test js) (cond (test j) (Some j) None))
    by_test true = refl
    by_test false = refl

none_newest : (test : ℕ → Bool) (is : List ℕ) → All (λ i. test i ≡ false) is → newest_of test is ≡ None
none_newest test [] none = refl
none_newest test (i ∷ is) none =
    let rest = none_newest test is (All-tail (λ i. test i ≡ false) i is none) in
    ap (λ (found : Option ℕ). option_or found (cond (test i) (Some i) None)) rest
    ∙ ap (λ (t : Bool). option_or None (cond t (Some i) None)) (All-head (λ i. test i ≡ false) i is none)

-- one place of the list
module _ (test : ℕ → Bool) (is : List ℕ) (n i : ℕ) (at : slice_get is n ≡ Some i) where
  front : take (n + 1) is ≡ take n is ++ i ∷ []
  front = take_more is n i (slice_get_within is n i at) ∙ ap (λ (j : ℕ). take n is ++ j ∷ []) (get_or_from_slice_get is n i i at)

  newest_at : newest_of test (take (n + 1) is) ≡ cond (test i) (Some i) (newest_of test (take n is))
  newest_at = ap (newest_of test) front ∙ newest_push test (take n is) i

  pub ends_here : test i ≡ true → newest_of test (take (n + 1) is) ≡ Some i
  ends_here on = newest_at ∙ ap (λ (t : Bool). cond t (Some i) (newest_of test (take n is))) on

  pub goes_back : test i ≡ false → newest_of test (take (n + 1) is) ≡ newest_of test (take n is)
  goes_back off = newest_at ∙ ap (λ (t : Bool). cond t (Some i) (newest_of test (take n is))) off

-- ---- writes

shown_enough : (trace : List Entry) (set : List ℕ) (shown i : ℕ) → version_at trace i ≤ shown → is_missed trace set shown i ≡ false
shown_enough trace set shown i most = ap (λ (t : Bool). t && has set (number_at trace i)) (le-ltb shown (version_at trace i) most)

pub ends_below : (trace : List Entry) (set : List ℕ) (shown : ℕ) (is : List ℕ) (n i : ℕ) → slice_get is n ≡ Some i → Ascend trace is
    → version_at trace i ≤ shown → newest_of (is_missed trace set shown) (take (n + 1) is) ≡ None
ends_below trace set shown is n i at ascend most =
    let test : ℕ → Bool = is_missed trace set shown in
    goes_back test is n i at (shown_enough trace set shown i most)
    ∙ none_newest test (take n is)
    (All-weaker (λ j. version_at trace j < version_at trace i) (λ j. test j ≡ false) (λ j low. shown_enough trace set shown j (omega (arith, low, most)))
    (take n is) (ascend n i at))

pub is_missed_by : (trace : List Entry) (set : List ℕ) (shown i : ℕ) → nat_lt shown (version_at trace i) ≡ true
    → is_missed trace set shown i ≡ has set (number_at trace i)
is_missed_by trace set shown i above = ap (λ (t : Bool). t && has set (number_at trace i)) above

-- ---- what is found

-- nothing is found where nothing passes
pub none_from : (test : ℕ → Bool) (is : List ℕ) → newest_of test is ≡ None → (k j : ℕ) → slice_get is k ≡ Some j → test j ≡ true → ⊥
none_from test [] none k j at on = absurd (cc)
none_from test (i ∷ is) none k j at on = by_rest (newest_of test is) refl (test i) refl none k at (none_from test is)
  where
    by_rest : (o : Option ℕ) → newest_of test is ≡ o → (t : Bool) → test i ≡ t → option_or o (cond t (Some i) None) ≡ None → (k : ℕ)
        → slice_get (i ∷ is) k ≡ Some j → (newest_of test is ≡ None → (k j : ℕ) → slice_get is k ≡ Some j → test j ≡ true → ⊥) → ⊥
    by_rest (Some x) rest t here never k at later = absurd (cc)
    by_rest None rest true here never k at later = absurd (cc)
    by_rest None rest false here never zero at later = let same : i ≡ j = cc in let its = ap test same in absurd (cc)
    by_rest None rest false here never (suc k) at later = later rest k j at on

-- it passes, and none behind it does
pub record IsNewest (test : ℕ → Bool) (is : List ℕ) (i : ℕ) : Type 0 where
  pub index : ℕ
  pub at : slice_get is index ≡ Some i
  pub passes : test i ≡ true
  pub last : (k j : ℕ) → slice_get is k ≡ Some j → test j ≡ true → k ≤ index

newest_later : (test : ℕ → Bool) (j : ℕ) (js : List ℕ) (i : ℕ) → IsNewest test js i → IsNewest test (j ∷ js) i
newest_later test j js i it = record { index = suc it.index; at = it.at; passes = it.passes; last = later }
  where
    later : (k l : ℕ) → slice_get (j ∷ js) k ≡ Some l → test l ≡ true → k ≤ suc it.index
    later zero l at on = omega arith
    later (suc k) l at on = let most = it.last k l at on in omega (arith, most)

newest_first : (test : ℕ → Bool) (j : ℕ) (js : List ℕ) → newest_of test js ≡ None → test j ≡ true → IsNewest test (j ∷ js) j
newest_first test j js rest here = record { index = 0; at = refl; passes = here; last = only }
  where
    only : (k l : ℕ) → slice_get (j ∷ js) k ≡ Some l → test l ≡ true → k ≤ 0
    only zero l at on = omega arith
    only (suc k) l at on = absurd (none_from test js rest k l at on)

pub newest_is : (test : ℕ → Bool) (is : List ℕ) (i : ℕ) → newest_of test is ≡ Some i → IsNewest test is i
newest_is test [] i found = absurd (cc)
newest_is test (j ∷ js) i found = by_rest (newest_of test js) refl (test j) refl found (newest_is test js)
  where
    by_rest : (o : Option ℕ) → newest_of test js ≡ o → (t : Bool) → test j ≡ t → option_or o (cond t (Some j) None) ≡ Some i
        → ((x : ℕ) → newest_of test js ≡ Some x → IsNewest test js x) → IsNewest test (j ∷ js) i
    by_rest (Some x) rest t here some later = let same : x ≡ i = cc in newest_later test j js i (later i (rest ∙ ap Some same))
    by_rest None rest true here some later = let same : j ≡ i = cc in subst (IsNewest test (j ∷ js)) same (newest_first test j js rest here)
    by_rest None rest false here some later = absurd (cc)
