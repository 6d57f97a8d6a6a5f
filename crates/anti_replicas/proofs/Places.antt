-- What the keys' numbers and the versions beside them are after a change.
use Rattle.std.proofs.Common.{◌≡◌, ◌≢◌, ℕ, ◌+◌, ◌<◌, ◌≤◌, Bool, true, false, cond, ◌&&◌, ◌||◌, max, List, [], ◌∷◌, ◌++◌, length, get_or, set, replicate, Option, Some, None, refl, sym, ap, ◌∙◌, ◌==◌, eq-eqb, ne_eqb, ⊎_elim, arith}
use Rattle.std.proofs.lemmas.Bool.{cases_lt, cases_eq}
use Rattle.std.proofs.lemmas.List.{length_push, get_or_append_left, get_or_push, get_or-replicate, get_or_past, get_or-set_same, get_or-set_other, length-set}
use Rattle.std.proofs.lemmas.Map.Text.{is_eq-slice_cmp}
use Rattle.std.proofs.lemmas.Slice.Eq.{bytes_eq-Decides}
use Rattle.std.specs.BTreeMap.{BTreeMap, Updates}
use Rattle.std.specs.Cmp.Lexicographic.{slice_cmp}
use Rattle.std.specs.Map.{lookup}
use Rattle.std.specs.Ordering.{nat_cmp, is_eq}
use Rattle.std.specs.Prelude.{bytes_eq}
use Rattle.anti_replicas.specs.declared.newest.Newest.{Newest}
use Rattle.anti_replicas.specs.inner.Newest.{key_number, versions_at, at_number, version_by, newest_at, AreNumbered, MakesPlace, Brings}

pub and_true : (b : Bool) → (b && true) ≡ b
and_true true = refl
and_true false = refl

pub and_false : (b : Bool) → (b && false) ≡ false
and_false true = refl
and_false false = refl

pub or_true : (b : Bool) → (b || true) ≡ true
or_true true = refl
or_true false = refl

pub max_zero : (n : ℕ) → n ≡ max 0 n
max_zero n = omega arith

same_key : (key k : List ℕ) → bytes_eq key k ≡ true → key ≡ k
same_key key k same = (bytes_eq-Decides key k).0 same

some_same : (i j : ℕ) → Some i ≡ Some j → i ≡ j
some_same i j same = cc

-- no version at any place
abbrev blank : List ℕ
blank = replicate 9 0

none_stands : (g : ℕ) → get_or blank g 0 ≡ 0
none_stands g = ⊎_elim (λ (low : g < 9). get_or-replicate 9 g 0 0 low) (λ (high : 9 ≤ g). get_or_past blank g 0 high) (cases_lt g 9)

-- the keys that stand in the map tell their numbers
number_by : (m n : Newest) → n.numbers.entries ≡ m.numbers.entries → (k : List ℕ) → key_number n k ≡ key_number m k
number_by m n same k = ap (λ (es : List (List ℕ × ℕ)). lookup (λ x. is_eq (slice_cmp nat_cmp k x)) es) same

-- One key more at the end of the versions, whether it has its number yet or not.
module _ (m n : Newest) (numbered : AreNumbered m) (pushed : n.versions.items ≡ m.versions.items ++ blank ∷ []) where
  longer : length n.versions.items ≡ length m.versions.items + 1
  longer = ap (λ (vs : List (List ℕ)). length vs) pushed ∙ length_push m.versions.items blank

  version_stays : (g i : ℕ) → i < length m.versions.items → at_number n g i ≡ at_number m g i
  version_stays g i below =
      ap (λ (vs : List (List ℕ)). get_or (get_or vs i []) g 0) pushed ∙ ap (λ (v : List ℕ). get_or v g 0) (get_or_append_left m.versions.items (blank ∷ []) [] i below)

  by_number : (g : ℕ) (k : List ℕ) (o : Option ℕ) → key_number m k ≡ o → version_by n g o ≡ version_by m g o
  by_number g k None is = refl
  by_number g k (Some i) is = version_stays g i (numbered.below k i is)

  -- where it has none
  pub place_spare : n.numbers.entries ≡ m.numbers.entries → MakesPlace m n
  place_spare same = record {
    same = λ g k. ap (λ (o : Option ℕ). version_by n g o) (number_stays k) ∙ by_number g k (key_number m k) refl;
    numbers = λ k i is. number_stays k ∙ is;
    numbered = record {
      below = λ k i is. omega (arith, longer, numbered.below k i (sym (number_stays k) ∙ is));
      apart = λ k l i is that. numbered.apart k l i (sym (number_stays k) ∙ is) (sym (number_stays l) ∙ that);
    };
  } where
    number_stays : (k : List ℕ) → key_number n k ≡ key_number m k
    number_stays k = number_by m n same k

  module _ (key : List ℕ) (updates : Updates (slice_cmp nat_cmp) m.numbers n.numbers key (Some (length m.versions.items))) (none : key_number m key ≡ None) where
    now_of : (k : List ℕ) → key_number n k ≡ cond (bytes_eq key k) (Some (length m.versions.items)) (key_number m k)
    now_of k = updates.0 k ∙ ap (λ (b : Bool). cond b (Some (length m.versions.items)) (key_number m k)) (is_eq-slice_cmp key k)

    -- where it has it now
    pub place_made : MakesPlace m n
    place_made = record { same = same; numbers = numbers; numbered = record { below = below; apart = apart } } where
      same_by : (g : ℕ) (k : List ℕ) (b : Bool) → bytes_eq key k ≡ b → version_by n g (cond b (Some (length m.versions.items)) (key_number m k)) ≡ newest_at m g k
      same_by g k true on =
          ap (λ (vs : List (List ℕ)). get_or (get_or vs (length m.versions.items) []) g 0) pushed
          ∙ ap (λ (v : List ℕ). get_or v g 0) (get_or_push m.versions.items blank [] (length m.versions.items) refl)
          ∙ none_stands g
          ∙ sym (ap (λ (x : List ℕ). newest_at m g x) (sym (same_key key k on)) ∙ ap (λ (o : Option ℕ). version_by m g o) none)
      same_by g k false off = by_number g k (key_number m k) refl

      same : (g : ℕ) (k : List ℕ) → newest_at n g k ≡ newest_at m g k
      same g k = ap (λ (o : Option ℕ). version_by n g o) (now_of k) ∙ same_by g k (bytes_eq key k) refl

      numbers_by : (k : List ℕ) (i : ℕ) (b : Bool) → bytes_eq key k ≡ b → key_number m k ≡ Some i → cond b (Some (length m.versions.items)) (key_number m k) ≡ Some i
      numbers_by k i true on is = let no' : key_number m k ≡ None = ap (key_number m) (sym (same_key key k on)) ∙ none in absurd (cc)
      numbers_by k i false off is = is

      numbers : (k : List ℕ) (i : ℕ) → key_number m k ≡ Some i → key_number n k ≡ Some i
      numbers k i is = now_of k ∙ numbers_by k i (bytes_eq key k) refl is

      below_by : (k : List ℕ) (i : ℕ) (b : Bool) → cond b (Some (length m.versions.items)) (key_number m k) ≡ Some i → i < length n.versions.items
      below_by k i true is = omega (arith, longer, some_same (length m.versions.items) i is)
      below_by k i false is = omega (arith, longer, numbered.below k i is)

      below : (k : List ℕ) (i : ℕ) → key_number n k ≡ Some i → i < length n.versions.items
      below k i is = below_by k i (bytes_eq key k) (sym (now_of k) ∙ is)

      apart_by : (k l : List ℕ) (i : ℕ) (a b : Bool) → bytes_eq key k ≡ a → bytes_eq key l ≡ b → cond a (Some (length m.versions.items)) (key_number m k) ≡ Some i
          → cond b (Some (length m.versions.items)) (key_number m l) ≡ Some i → k ≡ l
      apart_by k l i true true on also is that = sym (same_key key k on) ∙ same_key key l also
      apart_by k l i true false on off is that = absurd (omega (arith, some_same (length m.versions.items) i is, numbered.below l i that))
      apart_by k l i false true off on is that = absurd (omega (arith, some_same (length m.versions.items) i that, numbered.below k i is))
      apart_by k l i false false off also is that = numbered.apart k l i is that

      apart : (k l : List ℕ) (i : ℕ) → key_number n k ≡ Some i → key_number n l ≡ Some i → k ≡ l
      apart k l i is that = apart_by k l i (bytes_eq key k) (bytes_eq key l) refl refl (sym (now_of k) ∙ is) (sym (now_of l) ∙ that)

-- where there is none
pub place_none : (m n : Newest) → AreNumbered m → n.versions.items ≡ m.versions.items → n.numbers.entries ≡ m.numbers.entries → MakesPlace m n
place_none m n numbered same_versions same = record {
  same = λ g k. ap (λ (o : Option ℕ). version_by n g o) (number_by m n same k) ∙ by_number g (key_number m k);
  numbers = λ k i is. number_by m n same k ∙ is;
  numbered = record {
    below = λ k i is. omega (arith, ap (λ (vs : List (List ℕ)). length vs) same_versions, numbered.below k i (sym (number_by m n same k) ∙ is));
    apart = λ k l i is that. numbered.apart k l i (sym (number_by m n same k) ∙ is) (sym (number_by m n same l) ∙ that);
  };
} where
  by_number : (g : ℕ) (o : Option ℕ) → version_by n g o ≡ version_by m g o
  by_number g None = refl
  by_number g (Some i) = ap (λ (vs : List (List ℕ)). get_or (get_or vs i []) g 0) same_versions

-- A version of the key with a number that is whole at a region now.
module _ (m n : Newest) (region number v : ℕ) (brings : Brings m n region number v) where
  brought_of : (k : List ℕ) → key_number n k ≡ key_number m k
  brought_of k = number_by m n (ap (λ (t : BTreeMap (List ℕ) ℕ). t.entries) brings.numbers) k

  pub brought_numbers : (k : List ℕ) (i : ℕ) → key_number m k ≡ Some i → key_number n k ≡ Some i
  brought_numbers k i is = brought_of k ∙ is

  pub brought_numbered : AreNumbered m → AreNumbered n
  brought_numbered numbered = record {
    below = λ k i is.
        omega (
          arith,
          ap (λ (vs : List (List ℕ)). length vs) brings.versions,
          length-set m.versions.items number (set (versions_at m number) region (max v (at_number m region number))),
          numbered.below k i (sym (brought_of k) ∙ is),
        );
    apart = λ k l i is that. numbered.apart k l i (sym (brought_of k) ∙ is) (sym (brought_of l) ∙ that);
  }

  module _ (numbered : AreNumbered m) (key : List ℕ) (its : key_number m key ≡ Some number) where
    below : number < length m.versions.items
    below = numbered.below key number its

    abbrev raised : List ℕ
    raised = set (versions_at m number) region (max v (at_number m region number))

    -- the versions of the key, at each region
    raised_at : (g : ℕ) → get_or raised g 0 ≡ max (cond (region == g) v 0) (at_number m g number)
    raised_at g = ⊎_elim here elsewhere (cases_eq g region) where
      here : g ≡ region → get_or raised g 0 ≡ max (cond (region == g) v 0) (at_number m g number)
      here same =
          let on : (region == g) ≡ true = eq-eqb region g (sym same) in
          rw (on, same) (get_or-set_same (versions_at m number) region (max v (at_number m region number)) 0 brings.room)

      elsewhere : g ≢ region → get_or raised g 0 ≡ max (cond (region == g) v 0) (at_number m g number)
      elsewhere other =
          let off : (region == g) ≡ false = ne_eqb region g (λ x. other (sym x)) in
          rw off (get_or-set_other (versions_at m number) region g (max v (at_number m region number)) 0 other ∙ max_zero (at_number m g number))

    its_version : (g : ℕ) → at_number n g number ≡ max (cond (region == g) v 0) (at_number m g number)
    its_version g =
        ap (λ (vs : List (List ℕ)). get_or (get_or vs number []) g 0) brings.versions
        ∙ ap (λ (vs : List ℕ). get_or vs g 0) (get_or-set_same m.versions.items number raised [] below) ∙ raised_at g

    other_version : (g i : ℕ) → i ≢ number → at_number n g i ≡ at_number m g i
    other_version g i other =
        ap (λ (vs : List (List ℕ)). get_or (get_or vs i []) g 0) brings.versions
        ∙ ap (λ (vs : List ℕ). get_or vs g 0) (get_or-set_other m.versions.items number i raised [] other)

    others_by : (g : ℕ) (k : List ℕ) → bytes_eq key k ≡ false → (o : Option ℕ) → key_number m k ≡ o → version_by n g o ≡ version_by m g o
    others_by g k off None is = refl
    others_by g k off (Some i) is =
        other_version g i (λ same.
        let that : key_number m k ≡ Some number = is ∙ ap Some same in
        let key_is : key ≡ k = numbered.apart key k number its that in
        let on : bytes_eq key k ≡ true = (bytes_eq-Decides key k).1 key_is in
        absurd (cc))

    now_by : (g : ℕ) (k : List ℕ) (b : Bool) → bytes_eq key k ≡ b → version_by n g (key_number m k) ≡ max (cond ((region == g) && b) v 0) (newest_at m g k)
    now_by g k true on =
        let it : key_number m k ≡ Some number = ap (key_number m) (sym (same_key key k on)) ∙ its in
        ap (λ (o : Option ℕ). version_by n g o) it ∙ its_version g
        ∙ ap (λ (b : Bool). max (cond b v 0) (at_number m g number)) (sym (and_true (region == g)))
        ∙ ap (λ (o : Option ℕ). max (cond ((region == g) && true) v 0) (version_by m g o)) (sym it)
    now_by g k false off =
        others_by g k off (key_number m k) refl ∙ max_zero (newest_at m g k)
        ∙ ap (λ (b : Bool). max (cond b v 0) (newest_at m g k)) (sym (and_false (region == g)))

    pub brought : (g : ℕ) (k : List ℕ) → newest_at n g k ≡ max (cond ((region == g) && bytes_eq key k) v 0) (newest_at m g k)
    brought g k = ap (λ (o : Option ℕ). version_by n g o) (brought_of k) ∙ now_by g k (bytes_eq key k) refl
