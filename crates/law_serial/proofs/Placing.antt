-- What stands before a member of the listing, where the past of each read has just what causes it. Causes are any relation here.
use Rattle.std.proofs.Common.{◌≡◌, ℕ, ◌<◌, ◌++◌, ◌⊎◌, ◌↔◌, ◌&&◌, ◌||◌, Bool, true, false, not, List, [], ◌∷◌, AllPairs, Contains, append_assoc, append-nil, sym, ap, ◌∙◌, subst, subst₂, inl, inr, arith}
use Rattle.std.specs.List.{range_with_len}
use Rattle.std.proofs.lemmas.Bool.{both_ways, cases_Bool}
use Rattle.std.proofs.lemmas.List.Elements.{Contains-append_cases, Contains-append_left, Contains-append_right}
use Rattle.law_serial.specs.Order.{listing}
use Rattle.law_serial.proofs.Cuts.{IsPlace, cut_of_two, front_or_rest, in_first, in_front, in_none, in_rest, in_second, pair_first, pairs_rest, place_of_cut}
use Rattle.law_serial.proofs.Listing.{block, in_block, is_left_over, is_new_in, left_over, lists, new_in, with_past}

-- Causes are earlier, and the causes of a cause are causes. The past of a read has just those writes that are its causes, and a read writes
-- nothing.
pub record HasPasts (writes : ℕ → Bool) (past : ℕ → ℕ → Bool) (reads : List ℕ) (Cause : ℕ → ℕ → Type 0) : Type 0 where
  pub earlier : (x y : ℕ) → Cause x y → x < y
  pub through : (x y z : ℕ) → Cause x y → Cause y z → Cause x z
  pub decides : (r i : ℕ) → Contains reads r → writes i ≡ true → past r i ≡ true ↔ Cause i r
  pub apart : (r : ℕ) → Contains reads r → writes r ≡ false

-- Before the member x stand its causes, of all writes and the reads; and where x is a read, no other writes.
pub record Placed (writes : ℕ → Bool) (n : ℕ) (reads : List ℕ) (Cause : ℕ → ℕ → Type 0) (before : List ℕ) (x : ℕ) : Type 0 where
  pub causes : (y : ℕ) → ((y < n) × (writes y ≡ true)) ⊎ Contains reads y → Cause y x → Contains before y
  pub only : Contains reads x → (i : ℕ) → Contains before i → writes i ≡ true → Cause i x

-- What is known where these members are done and these reads are left: all listed writes are done, and each write that is done is a cause
-- of the reads that are left.
record Midway (writes : ℕ → Bool) (n : ℕ) (reads : List ℕ) (Cause : ℕ → ℕ → Type 0) (listed : ℕ → Bool) (done left : List ℕ) : Type 0 where
  stands : (i : ℕ) → i < n → writes i ≡ true → listed i ≡ true → Contains done i
  known : (i : ℕ) → Contains done i → writes i ≡ true → (r : ℕ) → Contains left r → Cause i r
  split : (r : ℕ) → Contains reads r → Contains done r ⊎ Contains left r
  reading : (r : ℕ) → Contains left r → Contains reads r

second_of : (a b : Bool) → (a || b) ≡ true → a ≡ false → b ≡ true
second_of true b either off = absurd (cc)
second_of false b either off = either

module _ (writes : ℕ → Bool) (past : ℕ → ℕ → Bool) (n : ℕ) (reads : List ℕ) (Cause : ℕ → ℕ → Type 0)
    (has : HasPasts writes past reads Cause) where
  abbrev IsPlaced : List ℕ → ℕ → Type 0
  IsPlaced before x = Placed writes n reads Cause before x

  abbrev IsMidway : (ℕ → Bool) → List ℕ → List ℕ → Type 0
  IsMidway listed done left = Midway writes n reads Cause listed done left

  -- a write that is done, or is listed next
  done_or_next : (listed : ℕ → Bool) (done left next : List ℕ) (y : ℕ) → IsMidway listed done left → y < n → writes y ≡ true
      → (listed y ≡ false → Contains next y) → Contains (done ++ next) y
  done_or_next listed done left next y m low write new =
      elim (cases_Bool (listed y)) [
        | inl old ↦ Contains-append_left done next y (m.stands y low write old)
        | inr fresh ↦ Contains-append_right done next y (new fresh)
      ]

  -- ---- the writes at the end

  at_end : (listed : ℕ → Bool) (done before : List ℕ) (x : ℕ) → IsMidway listed done []
      → IsPlace (λ i. writes i && not (listed i)) n before x → IsPlaced (done ++ before) x
  at_end listed done before x m at = record {
    causes = λ y either cause. elim either [
      | inl write ↦ done_or_next listed done [] before y m write.0 write.1
          (λ fresh. (at.earlier y).1 (has.earlier y x cause, is_left_over (writes y) (listed y) write.1 fresh))
      | inr read ↦ elim (m.split y read) [ inl old ↦ Contains-append_left done before y old | inr none ↦ in_none y none ]
    ];
    only = λ read. absurd (both_ways (writes x) (has.apart x read) (left_over (writes x) (listed x) at.passes).0);
  }

  -- ---- a read with its block

  -- what is done with a read, and what is listed behind it
  abbrev done_with : ℕ → (ℕ → Bool) → List ℕ → List ℕ
  done_with r listed done = done ++ (block writes past n r listed ++ r ∷ [])

  abbrev behind : ℕ → List ℕ → (ℕ → Bool) → List ℕ
  behind r rs listed = lists writes past n rs (with_past writes past n r listed)

  module _ (r : ℕ) (rs : List ℕ) (listed : ℕ → Bool) (done : List ℕ) (linked : AllPairs Cause (r ∷ rs))
      (m : IsMidway listed done (r ∷ rs)) where
    is_read : Contains reads r
    is_read = m.reading r (in_front r rs)

    -- no read that is left is before this one
    not_earlier : (y : ℕ) → Contains (r ∷ rs) y → y < r → ⊥
    not_earlier y left low =
        elim (front_or_rest r rs y left) [
          | inl same ↦ omega (arith, same, low)
          | inr further ↦ omega (arith, has.earlier r y (pair_first Cause r rs linked y further), low)
        ]

    -- so one that is earlier is done
    read_done : (next : List ℕ) (y : ℕ) → Contains reads y → y < r → Contains (done ++ next) y
    read_done next y read low =
        elim (m.split y read) [ inl old ↦ Contains-append_left done next y old | inr left ↦ absurd (not_earlier y left low) ]

    -- a write of the block
    in_its_block : (before : List ℕ) (x : ℕ) → IsPlace (λ i. writes i && (past r i && not (listed i))) n before x
        → IsPlaced (done ++ before) x
    in_its_block before x at =
        let parts = new_in (writes x) (past r x) (listed x) at.passes in
        let cause : Cause x r = (has.decides r x is_read parts.0).0 parts.1 in
        record {
          causes = λ y either earlier. elim either [
            | inl write ↦ done_or_next listed done (r ∷ rs) before y m write.0 write.1 (λ fresh.
                let in_past : past r y ≡ true = (has.decides r y is_read write.1).1 (has.through y x r earlier cause) in
                (at.earlier y).1 (has.earlier y x earlier, is_new_in (writes y) (past r y) (listed y) write.1 in_past fresh))
            | inr read ↦ read_done before y read (has.earlier y r (has.through y x r earlier cause))
          ];
          only = λ read. absurd (both_ways (writes x) (has.apart x read) parts.0);
        }

    block_causes : (i : ℕ) → Contains (block writes past n r listed) i → writes i ≡ true → Cause i r
    block_causes i in' write = (has.decides r i is_read write).0 ((in_block writes past n r listed i).0 in').2

    at_read : IsPlaced (done ++ block writes past n r listed) r
    at_read = record {
      causes = λ y either cause. elim either [
        | inl write ↦ done_or_next listed done (r ∷ rs) (block writes past n r listed) y m write.0 write.1
            (λ fresh. (in_block writes past n r listed y).1 (write.0, write.1, (has.decides r y is_read write.1).1 cause, fresh))
        | inr read ↦ read_done (block writes past n r listed) y read (has.earlier y r cause)
      ];
      only = λ read i in' write. elim (Contains-append_cases done (block writes past n r listed) i in') [
        | inl old ↦ m.known i old write r (in_front r rs)
        | inr new ↦ block_causes i new write
      ];
    }

    -- ---- the step past the read

    -- all that is listed with the read is done
    block_done : (i : ℕ) → i < n → writes i ≡ true → with_past writes past n r listed i ≡ true → Contains (done_with r listed done) i
    block_done i low write either =
        done_or_next listed done (r ∷ rs) (block writes past n r listed ++ r ∷ []) i m low write (λ fresh.
        let in_past : past r i ≡ true = second_of (listed i) (past r i) either fresh in
        Contains-append_left (block writes past n r listed) (r ∷ []) i ((in_block writes past n r listed i).1 (low, write, in_past, fresh)))

    -- the writes that are done cause the reads that are left
    causes_left : (i : ℕ) → Contains (done_with r listed done) i → writes i ≡ true → (x : ℕ) → Contains rs x → Cause i x
    causes_left i in' write x read =
        let next : Cause r x = pair_first Cause r rs linked x read in
        elim (Contains-append_cases done (block writes past n r listed ++ r ∷ []) i in') [
          | inl old ↦ m.known i old write x (in_rest r rs x read)
          | inr later ↦ elim (Contains-append_cases (block writes past n r listed) (r ∷ []) i later) [
            | inl new ↦ has.through i r x (block_causes i new write) next
            | inr last ↦ elim (front_or_rest r [] i last) [
              | inl same ↦ subst (λ (z : ℕ). Cause z x) same next
              | inr none ↦ in_none i none
            ]
          ]
        ]

    done_or_left : (x : ℕ) → Contains reads x → Contains (done_with r listed done) x ⊎ Contains rs x
    done_or_left x read =
        elim (m.split x read) [
          | inl old ↦ inl (Contains-append_left done (block writes past n r listed ++ r ∷ []) x old)
          | inr left ↦ elim (front_or_rest r rs x left) [
            | inl same ↦ inl (Contains-append_right done (block writes past n r listed ++ r ∷ []) x
                (Contains-append_right (block writes past n r listed) (r ∷ []) x (subst (Contains (r ∷ [])) same (in_front r []))))
            | inr further ↦ inr further
          ]
        ]

    onward : IsMidway (with_past writes past n r listed) (done_with r listed done) rs
    onward = record {
      stands = block_done;
      known = causes_left;
      split = done_or_left;
      reading = λ x read. m.reading x (in_rest r rs x read);
    }

    -- what is before the read itself, and before a member behind it
    at_or_behind : (front : List ℕ) (x : ℕ) (after : List ℕ) → r ∷ behind r rs listed ≡ front ++ x ∷ after
        → ((further after : List ℕ) → behind r rs listed ≡ further ++ x ∷ after → IsPlaced (done_with r listed done ++ further) x)
        → IsPlaced (done ++ (block writes past n r listed ++ front)) x
    at_or_behind [] x after is later =
        let same : r ≡ x = cc in
        let whole : block writes past n r listed ≡ block writes past n r listed ++ [] = sym (append-nil (block writes past n r listed)) in
        subst₂ (λ (ys : List ℕ) (z : ℕ). IsPlaced (done ++ ys) z) whole same at_read
    at_or_behind (y ∷ front) x after is later =
        let same : r ≡ y = cc in
        let rest : behind r rs listed ≡ front ++ x ∷ after = cc in
        let whole : done_with r listed done ++ front ≡ done ++ (block writes past n r listed ++ y ∷ front) =
        append_assoc done (block writes past n r listed ++ r ∷ []) front
        ∙ ap (λ (zs : List ℕ). done ++ zs) (append_assoc (block writes past n r listed) (r ∷ []) front)
        ∙ ap (λ (z : ℕ). done ++ (block writes past n r listed ++ z ∷ front)) same in
        subst (λ (ys : List ℕ). IsPlaced ys x) whole (later front after rest)

  -- ---- all members

  placed : (left : List ℕ) (listed : ℕ → Bool) (done : List ℕ) → AllPairs Cause left → IsMidway listed done left
      → (before : List ℕ) (x : ℕ) (after : List ℕ) → lists writes past n left listed ≡ before ++ x ∷ after → IsPlaced (done ++ before) x
  placed [] listed done linked m before x after is =
      at_end listed done before x m (place_of_cut (λ i. writes i && not (listed i)) n before x after is)
  placed (r ∷ rs) listed done linked m before x after is =
      elim (cut_of_two (block writes past n r listed) (r ∷ behind r rs listed) before x after is) [
        | in_first rest it ↦
            let at = place_of_cut (λ i. writes i && (past r i && not (listed i))) n before x rest it in
            in_its_block r rs listed done linked m before x at
        | in_second front its rest ↦
            let later = placed rs (with_past writes past n r listed) (done_with r listed done) (pairs_rest Cause r rs linked)
            (onward r rs listed done linked m) in
            subst (λ (ys : List ℕ). IsPlaced (done ++ ys) x) (sym its)
            (at_or_behind r rs listed done linked m front x after rest (λ further after it. later further x after it))
      ]

  -- Where each read is a cause of all later ones, each member is placed so.
  pub placed_in : AllPairs Cause reads → (before : List ℕ) (x : ℕ) (after : List ℕ)
      → listing writes past (range_with_len 0 n) reads (λ i. false) ≡ before ++ x ∷ after → Placed writes n reads Cause before x
  placed_in linked before x after is = placed reads (λ i. false) [] linked first before x after is
    where
      first : IsMidway (λ i. false) [] reads
      first = record {
        stands = λ i low write on. absurd (cc);
        known = λ i none write r read. in_none i none;
        split = λ r read. inr read;
        reading = λ r read. read;
      }
