-- What is kept of an entry and handed on by passages, as it is noted.
use Rattle.std.proofs.Common.{◌≡◌, ℕ, ◌+◌, ◌<◌, ◌⊎◌, ◌||◌, ◌&&◌, ◌++◌, Bool, true, false, cond, List, [], ◌∷◌, length, length-append, refl, sym, ap, ◌∙◌, subst, inl, inr, arith}
use Rattle.std.specs.Prelude.{◌==◌, Some, slice_get}
use Rattle.std.specs.BTreeMap as tree
use Rattle.std.specs.Global.{Vec}
use Rattle.std.proofs.Math.Bool.{or_comm}
use Rattle.std.proofs.lemmas.Bool.{cases_lt, cond-true, eqb-true, or_cases, or_right}
use Rattle.std.proofs.lemmas.Option.{same_Some, slice_get_within}
use Rattle.anti_kind.specs.declared.entry.Entry.{Entry}
use Rattle.anti_kind.proofs.Deliveries.{slice_get_left}
use Rattle.anti_kind.proofs.Rows.{or_false}
use Rattle.law_causal.specs.Words.{wrote}
use Rattle.law_serial.specs.Order.{is_some_id}
use Rattle.anti_order.specs.inner.NumberSets.{has, room}
use Rattle.anti_order.proofs.Bits.{has_past}
use Rattle.anti_doctor.specs.declared.causes.Causes.{Causes}
use Rattle.anti_doctor.specs.declared.passages.Passage.{Passage}
use Rattle.anti_doctor.specs.inner.Gathered.{AreClosed, IsClosed, IsReady, Keeps, Notes, Passes, has_in}
use Rattle.anti_doctor.specs.inner.Passages.{feeds, is_by, passage_cmp, posted_of, same_passage, span_of}
use Rattle.anti_doctor.proofs.PassageOrder.{same_passage_is}

-- ---- lists

pub item_last : {X : Type 0} (xs : List X) (x : X) → slice_get (xs ++ x ∷ []) (length xs) ≡ Some x
item_last [] x = refl
item_last (z ∷ xs) x = item_last xs x

-- ---- a set is handed on

module _ (causes : Causes) (m : tree.BTreeMap Passage (List ℕ)) (key : Passage) (set now : List ℕ) where
  abbrev passed_on : Causes
  passed_on = record { kept = causes.kept; passed = m }

  pub passes_put : IsReady causes set → IsClosed causes.kept.items (room set) now → tree.Updates passage_cmp causes.passed m key (Some now)
      → ((n : ℕ) → has now n ≡ (has_in (tree.get passage_cmp causes.passed key) n || has set n)) → Passes (Some key) set causes passed_on
  passes_put ready closed updates joined = record {
    kept = refl;
    passed = λ q n. by_test q n (same_passage key q) refl;
    ready = record {
      sets = record { kept = ready.sets.kept; passed = λ q its there. of_test q its there (same_passage key q) refl };
      closed = ready.closed;
    };
  }
    where
      by_test : (q : Passage) (n : ℕ) (t : Bool) → same_passage key q ≡ t
          → has_in (tree.get passage_cmp m q) n ≡ (has_in (tree.get passage_cmp causes.passed q) n || (t && has set n))
      by_test q n true on =
          ap (λ found. has_in found n) (updates.0 q ∙ cond-true _ _ _ on)
          ∙ joined n
          ∙ ap (λ (k : Passage). has_in (tree.get passage_cmp causes.passed k) n || has set n) (same_passage_is key q on)
      by_test q n false off =
          ap (λ found. has_in found n) (updates.2 q off) ∙ sym (or_false (has_in (tree.get passage_cmp causes.passed q) n))

      of_test : (q : Passage) (its : List ℕ) → tree.get passage_cmp m q ≡ Some its → (t : Bool) → same_passage key q ≡ t
          → IsClosed causes.kept.items (room set) its
      of_test q its there true on =
          let same : now ≡ its = same_Some now its (sym (updates.0 q ∙ cond-true _ _ _ on) ∙ there) in
          subst (IsClosed causes.kept.items (room set)) same closed
      of_test q its there false off = ready.sets.passed q its (sym (updates.2 q off) ∙ there)

-- ---- a set is kept

module _ (causes : Causes) (kept : Vec (List ℕ)) (set own : List ℕ) (more : kept.items ≡ causes.kept.items ++ own ∷ [])
    (ready : IsReady causes set) (adds : (n : ℕ) → n < room set → has own n ≡ ((n == length causes.kept.items) || has set n))
    (size : room own ≡ room set) where
  abbrev with_own : Causes
  with_own = record { kept = kept; passed = causes.passed }

  abbrev count : ℕ
  count = length causes.kept.items

  longer : length kept.items ≡ count + 1
  longer = ap length more ∙ length-append causes.kept.items (own ∷ [])

  front : (m : ℕ) → m < count → slice_get kept.items m ≡ slice_get causes.kept.items m
  front m low = ap (λ (sets : List (List ℕ)). slice_get sets m) more ∙ slice_get_left causes.kept.items (own ∷ []) m low

  last : slice_get kept.items count ≡ Some own
  last = ap (λ (sets : List (List ℕ)). slice_get sets count) more ∙ item_last causes.kept.items own

  -- what was as it should be still is
  still_closed : (its : List ℕ) → IsClosed causes.kept.items (room set) its → IsClosed kept.items (room own) its
  still_closed its closed = record {
    room = closed.room ∙ sym size;
    below = λ m in_it. let low = closed.below m in_it in omega (arith, low, longer);
    closed = λ m n in_it here.
        closed.closed m n in_it (ap (λ found. has_in found n) (sym (front m (closed.below m in_it))) ∙ here);
  }

  -- the new set has room for its numbers
  fits : (m : ℕ) → has own m ≡ true → m < room set
  fits m in_own =
      elim (cases_lt m (room set)) [
        | inl low ↦ low
        | inr past ↦ let none = has_past own m (omega (arith, past, size)) in absurd (cc)
      ]

  set_fits : (m : ℕ) → has set m ≡ true → m < room set
  set_fits m in_set =
      elim (cases_lt m (room set)) [ inl low ↦ low | inr past ↦ let none = has_past set m past in absurd (cc) ]

  own_or_set : (m : ℕ) → has own m ≡ true → (m ≡ count) ⊎ (has set m ≡ true)
  own_or_set m in_own =
      elim (or_cases (m == count) (has set m) (sym (adds m (fits m in_own)) ∙ in_own)) [
        | inl is ↦ inl (eqb-true m count is)
        | inr in_set ↦ inr in_set
      ]

  own_closed : IsClosed kept.items (room own) own
  own_closed = record {
    room = refl;
    below = λ m in_own.
        elim (own_or_set m in_own) [
          | inl is ↦ omega (arith, longer, is)
          | inr in_set ↦ let low = ready.closed.below m in_set in omega (arith, longer, low)
        ];
    closed = λ m n in_own here.
        elim (own_or_set m in_own) [
          | inl is ↦ ap (λ found. has_in found n) (sym last ∙ ap (slice_get kept.items) (sym is)) ∙ here
          | inr in_set ↦
              let its : has set n ≡ true =
              ready.closed.closed m n in_set (ap (λ found. has_in found n) (sym (front m (ready.closed.below m in_set))) ∙ here) in
              adds n (set_fits n its) ∙ or_right (n == count) (has set n) its
        ];
  }

  kept_closed : (m : ℕ) (its : List ℕ) → slice_get kept.items m ≡ Some its → IsClosed kept.items (room own) its
  kept_closed m its there =
      elim (cases_lt m count) [
        | inl low ↦ still_closed its (ready.sets.kept m its (sym (front m low) ∙ there))
        | inr high ↦
            let within = slice_get_within kept.items m its there in
            let is : m ≡ count = omega (arith, longer, within, high) in
            let same : own ≡ its = same_Some own its (sym last ∙ ap (slice_get kept.items) (sym is) ∙ there) in
            subst (IsClosed kept.items (room own)) same own_closed
      ]

  pub keeps_own : (e : Entry) → is_some_id (wrote e) ≡ true → Keeps e set own causes with_own
  keeps_own e write = record {
    adds = λ n low.
        adds n low
        ∙ or_comm (n == count) (has set n)
        ∙ ap (λ (t : Bool). has set n || (t && (n == count))) (sym write);
    kept = more ∙ ap (λ (t : Bool). causes.kept.items ++ cond t (own ∷ []) []) (sym write);
    passed = refl;
    room = size;
    ready = record {
      sets = record { kept = kept_closed; passed = λ q its there. still_closed its (ready.sets.passed q its there) };
      closed = own_closed;
    };
  }

-- ---- an entry is noted

both_pass : (x s p o : Bool) → ((x || (s && o)) || (p && o)) ≡ (x || ((s || p) && o))
both_pass true s p o = refl
both_pass false true p true = refl
both_pass false true true false = refl
both_pass false true false false = refl
both_pass false false p o = refl

pub notes : (e : Entry) (set own : List ℕ) (a b c d : Causes) → Keeps e set own a b → Passes (span_of e) own b c
    → Passes (posted_of e) own c d → Notes e set a d
notes e set own a b c d keeps spans posts = record {
  own = own;
  adds = keeps.adds;
  kept = posts.kept ∙ spans.kept ∙ keeps.kept;
  passed = λ q n.
      posts.passed q n
      ∙ ap (λ (t : Bool). t || (is_by q (posted_of e) && has own n)) (spans.passed q n)
      ∙ both_pass (has_in (tree.get passage_cmp b.passed q) n) (is_by q (span_of e)) (is_by q (posted_of e)) (has own n)
      ∙ ap (λ passed. has_in (tree.get passage_cmp passed q) n || (feeds q e && has own n)) keeps.passed;
  closed = subst (λ (r : ℕ). AreClosed r d) keeps.room posts.ready.sets;
}
