-- Sets that have with each write all that is kept of it: how numbers are added to them.
use Rattle.std.proofs.Common.{◌≡◌, ℕ, ◌||◌, ◌++◌, Bool, true, false, List, [], ◌∷◌, refl, sym, ap, ◌∙◌, subst, inl, inr}
use Rattle.std.specs.Prelude.{slice_get}
use Rattle.std.proofs.lemmas.Bool.{or_cases, or_left, or_right}
use Rattle.std.proofs.lemmas.List.Folds.{list_any-append}
use Rattle.anti_ids.specs.declared.id.WriteId.{WriteId}
use Rattle.anti_kind.specs.declared.entry.Entry.{Entry}
use Rattle.anti_kind.proofs.Rows.{or_false}
use Rattle.law_causal.specs.Words.{shown}
use Rattle.law_causal.specs.inner.Taken.{told}
use Rattle.anti_order.specs.declared.writes.Writes.{Writes}
use Rattle.anti_order.specs.inner.NumberSets.{has, room}
use Rattle.anti_doctor.specs.declared.causes.Causes.{Causes}
use Rattle.anti_doctor.specs.inner.Gathered.{AreClosed, IsClosed, IsReady, Joins, draws, has_in, has_kept, has_passed, have_kept}
use Rattle.anti_doctor.specs.inner.Passages.{span_of, taken_of}

-- ---- tests

or_assoc : (a b c : Bool) → ((a || b) || c) ≡ (a || (b || c))
or_assoc true b c = refl
or_assoc false b c = refl

or_there : (a b : Bool) → (b ≡ true → a ≡ true) → a ≡ (a || b)
or_there true b all = refl
or_there false true all = all refl
or_there false false all = refl

-- ---- two sets

module _ (kept : List (List ℕ)) (its_room : ℕ) where
  -- what is in one of two sets
  pub union_closed : (a b c : List ℕ) → IsClosed kept its_room a → IsClosed kept its_room b → ((n : ℕ) → has c n ≡ (has a n || has b n))
      → room c ≡ its_room → IsClosed kept its_room c
  union_closed a b c left right both size = record {
    room = size;
    below = λ m in_c.
        elim (or_cases (has a m) (has b m) (sym (both m) ∙ in_c)) [ inl in_a ↦ left.below m in_a | inr in_b ↦ right.below m in_b ];
    closed = λ m n in_c here.
        both n
        ∙ elim (or_cases (has a m) (has b m) (sym (both m) ∙ in_c)) [
          | inl in_a ↦ or_left (has a n) (has b n) (left.closed m n in_a here)
          | inr in_b ↦ or_right (has a n) (has b n) (right.closed m n in_b here)
        ];
  }

module _ (causes : Causes) where
  -- ---- a set to which some was added

  pub ready_none : (its_room : ℕ) (set : List ℕ) → room set ≡ its_room → AreClosed its_room causes → ((n : ℕ) → has set n ≡ false)
      → IsReady causes set
  ready_none its_room set size sets none = record {
    sets = subst (λ (r : ℕ). AreClosed r causes) (sym size) sets;
    closed = record {
      room = refl;
      below = λ m is. let never : true ≡ false = sym is ∙ none m in absurd (cc);
      closed = λ m n is here. let never : true ≡ false = sym is ∙ none m in absurd (cc);
    };
  }

  pub still_ready : (adds : ℕ → Bool) (old new : List ℕ) → IsReady causes old → Joins causes.kept.items adds old new → IsReady causes new
  still_ready adds old new ready joins = record {
    sets = subst (λ (r : ℕ). AreClosed r causes) (sym joins.closed.room) ready.sets;
    closed = subst (λ (r : ℕ). IsClosed causes.kept.items r new) (sym joins.closed.room) joins.closed;
  }

  pub joins_none : (adds : ℕ → Bool) (old : List ℕ) → IsReady causes old → ((n : ℕ) → adds n ≡ false) → Joins causes.kept.items adds old old
  joins_none adds old ready none = record {
    joined = λ n. sym (ap (λ (t : Bool). has old n || t) (none n) ∙ or_false (has old n));
    closed = ready.closed;
  }

  pub joins_both : (first second both : ℕ → Bool) (old mid new : List ℕ) → Joins causes.kept.items first old mid
      → Joins causes.kept.items second mid new
      → ((n : ℕ) → both n ≡ (first n || second n)) → Joins causes.kept.items both old new
  joins_both first second both old mid new one other are = record {
    joined = λ n.
        other.joined n
        ∙ ap (λ (t : Bool). t || second n) (one.joined n)
        ∙ or_assoc (has old n) (first n) (second n)
        ∙ ap (λ (t : Bool). has old n || t) (sym (are n));
    closed = subst (λ (r : ℕ). IsClosed causes.kept.items r new) one.closed.room other.closed;
  }

  pub joins_same : (adds same : ℕ → Bool) (old new : List ℕ) → Joins causes.kept.items adds old new → ((n : ℕ) → same n ≡ adds n)
      → Joins causes.kept.items same old new
  joins_same adds same old new joins are = record {
    joined = λ n. joins.joined n ∙ ap (λ (t : Bool). has old n || t) (sym (are n));
    closed = joins.closed;
  }

  -- a set that is kept
  pub joins_set : (its old new : List ℕ) → IsReady causes old → IsClosed causes.kept.items (room old) its
      → ((n : ℕ) → has new n ≡ (has old n || has its n)) → room new ≡ room old → Joins causes.kept.items (has its) old new
  joins_set its old new ready closed joined size = record {
    joined = joined;
    closed = union_closed causes.kept.items (room old) old its new ready.closed closed joined size;
  }

  -- what is kept of a write that is in the set already
  pub joins_there : (number : ℕ) (old : List ℕ) → IsReady causes old → has old number ≡ true
      → Joins causes.kept.items (has_in (slice_get causes.kept.items number)) old old
  joins_there number old ready there = record {
    joined = λ n. or_there (has old n) (has_in (slice_get causes.kept.items number) n) (ready.closed.closed number n there);
    closed = ready.closed;
  }

  -- ---- ids

  pub kept_both : (writes : Writes) (xs ys : List WriteId) (n : ℕ)
      → have_kept causes writes (xs ++ ys) n ≡ (have_kept causes writes xs n || have_kept causes writes ys n)
  kept_both writes xs ys n = list_any-append (has_kept causes writes n) xs ys

  pub kept_alone : (writes : Writes) (w : WriteId) (n : ℕ) → have_kept causes writes (w ∷ []) n ≡ has_kept causes writes n w
  kept_alone writes w n = or_false (has_kept causes writes n w)

  -- ---- all that an entry draws

  pub all_drawn : (writes : Writes) (e : Entry) (none first second third all : List ℕ) → ((n : ℕ) → has none n ≡ false)
      → Joins causes.kept.items (has_passed causes (span_of e)) none first
      → Joins causes.kept.items (has_passed causes (taken_of e)) first second
      → Joins causes.kept.items (have_kept causes writes (shown e)) second third
      → Joins causes.kept.items (have_kept causes writes (told e)) third all
      → (n : ℕ) → has all n ≡ draws causes writes e n
  all_drawn writes e none first second third all empty spans letters rows tells n =
      let span = has_passed causes (span_of e) n in
      let letter = has_passed causes (taken_of e) n in
      let row = have_kept causes writes (shown e) n in
      let kept = have_kept causes writes (told e) n in
      tells.joined n
      ∙ ap (λ (t : Bool). t || kept) (rows.joined n)
      ∙ ap (λ (t : Bool). (t || row) || kept) (letters.joined n)
      ∙ ap (λ (t : Bool). ((t || letter) || row) || kept) (spans.joined n)
      ∙ ap (λ (t : Bool). (((t || span) || letter) || row) || kept) (empty n)
