-- The order of all writes and some reads, as it is made read by read.
use Rattle.std.proofs.Common.{◌≡◌, ℕ, ◌++◌, ◌&&◌, ◌||◌, Bool, true, false, not, List, [], ◌∷◌, length, map, refl, sym, ap, ap₂, ◌∙◌}
use Rattle.std.specs.Prelude.{Option, Some, nat_lt}
use Rattle.std.specs.List.{filter}
use Rattle.std.proofs.lemmas.Bool.{lt-ltb}
use Rattle.std.proofs.lemmas.List.{append_assoc, map-append}
use Rattle.std.proofs.lemmas.List.Elements.{filter_agree}
use Rattle.anti_kind.specs.declared.entry.Entry.{Entry}
use Rattle.anti_trace.specs.declared.mark.Mark.{Mark}
use Rattle.anti_trace.proofs.Filters.{filter-filter}
use Rattle.law_causal.specs.Reads.{places}
use Rattle.law_serial.specs.Order.{listing, order_by, writes_at}
use Rattle.anti_order.specs.Answers.{AreMarksOf, mark_at}
use Rattle.anti_order.specs.inner.Arranging.{is_listed, still_to_list}
use Rattle.anti_order.specs.inner.NumberSets.{has}
use Rattle.anti_order.specs.inner.Pieces.{kept_at}
use Rattle.anti_order.specs.inner.Writes.{number_at, write_places}
use Rattle.anti_order.proofs.Kept.{kept_at-map, kept_filter}
use Rattle.anti_order.proofs.Numbers.{all_numbered, number_within}

-- two tests that agree where a first one passes
and_agrees : (w a b : Bool) → (w ≡ true → a ≡ b) → (w && a) ≡ (w && b)
and_agrees true a b same = same refl
and_agrees false a b same = refl

not_not : (t : Bool) → not (not t) ≡ t
not_not true = refl
not_not false = refl

-- Of those that are left, those of a past are no more.
not_left : (l p : Bool) → not (l && not p) ≡ (not l || p)
not_left true true = refl
not_left true false = refl
not_left false p = refl

-- whether a write is not listed, and whether it is of a past too
abbrev unlisted : (ℕ → Bool) → (ℕ → Bool) → ℕ → Bool
unlisted writes listed i = writes i && not (listed i)

abbrev fresh : (ℕ → Bool) → (ℕ → Bool) → (ℕ → Bool) → ℕ → Bool
fresh writes past listed i = writes i && (past i && not (listed i))

-- Whether a place is listed matters only at writes.
module _ (writes : ℕ → Bool) (past : ℕ → ℕ → Bool) (all : List ℕ) where
  listing_agrees : (reads : List ℕ) (f g : ℕ → Bool) → ((i : ℕ) → writes i ≡ true → f i ≡ g i)
      → listing writes past all reads f ≡ listing writes past all reads g
  listing_agrees [] f g same =
      filter_agree (unlisted writes f) (unlisted writes g) (λ i. and_agrees (writes i) (not (f i)) (not (g i)) (λ w. ap not (same i w))) all
  listing_agrees (r ∷ rs) f g same =
      let block : (i : ℕ) → fresh writes (past r) f i ≡ fresh writes (past r) g i =
      λ i. and_agrees (writes i) (past r i && not (f i)) (past r i && not (g i)) (λ w. ap (λ (t : Bool). past r i && not t) (same i w)) in
      ap₂ (λ (is : List ℕ) (rest : List ℕ). is ++ r ∷ rest) (filter_agree (fresh writes (past r) f) (fresh writes (past r) g) block all)
      (listing_agrees rs (λ i. f i || past r i) (λ i. g i || past r i) (λ i w. ap (λ (t : Bool). t || past r i) (same i w)))

-- ---- of a trace

module _ (trace : List Entry) (past : ℕ → ℕ → Bool) (marks : List Mark) (are : AreMarksOf trace (write_places trace) marks) where
  -- The marks whose numbers pass a test are those of the writes of which another test says the same.
  kept_marks : (test : ℕ → Bool) (other : ℕ → Bool) → ((i : ℕ) → writes_at trace i ≡ true → test (number_at trace i) ≡ other i)
      → map Some (kept_at test 0 marks) ≡ map (mark_at trace) (filter (λ i. writes_at trace i && other i) (places trace))
  kept_marks test other same =
      sym (kept_at-map test (λ (m : Mark). Some m) 0 marks)
      ∙ ap (kept_at test 0) (sym are)
      ∙ kept_at-map test (mark_at trace) 0 (write_places trace)
      ∙ ap (map (mark_at trace))
      (kept_filter test (number_at trace) 0 (write_places trace) (all_numbered trace)
      ∙ filter-filter (λ i. test (number_at trace i)) (writes_at trace) (places trace)
      ∙ filter_agree (λ i. writes_at trace i && test (number_at trace i)) (λ i. writes_at trace i && other i)
      (λ i. and_agrees (writes_at trace i) (test (number_at trace i)) (other i) (same i))
      (places trace))

  -- at the start
  pub none_yet : (reads left : List ℕ) → ((n : ℕ) → has left n ≡ nat_lt n (length marks))
      → still_to_list trace past reads left ≡ order_by trace past reads
  none_yet reads left all =
      listing_agrees (writes_at trace) past (places trace) reads (is_listed trace left) (λ i. false)
      (λ i w. ap not (all (number_at trace i) ∙ lt-ltb (number_at trace i) (length marks) (number_within trace marks are i w)))

  -- one read, behind the writes of its past that were left
  module _ (r : ℕ) (numbers old new : List ℕ) (members : (i : ℕ) → writes_at trace i ≡ true → has numbers (number_at trace i) ≡ past r i)
      (left : (n : ℕ) → has new n ≡ (has old n && not (has numbers n))) where
    abbrev added : List Mark
    added = kept_at (λ n. has numbers n && has old n) 0 marks

    block : map Some added ≡ map (mark_at trace) (filter (fresh (writes_at trace) (past r) (is_listed trace old)) (places trace))
    block =
        kept_marks (λ n. has numbers n && has old n) (λ i. past r i && not (is_listed trace old i))
        (λ i w. ap₂ (λ (s t : Bool). s && t) (members i w) (sym (not_not (has old (number_at trace i)))))

    past_is : (i : ℕ) → writes_at trace i ≡ true → is_listed trace new i ≡ (is_listed trace old i || past r i)
    past_is i w =
        ap not (left (number_at trace i))
        ∙ not_left (has old (number_at trace i)) (has numbers (number_at trace i))
        ∙ ap (λ (t : Bool). is_listed trace old i || t) (members i w)

    pub one_read : (order : List (Option Mark)) (rs : List ℕ)
        → ((order ++ map Some added) ++ mark_at trace r ∷ []) ++ map (mark_at trace) (still_to_list trace past rs new)
        ≡ order ++ map (mark_at trace) (still_to_list trace past (r ∷ rs) old)
    one_read order rs =
        let front : List ℕ = filter (fresh (writes_at trace) (past r) (is_listed trace old)) (places trace) in
        let after : List ℕ = listing (writes_at trace) past (places trace) rs (λ i. is_listed trace old i || past r i) in
        append_assoc (order ++ map Some added) (mark_at trace r ∷ []) (map (mark_at trace) (still_to_list trace past rs new))
        ∙ append_assoc order (map Some added) (mark_at trace r ∷ map (mark_at trace) (still_to_list trace past rs new))
        ∙ ap₂ (λ (ms : List (Option Mark)) (rest : List ℕ). order ++ (ms ++ mark_at trace r ∷ map (mark_at trace) rest)) block
        (listing_agrees (writes_at trace) past (places trace) rs (is_listed trace new) (λ i. is_listed trace old i || past r i) past_is)
        ∙ ap (λ (ms : List (Option Mark)). order ++ ms) (sym (map-append (mark_at trace) front (r ∷ after)))

  -- all other writes, at the end
  pub all_others : (left : List ℕ) → map Some (kept_at (has left) 0 marks) ≡ map (mark_at trace) (still_to_list trace past [] left)
  all_others left = kept_marks (has left) (λ i. not (is_listed trace left i)) (λ i w. sym (not_not (has left (number_at trace i))))
