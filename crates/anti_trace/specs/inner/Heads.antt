-- The last entries of histories that are merged, and what a heap holds of them.
use Rattle.std.specs.Prelude.{◌≡◌, ◌==◌, ◌⊎◌, ◌<◌, ℕ, ◌-◌, List, [], ◌∷◌, length, map, slice_index, slice_index_or, All, IsPermutation}
use Rattle.std.specs.List.{count_by}
use Rattle.std.specs.Ordering.{nat_cmp, ordering_then}
use Rattle.std.specs.declared.cmp.Ordering.{Ordering}
use Rattle.anti_ids.specs.List.{Listed, empty}
use Rattle.anti_kind.specs.declared.entry.Entry.{Entry}
use Rattle.anti_trace.specs.declared.heads.Head.{Head}

-- the order of heads
abbrev pub head_cmp : Head → Head → Ordering
head_cmp a b = ordering_then (nat_cmp a.stamp b.stamp) (ordering_then (nat_cmp a.object b.object) (nat_cmp a.history b.history))

-- the history with this number: none past the end
abbrev pub history_at : List (Listed Entry) → ℕ → List Entry
history_at histories k = (slice_index_or histories k empty).items

-- the stamp and the object of the last entry, 0 where there is none
abbrev pub end_stamp : List Entry → ℕ
end_stamp h = slice_index (map (λ e. e.stamp) h) (length h - 1)

abbrev pub end_object : List Entry → ℕ
end_object h = slice_index (map (λ e. e.object) h) (length h - 1)

-- the head says what the last entry is
pub record IsHeadOf (h : List Entry) (head : Head) : Type 0 where
  pub some : 0 < length h
  pub stamp : head.stamp ≡ end_stamp h
  pub object : head.object ≡ end_object h

-- how many of the heads are of the history with this number
abbrev pub heads_at : ℕ → List Head → ℕ
heads_at k heads = count_by (λ head. head.history == k) heads

-- a history that is not empty has one head
abbrev pub one_if_some : List Entry → ℕ
one_if_some [] = 0
one_if_some (e ∷ es) = 1

-- The heads of the histories, in some order: one of each history that is not empty.
pub record AreHeads (histories : List (Listed Entry)) (heads : List Head) : Type 0 where
  pub own : All (λ head. IsHeadOf (history_at histories head.history) head) heads
  pub each : (k : ℕ) → heads_at k heads ≡ one_if_some (history_at histories k)

-- to the heads that of the history with this number came, where the history is not empty
abbrev pub IsAdded : ℕ → List Entry → List Head → List Head → Type 0
IsAdded k h old new =
    ((h ≡ []) × (new ≡ old)) ⊎ ((head : Head) × (head.history ≡ k) × IsHeadOf h head × IsPermutation (head ∷ old) new)

-- the first of the heads went, and that of the history with this number came, where the history is not empty
abbrev pub IsRenewed : ℕ → List Entry → List Head → List Head → Type 0
IsRenewed k h old new =
    (first : Head) × (rest : List Head) × (first ≡ slice_index_or old 0 first) × IsPermutation old (first ∷ rest) × IsAdded k h rest new
