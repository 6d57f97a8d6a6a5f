-- Which ids of a block are left for one of its owners.
use Rattle.std.specs.Prelude.{ℕ, zero, suc, ◌+◌, ◌*◌, ◌≤◌, ◌/◌, ◌%◌, List, [], ◌∷◌, length, ◌==◌, Bool, get_or, Option, None, Some, if◌then◌else◌}
use Rattle.std.specs.Borrow.{Bor}
use Rattle.std.specs.Int.{bit_at}
use Rattle.anti_ids.specs.declared.id.WriteId.{WriteId}

-- whether the id at an index is gone, by a bit of words of 64
abbrev pub is_gone : List ℕ → ℕ → Bool
is_gone words at = bit_at (get_or words (at / 64) 0) (at % 64) == 1

-- the ids that are left, of those that stand from an index on
abbrev pub left_of : List ℕ → ℕ → List WriteId → List WriteId
left_of words at [] = []
left_of words at (i ∷ is) = if is_gone words at then left_of words (at + 1) is else (i ∷ left_of words (at + 1) is)

-- how many are gone, of so many that stand from an index on
abbrev pub gone_in : List ℕ → ℕ → ℕ → ℕ
gone_in words at zero = 0
gone_in words at (suc n) = (if is_gone words at then 1 else 0) + gone_in words (at + 1) n

-- whether the first ids, of so many, have marks, where some may be gone
abbrev pub AreMarked : Option (Bor (List ℕ)) → ℕ → Type 0
AreMarked None len = Unit {0}
AreMarked (Some words) len = len ≤ 64 * length words.now

-- the same, where some may be gone; else all are left
abbrev pub left_for : Option (Bor (List ℕ)) → ℕ → List WriteId → List WriteId
left_for None at ids = ids
left_for (Some words) at ids = left_of words.now at ids
