use Rattle.std.proofs.Common.{◌≡◌, ◌<◌, ℕ, slice_index_or}
use Rattle.anti_work.proofs.noting.place_of.Given as goal

-- it is none of those before
abbrev pub invariant-loop-at : goal.invariant-loop-at
invariant-loop-at l = (i : ℕ) → i < l.at → slice_index_or l.versions i l.version ≡ l.version → ⊥
