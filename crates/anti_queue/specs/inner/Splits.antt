-- Ascending versions, parted at one that may stand among them.
use Rattle.std.specs.Prelude.{◌≡◌, ℕ, ◌<◌, Bool, true, false, List, ◌∷◌, ◌++◌, All}

-- v before these versions, if it stands there
abbrev pub with_if : Bool → ℕ → List ℕ → List ℕ
with_if true v above = v ∷ above
with_if false v above = above

-- the versions are some below v, v itself if it stands among them, and some above it
pub record IsSplit (versions : List ℕ) (v : ℕ) (stands : Bool) (below above : List ℕ) : Type 0 where
  pub parts : versions ≡ below ++ with_if stands v above
  pub lower : All (λ w. w < v) below
  pub higher : All (λ w. v < w) above

-- v now stands among the versions exactly if `wanted`, and the others stay
abbrev pub SetsVersion : List ℕ → ℕ → Bool → List ℕ → Type 0
SetsVersion old v wanted new = (stands : Bool) (below above : List ℕ) → IsSplit old v stands below above → new ≡ below ++ with_if wanted v above
