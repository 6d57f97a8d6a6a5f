-- How texts stand one behind another in one text.
use Rattle.std.specs.Prelude.{◌≡◌, ℕ, ◌-◌, ◌≤◌, zero, suc, List, [], ◌∷◌, take, drop}

-- the texts that stand from a place on, by the places where they end
abbrev pub cut : List ℕ → ℕ → List ℕ → List (List ℕ)
cut text start [] = []
cut text start (end ∷ ends) = take (end - start) (drop start text) ∷ cut text end ends

-- places that ascend from one to the last
abbrev pub Rise : ℕ → List ℕ → ℕ → Type 0
Rise start [] last = start ≡ last
Rise start (end ∷ ends) last = (start ≤ end) × Rise end ends last

-- where the text of a number begins
abbrev pub edge : ℕ → List ℕ → ℕ → ℕ
edge start ends zero = start
edge start [] (suc n) = start
edge start (end ∷ ends) (suc n) = edge end ends n
