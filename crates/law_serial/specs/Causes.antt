-- What is causally before reads, whatever their lineages have of it.
use Rattle.std.specs.Prelude.{ℕ, ◌≡◌, ◌↔◌, Bool, true, List, [], ◌∷◌, Contains}
use Rattle.anti_kind.specs.declared.entry.Entry.{Entry}
use Rattle.law_causal.specs.Causal.{Before}
use Rattle.law_serial.specs.Order.{writes_at}

-- each of these places is causally before the next
abbrev pub IsChain : List Entry → List ℕ → Type 0
IsChain trace [] = Unit {0}
IsChain trace (x ∷ []) = Unit {0}
IsChain trace (x ∷ y ∷ ys) = Before trace x y × IsChain trace (y ∷ ys)

-- of each of these reads the test tells which writes are causally before it
abbrev pub TellsCauses : List Entry → List ℕ → (ℕ → ℕ → Bool) → Type 0
TellsCauses trace reads past = (r : ℕ) → Contains reads r → (i : ℕ) → writes_at trace i ≡ true → past r i ≡ true ↔ Before trace i r
