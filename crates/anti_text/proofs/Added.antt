-- Pieces of a text that are added one after another, and all at once.
use Rattle.std.proofs.Common.{◌≡◌, ℕ, List, [], ◌∷◌, ◌++◌, refl, ◌∙◌}
use Rattle.std.proofs.lemmas.List.{append_assoc}

abbrev pub added : List ℕ → List (List ℕ) → List ℕ
added out [] = out
added out (piece ∷ pieces) = added (out ++ piece) pieces

abbrev pub joined : List ℕ → List (List ℕ) → List ℕ
joined piece [] = piece
joined piece (next ∷ pieces) = piece ++ joined next pieces

pub added_is : (out piece : List ℕ) (pieces : List (List ℕ)) → added out (piece ∷ pieces) ≡ out ++ joined piece pieces
added_is out piece [] = refl
added_is out piece (next ∷ pieces) = added_is (out ++ piece) next pieces ∙ append_assoc out piece (joined next pieces)
