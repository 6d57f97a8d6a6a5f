-- The stores with a replica in a region: that some are, of whatever port.
use Rattle.std.proofs.Common.{◌≡◌, ℕ, ◌<◌, List, [], ◌∷◌, ◌∙◌, All, get_or, Option, arith}
use Rattle.std.proofs.lemmas.List.Elements.{All-nil, All-cons}
use Rattle.std.proofs.lemmas.List.Kept.{AllPairs-cons}
use Rattle.anti_kind.specs.Objects.{Start}
use Rattle.anti_shim.specs.Sights.{HasReplica, IsHere}

-- they are where all objects start as they did
pub here_stays : (now was : ℕ → Option Start) (region : ℕ) (here : List ℕ) → ((o : ℕ) → now o ≡ was o) → IsHere was region here → IsHere now region here
here_stays now was region here same right = record {
  ascending = right.ascending;
  replicas = λ i d within. let there = right.replicas i d within in (there.0, same (get_or here i d) ∙ there.1, there.2, there.3);
}

module _ (starts : ℕ → Option Start) (region : ℕ) where
  pub here_none : IsHere starts region []
  here_none = record { ascending = λ i j d less within. absurd (omega arith); replicas = All-nil (HasReplica starts region) }

  -- one more, before others that are all above it
  pub here_more : (o : ℕ) (here : List ℕ) → HasReplica starts region o → All (λ n. o < n) here → IsHere starts region here → IsHere starts region (o ∷ here)
  here_more o here there above right = record {
    ascending = AllPairs-cons (λ (a b : ℕ). a < b) o here above right.ascending;
    replicas = All-cons (HasReplica starts region) o here there right.replicas;
  }
