-- The stores of ports in tests, each with a replica in region 0.
use Rattle.std.proofs.Common.{◌≡◌, ℕ, ◌<◌, [], ◌∷◌, ◌∙◌, true, Option, Some, ap, arith}
use Rattle.std.proofs.lemmas.List.Elements.{All-nil, All-cons}
use Rattle.anti_kind.specs.Objects.{Start, store}
use Rattle.anti_kind.specs.Store.{Store, is_replica}
use Rattle.anti_shim.specs.Sights.{HasReplica, IsHere}
use Rattle.anti_shim.proofs.Here.{here_more, here_none}

-- the store of this number
abbrev IsStoreHere : ℕ → Start → Type 0
IsStoreHere o start = (s : Store) × (start ≡ store s) × (s.number ≡ o) × (is_replica s 0 ≡ true)

module _ (starts : ℕ → Option Start) where
  has_replica : (o : ℕ) (start : Start) → starts o ≡ Some start → IsStoreHere o start → HasReplica starts 0 o
  has_replica o start is this = (this.0, is ∙ ap (λ (s : Start). Some s) this.1, this.2, this.3)

  here_last : (o : ℕ) (start : Start) → starts o ≡ Some start → IsStoreHere o start → IsHere starts 0 (o ∷ [])
  here_last o start is this = here_more starts 0 o [] (has_replica o start is this) (All-nil (λ (n : ℕ). o < n)) (here_none starts 0)

  pub here_alone : (start : Start) → starts 0 ≡ Some start → IsStoreHere 0 start → IsHere starts 0 (0 ∷ [])
  here_alone = here_last 0

  pub here_both : (first second : Start) → starts 0 ≡ Some first → IsStoreHere 0 first → starts 1 ≡ Some second → IsStoreHere 1 second → IsHere starts 0 (0 ∷ 1 ∷ [])
  here_both first second is this is_too other =
      here_more starts 0 0 (1 ∷ []) (has_replica 0 first is this) (All-cons (λ (n : ℕ). 0 < n) 1 [] (omega arith) (All-nil (λ (n : ℕ). 0 < n)))
      (here_last 1 second is_too other)
