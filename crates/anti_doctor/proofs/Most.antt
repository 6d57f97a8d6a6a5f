-- Where a read misses a write, there is one that it misses most.
use Rattle.std.proofs.Common.{◌≡◌, ℕ, zero, suc, ◌+◌, ◌<◌, ◌≤◌, ◌&&◌, Bool, true, false, List, length, Contains, ap, ◌∙◌, inl, inr, arith}
use Rattle.std.specs.List.{list_any}
use Rattle.std.proofs.lemmas.Bool.{and_from, and_parts, both_ways, cases_Bool, false_from_ne_true}
use Rattle.std.proofs.lemmas.List.Folds.{Any-from_list_any, list_any_at}
use Rattle.std.proofs.lemmas.Option.{slice_get_within}
use Rattle.anti_kind.specs.declared.entry.Entry.{Entry}
use Rattle.anti_app.specs.declared.app.App.{App}
use Rattle.anti_trace.specs.Legal.{IsLegalTrace}
use Rattle.law_causal.specs.Reads.{places}
use Rattle.law_causal.specs.Causal.{Before}
use Rattle.law_causal.proofs.Facts.{Facts}
use Rattle.law_causal.proofs.Keyed.{keyed}
use Rattle.law_causal.proofs.Known.{forward}
use Rattle.law_serial.proofs.Cuts.{is_place}
use Rattle.anti_doctor.specs.Missed.{MissesMost, is_over_at, misses}
use Rattle.anti_doctor.proofs.Misses.{IsIdAt, IsLater, later}

module _ (app : App) (trace : List Entry) (legal : IsLegalTrace app trace) (facts : Facts app trace) where
  -- A later write of the same key stands behind.
  goes_up : (i j : ℕ) → is_over_at trace i j ≡ true → (i < j) × (j < length trace)
  goes_up i j over =
      let its : IsLater trace i j = later trace i j over in
      let first : IsIdAt trace i its.first = its.first_there in
      let second : IsIdAt trace j its.second = its.second_there in
      let before : Before trace i j =
      keyed app trace legal i j first.entry second.entry its.first its.second first.there second.there first.wrote second.wrote
      its.store its.key its.less in
      (forward app trace facts before, slice_get_within trace j second.entry second.there)

  module _ (past : ℕ → ℕ → Bool) (r : ℕ) where
    -- whether the read misses the write at place j too, which is a later one than that at place i
    abbrev misses_more : ℕ → ℕ → Bool
    misses_more i j = misses trace past r j && is_over_at trace i j

    none_more : (i : ℕ) → list_any (misses_more i) (places trace) ≡ false → (j : ℕ) → misses trace past r j ≡ true
        → is_over_at trace i j ≡ false
    none_more i none j its =
        false_from_ne_true (is_over_at trace i j) (λ over.
        let among : Contains (places trace) j = (is_place (length trace) j).1 (goes_up i j over).1 in
        let more : misses_more i j ≡ true = and_from (misses trace past r j) (is_over_at trace i j) its over in
        both_ways (list_any (misses_more i) (places trace)) none
        (list_any_at (misses_more i) (places trace) among.0 j among.1 (ap (misses_more i) among.2 ∙ more)))

    most_above : (n i : ℕ) → length trace ≤ i + n → i < length trace → misses trace past r i ≡ true → (j : ℕ) × MissesMost trace past r j
    most_above zero i high low its = absurd (omega (arith, high, low))
    most_above (suc n) i high low its =
        elim (cases_Bool (list_any (misses_more i) (places trace))) [
          | inl some ↦
              let found = Any-from_list_any (misses_more i) (places trace) some in
              let parts = and_parts (misses trace past r found.1) (is_over_at trace i found.1) found.4 in
              let up = goes_up i found.1 parts.1 in
              most_above n found.1 (omega (arith, high, up.0)) up.1 parts.0
          | inr none ↦ (i, record { missed = its; most = none_more i none })
        ]

    pub most : (i : ℕ) → i < length trace → misses trace past r i ≡ true → (j : ℕ) × MissesMost trace past r j
    most i low its = most_above (length trace) i (omega arith) low its
