-- What is in a list of what reads missed.
use Rattle.std.proofs.Common.{◌≡◌, ℕ, ◌++◌, ◌==◌, Bool, true, false, List, [], ◌∷◌, Contains, sym, ap, subst, inl, inr}
use Rattle.std.specs.Prelude.{if◌then◌else◌}
use Rattle.std.specs.List.{list_any}
use Rattle.std.proofs.lemmas.List.Elements.{Contains-append_cases}
use Rattle.anti_kind.specs.declared.entry.Entry.{Entry}
use Rattle.law_serial.proofs.Cuts.{front_or_rest, in_front, in_none, in_rest}
use Rattle.anti_doctor.specs.Missed.{AreMissed, AreMissedAt, MissesMost, Pair, new_pairs}

-- ---- the pairs of one read

-- the pair is of this read and one of these writes
record IsOf (r : ℕ) (writes : List ℕ) (p : Pair) : Type 0 where
  read : p.read ≡ r
  write : Contains writes p.write

further : (r i : ℕ) (is : List ℕ) (p : Pair) → IsOf r is p → IsOf r (i ∷ is) p
further r i is p of = record { read = of.read; write = in_rest i is p.write of.write }

one_more : (r i : ℕ) (is : List ℕ) (rest : List Pair) (p : Pair) → (Contains rest p → IsOf r is p) → (t : Bool)
    → Contains (if t then rest else record { read = r; write = i } ∷ rest) p → IsOf r (i ∷ is) p
one_more r i is rest p of true among = further r i is p (of among)
one_more r i is rest p of false among =
    let new : Pair = record { read = r; write = i } in
    elim (front_or_rest new rest p among) [
      | inl same ↦ record {
        read = sym (ap (λ (q : Pair). q.read) same);
        write = subst (λ (q : Pair). Contains (i ∷ is) q.write) same (in_front i is);
      }
      | inr later ↦ further r i is p (of later)
    ]

is_of : (r : ℕ) (writes seen : List ℕ) (p : Pair) → Contains (new_pairs r writes seen) p → IsOf r writes p
is_of r [] seen p among = in_none p among
is_of r (i ∷ is) seen p among = one_more r i is (new_pairs r is seen) p (is_of r is seen p) (list_any (λ j. j == i) seen) among

module _ (trace : List Entry) (past : ℕ → ℕ → Bool) where
  -- ---- the pairs of reads

  -- the pair is of one of these reads and a write that it misses most
  pub record IsMost (reads : List ℕ) (p : Pair) : Type 0 where
    pub among : Contains reads p.read
    pub most : MissesMost trace past p.read p.write

  pub each_most : (reads seen : List ℕ) (missed : List Pair) → AreMissed trace past reads seen missed → (p : Pair) → Contains missed p
      → IsMost reads p
  each_most [] seen missed none p among = in_none p (subst (λ (ps : List Pair). Contains ps p) none among)
  each_most (r ∷ rs) seen missed (writes, rest, at, is, later) p among =
      elim (Contains-append_cases (new_pairs r writes seen) rest p (subst (λ (ps : List Pair). Contains ps p) is among)) [
        | inl new ↦
            let of : IsOf r writes p = is_of r writes seen p new in
            record {
              among = subst (Contains (r ∷ rs)) (sym of.read) (in_front r rs);
              most = subst (λ (x : ℕ). MissesMost trace past x p.write) (sym of.read) ((at.just p.write).0 of.write);
            }
        | inr behind ↦
            let its : IsMost rs p = each_most rs (writes ++ seen) rest later p behind in
            record { among = in_rest r rs p.read its.among; most = its.most }
      ]

  -- ---- no pairs

  -- Where there are none, no read misses a write.
  pub none_at : (reads : List ℕ) → AreMissed trace past reads [] [] → (r : ℕ) → Contains reads r → AreMissedAt trace past r []
  none_at [] none r among = in_none r among
  none_at (x ∷ rs) ([], rest, at, is, later) r among =
      elim (front_or_rest x rs r among) [
        | inl same ↦ subst (λ (n : ℕ). AreMissedAt trace past n []) same at
        | inr behind ↦ none_at rs (subst (AreMissed trace past rs []) (sym is) later) r behind
      ]
  none_at (x ∷ rs) (i ∷ is, rest, at, never, later) r among = absurd (cc)
