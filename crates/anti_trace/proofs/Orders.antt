-- The order of entries: what it says of stamps and objects, and that it is strict, total on marks and passed on.
use Rattle.std.proofs.Common.{◌<◌, ◌≤◌, ◌≡◌, ◌⊎◌, false, sym, ◌∙◌, inl, inr, arith}
use Rattle.std.specs.Prelude.{IsTrue}
use Rattle.std.proofs.lemmas.Bool.{ltb-true, ltb-false, eqb-true, eqb-false, lt-ltb, eq-eqb, cases_eq, or_cases, and_parts, or_parts, and_cases, and_from, or_left, or_right, false_from_ne_true, cases_Bool}
use Rattle.anti_kind.specs.declared.entry.Entry.{Entry}
use Rattle.anti_trace.specs.Traces.{comes_before}

-- what the order says of two entries
abbrev pub Before : Entry → Entry → Type 0
Before d e = (d.stamp < e.stamp) ⊎ ((d.stamp ≡ e.stamp) × (d.object < e.object))

pub before_from : (d e : Entry) → IsTrue (comes_before d e) → Before d e
before_from d e b =
    elim (or_cases _ _ b) [
      | inl l ↦ inl (ltb-true _ _ l)
      | inr l ↦ let p = and_parts _ _ l in inr (eqb-true _ _ p.0, ltb-true _ _ p.1)
    ]

pub before_to : (d e : Entry) → Before d e → IsTrue (comes_before d e)
before_to d e b =
    elim b [
      | inl l ↦ or_left _ _ (lt-ltb _ _ l)
      | inr p ↦ or_right _ _ (and_from _ _ (eq-eqb _ _ p.0) (lt-ltb _ _ p.1))
    ]

-- a smaller stamp comes before
pub before_stamp : (d e : Entry) → d.stamp < e.stamp → IsTrue (comes_before d e)
before_stamp d e l = before_to d e (inl l)

pub stamp_le : (d e : Entry) → IsTrue (comes_before d e) → d.stamp ≤ e.stamp
stamp_le d e b = elim (before_from d e b) [ inl l ↦ omega arith | inr p ↦ omega arith ]

pub before_trans : (c d e : Entry) → IsTrue (comes_before c d) → IsTrue (comes_before d e) → IsTrue (comes_before c e)
before_trans c d e a b =
    before_to c e
    (elim (before_from c d a) [
      | inl l ↦ let m : d.stamp ≤ e.stamp = stamp_le d e b in inl (omega arith)
      | inr p ↦ elim (before_from d e b) [
        | inl l ↦ inl (omega arith)
        | inr q ↦ inr (p.0 ∙ q.0, omega arith)
      ]
    ])

-- no entry comes before one that comes before it, nor before itself
pub before_not : (d e : Entry) → IsTrue (comes_before d e) → IsTrue (comes_before e d) → ⊥
before_not d e a b =
    elim (before_from d e a) [
      | inl l ↦ let m : e.stamp ≤ d.stamp = stamp_le e d b in omega arith
      | inr p ↦ elim (before_from e d b) [ inl l ↦ omega arith | inr q ↦ omega arith ]
    ]

pub before_itself : (e : Entry) → comes_before e e ≡ false
before_itself e = false_from_ne_true _ (λ b. before_not e e b b)

-- of two entries with different marks, one comes before the other
pub before_other : (d e : Entry) → comes_before d e ≡ false → (d.object ≡ e.object → d.stamp ≡ e.stamp → ⊥) → IsTrue (comes_before e d)
before_other d e off differ =
    before_to e d
    (let p = or_parts _ _ off in
    let l : e.stamp ≤ d.stamp = ltb-false _ _ p.0 in
    elim (cases_eq d.stamp e.stamp) [
      | inl same ↦ inr (
        sym same,
        elim (and_cases _ _ p.1) [
          | inl u ↦ absurd (eqb-false _ _ u same)
          | inr u ↦ let o : e.object ≤ d.object = ltb-false _ _ u in
              let ne : d.object ≡ e.object → ⊥ = λ same_object. differ same_object same in omega arith
        ],
      )
      | inr ne ↦ inl (omega arith)
    ])

-- of two entries, one comes before the other or they have one mark
pub before_cases : (d e : Entry) → IsTrue (comes_before d e) ⊎ (IsTrue (comes_before e d) ⊎ ((d.object ≡ e.object) × (d.stamp ≡ e.stamp)))
before_cases d e =
    elim (cases_Bool (comes_before d e)) [
      | inl b ↦ inl b
      | inr off ↦ inr (elim (cases_eq d.object e.object) [
        | inl o ↦ elim (cases_eq d.stamp e.stamp) [
          | inl s ↦ inr (o, s)
          | inr ne ↦ inl (before_other d e off (λ _ s. ne s))
        ]
        | inr ne ↦ inl (before_other d e off (λ o _. ne o))
      ])
    ]

pub not_before_le : (d e : Entry) → comes_before d e ≡ false → e.stamp ≤ d.stamp
not_before_le d e off = ltb-false _ _ ((or_parts _ _ off).0)
