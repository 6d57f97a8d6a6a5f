use Rattle.std.proofs.Common.{◌≡◌, ℕ, zero, suc, ◌<◌, ◌++◌, Bool, cond, List, [], ◌∷◌, length, set, refl, sym, ap, ap₂, ◌∙◌, append-nil, inl, inr, arith}
use Rattle.std.specs.Prelude.{◌==◌, ◌&&◌, Option, Some, nat_lt, slice_get}
use Rattle.std.specs.Global.{Vec}
use Rattle.std.specs.Option.{option_map_or}
use Rattle.std.proofs.lemmas.Bool.{cases_eq, eq-eqb, lt-ltb, ne_eqb}
use Rattle.std.proofs.lemmas.Option.{slice_get_read}
use Rattle.anti_order.specs.declared.writes.KeyAndNumber.{KeyAndNumber}
use Rattle.anti_order.specs.inner.Writes.{rows_on}
use Rattle.anti_order.proofs.writes.add_row.Goals as goal

set_here : (stores : List (Vec KeyAndNumber)) (s : ℕ) (rows : Vec KeyAndNumber) → s < length stores → slice_get (set stores s rows) s ≡ Some rows
set_here [] s rows low = absurd (omega (arith, low))
set_here (r ∷ rs) zero rows low = refl
set_here (r ∷ rs) (suc s) rows low = set_here rs s rows (omega (arith, low))

set_elsewhere : (stores : List (Vec KeyAndNumber)) (s t : ℕ) (rows : Vec KeyAndNumber) → (s ≡ t → ⊥) → slice_get (set stores s rows) t ≡ slice_get stores t
set_elsewhere [] s t rows apart = refl
set_elsewhere (r ∷ rs) zero zero rows apart = absurd (apart refl)
set_elsewhere (r ∷ rs) zero (suc t) rows apart = refl
set_elsewhere (r ∷ rs) (suc s) zero rows apart = refl
set_elsewhere (r ∷ rs) (suc s) (suc t) rows apart = set_elsewhere rs s t rows (λ same. apart (ap suc same))

module _ (stores : List (Vec KeyAndNumber)) (store : ℕ) (old new : Vec KeyAndNumber) (row : KeyAndNumber) (low : store < length stores)
    (there : slice_get stores store ≡ Some old) (pushed : new.items ≡ old.items ++ row ∷ []) where
  more_on : (s : ℕ) → rows_on (set stores store new) s ≡ rows_on stores s ++ cond ((store == s) && nat_lt s (length stores)) (row ∷ []) []
  more_on s =
      elim (cases_eq store s) [
        | inl here ↦
            ap (rows_on (set stores store new)) (sym here)
            ∙ ap (λ (found : Option (Vec KeyAndNumber)). option_map_or (λ rows. rows.items) found []) (set_here stores store new low)
            ∙ pushed
            ∙ sym (ap₂ (λ (rs : List KeyAndNumber) (t : Bool). rs ++ cond t (row ∷ []) [])
            (ap (rows_on stores) (sym here) ∙ ap (λ (found : Option (Vec KeyAndNumber)). option_map_or (λ rows. rows.items) found []) there)
            (ap₂ (λ (a b : Bool). a && b) (eq-eqb store s here) (lt-ltb s (length stores) (omega (arith, low, here)))))
        | inr apart ↦
            ap (λ (found : Option (Vec KeyAndNumber)). option_map_or (λ rows. rows.items) found []) (set_elsewhere stores store s new apart)
            ∙ sym (append-nil (rows_on stores s))
            ∙ sym (ap (λ (t : Bool). rows_on stores s ++ cond (t && nat_lt s (length stores)) (row ∷ []) []) (ne_eqb store s apart))
      ]

pub returns-clause-rows : goal.returns-clause-rows
returns-clause-rows c = λ s.
    let stores = c.args.stores.now.items in
    let store = c.args.store in
    let many : c.len.result ≡ length stores = c.len.ensures ∙ c.args.stores.now.ok.0 in
    let low : store < length stores = omega (arith, many, c.if-store-len.false) in
    more_on stores store c.index_mut.result.now c.push.new.self c.args.row low
    (slice_get_read stores (length stores) store c.index_mut.result.now refl low c.index_mut.ensures.value) c.in_ok-push.ensures.items s
