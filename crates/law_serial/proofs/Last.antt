-- In an order that respects the causal order, of the writes to a key that stand before a read the one of the greatest version is the last.
use Rattle.std.proofs.Common.{◌≡◌, ◌≢◌, ℕ, ◌<◌, ◌≤◌, ◌++◌, ◌⊎◌, true, List, ◌∷◌, AllPairs, Contains, append_assoc, refl, sym, ap, ◌∙◌, subst, inl, inr, arith}
use Rattle.std.specs.Prelude.{Some, slice_get}
use Rattle.std.proofs.lemmas.Bool.{cases_eq}
use Rattle.std.proofs.lemmas.List.Elements.{Contains-append_left, Contains-append_right}
use Rattle.anti_ids.specs.Ids.{has_id}
use Rattle.anti_ids.specs.declared.id.WriteId.{WriteId}
use Rattle.anti_kind.specs.declared.entry.Entry.{Entry}
use Rattle.anti_app.specs.declared.app.App.{App}
use Rattle.anti_trace.specs.Legal.{IsLegalTrace}
use Rattle.law_causal.specs.Words.{wrote}
use Rattle.law_causal.specs.Causal.{Before}
use Rattle.law_causal.proofs.Keyed.{keyed}
use Rattle.law_causal.proofs.Lists.{cut_of}
use Rattle.law_causal.proofs.Stores.{IsWrite, once as one_place, write_parts}
use Rattle.law_serial.specs.Serial.{IsLast, IsWrittenAmong, id_of}
use Rattle.law_serial.proofs.Cuts.{in_rest, pair_first, pairs_across, pairs_later}

-- Among the writes at these places to a key of a store, this version is the greatest; where there is none it is 0.
pub record IsGreatest (trace : List Entry) (among : List ℕ) (store : ℕ) (key : List ℕ) (version : ℕ) : Type 0 where
  pub made : (version ≡ 0) ⊎ IsWrittenAmong trace among (id_of store key version)
  pub bound : (v : ℕ) → IsWrittenAmong trace among (id_of store key v) → v ≤ version

-- what is written has a version of 1 or later
has_version : (e : Entry) (store : ℕ) (key : List ℕ) (v : ℕ) → has_id (id_of store key v) (wrote e) ≡ true → 0 < v
has_version e store key v has =
    let it : IsWrite e.object e.call e.reply (id_of store key v) = write_parts e.object e.call e.reply (id_of store key v) has in
    let is : v ≡ it.version = ap (λ (w : WriteId). w.version) it.id in
    omega (arith, is, it.some)

module _ (app : App) (trace : List Entry) (legal : IsLegalTrace app trace) (order : List ℕ) (distinct : AllPairs (λ x y. x ≢ y) order)
    (respects : (before : List ℕ) (x : ℕ) (after : List ℕ) → order ≡ before ++ x ∷ after → (y : ℕ) → Contains order y → Before trace y x
    → Contains before y)
    (store : ℕ) (key : List ℕ) (version : ℕ) where
  -- behind the write of the greatest version there is none to its key
  none_behind : (front : List ℕ) (place : ℕ) (rest after : List ℕ) → order ≡ front ++ place ∷ (rest ++ after)
      → (a : Entry) → slice_get trace place ≡ Some a → has_id (id_of store key version) (wrote a) ≡ true
      → (v : ℕ) → IsWrittenAmong trace rest (id_of store key v) → v ≤ version → ⊥
  none_behind front place rest after cut a at has v x most =
      let behind : Contains (rest ++ after) x.place = Contains-append_left rest after x.place x.in_list in
      let later : Contains (place ∷ (rest ++ after)) x.place = in_rest place (rest ++ after) x.place behind in
      let apart : AllPairs (λ x y. x ≢ y) (front ++ place ∷ (rest ++ after)) = subst (AllPairs (λ x y. x ≢ y)) cut distinct in
      elim (cases_eq v version) [
        | inl same ↦
            let its = ap (λ (n : ℕ). has_id (id_of store key n) (wrote x.entry)) (sym same) ∙ x.wrote in
            let here : place ≡ x.place = one_place app trace legal place x.place a x.entry (id_of store key version) at x.there has its in
            pair_first (λ x y. x ≢ y) place (rest ++ after) (pairs_later (λ x y. x ≢ y) front (place ∷ (rest ++ after)) apart)
            x.place behind here
        | inr differ ↦
            let before : Before trace x.place place =
            keyed app trace legal x.place place x.entry a (id_of store key v) (id_of store key version) x.there at x.wrote has refl refl
            (omega (arith, most, differ)) in
            let inside : Contains order x.place =
            subst (λ (xs : List ℕ). Contains xs x.place) (sym cut) (Contains-append_right front (place ∷ (rest ++ after)) x.place later) in
            let early : Contains front x.place = respects front place (rest ++ after) cut x.place inside before in
            pairs_across (λ x y. x ≢ y) front (place ∷ (rest ++ after)) apart x.place x.place early later refl
      ]

  pub last_of : (before : List ℕ) (r : ℕ) (after : List ℕ) → order ≡ before ++ r ∷ after → IsGreatest trace before store key version
      → IsLast trace before store key version
  last_of before r after is g =
      elim g.made [
        | inl none ↦ inl (none, λ v x. let most = g.bound v x in omega (arith, none, most, has_version x.entry store key v x.wrote))
        | inr w ↦
            let cut = cut_of before w.place w.in_list in
            let front : List ℕ = cut.0 in
            let rest : List ℕ = cut.1 in
            let whole : order ≡ front ++ w.place ∷ (rest ++ r ∷ after) =
            is ∙ ap (λ (xs : List ℕ). xs ++ r ∷ after) cut.2 ∙ append_assoc front (w.place ∷ rest) (r ∷ after) in
            let before_it : (x : ℕ) → Contains rest x → Contains before x =
            λ x in'. subst (λ (xs : List ℕ). Contains xs x) (sym cut.2)
            (Contains-append_right front (w.place ∷ rest) x (in_rest w.place rest x in')) in
            inr (record {
              front = front;
              place = w.place;
              rest = rest;
              cut = cut.2;
              entry = w.entry;
              there = w.there;
              wrote = w.wrote;
              none_later = λ v x.
                  let early : IsWrittenAmong trace before (id_of store key v) =
                  record { place = x.place; entry = x.entry; in_list = before_it x.place x.in_list; there = x.there; wrote = x.wrote } in
                  none_behind front w.place rest (r ∷ after) whole w.entry w.there w.wrote v x (g.bound v early);
            })
      ]
