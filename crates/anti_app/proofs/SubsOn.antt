-- The subscription at a position among those of a store is the one that the store has there, and each stands at its position.
use Rattle.std.proofs.Common.{◌≡◌, ℕ, zero, suc, ◌+◌, Bool, true, false, List, [], ◌∷◌, cond, length, refl, sym, ap, ◌∙◌, arith}
use Rattle.std.specs.Prelude.{Option, None, Some, filter, option_map, slice_get, take}
use Rattle.std.specs.List.{range_with_len}
use Rattle.std.specs.Option.{option_and_then, option_map_or}
use Rattle.std.proofs.lemmas.Option.{slice_get-map}
use Rattle.anti_kind.specs.declared.store_kind.Sub.{Sub}
use Rattle.anti_app.specs.declared.app.App.{App}
use Rattle.anti_app.specs.declared.app.SubDef.{SubDef}
use Rattle.anti_app.specs.Subs.{is_number_on, is_on, position_on, sub_of, sub_on, subs_on}

-- what passes a test stands, among all that pass it, behind those before it
behind_it : {T : Type 0} (y x : T) (kept before : List T) (passes : Bool) → slice_get kept (length before) ≡ Some x
    → slice_get (cond passes (y ∷ kept) kept) (length (cond passes (y ∷ before) before)) ≡ Some x
behind_it y x kept before true at = let more : length (y ∷ before) ≡ suc (length before) = omega arith in ap (slice_get (y ∷ kept)) more ∙ at
behind_it y x kept before false at = at

kept_at : {T : Type 0} (test : T → Bool) (xs : List T) (i : ℕ) (x : T) → slice_get xs i ≡ Some x → test x ≡ true
    → slice_get (filter test xs) (length (filter test (take i xs))) ≡ Some x
kept_at test [] i x at on = absurd (cc)
kept_at test (y ∷ ys) zero x at on =
    let same : y ≡ x = cc in
    ap (λ (b : Bool). slice_get (cond b (y ∷ filter test ys) (filter test ys)) 0) (ap test same ∙ on) ∙ at
kept_at test (y ∷ ys) (suc i) x at on = behind_it y x (filter test ys) (filter test (take i ys)) (test y) (kept_at test ys i x at on)

module _ (app : App) (store : ℕ) where
  -- the subscription with a number in the document
  abbrev by_number : ℕ → Option SubDef
  by_number number = slice_get app.subs.items number

  -- One subscription more, with the number n, before others of which it is known.
  module _ (n : ℕ) (sub : SubDef) (numbers : List ℕ) (subs : List SubDef) (first : by_number n ≡ Some sub)
      (later : (p : ℕ) → option_and_then by_number (slice_get numbers p) ≡ slice_get subs p) where
    kept : (p : ℕ) → option_and_then by_number (slice_get (n ∷ numbers) p) ≡ slice_get (sub ∷ subs) p
    kept zero = first
    kept (suc p) = later p

    by_store : (here : Bool) (p : ℕ) → option_and_then by_number (slice_get (cond here (n ∷ numbers) numbers) p) ≡ slice_get (cond here (sub ∷ subs) subs) p
    by_store true p = kept p
    by_store false p = later p

    one_more : (p : ℕ) → option_and_then by_number (slice_get (cond (is_number_on app store n) (n ∷ numbers) numbers) p)
        ≡ slice_get (cond (is_on store sub) (sub ∷ subs) subs) p
    one_more p =
        ap (λ (found : Option SubDef). option_and_then by_number (slice_get (cond (option_map_or (is_on store) found false) (n ∷ numbers) numbers) p)) first
        ∙ by_store (is_on store sub) p

  -- Of these subscriptions, which have the numbers from n on, the one at a position among those of the store.
  among : (k n : ℕ) (rest : List SubDef) → length rest ≡ k → ((i : ℕ) → by_number (n + i) ≡ slice_get rest i) → (p : ℕ)
      → option_and_then by_number (slice_get (filter (is_number_on app store) (range_with_len n k)) p) ≡ slice_get (filter (is_on store) rest) p
  among zero n [] count same p = refl
  among zero n (sub ∷ rest) count same p = absurd (omega arith)
  among (suc k) n [] count same p = absurd (omega arith)
  among (suc k) n (sub ∷ rest) count same p =
      one_more n sub (filter (is_number_on app store) (range_with_len (n + 1) k)) (filter (is_on store) rest)
      (let at : n ≡ n + 0 = omega arith in ap by_number at ∙ same 0)
      (among k (n + 1) rest (omega arith) (λ i. let at : n + 1 + i ≡ n + suc i = omega arith in ap by_number at ∙ same (suc i))) p

  at_position : (position : ℕ) → sub_on app store position ≡ slice_get (filter (is_on store) app.subs.items) position
  at_position position = among (length app.subs.items) 0 app.subs.items refl (λ i. let same : 0 + i ≡ i = omega arith in ap by_number same) position

  -- what stands at a position was made of something
  made_of : (sub : Sub) (found : Option SubDef) → option_map (sub_of app) found ≡ Some sub → (def : SubDef) × (found ≡ Some def)
  made_of sub None is = absurd (cc)
  made_of sub (Some def) is = (def, refl)

  -- A subscription that the store has at a position is one of the document.
  pub sub_found : (position : ℕ) (sub : Sub) → slice_get (subs_on app store) position ≡ Some sub → (def : SubDef) × (sub_on app store position ≡ Some def)
  sub_found position sub has =
      let ours : List SubDef = filter (is_on store) app.subs.items in
      let found : (def : SubDef) × (slice_get ours position ≡ Some def) =
      made_of sub (slice_get ours position) (sym (slice_get-map (sub_of app) ours position) ∙ has) in
      (found.0, at_position position ∙ found.1)

  -- A subscription of the document is the one at its position among those of its store.
  pub sub_back : (number : ℕ) (def : SubDef) → by_number number ≡ Some def → is_on store def ≡ true → sub_on app store (position_on app store number) ≡ Some def
  sub_back number def has here = at_position (position_on app store number) ∙ kept_at (is_on store) app.subs.items number def has here
