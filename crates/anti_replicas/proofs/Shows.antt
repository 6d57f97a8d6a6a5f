-- What a region shows after one entry more: only a shipment changes it, and it raises the version of one key.
use Rattle.std.proofs.Common.{◌≡◌, ℕ, zero, suc, ◌+◌, ◌<◌, ◌≤◌, Bool, true, false, cond, ◌||◌, ◌&&◌, max, List, [], ◌∷◌, ◌++◌, length, get_or, refl, sym, ap, ◌∙◌, ⊎_elim, ◌==◌, eq-eqb, ne_eqb, arith}
use Rattle.std.specs.Prelude.{bytes_eq}
use Rattle.std.proofs.lemmas.Bool.{or_left, and_left, and_right, cases_eq}
use Rattle.std.proofs.lemmas.List.Elements.{All-weaker}
use Rattle.std.proofs.lemmas.List.Folds.{list_all_at}
use Rattle.std.proofs.lemmas.List.FromFn.{length-range_with_len}
use Rattle.std.proofs.lemmas.List.Sums.{AllPass-from_list_all, list_all-from_AllPass}
use Rattle.anti_ids.specs.declared.id.WriteId.{WriteId}
use Rattle.anti_kind.specs.declared.call.Call.TheVariants.{Write, Ship}
use Rattle.anti_kind.specs.declared.entry.Entry.{Entry}
use Rattle.anti_kind.specs.declared.row.Row.{Row}
use Rattle.anti_kind.specs.declared.store_kind.StoreKind.{StoreKind}
use Rattle.anti_kind.proofs.FactLaws.{has_parts}
use Rattle.anti_kind.specs.Stored.{rows, is_shipped, parts_of, parts, is_whole, greatest, shows_of}
use Rattle.anti_kind.specs.Store.{Store}
use Rattle.anti_kind.specs.Objects.{store, Follows, IsLegal}
use Rattle.anti_kind.proofs.Overs.{greatest_push}
use Rattle.anti_kind.proofs.Rows.{is_write, is_shipping, new_row, rows_write, rows_other, shipped_other, shipped_ship, version_at, or_false}
use Rattle.anti_kind.proofs.Shipped.{never_shipped}
use Rattle.anti_replicas.proofs.Numbers.{all_numbers}
use Rattle.anti_replicas.proofs.Places.{and_false, max_zero}

-- The greatest version among rows that pass.

-- where the same rows pass
pub greatest_same : (a b : Row → Bool) (k : List ℕ) (rs : List Row) → ((i : ℕ) (d : Row) → i < length rs → b (get_or rs i d) ≡ a (get_or rs i d)) → greatest b k rs ≡ greatest a k rs
greatest_same a b k [] same = refl
greatest_same a b k (r ∷ rs) same =
    let first : b r ≡ a r = same 0 r (omega arith) in
    let rest : greatest b k rs ≡ greatest a k rs = greatest_same a b k rs (λ i d short. same (suc i) d (omega arith)) in
    rw (first, rest) refl

-- where none passes
pub greatest_none : (test : Row → Bool) (k : List ℕ) (rs : List Row) → ((r : Row) → test r ≡ false) → greatest test k rs ≡ 0
greatest_none test k [] none = refl
greatest_none test k (r ∷ rs) none =
    let rest : greatest test k rs ≡ 0 = greatest_none test k rs none in
    let off : (bytes_eq r.key k && test r) ≡ false = ap (λ (b : Bool). bytes_eq r.key k && b) (none r) ∙ and_false (bytes_eq r.key k) in
    rw (off, rest) refl

-- where one row more stands at the end, and does not pass
greatest_past : (test : Row → Bool) (k : List ℕ) (rs : List Row) (r : Row) → test r ≡ false → greatest test k (rs ++ r ∷ []) ≡ greatest test k rs
greatest_past test k rs r off =
    let none : (bytes_eq r.key k && test r) ≡ false = ap (λ (b : Bool). bytes_eq r.key k && b) off ∙ and_false (bytes_eq r.key k) in
    greatest_push test k rs r ∙ ap (λ (b : Bool). max (greatest test k rs) (cond b r.version 0)) none ∙ omega arith

raised : (here was now : Bool) (v rest : ℕ) → (was ≡ true → now ≡ true)
    → max (cond (here && now) v 0) rest ≡ max (cond (here && now) v 0) (max (cond (here && was) v 0) rest)
raised false was now v rest more = omega arith
raised true true true v rest more = omega arith
raised true true false v rest more = let on : false ≡ true = more refl in absurd (cc)
raised true false now v rest more = omega arith

-- where the row at one place may pass now, and passes if it did before
greatest_raised : (a b : Row → Bool) (k : List ℕ) (rs : List Row) (i : ℕ) (e : Row) → i < length rs → (a (get_or rs i e) ≡ true → b (get_or rs i e) ≡ true)
    → ((j : ℕ) (d : Row) → j < length rs → (j ≡ i → ⊥) → b (get_or rs j d) ≡ a (get_or rs j d))
    → greatest b k rs ≡ max (cond (bytes_eq (get_or rs i e).key k && b (get_or rs i e)) (get_or rs i e).version 0) (greatest a k rs)
greatest_raised a b k [] i e short more others = absurd (omega arith)
greatest_raised a b k (r ∷ rs) zero e short more others =
    let rest : greatest b k rs ≡ greatest a k rs = greatest_same a b k rs (λ j d within. others (suc j) d (omega arith) (λ is. absurd (omega (arith, is)))) in
    rw rest (raised (bytes_eq r.key k) (a r) (b r) r.version (greatest a k rs) more)
greatest_raised a b k (r ∷ rs) (suc i) e short more others =
    let rest : greatest b k rs ≡ max (cond (bytes_eq (get_or rs i e).key k && b (get_or rs i e)) (get_or rs i e).version 0) (greatest a k rs) =
    greatest_raised a b k rs i e (omega arith) more (λ j d within differs. others (suc j) d (omega arith) (λ is. differs (omega (arith, is)))) in
    let same : b r ≡ a r = others 0 r (omega arith) (λ is. absurd (omega (arith, is))) in
    rw (same, rest) (omega arith)

-- Whether a row is whole, from what was shipped of its version.

whole_as : (kind : StoreKind) (h k : List Entry) (g : ℕ) (r : Row) → ((p : ℕ) → is_shipped k g r.version p ≡ is_shipped h g r.version p) → is_whole kind k g r ≡ is_whole kind h g r
whole_as kind h k g r same = all_numbers (λ p. is_shipped k g r.version p) (λ p. is_shipped h g r.version p) (parts_of kind r.value) (λ p first last. same p)

-- where no part was shipped it is not whole
pub whole_none : (kind : StoreKind) (h : List Entry) (g : ℕ) (r : Row) → ((p : ℕ) → is_shipped h g r.version p ≡ false) → is_whole kind h g r ≡ false
whole_none kind h g r never =
    let some : 1 ≤ parts_of kind r.value = has_parts kind r.value in
    list_all_at (λ p. is_shipped h g r.version p) (parts kind r) 0 0 (omega (arith, length-range_with_len 1 (parts_of kind r.value))) (never (get_or (parts kind r) 0 0))

-- One entry more.
module _ (s : Store) (h : List Entry) (e : Entry) (l : IsLegal (store s) h) (f : Follows (store s) h e) (g : ℕ) where
  whole_other : is_shipping e.call ≡ false → (r : Row) → is_whole s.kind (h ++ e ∷ []) g r ≡ is_whole s.kind h g r
  whole_other off r = whole_as s.kind h (h ++ e ∷ []) g r (λ p. shipped_other h e g r.version p off)

  pub shows_other : is_write e.call ≡ false → is_shipping e.call ≡ false → (k : List ℕ) → shows_of s.kind (h ++ e ∷ []) g k ≡ shows_of s.kind h g k
  shows_other writes ships k =
      ap (greatest (is_whole s.kind (h ++ e ∷ []) g) k) (rows_other h e writes)
      ∙ greatest_same (is_whole s.kind h g) (is_whole s.kind (h ++ e ∷ []) g) k (rows h) (λ i d short. whole_other ships (get_or (rows h) i d))

  module _ (key value : List ℕ) (lineage : List WriteId) (is : e.call ≡ Write key value lineage) where
    new_not_whole : is_whole s.kind h g (new_row s h key value lineage) ≡ false
    new_not_whole = whole_none s.kind h g (new_row s h key value lineage) (λ p. never_shipped s h l g (length (rows h) + 1) p (omega arith))

    pub shows_write : (k : List ℕ) → shows_of s.kind (h ++ e ∷ []) g k ≡ shows_of s.kind h g k
    shows_write k =
        greatest_same (is_whole s.kind h g) (is_whole s.kind (h ++ e ∷ []) g) k (rows (h ++ e ∷ [])) (λ i d short. whole_other (ap is_shipping is) (get_or (rows (h ++ e ∷ [])) i d))
        ∙ ap (greatest (is_whole s.kind h g) k) (rows_write s h e key value lineage f is)
        ∙ greatest_past (is_whole s.kind h g) k (rows h) (new_row s h key value lineage) new_not_whole

  module _ (region version part : ℕ) (is : e.call ≡ Ship region version part) where
    -- what was shipped stays
    pub whole_stays : (r : Row) → is_whole s.kind h g r ≡ true → is_whole s.kind (h ++ e ∷ []) g r ≡ true
    whole_stays r was =
        list_all-from_AllPass (λ p. is_shipped (h ++ e ∷ []) g r.version p) (parts s.kind r)
        (All-weaker (λ (p : ℕ). is_shipped h g r.version p ≡ true) (λ (p : ℕ). is_shipped (h ++ e ∷ []) g r.version p ≡ true)
        (λ p on. shipped_ship h e g r.version p region version part is ∙ or_left (is_shipped h g r.version p) _ on) (parts s.kind r)
        (AllPass-from_list_all (λ p. is_shipped h g r.version p) (parts s.kind r) was))

    -- at another region, or of another version, nothing changes
    unchanged : (v p : ℕ) → ((region == g) && ((version == v) && (part == p))) ≡ false → is_shipped (h ++ e ∷ []) g v p ≡ is_shipped h g v p
    unchanged v p off = shipped_ship h e g v p region version part is ∙ ap (λ (b : Bool). is_shipped h g v p || b) off ∙ or_false (is_shipped h g v p)

    pub elsewhere : (region ≡ g → ⊥) → (v p : ℕ) → is_shipped (h ++ e ∷ []) g v p ≡ is_shipped h g v p
    elsewhere other v p = unchanged v p (and_left (region == g) _ (ne_eqb region g other))

    pub of_another : (v p : ℕ) → (version ≡ v → ⊥) → is_shipped (h ++ e ∷ []) g v p ≡ is_shipped h g v p
    of_another v p other = unchanged v p (and_right (region == g) _ (and_left (version == v) _ (ne_eqb version v other)))

    pub another_part : (v p : ℕ) → (part ≡ p → ⊥) → is_shipped (h ++ e ∷ []) g v p ≡ is_shipped h g v p
    another_part v p other = unchanged v p (and_right (region == g) _ (and_right (version == v) _ (ne_eqb part p other)))

    whole_elsewhere : (region ≡ g → ⊥) → (r : Row) → is_whole s.kind (h ++ e ∷ []) g r ≡ is_whole s.kind h g r
    whole_elsewhere other r = whole_as s.kind h (h ++ e ∷ []) g r (elsewhere other r.version)

    module _ (i : ℕ) (d : Row) (place : version ≡ i + 1) (short : i < length (rows h)) where
      abbrev the_row : Row
      the_row = get_or (rows h) i d

      abbrev full : ℕ → Bool
      full at = is_whole s.kind (h ++ e ∷ []) at the_row

      number : the_row.version ≡ version
      number = version_at s h l i d short ∙ sym place

      shows_here : (k : List ℕ) → region ≡ g → greatest (is_whole s.kind (h ++ e ∷ []) g) k (rows h)
          ≡ max (cond ((region == g) && (bytes_eq the_row.key k && full region)) version 0) (shows_of s.kind h g k)
      shows_here k same =
          let on : (region == g) ≡ true = eq-eqb region g same in
          greatest_raised (is_whole s.kind h g) (is_whole s.kind (h ++ e ∷ []) g) k (rows h) i d short (whole_stays the_row)
          (λ j x within differs.
          whole_as s.kind h (h ++ e ∷ []) g (get_or (rows h) j x) (λ p. of_another (get_or (rows h) j x).version p (λ eq. differs (omega (arith, eq, version_at s h l j x within)))))
          ∙ ap (λ (v : ℕ). max (cond (bytes_eq the_row.key k && full g) v 0) (shows_of s.kind h g k)) number
          ∙ ap (λ (at : ℕ). max (cond (bytes_eq the_row.key k && full at) version 0) (shows_of s.kind h g k)) (sym same)
          ∙ ap (λ (b : Bool). max (cond (b && (bytes_eq the_row.key k && full region)) version 0) (shows_of s.kind h g k)) (sym on)

      shows_there : (k : List ℕ) → (region ≡ g → ⊥) → greatest (is_whole s.kind (h ++ e ∷ []) g) k (rows h)
          ≡ max (cond ((region == g) && (bytes_eq the_row.key k && full region)) version 0) (shows_of s.kind h g k)
      shows_there k other =
          let off : (region == g) ≡ false = ne_eqb region g other in
          let same : greatest (is_whole s.kind (h ++ e ∷ []) g) k (rows h) ≡ shows_of s.kind h g k =
          greatest_same (is_whole s.kind h g) (is_whole s.kind (h ++ e ∷ []) g) k (rows h) (λ j x within. whole_elsewhere other (get_or (rows h) j x)) in
          same ∙ max_zero (shows_of s.kind h g k)
          ∙ ap (λ (b : Bool). max (cond (b && (bytes_eq the_row.key k && full region)) version 0) (shows_of s.kind h g k)) (sym off)

      -- the key of the version shows it where it is whole now
      pub shows_ship : (k : List ℕ) → shows_of s.kind (h ++ e ∷ []) g k
          ≡ max (cond ((region == g) && (bytes_eq the_row.key k && full region)) version 0) (shows_of s.kind h g k)
      shows_ship k =
          ap (greatest (is_whole s.kind (h ++ e ∷ []) g) k) (rows_other h e (ap is_write is))
          ∙ ⊎_elim (shows_here k) (shows_there k) (cases_eq region g)
