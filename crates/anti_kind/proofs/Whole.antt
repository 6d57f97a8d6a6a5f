-- What is whole at a region behind one entry more: it was whole before, where the entry ships nothing of it.
use Rattle.std.proofs.Common.{◌≡◌, ℕ, ◌+◌, ◌<◌, ◌≤◌, true, false, List, [], ◌∷◌, ◌++◌, length, get_or, sym, ap, ◌∙◌, ⊎_elim, arith}
use Rattle.std.specs.Prelude.{Contains, bytes_eq}
use Rattle.std.proofs.lemmas.Bool.{cases_lt}
use Rattle.std.proofs.lemmas.List.{get_or_append_left}
use Rattle.std.proofs.lemmas.List.Elements.{All-weaker}
use Rattle.std.proofs.lemmas.List.Sums.{AllPass-from_list_all, list_all-from_AllPass}
use Rattle.anti_kind.specs.declared.entry.Entry.{Entry}
use Rattle.anti_kind.specs.declared.row.Row.{Row}
use Rattle.anti_kind.specs.Stored.{wrote, rows, is_ship, is_shipped, parts, is_whole, shows_of}
use Rattle.anti_kind.specs.Store.{Store}
use Rattle.anti_kind.specs.Objects.{store, IsLegal}
use Rattle.anti_kind.proofs.Histories.{legal_front}
use Rattle.anti_kind.proofs.Rows.{rows_more, shipped_kept, version_at}
use Rattle.anti_kind.proofs.Shipped.{version_shipped}
use Rattle.anti_kind.proofs.Tables.{whole_came}
use Rattle.anti_kind.proofs.Showing.{same_bytes, IsGreatest, greatest_passes, greatest_least}

module _ (s : Store) (h : List Entry) (e : Entry) (l : IsLegal (store s) (h ++ e ∷ [])) (g : ℕ) where
  -- nothing of the version comes to the region
  abbrev pub ShipsNone : ℕ → Type 0
  ShipsNone v = (p : ℕ) → is_ship g v p e.call ≡ false

  whole_before : (r : Row) → ShipsNone r.version → is_whole s.kind (h ++ e ∷ []) g r ≡ true → is_whole s.kind h g r ≡ true
  whole_before r off whole =
      list_all-from_AllPass (λ p. is_shipped h g r.version p) (parts s.kind r)
      (All-weaker (λ (p : ℕ). is_shipped (h ++ e ∷ []) g r.version p ≡ true) (λ (p : ℕ). is_shipped h g r.version p ≡ true)
      (λ p on. sym (shipped_kept h e g r.version p (off p)) ∙ on) (parts s.kind r)
      (AllPass-from_list_all (λ p. is_shipped (h ++ e ∷ []) g r.version p) (parts s.kind r) whole))

  pub record WasWhole (r : Row) : Type 0 where
    pub here : Contains (rows h) r
    pub whole : is_whole s.kind h g r ≡ true

  -- A row that is whole was written before the entry, and was whole, since what a write adds is nowhere whole.
  pub was_whole : (r : Row) → ShipsNone r.version → Contains (rows (h ++ e ∷ [])) r → is_whole s.kind (h ++ e ∷ []) g r ≡ true → WasWhole r
  was_whole r off in' whole =
      let before : is_whole s.kind h g r ≡ true = whole_before r off whole in
      let number : r.version ≡ in'.0 + 1 = ap (λ (x : Row). x.version) (sym in'.2) ∙ version_at s (h ++ e ∷ []) l in'.0 r in'.1 in
      let within : r.version ≤ length (rows h) = (version_shipped s h (legal_front (store s) h (e ∷ []) l) g r.version 1 (whole_came s.kind h g r before)).1 in
      let same : get_or (rows (h ++ e ∷ [])) in'.0 r ≡ get_or (rows h) in'.0 r =
      ap (λ (rs : List Row). get_or rs in'.0 r) (rows_more h e) ∙ get_or_append_left (rows h) (wrote e.call e.reply) r in'.0 (omega arith) in
      record { here = (in'.0, omega arith, sym same ∙ in'.2); whole = before }

  -- the region shows no less than a row that was whole
  shown_before : (k : List ℕ) (r : Row) → r.key ≡ k → WasWhole r → r.version ≤ shows_of s.kind h g k
  shown_before k r key was =
      let least : (get_or (rows h) was.here.0 r).version ≤ shows_of s.kind h g k =
      greatest_least (is_whole s.kind h g) k (rows h) was.here.0 r was.here.1
      (ap (λ (x : Row). bytes_eq x.key k) was.here.2 ∙ same_bytes r.key k key) (ap (is_whole s.kind h g) was.here.2 ∙ was.whole) in
      omega (arith, ap (λ (x : Row). x.version) was.here.2)

  -- So what a region shows stays below a version where nothing of that or a later one comes there.
  pub shows_below : (k : List ℕ) (v : ℕ) → ((w : ℕ) → v ≤ w → ShipsNone w) → shows_of s.kind h g k < v → shows_of s.kind (h ++ e ∷ []) g k < v
  shows_below k v off below =
      ⊎_elim (λ (still : shows_of s.kind (h ++ e ∷ []) g k < v). still)
      (λ (reached : v ≤ shows_of s.kind (h ++ e ∷ []) g k).
      let found : (r : Row) × IsGreatest (is_whole s.kind (h ++ e ∷ []) g) k (rows (h ++ e ∷ [])) r = greatest_passes (is_whole s.kind (h ++ e ∷ []) g) k (rows (h ++ e ∷ [])) (omega arith) in
      let was : WasWhole found.0 = was_whole found.0 (off found.0.version (omega (arith, found.1.version))) found.1.here found.1.passes in
      absurd (omega (arith, found.1.version, shown_before k found.0 found.1.key was)))
      (cases_lt (shows_of s.kind (h ++ e ∷ []) g k) v)
