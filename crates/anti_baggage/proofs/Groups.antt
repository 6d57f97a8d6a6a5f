-- Texts in groups between bars, and there between commas.
use Rattle.std.proofs.Common.{◌≡◌, ℕ, ◌+◌, ◌-◌, ◌++◌, List, [], ◌∷◌, Bool, false, nat_eq, length, refl, sym, ap, ◌∙◌, arith}
use Rattle.std.specs.List.{All, flat_map, join_with_byte, onto_first, slice_split}
use Rattle.std.proofs.lemmas.List.{append-nil, append_assoc}
use Rattle.std.proofs.lemmas.List.Elements.{All-head, All-tail}
use Rattle.std.proofs.lemmas.List.Splits.{length-slice_split, join_with_byte-slice_split, slice_split-cons_no, slice_split_at, slice_split_none}
use Rattle.anti_ids.specs.Each.{Each}
use Rattle.anti_baggage.specs.declared.place.Place.{Place}
use Rattle.anti_baggage.specs.declared.place.Place.TheVariants.{Alone, First, Later}
use Rattle.anti_baggage.specs.Reading.{between_bars, between_commas, placed}

-- ---- cut at a mark

module _ (mark : ℕ) where
  abbrev is_mark : ℕ → Bool
  is_mark b = nat_eq b mark

  -- there is a first piece
  pub first_piece : (text : List ℕ) → (first : List ℕ) × (later : List (List ℕ)) × (slice_split (λ b. nat_eq b mark) text ≡ first ∷ later)
  first_piece text = some (slice_split is_mark text) (omega (arith, length-slice_split is_mark text)) refl
    where
      some : (pieces : List (List ℕ)) → length pieces ≡ length pieces - 1 + 1 → slice_split is_mark text ≡ pieces → (first : List ℕ) × (later : List (List ℕ)) × (slice_split is_mark text ≡ first ∷ later)
      some [] none is = absurd (omega (arith, none))
      some (first ∷ later) len is = (first, later, is)

  -- what has no mark goes before the first piece
  pub before_first_piece : (front text first : List ℕ) (later : List (List ℕ)) → All (λ b. nat_eq b mark ≡ false) front → slice_split (λ b. nat_eq b mark) text ≡ first ∷ later
      → slice_split (λ b. nat_eq b mark) (front ++ text) ≡ (front ++ first) ∷ later
  before_first_piece [] text first later clear is = is
  before_first_piece (b ∷ bs) text first later clear is =
      slice_split-cons_no is_mark b (bs ++ text) (All-head (λ x. nat_eq x mark ≡ false) b bs clear)
      ∙ ap (onto_first b) (before_first_piece bs text first later (All-tail (λ x. nat_eq x mark ≡ false) b bs clear) is)

-- ---- pieces of texts that go on

-- the pieces of groups, of which the first begins at a place
abbrev pub led : Place → List (List ℕ) → List (Place × List ℕ)
led place [] = []
led place (group ∷ groups) = between_commas place Later group ++ flat_map (between_commas First Later) groups

abbrev pub groups_of : List ℕ → List (List ℕ)
groups_of text = slice_split (λ b. nat_eq b 124) text

pub led_first : (text : List ℕ) → between_bars text ≡ led First (groups_of text)
led_first text = all (groups_of text)
  where
    all : (groups : List (List ℕ)) → flat_map (between_commas First Later) groups ≡ led First groups
    all [] = refl
    all (group ∷ groups) = refl

module _ (text : List ℕ) (commas : All (λ b. nat_eq b 44 ≡ false) text) (bars : All (λ b. nat_eq b 124 ≡ false) text) where
  -- one piece
  pub last_piece : (place : Place) → led place (groups_of text) ≡ (place, text) ∷ []
  last_piece place =
      ap (led place) (slice_split_none (λ b. nat_eq b 124) text bars)
      ∙ ap (λ (pieces : List (List ℕ)). placed place Later pieces ++ []) (slice_split_none (λ b. nat_eq b 44) text commas)

  -- a piece before a comma, and before a bar
  pub before_comma : (place : Place) (rest : List ℕ) → led place (groups_of (text ++ 44 ∷ rest)) ≡ (place, text) ∷ led Later (groups_of rest)
  before_comma place rest =
      let cut = first_piece 124 rest in
      let groups = flat_map (between_commas First Later) cut.1 in
      let whole : groups_of (text ++ 44 ∷ rest) ≡ (text ++ 44 ∷ cut.0) ∷ cut.1 =
      before_first_piece 124 text (44 ∷ rest) (44 ∷ cut.0) cut.1 bars (slice_split-cons_no (λ b. nat_eq b 124) 44 rest refl ∙ ap (onto_first 44) cut.2) in
      ap (led place) whole
      ∙ ap (λ (pieces : List (List ℕ)). placed place Later pieces ++ groups) (slice_split_at (λ b. nat_eq b 44) text 44 cut.0 commas refl)
      ∙ ap (λ (pieces : List (List ℕ)). (place, text) ∷ led Later pieces) (sym cut.2)

  pub before_bar : (place : Place) (rest : List ℕ) → led place (groups_of (text ++ 124 ∷ rest)) ≡ (place, text) ∷ led First (groups_of rest)
  before_bar place rest =
      ap (led place) (slice_split_at (λ b. nat_eq b 124) text 124 rest bars refl)
      ∙ ap (λ (pieces : List (List ℕ)). placed place Later pieces ++ flat_map (between_commas First Later) (groups_of rest)) (slice_split_none (λ b. nat_eq b 44) text commas)
      ∙ ap (λ (pieces : List (Place × List ℕ)). (place, text) ∷ pieces) (led_first rest)

-- ---- pieces as they are written

-- a piece behind what stands before it
abbrev pub marked : Place → List ℕ → List ℕ
marked First text = 124 ∷ text
marked place text = 44 ∷ text

abbrev pub written : List (Place × List ℕ) → List ℕ
written [] = []
written (piece ∷ pieces) = marked piece.0 piece.1 ++ written pieces

written_both : (ps qs : List (Place × List ℕ)) → written (ps ++ qs) ≡ written ps ++ written qs
written_both [] qs = refl
written_both (p ∷ ps) qs = ap (λ (t : List ℕ). marked p.0 p.1 ++ t) (written_both ps qs) ∙ sym (append_assoc (marked p.0 p.1) (written ps) (written qs))

later_written : (text : List ℕ) (texts : List (List ℕ)) → text ++ written (placed Later Later texts) ≡ join_with_byte 44 (text ∷ texts)
later_written text [] = append-nil text
later_written text (next ∷ texts) = ap (λ (t : List ℕ). text ++ 44 ∷ t) (later_written next texts)

group_written : (group : List ℕ) → written (between_commas First Later group) ≡ 124 ∷ group
group_written group =
    let cut = first_piece 44 group in
    ap (λ (pieces : List (List ℕ)). written (placed First Later pieces)) cut.2
    ∙ ap (λ (t : List ℕ). 124 ∷ t) (later_written cut.0 cut.1 ∙ ap (join_with_byte 44) (sym cut.2) ∙ join_with_byte-slice_split 44 group)

groups_written : (group : List ℕ) (groups : List (List ℕ)) → written (flat_map (between_commas First Later) (group ∷ groups)) ≡ 124 ∷ join_with_byte 124 (group ∷ groups)
groups_written group [] =
    written_both (between_commas First Later group) [] ∙ append-nil (written (between_commas First Later group)) ∙ group_written group
groups_written group (next ∷ groups) =
    written_both (between_commas First Later group) (flat_map (between_commas First Later) (next ∷ groups))
    ∙ ap (λ (t : List ℕ). t ++ written (flat_map (between_commas First Later) (next ∷ groups))) (group_written group)
    ∙ ap (λ (t : List ℕ). 124 ∷ (group ++ t)) (groups_written next groups)

-- the pieces of a text make the text again
pub text_again : (text : List ℕ) → written (between_bars text) ≡ 124 ∷ text
text_again text =
    let cut = first_piece 124 text in
    ap (λ (groups : List (List ℕ)). written (flat_map (between_commas First Later) groups)) cut.2
    ∙ groups_written cut.0 cut.1
    ∙ ap (λ (groups : List (List ℕ)). 124 ∷ join_with_byte 124 groups) (sym cut.2)
    ∙ ap (λ (t : List ℕ). 124 ∷ t) (join_with_byte-slice_split 124 text)

-- each stands in a group
abbrev pub IsInGroup : Place → Type 0
IsInGroup Alone = ⊥
IsInGroup place = Unit {0}

in_group_both : (ps qs : List (Place × List ℕ)) → Each (λ p. IsInGroup p.0) ps → Each (λ p. IsInGroup p.0) qs → Each (λ p. IsInGroup p.0) (ps ++ qs)
in_group_both [] qs all more = more
in_group_both (p ∷ ps) qs all more = (all.0, in_group_both ps qs all.1 more)

in_group_placed : (front : Place) (texts : List (List ℕ)) → IsInGroup front → Each (λ p. IsInGroup p.0) (placed front Later texts)
in_group_placed front [] is = tt
in_group_placed front (text ∷ texts) is = (is, in_group_placed Later texts tt)

pub in_groups : (text : List ℕ) → Each (λ p. IsInGroup p.0) (between_bars text)
in_groups text = all (groups_of text)
  where
    all : (groups : List (List ℕ)) → Each (λ p. IsInGroup p.0) (flat_map (between_commas First Later) groups)
    all [] = tt
    all (group ∷ groups) = in_group_both (between_commas First Later group) (flat_map (between_commas First Later) groups) (in_group_placed First (slice_split (λ b. nat_eq b 44) group) tt) (all groups)
