-- Texts and lineages belong together.
use Rattle.std.proofs.Common.{◌≡◌, ℕ, zero, suc, ◌+◌, ◌<◌, ◌≤◌, ◌^◌, ◌++◌, List, [], ◌∷◌, Bool, true, false, not, cond, ◌&&◌, Option, Some, None, Ok, Err, nat_eq, nat_lt, length, take, drop, get_or, map, refl, sym, ap, subst, ◌∙◌, inl, inr, arith}
use Rattle.std.specs.Prelude.{◌⊎◌, ◌≢◌, IfSome, Result, codes, position}
use Rattle.std.specs.Bool.{then_some}
use Rattle.std.specs.Fmt.{decimal}
use Rattle.std.specs.List.{All, list_all, list_any, position_from, join_by, join_with_byte, flat_map, slice_split, before_first, after_first}
use Rattle.std.specs.Str.{bytes_eq}
use Rattle.std.specs.declared.cmp.Ordering.TheVariants.{Less, Equal, Greater}
use Rattle.std.specs.declared.cmp.Ordering.{Ordering}
use Rattle.std.proofs.lemmas.Bool.{and_parts, both_ways, not-true, or_parts, cond-true, cond-false, eq-eqb, eqb-true, false_from_ne_true, le-ltb, lt-ltb, ltb-false, ltb-true, ne_eqb}
use Rattle.std.proofs.lemmas.Fmt.{decimal_nonempty}
use Rattle.std.proofs.lemmas.Iterator.Adapters.{position_from-zero}
use Rattle.std.proofs.lemmas.List.{append-nil, length-append, take-append-drop}
use Rattle.std.proofs.lemmas.List.Elements.{All-weaker, All-append, All-cons, All-nil}
use Rattle.std.proofs.lemmas.List.Quantifiers.{position-Some}
use Rattle.std.proofs.lemmas.List.Splits.{slice_split_none, slice_split_at, join_with_byte-slice_split}
use Rattle.std.proofs.lemmas.Option.{unwrap_or-slice_get}
use Rattle.percent_encoding.specs.Percent.{percent_decode}
use Rattle.anti_ids.specs.Each.{Each}
use Rattle.anti_ids.specs.Invariants.{IsAscending}
use Rattle.anti_ids.specs.Ids.{id_cmp}
use Rattle.anti_ids.specs.Names.{is_name}
use Rattle.anti_ids.specs.declared.id.WriteId.{WriteId}
use Rattle.anti_ids.proofs.Decimals.{decimal_back}
use Rattle.anti_ids.specs.declared.limits.TheConstants.{GREATEST_VERSION, MOST_IDS}
use Rattle.anti_ids.proofs.IdLemmas.{each_weaker, id_total}
use Rattle.anti_baggage.specs.declared.fault.BaggageFault.{BaggageFault}
use Rattle.anti_baggage.specs.declared.fault.BaggageFault.TheVariants.{BadHead}
use Rattle.anti_baggage.specs.Escapes.{escaped}
use Rattle.anti_baggage.specs.Texts.{grouped_text, groups_text, id_text, keyed_text, lineage_text, lineage_text_one, named_text, store_name}
use Rattle.anti_baggage.specs.Over.{IsIdOver, IsOver, are_distinct, are_names}
use Rattle.anti_baggage.specs.declared.place.Place.{Place}
use Rattle.anti_baggage.specs.declared.place.Place.TheVariants.{Alone, First, Later}
use Rattle.anti_baggage.specs.Reading.{Named, and_further, before_further, between_bars, grouped_pieces, id_in, id_in_order, id_keyed, id_named, ids_in, is_above, is_less, keyed_by, keyed_in, may_follow, name_in, named_by, named_in, pieces, placed, read_lineage, version_in}
use Rattle.anti_baggage.specs.Laws.{StatesItsLineage, IsItsText}
use Rattle.anti_baggage.proofs.Behind.{IsFound, groups_some, id_found, later_found, piece_above, pieces_some}
use Rattle.anti_baggage.proofs.Bytes.{same, same_itself}
use Rattle.anti_baggage.proofs.Marks.{IsClear, clear_escaped, clear_decimal, cut_or_none}
use Rattle.anti_baggage.proofs.Groups.{IsInGroup, before_bar, before_comma, groups_of, in_groups, last_piece, led, led_first, marked, text_again, written}
use Rattle.anti_baggage.proofs.Written.{key_first, keyed_again, named_again, store_first}
use Rattle.anti_ids.proofs.StoreLemmas.{store_rises}

-- ---- the stores

name_at : (stores : List (List ℕ)) (store : ℕ) → store < length stores → list_all is_name stores ≡ true → is_name (store_name stores store) ≡ true
name_at [] store lt h = absurd (omega (arith, lt))
name_at (name ∷ names) zero lt h = (and_parts (is_name name) (list_all is_name names) h).0
name_at (name ∷ names) (suc store) lt h = name_at names store (omega (arith, lt)) (and_parts (is_name name) (list_all is_name names) h).1

-- a name that is not the first is another
other_name : (name : List ℕ) (names : List (List ℕ)) (store : ℕ) → store < length names → list_any (bytes_eq name) names ≡ false → bytes_eq (store_name names store) name ≡ false
other_name name [] store lt h = absurd (omega (arith, lt))
other_name name (n ∷ ns) zero lt h =
    let differ = (or_parts (bytes_eq name n) (list_any (bytes_eq name) ns) h).0 in
    false_from_ne_true (bytes_eq n name) (λ e. both_ways (bytes_eq name n) differ (ap (λ (t : List ℕ). bytes_eq name t) (same n name e) ∙ same_itself name))
other_name name (n ∷ ns) (suc store) lt h = other_name name ns store (omega (arith, lt)) (or_parts (bytes_eq name n) (list_any (bytes_eq name) ns) h).1

found_from : (stores : List (List ℕ)) (store from : ℕ) → store < length stores → are_distinct stores ≡ true → position_from (bytes_eq (store_name stores store)) from stores ≡ Some (from + store)
found_from [] store from lt h = absurd (omega (arith, lt))
found_from (name ∷ names) zero from lt h =
    cond-true _ _ _ (same_itself name) ∙ ap Some (omega arith)
found_from (name ∷ names) (suc store) from lt h =
    let parts = and_parts (not (list_any (bytes_eq name) names)) (are_distinct names) h in
    let differ : bytes_eq (store_name names store) name ≡ false = other_name name names store (omega (arith, lt)) (not-true (list_any (bytes_eq name) names) parts.0) in
    cond-false _ _ _ differ ∙ found_from names store (from + 1) (omega (arith, lt)) parts.1 ∙ ap Some (omega arith)

-- a store is found by its name
store_found : (stores : List (List ℕ)) (store : ℕ) → store < length stores → are_distinct stores ≡ true → position (bytes_eq (store_name stores store)) stores ≡ Some store
store_found stores store lt h = position_from-zero (bytes_eq (store_name stores store)) stores ∙ found_from stores store 0 lt h ∙ ap Some (omega arith)

-- the pieces of ids in their groups
abbrev grouped_piece : List (List ℕ) → Option WriteId → WriteId → Place × List ℕ
grouped_piece stores None id = (First, id_text stores id)
grouped_piece stores (Some before) id = cond (nat_eq id.store before.store) (Later, keyed_text id.key id.version) (First, id_text stores id)

abbrev grouped_pieces_of : List (List ℕ) → Option WriteId → List WriteId → List (Place × List ℕ)
grouped_pieces_of stores before [] = []
grouped_pieces_of stores before (id ∷ ids) = grouped_piece stores before id ∷ grouped_pieces_of stores (Some id) ids

-- ---- what is written is read

-- Pieces are ids, one for each, behind the one before them.
abbrev Reads : List (List ℕ) → Option WriteId → List (Place × List ℕ) → List WriteId → Type 0
Reads stores before [] [] = Unit {0}
Reads stores before (p ∷ ps) (i ∷ is) = ((at : ℕ) → at ≤ MOST_IDS → id_in stores before at p ≡ Ok i) × Reads stores (Some i) ps is
Reads stores before ps is = ⊥

all_again : (stores : List (List ℕ)) (ps : List (Place × List ℕ)) (is : List WriteId) (before : Option WriteId) (at : ℕ) → Reads stores before ps is → at + length is ≤ MOST_IDS + 1 → ids_in stores before at ps ≡ Ok is
all_again stores [] [] before at reads few = refl
all_again stores [] (i ∷ is) before at reads few = absurd reads
all_again stores (p ∷ ps) [] before at reads few = absurd reads
all_again stores (p ∷ ps) (i ∷ is) before at reads few =
    ap (λ (r : Result WriteId BaggageFault). and_further r (λ (k : WriteId). ids_in stores (Some k) (suc at) ps)) (reads.0 at (omega (arith, few)))
    ∙ ap (before_further i) (all_again stores ps is (Some i) (suc at) reads.1 (omega (arith, few)))

module _ (stores : List (List ℕ)) (names : are_names stores ≡ true) where
  parts : (list_all is_name stores ≡ true) × (are_distinct stores ≡ true)
  parts = and_parts (list_all is_name stores) (are_distinct stores) names

  id_again : (id : WriteId) (place : Place) (before : Option WriteId) (at : ℕ) → IsIdOver stores id → 1 ≤ id.version → may_follow place before id ≡ true → at ≤ MOST_IDS → id_named stores place before at (named_in (id_text stores id)) ≡ Ok id
  id_again id place before at over written follows within =
      let read = named_again (store_name stores id.store) id.key id.version (name_at stores id.store over.0 parts.0) over.1 written over.2 in
      let here = store_found stores id.store over.0 parts.1 in
      let few : nat_lt MOST_IDS at ≡ false = le-ltb MOST_IDS at within in
      rw (read, here, follows, few) refl

  -- version 1
  ones_again : (ids : List WriteId) (before : Option WriteId) → Each (IsIdOver stores) ids → Each (λ i. 1 ≤ i.version) ids → Each (λ i. is_above before i ≡ true) ids → IsAscending ids
      → Reads stores before (placed Alone Alone (map (id_text stores) ids)) ids
  ones_again [] before over written above asc = tt
  ones_again (i ∷ is) before over written above asc =
      let next : Each (λ j. is_above (Some i) j ≡ true) is = each_weaker (λ j. id_cmp i j ≡ Less) (λ j. is_above (Some i) j ≡ true) (λ j l. ap is_less l) is asc.0 in
      (λ at within. id_again i Alone before at over.0 written.0 above.0 within, ones_again is (Some i) over.1 written.1 next asc.1)

  -- version 2
  later_again : (b i : WriteId) (at : ℕ) → IsIdOver stores i → 1 ≤ i.version → is_above (Some b) i ≡ true → i.store ≡ b.store → at ≤ MOST_IDS → id_keyed (Some b) at (keyed_in (keyed_text i.key i.version)) ≡ Ok i
  later_again b i at over written above same within =
      let read = keyed_again i.key i.version over.1 written over.2 in
      let few : nat_lt MOST_IDS at ≡ false = le-ltb MOST_IDS at within in
      ap (id_keyed (Some b) at) read
      ∙ ap (λ (s : ℕ). id_in_order Later (Some b) at (record { store = s; key = i.key; version = i.version })) (sym same)
      ∙ rw (above, few) refl

  later_store : (b i : WriteId) → id_cmp b i ≡ Less → nat_eq i.store b.store ≡ false → nat_lt b.store i.store ≡ true
  later_store b i less other = lt-ltb b.store i.store (omega (arith, store_rises b i less, λ (e : i.store ≡ b.store). both_ways (nat_eq i.store b.store) other (eq-eqb i.store b.store e)))

  grouped_again : (b i : WriteId) (here : Bool) → nat_eq i.store b.store ≡ here → IsIdOver stores i → 1 ≤ i.version → id_cmp b i ≡ Less → (at : ℕ) → at ≤ MOST_IDS
      → id_in stores (Some b) at (cond here (Later, keyed_text i.key i.version) (First, id_text stores i)) ≡ Ok i
  grouped_again b i true same over written less at within = later_again b i at over written (ap is_less less) (eqb-true i.store b.store same) within
  grouped_again b i false other over written less at within = id_again i First (Some b) at over written (later_store b i less other) within

  groups_again : (ids : List WriteId) (b : WriteId) → Each (IsIdOver stores) ids → Each (λ i. 1 ≤ i.version) ids → Each (λ i. id_cmp b i ≡ Less) ids → IsAscending ids
      → Reads stores (Some b) (grouped_pieces_of stores (Some b) ids) ids
  groups_again [] b over written above asc = tt
  groups_again (i ∷ is) b over written above asc =
      (λ at within. grouped_again b i (nat_eq i.store b.store) refl over.0 written.0 above.0 at within, groups_again is i over.1 written.1 asc.0 asc.1)

  all_groups_again : (ids : List WriteId) → Each (IsIdOver stores) ids → Each (λ i. 1 ≤ i.version) ids → IsAscending ids → Reads stores None (grouped_pieces_of stores None ids) ids
  all_groups_again [] over written asc = tt
  all_groups_again (i ∷ is) over written asc = (λ at within. id_again i First None at over.0 written.0 refl within, groups_again is i over.1 written.1 asc.0 asc.1)

  -- none of its bytes is a comma or a bar
  clear_keyed : (P : ℕ → Type 0) → ((b : ℕ) → IsClear b → P b) → P 64 → (id : WriteId) → IsIdOver stores id → All P (keyed_text id.key id.version)
  clear_keyed P clear at id over =
      let key = All-weaker IsClear P clear (escaped id.key) (clear_escaped id.key) in
      let version = All-weaker IsClear P clear (decimal id.version) (clear_decimal id.version over.2) in
      All-append P _ _ (All-append P _ _ key (All-cons P 64 [] at (All-nil P))) version

  clear_text : (P : ℕ → Type 0) → ((b : ℕ) → IsClear b → P b) → P 47 → P 64 → (id : WriteId) → IsIdOver stores id → All P (id_text stores id)
  clear_text P clear slash at id over =
      let store = All-weaker IsClear P clear (escaped (store_name stores id.store)) (clear_escaped (store_name stores id.store)) in
      All-append P _ _ (All-append P _ _ store (All-cons P 47 [] slash (All-nil P))) (clear_keyed P clear at id over)

-- cut at the commas, the text of ids gives the texts of each
split_join : (f : WriteId → List ℕ) (ids : List WriteId) (i : WriteId) → All (λ b. nat_eq b 44 ≡ false) (f i) → Each (λ j. All (λ b. nat_eq b 44 ≡ false) (f j)) ids
    → slice_split (λ b. nat_eq b 44) (f i ++ flat_map (λ j. codes "," ++ f j) ids) ≡ f i ∷ map f ids
split_join f [] i first rest = ap (slice_split (λ b. nat_eq b 44)) (append-nil (f i)) ∙ slice_split_none (λ b. nat_eq b 44) (f i) first
split_join f (j ∷ js) i first rest =
    slice_split_at (λ b. nat_eq b 44) (f i) 44 (f j ++ flat_map (λ k. codes "," ++ f k) js) first refl
    ∙ ap (λ (t : List (List ℕ)). f i ∷ t) (split_join f js j rest.0 rest.1)

some_text : (stores : List (List ℕ)) (id : WriteId) → 0 < length (id_text stores id)
some_text stores id =
    let front = escaped (store_name stores id.store) in
    omega (arith, length-append (front ++ codes "/") (keyed_text id.key id.version), length-append front (codes "/"))

some_front : (front rest : List ℕ) → 0 < length front → false ≡ nat_eq (length (front ++ rest)) 0
some_front front rest some = sym (ne_eqb (length (front ++ rest)) 0 (λ none. omega (arith, none, length-append front rest, some)))

module _ (stores : List (List ℕ)) (names : are_names stores ≡ true) where
  abbrev NoComma : ℕ → Type 0
  NoComma b = nat_eq b 44 ≡ false

  abbrev NoBar : ℕ → Type 0
  NoBar b = nat_eq b 124 ≡ false

  no_comma : (id : WriteId) → IsIdOver stores id → All NoComma (id_text stores id)
  no_comma id over = clear_text stores names NoComma (λ b c. c.0) refl refl id over

  no_bar : (id : WriteId) → IsIdOver stores id → All NoBar (id_text stores id)
  no_bar id over = clear_text stores names NoBar (λ b c. c.3) refl refl id over

  pieces_again : (ids : List WriteId) → Each (IsIdOver stores) ids → pieces (join_by (id_text stores) (codes ",") ids) ≡ placed Alone Alone (map (id_text stores) ids)
  pieces_again [] over = refl
  pieces_again (i ∷ is) over =
      let f = id_text stores in
      let rest = flat_map (λ j. codes "," ++ f j) is in
      pieces_some (f i ++ rest) (some_front (f i) rest (some_text stores i))
      ∙ ap (placed Alone Alone) (split_join f is i (no_comma i over.0) (each_weaker (IsIdOver stores) (λ j. All NoComma (f j)) (λ j o. no_comma j o) is over.1))

  -- a piece before ids that go on
  goes_on : (here : Bool) (place : Place) (text keyed named rest : List ℕ) (more : List (Place × List ℕ)) → All NoComma text → All NoBar text
      → led Later (groups_of (keyed ++ rest)) ≡ (Later, keyed) ∷ more → led First (groups_of (named ++ rest)) ≡ (First, named) ∷ more
      → led place (groups_of (text ++ (cond here (codes "," ++ keyed) (codes "|" ++ named) ++ rest))) ≡ (place, text) ∷ (cond here (Later, keyed) (First, named) ∷ more)
  goes_on true place text keyed named rest more commas bars later first = before_comma text commas bars place (keyed ++ rest) ∙ ap (λ (ps : List (Place × List ℕ)). (place, text) ∷ ps) later
  goes_on false place text keyed named rest more commas bars later first = before_bar text commas bars place (named ++ rest) ∙ ap (λ (ps : List (Place × List ℕ)). (place, text) ∷ ps) first

  cut_again : (ids : List WriteId) (i : WriteId) (place : Place) (text : List ℕ) → Each (IsIdOver stores) ids → All NoComma text → All NoBar text
      → led place (groups_of (text ++ groups_text stores (Some i) ids)) ≡ (place, text) ∷ grouped_pieces_of stores (Some i) ids
  cut_again [] i place text over commas bars = ap (λ (t : List ℕ). led place (groups_of t)) (append-nil text) ∙ last_piece text commas bars place
  cut_again (j ∷ js) i place text over commas bars =
      let keyed = keyed_text j.key j.version in
      goes_on (nat_eq j.store i.store) place text keyed (id_text stores j) (groups_text stores (Some j) js) (grouped_pieces_of stores (Some j) js) commas bars
      (cut_again js j Later keyed over.1 (clear_keyed stores names NoComma (λ b c. c.0) refl j over.0) (clear_keyed stores names NoBar (λ b c. c.3) refl j over.0))
      (cut_again js j First (id_text stores j) over.1 (no_comma j over.0) (no_bar j over.0))

  groups_cut : (ids : List WriteId) → Each (IsIdOver stores) ids → grouped_pieces (groups_text stores None ids) ≡ grouped_pieces_of stores None ids
  groups_cut [] over = refl
  groups_cut (i ∷ is) over =
      let text = id_text stores i in
      let rest = groups_text stores (Some i) is in
      groups_some (text ++ rest) (some_front text rest (some_text stores i)) ∙ led_first (text ++ rest) ∙ cut_again is i First text over.1 (no_comma i over.0) (no_bar i over.0)

  none_above : (ids : List WriteId) → Each (λ i. is_above None i ≡ true) ids
  none_above [] = tt
  none_above (i ∷ is) = (refl, none_above is)

  one_again : (ids : List WriteId) → IsOver stores ids → read_lineage stores (lineage_text_one stores ids) ≡ Ok ids
  one_again ids over =
      ap (ids_in stores None 1) (pieces_again ids over.each)
      ∙ all_again stores (placed Alone Alone (map (id_text stores) ids)) ids None 1 (ones_again stores names ids None over.each over.lineage.written (none_above ids) over.lineage.ascending) (omega (arith, over.lineage.short))

  two_again : (ids : List WriteId) → IsOver stores ids → read_lineage stores (lineage_text stores ids) ≡ Ok ids
  two_again ids over =
      ap (ids_in stores None 1) (groups_cut ids over.each)
      ∙ all_again stores (grouped_pieces_of stores None ids) ids None 1 (all_groups_again stores names ids over.each over.lineage.written over.lineage.ascending) (omega (arith, over.lineage.short))

pub states_its_lineage : StatesItsLineage lineage_text
states_its_lineage stores ids names over = two_again stores names ids over

pub one_states_its_lineage : StatesItsLineage lineage_text_one
one_states_its_lineage stores ids names over = one_again stores names ids over

-- ---- what is read is what is written

found_some : {X : Type 0} (b : Bool) (x y : X) → then_some b x ≡ Some y → (b ≡ true) × (x ≡ y)
found_some true x y h = (refl, cc)
found_some false x y h = absurd (cc)

name_back : (text name : List ℕ) → name_in text ≡ Some name → (is_name name ≡ true) × (text ≡ escaped name)
name_back text name h =
    let decoded = percent_decode text in
    let known = found_some (is_name decoded && bytes_eq (escaped decoded) text) decoded name h in
    let tests = and_parts (is_name decoded) (bytes_eq (escaped decoded) text) known.0 in
    (ap is_name (sym known.1) ∙ tests.0, sym (same (escaped decoded) text tests.1) ∙ ap escaped known.1)

version_back : (text : List ℕ) (version : ℕ) → version_in text ≡ Some version → (1 ≤ version) × (version < 2 ^ 64) × (text ≡ decimal version)
version_back text version h =
    let back = decimal_back 1 GREATEST_VERSION text version h in
    (back.0, omega (arith, back.1), back.2)

keyed_parts : (key : Option (List ℕ)) (version : Option ℕ) (keyed : List ℕ × ℕ) → keyed_by key version ≡ Some keyed → (key ≡ Some keyed.0) × (version ≡ Some keyed.1)
keyed_parts None version keyed e = absurd (cc)
keyed_parts (Some key) None keyed e = absurd (cc)
keyed_parts (Some key) (Some version) keyed e =
    let made : List ℕ × ℕ = (key, version) in
    let is : made ≡ keyed = cc in
    (ap (λ (k : List ℕ × ℕ). Some k.0) is, ap (λ (k : List ℕ × ℕ). Some k.1) is)

-- what a text says that is a key and a version
record IsKeyed (text key : List ℕ) (version : ℕ) : Type 0 where
  spelled : text ≡ keyed_text key version
  some : 0 < length text
  key_is : is_name key ≡ true
  written : 1 ≤ version
  small : version < 2 ^ 64

keyed_back : (text : List ℕ) (keyed : List ℕ × ℕ) → keyed_in text ≡ Some keyed → IsKeyed text keyed.0 keyed.1
keyed_back text keyed h =
    let middle = before_first (λ b. nat_eq b 64) text in
    let tail = after_first (λ b. nat_eq b 64) text in
    let read = keyed_parts (name_in middle) (version_in tail) keyed h in
    let key = name_back middle keyed.0 read.0 in
    let version = version_back tail keyed.1 read.1 in
    let some : 0 < length tail = omega (arith, ap length version.2, decimal_nonempty keyed.1 version.1) in
    let is : text ≡ middle ++ 64 ∷ tail = elim (cut_or_none 64 text) [ inl e ↦ e | inr none ↦ absurd (omega (arith, some, ap length none)) ] in
    record {
      spelled = is ∙ ap (λ (t : List ℕ). t ++ 64 ∷ tail) key.1 ∙ ap (λ (t : List ℕ). escaped keyed.0 ++ 64 ∷ t) version.2 ∙ sym (key_first keyed.0 keyed.1);
      some = omega (arith, ap length is, length-append middle (64 ∷ tail));
      key_is = key.0;
      written = version.0;
      small = version.1;
    }

named_parts : (store : Option (List ℕ)) (keyed : Option (List ℕ × ℕ)) (named : Named) → named_by store keyed ≡ Some named → (store ≡ Some named.store) × (keyed ≡ Some (named.key, named.version))
named_parts None keyed named e = absurd (cc)
named_parts (Some store) None named e = absurd (cc)
named_parts (Some store) (Some keyed) named e =
    let made : Named = record { store = store; key = keyed.0; version = keyed.1 } in
    let is : made ≡ named = cc in
    (ap (λ (n : Named). Some n.store) is, ap (λ (n : Named). Some (n.key, n.version)) is)

-- what a text that is an id says
record IsNamed (text : List ℕ) (named : Named) : Type 0 where
  spelled : text ≡ named_text named.store named.key named.version
  key : is_name named.key ≡ true
  written : 1 ≤ named.version
  small : named.version < 2 ^ 64

named_back : (text : List ℕ) (named : Named) → named_in text ≡ Some named → IsNamed text named
named_back text named h =
    let head = before_first (λ b. nat_eq b 47) text in
    let rest = after_first (λ b. nat_eq b 47) text in
    let read = named_parts (name_in head) (keyed_in rest) named h in
    let store = name_back head named.store read.0 in
    let keyed = keyed_back rest (named.key, named.version) read.1 in
    let is : text ≡ head ++ 47 ∷ rest = elim (cut_or_none 47 text) [ inl e ↦ e | inr none ↦ absurd (omega (arith, keyed.some, ap length none)) ] in
    record {
      spelled = is ∙ ap (λ (t : List ℕ). t ++ 47 ∷ rest) store.1 ∙ ap (λ (t : List ℕ). escaped named.store ++ 47 ∷ t) keyed.spelled ∙ sym (store_first named.store named.key named.version);
      key = keyed.key_is;
      written = keyed.written;
      small = keyed.small;
    }

less_from : (o : Ordering) → is_less o ≡ true → o ≡ Less
less_from Less h = refl
less_from Equal h = absurd (cc)
less_from Greater h = absurd (cc)

-- what is above an id is above what that is above
above_further : (before : Option WriteId) (i j : WriteId) → is_above before i ≡ true → is_above (Some i) j ≡ true → is_above before j ≡ true
above_further None i j above further = refl
above_further (Some b) i j above further = ap is_less (id_total.trans b i j (less_from (id_cmp b i) above) (less_from (id_cmp i j) further))

rest_of : (i : WriteId) (rest : Result (List WriteId) BaggageFault) (ids : List WriteId) → before_further i rest ≡ Ok ids → (is : List WriteId) × (rest ≡ Ok is) × (ids ≡ i ∷ is)
rest_of i (Ok is) ids e = (is, refl, cc)
rest_of i (Err fault) ids e = absurd (cc)

one_further : (read : Result WriteId BaggageFault) (further : WriteId → Result (List WriteId) BaggageFault) (ids : List WriteId) → and_further read further ≡ Ok ids
    → (i : WriteId) × (is : List WriteId) × (read ≡ Ok i) × (further i ≡ Ok is) × (ids ≡ i ∷ is)
one_further (Err fault) further ids e = absurd (cc)
one_further (Ok i) further ids e = let rest = rest_of i (further i) ids e in (i, rest.0, refl, rest.1, rest.2)

-- a piece as it is written of an id behind the one before it
abbrev IsSpelled : List (List ℕ) → Option WriteId → Place → List ℕ → WriteId → Type 0
IsSpelled stores before Alone text id = text ≡ id_text stores id
IsSpelled stores None First text id = text ≡ id_text stores id
IsSpelled stores (Some before) First text id = (text ≡ id_text stores id) × (before.store < id.store)
IsSpelled stores None Later text id = ⊥
IsSpelled stores (Some before) Later text id = (text ≡ keyed_text id.key id.version) × (id.store ≡ before.store)

abbrev AreSpelled : List (List ℕ) → Option WriteId → List (Place × List ℕ) → List WriteId → Type 0
AreSpelled stores before [] [] = Unit {0}
AreSpelled stores before (p ∷ ps) (i ∷ is) = IsSpelled stores before p.0 p.1 i × AreSpelled stores (Some i) ps is
AreSpelled stores before ps is = ⊥

module _ (stores : List (List ℕ)) where
  -- what is known of ids that were read from pieces
  record AreRead (before : Option WriteId) (at : ℕ) (pieces : List (Place × List ℕ)) (ids : List WriteId) : Type 0 where
    spelled : AreSpelled stores before pieces ids
    over : Each (IsIdOver stores) ids
    written : Each (λ i. 1 ≤ i.version) ids
    above : Each (λ i. is_above before i ≡ true) ids
    ascending : IsAscending ids
    few : at + length ids ≤ MOST_IDS + 1

  record IsRead (before : Option WriteId) (at : ℕ) (place : Place) (text : List ℕ) (id : WriteId) : Type 0 where
    spelled : IsSpelled stores before place text id
    over : IsIdOver stores id
    written : 1 ≤ id.version
    within : nat_lt MOST_IDS at ≡ false

  record IsText (text : List ℕ) (id : WriteId) : Type 0 where
    spelled : text ≡ id_text stores id
    over : IsIdOver stores id
    written : 1 ≤ id.version

  text_back : (place : Place) (before : Option WriteId) (at : ℕ) (text : List ℕ) (id : WriteId) → IsFound stores place before at (named_in text) id → IsText text id
  text_back place before at text id f =
      let named = named_back text f.found f.is in
      let here = position-Some (bytes_eq f.found.store) stores id.store [] f.store in
      let store : f.found.store ≡ store_name stores id.store = same f.found.store (get_or stores id.store []) here.1 ∙ sym (unwrap_or-slice_get stores id.store []) in
      record {
        spelled = named.spelled ∙ ap (λ (s : List ℕ). named_text s f.found.key f.found.version) store ∙ ap (λ (k : List ℕ). named_text (store_name stores id.store) k f.found.version) f.key ∙ ap (λ (v : ℕ). named_text (store_name stores id.store) id.key v) f.version;
        over = (here.0, ap is_name (sym f.key) ∙ named.key, omega (arith, named.small, f.version));
        written = omega (arith, named.written, f.version);
      }

  -- a later id of a group is of a store that is there, since the one before it is
  id_back : (before : Option WriteId) (at : ℕ) (place : Place) (text : List ℕ) (id : WriteId) → IfSome before (IsIdOver stores) → id_in stores before at (place, text) ≡ Ok id → IsRead before at place text id
  id_back before at Alone text id there e =
      let found = id_found stores Alone before at (named_in text) id e in
      let back = text_back Alone before at text id found in
      record { spelled = back.spelled; over = back.over; written = back.written; within = found.within }
  id_back None at First text id there e =
      let found = id_found stores First None at (named_in text) id e in
      let back = text_back First None at text id found in
      record { spelled = back.spelled; over = back.over; written = back.written; within = found.within }
  id_back (Some b) at First text id there e =
      let found = id_found stores First (Some b) at (named_in text) id e in
      let back = text_back First (Some b) at text id found in
      record { spelled = (back.spelled, ltb-true b.store id.store found.follows); over = back.over; written = back.written; within = found.within }
  id_back None at Later text id there e = absurd (cc)
  id_back (Some b) at Later text id there e =
      let found = later_found b at (keyed_in text) id e in
      let keyed = keyed_back text (id.key, id.version) found.is in
      record { spelled = (keyed.spelled, found.store); over = (omega (arith, found.store, there.0), keyed.key_is, keyed.small); written = keyed.written; within = found.within }

  ids_back : (pieces : List (Place × List ℕ)) (before : Option WriteId) (at : ℕ) (ids : List WriteId) → at ≤ MOST_IDS + 1 → IfSome before (IsIdOver stores) → ids_in stores before at pieces ≡ Ok ids → AreRead before at pieces ids
  ids_back [] before at ids few there e =
      let none : [] ≡ ids = cc in
      subst (AreRead before at []) none (record { spelled = tt; over = tt; written = tt; above = tt; ascending = tt; few = omega (arith, few) })
  ids_back (p ∷ ps) before at ids few there e =
      let one = one_further (id_in stores before at p) (λ (k : WriteId). ids_in stores (Some k) (suc at) ps) ids e in
      let i = one.0 in
      let is = one.1 in
      let read = id_back before at p.0 p.1 i there one.2 in
      let above = piece_above stores p.0 before at p.1 i one.2 in
      let rest = ids_back ps (Some i) (suc at) is (omega (arith, ltb-false MOST_IDS at read.within)) read.over one.3 in
      subst (AreRead before at (p ∷ ps)) (sym one.4)
      (record {
        spelled = (read.spelled, rest.spelled);
        over = (read.over, rest.over);
        written = (read.written, rest.written);
        above = (above, each_weaker (λ j. is_above (Some i) j ≡ true) (λ j. is_above before j ≡ true) (λ j h. above_further before i j above h) is rest.above);
        ascending = (each_weaker (λ j. is_above (Some i) j ≡ true) (λ j. id_cmp i j ≡ Less) (λ j h. less_from (id_cmp i j) h) is rest.above, rest.ascending);
        few = omega (arith, rest.few);
      })

  -- version 1: the texts of the ids
  ones_back : (texts : List (List ℕ)) (before : Option WriteId) (ids : List WriteId) → AreSpelled stores before (placed Alone Alone texts) ids → texts ≡ map (id_text stores) ids
  ones_back [] before [] spelled = refl
  ones_back [] before (i ∷ is) spelled = absurd spelled
  ones_back (t ∷ ts) before [] spelled = absurd spelled
  ones_back (t ∷ ts) before (i ∷ is) spelled = ap (λ (x : List ℕ). x ∷ ts) spelled.0 ∙ ap (λ (xs : List (List ℕ)). id_text stores i ∷ xs) (ones_back ts (Some i) is spelled.1)

  -- version 2: each behind what stands before it
  marked_back : (b : WriteId) (place : Place) (text : List ℕ) (id : WriteId) → IsInGroup place → IsSpelled stores (Some b) place text id → marked place text ≡ grouped_text stores (Some b) id
  marked_back b Alone text id in_group spelled = absurd in_group
  marked_back b First text id in_group spelled =
      let other : nat_eq id.store b.store ≡ false = ne_eqb id.store b.store (λ e. omega (arith, e, spelled.1)) in
      ap (λ (t : List ℕ). 124 ∷ t) spelled.0 ∙ sym (cond-false (nat_eq id.store b.store) (44 ∷ keyed_text id.key id.version) (124 ∷ id_text stores id) other)
  marked_back b Later text id in_group spelled =
      ap (λ (t : List ℕ). 44 ∷ t) spelled.0 ∙ sym (cond-true (nat_eq id.store b.store) (44 ∷ keyed_text id.key id.version) (124 ∷ id_text stores id) (eq-eqb id.store b.store spelled.1))

  groups_back : (pieces : List (Place × List ℕ)) (b : WriteId) (ids : List WriteId) → Each (λ p. IsInGroup p.0) pieces → AreSpelled stores (Some b) pieces ids → written pieces ≡ groups_text stores (Some b) ids
  groups_back [] b [] grouped spelled = refl
  groups_back [] b (i ∷ is) grouped spelled = absurd spelled
  groups_back (p ∷ ps) b [] grouped spelled = absurd spelled
  groups_back (p ∷ ps) b (i ∷ is) grouped spelled =
      ap (λ (t : List ℕ). t ++ written ps) (marked_back b p.0 p.1 i grouped.0 spelled.0) ∙ ap (λ (t : List ℕ). grouped_text stores (Some b) i ++ t) (groups_back ps i is grouped.1 spelled.1)

  first_back : (place : Place) (text : List ℕ) (id : WriteId) → IsInGroup place → IsSpelled stores None place text id → marked place text ≡ 124 ∷ id_text stores id
  first_back Alone text id in_group spelled = absurd in_group
  first_back First text id in_group spelled = ap (λ (t : List ℕ). 124 ∷ t) spelled
  first_back Later text id in_group spelled = absurd spelled

  whole_back : (pieces : List (Place × List ℕ)) (ids : List WriteId) (text : List ℕ) → Each (λ p. IsInGroup p.0) pieces → AreSpelled stores None pieces ids → written pieces ≡ 124 ∷ text → text ≡ groups_text stores None ids
  whole_back [] ids text grouped spelled again = absurd (omega (arith, ap length again))
  whole_back (p ∷ ps) [] text grouped spelled again = absurd spelled
  whole_back (p ∷ ps) (i ∷ is) text grouped spelled again =
      let front : written (p ∷ ps) ≡ 124 ∷ (id_text stores i ++ groups_text stores (Some i) is) =
      ap (λ (t : List ℕ). t ++ written ps) (first_back p.0 p.1 i grouped.0 spelled.0) ∙ ap (λ (t : List ℕ). 124 ∷ (id_text stores i ++ t)) (groups_back ps i is grouped.1 spelled.1) in
      ap (drop 1) (sym again ∙ front)

joined : (f : WriteId → List ℕ) (ids : List WriteId) → join_with_byte 44 (map f ids) ≡ join_by f (codes ",") ids
joined f [] = refl
joined f (i ∷ []) = sym (append-nil (f i))
joined f (i ∷ j ∷ js) = ap (λ (t : List ℕ). f i ++ 44 ∷ t) (joined f (j ∷ js))

one_back : (stores : List (List ℕ)) (text : List ℕ) (ids : List WriteId) → AreSpelled stores None (pieces text) ids → text ≡ join_by (id_text stores) (codes ",") ids
one_back stores [] [] spelled = refl
one_back stores [] (i ∷ is) spelled = absurd spelled
one_back stores (b ∷ bs) ids spelled =
    let texts = slice_split (λ c. nat_eq c 44) (b ∷ bs) in
    sym (join_with_byte-slice_split 44 (b ∷ bs)) ∙ ap (join_with_byte 44) (ones_back stores texts None ids spelled) ∙ joined (id_text stores) ids

two_back : (stores : List (List ℕ)) (text : List ℕ) (ids : List WriteId) → AreSpelled stores None (grouped_pieces text) ids → text ≡ groups_text stores None ids
two_back stores [] [] spelled = refl
two_back stores [] (i ∷ is) spelled = absurd spelled
two_back stores (b ∷ bs) ids spelled = whole_back stores (between_bars (b ∷ bs)) ids (b ∷ bs) (in_groups (b ∷ bs)) spelled (text_again (b ∷ bs))

over_back : (stores : List (List ℕ)) (pieces : List (Place × List ℕ)) (ids : List WriteId) → AreRead stores None 1 pieces ids → IsOver stores ids
over_back stores pieces ids read = record { lineage = record { ascending = read.ascending; written = read.written; short = omega (arith, read.few) }; each = read.over }

headed : (text head rest : List ℕ) → bytes_eq (take 2 text) head ≡ true → drop 2 text ≡ rest → text ≡ head ++ rest
headed text head rest is e = sym (take-append-drop 2 text) ∙ ap (λ (t : List ℕ). t ++ drop 2 text) (same (take 2 text) head is) ∙ ap (λ (t : List ℕ). head ++ t) e

by_head : (stores : List (List ℕ)) (text : List ℕ) (ids : List WriteId) (one two : Bool) → bytes_eq (take 2 text) (codes "1;") ≡ one → bytes_eq (take 2 text) (codes "2;") ≡ two
    → cond one (ids_in stores None 1 (pieces (drop 2 text))) (cond two (ids_in stores None 1 (grouped_pieces (drop 2 text))) (Err BadHead)) ≡ Ok ids
    → IsOver stores ids × ((text ≡ lineage_text stores ids) ⊎ (text ≡ lineage_text_one stores ids))
by_head stores text ids true two is_one is_two e =
    let read = ids_back stores (pieces (drop 2 text)) None 1 ids (omega arith) tt e in
    (over_back stores (pieces (drop 2 text)) ids read, inr (headed text (codes "1;") (join_by (id_text stores) (codes ",") ids) is_one (one_back stores (drop 2 text) ids read.spelled)))
by_head stores text ids false true is_one is_two e =
    let read = ids_back stores (grouped_pieces (drop 2 text)) None 1 ids (omega arith) tt e in
    (over_back stores (grouped_pieces (drop 2 text)) ids read, inl (headed text (codes "2;") (groups_text stores None ids) is_two (two_back stores (drop 2 text) ids read.spelled)))
by_head stores text ids false false is_one is_two e = absurd (cc)

pub is_its_text : IsItsText
is_its_text stores text ids e = by_head stores text ids (bytes_eq (take 2 text) (codes "1;")) (bytes_eq (take 2 text) (codes "2;")) refl refl e

-- ---- one lineage

-- lineages with the same text are the same
pub same_lineage : (text_of : List (List ℕ) → List WriteId → List ℕ) → StatesItsLineage text_of → (stores : List (List ℕ)) (ids others : List WriteId) → are_names stores ≡ true → IsOver stores ids → IsOver stores others
    → text_of stores ids ≡ text_of stores others → ids ≡ others
same_lineage text_of states stores ids others names over over_others e =
    let both : Ok ids ≡ Ok others = sym (states stores ids names over) ∙ ap (read_lineage stores) e ∙ states stores others names over_others in
    cc

-- no text is of both versions
pub one_version : (stores : List (List ℕ)) (ids others : List WriteId) → lineage_text stores ids ≢ lineage_text_one stores others
one_version stores ids others e = let heads : 50 ≡ 49 = ap (λ (text : List ℕ). get_or text 0 0) e in absurd (omega (arith, heads))
