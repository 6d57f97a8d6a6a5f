-- Ids that are read one behind another.
use Rattle.std.proofs.Common.{◌≡◌, ℕ, suc, ◌+◌, ◌-◌, ◌++◌, List, [], ◌∷◌, Bool, true, false, Option, None, Some, Ok, Err, nat_eq, nat_lt, length, refl, sym, ap, subst, ◌∙◌, arith}
use Rattle.std.specs.Prelude.{Result, slice_get, codes, take, drop, position, cond, get_or}
use Rattle.std.specs.declared.cmp.Ordering.{Ordering}
use Rattle.std.specs.declared.cmp.Ordering.TheVariants.{Less, Equal, Greater}
use Rattle.std.specs.Ordering.{is_lt, nat_cmp, ordering_then}
use Rattle.std.specs.Cmp.{nat_cmp_is}
use Rattle.std.specs.Cmp.Lexicographic.{slice_cmp}
use Rattle.std.specs.Iterator.{AlwaysYields}
use Rattle.std.specs.List.{flat_map}
use Rattle.std.proofs.lemmas.Bool.{cond-false, cond-true, eqb-true, ltb-true}
use Rattle.std.proofs.lemmas.Option.{slice_get-get_or}
use Rattle.anti_ids.specs.Answers.{AnswersBut}
use Rattle.anti_ids.specs.Each.{Each}
use Rattle.anti_ids.specs.Invariants.{IsAscending}
use Rattle.anti_ids.specs.Ids.{id_cmp, with_id}
use Rattle.anti_ids.specs.declared.limits.TheConstants.{MOST_IDS}
use Rattle.anti_ids.proofs.IdLemmas.{turned_back, each_weaker, with_id-last}
use Rattle.anti_ids.proofs.Places.{goes_behind}
use Rattle.std.specs.Str.{bytes_eq}
use Rattle.std.proofs.lemmas.List.{append-nil, append_assoc, length-append}
use Rattle.anti_ids.specs.declared.id.WriteId.{WriteId}
use Rattle.anti_baggage.specs.declared.fault.BaggageFault.{BaggageFault}
use Rattle.anti_baggage.specs.declared.place.Place.{Place}
use Rattle.anti_baggage.specs.declared.place.Place.TheVariants.{Alone, First, Later}
use Rattle.anti_baggage.specs.declared.fault.BaggageFault.TheVariants.{NotAscending, TooMany, NoMemory}
use Rattle.anti_baggage.specs.Reading.{Named, and_further, before_further, between_bars, between_commas, grouped_pieces, id_in, id_keyed, id_named, id_of_store, ids_in, is_above, is_less, keyed_in, may_follow, named_in, pieces, placed, read_lineage}
use Rattle.anti_baggage.specs.Steps.{last_of, read_behind, with_front}
use Rattle.anti_baggage.proofs.Bytes.{same}

pub no_front : (read : Result (List WriteId) BaggageFault) → with_front [] read ≡ read
no_front (Ok ids) = refl
no_front (Err fault) = refl

pub all_in_front : (front : List WriteId) → with_front front (Ok []) ≡ Ok front
all_in_front front = ap Ok (append-nil front)

front_more : (front : List WriteId) (id : WriteId) (read : Result (List WriteId) BaggageFault) → with_front front (before_further id read) ≡ with_front (front ++ id ∷ []) read
front_more front id (Ok ids) = ap Ok (sym (append_assoc front (id ∷ []) ids))
front_more front id (Err fault) = refl

last_place : (ids : List WriteId) (id : WriteId) → slice_get (ids ++ id ∷ []) (length ids) ≡ Some id
last_place [] id = refl
last_place (i ∷ is) id = last_place is id

pub last_more : (ids : List WriteId) (id : WriteId) → last_of (ids ++ id ∷ []) ≡ Some id
last_more ids id =
    let at : length (ids ++ id ∷ []) - 1 ≡ length ids = omega (arith, length-append ids (id ∷ [])) in
    ap (λ (n : ℕ). slice_get (ids ++ id ∷ []) n) at ∙ last_place ids id

-- one id more
id_read : (stores : List (List ℕ)) (ids : List WriteId) (piece : Place × List ℕ) (pieces : List (Place × List ℕ)) (id : WriteId) → id_in stores (last_of ids) (length ids + 1) piece ≡ Ok id
    → read_behind stores ids (piece ∷ pieces) ≡ read_behind stores (ids ++ id ∷ []) pieces
id_read stores ids piece pieces id e =
    let further = λ (i : WriteId). ids_in stores (Some i) (suc (length ids + 1)) pieces in
    let at : length (ids ++ id ∷ []) + 1 ≡ suc (length ids + 1) = omega (arith, length-append ids (id ∷ [])) in
    ap (λ (r : Result WriteId BaggageFault). with_front ids (and_further r further)) e ∙ front_more ids id (further id)
    ∙ ap (λ (b : Option WriteId). with_front (ids ++ id ∷ []) (ids_in stores b (suc (length ids + 1)) pieces)) (sym (last_more ids id))
    ∙ ap (λ (n : ℕ). with_front (ids ++ id ∷ []) (ids_in stores (last_of (ids ++ id ∷ [])) n pieces)) (sym at)

-- no id
fault_read : (stores : List (List ℕ)) (ids : List WriteId) (piece : Place × List ℕ) (pieces : List (Place × List ℕ)) (fault : BaggageFault) → id_in stores (last_of ids) (length ids + 1) piece ≡ Err fault
    → read_behind stores ids (piece ∷ pieces) ≡ Err fault
fault_read stores ids piece pieces fault e =
    ap (λ (r : Result WriteId BaggageFault). with_front ids (and_further r (λ (i : WriteId). ids_in stores (Some i) (suc (length ids + 1)) pieces))) e

-- the fault is what is stated, unless memory ran out
abbrev pub IsFault : {X : Type 0} → BaggageFault → Result X BaggageFault → Type 0
IsFault fault stated = AnswersBut NoMemory (Err fault) stated

-- The ids so far, and those that the texts to come are, are all that was asked, whatever comes behind.
module _ {S A : Type 0} (steps : S → Option A → S → Type 0) (v : A → List ℕ) (stores : List (List ℕ)) (later : Place) (all : List (Place × List ℕ) → Result (List WriteId) BaggageFault) where
  abbrev pub Left : S → Place → List WriteId → Type 0
  Left s place ids =
      (left : List (List ℕ)) × AlwaysYields steps v s left × ((rest : List (Place × List ℕ)) → read_behind stores ids (placed place later left ++ rest) ≡ all rest)

  one_more : (left : List (List ℕ)) (s t : S) (x : A) (place : Place) (ids : List WriteId) (id : WriteId) → AlwaysYields steps v s left
      → ((rest : List (Place × List ℕ)) → read_behind stores ids (placed place later left ++ rest) ≡ all rest)
      → steps s (Some x) t → id_in stores (last_of ids) (length ids + 1) (place, v x) ≡ Ok id → Left t later (ids ++ id ∷ [])
  one_more [] s t x place ids id yields told step e = absurd (yields x t step)
  one_more (text ∷ texts) s t x place ids id yields told step e =
      let next = yields.1 x t step in
      let named : id_in stores (last_of ids) (length ids + 1) (place, text) ≡ Ok id = ap (λ (w : List ℕ). id_in stores (last_of ids) (length ids + 1) (place, w)) (sym next.0) ∙ e in
      (texts, next.1, λ rest. sym (id_read stores ids (place, text) (placed later later texts ++ rest) id named) ∙ told rest)

  pub one_read : (s t : S) (x : A) (place : Place) (ids new : List WriteId) (id : WriteId) → Left s place ids → steps s (Some x) t → id_in stores (last_of ids) (length ids + 1) (place, v x) ≡ Ok id
      → new ≡ ids ++ id ∷ [] → Left t later new
  one_read s t x place ids new id l step e n = subst (λ (ids : List WriteId). Left t later ids) (sym n) (one_more l.0 s t x place ids id l.1 l.2 step e)

  none_more : (left : List (List ℕ)) (s t : S) (place : Place) (ids : List WriteId) → AlwaysYields steps v s left
      → ((rest : List (Place × List ℕ)) → read_behind stores ids (placed place later left ++ rest) ≡ all rest) → steps s None t → (rest : List (Place × List ℕ)) → all rest ≡ read_behind stores ids rest
  none_more [] s t place ids yields told step rest = sym (told rest)
  none_more (text ∷ texts) s t place ids yields told step rest = absurd (yields.0 t step)

  pub none_left : (s t : S) (place : Place) (ids : List WriteId) → Left s place ids → steps s None t → (rest : List (Place × List ℕ)) → all rest ≡ read_behind stores ids rest
  none_left s t place ids l step = none_more l.0 s t place ids l.1 l.2 step

  fault_more : (left : List (List ℕ)) (s t : S) (x : A) (place : Place) (ids : List WriteId) (fault : BaggageFault) → AlwaysYields steps v s left
      → ((rest : List (Place × List ℕ)) → read_behind stores ids (placed place later left ++ rest) ≡ all rest)
      → steps s (Some x) t → IsFault fault (id_in stores (last_of ids) (length ids + 1) (place, v x)) → (rest : List (Place × List ℕ)) → IsFault fault (all rest)
  fault_more [] s t x place ids fault yields told step h rest = absurd (yields x t step)
  fault_more (text ∷ texts) s t x place ids fault yields told step h rest =
      let next = yields.1 x t step in
      λ other. sym (told rest)
      ∙ fault_read stores ids (place, text) (placed later later texts ++ rest) fault (ap (λ (w : List ℕ). id_in stores (last_of ids) (length ids + 1) (place, w)) (sym next.0) ∙ h other)

  pub one_refused : (s t : S) (x : A) (place : Place) (ids : List WriteId) (fault : BaggageFault) → Left s place ids → steps s (Some x) t
      → IsFault fault (id_in stores (last_of ids) (length ids + 1) (place, v x)) → (rest : List (Place × List ℕ)) → IsFault fault (all rest)
  one_refused s t x place ids fault l step h = fault_more l.0 s t x place ids fault l.1 l.2 step h

-- The same of groups.
module _ {S A : Type 0} (steps : S → Option A → S → Type 0) (v : A → List ℕ) (stores : List (List ℕ)) (all : List (Place × List ℕ) → Result (List WriteId) BaggageFault) where
  abbrev in_groups : List (List ℕ) → List (Place × List ℕ)
  in_groups texts = flat_map (between_commas First Later) texts

  abbrev pub GroupsLeft : S → List WriteId → Type 0
  GroupsLeft s ids =
      (left : List (List ℕ)) × AlwaysYields steps v s left × ((rest : List (Place × List ℕ)) → read_behind stores ids (in_groups left ++ rest) ≡ all rest)

  group_more : (left : List (List ℕ)) (s t : S) (x : A) (ids new : List WriteId) → AlwaysYields steps v s left → ((rest : List (Place × List ℕ)) → read_behind stores ids (in_groups left ++ rest) ≡ all rest)
      → steps s (Some x) t → ((rest : List (Place × List ℕ)) → read_behind stores ids (between_commas First Later (v x) ++ rest) ≡ read_behind stores new rest) → GroupsLeft t new
  group_more [] s t x ids new yields told step e = absurd (yields x t step)
  group_more (text ∷ texts) s t x ids new yields told step e =
      let next = yields.1 x t step in (
        texts,
        next.1,
        λ rest. sym (e (in_groups texts ++ rest))
            ∙ ap (λ (w : List ℕ). read_behind stores ids (between_commas First Later w ++ (in_groups texts ++ rest))) next.0
            ∙ ap (read_behind stores ids) (sym (append_assoc (between_commas First Later text) (in_groups texts) rest))
            ∙ told rest,
      )

  pub group_read : (s t : S) (x : A) (ids new : List WriteId) → GroupsLeft s ids → steps s (Some x) t
      → ((rest : List (Place × List ℕ)) → read_behind stores ids (between_commas First Later (v x) ++ rest) ≡ read_behind stores new rest) → GroupsLeft t new
  group_read s t x ids new l step e = group_more l.0 s t x ids new l.1 l.2 step e

  no_group_more : (left : List (List ℕ)) (s t : S) (ids : List WriteId) → AlwaysYields steps v s left → ((rest : List (Place × List ℕ)) → read_behind stores ids (in_groups left ++ rest) ≡ all rest)
      → steps s None t → (rest : List (Place × List ℕ)) → all rest ≡ read_behind stores ids rest
  no_group_more [] s t ids yields told step rest = sym (told rest)
  no_group_more (text ∷ texts) s t ids yields told step rest = absurd (yields.0 t step)

  pub no_group_left : (s t : S) (ids : List WriteId) → GroupsLeft s ids → steps s None t → (rest : List (Place × List ℕ)) → all rest ≡ read_behind stores ids rest
  no_group_left s t ids l step = no_group_more l.0 s t ids l.1 l.2 step

  group_faulty : (left : List (List ℕ)) (s t : S) (x : A) (ids : List WriteId) (fault : BaggageFault) → AlwaysYields steps v s left → ((rest : List (Place × List ℕ)) → read_behind stores ids (in_groups left ++ rest) ≡ all rest)
      → steps s (Some x) t → ((rest : List (Place × List ℕ)) → IsFault fault (read_behind stores ids (between_commas First Later (v x) ++ rest))) → (rest : List (Place × List ℕ)) → IsFault fault (all rest)
  group_faulty [] s t x ids fault yields told step h rest = absurd (yields x t step)
  group_faulty (text ∷ texts) s t x ids fault yields told step h rest =
      let next = yields.1 x t step in
      λ other. sym (told rest)
      ∙ ap (read_behind stores ids) (append_assoc (between_commas First Later text) (in_groups texts) rest)
      ∙ ap (λ (w : List ℕ). read_behind stores ids (between_commas First Later w ++ (in_groups texts ++ rest))) (sym next.0)
      ∙ h (in_groups texts ++ rest) other

  pub group_refused : (s t : S) (x : A) (ids : List WriteId) (fault : BaggageFault) → GroupsLeft s ids → steps s (Some x) t
      → ((rest : List (Place × List ℕ)) → IsFault fault (read_behind stores ids (between_commas First Later (v x) ++ rest))) → (rest : List (Place × List ℕ)) → IsFault fault (all rest)
  group_refused s t x ids fault l step h = group_faulty l.0 s t x ids fault l.1 l.2 step h

-- ---- the whole

-- what pieces are behind no ids, where nothing comes behind them
module _ (stores : List (List ℕ)) (pieces : List (Place × List ℕ)) where
  alone : read_behind stores [] (pieces ++ []) ≡ ids_in stores None 1 pieces
  alone = ap (read_behind stores []) (append-nil pieces) ∙ no_front (ids_in stores None 1 pieces)

  pub all_read : (ids : List WriteId) → ((rest : List (Place × List ℕ)) → read_behind stores [] (pieces ++ rest) ≡ read_behind stores ids rest) → ids_in stores None 1 pieces ≡ Ok ids
  all_read ids e = sym alone ∙ e [] ∙ all_in_front ids

  pub all_refused : (fault : BaggageFault) → ((rest : List (Place × List ℕ)) → IsFault fault (read_behind stores [] (pieces ++ rest))) → IsFault fault (ids_in stores None 1 pieces)
  all_refused fault h = λ other. sym alone ∙ h [] other

pub pieces_some : (text : List ℕ) → false ≡ nat_eq (length text) 0 → pieces text ≡ between_commas Alone Alone text
pieces_some [] some = absurd (cc)
pieces_some (b ∷ bs) some = refl

pub groups_some : (text : List ℕ) → false ≡ nat_eq (length text) 0 → grouped_pieces text ≡ between_bars text
groups_some [] some = absurd (cc)
groups_some (b ∷ bs) some = refl

no_bytes : (text : List ℕ) → true ≡ nat_eq (length text) 0 → text ≡ []
no_bytes [] none = refl
no_bytes (b ∷ bs) none = absurd (omega (arith, eqb-true (length (b ∷ bs)) 0 (sym none)))

-- behind `1;` stand the pieces, and behind `2;` the groups
module _ (stores : List (List ℕ)) (bytes text : List ℕ) (behind : text ≡ drop 2 bytes) where
  head_one : bytes_eq (take 2 bytes) (codes "1;") ≡ true → ids_in stores None 1 (pieces text) ≡ read_lineage stores bytes
  head_one head = ap (λ (t : List ℕ). ids_in stores None 1 (pieces t)) behind ∙ sym (cond-true _ _ _ head)

  head_two : bytes_eq (take 2 bytes) (codes "2;") ≡ true → ids_in stores None 1 (grouped_pieces text) ≡ read_lineage stores bytes
  head_two head =
      let is : take 2 bytes ≡ codes "2;" = same (take 2 bytes) (codes "2;") head in
      ap (λ (t : List ℕ). ids_in stores None 1 (grouped_pieces t)) behind
      ∙ sym (cond-false _ _ _ (ap (λ (t : List ℕ). bytes_eq t (codes "1;")) is) ∙ cond-true _ _ _ head)

  pub read_one : bytes_eq (take 2 bytes) (codes "1;") ≡ true → false ≡ nat_eq (length text) 0 → ids_in stores None 1 (between_commas Alone Alone text) ≡ read_lineage stores bytes
  read_one head some = ap (ids_in stores None 1) (sym (pieces_some text some)) ∙ head_one head

  pub read_two : bytes_eq (take 2 bytes) (codes "2;") ≡ true → false ≡ nat_eq (length text) 0 → ids_in stores None 1 (between_bars text) ≡ read_lineage stores bytes
  read_two head some = ap (ids_in stores None 1) (sym (groups_some text some)) ∙ head_two head

  pub none_one : bytes_eq (take 2 bytes) (codes "1;") ≡ true → true ≡ nat_eq (length text) 0 → read_lineage stores bytes ≡ Ok []
  none_one head none = sym (head_one head) ∙ ap (λ (t : List ℕ). ids_in stores None 1 (pieces t)) (no_bytes text none)

  pub none_two : bytes_eq (take 2 bytes) (codes "2;") ≡ true → true ≡ nat_eq (length text) 0 → read_lineage stores bytes ≡ Ok []
  none_two head none = sym (head_two head) ∙ ap (λ (t : List ℕ). ids_in stores None 1 (grouped_pieces t)) (no_bytes text none)

-- ---- an id that was found

-- what is known of the id that a text is
pub record IsFound (stores : List (List ℕ)) (place : Place) (before : Option WriteId) (at : ℕ) (named : Option Named) (id : WriteId) : Type 0 where
  pub found : Named
  pub is : named ≡ Some found
  pub store : position (bytes_eq found.store) stores ≡ Some id.store
  pub key : found.key ≡ id.key
  pub version : found.version ≡ id.version
  pub follows : may_follow place before id ≡ true
  pub within : nat_lt MOST_IDS at ≡ false

ordered : (above past : Bool) (at : ℕ) (made id : WriteId) → cond above (cond past (Err (TooMany at)) (Ok made)) (Err (NotAscending at)) ≡ Ok id → (above ≡ true) × (past ≡ false) × (made ≡ id)
ordered true true at made id e = absurd (cc)
ordered true false at made id e = (refl, refl, cc)
ordered false past at made id e = absurd (cc)

of_store : (stores : List (List ℕ)) (place : Place) (before : Option WriteId) (at : ℕ) (named : Named) (found : Option ℕ) (id : WriteId) → position (bytes_eq named.store) stores ≡ found → id_of_store place before at named found ≡ Ok id
    → IsFound stores place before at (Some named) id
of_store stores place before at named None id p e = absurd (cc)
of_store stores place before at named (Some store) id p e =
    let made : WriteId = record { store = store; key = named.key; version = named.version } in
    let known = ordered (may_follow place before made) (nat_lt MOST_IDS at) at made id e in
    record {
      found = named;
      is = refl;
      store = p ∙ ap (λ (i : WriteId). Some i.store) known.2;
      key = ap (λ (i : WriteId). i.key) known.2;
      version = ap (λ (i : WriteId). i.version) known.2;
      follows = ap (may_follow place before) (sym known.2) ∙ known.0;
      within = known.1;
    }

pub id_found : (stores : List (List ℕ)) (place : Place) (before : Option WriteId) (at : ℕ) (named : Option Named) (id : WriteId) → id_named stores place before at named ≡ Ok id → IsFound stores place before at named id
id_found stores place before at None id e = absurd (cc)
id_found stores place before at (Some named) id e = of_store stores place before at named _ id refl e

-- what is known of the id that a later text of a group is
pub record IsLater (before : WriteId) (at : ℕ) (keyed : Option (List ℕ × ℕ)) (id : WriteId) : Type 0 where
  pub is : keyed ≡ Some (id.key, id.version)
  pub store : id.store ≡ before.store
  pub above : is_above (Some before) id ≡ true
  pub within : nat_lt MOST_IDS at ≡ false

pub later_found : (before : WriteId) (at : ℕ) (keyed : Option (List ℕ × ℕ)) (id : WriteId) → id_keyed (Some before) at keyed ≡ Ok id → IsLater before at keyed id
later_found before at None id e = absurd (cc)
later_found before at (Some keyed) id e =
    let made : WriteId = record { store = before.store; key = keyed.0; version = keyed.1 } in
    let known = ordered (is_above (Some before) made) (nat_lt MOST_IDS at) at made id e in
    record {
      is = ap (λ (i : WriteId). Some (i.key, i.version)) known.2;
      store = sym (ap (λ (i : WriteId). i.store) known.2);
      above = ap (is_above (Some before)) (sym known.2) ∙ known.0;
      within = known.1;
    }

-- an id of a later store is above
pub of_later_store : (before id : WriteId) → nat_lt before.store id.store ≡ true → is_above (Some before) id ≡ true
of_later_store before id later =
    let rest = ordering_then (nat_cmp before.version id.version) (slice_cmp nat_cmp before.key id.key) in
    sym (ap (λ (o : Ordering). is_less (ordering_then o rest)) (nat_cmp_is before.store id.store Less (ltb-true before.store id.store later)))

pub follows_above : (place : Place) (before : Option WriteId) (id : WriteId) → may_follow place before id ≡ true → is_above before id ≡ true
follows_above Alone before id h = h
follows_above Later before id h = h
follows_above First None id h = h
follows_above First (Some before) id h = of_later_store before id h

-- the id that a piece is stands above the one before it
pub piece_above : (stores : List (List ℕ)) (place : Place) (before : Option WriteId) (at : ℕ) (text : List ℕ) (id : WriteId) → id_in stores before at (place, text) ≡ Ok id → is_above before id ≡ true
piece_above stores Alone before at text id e = (id_found stores Alone before at (named_in text) id e).follows
piece_above stores First before at text id e = follows_above First before id (id_found stores First before at (named_in text) id e).follows
piece_above stores Later None at text id e = absurd (cc)
piece_above stores Later (Some before) at text id e = (later_found before at (keyed_in text) id e).above

-- an id that is above the last of ascending ids is above all of them
lower : (o : Ordering) → is_less o ≡ true → is_lt o ≡ true
lower Less h = refl
lower Equal h = absurd (cc)
lower Greater h = absurd (cc)

below_last : (ids : List WriteId) (id : WriteId) (last : Option WriteId) → IsAscending ids → slice_get ids (length ids - 1) ≡ last → is_above last id ≡ true → Each (λ j. id_cmp j id ≡ Less) ids
below_last [] id last asc at h = tt
below_last (i ∷ is) id None asc at h = absurd (let l = slice_get-get_or (i ∷ is) (length (i ∷ is) - 1) i (omega arith) in let w : Some (get_or (i ∷ is) (length (i ∷ is) - 1) i) ≡ None = sym l ∙ at in cc)
below_last (i ∷ is) id (Some last) asc at h = (goes_behind id last (i ∷ is) (id_cmp last id) (is_lt (id_cmp last id)) asc at refl refl).0 (lower (id_cmp last id) h)

pub below : (ids : List WriteId) (id : WriteId) → IsAscending ids → is_above (last_of ids) id ≡ true → Each (λ j. id_cmp j id ≡ Less) ids
below ids id asc h = below_last ids id (last_of ids) asc refl h

-- so it goes behind them
pub goes_last : (ids : List WriteId) (id : WriteId) → IsAscending ids → is_above (last_of ids) id ≡ true → with_id id ids ≡ ids ++ id ∷ []
goes_last ids id asc h =
    with_id-last id ids (each_weaker (λ j. id_cmp j id ≡ Less) (λ j. id_cmp id j ≡ Greater) (λ j l. turned_back j id l) ids (below ids id asc h))
