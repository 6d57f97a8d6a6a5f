-- The lineage that a text states, or its first fault.
use Rattle.std.specs.Prelude.{ℕ, suc, codes, List, [], ◌∷◌, Bool, true, ◌&&◌, ◌==◌, nat_lt, drop, take, position, Option, None, Some, Result, Ok, Err, if◌then◌else◌}
use Rattle.std.specs.Bool.{then_some}
use Rattle.std.specs.Str.{bytes_eq}
use Rattle.std.specs.List.{flat_map, slice_split, before_first, after_first}
use Rattle.std.specs.declared.cmp.Ordering.{Ordering}
use Rattle.std.specs.declared.cmp.Ordering.TheVariants.{Less}
use Rattle.percent_encoding.specs.Percent.{percent_decode}
use Rattle.anti_ids.specs.Ascii.{slash, at_sign, bar, comma}
use Rattle.anti_ids.specs.Decimals.{decimal_in}
use Rattle.anti_ids.specs.Ids.{id_cmp}
use Rattle.anti_ids.specs.Names.{is_name}
use Rattle.anti_ids.specs.declared.id.WriteId.{WriteId}
use Rattle.anti_ids.specs.declared.limits.TheConstants.{GREATEST_VERSION, MOST_IDS}
use Rattle.anti_baggage.specs.declared.fault.BaggageFault.{BaggageFault}
use Rattle.anti_baggage.specs.declared.fault.BaggageFault.TheVariants.{BadHead, BadId, UnknownStore, NotAscending, TooMany}
use Rattle.anti_baggage.specs.declared.place.Place.{Place}
use Rattle.anti_baggage.specs.declared.place.Place.TheVariants.{Alone, First, Later}
use Rattle.anti_baggage.specs.Escapes.{escaped}

-- ---- one piece

-- the name of which a text is the escaped form
abbrev pub name_in : List ℕ → Option (List ℕ)
name_in text = let name = percent_decode text in then_some (is_name name && bytes_eq (escaped name) text) name

-- the version that a text is
abbrev pub version_in : List ℕ → Option ℕ
version_in text = decimal_in 1 GREATEST_VERSION text

-- what a text says that names a write of a store: its key and its version
abbrev pub keyed_by : Option (List ℕ) → Option ℕ → Option (List ℕ × ℕ)
keyed_by (Some key) (Some version) = Some (key, version)
keyed_by _ _ = None

-- a key, `@` and a version
abbrev pub keyed_in : List ℕ → Option (List ℕ × ℕ)
keyed_in text = keyed_by (name_in (before_first (λ b. b == at_sign) text)) (version_in (after_first (λ b. b == at_sign) text))

-- what a text says that is an id: a store by its name, a key and a version
pub record Named : Type 0 where
  pub store : List ℕ
  pub key : List ℕ
  pub version : ℕ

abbrev pub named_by : Option (List ℕ) → Option (List ℕ × ℕ) → Option Named
named_by (Some store) (Some keyed) = Some (record { store = store; key = keyed.0; version = keyed.1 })
named_by _ _ = None

-- a store, a slash, a key, `@` and a version
abbrev pub named_in : List ℕ → Option Named
named_in text = named_by (name_in (before_first (λ b. b == slash) text)) (keyed_in (after_first (λ b. b == slash) text))

-- ---- ids, one after another

abbrev pub is_less : Ordering → Bool
is_less Less = true
is_less _ = Bool.false

-- whether an id is above the one before it, where there is one
abbrev pub is_above : Option WriteId → WriteId → Bool
is_above None id = true
is_above (Some before) id = is_less (id_cmp before id)

-- whether an id may stand behind the one before it: it is above it, and where it is the first of a group its store is a later one
abbrev pub may_follow : Place → Option WriteId → WriteId → Bool
may_follow First (Some before) id = nat_lt before.store id.store
may_follow place before id = is_above before id

-- The id at a number, counted from 1, or why there is none: the text is no id, its store is not there, it may not stand behind the id
-- before it, or it is one too many.
abbrev pub id_in_order : Place → Option WriteId → ℕ → WriteId → Result WriteId BaggageFault
id_in_order place before at id =
    if may_follow place before id then (if nat_lt MOST_IDS at then Err (TooMany at) else Ok id) else Err (NotAscending at)

abbrev pub id_of_store : Place → Option WriteId → ℕ → Named → Option ℕ → Result WriteId BaggageFault
id_of_store place before at named None = Err (UnknownStore at)
id_of_store place before at named (Some store) =
    id_in_order place before at (record { store = store; key = named.key; version = named.version })

abbrev pub id_named : List (List ℕ) → Place → Option WriteId → ℕ → Option Named → Result WriteId BaggageFault
id_named stores place before at None = Err (BadId at)
id_named stores place before at (Some named) = id_of_store place before at named (position (bytes_eq named.store) stores)

-- a later id of a group is of the store of the id before it
abbrev pub id_keyed : Option WriteId → ℕ → Option (List ℕ × ℕ) → Result WriteId BaggageFault
id_keyed (Some before) at (Some keyed) =
    id_in_order Later (Some before) at (record { store = before.store; key = keyed.0; version = keyed.1 })
id_keyed _ at _ = Err (BadId at)

abbrev pub id_at_place : List (List ℕ) → Place → Option WriteId → ℕ → List ℕ → Result WriteId BaggageFault
id_at_place stores Later before at text = id_keyed before at (keyed_in text)
id_at_place stores place before at text = id_named stores place before at (named_in text)

-- the id that a piece is: a text at its place
abbrev pub id_in : List (List ℕ) → Option WriteId → ℕ → Place × List ℕ → Result WriteId BaggageFault
id_in stores before at piece = id_at_place stores piece.0 before at piece.1

-- an id before what comes behind it
abbrev pub before_further : WriteId → Result (List WriteId) BaggageFault → Result (List WriteId) BaggageFault
before_further id (Ok ids) = Ok (id ∷ ids)
before_further id (Err fault) = Err fault

abbrev pub and_further : Result WriteId BaggageFault → (WriteId → Result (List WriteId) BaggageFault) → Result (List WriteId) BaggageFault
and_further (Ok id) further = before_further id (further id)
and_further (Err fault) further = Err fault

-- the ids that pieces are, from a number on, behind an id
abbrev pub ids_in : List (List ℕ) → Option WriteId → ℕ → List (Place × List ℕ) → Result (List WriteId) BaggageFault
ids_in stores before at [] = Ok []
ids_in stores before at (piece ∷ pieces) = and_further (id_in stores before at piece) (λ id. ids_in stores (Some id) (suc at) pieces)

-- ---- the whole

-- texts as pieces, of which the first has a place of its own
abbrev pub placed : Place → Place → List (List ℕ) → List (Place × List ℕ)
placed front behind [] = []
placed front behind (text ∷ texts) = (front, text) ∷ placed behind behind texts

-- what stands between commas
abbrev pub between_commas : Place → Place → List ℕ → List (Place × List ℕ)
between_commas front behind text = placed front behind (slice_split (λ b. b == comma) text)

-- the pieces of version 1; no text is no piece
abbrev pub pieces : List ℕ → List (Place × List ℕ)
pieces [] = []
pieces (b ∷ bs) = between_commas Alone Alone (b ∷ bs)

-- what stands between bars, and there between commas
abbrev pub between_bars : List ℕ → List (Place × List ℕ)
between_bars text = flat_map (between_commas First Later) (slice_split (λ b. b == bar) text)

-- the pieces of version 2, in groups; no text is no group
abbrev pub grouped_pieces : List ℕ → List (Place × List ℕ)
grouped_pieces [] = []
grouped_pieces (b ∷ bs) = between_bars (b ∷ bs)

-- The lineage that a text states: `1;` or `2;`, then its ids. The first piece that is wrong decides.
abbrev pub read_lineage : List (List ℕ) → List ℕ → Result (List WriteId) BaggageFault
read_lineage stores text =
    if bytes_eq (take 2 text) (codes "1;") then ids_in stores None 1 (pieces (drop 2 text))
    else if bytes_eq (take 2 text) (codes "2;") then ids_in stores None 1 (grouped_pieces (drop 2 text))
    else Err BadHead
