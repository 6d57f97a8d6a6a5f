-- The keys of the tables of a document, and what stands at them.
use Rattle.std.specs.Prelude.{ℕ, codes, List, [], ◌∷◌, length, Bool, true, false, not, ◌&&◌, ◌||◌, nat_le, pos, int_le, is_some}
use Rattle.std.specs.Option.{option_map_or}
use Rattle.std.specs.List.{list_all, list_any}
use Rattle.std.specs.Str.{bytes_eq}
use Rattle.toml.specs.Data.{Data, Members, get_member, as_str, as_integer, as_array}
use Rattle.anti_ids.specs.declared.limits.TheConstants.{GREATEST_SEED, MOST_CHOICES, MOST_HANDLERS, MOST_LINES, MOST_REGIONS, MOST_REPLICAS, MOST_REQUESTS, MOST_ROOM, MOST_SERVICES, MOST_STORES, MOST_SUBS, MOST_TRIES, MOST_WORKERS}
use Rattle.anti_rules.specs.Trees.{names, elements}
use Rattle.anti_rules.specs.declared.table_keys.KeyKind.{KeyKind}
use Rattle.anti_rules.specs.declared.table_keys.KeyKind.TheVariants.{Text, Number, Texts, Things}
use Rattle.anti_rules.specs.declared.place.Part.{Part}
use Rattle.anti_rules.specs.declared.place.Part.TheVariants.{Top, Store, Service, Handler, Sub, Request}

-- A key: what stands there, and whether it has no default.
pub record TableKey : Type 0 where
  pub name : List ℕ
  pub kind : KeyKind
  pub is_needed : Bool

abbrev pub needed : List ℕ → KeyKind → TableKey
needed name kind = record { name = name; kind = kind; is_needed = true }

abbrev pub optional : List ℕ → KeyKind → TableKey
optional name kind = record { name = name; kind = kind; is_needed = false }

-- The keys of the tables of each part. The lists whose elements have places of their own are `Things`: so are a body and its lines.
-- A region and a choice are texts, and have none.
abbrev pub keys_of : Part → List TableKey
keys_of Top =
    needed (codes "regions") (Things 1 MOST_REGIONS)
    ∷ optional (codes "seed") (Number (pos 0) (pos GREATEST_SEED))
    ∷ optional (codes "workers") (Number (pos 1) (pos MOST_WORKERS))
    ∷ optional (codes "choices") (Things 0 MOST_CHOICES)
    ∷ optional (codes "store") (Things 0 MOST_STORES)
    ∷ optional (codes "service") (Things 0 MOST_SERVICES)
    ∷ optional (codes "sub") (Things 0 MOST_SUBS)
    ∷ optional (codes "request") (Things 0 MOST_REQUESTS) ∷ []
keys_of Store =
    needed (codes "name") Text ∷ needed (codes "kind") Text
    ∷ needed (codes "replicas") (Texts 1 MOST_REPLICAS) ∷ optional (codes "tries") (Number (pos 1) (pos MOST_TRIES))
    ∷ optional (codes "room") (Number (pos 1) (pos MOST_ROOM)) ∷ []
keys_of Service = needed (codes "name") Text ∷ needed (codes "region") Text ∷ optional (codes "handler") (Things 0 MOST_HANDLERS) ∷ []
keys_of Handler = needed (codes "name") Text ∷ needed (codes "body") (Things 0 MOST_LINES) ∷ []
keys_of Sub =
    needed (codes "name") Text ∷ needed (codes "store") Text ∷ needed (codes "channel") Text
    ∷ needed (codes "service") Text ∷ needed (codes "handler") Text ∷ []
keys_of Request = needed (codes "service") Text ∷ needed (codes "handler") Text ∷ optional (codes "value") Text ∷ []
keys_of _ = []

abbrev pub is_text : Data → Bool
is_text d = is_some (as_str d)

-- whether there are at least and at most so many things
abbrev pub is_count : ℕ → ℕ → List Data → Bool
is_count least most ds = nat_le least (length ds) && nat_le (length ds) most

-- the elements of a thing; none where it is no array
abbrev pub elements_of : Data → List Data
elements_of d = option_map_or elements (as_array d) []

-- Whether a thing has the type of a key.
abbrev pub has_type : KeyKind → Data → Bool
has_type Text d = is_text d
has_type (Number least most) d = is_some (as_integer d)
has_type (Texts least most) d = is_some (as_array d) && list_all is_text (elements_of d)
has_type (Things least most) d = is_some (as_array d)

-- Whether a thing has a number of elements in the range of a key.
abbrev pub has_count : KeyKind → Data → Bool
has_count (Texts least most) d = is_count least most (elements_of d)
has_count (Things least most) d = is_count least most (elements_of d)
has_count _ d = true

-- Whether a thing is in the range of a key.
abbrev pub has_range : KeyKind → Data → Bool
has_range (Number least most) d = option_map_or (λ number. int_le least number && int_le number most) (as_integer d) true
has_range _ d = true

-- Whether each key of a table is listed.
abbrev pub are_listed : List TableKey → Members → Bool
are_listed keys ms = list_all (λ name. list_any (λ key. bytes_eq name key.name) keys) (names ms)

-- Whether each key without a default is there.
abbrev pub are_there : List TableKey → Members → Bool
are_there keys ms = list_all (λ key. not key.is_needed || is_some (get_member key.name ms)) keys

-- Whether what stands at the keys passes a test of its kind.
abbrev pub all_fit : (KeyKind → Data → Bool) → List TableKey → Members → Bool
all_fit test keys ms = list_all (λ key. option_map_or (test key.kind) (get_member key.name ms) true) keys
