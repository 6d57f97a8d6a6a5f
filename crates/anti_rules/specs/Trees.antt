-- What stands in the tables of a document. What is not there, or of another type, reads as empty.
use Rattle.std.specs.Prelude.{ℕ, codes, List, [], ◌∷◌, Bool, true, not, ◌&&◌, Option, unwrap_or}
use Rattle.std.specs.Option.{option_and_then, option_map_or}
use Rattle.std.specs.List.{list_all, list_any, find}
use Rattle.std.specs.Str.{bytes_eq}
use Rattle.toml.specs.Data.{Data, Items, no_items, item, Members, no_members, member, get_member, as_str, as_array, as_table}

-- the keys of a table
abbrev pub names : Members → List (List ℕ)
names no_members = []
names (member name _ rest) = name ∷ names rest

-- the elements of an array
abbrev pub elements : Items → List Data
elements no_items = []
elements (item d ds) = d ∷ elements ds

-- What the array at a key of a table lists.
abbrev pub things_at : List ℕ → Members → List Data
things_at key ms = option_map_or elements (option_and_then as_array (get_member key ms)) []

-- The same of a thing that is a table.
abbrev pub things_in : List ℕ → Data → List Data
things_in key d = option_map_or (things_at key) (as_table d) []

-- The text that a thing is.
abbrev pub text_of : Data → List ℕ
text_of d = unwrap_or (as_str d) []

-- what stands at a key of a thing that is a table
abbrev pub member_in : List ℕ → Data → Option Data
member_in key d = option_and_then (get_member key) (as_table d)

-- The text at a key of a thing that is a table.
abbrev pub text_at : List ℕ → Data → List ℕ
text_at key d = option_map_or text_of (member_in key d) []

-- Whether a thing has this text at a key.
abbrev pub has_text : List ℕ → List ℕ → Data → Bool
has_text key text d = bytes_eq (text_at key d) text

-- Whether one of some things is this text.
abbrev pub is_among : List ℕ → List Data → Bool
is_among text ds = list_any (λ d. bytes_eq (text_of d) text) ds

-- Whether each of some things is a text among others.
abbrev pub are_among : List Data → List Data → Bool
are_among others ds = list_all (λ d. is_among (text_of d) others) ds

-- Whether no two of some things are the same text.
abbrev pub are_distinct : List Data → Bool
are_distinct [] = true
are_distinct (d ∷ ds) = not (is_among (text_of d) ds) && are_distinct ds

-- The name of a thing.
abbrev pub name_in : Data → List ℕ
name_in d = text_at (codes "name") d

-- Whether one of some things has this name.
abbrev pub is_named : List ℕ → List Data → Bool
is_named name ds = list_any (has_text (codes "name") name) ds

-- The first of some things that has this name.
abbrev pub named : List ℕ → List Data → Option Data
named name ds = find (has_text (codes "name") name) ds

-- The stores, the services and the regions of a document.
abbrev pub stores_in : Members → List Data
stores_in doc = things_at (codes "store") doc

abbrev pub services_in : Members → List Data
services_in doc = things_at (codes "service") doc

abbrev pub regions_in : Members → List Data
regions_in doc = things_at (codes "regions") doc
