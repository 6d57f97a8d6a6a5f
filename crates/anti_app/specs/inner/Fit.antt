-- What the code relies on of the things of a document that it makes parts of. The rules of the format ask more.
use Rattle.std.specs.Prelude.{ℕ, ◌^◌, List, codes, Bool, ◌&&◌, nat_le, nat_lt, length}
use Rattle.std.specs.List.{list_all}
use Rattle.std.specs.Option.{option_and_then}
use Rattle.anti_ids.specs.Names.{is_plain}
use Rattle.anti_ids.specs.declared.limits.TheConstants.{LONGEST_VALUE}
use Rattle.toml.specs.Data.{Data, as_integer}
use Rattle.anti_rules.specs.Trees.{name_in, member_in, text_at, text_of, things_in}
use Rattle.anti_app.specs.Parts.{number_or}
use Rattle.anti_app.specs.Places.{region_place}

-- a region is a plain name
unfoldable pub is_fit_region : Data → Bool
is_fit_region d = is_plain (text_of d)

-- a store has a plain name, and tries and room that four bytes hold
unfoldable pub is_fit_store : Data → Bool
is_fit_store d =
    is_plain (name_in d) && (nat_lt (number_or 3 (option_and_then as_integer (member_in (codes "tries") d))) (2 ^ 32)
    && nat_lt (number_or 8 (option_and_then as_integer (member_in (codes "room") d))) (2 ^ 32))

-- a handler has a plain name, and so has a service, with each of its handlers
unfoldable pub is_fit_handler : Data → Bool
is_fit_handler d = is_plain (name_in d)

unfoldable pub is_fit_service : Data → Bool
is_fit_service d = is_plain (name_in d) && list_all is_fit_handler (things_in (codes "handler") d)

-- a subscription has a plain name and a plain channel
unfoldable pub is_fit_sub : Data → Bool
is_fit_sub d = is_plain (name_in d) && is_plain (text_at (codes "channel") d)

-- a request has a short value
unfoldable pub is_fit_request : Data → Bool
is_fit_request d = nat_le (length (text_at (codes "value") d)) LONGEST_VALUE

-- the number of the region of a replica
unfoldable pub replica_of : List (List ℕ) → Data → ℕ
replica_of regions d = region_place regions (text_of d)
