-- The subscriptions of an application have two numbers: one in the document, and their position among those of their store.
use Rattle.std.specs.Prelude.{ℕ, Bool, List, false, length, map, take, filter, ◌==◌, Option, slice_get}
use Rattle.std.specs.List.{range_with_len}
use Rattle.std.specs.Option.{option_and_then, option_map_or}
use Rattle.anti_kind.specs.declared.store_kind.Sub.{Sub}
use Rattle.anti_app.specs.declared.app.App.{App}
use Rattle.anti_app.specs.declared.app.SubDef.{SubDef}
use Rattle.anti_app.specs.Objects.{region_of}

abbrev pub is_on : ℕ → SubDef → Bool
is_on store sub = sub.store == store

-- a subscription as its store has it: its messages come to the region of the service
abbrev pub sub_of : App → SubDef → Sub
sub_of app sub = record { channel = sub.channel; region = region_of app sub.service }

-- the subscriptions of a store, in the order of the document
abbrev pub subs_on : App → ℕ → List Sub
subs_on app store = map (sub_of app) (filter (is_on store) app.subs.items)

-- the position among those of the store of the subscription with a number in the document
abbrev pub position_on : App → ℕ → ℕ → ℕ
position_on app store number = length (filter (is_on store) (take number app.subs.items))

-- whether the subscription with a number in the document is on the store
abbrev pub is_number_on : App → ℕ → ℕ → Bool
is_number_on app store number = option_map_or (is_on store) (slice_get app.subs.items number) false

-- the number in the document of the subscription at a position among those of the store
abbrev pub number_on : App → ℕ → ℕ → Option ℕ
number_on app store position = slice_get (filter (is_number_on app store) (range_with_len 0 (length app.subs.items))) position

-- that subscription
abbrev pub sub_on : App → ℕ → ℕ → Option SubDef
sub_on app store position = option_and_then (λ number. slice_get app.subs.items number) (number_on app store position)
