-- The words of the printed record: names, values, ids and lineages.
use Rattle.std.specs.Prelude.{ℕ, List, [], ◌++◌, codes, decimal, slice_get}
use Rattle.std.specs.Option.{option_map_or}
use Rattle.anti_ids.specs.declared.id.WriteId.{WriteId}
use Rattle.anti_app.specs.declared.app.App.{App}
use Rattle.anti_app.specs.declared.app.HandlerDef.{HandlerDef}
use Rattle.anti_app.specs.declared.objects.ObjectAt.{ObjectAt}
use Rattle.anti_app.specs.declared.objects.ObjectAt.TheVariants.{Store, Inbox}
use Rattle.anti_app.specs.Objects.{object_at, store_names}
use Rattle.anti_app.specs.Subs.{number_on}
use Rattle.anti_baggage.specs.Escapes.{escaped}
use Rattle.anti_baggage.specs.Texts as texts

-- the name of a store, of a service, of a handler of a service, of a sub and of a region by its
-- number; no text where there is none
abbrev pub store_name : App → ℕ → List ℕ
store_name app store = option_map_or (λ s. s.name) (slice_get app.stores.items store) []

abbrev pub service_name : App → ℕ → List ℕ
service_name app service = option_map_or (λ s. s.name) (slice_get app.services.items service) []

abbrev pub name_among : ℕ → List HandlerDef → List ℕ
name_among handler handlers = option_map_or (λ h. h.name) (slice_get handlers handler) []

abbrev pub handler_name : App → ℕ → ℕ → List ℕ
handler_name app service handler =
    option_map_or (λ s. name_among handler s.handlers.items) (slice_get app.services.items service) []

abbrev pub sub_name : App → ℕ → List ℕ
sub_name app sub = option_map_or (λ s. s.name) (slice_get app.subs.items sub) []

abbrev pub region_name : App → ℕ → List ℕ
region_name app region = option_map_or (λ name. name) (slice_get app.regions.items region) []

-- the name of the sub at a position among those of a store
abbrev pub sub_name_on : App → ℕ → ℕ → List ℕ
sub_name_on app store position = option_map_or (sub_name app) (number_on app store position) []

-- the name of an object by its number: that of the store, or of the service whose inbox it is
abbrev pub name_of : App → ObjectAt → List ℕ
name_of app (Store store) = store_name app store
name_of app (Inbox service) = service_name app service

abbrev pub object_name : App → ℕ → List ℕ
object_name app object = option_map_or (name_of app) (object_at app object) []

-- a place on an object, as `posts.3`
abbrev pub mark_text : App → ℕ → ℕ → List ℕ
mark_text app object place = object_name app object ++ codes "." ++ decimal place

-- a value in quotation marks
abbrev pub quoted : List ℕ → List ℕ
quoted value = codes "\"" ++ escaped value ++ codes "\""

-- a lineage in its text of version 1, as `1;posts/p1@3,posts/n%231@4`
abbrev pub lineage_text : App → List WriteId → List ℕ
lineage_text app ids = texts.lineage_text_one (store_names app) ids
