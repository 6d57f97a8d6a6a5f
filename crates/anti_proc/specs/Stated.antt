-- The lineage that a message states, over the stores of an application.
use Rattle.std.specs.Prelude.{Bool, List, Option}
use Rattle.std.specs.List.{list_all}
use Rattle.std.specs.Result.{result_ok}
use Rattle.anti_ids.specs.declared.id.WriteId.{WriteId}
use Rattle.anti_kind.specs.declared.message.Message.{Message}
use Rattle.anti_baggage.specs.Reading.{read_lineage}
use Rattle.anti_app.specs.declared.app.App.{App}
use Rattle.anti_app.specs.Objects.{is_store, store_names}

-- whether each id is of a store of the application
abbrev pub has_stores : App → List WriteId → Bool
has_stores app ids = list_all (λ id. is_store app id.store) ids

-- the lineage over the application's stores that the text of a message states, where it states one
abbrev pub stated_lineage : App → Message → Option (List WriteId)
stated_lineage app m = result_ok (read_lineage (store_names app) m.baggage.items)
