-- Replies that are not of the application.
use Rattle.std.specs.Prelude.{Bool, false, not, ◌&&◌, is_some, Some}
use Rattle.std.specs.List.{list_all}
use Rattle.anti_kind.specs.declared.message.Message.{Message}
use Rattle.anti_kind.specs.declared.call.Reply.{Reply}
use Rattle.anti_kind.specs.declared.call.Reply.TheVariants as replies
use Rattle.anti_app.specs.declared.app.App.{App}
use Rattle.anti_proc.specs.Stated.{stated_lineage, has_stores}

abbrev pub has_baggage : App → Message → Bool
has_baggage app m = is_some (stated_lineage app m)

-- Whether a reply is foreign: the baggage of its message states no lineage over the stores, or an id in one of its lineages is of no
-- store of the application.
abbrev pub is_foreign : App → Reply → Bool
is_foreign app (replies.Written key version (Some kept)) = not (has_stores app kept)
is_foreign app (replies.Shown rows) = not (list_all (λ row. has_stores app row.lineage) rows.items)
is_foreign app (replies.Missing missing unwritten) = not (has_stores app missing && has_stores app unwritten)
is_foreign app (replies.Pulled row) = not (has_stores app row.lineage)
is_foreign app (replies.Got number m) = not (has_baggage app m)
is_foreign app _ = false
