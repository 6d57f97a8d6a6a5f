-- What the pull of a subscription starts.
use Rattle.std.specs.Prelude.{◌≡◌, Some}
use Rattle.anti_kind.specs.declared.call.Reply.TheVariants.{Pulled}
use Rattle.anti_kind.specs.declared.entry.Entry.{Entry}
use Rattle.anti_kind.specs.declared.row.Row.{Row}
use Rattle.anti_app.specs.declared.app.App.{App}
use Rattle.anti_app.specs.declared.app.SubDef.{SubDef}
use Rattle.anti_proc.specs.Tasks.{role_of, role_on}

-- the entry hands a row out, and starts the handler of the subscription
pub record StartsHandlerOf (app : App) (sub : SubDef) (e : Entry) : Type 0 where
  pub row : Row
  pub reply : e.reply ≡ Pulled row
  pub role : role_of app e ≡ Some (role_on app sub.store row.version sub)
