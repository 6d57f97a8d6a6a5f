-- Which numbers are those of stores and of inboxes, and which service an inbox has.
use Rattle.std.specs.Prelude.{ℕ, ◌<◌, length, ◌≤◌, ◌-◌}
use Rattle.anti_app.specs.declared.app.App.{App}
use Rattle.anti_app.specs.Objects.{object_count}

-- the number of a store, and that of an inbox
abbrev pub IsStore : App → ℕ → Type 0
IsStore app number = number < length app.stores.items

abbrev pub IsInbox : App → ℕ → Type 0
IsInbox app number = (length app.stores.items ≤ number) × (number < object_count app)

-- the service of an inbox
abbrev pub service_at : App → ℕ → ℕ
service_at app inbox = inbox - length app.stores.items
