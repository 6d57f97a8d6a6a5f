-- That nothing is left to make.
use Rattle.std.specs.Prelude.{◌≡◌, List, All, None}
use Rattle.anti_kind.specs.declared.entry.Entry.{Entry}
use Rattle.anti_app.specs.declared.app.App.{App}
use Rattle.anti_play.specs.Schedule.{chosen, offers}

-- none of the offers of `finish` makes an entry
abbrev pub IsComplete : App → List Entry → Type 0
IsComplete app trace = All (λ choice. chosen app trace choice ≡ None) (offers app trace)
