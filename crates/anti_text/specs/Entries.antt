-- The lines of the entries, and of the choices that made none.
use Rattle.std.specs.Prelude.{ℕ, List, [], ◌++◌, ◌-◌, codes, decimal, Option, Some, None, slice_get}
use Rattle.std.specs.Option.{option_map_or}
use Rattle.anti_kind.specs.declared.actor.Actor.{Actor}
use Rattle.anti_kind.specs.declared.actor.Actor.TheVariants.{Carrier, Process, Newborn}
use Rattle.anti_kind.specs.declared.entry.Entry.{Entry}
use Rattle.anti_app.specs.declared.app.App.{App}
use Rattle.anti_app.specs.declared.app.Choice.{Choice}
use Rattle.anti_app.specs.declared.app.Choice.TheVariants.{Take, Repost, Pull, Repull, Ship, Again, Go, Finish}
use Rattle.anti_text.specs.Words.{sub_name, store_name, service_name, region_name, mark_text}
use Rattle.anti_text.specs.Calls.{call_text, reply_text}

-- who made a call: carrier 0 as `~0`, a process by its birth, as `w.1`; no entry is a newborn's
abbrev pub actor_name : App → Actor → List ℕ
actor_name app (Carrier number) = codes "~" ++ decimal number
actor_name app (Process birth) = mark_text app birth.object birth.place
actor_name app Newborn = []

-- the same with the span of a process, as `w.1/1`
abbrev pub span_text : Actor → ℕ → List ℕ
span_text (Process birth) span = codes "/" ++ decimal span
span_text _ span = []

abbrev pub actor_text : App → Actor → ℕ → List ℕ
actor_text app actor span = actor_name app actor ++ span_text actor span

-- an entry, as `2 s.1 w.1/1 write k "a" 1; = k@1`
abbrev pub entry_line : App → Entry → List ℕ
entry_line app e =
    decimal e.stamp
    ++ codes " " ++ mark_text app e.object e.place ++ codes " " ++ actor_text app e.actor e.span
    ++ codes " " ++ call_text app e.object e.call ++ codes " = " ++ reply_text app e.reply
    ++ codes "\n"

-- a choice in its own words; a part that was left out stays out
abbrev pub part_text : Option ℕ → List ℕ
part_text None = []
part_text (Some part) = codes " " ++ decimal part

-- a store, a region, a version and a part where one was given
abbrev pub shipment_text : App → ℕ → ℕ → ℕ → Option ℕ → List ℕ
shipment_text app store region version part =
    store_name app store ++ codes " " ++ region_name app region
    ++ codes " " ++ decimal version ++ part_text part

abbrev pub choice_text : App → Choice → List ℕ
choice_text app (Take service nth) =
    codes "take " ++ service_name app service ++ codes " " ++ decimal nth
choice_text app (Repost service number) =
    codes "repost " ++ service_name app service ++ codes " " ++ decimal number
choice_text app (Pull sub) = codes "pull " ++ sub_name app sub
choice_text app (Repull sub version) =
    codes "repull " ++ sub_name app sub ++ codes " " ++ decimal version
choice_text app (Ship store region version part) =
    codes "ship " ++ shipment_text app store region version part
choice_text app (Again store region version part) =
    codes "again " ++ shipment_text app store region version part
choice_text app (Go object place) = codes "go " ++ mark_text app object place
choice_text app Finish = codes "finish"

-- the choice with a number, counted from 1; no text where there is none
abbrev pub choice_numbered : App → ℕ → List ℕ
choice_numbered app number =
    option_map_or (choice_text app) (slice_get app.choices.items (number - 1)) []

-- a choice that made no entry, as `wait 5 go w.1`
abbrev pub wait_line : App → ℕ → List ℕ
wait_line app number =
    codes "wait " ++ decimal number ++ codes " " ++ choice_numbered app number ++ codes "\n"
