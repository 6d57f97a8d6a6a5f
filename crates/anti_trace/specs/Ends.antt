-- How the processes of a trace ended.
use Rattle.std.specs.Prelude.{ℕ, ◌&&◌, Bool, false, not, List, [], ◌∷◌, if◌then◌else◌, Option, Some, None}
use Rattle.std.specs.List.{flat_map, range_with_len}
use Rattle.std.specs.Option.{option_map_or}
use Rattle.anti_kind.specs.declared.actor.Actor.TheVariants.{Process}
use Rattle.anti_kind.specs.declared.actor.Birth.{Birth}
use Rattle.anti_kind.specs.declared.call.Call.{Call}
use Rattle.anti_kind.specs.declared.entry.Entry.{Entry}
use Rattle.anti_kind.specs.Objects.{Start, ready, fits}
use Rattle.anti_app.specs.declared.app.App.{App}
use Rattle.anti_app.specs.Objects.{object_count}
use Rattle.anti_object.specs.Starts.{start_of}
use Rattle.anti_proc.specs.Births.{birth_at, births}
use Rattle.anti_proc.specs.Meaning.{process_after}
use Rattle.anti_proc.specs.Tasks.{role_of}
use Rattle.anti_proc.specs.Trees.{Want, Make, Over, want_of}
use Rattle.anti_proc.specs.declared.end.End.{End}
use Rattle.anti_proc.specs.declared.end.End.TheVariants.{StoreFull}
use Rattle.anti_proc.specs.declared.task.Role.{Role}
use Rattle.anti_trace.specs.Traces.{entries_on, entries_by}
use Rattle.anti_trace.specs.declared.ends.ProcessEnd.{ProcessEnd}

-- whether a call is ready after a history of an object that starts so, and does not fit there
abbrev pub is_full_after : List Entry → Call → Option Start → Bool
is_full_after history call (Some start) = ready start history call && not (fits start history call)
is_full_after history call None = false

-- How a process ended that wants this after all that it did in the trace: its handler ended, or its next call is ready after all that was
-- done there on its object, and does not fit. Otherwise it did not end.
abbrev pub end_by : App → List Entry → Want → Option End
end_by app trace (Make object span call) =
    if is_full_after (entries_on object trace) call (start_of app object) then Some (StoreFull object) else None
end_by app trace (Over end) = Some end

-- how a process ended by the end of the trace, where it did
abbrev pub end_in : App → List Entry → Birth → Option End
end_in app trace birth = end_by app trace (want_of (process_after app (entries_by (Process birth) trace)))

-- the process that an entry started, by the handler that it runs, and how it ended
abbrev pub process_end : App → List Entry → Entry → Role → ProcessEnd
process_end app trace birth role =
    record { birth = birth_at birth; service = role.service; handler = role.handler; end = end_in app trace (birth_at birth) }

-- an entry that starts no handler started none
abbrev pub end_of : App → List Entry → Entry → List ProcessEnd
end_of app trace birth = option_map_or (λ role. process_end app trace birth role ∷ []) (role_of app birth) []

-- the processes that were born on an object, in the order of their births
abbrev pub ends_on : App → List Entry → ℕ → List ProcessEnd
ends_on app trace o = flat_map (end_of app trace) (births (entries_on o trace))

-- all of them, object by object
abbrev pub ends_of : App → List Entry → List ProcessEnd
ends_of app trace = flat_map (ends_on app trace) (range_with_len 0 (object_count app))
