-- The lines of the processes.
use Rattle.std.specs.Prelude.{ℕ, List, ◌++◌, codes, Option, Some, None}
use Rattle.anti_app.specs.declared.app.App.{App}
use Rattle.anti_proc.specs.declared.end.End.{End}
use Rattle.anti_proc.specs.declared.end.End.TheVariants.{Fine, Depth, BadKey, LineageFull, StoreFull}
use Rattle.anti_trace.specs.declared.ends.ProcessEnd.{ProcessEnd}
use Rattle.anti_text.specs.Words.{service_name, handler_name, object_name, mark_text}

-- how a process ended; `open`, where it did not
abbrev pub end_text : App → Option End → List ℕ
end_text app (Some Fine) = codes "fine"
end_text app (Some Depth) = codes "depth"
end_text app (Some BadKey) = codes "badkey"
end_text app (Some LineageFull) = codes "lineage"
end_text app (Some (StoreFull object)) = codes "store " ++ object_name app object
end_text app None = codes "open"

-- a process, as `process w.1 w one fine`: the place of its birth, the service and the handler that
-- it runs, and how it ended
abbrev pub process_line : App → ProcessEnd → List ℕ
process_line app p =
    codes "process " ++ mark_text app p.birth.object p.birth.place
    ++ codes " " ++ service_name app p.service ++ codes " " ++ handler_name app p.service p.handler
    ++ codes " " ++ end_text app p.end ++ codes "\n"
