-- What is left of a process that goes on to a call, or ends.
use Rattle.std.specs.Prelude.{Box, List, Result, Ok, Err}
use Rattle.std.specs.declared.alloc.Global.{Global}
use Rattle.anti_app.specs.declared.app.App.{App}
use Rattle.anti_proc.specs.declared.end.BodyEnd.{BodyEnd}
use Rattle.anti_proc.specs.declared.given.Given.{Given}
use Rattle.anti_proc.specs.declared.run.Going.{Going}
use Rattle.anti_proc.specs.declared.variables.Variable.{Variable}
use Rattle.anti_proc.specs.inner.Standing.{going, local_by, next_tree, setting}
use Rattle.anti_proc.specs.Trees.{Tree, Ends}

-- the call and what follows it, by the variables that there were, or the end
abbrev pub going_tree : App → Given → List Variable → Result (Box Going Global) BodyEnd → Tree
going_tree app given before (Ok g) =
    next_tree g.value.next (setting app given) (local_by g.value.changes before) (going app given g.value.cursor)
going_tree app given before (Err end) = Ends end
