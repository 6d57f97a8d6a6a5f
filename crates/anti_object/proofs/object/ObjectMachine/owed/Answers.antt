use Rattle.std.proofs.Common.{◌≡◌, List, sym, subst}
use Rattle.anti_kind.specs.declared.entry.Entry.{Entry}
use Rattle.anti_kind.specs.Machines.{StandsFor}
use Rattle.anti_kind.specs.Objects.{owed}
use Rattle.anti_object.specs.declared.object.Object.{Object}
use Rattle.anti_object.specs.Standing.{object_start, ObjectStands}
use Rattle.anti_object.proofs.object.ObjectMachine.owed.Goals as goal

pub returns-in-Cached : goal.returns-in-Cached
returns-in-Cached c =
    subst (λ (o : Object). (h : List Entry) → StandsFor (object_start o) (ObjectStands o) h → c.owed-in-Cached.result ≡ owed (object_start o) h)
    (sym c.in-Cached.is) c.owed-in-Cached.ensures
