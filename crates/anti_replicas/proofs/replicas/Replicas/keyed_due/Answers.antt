use Rattle.anti_replicas.specs.Stores.{keyed}
use Rattle.anti_replicas.proofs.replicas.Replicas.keyed_due.Goals as goal

pub returns-in-Read-clause-due : goal.returns-in-Read-clause-due
returns-in-Read-clause-due c = λ kind number regions h at keys. rw c.in-Read.is (c.read.ensures (keyed kind number regions) h at)

pub returns-in-Write-clause-due : goal.returns-in-Write-clause-due
returns-in-Write-clause-due c = λ kind number regions h at keys. rw (c.in-Write.is, ← c.get.ensures) (c.written.ensures (keyed kind number regions) h c.in-Write.value at keys)
