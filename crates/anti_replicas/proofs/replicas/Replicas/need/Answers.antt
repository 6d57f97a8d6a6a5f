use Rattle.anti_replicas.proofs.replicas.Replicas.need.Goals as goal

pub returns-in-Write : goal.returns-in-Write
returns-in-Write c = λ s h at. rw (c.in-Write.is, ← c.get.ensures, ← c.get-in-Write.ensures) (c.write_units.ensures s h at)
