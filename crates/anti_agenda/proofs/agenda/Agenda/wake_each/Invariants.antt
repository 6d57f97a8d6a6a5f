use Rattle.std.specs.BTreeSet.{btree_set_len}
use Rattle.anti_agenda.specs.inner.Waking.{WakesWaiting}
use Rattle.anti_agenda.proofs.agenda.Agenda.wake_each.Given as goal

abbrev pub invariant-loop-sleeper : goal.invariant-loop-sleeper
invariant-loop-sleeper l = WakesWaiting l.fn.object l.fn.brought l.fn.self l.self

-- fewer are asleep
abbrev pub decreases-loop-sleeper : goal.decreases-loop-sleeper
decreases-loop-sleeper l = btree_set_len l.self.asleep
