-- The entry that is made of what is asked.
use Rattle.std.specs.Prelude.{ℕ}
use Rattle.anti_kind.specs.declared.actor.Actor.{Actor}
use Rattle.anti_kind.specs.declared.actor.Actor.TheVariants.{Process, Newborn}
use Rattle.anti_kind.specs.declared.asking.Asking.{Asking}
use Rattle.anti_kind.specs.declared.call.Reply.{Reply}
use Rattle.anti_kind.specs.declared.entry.Entry.{Entry}

-- a process that the entry itself begins is named by the entry's object and place
abbrev pub named : Actor → ℕ → ℕ → Actor
named Newborn object place = Process (record { object = object; place = place })
named actor object place = actor

abbrev pub entry_of : Asking → ℕ → ℕ → ℕ → Reply → Entry
entry_of q seat place stamp reply = record {
  stamp = stamp;
  object = q.object;
  place = place;
  seat = seat;
  actor = named q.actor q.object place;
  span = q.span;
  call = q.call;
  reply = reply;
}
