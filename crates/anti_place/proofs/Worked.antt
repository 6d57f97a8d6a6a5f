-- Small bodies and the first line of each that fails, all its faults and all its barriers that never have to wait, and small applications.
use Rattle.std.proofs.Common.{◌≡◌, ℕ, true, false, List, [], ◌∷◌, codes, Option, Some, None, refl}
use Rattle.anti_ids.specs.List.{plain}
use Rattle.anti_lang.specs.Bodies.{block_from, body_of}
use Rattle.anti_lang.specs.Program.{Step, Write, Append, Remove, Transfer, Barrier, Read, Call, Send, Nack, Root, Stop, Repeat, IfAbsent}
use Rattle.anti_lang.proofs.PlainLemmas.{step_again}
use Rattle.anti_lang.specs.declared.statement.KeyWord.TheVariants as keys
use Rattle.anti_lang.specs.declared.statement.ValueWord.TheVariants as values
use Rattle.anti_app.specs.declared.app.App.{App}
use Rattle.anti_app.specs.declared.app.HandlerDef.{HandlerDef}
use Rattle.anti_app.specs.declared.app.SubDef.{SubDef}
use Rattle.anti_place.specs.declared.fault.Fault.{Fault}
use Rattle.anti_place.specs.declared.placement.Placement.TheVariants.{Yes, No}
use Rattle.anti_place.specs.declared.reason.Reason.{Reason}
use Rattle.anti_place.specs.declared.reason.Reason.TheVariants.{Removed, Untracked, Untransferred, Unsettled}
use Rattle.anti_place.specs.Paths.{first_fault}
use Rattle.anti_place.specs.Placements.{placement}
use Rattle.anti_place.specs.declared.remark.Finding.TheVariants.{Fails, Superfluous}
use Rattle.anti_place.specs.Reviews.{faults_of, superfluous, review}
use Rattle.anti_place.specs.Without.{block_without}

-- names: a store, two keys, and two variables
abbrev s : List ℕ
s = codes "s"

abbrev k : List ℕ
k = codes "k"

abbrev j : List ℕ
j = codes "j"

abbrev x : List ℕ
x = codes "x"

abbrev y : List ℕ
y = codes "y"

-- `write s k $in`, and the same with a variable
abbrev write : Step
write = Write s (keys.Plain k) values.Input None false

abbrev write_x : Step
write_x = Write s (keys.Plain k) values.Input (Some x) false

abbrev untracked_x : Step
untracked_x = Write s (keys.Plain k) values.Input (Some x) true

-- `read s k as x`, and another read
abbrev read_x : Step
read_x = Read s (keys.Plain k) x

abbrev read_y : Step
read_y = Read s (keys.Plain j) y

-- a handler that nothing names, one that a send or a subscription names, and one that a call names
abbrev Alone : List Step → Option Fault → Type 0
Alone body fault = first_fault false false (block_from body) ≡ fault

abbrev Named : List Step → Option Fault → Type 0
Named body fault = first_fault false true (block_from body) ≡ fault

abbrev Called : List Step → Option Fault → Type 0
Called body fault = first_fault true true (block_from body) ≡ fault

abbrev at : ℕ → Reason → Option Fault
at line reason = Some (record { line = line; reason = reason })

-- a barrier that is missing on one of two ways
barrier_in_if : Alone (read_x ∷ Transfer x ∷ IfAbsent x (block_from (Barrier ∷ [])) ∷ read_y ∷ []) (at 6 Unsettled)
barrier_in_if = refl

barrier_on_both : Alone (read_x ∷ Transfer x ∷ Barrier ∷ read_y ∷ []) None
barrier_on_both = refl

-- a transfer that is missing on one of two ways
transfer_in_if : Alone (read_x ∷ IfAbsent x (block_from (Transfer x ∷ [])) ∷ write ∷ []) (at 5 Untransferred)
transfer_in_if = refl

-- an id that is taken out, and one that never joins
takes_out : Alone (write_x ∷ Remove x ∷ []) (at 2 Removed)
takes_out = refl

never_joins : Alone (untracked_x ∷ []) (at 1 Untracked)
never_joins = refl

-- what comes to a handler that is named
read_first : Named (read_x ∷ []) (at 1 Unsettled)
read_first = refl

read_in_a_new_span : Named (Root ∷ read_x ∷ []) None
read_in_a_new_span = refl

-- what was read is lost to a caller at the end, which stands behind the last line, and at a `nack`
lost_at_the_end : Called (Root ∷ read_x ∷ []) (at 3 Untransferred)
lost_at_the_end = refl

lost_at_a_nack : Called (Root ∷ read_x ∷ IfAbsent x (block_from (Nack ∷ [])) ∷ Transfer x ∷ []) (at 4 Untransferred)
lost_at_a_nack = refl

empty_and_called : Called [] None
empty_and_called = refl

-- two reasons at one line
two_reasons : Alone (read_x ∷ Append x ∷ read_y ∷ []) (at 3 Untransferred)
two_reasons = refl

-- a block that is entered with what its own end leaves, and one that has no turn
second_turn : Alone (Repeat 2 (block_from (read_x ∷ Transfer x ∷ [])) ∷ []) (at 2 Unsettled)
second_turn = refl

no_turn : Alone (Repeat 0 (block_from (read_x ∷ Transfer x ∷ [])) ∷ []) None
no_turn = refl

-- no way comes to a line behind a `nack`
behind_nack : Alone (Nack ∷ Remove x ∷ []) None
behind_nack = refl

-- Behind a `stop` no span begins until a `root`, and no document has a line between them. Here one has: the table says nothing of it.
stop_without_root : Alone (Stop ∷ write ∷ Root ∷ read_x ∷ []) None
stop_without_root = refl

-- ---- all faults of a body

abbrev AllAlone : List Step → List Fault → Type 0
AllAlone body faults = faults_of false false (block_from body) ≡ faults

abbrev fault : ℕ → Reason → Fault
fault line reason = record { line = line; reason = reason }

-- two reasons at one line, and a line behind it
both_reasons : AllAlone (read_x ∷ Append x ∷ read_y ∷ write ∷ []) (fault 3 Untransferred ∷ fault 3 Unsettled ∷ fault 4 Untransferred ∷ [])
both_reasons = refl

-- on the way through the block of an `if`, and on the way past it
on_both_ways :
    AllAlone (read_x ∷ Transfer x ∷ IfAbsent x (block_from (write_x ∷ Remove x ∷ Barrier ∷ [])) ∷ read_y ∷ []) (fault 5 Removed ∷ fault 8 Unsettled ∷ [])
on_both_ways = refl

-- a block that is gone through twice tells its faults once
told_once : AllAlone (Repeat 2 (block_from (untracked_x ∷ read_x ∷ [])) ∷ []) (fault 2 Untracked ∷ fault 3 Untransferred ∷ [])
told_once = refl

placed_body : AllAlone (read_x ∷ Transfer x ∷ Barrier ∷ read_y ∷ []) []
placed_body = refl

-- ---- barriers that never have to wait

abbrev NeverWait : List Step → List ℕ → Type 0
NeverWait body lines = superfluous false (block_from body) ≡ lines

-- straight behind a barrier
barrier_again : NeverWait (write ∷ Barrier ∷ Barrier ∷ []) (3 ∷ [])
barrier_again = refl

-- what is settled on one way alone is not
settled_on_one_way : NeverWait (write ∷ IfAbsent x (block_from (Barrier ∷ [])) ∷ Barrier ∷ []) []
settled_on_one_way = refl

settled_on_both : NeverWait (write ∷ Barrier ∷ IfAbsent x (block_from (Barrier ∷ [])) ∷ []) (4 ∷ [])
settled_on_both = refl

-- a span of its own has nothing to wait for
barrier_in_a_new_span : NeverWait (write ∷ Root ∷ Barrier ∷ []) (3 ∷ [])
barrier_in_a_new_span = refl

-- a handler that nothing names carries nothing at first, one that is named may
nothing_carried : NeverWait (Barrier ∷ []) (1 ∷ [])
nothing_carried = refl

carried_at_first : superfluous true (block_from (Barrier ∷ Barrier ∷ [])) ≡ 2 ∷ []
carried_at_first = refl

-- on the second turn it has to
second_turn_waits : NeverWait (Repeat 2 (block_from (Barrier ∷ write ∷ [])) ∷ Barrier ∷ []) []
second_turn_waits = refl

-- no way comes to it
never_come_to : NeverWait (write ∷ Nack ∷ Barrier ∷ []) (3 ∷ [])
never_come_to = refl

never_turned : NeverWait (write ∷ Repeat 0 (block_from (Barrier ∷ [])) ∷ []) (3 ∷ [])
never_turned = refl

-- a body without a barrier, also one that stands in a block, and with a line that is none
without_one : block_without 3 1 (block_from (write ∷ Barrier ∷ Barrier ∷ Remove x ∷ [])) ≡ block_from (write ∷ Barrier ∷ Remove x ∷ [])
without_one = refl

without_in_block : block_without 3 1 (block_from (write ∷ IfAbsent x (block_from (Barrier ∷ write ∷ [])) ∷ Barrier ∷ [])) ≡ block_from (write ∷ IfAbsent x (block_from (write ∷ [])) ∷ Barrier ∷ [])
without_in_block = refl

without_none : block_without 1 1 (block_from (write ∷ Barrier ∷ [])) ≡ block_from (write ∷ Barrier ∷ [])
without_none = refl

-- ---- applications: one service `w`, with the handlers `one` and `two`

abbrev named : List ℕ → List Step → HandlerDef
named name body = record { name = name; body = body_of (block_from body) }

abbrev app_of : List Step → List Step → List SubDef → App
app_of one two subs = record {
  regions = plain [];
  stores = plain [];
  services = plain (record { name = codes "w"; region = 0; handlers = plain (named (codes "one") one ∷ named (codes "two") two ∷ []) } ∷ []);
  subs = plain subs;
  requests = plain [];
  choices = plain [];
  seed = 0;
  workers = 2;
}

-- `send w two $in`, `call w two $in as y`, and a subscription whose messages start the handler `two`
abbrev send : Step
send = Send (codes "w") (codes "two") values.Input

abbrev call : Step
call = Call (codes "w") (codes "two") values.Input y

abbrev sub : SubDef
sub = record { name = codes "sub"; store = 0; channel = codes "c"; service = 0; handler = 1 }

not_named : placement (app_of [] (read_x ∷ []) []) ≡ Yes
not_named = rw (step_again read_x) refl

named_by_a_sub : placement (app_of [] (read_x ∷ []) (sub ∷ [])) ≡ No 0 1 1 Unsettled
named_by_a_sub = rw (step_again read_x) refl

named_by_a_send : placement (app_of (send ∷ []) (read_x ∷ []) []) ≡ No 0 1 1 Unsettled
named_by_a_send = rw (step_again send, step_again read_x) refl

-- a line that no way comes to names its handler all the same
named_behind_a_nack : placement (app_of (Nack ∷ send ∷ []) (read_x ∷ []) []) ≡ No 0 1 1 Unsettled
named_behind_a_nack = rw (step_again Nack, step_again send, step_again read_x) refl

called : placement (app_of (call ∷ []) (Root ∷ read_x ∷ []) []) ≡ No 0 1 3 Untransferred
called = rw (step_again call, step_again Root, step_again read_x) refl

-- all faults of all handlers, and behind them the barriers
reviewed :
    review (app_of (Barrier ∷ write_x ∷ Remove x ∷ []) (read_x ∷ []) (sub ∷ []))
    ≡ record { service = 0; handler = 0; line = 3; finding = Fails Removed }
    ∷ record { service = 0; handler = 1; line = 1; finding = Fails Unsettled }
    ∷ record { service = 0; handler = 0; line = 1; finding = Superfluous }
    ∷ []
reviewed = rw (step_again Barrier, step_again write_x, step_again (Remove x), step_again read_x) refl
