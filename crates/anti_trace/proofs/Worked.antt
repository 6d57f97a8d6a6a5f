-- A worked trace: two services, each with one request, and a store `s`. Each service takes its request, at one stamp. The process of the
-- first writes, and the carrier ships what it wrote.
use Rattle.std.proofs.Common.{◌≡◌, ℕ, ◌<◌, List, [], ◌∷◌, true, false, refl, sym, ap, subst, arith}
use Rattle.std.specs.Prelude.{None, Some, codes}
use Rattle.std.proofs.lemmas.Bool.{eqb-false}
use Rattle.std.proofs.lemmas.List.Elements.{All-nil, All-cons}
use Rattle.anti_ids.specs.List.{plain}
use Rattle.anti_kind.specs.declared.actor.Actor.TheVariants.{Carrier, Process, Newborn}
use Rattle.anti_kind.specs.declared.actor.Birth.{Birth}
use Rattle.anti_kind.specs.declared.call.Call.TheVariants as calls
use Rattle.anti_kind.specs.declared.call.Reply.TheVariants as replies
use Rattle.anti_kind.specs.declared.entry.Entry.{Entry}
use Rattle.anti_kind.specs.declared.message.Message.{Message}
use Rattle.anti_kind.specs.declared.message.MessageKind.TheVariants as kinds
use Rattle.anti_kind.specs.declared.store_kind.StoreKind.TheVariants.{Kv}
use Rattle.anti_kind.specs.Objects.{Start, inbox, store}
use Rattle.anti_kind.specs.Store.{store_of}
use Rattle.anti_lang.specs.Bodies.{block_from, body_of}
use Rattle.anti_lang.proofs.PlainLemmas.{step_again}
use Rattle.anti_lang.specs.Program as statements
use Rattle.anti_lang.specs.Program.{Step}
use Rattle.anti_lang.specs.declared.statement.KeyWord.TheVariants as keys
use Rattle.anti_lang.specs.declared.statement.ValueWord.TheVariants.{Literal}
use Rattle.anti_app.specs.declared.app.App.{App}
use Rattle.anti_app.specs.declared.app.RequestDef.{RequestDef}
use Rattle.anti_app.specs.declared.app.ServiceDef.{ServiceDef}
use Rattle.anti_proc.specs.Meaning.{begun, setting_of}
use Rattle.anti_proc.specs.Tasks.{role_in, task_with}
use Rattle.anti_proc.specs.Trees.{Tree, after, want_of}
use Rattle.anti_proc.specs.declared.end.End.TheVariants as ends
use Rattle.anti_trace.specs.Ends.{end_by, end_in}
use Rattle.anti_trace.specs.Traces.{entries_by, entries_on}
use Rattle.anti_trace.specs.Legal.{AreStamps, GoAlong, IsBirthOf, IsCarried, IsLegalTrace, IsLife, IsOfActor}
use Rattle.anti_trace.proofs.PutLegal.{legal_none, legal_put}

-- ---- the application

-- `write s k a`
abbrev write : Step
write = statements.Write (codes "s") (keys.Plain (codes "k")) (Literal (codes "a")) None false

abbrev service_with : List ℕ → List Step → ServiceDef
service_with name steps = record { name = name; region = 0; handlers = plain (record { name = codes "h"; body = body_of (block_from steps) } ∷ []) }

abbrev request_to : ℕ → RequestDef
request_to service = record { service = service; handler = 0; value = [] }

abbrev app : App
app = record {
  regions = plain (codes "eu" ∷ []);
  stores = plain (record { name = codes "s"; kind = Kv; replicas = plain (0 ∷ []); tries = 3; room = 8 } ∷ []);
  services = plain (service_with (codes "v") (write ∷ []) ∷ service_with (codes "w") [] ∷ []);
  subs = plain [];
  requests = plain (request_to 0 ∷ request_to 1 ∷ []);
  choices = plain [];
  seed = 1;
  workers = 1;
}

-- ---- the entries

abbrev message : Message
message = record { kind = kinds.Request; to = 0; depth = 0; handler = codes "h"; value = []; baggage = plain (codes "1;") }

abbrev first_on : ℕ → Birth
first_on object = record { object = object; place = 1 }

-- the take of a request, by which a process is born
abbrev taken : ℕ → Entry
taken object = record {
  stamp = 1;
  object = object;
  place = 1;
  seat = 0;
  actor = Process (first_on object);
  span = 1;
  call = calls.Take 1;
  reply = replies.Got 1 message;
}

abbrev written : Entry
written = record {
  stamp = 2;
  object = 0;
  place = 1;
  seat = 0;
  actor = Process (first_on 1);
  span = 1;
  call = calls.Write (codes "k") (codes "a") [];
  reply = replies.Written (codes "k") 1 None;
}

abbrev shipped : Entry
shipped = record {
  stamp = 3;
  object = 0;
  place = 2;
  seat = 0;
  actor = Carrier 0;
  span = 0;
  call = calls.Ship 0 1 1;
  reply = replies.Moved;
}

abbrev trace : List Entry
trace = taken 1 ∷ taken 2 ∷ written ∷ shipped ∷ []

-- ---- the trace is legal

-- what the process of the first service does, by the statement of its body
abbrev tree_with : Step → Tree
tree_with step =
    let task = task_with (role_in app 1 0 1 message) [] [] in
    begun (block_from (step ∷ [])) (setting_of app task) task.carried

birth_is : (object : ℕ) → IsBirthOf (first_on object) (taken object)
birth_is object = record { named = refl; call = refl; span = refl }

-- it writes, and then it has ended
writes : IsLife app (first_on 1) (taken 1 ∷ written ∷ [])
writes = (birth_is 1, subst (λ (step : Step). GoAlong (tree_with step) (written ∷ [])) (sym (step_again write)) (refl, refl, refl, tt))

-- In the order of the list, one by one.
one : IsLegalTrace app (taken 1 ∷ [])
one = legal_put app [] (legal_none app) (taken 1) (inbox (message ∷ [])) refl
    (record { place = refl; is_ready = refl; fits = refl; reply = refl; stamp = All-nil (λ d. d.stamp < 1) }) (birth_is 1, tt) refl

-- The stamp is that of the entry before it: neither the actor nor the object has an entry yet.
two : IsLegalTrace app (taken 1 ∷ taken 2 ∷ [])
two = legal_put app (taken 1 ∷ []) one (taken 2) (inbox (message ∷ [])) refl
    (record { place = refl; is_ready = refl; fits = refl; reply = refl; stamp = All-nil (λ d. d.stamp < 1) }) (birth_is 2, tt) refl

abbrev start : Start
start = store (store_of Kv 0 (0 ∷ []) [] 0)

three : IsLegalTrace app (taken 1 ∷ taken 2 ∷ written ∷ [])
three = legal_put app (taken 1 ∷ taken 2 ∷ []) two written start refl
    (record { place = refl; is_ready = refl; fits = refl; reply = refl; stamp = All-nil (λ d. d.stamp < 2) }) writes refl

-- The carrier did nothing yet, but the object has the stamp 2.
whole : IsLegalTrace app trace
whole = legal_put app (taken 1 ∷ taken 2 ∷ written ∷ []) three shipped start refl
    (record {
      place = refl;
      is_ready = refl;
      fits = refl;
      reply = refl;
      stamp = All-cons (λ d. d.stamp < 3) written [] (omega arith) (All-nil (λ d. d.stamp < 3));
    })
    (All-cons IsCarried shipped [] (record { call = refl; span = refl }) (All-nil IsCarried)) refl

-- The parts of it.
history : entries_on 0 trace ≡ written ∷ shipped ∷ []
history = refl

life : entries_by (Process (first_on 1)) trace ≡ taken 1 ∷ written ∷ []
life = refl

-- ---- how its processes ended

-- the first behind its write
first_ends : end_in app trace (first_on 1) ≡ Some ends.Fine
first_ends =
    subst (λ (step : Step). end_by app trace (want_of (after (tree_with step) (written.reply ∷ []))) ≡ Some ends.Fine) (sym (step_again write)) refl

-- the second at once
second_ends : end_in app trace (first_on 2) ≡ Some ends.Fine
second_ends = refl

-- the first did not end before it wrote: its call fits
first_goes_on : end_in app (taken 1 ∷ taken 2 ∷ []) (first_on 1) ≡ None
first_goes_on =
    subst (λ (step : Step). end_by app (taken 1 ∷ taken 2 ∷ []) (want_of (tree_with step)) ≡ None) (sym (step_again write)) refl

-- ---- what is not legal

-- a process is born in its first span
birth_in_second_span : IsLife app (first_on 1) (record (taken 1) { span = 2 } ∷ []) → ⊥
birth_in_second_span did = eqb-false 2 1 refl did.0.span

-- nor does it have a call that bears none, and the name is that of the birth
no_birth : IsLife app (first_on 0) (written ∷ []) → ⊥
no_birth did = let bears : false ≡ true = did.0.call in absurd (cc)

another_name : IsLife app (first_on 2) (taken 1 ∷ []) → ⊥
another_name did = eqb-false 1 2 refl (ap (λ (b : Birth). b.object) did.0.named)

-- the process makes its call in the span that it is in
abbrev goes : Entry → Step → Type 0
goes e step = GoAlong (tree_with step) (e ∷ [])

writes_in_second_span : IsLife app (first_on 1) (taken 1 ∷ record written { span = 2 } ∷ []) → ⊥
writes_in_second_span did =
    let along : goes (record written { span = 2 }) write = subst (goes (record written { span = 2 })) (step_again write) did.1 in
    eqb-false 2 1 refl along.1

-- nothing comes behind its end
abbrev goes_twice : Step → Type 0
goes_twice step = GoAlong (tree_with step) (written ∷ written ∷ [])

writes_behind_its_end : IsLife app (first_on 1) (taken 1 ∷ written ∷ written ∷ []) → ⊥
writes_behind_its_end did = let along : goes_twice write = subst goes_twice (step_again write) did.1 in along.3

-- a carrier ships in no span
ships_in_a_span : IsOfActor app (Carrier 0) (record shipped { span = 1 } ∷ []) → ⊥
ships_in_a_span did = eqb-false 1 0 refl (did 0 shipped (omega arith)).span

-- and does not write
carrier_writes : IsOfActor app (Carrier 0) (record written { span = 0 } ∷ []) → ⊥
carrier_writes did = let call : false ≡ true = (did 0 shipped (omega arith)).call in absurd (cc)

-- none is by a process that is yet to be born
by_newborn : IsOfActor app Newborn (taken 1 ∷ []) → ⊥
by_newborn did = absurd (cc)

-- a stamp that passes over the last one of the actor
stamp_ignores_the_actor : AreStamps (taken 1 ∷ taken 2 ∷ record written { stamp = 1 } ∷ []) → ⊥
stamp_ignores_the_actor stamps = eqb-false 1 2 refl (stamps (taken 1 ∷ taken 2 ∷ []) (record written { stamp = 1 }) [] refl)

-- or over that on the object, and one that leaves a gap
stamp_ignores_the_object : AreStamps (taken 1 ∷ written ∷ record shipped { stamp = 1 } ∷ []) → ⊥
stamp_ignores_the_object stamps = eqb-false 1 3 refl (stamps (taken 1 ∷ written ∷ []) (record shipped { stamp = 1 }) [] refl)

stamp_leaves_a_gap : AreStamps (taken 1 ∷ record written { stamp = 5 } ∷ []) → ⊥
stamp_leaves_a_gap stamps = eqb-false 5 2 refl (stamps (taken 1 ∷ []) (record written { stamp = 5 }) [] refl)
