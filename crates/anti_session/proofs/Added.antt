-- What an entry of a span adds to its members: itself where it is a read, what a process saw that answered its call, or nothing.
use Rattle.std.proofs.Common.{◌≡◌, ℕ, ◌<◌, ◌==◌, ◌&&◌, Bool, true, false, List, [], ◌∷◌, Contains, refl, sym, ap, ◌∙◌, subst, subst₂, eqb-true, arith}
use Rattle.std.specs.Prelude.{Option, Some, None, length, slice_get, option_and_then, if◌then◌else◌}
use Rattle.std.specs.List.{find, list_any}
use Rattle.std.specs.Option.{option_map_or}
use Rattle.std.proofs.lemmas.Bool.{and_parts}
use Rattle.std.proofs.lemmas.List.Folds.{Any-from_list_any}
use Rattle.anti_kind.specs.declared.actor.Actor.{Actor}
use Rattle.anti_kind.specs.declared.actor.Actor.TheVariants.{Carrier, Process, Newborn}
use Rattle.anti_kind.specs.declared.actor.Birth.{Birth}
use Rattle.anti_kind.specs.declared.call.Call.{Call}
use Rattle.anti_kind.specs.declared.call.Call.TheVariants as calls
use Rattle.anti_kind.specs.declared.call.Reply.{Reply}
use Rattle.anti_kind.specs.declared.call.Reply.TheVariants as replies
use Rattle.anti_kind.specs.declared.entry.Entry.{Entry}
use Rattle.anti_kind.specs.declared.message.Message.{Message}
use Rattle.anti_kind.specs.declared.message.MessageKind.{MessageKind}
use Rattle.anti_kind.specs.declared.message.MessageKind.TheVariants as kinds
use Rattle.anti_kind.proofs.Finding.{Found, find_found}
use Rattle.anti_trace.specs.Traces.{is_by}
use Rattle.anti_trace.proofs.Puts.{same_actor_true}
use Rattle.law_causal.specs.Causal.{Delivers}
use Rattle.law_causal.specs.Words.{answered, asked, posts_in, reads, takes_in}
use Rattle.law_causal.specs.Reads.{is_at}
use Rattle.law_causal.proofs.Lists.{place_of}
use Rattle.law_serial.proofs.Cuts.{is_kept}
use Rattle.anti_session.specs.Members.{adds, adds_at, answerer, answerer_among, answers, answers_number, call_posted, hears, is_call, is_of_span, is_reply, process_of, server, server_of, span_places, taker, takes, takes_number}

-- ---- entries of a span

pub record IsInSpan (trace : List Entry) (b : Birth) (span x : ℕ) : Type 0 where
  pub entry : Entry
  pub there : slice_get trace x ≡ Some entry
  pub by : entry.actor ≡ Process b
  pub within : entry.span ≡ span

abbrev its_span : (trace : List Entry) (b : Birth) (span x : ℕ) (e : Entry) → slice_get trace x ≡ Some e → is_of_span b span e ≡ true
    → IsInSpan trace b span x
its_span trace b span x e at is =
    let its = and_parts (is_by (Process b) e) (e.span == span) is in
    record { entry = e; there = at; by = sym (same_actor_true (Process b) e.actor its.0); within = eqb-true e.span span its.1 }

pub in_span : (trace : List Entry) (b : Birth) (span x : ℕ) → Contains (span_places trace b span) x
    → IsInSpan trace b span x × (x < length trace)
in_span trace b span x among =
    let its = (is_kept (is_at (is_of_span b span) trace) (length trace) x).0 among in (by_found (slice_get trace x) refl its.1, its.0)
  where
    by_found : (found : Option Entry) → slice_get trace x ≡ found → option_map_or (is_of_span b span) found false ≡ true
        → IsInSpan trace b span x
    by_found None at is = absurd (cc)
    by_found (Some e) at is = its_span trace b span x e at is

-- ---- calls and replies

pub record PostsCall (c : Call) (y : Reply) (number : ℕ) : Type 0 where
  pub message : Message
  pub call : c ≡ calls.Post message
  pub kind : message.kind ≡ kinds.Call
  pub reply : y ≡ replies.Posted number

posts_call : (c : Call) (y : Reply) (number : ℕ) → call_posted c y ≡ Some number → PostsCall c y number
posts_call (calls.Post m) (replies.Posted n) number is = by_kind m.kind refl is
  where
    by_kind : (kind : MessageKind) → m.kind ≡ kind → (if is_call kind then Some n else None) ≡ Some number
        → PostsCall (calls.Post m) (replies.Posted n) number
    by_kind kinds.Call kind is =
        let same : n ≡ number = cc in record { message = m; call = refl; kind = kind; reply = ap replies.Posted same }
    by_kind other kind is = absurd (cc)
posts_call c y number is = absurd (cc)

record TakesNumber (c : Call) (y : Reply) (number : ℕ) : Type 0 where
  nth : ℕ
  message : Message
  call : c ≡ calls.Take nth
  reply : y ≡ replies.Got number message

takes_by : (c : Call) (y : Reply) (number : ℕ) → takes_number number c y ≡ true → TakesNumber c y number
takes_by (calls.Take nth) (replies.Got n m) number is =
    record { nth = nth; message = m; call = refl; reply = ap (λ (k : ℕ). replies.Got k m) (eqb-true n number is) }
takes_by c y number is = absurd (cc)

record AnswersNumber (c : Call) (y : Reply) (number : ℕ) : Type 0 where
  message : Message
  call : c ≡ calls.Post message
  kind : message.kind ≡ kinds.Reply
  reply : y ≡ replies.Done
  to : message.to ≡ number

reply_kind : (kind : MessageKind) → is_reply kind ≡ true → kind ≡ kinds.Reply
reply_kind kinds.Reply is = refl
reply_kind kind is = absurd (cc)

answers_by : (c : Call) (y : Reply) (number : ℕ) → answers_number number c y ≡ true → AnswersNumber c y number
answers_by (calls.Post m) replies.Done number is =
    let its = and_parts (is_reply m.kind) (m.to == number) is in
    record { message = m; call = refl; kind = reply_kind m.kind its.0; reply = refl; to = eqb-true m.to number its.1 }
answers_by c y number is = absurd (cc)

-- ---- who answered

-- the process takes the message of this number
pub record IsTake (trace : List Entry) (inbox number : ℕ) (b : Birth) : Type 0 where
  pub place : ℕ
  pub entry : Entry
  pub there : slice_get trace place ≡ Some entry
  pub by : entry.actor ≡ Process b
  pub object : entry.object ≡ inbox
  pub nth : ℕ
  pub message : Message
  pub call : entry.call ≡ calls.Take nth
  pub reply : entry.reply ≡ replies.Got number message

-- it posts the reply to the call of this number in its first span
pub record IsReply (trace : List Entry) (inbox number : ℕ) (b : Birth) : Type 0 where
  pub place : ℕ
  pub its : IsInSpan trace b 1 place
  pub object : its.entry.object ≡ inbox
  pub message : Message
  pub call : its.entry.call ≡ calls.Post message
  pub kind : message.kind ≡ kinds.Reply
  pub reply : its.entry.reply ≡ replies.Done
  pub to : message.to ≡ number

pub record IsAnswerer (trace : List Entry) (inbox number : ℕ) (b : Birth) : Type 0 where
  pub take : IsTake trace inbox number b
  pub answer : IsReply trace inbox number b

module _ (trace : List Entry) (inbox number : ℕ) (b : Birth) where
  its_process : (a : Actor) → process_of a ≡ Some b → a ≡ Process b
  its_process (Process c) is = let same : c ≡ b = cc in ap Process same
  its_process (Carrier n) is = absurd (cc)
  its_process Newborn is = absurd (cc)

  takes_it : taker trace inbox number ≡ Some b → IsTake trace inbox number b
  takes_it is = by_found (find (takes inbox number) trace) refl is
    where
      by_found : (found : Option Entry) → find (takes inbox number) trace ≡ found
          → option_and_then (λ (e : Entry). process_of e.actor) found ≡ Some b → IsTake trace inbox number b
      by_found None at is = absurd (cc)
      by_found (Some e) at is =
          let f : Found (takes inbox number) trace e = find_found (takes inbox number) trace e at in
          let place = place_of trace e (f.index, f.within, f.at e) in
          let its = and_parts (e.object == inbox) (takes_number number e.call e.reply) f.passes in
          let take : TakesNumber e.call e.reply number = takes_by e.call e.reply number its.1 in
          record {
            place = place.0;
            entry = e;
            there = place.1;
            by = its_process e.actor is;
            object = eqb-true e.object inbox its.0;
            nth = take.nth;
            message = take.message;
            call = take.call;
            reply = take.reply;
          }

  abbrev answers_it : Entry → Bool
  answers_it e = is_of_span b 1 e && answers inbox number e

  replies_to_it : list_any answers_it trace ≡ true → IsReply trace inbox number b
  replies_to_it is =
      let any = Any-from_list_any answers_it trace is in
      let e : Entry = any.1 in
      let place = place_of trace e (any.0, any.2, any.3) in
      let its = and_parts (is_of_span b 1 e) (answers inbox number e) any.4 in
      let on = and_parts (e.object == inbox) (answers_number number e.call e.reply) its.1 in
      let answer : AnswersNumber e.call e.reply number = answers_by e.call e.reply number on.1 in
      record {
        place = place.0;
        its = its_span trace b 1 place.0 e place.1 its.0;
        object = eqb-true e.object inbox on.0;
        message = answer.message;
        call = answer.call;
        kind = answer.kind;
        reply = answer.reply;
        to = answer.to;
      }

pub answers_calls : (trace : List Entry) (inbox number : ℕ) (b : Birth) → answerer trace inbox number ≡ Some b
    → IsAnswerer trace inbox number b
answers_calls trace inbox number b is = by_taker (taker trace inbox number) refl is
  where
    by_test : (c : Birth) (t : Bool) → taker trace inbox number ≡ Some c
        → list_any (λ e. is_of_span c 1 e && answers inbox number e) trace ≡ t → (if t then Some c else None) ≡ Some b
        → IsAnswerer trace inbox number b
    by_test c true takes found is =
        let same : c ≡ b = cc in
        subst (λ (d : Birth). IsAnswerer trace inbox number d) same
        (record { take = takes_it trace inbox number c takes; answer = replies_to_it trace inbox number c found })
    by_test c false takes found is = absurd (cc)

    by_taker : (found : Option Birth) → taker trace inbox number ≡ found
        → option_and_then (answerer_among trace inbox number) found ≡ Some b → IsAnswerer trace inbox number b
    by_taker None takes is = absurd (cc)
    by_taker (Some c) takes is = by_test c (list_any (λ e. is_of_span c 1 e && answers inbox number e) trace) takes refl is

-- ---- what goes from one process to the other

-- the call that is posted is the one that is taken
pub call_delivered : (trace : List Entry) (e : Entry) (number : ℕ) (b : Birth) → PostsCall e.call e.reply number
    → (take : IsTake trace e.object number b) → Delivers e take.entry
call_delivered trace e number b post take = record {
  inbox = sym take.object;
  letter = asked number;
  posted =
      subst₂ (λ (c : Call) (y : Reply). Contains (posts_in c y) (asked number)) (sym post.call) (sym post.reply) (0, omega arith, refl);
  taken =
      subst₂ (λ (c : Call) (y : Reply). Contains (takes_in c y) (asked number)) (sym take.call) (sym take.reply) (0, omega arith, refl);
}

-- and so is the reply
pub reply_delivered : (trace : List Entry) (inbox number : ℕ) (b : Birth) (answer : IsReply trace inbox number b) (f : Entry)
    → f.object ≡ inbox → f.call ≡ calls.TakeReply number → Delivers answer.its.entry f
reply_delivered trace inbox number b answer f object call =
    let here : Contains (posts_in (calls.Post answer.message) replies.Done) (answered answer.message.to) = (0, omega arith, refl) in
    record {
      inbox = answer.object ∙ sym object;
      letter = answered number;
      posted =
          subst₂ (λ (c : Call) (y : Reply). Contains (posts_in c y) (answered number)) (sym answer.call) (sym answer.reply)
          (subst (λ (n : ℕ). Contains (posts_in (calls.Post answer.message) replies.Done) (answered n)) answer.to here);
      taken = subst (λ (c : Call). Contains (takes_in c f.reply) (answered number)) (sym call) (0, omega arith, refl);
    }

-- ---- what is added

-- What the entry e at place x of a span adds, whatever the members of other processes are: nothing, itself, or what the process saw that
-- answered its call.
pub data Adds (trace : List Entry) (b : Birth) (span x : ℕ) (e : Entry) : Type 0 where
  nothing : ((of : Birth → List ℕ) → adds_at of trace b span x ≡ []) → Adds trace b span x e
  itself : reads e.call ≡ true → ((of : Birth → List ℕ) → adds_at of trace b span x ≡ x ∷ []) → Adds trace b span x e
  served : (number : ℕ) (c : Birth) → PostsCall e.call e.reply number → IsAnswerer trace e.object number c
      → ((of : Birth → List ℕ) → adds_at of trace b span x ≡ of c) → Adds trace b span x e

module _ (trace : List Entry) (b : Birth) (span x : ℕ) (e : Entry) (at : slice_get trace x ≡ Some e) where
  abbrev Given : ((Birth → List ℕ) → List ℕ) → Type 0
  Given list = (of : Birth → List ℕ) → adds_at of trace b span x ≡ list of

  by_answerer : (number : ℕ) → PostsCall e.call e.reply number → (found : Option Birth) → answerer trace e.object number ≡ found
      → Given (λ of. option_map_or of found []) → Adds trace b span x e
  by_answerer number post None is gives = nothing gives
  by_answerer number post (Some c) is gives = served number c post (answers_calls trace e.object number c is) gives

  by_heard : (number : ℕ) → PostsCall e.call e.reply number → (t : Bool)
      → Given (λ of. option_map_or of (if t then answerer trace e.object number else None) []) → Adds trace b span x e
  by_heard number post true gives = by_answerer number post (answerer trace e.object number) refl gives
  by_heard number post false gives = nothing gives

  by_number : (found : Option ℕ) → call_posted e.call e.reply ≡ found
      → Given (λ of. option_map_or of (option_and_then (server_of trace b span e.object) found) []) → Adds trace b span x e
  by_number None is gives = nothing gives
  by_number (Some number) is gives =
      by_heard number (posts_call e.call e.reply number is) (list_any (λ e'. is_of_span b span e' && hears e.object number e') trace) gives

  by_read : (t : Bool) → reads e.call ≡ t → Given (λ of. if t then x ∷ [] else option_map_or of (server trace b span e) [])
      → Adds trace b span x e
  by_read true is gives = itself is gives
  by_read false is gives = by_number (call_posted e.call e.reply) refl gives

  pub what_it_adds : Adds trace b span x e
  what_it_adds =
      by_read (reads e.call) refl
      (λ of. ap (λ (found : Option Entry). option_map_or (adds of trace b span x) found []) at)
