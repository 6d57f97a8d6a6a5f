-- How a legal trace grows by the entry that is made of what is asked.
use Rattle.std.proofs.Common.{◌≡◌, ℕ, ◌+◌, ◌<◌, ◌≤◌, ◌++◌, max, List, [], ◌∷◌, true, length, get_or, refl, sym, ap, ◌∙◌, subst, arith}
use Rattle.std.specs.Prelude.{All, IsTrue, Some}
use Rattle.std.proofs.lemmas.List.Elements.{All-push}
use Rattle.anti_kind.specs.declared.actor.Actor.{Actor}
use Rattle.anti_kind.specs.declared.actor.Actor.TheVariants.{Carrier, Process, Newborn}
use Rattle.anti_kind.specs.declared.actor.Birth.{Birth}
use Rattle.anti_kind.specs.declared.asking.Asking.{Asking}
use Rattle.anti_kind.specs.declared.call.Call.{Call}
use Rattle.anti_kind.specs.declared.entry.Entry.{Entry}
use Rattle.anti_kind.specs.Objects.{Start, Follows, ready, fits, last_stamp}
use Rattle.anti_kind.specs.Entries.{named}
use Rattle.anti_kind.proofs.Histories.{below_last}
use Rattle.anti_app.specs.declared.app.App.{App}
use Rattle.anti_app.specs.Sound.{is_sound}
use Rattle.anti_object.specs.Starts.{start_of}
use Rattle.anti_trace.specs.Traces.{entries_on, entries_by, put}
use Rattle.anti_trace.specs.Legal.{IsCarried, IsLegalTrace, IsLife, IsOfActor}
use Rattle.anti_trace.proofs.KnownReplies.{due_known}
use Rattle.anti_trace.proofs.OfLegal.{actor_stamps, bears_known, carries_known, history_known, known_calls, life_more, unborn_of_legal}
use Rattle.anti_trace.proofs.Puts.{entries_on-put_other, entries_by-put_other}
use Rattle.anti_trace.proofs.PutLegal.{actor_put, history_put, legal_put, own_before as before_of}
use Rattle.anti_proc.specs.Known.{IsCallAt, IsEntryOf}
use Rattle.anti_proc.specs.Meaning.{process_after}
use Rattle.anti_proc.proofs.Knowing.{next_known}
use Rattle.anti_play.specs.Schedule.{clock_of, next_entry}
use Rattle.anti_play.specs.inner.Standing.{IsAsked, MayAsk}

-- ---- an entry that is made follows its object's history

stamp_above : (start : Start) (h : List Entry) (q : Asking) → All (λ d. d.stamp < (next_entry start h q).stamp) h
stamp_above start h q k d lt = let below : (get_or h k d).stamp ≤ last_stamp h = below_last h k d lt in omega arith

pub entry_follows : (start : Start) (h : List Entry) (q : Asking) → ready start h q.call ≡ true → fits start h q.call ≡ true
    → Follows start h (next_entry start h q)
entry_follows start h q r f = record { place = refl; is_ready = r; fits = f; reply = refl; stamp = stamp_above start h q }

-- ---- clocks

pub clock_within : (app : App) (trace : List Entry) → IsLegalTrace app trace → (a : Actor) → clock_of a trace ≤ length trace
clock_within app trace legal Newborn = omega arith
clock_within app trace legal (Carrier n) = actor_stamps app trace legal (Carrier n)
clock_within app trace legal (Process b) = actor_stamps app trace legal (Process b)

-- ---- what is asked is known

pub asked_known : (app : App) (sound : IsTrue (is_sound app)) (trace : List Entry) → IsLegalTrace app trace → (a : Actor) (object span : ℕ) (call : Call)
    → MayAsk app trace a object span call → IsCallAt app object call
asked_known app sound trace legal (Carrier n) object span call asks = carries_known app object call asks.0
asked_known app sound trace legal (Process b) object span call asks =
    (next_known app (process_after app (entries_by (Process b) trace)) object span call (known_calls app trace legal sound b) asks).1
asked_known app sound trace legal Newborn object span call asks = bears_known app object call asks.0

-- ---- the trace with one entry more

module _ (app : App) (trace : List Entry) (legal : IsLegalTrace app trace) (q : Asking) (start : Start) (there : start_of app q.object ≡ Some start)
    (is_ready : ready start (entries_on q.object trace) q.call ≡ true) (is_fit : fits start (entries_on q.object trace) q.call ≡ true)
    (asks : IsAsked app trace q) (clock : q.clock ≡ clock_of q.actor trace) where
  abbrev it : Entry
  it = next_entry start (entries_on q.object trace) q

  follows : Follows start (entries_on q.object trace) it
  follows = entry_follows start (entries_on q.object trace) q is_ready is_fit

  -- the process that the entry would begin
  abbrev newborn : Birth
  newborn = record { object = q.object; place = length (entries_on q.object trace) + 1 }

  not_born : entries_by (Process newborn) trace ≡ []
  not_born = unborn_of_legal app trace legal newborn (omega arith)

  -- its actor did it behind what it had done
  did_as : (a : Actor) → MayAsk app trace a q.object q.span q.call
      → IsOfActor app (named a q.object newborn.place) (entries_by (named a q.object newborn.place) trace ++ it ∷ [])
  did_as (Carrier n) may = All-push IsCarried (entries_by (Carrier n) trace) it (legal.actors (Carrier n)) (record { call = may.0; span = may.1 })
  did_as (Process b) may = life_more app b (entries_by (Process b) trace) it (legal.actors (Process b)) may
  did_as Newborn may =
      subst (λ (es : List Entry). IsLife app newborn (es ++ it ∷ [])) (sym not_born) (record { named = refl; call = may.0; span = may.1 }, tt)

  -- the clock of its actor
  clock_as : (a : Actor) → clock_of a trace ≡ last_stamp (entries_by (named a q.object newborn.place) trace)
  clock_as (Carrier n) = refl
  clock_as (Process b) = refl
  clock_as Newborn = sym (ap last_stamp not_born)

  stamp_is : it.stamp ≡ max (last_stamp (entries_by it.actor trace)) (last_stamp (entries_on it.object trace)) + 1
  stamp_is = ap (λ (n : ℕ). max n (last_stamp (entries_on q.object trace)) + 1) (clock ∙ clock_as q.actor)

  did : IsOfActor app it.actor (entries_by it.actor trace ++ it ∷ [])
  did = did_as q.actor asks

  pub run_more : IsLegalTrace app (put it trace)
  run_more = legal_put app trace legal it start there follows did stamp_is

  pub run_history : entries_on q.object (put it trace) ≡ entries_on q.object trace ++ it ∷ []
  run_history = history_put app trace legal it start there follows did stamp_is

  pub run_others : (o : ℕ) → (q.object ≡ o → ⊥) → entries_on o (put it trace) ≡ entries_on o trace
  run_others o other = entries_on-put_other o it trace other

  -- the entry comes after all of its actor's
  pub own_before : All (λ d. d.stamp < it.stamp) (entries_by it.actor trace)
  own_before = before_of app trace legal it start there follows did stamp_is

  pub run_actor : entries_by it.actor (put it trace) ≡ entries_by it.actor trace ++ it ∷ []
  run_actor = actor_put app trace legal it start there follows did stamp_is

  pub run_other_actors : (a : Actor) → (it.actor ≡ a → ⊥) → entries_by a (put it trace) ≡ entries_by a trace
  run_other_actors a other = entries_by-put_other a it trace other

  pub it_known : IsTrue (is_sound app) → IsEntryOf app it
  it_known sound =
      let call : IsCallAt app q.object q.call = asked_known app sound trace legal q.actor q.object q.span q.call asks in
      record {
        call = call;
        reply = due_known app q.object start (entries_on q.object trace) q.call sound there (legal.histories q.object start there) (history_known app trace legal sound q.object) call is_ready is_fit;
      }
