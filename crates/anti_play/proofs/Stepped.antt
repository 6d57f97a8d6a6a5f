-- What stands behind the entry that is made of what is asked.
use Rattle.std.proofs.Common.{◌≡◌, ◌+◌, ◌<◌, List, length, true, refl, sym, ap, ◌∙◌, subst, arith}
use Rattle.std.specs.Prelude.{All, None, Some, IsTrue}
use Rattle.anti_kind.specs.declared.asking.Asking.{Asking}
use Rattle.anti_kind.specs.declared.entry.Entry.{Entry}
use Rattle.anti_kind.specs.Objects.{Start, Follows}
use Rattle.anti_kind.specs.Entries.{named}
use Rattle.anti_app.specs.declared.app.App.{App}
use Rattle.anti_app.specs.Sound.{is_sound}
use Rattle.anti_object.proofs.Starts.{start_known, start_there}
use Rattle.anti_trace.specs.Traces.{entries_on, entries_by, put}
use Rattle.anti_proc.specs.Known.{IsEntryOf, IsReplyAt}
use Rattle.anti_proc.specs.Tasks.{task_of}
use Rattle.anti_app.specs.Objects.{object_count}
use Rattle.anti_play.specs.declared.world.World.{World}
use Rattle.anti_play.specs.Schedule.{clock_of, next_entry, made_at}
use Rattle.anti_trace.specs.Legal.{IsLegalTrace, bears}
use Rattle.anti_trace.specs.inner.Living.{Extends, Gets, Grows, lists}
use Rattle.anti_play.specs.inner.Standing.{IsAsked, MayGrow, WorldStands}
use Rattle.anti_play.proofs.MadeAt.{Made, made_of}
use Rattle.anti_trace.proofs.Starting.{starts}
use Rattle.anti_play.proofs.RunMore.{entry_follows, it_known, run_more, run_history, run_others, run_actor, run_other_actors, own_before}

pub record Stepped (app : App) (trace : List Entry) (q : Asking) (e : Entry) : Type 0 where
  pub run : IsLegalTrace app (put e trace)
  pub grows : Grows app trace (put e trace) e
  pub gets : Gets app trace (put e trace) e
  pub before : All (λ d. d.stamp < e.stamp) (entries_by e.actor trace)
  pub object : e.object ≡ q.object
  pub actor : e.actor ≡ named q.actor e.object e.place
  pub call : e.call ≡ q.call
  pub place : e.place ≡ length (entries_on q.object trace) + 1
  pub known : q.object < object_count app
  pub entry : IsEntryOf app e

pub stepped : (app : App) (trace : List Entry) (q : Asking) (e : Entry) → IsTrue (is_sound app) → IsLegalTrace app trace → IsAsked app trace q → q.clock ≡ clock_of q.actor trace
    → Made app trace q e → Stepped app trace q e
stepped app trace q e sound run asks clock m =
    let it : Entry = next_entry m.start (entries_on q.object trace) q in
    let extends : Extends trace (put it trace) it = record {
      here = run_history app trace run q m.start m.there m.is_ready m.is_fit asks clock;
      others = run_others app trace run q m.start m.there m.is_ready m.is_fit asks clock;
    } in
    subst (λ (x : Entry). Stepped app trace q x) (sym m.is) (record {
      run = run_more app trace run q m.start m.there m.is_ready m.is_fit asks clock;
      grows = record {
        extends = extends;
        follows = λ start at. subst (λ (s : Start). Follows s (entries_on q.object trace) it) (let same : m.start ≡ start = let both : Some m.start ≡ Some start = sym m.there ∙ at in cc in same)
            (entry_follows m.start (entries_on q.object trace) q m.is_ready m.is_fit);
      };
      gets = record {
        grows = extends;
        own = run_actor app trace run q m.start m.there m.is_ready m.is_fit asks clock;
        others = run_other_actors app trace run q m.start m.there m.is_ready m.is_fit asks clock;
      };
      before = own_before app trace run q m.start m.there m.is_ready m.is_fit asks clock;
      object = refl;
      actor = refl;
      call = refl;
      place = refl;
      known = start_known app q.object m.start m.there;
      entry = it_known app trace run q m.start m.there m.is_ready m.is_fit asks clock sound;
    })

module _ (app : App) (sound : IsTrue (is_sound app)) (w : World) (trace : List Entry) (stands : WorldStands app w trace) (q : Asking) (asks : IsAsked app trace q) (clock : q.clock ≡ clock_of q.actor trace)
    (e : Entry) (m : made_at app trace q ≡ Some e) where
  pub step : Stepped app trace q e
  step = stepped app trace q e sound stands.run asks clock (made_of app trace q e m)

  -- its reply is known
  pub reply_of : IsReplyAt app e.object e.reply
  reply_of = step.entry.reply

  -- one by whose call a process is born starts one
  pub starts_task : bears q.call ≡ true → task_of app e ≡ None → ⊥
  starts_task bearing =
      let there = start_there app e.object (let at : e.object ≡ q.object = step.object in let known : q.object < object_count app = step.known in omega arith) in
      starts app sound (entries_on e.object trace) e (ap bears step.call ∙ bearing) reply_of there.0 (stands.run.histories e.object there.0 there.1) (step.grows.follows there.0 there.1) there.1

  pub may_grow : MayGrow w.objects.items e
  may_grow = record {
    app = app;
    before = trace;
    after = put e trace;
    stand = stands.objects;
    grows = step.grows;
    known = let a : e.object ≡ q.object = step.object in let b : q.object < object_count app = step.known in let count : length w.objects.items ≡ object_count app = stands.objects.count in omega arith;
  }

  -- its object is one of the trail
  pub has_trail : e.object < length w.trail.at.items
  has_trail = let a : e.object ≡ q.object = step.object in let b : q.object < object_count app = step.known in let count : length w.trail.at.items ≡ object_count app = stands.trail.count in omega arith

  -- its object has a list of processes
  pub has_list : e.object < length (lists w.processes)
  has_list = let a : e.object ≡ q.object = step.object in let b : q.object < object_count app = step.known in let count : length (lists w.processes) ≡ object_count app = stands.processes.count in omega arith
