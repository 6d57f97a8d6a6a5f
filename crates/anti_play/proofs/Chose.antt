-- What a choice made of a world.
use Rattle.std.proofs.Common.{◌≡◌, ℕ, ◌+◌, ◌<◌, ◌++◌, List, [], ◌∷◌, Bool, true, false, length, refl, sym, ap, ◌∙◌, subst, arith}
use Rattle.std.specs.Prelude.{All, Option, None, Some, Result, Ok, Err, IsErr, IsTrue}
use Rattle.anti_ids.specs.declared.memory.NoMemory.{NoMemory}
use Rattle.anti_kind.specs.declared.actor.Actor.{Actor}
use Rattle.anti_kind.specs.declared.actor.Actor.TheVariants.{Carrier, Process as Acting}
use Rattle.anti_kind.specs.declared.call.Call.{Call}
use Rattle.anti_kind.specs.declared.entry.Entry.{Entry}
use Rattle.anti_kind.specs.Objects.{last_stamp}
use Rattle.anti_kind.proofs.Histories.{last_is}
use Rattle.anti_app.specs.declared.app.App.{App}
use Rattle.anti_app.specs.Sound.{is_sound}
use Rattle.anti_trace.specs.Traces.{entries_on, entries_by, put}
use Rattle.anti_proc.specs.declared.process.Process.{Process}
use Rattle.anti_trace.specs.Legal.{bears, carries}
use Rattle.anti_trace.proofs.OfLegal.{unborn_of_legal}
use Rattle.anti_proc.specs.Births.{birth_at}
use Rattle.anti_play.specs.declared.world.World.{World}
use Rattle.anti_play.specs.Schedule.{bearing, carrying, made_at}
use Rattle.anti_trace.specs.inner.Living.{AreProcessesOf, born_at, Changes, Grows, IsNewOf, lists}
use Rattle.anti_trace.specs.inner.Trails.{IsTrailIfKept}
use Rattle.anti_play.specs.inner.Standing.{AllStand, WorldStands, Chose}
use Rattle.anti_play.proofs.Stepped.{Stepped, step}
use Rattle.anti_trace.proofs.Followed.{born_are, carried_are}
use Rattle.anti_trace.proofs.Trails.{bears_none, carries_none, trail_stays_if}

-- the world stands for the same trace, where its objects, its processes and its trail do
pub kept_stands : (app : App) (w n : World) (trace : List Entry) → WorldStands app w trace → AllStand app n.objects.items trace
    → AreProcessesOf app (lists n.processes) trace → IsTrailIfKept app trace n.trail → n.carrier ≡ w.carrier → WorldStands app n trace
kept_stands app w n trace s objects processes trail carrier = record {
  run = s.run;
  objects = objects;
  processes = processes;
  trail = trail;
  carrier = carrier ∙ s.carrier;
}

-- nothing was made, for want of memory
pub chose_lost : (app : App) (n : World) (trace : List Entry) (o : Option Entry) (r : Result Bool NoMemory) → IsErr r → WorldStands app n trace → Chose app trace o r n
chose_lost app n trace o (Ok x) err s = absurd (cc)
chose_lost app n trace None (Err x) err s = s
chose_lost app n trace (Some e) (Err x) err s = s

pub chose_kept : (app : App) (w n : World) (trace : List Entry) (o : Option Entry) (r : Result Bool NoMemory) → IsErr r → WorldStands app w trace
    → AllStand app n.objects.items trace → AreProcessesOf app (lists n.processes) trace → IsTrailIfKept app trace n.trail → n.carrier ≡ w.carrier → Chose app trace o r n
chose_kept app w n trace o r err s objects processes trail carrier = chose_lost app n trace o r err (kept_stands app w n trace s objects processes trail carrier)

pub chose_made : (app : App) (n : World) (trace : List Entry) (o : Option Entry) (e : Entry) → o ≡ Some e → WorldStands app n (put e trace) → Chose app trace o (Ok true) n
chose_made app n trace o e is s = subst (λ (x : Option Entry). Chose app trace x (Ok true) n) (sym is) (refl, s)

pub chose_none : (app : App) (w : World) (trace : List Entry) (o : Option Entry) → o ≡ None → WorldStands app w trace → Chose app trace o (Ok false) w
chose_none app w trace o is s = subst (λ (x : Option Entry). Chose app trace x (Ok false) w) (sym is) (refl, s)

pub bear_done : (app : App) (sound : IsTrue (is_sound app)) (w n : World) (trace : List Entry) (object : ℕ) (call : Call) (e : Entry) (p : Process)
    → WorldStands app w trace → bears call ≡ true → made_at app trace (bearing trace object call) ≡ Some e
    → ((before after : List Entry) → AllStand app w.objects.items before → Grows app before after e → AllStand app n.objects.items after)
    → Changes (lists w.processes) (lists n.processes) e.object (born_at (lists w.processes) e.object ++ p ∷ []) → IsTrailIfKept app trace n.trail → n.carrier ≡ w.carrier → IsNewOf app e p
    → Chose app trace (made_at app trace (bearing trace object call)) (Ok true) n
bear_done app sound w n trace object call e p s is m objects changes trail carrier new =
    let st : Stepped app trace (bearing trace object call) e = step app sound w trace s (bearing trace object call) (is, refl) refl e m in
    let at : e.actor ≡ Acting (birth_at e) = st.actor in
    let unborn : entries_by (Acting (birth_at e)) trace ≡ [] = unborn_of_legal app trace s.run (birth_at e)
    (let place : e.place ≡ length (entries_on object trace) + 1 = st.place in
    let object_is : length (entries_on e.object trace) ≡ length (entries_on object trace) = ap (λ (x : ℕ). length (entries_on x trace)) st.object in omega arith) in
    let none : e.actor ≡ Carrier 0 → ⊥ = λ c. (let both : Acting (birth_at e) ≡ Carrier 0 = sym at ∙ c in absurd (cc)) in
    chose_made app n trace (made_at app trace (bearing trace object call)) e m
    (record {
      run = st.run;
      objects = objects trace (put e trace) s.objects st.grows;
      processes = born_are app (lists w.processes) trace (put e trace) s.processes e st.gets (lists n.processes) p at unborn new changes;
      trail = trail_stays_if app trace (put e trace) e st.gets st.before n.trail trail (bears_none e.call (ap bears st.call ∙ is));
      carrier = carrier ∙ s.carrier ∙ sym (ap (λ (x : List Entry). last_stamp x) (st.gets.others (Carrier 0) none));
    })

pub carry_done : (app : App) (sound : IsTrue (is_sound app)) (w n : World) (trace : List Entry) (object : ℕ) (call : Call) (e : Entry)
    → WorldStands app w trace → carries call ≡ true → made_at app trace (carrying trace object call) ≡ Some e
    → ((before after : List Entry) → AllStand app w.objects.items before → Grows app before after e → AllStand app n.objects.items after)
    → AreProcessesOf app (lists n.processes) trace → IsTrailIfKept app trace n.trail → n.carrier ≡ e.stamp
    → Chose app trace (made_at app trace (carrying trace object call)) (Ok true) n
carry_done app sound w n trace object call e s is m objects processes trail carrier =
    let st : Stepped app trace (carrying trace object call) e = step app sound w trace s (carrying trace object call) (is, refl) refl e m in
    let at : e.actor ≡ Carrier 0 = st.actor in
    let own : entries_by (Carrier 0) (put e trace) ≡ entries_by (Carrier 0) trace ++ e ∷ [] = subst (λ (a : Actor). entries_by a (put e trace) ≡ entries_by a trace ++ e ∷ []) at st.gets.own in
    let before : All (λ d. d.stamp < e.stamp) (entries_by (Carrier 0) trace) = subst (λ (a : Actor). All (λ d. d.stamp < e.stamp) (entries_by a trace)) at st.before in
    chose_made app n trace (made_at app trace (carrying trace object call)) e m
    (record {
      run = st.run;
      objects = objects trace (put e trace) s.objects st.grows;
      processes = carried_are app (lists n.processes) trace (put e trace) processes e st.gets
          (λ b is. (let both : Acting b ≡ Carrier 0 = sym is ∙ at in absurd (cc)));
      trail = trail_stays_if app trace (put e trace) e st.gets st.before n.trail trail (carries_none e.call (ap carries st.call ∙ is));
      carrier = carrier ∙ sym (last_is (entries_by (Carrier 0) trace) e before) ∙ sym (ap (λ (x : List Entry). last_stamp x) own);
    })
