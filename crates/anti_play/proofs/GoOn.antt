-- A process that goes on with its next call.
use Rattle.std.proofs.Common.{◌≡◌, ℕ, ◌+◌, ◌<◌, List, [], ◌∷◌, Bool, true, false, length, get_or, refl, sym, ap, ◌∙◌, subst, arith, append-nil}
use Rattle.std.specs.Prelude.{All, Option, None, Some, IfSome, option_and_then, slice_set, slice_get, Result, Ok, IsErr, IsTrue, position}
use Rattle.std.proofs.lemmas.List.{get_or-set_same}
use Rattle.std.proofs.lemmas.Option.{slice_get_within, get_or_from_slice_get}
use Rattle.anti_ids.specs.declared.memory.NoMemory.{NoMemory}
use Rattle.anti_kind.specs.declared.asking.Asking.{Asking}
use Rattle.anti_kind.specs.declared.actor.Actor.{Actor}
use Rattle.anti_kind.specs.declared.actor.Actor.TheVariants.{Carrier, Process as Acting}
use Rattle.anti_kind.specs.declared.actor.Birth.{Birth}
use Rattle.anti_kind.specs.declared.call.Call.{Call}
use Rattle.anti_kind.specs.declared.entry.Entry.{Entry}
use Rattle.anti_kind.specs.Objects.{last_stamp}
use Rattle.anti_kind.specs.Records.{Record}
use Rattle.anti_app.specs.declared.app.App.{App}
use Rattle.anti_app.specs.Sound.{is_sound}
use Rattle.anti_object.specs.declared.object.Object.{Object}
use Rattle.anti_trace.specs.Traces.{entries_on, entries_by, put, same_actor}
use Rattle.anti_proc.specs.declared.process.Process.{Process}
use Rattle.anti_proc.specs.declared.run.Advance.{Advance}
use Rattle.anti_trace.proofs.OfLegal.{unborn_of_legal}
use Rattle.anti_proc.specs.Trees.{Tree, Want, Make, Over, Asks, Ends, ask_of, want_of, branch}
use Rattle.anti_proc.specs.Asked.{IsAskedAt}
use Rattle.anti_proc.specs.Births.{birth_at}
use Rattle.anti_proc.specs.Meaning.{process_after}
use Rattle.anti_proc.specs.inner.Standing as standing
use Rattle.anti_proc.specs.inner.Running.{IsAdvanceOf, IsRunOf}
use Rattle.anti_proc.specs.inner.Standing.{advanced, process_of, birth_of, full_by, full_of}
use Rattle.anti_trace.specs.declared.processes.AtObject.{AtObject}
use Rattle.anti_play.specs.declared.world.World.{World}
use Rattle.anti_play.specs.Schedule.{asking_at, asked_by, next_call, clock_of, made_at}
use Rattle.anti_trace.specs.inner.Living.{WasFull, IsEnded, HasEnded, Becomes, MakesRoom, MayMeetFull, MetFull, TakesOver, born_at, Lives, LivesOn, is_named, lists, Grows}
use Rattle.anti_trace.specs.inner.Trails.{IsTrailIfKept, TrailBecomes, footprint_in, trail_at, with_footprint}
use Rattle.anti_play.specs.inner.Standing.{IsAsked, IsFullAt, IsStopped, Stops, AllStand, WorldStands, Chose}
use Rattle.anti_trace.proofs.KnownReplies.{call_ascends}
use Rattle.anti_play.proofs.MadeAt.{none_fits}
use Rattle.anti_play.proofs.RunMore.{asked_known}
use Rattle.anti_trace.proofs.FullStays.{unfit}
use Rattle.anti_play.proofs.FullStays.{full_makes_none}
use Rattle.anti_play.proofs.Stepped.{Stepped, step}
use Rattle.anti_trace.proofs.AllLive.{no_more, position_set, live_here, live_set, live_with}
use Rattle.anti_trace.proofs.AreBorn.{births_set}
use Rattle.anti_trace.proofs.Followed.{found_lives, roomy_are, went_are}
use Rattle.anti_trace.proofs.Trails.{trail_grows_if}
use Rattle.anti_play.proofs.Chose.{chose_made, chose_none, chose_lost, kept_stands}

-- ---- a process

asked_at : (object span : ℕ) (call : Call) (tree : Tree) → want_of tree ≡ Make object span call → IsAskedAt object tree
asked_at object span call (Asks ask go) is = cc
asked_at object span call (Ends end) is = absurd (cc)

-- one that has ended asks for nothing
asks_none : (trace : List Entry) (b : Birth) (tree : Tree) → ask_of tree ≡ None → asked_by trace b (want_of tree) ≡ None
asks_none trace b (Asks ask go) none = absurd (cc)
asks_none trace b (Ends end) none = refl

-- what was found twice is the same
pub found_again : (xs : List Process) (i : ℕ) (p q : Process) → slice_get xs i ≡ Some p → slice_get xs i ≡ Some q → q ≡ p
found_again xs i p q one two = let both : Some q ≡ Some p = sym two ∙ one in cc

-- the process that goes on is the one that was found
pub record IsFound (w : World) (b : Birth) (i : ℕ) (p : Process) : Type 0 where
  pub found : position (is_named b) (born_at (lists w.processes) b.object) ≡ Some i
  pub is : slice_get (born_at (lists w.processes) b.object) i ≡ Some p

module _ (app : App) (w : World) (trace : List Entry) (b : Birth) (i : ℕ) (p : Process) (s : WorldStands app w trace) (g : IsFound w b i p) where
  abbrev ps : List Process
  ps = born_at (lists w.processes) b.object

  at_p : (d : Process) → get_or ps i d ≡ p
  at_p d = get_or_from_slice_get ps i p d g.is

  pub on_p : LivesOn app trace p (entries_by (Acting b) trace)
  on_p = found_lives app (lists w.processes) trace s.processes b i g.found p g.is

  pub goes_run : IsRunOf app p
  goes_run = on_p.run

  pub goes_clock : standing.clock_of p ≡ clock_of (Acting b) trace
  goes_clock = on_p.clock

  goes_born : entries_by (Acting b) trace ≡ [] → ⊥
  goes_born none = let some : entries_by (Acting b) trace ≡ on_p.birth ∷ on_p.later = on_p.entries_are in absurd (cc)

  abbrev left : Want
  left = want_of (process_after app (entries_by (Acting b) trace))

  abbrev chosen_next : Option Entry
  chosen_next = option_and_then (made_at app trace) (next_call app trace b)

  -- it asks for a call
  module _ (object span : ℕ) (call : Call) (going : full_of p ≡ None) (wants : want_of (process_of app p) ≡ Make object span call) where
    abbrev it : Asking
    it = asking_at trace object (Acting b) span call

    pub may_meet_full : MayMeetFull object p
    may_meet_full = record { first = going; asks = (app, asked_at object span call (process_of app p) wants) }

    left_is : left ≡ Make object span call
    left_is = sym (ap want_of (on_p.tree going)) ∙ wants

    pub goes_asked : IsAsked app trace it
    goes_asked = left_is

    -- so this is its next call
    pub next_asks : next_call app trace b ≡ Some it
    next_asks = ap (asked_by trace b) left_is

    asks_next : chosen_next ≡ made_at app trace it
    asks_next = ap (λ (x : Want). option_and_then (made_at app trace) (asked_by trace b x)) left_is

    -- it was born before
    was_born : (e : Entry) → e.place ≡ length (entries_on object trace) + 1 → e.object ≡ object → b ≡ birth_at e → ⊥
    was_born e place at same = goes_born (unborn_of_legal app trace s.run b
        (subst (λ (x : Birth). length (entries_on x.object trace) < x.place) (sym same)
        (subst (λ (o : ℕ). length (entries_on o trace) < e.place) (sym at) (omega arith))))

    -- it made the call
    pub go_done : IsTrue (is_sound app) → (n : World) (e : Entry) (a : Advance) → made_at app trace it ≡ Some e
        → ((before after : List Entry) → AllStand app w.objects.items before → Grows app before after e → AllStand app n.objects.items after)
        → Becomes (TakesOver e.stamp a) (lists w.processes) (lists n.processes) b.object i
        → TrailBecomes w.trail n.trail e.object (with_footprint (trail_at w.trail e.object) (footprint_in w.trail (ask_of (process_of app p)))) → n.carrier ≡ w.carrier
        → advanced app p a ≡ branch (process_of app p) e.reply → IsAdvanceOf app p a → full_by a ≡ full_of p
        → Chose app trace chosen_next (Ok true) n
    go_done sound n e a m objects becomes trail carrier goes spans full =
        let old : p ≡ becomes.old = found_again ps i becomes.old p becomes.was g.is in
        let st : Stepped app trace it e = step app sound w trace s it goes_asked refl e m in
        let actor : e.actor ≡ Acting b = st.actor in
        let before : All (λ d. d.stamp < e.stamp) (entries_by (Acting b) trace) = subst (λ (x : Actor). All (λ d. d.stamp < e.stamp) (entries_by x trace)) actor st.before in
        let none : e.actor ≡ Carrier 0 → ⊥ = λ c. (let both : Acting b ≡ Carrier 0 = sym actor ∙ c in absurd (cc)) in
        chose_made app n trace chosen_next e (asks_next ∙ m)
        (record {
          run = st.run;
          objects = objects trace (put e trace) s.objects st.grows;
          processes = went_are app (lists w.processes) trace (put e trace) s.processes e st.gets b actor i g.found (was_born e st.place st.object) before
              (lists n.processes) a becomes
              (subst (λ (x : Process). full_of x ≡ None) old going)
              (subst (λ (x : Process). advanced app x a ≡ branch (process_of app x) e.reply) old goes)
              (subst (λ (x : Process). IsAdvanceOf app x a) old spans)
              (subst (λ (x : Process). full_by a ≡ full_of x) old full);
          trail = trail_grows_if app trace (put e trace) e st.gets st.before (process_of app p)
              (on_p.tree going ∙ ap (λ (x : Actor). process_after app (entries_by x trace)) (sym actor)) object span (wants ∙ ap (Make object span) (sym st.call))
              w.trail n.trail s.trail trail;
          carrier = carrier ∙ s.carrier ∙ sym (ap (λ (x : List Entry). last_stamp x) (st.gets.others (Carrier 0) none));
        })

    -- its call makes nothing
    pub go_waits : made_at app trace it ≡ None → Chose app trace chosen_next (Ok false) w
    go_waits none = chose_none app w trace chosen_next (asks_next ∙ none) s

    -- and it is ended, since the call is ready and does not fit
    was_full : IsTrue (is_sound app) → IsFullAt app trace it → WasFull app trace object call
    was_full sound full = record {
      start = full.start;
      there = full.there;
      before = entries_on object trace;
      later = [];
      history = sym (append-nil (entries_on object trace));
      held_units = full.held_units;
      owed_units = full.owed_units;
      need_units = full.need_units;
      was_full = full.full;
      ascends = call_ascends app object call (asked_known app sound trace s.run (Acting b) object span call goes_asked);
    }

    pub go_ended : IsTrue (is_sound app) → (n : World) → (made_at app trace it ≡ None) × IsFullAt app trace it
        → n.objects.items ≡ w.objects.items → Becomes (MetFull object) (lists w.processes) (lists n.processes) b.object i → IsTrailIfKept app trace n.trail → n.carrier ≡ w.carrier
        → Chose app trace chosen_next (Ok false) n
    go_ended sound n full objects becomes trail carrier =
        let then : Process = becomes.new in
        let old_is : becomes.old ≡ p = found_again ps i p becomes.old g.is becomes.was in
        let by : MetFull object p then = subst (λ (x : Process). MetFull object x then) old_is becomes.by in
        chose_none app n trace chosen_next (asks_next ∙ full.0)
        (record {
          run = s.run;
          objects = subst (λ (os : List (Record Object)). AllStand app os trace) (sym objects) s.objects;
          processes = record {
            count = becomes.changes.count ∙ s.processes.count;
            born = λ o. births_set (lists w.processes) (lists n.processes) b i then becomes.changes (λ d. by.birth ∙ ap (λ (x : Process). birth_of x) (sym (at_p d))) o ∙ s.processes.born o;
            live = live_with app trace trace (no_more trace) (lists w.processes) (lists n.processes) (slice_set ps i then) b s.processes.live becomes.changes (λ c off. refl)
                (live_set app trace trace (no_more trace) ps b (live_here app (lists w.processes) trace s.processes.live b.object) (λ c off. refl) then i g.found
                (λ d. by.birth ∙ ap (λ (x : Process). birth_of x) (sym (at_p d)))
                (record {
                  birth = on_p.birth;
                  later = on_p.later;
                  entries_are = on_p.entries_are;
                  run = by.run app;
                  role = on_p.role ∙ ap Some (sym by.role);
                  tree = λ none. (let both : None ≡ Some object = sym none ∙ by.full in absurd (cc));
                  clock = by.clock ∙ on_p.clock;
                  full = subst (λ (o : Option ℕ). IfSome o (IsEnded app trace left)) (sym by.full)
                      (subst (λ (x : Want). IsEnded app trace x object) (sym left_is) (refl, was_full sound full.1));
                }));
          };
          trail = trail;
          carrier = carrier ∙ s.carrier;
        })

    -- what is asked for is this call
    is_going : (q : Asking) → next_call app trace b ≡ Some q → q ≡ it
    is_going q next = let both : Some q ≡ Some it = sym next ∙ next_asks in cc

    pub stops_made : (ns : List AtObject) (e : Entry) → made_at app trace it ≡ Some e → Stops app trace b ns
    stops_made ns e m q next full =
        let at : IsFullAt app trace it = subst (IsFullAt app trace) (is_going q next) full in
        let none : made_at app trace it ≡ None = none_fits app trace it at.start at.there
        (unfit at.start (entries_on object trace) call at.held_units at.owed_units at.need_units at.full) in
        absurd (let both : None ≡ Some e = sym none ∙ m in cc)

    pub stops_waits : (ns : List AtObject) → (IsFullAt app trace it → ⊥) → Stops app trace b ns
    stops_waits ns not q next full = absurd (not (subst (IsFullAt app trace) (is_going q next) full))

    pub stops_ended : (ns : List AtObject) → Becomes (MetFull object) (lists w.processes) ns b.object i → Stops app trace b ns
    stops_ended ns becomes q next full =
        let then : Process = becomes.new in
        let old_is : becomes.old ≡ p = found_again ps i p becomes.old g.is becomes.was in
        let by : MetFull object p then = subst (λ (x : Process). MetFull object x then) old_is becomes.by in
        let at : position (is_named b) (slice_set ps i then) ≡ Some i =
        position_set (is_named b) ps i then then (ap (λ (x : Birth). same_actor (Acting b) (Acting x)) (by.birth ∙ ap (λ (x : Process). birth_of x) (sym (at_p then)))) ∙ g.found in
        let within : i < length ps = slice_get_within ps i p g.is in
        subst (λ (x : List Process). IsStopped x (position (is_named b) x)) (sym becomes.changes.here_are)
        (subst (IsStopped (slice_set ps i then)) (sym at) (λ d. (object, ap full_of (get_or-set_same ps i then d within) ∙ by.full)))

  -- it has ended: there is no further call, or one that did not fit
  none_left : IsTrue (is_sound app) → (x : Want) (at : ℕ) → IsEnded app trace x at → option_and_then (made_at app trace) (asked_by trace b x) ≡ None
  none_left sound (Make object span call) at ended = full_makes_none app trace s.run sound (asking_at trace object (Acting b) span call) ended.1
  none_left sound (Over end) at ended = elim ended [ ]

  pub next_none : HasEnded app p → full_of p ≡ None → next_call app trace b ≡ None
  next_none ended going = ap (λ (x : Tree). asked_by trace b (want_of x)) (sym (on_p.tree going)) ∙ asks_none trace b (process_of app p) ended

  over_by : IsTrue (is_sound app) → HasEnded app p → (o : Option ℕ) → full_of p ≡ o → IfSome o (IsEnded app trace left) → chosen_next ≡ None
  over_by sound over None is ended = ap (option_and_then (made_at app trace)) (next_none over is)
  over_by sound over (Some at) is ended = none_left sound left at ended

  -- so it makes no entry
  pub makes_none : IsTrue (is_sound app) → HasEnded app p → chosen_next ≡ None
  makes_none sound over = over_by sound over (full_of p) refl on_p.full

  pub go_over : IsTrue (is_sound app) → HasEnded app p → Chose app trace chosen_next (Ok false) w
  go_over sound over = chose_none app w trace chosen_next (makes_none sound over) s

  stops_by : HasEnded app p → (o : Option ℕ) → full_of p ≡ o → Stops app trace b (lists w.processes)
  stops_by over None is q next full = absurd (let both : None ≡ Some q = sym (next_none over is) ∙ next in cc)
  stops_by over (Some at) is q next full = subst (IsStopped ps) (sym g.found) (λ d. (at, ap full_of (at_p d) ∙ is))

  pub stops_over : HasEnded app p → Stops app trace b (lists w.processes)
  stops_over over = stops_by over (full_of p) refl

  -- room was made for its reply
  room_stands : (n : World) → AllStand app n.objects.items trace → Becomes MakesRoom (lists w.processes) (lists n.processes) b.object i → IsTrailIfKept app trace n.trail → n.carrier ≡ w.carrier
      → WorldStands app n trace
  room_stands n objects becomes trail carrier =
      kept_stands app w n trace s objects (roomy_are app (lists w.processes) trace s.processes b i g.found (lists n.processes) becomes) trail carrier

  pub go_lost : (n : World) (r : Result Bool NoMemory) → IsErr r → AllStand app n.objects.items trace → Becomes MakesRoom (lists w.processes) (lists n.processes) b.object i → IsTrailIfKept app trace n.trail
      → n.carrier ≡ w.carrier → Chose app trace chosen_next r n
  go_lost n r err objects becomes trail carrier = chose_lost app n trace chosen_next r err (room_stands n objects becomes trail carrier)

-- a process that is not there asks for nothing
module _ (app : App) (w : World) (trace : List Entry) (b : Birth) (s : WorldStands app w trace) (absent : position (is_named b) (born_at (lists w.processes) b.object) ≡ None) where
  pub absent_none : next_call app trace b ≡ None
  absent_none =
      let unborn : entries_by (Acting b) trace ≡ [] = subst (λ (o : Option ℕ). Lives app trace (born_at (lists w.processes) b.object) o (entries_by (Acting b) trace)) absent (s.processes.live b) in
      ap (λ (es : List Entry). asked_by trace b (want_of (process_after app es))) unborn

  pub none_goes : Chose app trace (option_and_then (made_at app trace) (next_call app trace b)) (Ok false) w
  none_goes = chose_none app w trace (option_and_then (made_at app trace) (next_call app trace b)) (ap (option_and_then (made_at app trace)) absent_none) s

  pub stops_none : Stops app trace b (lists w.processes)
  stops_none q next full = absurd (let both : None ≡ Some q = sym absent_none ∙ next in cc)
