-- What a worker knows behind a try at the next call of one of its processes.
use Rattle.std.proofs.Common.{◌≡◌, ℕ, ◌<◌, ◌≤◌, ◌++◌, true, List, [], ◌∷◌, length, map, inl, inr, refl, sym, ap, ◌∙◌, subst, append-nil, arith}
use Rattle.std.specs.Prelude.{slice_index_or, All, None, Some, IsTrue, position, slice_get}
use Rattle.std.proofs.lemmas.List.Elements.{All-set}
use Rattle.std.proofs.lemmas.Option.{get_or_from_slice_get, slice_get-get_or, slice_get_within}
use Rattle.anti_kind.specs.declared.actor.Actor.{Actor}
use Rattle.anti_kind.specs.declared.actor.Actor.TheVariants.{Carrier, Process as Acting}
use Rattle.anti_kind.specs.declared.actor.Birth.{Birth}
use Rattle.anti_kind.specs.declared.asking.Asking.{Asking}
use Rattle.anti_kind.specs.declared.call.Call.{Call}
use Rattle.anti_kind.specs.declared.call.Call.TheVariants as calls
use Rattle.anti_kind.specs.declared.call.Reply.{Reply}
use Rattle.anti_kind.specs.declared.entry.Entry.{Entry}
use Rattle.anti_kind.specs.declared.port.Answer.TheVariants.{Made, Refused}
use Rattle.anti_kind.specs.declared.refusal.Refusal.{Refusal}
use Rattle.anti_kind.specs.Entries.{named}
use Rattle.anti_kind.specs.Objects.{last_stamp}
use Rattle.anti_app.specs.declared.app.App.{App}
use Rattle.anti_app.specs.Objects.{object_count}
use Rattle.anti_app.specs.Sound.{is_sound}
use Rattle.anti_proc.specs.declared.process.Process.{Process}
use Rattle.anti_proc.specs.declared.run.Advance.{Advance}
use Rattle.anti_proc.specs.Calls.{AllOfProcess, IsMadeOn}
use Rattle.anti_proc.specs.Foreign.{is_foreign}
use Rattle.anti_proc.specs.Meaning.{process_after, reply_of, tree_of}
use Rattle.anti_proc.specs.Trees.{Asks, Ends, Make, Tree, after, ask_of, branch, want_of}
use Rattle.anti_proc.specs.inner.Running.{IsAdvanceOf}
use Rattle.anti_proc.specs.inner.Standing as standing
use Rattle.anti_proc.specs.inner.Standing.{birth_of, full_by, full_of, process_of}
use Rattle.anti_proc.proofs.Placed.{tree_on}
use Rattle.anti_trace.specs.Legal.{bears}
use Rattle.anti_trace.specs.Traces.{entries_by}
use Rattle.anti_trace.specs.declared.processes.AtObject.{AtObject}
use Rattle.anti_trace.specs.inner.Living.{AreInOrder, AreProcessesOf, Becomes, LivesOn, MakesRoom, TakesOver, born_at, is_named, lists}
use Rattle.anti_trace.proofs.Changed.{room_then}
use Rattle.anti_trace.proofs.Followed.{found_lives, went_are}
use Rattle.anti_trace.proofs.InOrder.{an_item, found_itself, order_by_places}
use Rattle.anti_trace.proofs.Living.{decide}
use Rattle.anti_play.specs.Schedule.{asked_by, asking_at, next_call}
use Rattle.anti_work.specs.declared.worker.Worker.{Worker}
use Rattle.anti_work.specs.inner.Knowing.{IsAskedBy, KnowsCalls}
use Rattle.anti_work.specs.inner.Tries.{AsksFor, IsFed, IsGoRefused, MayFeed}
use Rattle.anti_work.specs.inner.Working.{IsRefusedAt, Stays, StoppedAt, WorkerStands}
use Rattle.anti_work.proofs.Asked.{made_above, made_entry, made_knows, made_no_birth, process_did}
use Rattle.anti_work.proofs.Composed.{refused_past, stays_itself, stays_refused}
use Rattle.anti_work.proofs.OneMore.{Ascend, gets_more, mine_ascend, ours_more, stands_more}

-- ---- a process that took a reply

pub fed_is : (app : App) (ps ms ns : List AtObject) (o i stamp : ℕ) (reply : Reply) (p : Process) → slice_get (born_at ps o) i ≡ Some p
    → (a : Advance) → standing.advanced app p a ≡ branch (process_of app p) reply → IsAdvanceOf app p a → full_by a ≡ full_of p
    → Becomes MakesRoom ps ms o i → Becomes (TakesOver stamp a) ms ns o i → IsFed app stamp reply ps ns o i
fed_is app ps ms ns o i stamp reply p is a goes spans full room takes =
    let both : Becomes (TakesOver stamp a) ps ns o i = room_then ps ms ns o i stamp a room takes in
    let old : p ≡ both.old = (let two : Some p ≡ Some both.old = sym is ∙ both.was in cc) in
    record {
      advance = a;
      becomes = both;
      goes = subst (λ (x : Process). standing.advanced app x a ≡ branch (process_of app x) reply) old goes;
      spans = subst (λ (x : Process). IsAdvanceOf app x a) old spans;
      full = subst (λ (x : Process). full_by a ≡ full_of x) old full;
    }

-- the process at an index
pub process_at : (ps : List Process) (at : ℕ) → at < length ps → (p : Process) × (slice_get ps at ≡ Some p)
process_at ps at low = let d : Process = an_item ps (omega arith) in (slice_index_or ps at d, slice_get-get_or ps at d low)

-- ---- no process asks for a call by which one is born

made_bears_none : (app : App) (o : ℕ) (call : Call) → IsMadeOn app o call → bears call ≡ true → ⊥
made_bears_none app o (calls.Take nth) made bearing = absurd made
made_bears_none app o (calls.Pull sub) made bearing = absurd made
made_bears_none app o (calls.Repull sub version) made bearing = absurd made
made_bears_none app o _ made bearing = absurd (cc)

left_of_process : (app : App) (tree : Tree) (es : List Entry) → AllOfProcess app tree → AllOfProcess app (after tree (map reply_of es))
left_of_process app tree [] all = all
left_of_process app (Asks ask go) (e ∷ es) all = left_of_process app (go e.reply) es (all.1 e.reply)
left_of_process app (Ends end) (e ∷ es) all = left_of_process app (Ends end) es tt

wanted_bears_none : (app : App) (tree : Tree) (object span : ℕ) (call : Call) → AllOfProcess app tree → want_of tree ≡ Make object span call → bears call ≡ true → ⊥
wanted_bears_none app (Asks ask go) object span call all wants bearing =
    let same : ask.call ≡ call = cc in
    made_bears_none app ask.object ask.call all.0.call (ap bears same ∙ bearing)
wanted_bears_none app (Ends end) object span call all wants bearing = absurd (cc)

next_bears_none : (app : App) → IsTrue (is_sound app) → (es : List Entry) (object span : ℕ) (call : Call) → want_of (process_after app es) ≡ Make object span call
    → bears call ≡ true → ⊥
next_bears_none app sound [] object span call wants bearing = absurd (cc)
next_bears_none app sound (birth ∷ later) object span call wants bearing =
    wanted_bears_none app (process_after app (birth ∷ later)) object span call (left_of_process app (tree_of app birth) later (tree_on app birth sound)) wants bearing

-- ---- what a process asks for

over_wants : (calls : List Entry) (b : Birth) (tree : Tree) → ask_of tree ≡ None → asked_by calls b (want_of tree) ≡ None
over_wants calls b (Asks ask go) none = absurd (cc)
over_wants calls b (Ends end) none = refl

-- a process of a worker
module _ (app : App) (w : Worker) (calls : List Entry) (stands : WorkerStands app w calls) (object at : ℕ) (p : Process)
    (is : slice_get (born_at (lists w.processes) object) at ≡ Some p) where
  abbrev ps : List Process
  ps = born_at (lists w.processes) object

  abbrev b : Birth
  b = birth_of p

  low : at < length ps
  low = slice_get_within ps at p is

  read : slice_get ps at ≡ Some p → (d : Process) → slice_index_or ps at d ≡ p
  read there d = get_or_from_slice_get ps at p d there

  -- it is found by its birth
  order : AreInOrder object ps
  order = order_by_places calls object (lists w.processes) stands.processes.born (subst Ascend (stands.knows.mine object) (mine_ascend app w.passes.items object stands.knows.are))

  here : b.object ≡ object
  here = subst (λ (x : Process). (birth_of x).object ≡ object) (read is p) (order.here at p low)

  found : position (is_named b) (born_at (lists w.processes) b.object) ≡ Some at
  found = subst (λ (o : ℕ). position (is_named b) (born_at (lists w.processes) o) ≡ Some at) (sym here)
      (subst (λ (x : Process). position (is_named (birth_of x)) ps ≡ Some at) (read is p) (found_itself object ps order at p low))

  there : slice_get (born_at (lists w.processes) b.object) at ≡ Some p
  there = subst (λ (o : ℕ). slice_get (born_at (lists w.processes) o) at ≡ Some p) (sym here) is

  abbrev did : List Entry
  did = entries_by (Acting b) calls

  on : LivesOn app calls p did
  on = found_lives app (lists w.processes) calls stands.processes b at found p there

  going : full_of p ≡ None
  going = subst (λ (x : Process). full_of x ≡ None) (read is p) (stands.go object at p low)

  left : process_of app p ≡ process_after app did
  left = on.tree going

  pub may_feed : MayFeed app p
  may_feed = record { run = on.run; going = going }

  -- where it asks for nothing there is nothing to refuse
  pub over_refused : ask_of (process_of app p) ≡ None → IsGoRefused app w calls object at
  over_refused none other same q next =
      let one : p ≡ other = (let both : Some p ≡ Some other = sym is ∙ same in cc) in
      let over : next_call app calls b ≡ None = ap (λ (t : Tree). asked_by calls b (want_of t)) (sym left) ∙ over_wants calls b (process_of app p) none in
      absurd (let both : None ≡ Some q = sym over ∙ ap (λ (x : Process). next_call app calls (birth_of x)) one ∙ next in cc)

  module _ (q : Asking) (asks : AsksFor q p) where
    wants : want_of (process_after app did) ≡ Make q.object q.span q.call
    wants = ap want_of (sym left) ∙ asks.wants app

    its_clock : last_stamp did ≡ q.clock
    its_clock = sym on.clock ∙ sym asks.clock

    asking_is : asking_at calls q.object (Acting b) q.span q.call ≡ q
    asking_is =
        ap (λ (a : Actor). record { object = q.object; actor = a; span = q.span; clock = last_stamp did; call = q.call }) (sym asks.actor)
        ∙ ap (λ (n : ℕ). record { object = q.object; actor = q.actor; span = q.span; clock = n; call = q.call }) its_clock

    next_is : next_call app calls b ≡ Some q
    next_is = ap (asked_by calls b) wants ∙ ap Some asking_is

    -- where this was refused the next call of the process was
    pub asks_refused : (new : Worker) → lists new.processes ≡ lists w.processes → IsRefusedAt app new calls q → IsGoRefused app new calls object at
    asks_refused new same refused other stood r next =
        let was : slice_get ps at ≡ Some other = subst (λ (all : List AtObject). slice_get (born_at all object) at ≡ Some other) same stood in
        let one : p ≡ other = (let both : Some p ≡ Some other = sym is ∙ was in cc) in
        let its : q ≡ r = (let both : Some q ≡ Some r = sym next_is ∙ ap (λ (x : Process). next_call app calls (birth_of x)) one ∙ next in cc) in
        subst (IsRefusedAt app new calls) its refused

    -- no call was made for it
    pub go_refused : (new : Worker) (refusal : Refusal) → IsAskedBy w.passes.items new.passes.items q (Refused refusal) → new.number ≡ w.number
        → lists new.processes ≡ lists w.processes → new.clock ≡ w.clock → new.routes.items ≡ w.routes.items → Stays app w new calls × IsGoRefused app new calls object at
    go_refused new refusal asked number same clock routes =
        let both : Stays app w new calls × IsRefusedAt app new calls q = stays_refused app w new calls stands number same clock routes q refusal asked in
        (both.0, asks_refused new same both.1)

    -- nor at an object that is not there
    pub go_past : object_count app ≤ q.object → Stays app w w calls × IsGoRefused app w calls object at
    go_past past = (stays_itself app w calls stands, asks_refused w refl (refused_past app w calls q past))

    -- ---- a call that was made for it

    module _ (new : Worker) (place stamp : ℕ) (reply : Reply) (asked : IsAskedBy w.passes.items new.passes.items q (Made place stamp reply))
        (number : new.number ≡ w.number) where
      abbrev e : Entry
      e = made_entry app w.number w.passes.items new.passes.items calls stands.knows q place stamp reply asked

      abbrev more : List Entry
      more = calls ++ e ∷ []

      by : e.actor ≡ Acting b
      by = ap (λ (a : Actor). named a q.object place) asks.actor

      clock : q.clock ≡ last_stamp (entries_by q.actor calls)
      clock = sym its_clock ∙ ap (λ (a : Actor). last_stamp (entries_by a calls)) (sym asks.actor)

      knows : KnowsCalls app w.number new.passes.items more
      knows = made_knows app w.number w.passes.items new.passes.items calls stands.knows q place stamp reply asked clock
          (λ n carrier. absurd (let both : Acting b ≡ Carrier n = sym asks.actor ∙ carrier in cc))
          (process_did app w.number w.passes.items new.passes.items calls stands.knows q place stamp reply asked b asks.actor wants)

      knows_now : KnowsCalls app new.number new.passes.items more
      knows_now = subst (λ (n : ℕ). KnowsCalls app n new.passes.items more) (sym number) knows

      -- its reply is foreign
      pub went_stops : IsTrue (is_sound app) → is_foreign app reply ≡ true → (all : List Entry) × StoppedAt app new (calls ++ all)
      went_stops sound foreign = (
        [],
        subst (StoppedAt app new) (sym (append-nil calls)) (record {
          entry = e;
          knows = knows_now;
          ours = ours_more app w new calls e stands number (λ bearing. absurd (next_bears_none app sound did q.object q.span q.call wants bearing));
          foreign = inr foreign;
        }),
      )

      module _ (sound : IsTrue (is_sound app)) (fed : IsFed app stamp reply (lists w.processes) (lists new.processes) object at)
          (clock_same : new.clock ≡ w.clock) (routes_same : new.routes.items ≡ w.routes.items) where
        old_is : p ≡ fed.becomes.old
        old_is = let both : Some p ≡ Some fed.becomes.old = sym is ∙ fed.becomes.was in cc

        was_going : full_of fed.becomes.old ≡ None
        was_going = subst (λ (x : Process). full_of x ≡ None) old_is going

        abbrev becomes_at : Becomes (TakesOver stamp fed.advance) (lists w.processes) (lists new.processes) b.object at
        becomes_at = subst (λ (o : ℕ). Becomes (TakesOver stamp fed.advance) (lists w.processes) (lists new.processes) o at) (sym here) fed.becomes

        processes : AreProcessesOf app (lists new.processes) more
        processes = went_are app (lists w.processes) calls more stands.processes e (gets_more app calls e) b by at found
            (made_no_birth app w.number w.passes.items new.passes.items calls stands.knows q place stamp reply asked b on.birth on.later on.entries_are)
            (subst (λ (a : Actor). All (λ d. d.stamp < stamp) (entries_by a calls)) by
            (made_above app w.number w.passes.items new.passes.items calls stands.knows q place stamp reply asked clock))
            (lists new.processes) fed.advance becomes_at was_going fed.goes fed.spans fed.full

        go_on : (o : ℕ) → All (λ x. full_of x ≡ None) (born_at (lists new.processes) o)
        go_on o =
            elim (decide object o) as (λ _. All (λ x. full_of x ≡ None) (born_at (lists new.processes) o)) [
              | inl same ↦ subst (λ (k : ℕ). All (λ x. full_of x ≡ None) (born_at (lists new.processes) k)) same
                  (subst (All (λ x. full_of x ≡ None)) (sym fed.becomes.changes.here_are)
                  (All-set (λ x. full_of x ≡ None) ps at fed.becomes.new (fed.becomes.by.full fed.full ∙ was_going) (stands.go object)))
              | inr other ↦ subst (All (λ x. full_of x ≡ None)) (sym (fed.becomes.changes.others o other)) (stands.go o)
            ]

        -- it stands for one call more
        pub went_stands : (all : List Entry) × WorkerStands app new (calls ++ all)
        went_stands = (
          e ∷ [],
          stands_more app w new calls e stands number (λ carrier. let both : Acting b ≡ Carrier w.number = sym by ∙ carrier in absurd (cc)) knows processes go_on
              (λ bearing. absurd (next_bears_none app sound did q.object q.span q.call wants bearing)) clock_same routes_same,
        )
