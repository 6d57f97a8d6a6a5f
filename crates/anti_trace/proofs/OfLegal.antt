-- What is known of legal traces: each of their parts at an entry, that each entry is of the application, that no stamp is above the number
-- of entries, and that a process that is not born has no entry.
use Rattle.std.proofs.Common.{◌≡◌, ℕ, ◌+◌, ◌*◌, ◌<◌, ◌≤◌, ◌++◌, max, List, [], ◌∷◌, Bool, true, false, length, get_or, map, refl, sym, ap, ◌∙◌, subst, arith, append-nil, append_assoc}
use Rattle.std.specs.Prelude.{All, IsTrue, Some, None}
use Rattle.std.specs.List.{filter}
use Rattle.std.proofs.lemmas.Bool.{eq-eqb, eqb-true}
use Rattle.std.proofs.lemmas.List.{length_push}
use Rattle.std.proofs.lemmas.List.Elements.{All-nil, All-head, All-tail, All-push, All-filter, All-weaker, filter-append, filter_passes}
use Rattle.anti_ids.specs.Each.{Each}
use Rattle.anti_ids.specs.declared.limits.TheConstants.{MOST_UNITS}
use Rattle.anti_kind.specs.declared.actor.Actor.{Actor}
use Rattle.anti_kind.specs.declared.actor.Actor.TheVariants.{Carrier, Process, Newborn}
use Rattle.anti_kind.specs.declared.actor.Birth.{Birth}
use Rattle.anti_kind.specs.declared.call.Call.{Call}
use Rattle.anti_kind.specs.declared.call.Call.TheVariants as calls
use Rattle.anti_kind.specs.declared.entry.Entry.{Entry}
use Rattle.anti_kind.specs.Objects.{Start, IsLegal, Follows, last_stamp}
use Rattle.anti_kind.proofs.Histories.{few_entries, follows_in, last_below, legal_front, placed}
use Rattle.anti_app.specs.declared.app.App.{App}
use Rattle.anti_app.specs.Objects.{object_count}
use Rattle.anti_app.specs.Sound.{is_sound}
use Rattle.anti_object.specs.Starts.{start_of}
use Rattle.anti_object.proofs.Starts.{start_there}
use Rattle.anti_proc.specs.Foreign.{is_foreign}
use Rattle.anti_proc.specs.Known.{AllKnown, IsCallAt, IsEntryOf, IsReplyAt}
use Rattle.anti_proc.specs.Meaning.{process_after, reply_of, tree_of}
use Rattle.anti_proc.specs.Tasks.{task_of}
use Rattle.anti_proc.specs.Trees.{Tree, Asks, Ends, Make, after, want_of}
use Rattle.anti_proc.proofs.Knowing.{next_known, process_known, reply_known}
use Rattle.anti_trace.specs.Traces.{entries_by, entries_on, is_by, is_on}
use Rattle.anti_trace.specs.Legal.{GoAlong, IsCarried, IsLegalTrace, IsLife, IsOfActor, bears, carries}
use Rattle.anti_trace.proofs.Bounds.{length_bound}
use Rattle.anti_trace.proofs.KnownReplies.{KnownAt, due_known, each_all}
use Rattle.anti_trace.proofs.Puts.{All-from_filter, filter-yes, same_actor_itself}
use Rattle.anti_trace.proofs.Starting.{starts}

-- ---- a list that is cut at an item

pub filter_cut : (p : Entry → Bool) (before : List Entry) (e : Entry) (after : List Entry) → p e ≡ true
    → filter p (before ++ e ∷ after) ≡ filter p before ++ e ∷ filter p after
filter_cut p before e after on = filter-append p before (e ∷ after) ∙ ap (λ (r : List Entry). filter p before ++ r) (filter-yes p e after on)

-- what holds of all holds of the item
pub at_cut : (P : Entry → Type 0) (before : List Entry) (e : Entry) (after : List Entry) → All P (before ++ e ∷ after) → P e
at_cut P [] e after all = All-head P e after all
at_cut P (x ∷ before) e after all = at_cut P before e after (All-tail P x (before ++ e ∷ after) all)

pub none_cut : (before : List Entry) (e : Entry) (after : List Entry) → [] ≡ before ++ e ∷ after → ⊥
none_cut [] e after is = absurd (cc)
none_cut (x ∷ before) e after is = absurd (cc)

-- ---- the calls of carriers, and those by which processes are born, are known

pub carries_known : (app : App) (o : ℕ) (call : Call) → carries call ≡ true → IsCallAt app o call
carries_known app o (calls.Ship region version part) is = tt
carries_known app o (calls.Again region version part) is = tt
carries_known app o (calls.Repost number) is = tt
carries_known app o _ is = absurd (cc)

pub bears_known : (app : App) (o : ℕ) (call : Call) → bears call ≡ true → IsCallAt app o call
bears_known app o (calls.Take nth) is = tt
bears_known app o (calls.Pull sub) is = tt
bears_known app o (calls.Repull sub version) is = tt
bears_known app o _ is = absurd (cc)

-- ---- what a process did

-- an entry is what the process asked for after those before it
pub along_next : (tree : Tree) (xs : List Entry) (e : Entry) (ys : List Entry) → GoAlong tree (xs ++ e ∷ ys)
    → want_of (after tree (map reply_of xs)) ≡ Make e.object e.span e.call
along_next (Asks ask go) [] e ys along = let object = along.0 in let span = along.1 in let call = along.2 in cc
along_next (Ends end) [] e ys along = absurd along
along_next (Asks ask go) (x ∷ xs) e ys along = along_next (go x.reply) xs e ys along.3
along_next (Ends end) (x ∷ xs) e ys along = absurd along

along_more : (tree : Tree) (xs : List Entry) (e : Entry) → GoAlong tree xs → want_of (after tree (map reply_of xs)) ≡ Make e.object e.span e.call
    → GoAlong tree (xs ++ e ∷ [])
along_more (Asks ask go) [] e along next = (cc, cc, cc, tt)
along_more (Ends end) [] e along next = absurd (cc)
along_more (Asks ask go) (x ∷ xs) e along next = (along.0, along.1, along.2, along_more (go x.reply) xs e along.3 next)
along_more (Ends end) (x ∷ xs) e along next = absurd along

-- its next call comes behind what it did
pub life_more : (app : App) (b : Birth) (es : List Entry) (e : Entry) → IsLife app b es → want_of (process_after app es) ≡ Make e.object e.span e.call
    → IsLife app b (es ++ e ∷ [])
life_more app b [] e life next = absurd (cc)
life_more app b (birth ∷ later) e life next = (life.0, along_more (tree_of app birth) later e life.1 next)

module _ (app : App) (sound : IsTrue (is_sound app)) where
  life_call : (b : Birth) (xs : List Entry) (e : Entry) (ys : List Entry) → IsLife app b (xs ++ e ∷ ys) → All (IsEntryOf app) xs
      → IsCallAt app e.object e.call
  life_call b [] e ys life known = bears_known app e.object e.call life.0.call
  life_call b (birth ∷ later) e ys life known =
      (next_known app (process_after app (birth ∷ later)) e.object e.span e.call (process_known app birth later sound known)
      (along_next (tree_of app birth) later e ys life.1)).1

  actor_call : (a : Actor) (xs : List Entry) (e : Entry) (ys : List Entry) → IsOfActor app a (xs ++ e ∷ ys) → All (IsEntryOf app) xs
      → IsCallAt app e.object e.call
  actor_call (Carrier number) xs e ys did known = carries_known app e.object e.call (at_cut IsCarried xs e ys did).call
  actor_call (Process b) xs e ys did known = life_call b xs e ys did known
  actor_call Newborn xs e ys did known = absurd (none_cut xs e ys (sym did))

-- ---- a trace in which all is known

module _ (app : App) (trace : List Entry) (known : All (IsEntryOf app) trace) where
  -- the entries on an object
  pub known_on : (o : ℕ) → Each (KnownAt app o) (entries_on o trace)
  known_on o = each_all (KnownAt app o) (entries_on o trace) (λ k d lt.
      let it : Entry = get_or (entries_on o trace) k d in
      let its : IsEntryOf app it = All-filter (is_on o) (IsEntryOf app) trace known k d lt in
      let here : it.object ≡ o = eqb-true it.object o (filter_passes (is_on o) trace k d lt) in
      subst (λ (n : ℕ). IsCallAt app n it.call × IsReplyAt app n it.reply) here (its.call, its.reply))

pub last_stamp_within : (h : List Entry) (n : ℕ) → All (λ e. e.stamp ≤ n) h → last_stamp h ≤ n
last_stamp_within h n within = let below : last_stamp h < n + 1 = last_below h (n + 1) (omega arith) (λ k d lt. let le : (get_or h k d).stamp ≤ n = within k d lt in omega arith) in omega arith

-- ---- legal traces

module _ (app : App) (trace : List Entry) (legal : IsLegalTrace app trace) where
  -- ---- an entry of one

  module _ (before : List Entry) (e : Entry) (later : List Entry) (is : trace ≡ before ++ e ∷ later) where
    pub object_there : (start : Start) × (start_of app e.object ≡ Some start)
    object_there = start_there app e.object
        (at_cut (λ x. x.object < object_count app) before e later (subst (All (λ x. x.object < object_count app)) is legal.there))

    -- it follows the history of its object
    history_cut : (start : Start) → start_of app e.object ≡ Some start → IsLegal start (entries_on e.object before ++ e ∷ entries_on e.object later)
    history_cut start at =
        subst (IsLegal start) (ap (entries_on e.object) is ∙ filter_cut (is_on e.object) before e later (eq-eqb e.object e.object refl)) (legal.histories e.object start at)

    pub legal_before : (start : Start) → start_of app e.object ≡ Some start → IsLegal start (entries_on e.object before)
    legal_before start at = legal_front start (entries_on e.object before) (e ∷ entries_on e.object later) (history_cut start at)

    pub follows_before : (start : Start) → start_of app e.object ≡ Some start → Follows start (entries_on e.object before) e
    follows_before start at = follows_in start (entries_on e.object before) e (entries_on e.object later) (history_cut start at)

    -- its actor did it behind what it had done
    pub actor_cut : IsOfActor app e.actor (entries_by e.actor before ++ e ∷ entries_by e.actor later)
    actor_cut =
        subst (IsOfActor app e.actor) (ap (entries_by e.actor) is ∙ filter_cut (is_by e.actor) before e later (same_actor_itself e.actor)) (legal.actors e.actor)

    -- it is of the application, where those before it are
    entry_known : IsTrue (is_sound app) → All (IsEntryOf app) before → IsEntryOf app e
    entry_known sound known =
        let call : IsCallAt app e.object e.call =
        actor_call app sound e.actor (entries_by e.actor before) e (entries_by e.actor later) actor_cut (All-filter (is_by e.actor) (IsEntryOf app) before known) in
        let there = object_there in
        let follows : Follows there.0 (entries_on e.object before) e = follows_before there.0 there.1 in
        record {
          call = call;
          reply = subst (IsReplyAt app e.object) (sym follows.reply)
              (due_known app e.object there.0 (entries_on e.object before) e.call sound there.1 (legal_before there.0 there.1) (known_on app before known e.object) call follows.is_ready follows.fits);
        }

    -- and one by whose call a process is born starts one
    entry_starts : IsTrue (is_sound app) → IsEntryOf app e → bears e.call ≡ true → task_of app e ≡ None → ⊥
    entry_starts sound known bearing =
        let there = object_there in
        starts app sound (entries_on e.object before) e bearing known.reply there.0 (legal_before there.0 there.1) (follows_before there.0 there.1) there.1

    -- its stamp is at most one more than the entries before it
    entry_short : All (λ x. x.stamp ≤ length before) before → e.stamp ≤ length before + 1
    entry_short short =
        let own : last_stamp (entries_by e.actor before) ≤ length before =
        last_stamp_within (entries_by e.actor before) (length before) (All-filter (is_by e.actor) (λ x. x.stamp ≤ length before) before short) in
        let there : last_stamp (entries_on e.object before) ≤ length before =
        last_stamp_within (entries_on e.object before) (length before) (All-filter (is_on e.object) (λ x. x.stamp ≤ length before) before short) in
        let stamp : e.stamp ≡ max (last_stamp (entries_by e.actor before)) (last_stamp (entries_on e.object before)) + 1 = legal.stamps before e later is in
        omega arith

  -- ---- all of them

  -- an induction along the trace
  module _ (P : List Entry → Type 0) (none : P [])
      (more : (before : List Entry) (e : Entry) (later : List Entry) → trace ≡ before ++ e ∷ later → P before → P (before ++ e ∷ [])) where
    along_from : (before later : List Entry) → trace ≡ before ++ later → P before → P trace
    along_from before [] is so_far = subst P (sym (is ∙ append-nil before)) so_far
    along_from before (e ∷ later) is so_far =
        along_from (before ++ e ∷ []) later (is ∙ sym (append_assoc before (e ∷ []) later)) (more before e later is so_far)

    pub along_trace : P trace
    along_trace = along_from [] trace refl none

  module _ (sound : IsTrue (is_sound app)) where
    -- Each entry is one of the application.
    pub known_of_legal : All (IsEntryOf app) trace
    known_of_legal = along_trace (All (IsEntryOf app)) (All-nil (IsEntryOf app))
        (λ before e later is known. All-push (IsEntryOf app) before e known (entry_known before e later is sound known))

    -- So no reply is foreign.
    pub none_foreign : All (λ e. is_foreign app e.reply ≡ false) trace
    none_foreign = All-weaker (IsEntryOf app) (λ e. is_foreign app e.reply ≡ false) (λ e known. reply_known app e.object e.reply known.reply) trace known_of_legal

    -- Each entry by whose call a process is born starts one.
    pub all_start : All (λ e. bears e.call ≡ true → task_of app e ≡ None → ⊥) trace
    all_start =
        (along_trace (λ t. All (IsEntryOf app) t × All (λ e. bears e.call ≡ true → task_of app e ≡ None → ⊥) t)
        (All-nil (IsEntryOf app), All-nil (λ (e : Entry). bears e.call ≡ true → task_of app e ≡ None → ⊥))
        (λ before e later is so_far.
        let known : IsEntryOf app e = entry_known before e later is sound so_far.0 in (
          All-push (IsEntryOf app) before e so_far.0 known,
          All-push (λ x. bears x.call ≡ true → task_of app x ≡ None → ⊥) before e so_far.1 (entry_starts before e later is sound known),
        ))).1

    -- What is left of a process makes known calls.
    pub known_calls : (b : Birth) → AllKnown app (process_after app (entries_by (Process b) trace))
    known_calls b = by_entries (entries_by (Process b) trace) (All-filter (is_by (Process b)) (IsEntryOf app) trace known_of_legal)
      where
        by_entries : (es : List Entry) → All (IsEntryOf app) es → AllKnown app (process_after app es)
        by_entries [] known = tt
        by_entries (birth ∷ later) known = process_known app birth later sound known

    -- the entries on an object are known
    pub history_known : (o : ℕ) → Each (KnownAt app o) (entries_on o trace)
    history_known = known_on app trace known_of_legal

  -- No stamp is above the number of the entries.
  pub stamps_of_legal : All (λ e. e.stamp ≤ length trace) trace
  stamps_of_legal = along_trace (λ t. All (λ e. e.stamp ≤ length t) t) (All-nil (λ (e : Entry). e.stamp ≤ 0))
      (λ before e later is short.
      let count : length (before ++ e ∷ []) ≡ length before + 1 = length_push before e in
      subst (λ (n : ℕ). All (λ x. x.stamp ≤ n) (before ++ e ∷ [])) (sym count)
      (All-push (λ x. x.stamp ≤ length before + 1) before e
      (All-weaker (λ x. x.stamp ≤ length before) (λ x. x.stamp ≤ length before + 1) (λ x le. omega arith) before short)
      (entry_short before e later is short)))

  pub history_stamps : (o : ℕ) → last_stamp (entries_on o trace) ≤ length trace
  history_stamps o = last_stamp_within (entries_on o trace) (length trace) (All-filter (is_on o) (λ e. e.stamp ≤ length trace) trace stamps_of_legal)

  pub actor_stamps : (a : Actor) → last_stamp (entries_by a trace) ≤ length trace
  actor_stamps a = last_stamp_within (entries_by a trace) (length trace) (All-filter (is_by a) (λ e. e.stamp ≤ length trace) trace stamps_of_legal)

  -- no object has many more entries than units
  pub legal_short : length trace ≤ object_count app * (MOST_UNITS + 1)
  legal_short = length_bound (object_count app) (MOST_UNITS + 1) trace legal.there (λ o lt.
      let there : (start : Start) × (start_of app o ≡ Some start) = start_there app o lt in
      few_entries there.0 (entries_on o trace) (legal.histories o there.0 there.1))

  -- each entry has a place in its object's history
  places : All (λ e. e.place ≤ length (entries_on e.object trace)) trace
  places k d lt =
      let e : Entry = get_or trace k d in
      let there : (start : Start) × (start_of app e.object ≡ Some start) = start_there app e.object (legal.there k d lt) in
      let own : All (λ x. x.place ≤ length (entries_on e.object trace)) (entries_on e.object trace) =
      λ i c low. let place : (get_or (entries_on e.object trace) i c).place ≡ i + 1 = placed there.0 (entries_on e.object trace) (legal.histories e.object there.0 there.1) i c low in omega arith in
      All-from_filter (λ x. x.place ≤ length (entries_on e.object trace)) (is_on e.object) trace own k d lt (eq-eqb e.object e.object refl)

  -- A process that is not born has no entry.
  pub unborn_of_legal : (b : Birth) → length (entries_on b.object trace) < b.place → entries_by (Process b) trace ≡ []
  unborn_of_legal b past =
      by_entries (entries_by (Process b) trace) refl (legal.actors (Process b)) (All-filter (is_by (Process b)) (λ e. e.place ≤ length (entries_on e.object trace)) trace places)
    where
      by_entries : (es : List Entry) → entries_by (Process b) trace ≡ es → IsLife app b es → All (λ e. e.place ≤ length (entries_on e.object trace)) es
          → entries_by (Process b) trace ≡ []
      by_entries [] is life within = is
      by_entries (birth ∷ later) is life within =
          let first : birth.place ≤ length (entries_on birth.object trace) = All-head (λ e. e.place ≤ length (entries_on e.object trace)) birth later within in
          let its : b.place ≤ length (entries_on b.object trace) = subst (λ (x : Birth). x.place ≤ length (entries_on x.object trace)) life.0.named first in
          absurd (omega arith)
