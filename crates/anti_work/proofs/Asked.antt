-- What a worker knows behind one call that it asked.
use Rattle.std.proofs.Common.{◌≡◌, ℕ, ◌+◌, ◌-◌, ◌^◌, ◌<◌, ◌≤◌, ◌⊎◌, ◌++◌, ◌==◌, max, true, false, List, [], ◌∷◌, length, refl, sym, ap, ◌∙◌, subst, inl, inr, arith, append-nil, append_assoc}
use Rattle.std.specs.Prelude.{All}
use Rattle.std.proofs.lemmas.Bool.{eqb-true}
use Rattle.std.proofs.lemmas.List.{length_push}
use Rattle.std.proofs.lemmas.List.Elements.{All-push, All-weaker, filter_passes}
use Rattle.anti_turn.specs.Lists.{IsFront}
use Rattle.anti_turn.proofs.Fronts.{front_length}
use Rattle.anti_kind.specs.declared.actor.Actor.{Actor}
use Rattle.anti_kind.specs.declared.actor.Actor.TheVariants.{Carrier, Process, Newborn}
use Rattle.anti_kind.specs.declared.actor.Birth.{Birth}
use Rattle.anti_kind.specs.declared.asking.Asking.{Asking}
use Rattle.anti_kind.specs.declared.call.Reply.{Reply}
use Rattle.anti_kind.specs.declared.entry.Entry.{Entry}
use Rattle.anti_kind.specs.declared.port.Answer.TheVariants.{Made, Refused}
use Rattle.anti_kind.specs.declared.refusal.Refusal.{Refusal}
use Rattle.anti_kind.specs.declared.refusal.Refusal.TheVariants.{NotYet, Full, Spent}
use Rattle.anti_kind.specs.Entries.{entry_of, named}
use Rattle.anti_kind.specs.Objects.{Start, fits, last_stamp, ready}
use Rattle.anti_kind.specs.Ports.{Answers, IsMade, IsRefusal}
use Rattle.anti_kind.proofs.Histories.{below_last}
use Rattle.anti_app.specs.declared.app.App.{App}
use Rattle.anti_object.specs.declared.object.Object.{Object}
use Rattle.anti_proc.specs.Births.{birth_at}
use Rattle.anti_proc.specs.Meaning.{process_after}
use Rattle.anti_proc.specs.Trees.{Make, want_of}
use Rattle.anti_shared.specs.Passes.{PassView, calls_of, seat_of, view_of}
use Rattle.anti_trace.specs.Legal.{IsBirthOf, IsCarried, IsLife, IsOfActor, bears, carries}
use Rattle.anti_trace.specs.Traces.{entries_by, entries_on}
use Rattle.anti_trace.proofs.FullStays.{unfit}
use Rattle.anti_trace.proofs.GonePast.{entries_on_next, entries_on_past}
use Rattle.anti_trace.proofs.Living.{decide}
use Rattle.anti_trace.proofs.OfLegal.{at_cut, life_more}
use Rattle.anti_work.specs.inner.Knowing.{IsAskedBy, IsUsedAt, KnowsCalls, WasRefused, mine_at, number_at, seen_at}
use Rattle.anti_work.proofs.Grown.{not_birth, placed_later, unborn, work_later, work_more}
use Rattle.anti_work.proofs.PassCalls.{answered_from, fronts, mine_here, mine_others, mine_was, number_here, numbers, object_there, passes_are, seen_here, seen_was}

-- why an object refused
cause_of : (start : Start) (h : List Entry) (q : Asking) (refusal : Refusal) → IsRefusal start h q refusal
    → (ready start h q.call ≡ false) ⊎ ((fits start h q.call ≡ false) ⊎ (max q.clock (last_stamp h) ≡ 2 ^ 64 - 1))
cause_of start h q NotYet cause = inl cause
cause_of start h q (Full held_units owed_units need_units) cause = inr (inl (unfit start h q.call held_units owed_units need_units cause))
cause_of start h q (Spent clock) cause = inr (inr (sym cause.clock_is ∙ cause.last))

-- ---- where a pass was used for no call

module _ (app : App) (number : ℕ) (old new : List (PassView Object)) (calls : List Entry) (knows : KnowsCalls app number old calls) (object : ℕ)
    (used : IsUsedAt old new object) (kept : used.after.mine ≡ used.pass.mine) where
  own_here : used.after.mine ≡ entries_on object calls
  own_here = kept ∙ sym (mine_was old new object used) ∙ knows.mine object

  -- the same calls are known
  pub kept_knows : KnowsCalls app number new calls
  kept_knows = record {
    are = passes_are old new object used app knows.are;
    mine = λ o.
        elim (decide object o) as (λ _. mine_at new o ≡ entries_on o calls) [
          | inl same ↦ subst (λ (k : ℕ). mine_at new k ≡ entries_on k calls) same (mine_here old new object used ∙ own_here)
          | inr other ↦ mine_others old new object used o other ∙ knows.mine o
        ];
    placed = placed_later (seen_at old) (seen_at new) (fronts old new object used) calls knows.placed;
    work = work_later (seen_at old) (seen_at new) (fronts old new object used) calls knows.placed app number knows.work;
  }

  -- what was refused before was refused with these calls
  pub refused_stay : (r : Asking) → WasRefused app old calls r → WasRefused app new calls r
  refused_stay r refused =
      let more : IsFront (seen_at old r.object) (seen_at new r.object) = fronts old new object used r.object in
      record {
        start = refused.start;
        there = refused.there;
        seen = refused.seen;
        later = refused.later ++ more.0;
        front = more.1 ∙ ap (λ (h : List Entry). h ++ more.0) refused.front ∙ append_assoc refused.seen refused.later more.0;
        own = ap (λ (n : ℕ). calls_of n refused.seen) (numbers old new object used r.object) ∙ refused.own;
        cause = refused.cause;
      }

module _ (app : App) (number : ℕ) (old new : List (PassView Object)) (calls : List Entry) (knows : KnowsCalls app number old calls) (q : Asking) where
  -- ---- where the object refused

  module _ (refusal : Refusal) (asked : IsAskedBy old new q (Refused refusal)) where
    abbrev its_start : Start
    its_start = (object_there old new q.object asked.used app knows.are).0

    refused : Answers its_start q (view_of asked.used.pass) (view_of asked.used.after) (Refused refusal)
    refused = answered_from old new q (Refused refusal) asked app knows.are

    pub none_made : asked.used.after.mine ≡ asked.used.pass.mine
    none_made = refused.0.made

    pub was_refused : WasRefused app new calls q
    was_refused = record {
      start = its_start;
      there = (object_there old new q.object asked.used app knows.are).1;
      seen = asked.used.after.seen;
      later = [];
      front = seen_here old new q.object asked.used ∙ sym (append-nil asked.used.after.seen);
      own = ap (λ (n : ℕ). calls_of n asked.used.after.seen) (number_here old new q.object asked.used)
          ∙ sym asked.used.knows.mine_is ∙ own_here app number old new calls knows q.object asked.used none_made;
      cause = cause_of its_start asked.used.after.seen q refusal refused.1;
    }

  -- ---- where a call was made

  module _ (place stamp : ℕ) (reply : Reply) (asked : IsAskedBy old new q (Made place stamp reply)) where
    -- its entry, under the number of the pass
    abbrev pub made_entry : Entry
    made_entry = entry_of q (number_at old q.object) place stamp reply

    abbrev start : Start
    start = (object_there old new q.object asked.used app knows.are).0

    made : Answers start q (view_of asked.used.pass) (view_of asked.used.after) (Made place stamp reply)
    made = answered_from old new q (Made place stamp reply) asked app knows.are

    abbrev before : List Entry
    before = made.0

    -- the entry is the pass's own
    seat_is : made.1.0 ≡ number_at old q.object
    seat_is =
        let n : ℕ = asked.used.after.number in
        let each : All (λ x. x.seat ≡ n) (calls_of n asked.used.after.seen) =
        λ k d lt. eqb-true _ _ (filter_passes (λ (x : Entry). seat_of x == n) asked.used.after.seen k d lt) in
        let its : made.1.0 ≡ n =
        at_cut (λ x. x.seat ≡ n) asked.used.pass.mine (entry_of q made.1.0 place stamp reply) []
        (subst (All (λ x. x.seat ≡ n)) (sym asked.used.knows.mine_is ∙ made.1.1.made) each) in
        its ∙ sym (number_here old new q.object asked.used) ∙ numbers old new q.object asked.used q.object

    it : IsMade start q.clock (view_of asked.used.pass) (view_of asked.used.after) before made_entry
    it = subst (λ (n : ℕ). IsMade start q.clock (view_of asked.used.pass) (view_of asked.used.after) before (entry_of q n place stamp reply)) seat_is made.1.1

    -- its place is none that was seen
    pub made_past : length (seen_at old q.object) < place
    made_past =
        let front = front_length asked.used.pass.seen before it.front in
        let same = ap length (seen_was old new q.object asked.used) in
        let next : place ≡ length before + 1 = it.follows.place in
        omega arith

    -- so the process that it names has no entry before
    pub newborn_none : entries_by (Process (record { object = q.object; place = place })) calls ≡ []
    newborn_none =
        unborn app (seen_at old) calls knows.placed (record { object = q.object; place = place }) (knows.work.actors (Process (record { object = q.object; place = place }))) made_past

    -- and is no other that has one
    pub made_no_birth : (b : Birth) (first : Entry) (later : List Entry) → entries_by (Process b) calls ≡ first ∷ later → b ≡ birth_at made_entry → ⊥
    made_no_birth b first later some = not_birth app (seen_at old) calls knows.placed b (knows.work.actors (Process b)) first later some made_entry made_past

    -- ---- what its actor may do behind what it did

    abbrev DidWith : Actor → Type 0
    DidWith a = IsOfActor app (named a q.object place) (entries_by (named a q.object place) calls ++ made_entry ∷ [])

    -- a process that is born does its birth
    pub newborn_did : q.actor ≡ Newborn → bears q.call ≡ true → q.span ≡ 1 → IsOfActor app made_entry.actor (entries_by made_entry.actor calls ++ made_entry ∷ [])
    newborn_did by bearing first =
        let b : Birth = record { object = q.object; place = place } in
        let birth : IsBirthOf b made_entry = record { named = refl; call = bearing; span = first } in
        subst DidWith (sym by) (subst (λ (es : List Entry). IsLife app b (es ++ made_entry ∷ [])) (sym newborn_none) (birth, tt))

    -- one that was born what it asks for
    pub process_did : (b : Birth) → q.actor ≡ Process b → want_of (process_after app (entries_by (Process b) calls)) ≡ Make q.object q.span q.call
        → IsOfActor app made_entry.actor (entries_by made_entry.actor calls ++ made_entry ∷ [])
    process_did b by wants = subst DidWith (sym by) (life_more app b (entries_by (Process b) calls) made_entry (knows.work.actors (Process b)) wants)

    -- a carrier carries
    pub carrier_did : (n : ℕ) → q.actor ≡ Carrier n → carries q.call ≡ true → q.span ≡ 0 → IsOfActor app made_entry.actor (entries_by made_entry.actor calls ++ made_entry ∷ [])
    carrier_did n by carrying none =
        subst DidWith (sym by) (All-push IsCarried (entries_by (Carrier n) calls) made_entry (knows.work.actors (Carrier n)) (record { call = carrying; span = none }))

    -- ---- that it is known

    -- The clock that was given is that of the actor. One that is yet to be born has none.
    module _ (clock : q.clock ≡ last_stamp (entries_by q.actor calls)) where
      clock_named : (a : Actor) → q.clock ≡ last_stamp (entries_by a calls) → q.clock ≡ last_stamp (entries_by (named a q.object place) calls)
      clock_named (Carrier n) at = at
      clock_named (Process b) at = at
      clock_named Newborn at = at ∙ ap last_stamp (knows.work.actors Newborn) ∙ sym (ap last_stamp newborn_none)

      made_stamp : stamp ≡ max (last_stamp (entries_by made_entry.actor calls)) (last_stamp before) + 1
      made_stamp = it.stamp ∙ ap (λ (n : ℕ). max n (last_stamp before) + 1) (clock_named q.actor clock)

      -- its stamp is above those of all that its actor did
      pub made_above : All (λ d. d.stamp < stamp) (entries_by made_entry.actor calls)
      made_above =
          let last = made_stamp in
          All-weaker (λ d. d.stamp ≤ last_stamp (entries_by made_entry.actor calls)) (λ d. d.stamp < stamp) (λ d low. omega arith)
          (entries_by made_entry.actor calls) (below_last (entries_by made_entry.actor calls))

      -- a carrier is the worker's own, and the actor may do it behind what it did
      module _ (own : (n : ℕ) → q.actor ≡ Carrier n → n ≡ number) (did : IsOfActor app made_entry.actor (entries_by made_entry.actor calls ++ made_entry ∷ [])) where
        own_named : (a : Actor) → ((n : ℕ) → a ≡ Carrier n → n ≡ number) → (n : ℕ) → named a q.object place ≡ Carrier n → n ≡ number
        own_named (Carrier m) its n is = its n is
        own_named (Process b) its n is = absurd (cc)
        own_named Newborn its n is = absurd (cc)

        seen_now : seen_at new q.object ≡ before ++ made_entry ∷ []
        seen_now = seen_here old new q.object asked.used ∙ it.seen

        mine_now : mine_at new q.object ≡ entries_on q.object calls ++ made_entry ∷ []
        mine_now =
            mine_here old new q.object asked.used ∙ it.made
            ∙ ap (λ (es : List Entry). es ++ made_entry ∷ []) (sym (mine_was old new q.object asked.used) ∙ knows.mine q.object)

        placed_now : All (λ e. e.place ≤ length (seen_at new e.object)) (calls ++ made_entry ∷ [])
        placed_now =
            All-push (λ e. e.place ≤ length (seen_at new e.object)) calls made_entry
            (placed_later (seen_at old) (seen_at new) (fronts old new q.object asked.used) calls knows.placed)
            (let next : place ≡ length before + 1 = it.follows.place in
            let long = ap length seen_now in
            let push = length_push before made_entry in omega arith)

        -- the worker knows the call too
        pub made_knows : KnowsCalls app number new (calls ++ made_entry ∷ [])
        made_knows = record {
          are = passes_are old new q.object asked.used app knows.are;
          mine = λ o.
              elim (decide q.object o) as (λ _. mine_at new o ≡ entries_on o (calls ++ made_entry ∷ [])) [
                | inl same ↦ subst (λ (k : ℕ). mine_at new k ≡ entries_on k (calls ++ made_entry ∷ [])) same
                    (mine_now ∙ sym (entries_on_next calls made_entry))
                | inr other ↦ mine_others old new q.object asked.used o other ∙ knows.mine o ∙ sym (entries_on_past o calls made_entry other)
              ];
          placed = placed_now;
          work = work_more app (seen_at new) number calls
              (work_later (seen_at old) (seen_at new) (fronts old new q.object asked.used) calls knows.placed app number knows.work)
              made_entry before seen_now it.follows.place made_stamp did (own_named q.actor own);
        }
