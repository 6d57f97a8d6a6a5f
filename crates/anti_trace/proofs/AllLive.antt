-- The processes of a world, as the trace grows.
use Rattle.std.proofs.Common.{◌≡◌, ◌≢◌, ℕ, ◌+◌, ◌<◌, ◌≤◌, ◌++◌, ◌⊎◌, inl, inr, List, [], ◌∷◌, Bool, true, false, not, cond, length, get_or, nat_lt, nat_eq, refl, sym, ap, ◌∙◌, subst, arith, length-append, append_assoc, append-nil}
use borrow.Author.Tests.{ltb-true, ltb-false, lt-ltb, le-ltb, eq-eqb, ne_eqb}
use Rattle.std.specs.Prelude.{All, Option, None, Some, IfSome, position, slice_set}
use Rattle.std.specs.List.{position_or_len}
use Rattle.std.proofs.lemmas.List.{length-set, get_or-set_same, get_or-set_other, get_or_append_left}
use Rattle.std.proofs.lemmas.List.Folds.{prefix_len-append, prefix_len-set}
use Rattle.std.proofs.lemmas.List.Sums.{prefix_len-le-length}
use Rattle.std.proofs.lemmas.List.Quantifiers.{position-Some}
use Rattle.std.proofs.Math.Seq.{get_or-append_seam}
use Rattle.std.proofs.lemmas.Bool.{true≢false}
use Rattle.anti_kind.specs.declared.actor.Actor.{Actor}
use Rattle.anti_kind.specs.declared.actor.Actor.TheVariants.{Process as Acting}
use Rattle.anti_kind.specs.declared.actor.Birth.{Birth}
use Rattle.anti_kind.specs.declared.call.Call.{Call}
use Rattle.anti_kind.specs.declared.entry.Entry.{Entry}
use Rattle.anti_kind.specs.Objects.{last_stamp}
use Rattle.anti_kind.proofs.Histories.{last_is}
use Rattle.anti_app.specs.declared.app.App.{App}
use Rattle.anti_trace.specs.Histories.{GoesOn}
use Rattle.anti_trace.specs.Traces.{entries_on, entries_by, same_actor}
use Rattle.anti_trace.proofs.Puts.{same_actor_true, same_actor_itself}
use Rattle.anti_proc.specs.inner.Running.{IsRunOf}
use Rattle.anti_proc.specs.declared.process.Process.{Process}
use Rattle.anti_proc.specs.Tasks.{role_of}
use Rattle.anti_proc.specs.Trees.{Tree, Want, Make, Over, branch, want_of}
use Rattle.anti_proc.specs.Meaning.{tree_of, process_after}
use Rattle.anti_proc.specs.inner.Standing.{process_of, birth_of, clock_of, full_of, its_role}
use Rattle.anti_proc.proofs.Runs.{process_after_more}
use Rattle.anti_trace.specs.declared.processes.AtObject.{AtObject}
use Rattle.anti_trace.specs.inner.Living.{is_named, WasFull, IsEnded, Lives, LivesOn, AllLive, born_at, Changes}
use Rattle.anti_trace.proofs.Living.{decide}

-- ---- places in a list that grows by an item or changes at one place

module _ {X : Type 0} (p : X → Bool) where
  pub position_set : (xs : List X) (i : ℕ) (y d : X) → p y ≡ p (get_or xs i d) → position p (slice_set xs i y) ≡ position p xs
  position_set xs i y d same =
      let len : length (slice_set xs i y) ≡ length xs = length-set xs i y in
      let at : position_or_len p (slice_set xs i y) ≡ position_or_len p xs = prefix_len-set (λ x. not (p x)) xs i y d (ap not same) in
      rw (len, at) refl

  at_end : (at len : ℕ) (i : ℕ) → cond (nat_lt at len) (Some at) None ≡ Some i → (at ≡ i) × (at < len)
  at_end at len i found = by_test (nat_lt at len) refl found
    where
      by_test : (t : Bool) → t ≡ nat_lt at len → cond t (Some at) None ≡ Some i → (at ≡ i) × (at < len)
      by_test true e f = (cc, ltb-true at len (sym e))
      by_test false e f = absurd (cc)

  past_end : (at len : ℕ) → cond (nat_lt at len) (Some at) None ≡ None → len ≤ at
  past_end at len none = by_test (nat_lt at len) refl none
    where
      by_test : (t : Bool) → t ≡ nat_lt at len → cond t (Some at) None ≡ None → len ≤ at
      by_test true e f = absurd (cc)
      by_test false e f = ltb-false at len (sym e)

  pub found_at : (at len : ℕ) → at < len → cond (nat_lt at len) (Some at) None ≡ Some at
  found_at at len lt = let t : nat_lt at len ≡ true = lt-ltb at len lt in ap (λ (b : Bool). cond b (Some at) None) t

  none_at : (at len : ℕ) → len ≤ at → cond (nat_lt at len) (Some at) None ≡ None
  none_at at len le = let t : nat_lt at len ≡ false = le-ltb at len le in ap (λ (b : Bool). cond b (Some at) None) t

  -- the front that fails the test, with one item more behind the list
  front_more : (xs : List X) (y : X) → position_or_len p (xs ++ y ∷ []) ≡ cond (nat_eq (position_or_len p xs) (length xs)) (length xs + position_or_len p (y ∷ [])) (position_or_len p xs)
  front_more xs y = prefix_len-append (λ x. not (p x)) xs (y ∷ [])

  front_of_one : (y : X) (b : Bool) → p y ≡ b → position_or_len p (y ∷ []) ≡ cond b 0 1
  front_of_one y true e = ap (λ (b : Bool). cond {A = ℕ} (not b) 1 0) e
  front_of_one y false e = ap (λ (b : Bool). cond {A = ℕ} (not b) 1 0) e

  pub position_pushed : (xs : List X) (y : X) (i : ℕ) → position p xs ≡ Some i → position p (xs ++ y ∷ []) ≡ Some i
  position_pushed xs y i found =
      let at : (position_or_len p xs ≡ i) × (position_or_len p xs < length xs) = at_end (position_or_len p xs) (length xs) i found in
      let differs : nat_eq (position_or_len p xs) (length xs) ≡ false = ne_eqb (position_or_len p xs) (length xs) (λ same. omega arith) in
      let front : position_or_len p (xs ++ y ∷ []) ≡ position_or_len p xs =
      front_more xs y ∙ ap (λ (b : Bool). cond b (length xs + position_or_len p (y ∷ [])) (position_or_len p xs)) differs in
      found_at (position_or_len p (xs ++ y ∷ [])) (length (xs ++ y ∷ [])) (omega (arith, length-append xs (y ∷ []))) ∙ ap Some (front ∙ at.0)

  all_fail : (xs : List X) → position p xs ≡ None → position_or_len p xs ≡ length xs
  all_fail xs none =
      let past : length xs ≤ position_or_len p xs = past_end (position_or_len p xs) (length xs) none in
      let within : position_or_len p xs ≤ length xs = prefix_len-le-length (λ x. not (p x)) xs in
      omega arith

  front_of_more : (xs : List X) (y : X) → position p xs ≡ None → position_or_len p (xs ++ y ∷ []) ≡ length xs + position_or_len p (y ∷ [])
  front_of_more xs y none =
      let same : nat_eq (position_or_len p xs) (length xs) ≡ true = eq-eqb (position_or_len p xs) (length xs) (all_fail xs none) in
      front_more xs y ∙ ap (λ (b : Bool). cond b (length xs + position_or_len p (y ∷ [])) (position_or_len p xs)) same

  pub position_new : (xs : List X) (y : X) → position p xs ≡ None → p y ≡ true → position p (xs ++ y ∷ []) ≡ Some (length xs)
  position_new xs y none here =
      let one : position_or_len p (y ∷ []) ≡ 0 = front_of_one y true here in
      let front : position_or_len p (xs ++ y ∷ []) ≡ length xs + position_or_len p (y ∷ []) = front_of_more xs y none in
      let is : position_or_len p (xs ++ y ∷ []) ≡ length xs = omega arith in
      found_at (position_or_len p (xs ++ y ∷ [])) (length (xs ++ y ∷ [])) (omega (arith, length-append xs (y ∷ []))) ∙ ap Some is

  pub position_other : (xs : List X) (y : X) → position p xs ≡ None → p y ≡ false → position p (xs ++ y ∷ []) ≡ None
  position_other xs y none other =
      let one : position_or_len p (y ∷ []) ≡ 1 = front_of_one y false other in
      let front : position_or_len p (xs ++ y ∷ []) ≡ length xs + position_or_len p (y ∷ []) = front_of_more xs y none in
      none_at (position_or_len p (xs ++ y ∷ [])) (length (xs ++ y ∷ [])) (omega (arith, length-append xs (y ∷ [])))

-- ---- processes

-- each process that was born at an object stands for its entries
abbrev pub LiveAt : App → ℕ → List Process → List Entry → Type 0
LiveAt app o ps trace = (c : Birth) → c.object ≡ o → Lives app trace ps (position (is_named c) ps) (entries_by (Acting c) trace)

pub live_here : (app : App) (ps : List AtObject) (trace : List Entry) → AllLive app ps trace → (o : ℕ) → LiveAt app o (born_at ps o) trace
live_here app ps trace live o c at = subst (λ (k : ℕ). Lives app trace (born_at ps k) (position (is_named c) (born_at ps k)) (entries_by (Acting c) trace)) at (live c)

pub same_birth : (b c : Birth) → (c ≡ b) ⊎ (same_actor (Acting c) (Acting b) ≡ false)
same_birth b c = by_test (same_actor (Acting c) (Acting b)) refl
  where
    by_test : (t : Bool) → t ≡ same_actor (Acting c) (Acting b) → (c ≡ b) ⊎ (same_actor (Acting c) (Acting b) ≡ false)
    by_test true t = inl (let is : Acting c ≡ Acting b = same_actor_true (Acting c) (Acting b) (sym t) in cc)
    by_test false t = inr (sym t)

module _ (app : App) (trace after : List Entry) (goes : GoesOn trace after) where
  pub full_later : (object : ℕ) (call : Call) → WasFull app trace object call → WasFull app after object call
  full_later object call was = record {
    start = was.start;
    there = was.there;
    before = was.before;
    later = was.later ++ (goes object).0;
    history = (goes object).1 ∙ ap (λ (h : List Entry). h ++ (goes object).0) was.history ∙ append_assoc was.before was.later (goes object).0;
    held_units = was.held_units;
    owed_units = was.owed_units;
    need_units = was.need_units;
    was_full = was.was_full;
    ascends = was.ascends;
  }

  ended_later : (want : Want) (at : ℕ) → IsEnded app trace want at → IsEnded app after want at
  ended_later (Make object span call) at is = (is.0, full_later object call is.1)
  ended_later (Over end) at is = elim is [ ]

  if_ended_later : (o : Option ℕ) (want : Want) → IfSome o (IsEnded app trace want) → IfSome o (IsEnded app after want)
  if_ended_later None want is = tt
  if_ended_later (Some at) want is = ended_later want at is

  -- a process that made none of the new entries
  pub lives_later : (p : Process) (es then : List Entry) → then ≡ es → LivesOn app trace p es → LivesOn app after p then
  lives_later p es then same on = subst (λ (xs : List Entry). LivesOn app after p xs) (sym same) (record {
    birth = on.birth;
    later = on.later;
    entries_are = on.entries_are;
    run = on.run;
    role = on.role;
    tree = on.tree;
    clock = on.clock;
    full = if_ended_later (full_of p) (want_of (process_after app es)) on.full;
  })

  all_later : (ps : List Process) (o : Option ℕ) (es then : List Entry) → then ≡ es → Lives app trace ps o es → Lives app after ps o then
  all_later ps None es then same l = same ∙ l
  all_later ps (Some i) es then same l = λ d. lives_later (get_or ps i d) es then same (l d)

  -- one process in place of the one that was found
  module _ (ps : List Process) (b : Birth) (live : LiveAt app b.object ps trace)
      (others : (c : Birth) → same_actor (Acting c) (Acting b) ≡ false → entries_by (Acting c) after ≡ entries_by (Acting c) trace) where
    module _ (p : Process) (i : ℕ) (found : position (is_named b) ps ≡ Some i) (named : (d : Process) → birth_of p ≡ birth_of (get_or ps i d))
        (on : LivesOn app after p (entries_by (Acting b) after)) where
      within : i < length ps
      within = (position-Some (is_named b) ps i p found).0

      stays : (c : Birth) → position (is_named c) (slice_set ps i p) ≡ position (is_named c) ps
      stays c = position_set (is_named c) ps i p p (ap (λ (x : Birth). same_actor (Acting c) (Acting x)) (named p))

      lives_there : Lives app after (slice_set ps i p) (position (is_named b) (slice_set ps i p)) (entries_by (Acting b) after)
      lives_there =
          subst (λ (o : Option ℕ). Lives app after (slice_set ps i p) o (entries_by (Acting b) after)) (sym (stays b ∙ found))
          (λ d. subst (λ (x : Process). LivesOn app after x (entries_by (Acting b) after)) (sym (get_or-set_same ps i p d within)) on)

      lives_on : (c : Birth) → c ≡ b → Lives app after (slice_set ps i p) (position (is_named c) (slice_set ps i p)) (entries_by (Acting c) after)
      lives_on c same = subst (λ (x : Birth). Lives app after (slice_set ps i p) (position (is_named x) (slice_set ps i p)) (entries_by (Acting x) after)) (sym same) lives_there

      elsewhere : (c : Birth) → same_actor (Acting c) (Acting b) ≡ false → (j : ℕ) → position (is_named c) ps ≡ Some j → j ≢ i
      elsewhere c off j at same =
          let here : is_named c (get_or ps i p) ≡ true = subst (λ (k : ℕ). is_named c (get_or ps k p) ≡ true) same (position-Some (is_named c) ps j p at).1 in
          let there : is_named b (get_or ps i p) ≡ true = (position-Some (is_named b) ps i p found).1 in
          let one : Acting c ≡ Acting (birth_of (get_or ps i p)) = same_actor_true (Acting c) (Acting (birth_of (get_or ps i p))) here in
          let two : Acting b ≡ Acting (birth_of (get_or ps i p)) = same_actor_true (Acting b) (Acting (birth_of (get_or ps i p))) there in
          let is : same_actor (Acting c) (Acting b) ≡ true = ap (λ (a : Actor). same_actor (Acting c) a) (two ∙ sym one) ∙ same_actor_itself (Acting c) in
          true≢false (sym is ∙ off)

      lives_else : (c : Birth) → same_actor (Acting c) (Acting b) ≡ false → (o : Option ℕ) → position (is_named c) ps ≡ o → Lives app trace ps o (entries_by (Acting c) trace)
          → Lives app after (slice_set ps i p) (position (is_named c) (slice_set ps i p)) (entries_by (Acting c) after)
      lives_else c off None at l =
          subst (λ (o : Option ℕ). Lives app after (slice_set ps i p) o (entries_by (Acting c) after)) (sym (stays c ∙ at)) (others c off ∙ l)
      lives_else c off (Some j) at l =
          let other : j ≢ i = elsewhere c off j at in
          subst (λ (o : Option ℕ). Lives app after (slice_set ps i p) o (entries_by (Acting c) after)) (sym (stays c ∙ at))
          (λ d. subst (λ (x : Process). LivesOn app after x (entries_by (Acting c) after)) (sym (get_or-set_other ps i j p d other))
          (lives_later (get_or ps j d) (entries_by (Acting c) trace) (entries_by (Acting c) after) (others c off) (l d)))

      pub live_set : LiveAt app b.object (slice_set ps i p) after
      live_set c at =
          elim (same_birth b c) [
            | inl same ↦ lives_on c same
            | inr off ↦ lives_else c off (position (is_named c) ps) refl (live c at)
          ]

    -- a process more behind those that are there
    module _ (p : Process) (named : birth_of p ≡ b) (unborn : position (is_named b) ps ≡ None) (on : LivesOn app after p (entries_by (Acting b) after)) where
      lives_here : Lives app after (ps ++ p ∷ []) (position (is_named b) (ps ++ p ∷ [])) (entries_by (Acting b) after)
      lives_here =
          let is : is_named b p ≡ true = ap (λ (x : Birth). same_actor (Acting b) (Acting x)) named ∙ same_actor_itself (Acting b) in
          let at : position (is_named b) (ps ++ p ∷ []) ≡ Some (length ps) = position_new (is_named b) ps p unborn is in
          subst (λ (o : Option ℕ). Lives app after (ps ++ p ∷ []) o (entries_by (Acting b) after)) (sym at)
          (λ d. subst (λ (x : Process). LivesOn app after x (entries_by (Acting b) after)) (sym (get_or-append_seam ps p [] d)) on)

      lives_new : (c : Birth) → c ≡ b → Lives app after (ps ++ p ∷ []) (position (is_named c) (ps ++ p ∷ [])) (entries_by (Acting c) after)
      lives_new c same = subst (λ (x : Birth). Lives app after (ps ++ p ∷ []) (position (is_named x) (ps ++ p ∷ [])) (entries_by (Acting x) after)) (sym same) lives_here

      lives_old : (c : Birth) → same_actor (Acting c) (Acting b) ≡ false → (o : Option ℕ) → position (is_named c) ps ≡ o → Lives app trace ps o (entries_by (Acting c) trace)
          → Lives app after (ps ++ p ∷ []) (position (is_named c) (ps ++ p ∷ [])) (entries_by (Acting c) after)
      lives_old c off None at l =
          let not_p : is_named c p ≡ false = ap (λ (x : Birth). same_actor (Acting c) (Acting x)) named ∙ off in
          subst (λ (o : Option ℕ). Lives app after (ps ++ p ∷ []) o (entries_by (Acting c) after)) (sym (position_other (is_named c) ps p at not_p)) (others c off ∙ l)
      lives_old c off (Some i) at l =
          subst (λ (o : Option ℕ). Lives app after (ps ++ p ∷ []) o (entries_by (Acting c) after)) (sym (position_pushed (is_named c) ps p i at))
          (λ d.
          let inside : i < length ps = (position-Some (is_named c) ps i d at).0 in
          subst (λ (x : Process). LivesOn app after x (entries_by (Acting c) after)) (sym (get_or_append_left ps (p ∷ []) d i inside))
          (lives_later (get_or ps i d) (entries_by (Acting c) trace) (entries_by (Acting c) after) (others c off) (l d)))

      pub live_pushed : LiveAt app b.object (ps ++ p ∷ []) after
      live_pushed c at =
          elim (same_birth b c) [
            | inl same ↦ lives_new c same
            | inr off ↦ lives_old c off (position (is_named c) ps) refl (live c at)
          ]

  -- the processes of all objects, where those of one have changed
  pub live_with : (ps ns : List AtObject) (here : List Process) (b : Birth) → AllLive app ps trace → Changes ps ns b.object here
      → ((c : Birth) → same_actor (Acting c) (Acting b) ≡ false → entries_by (Acting c) after ≡ entries_by (Acting c) trace)
      → LiveAt app b.object here after → AllLive app ns after
  live_with ps ns here b live changes others at c =
      elim (decide b.object c.object) [
        | inl same ↦
            subst (λ (xs : List Process). Lives app after xs (position (is_named c) xs) (entries_by (Acting c) after))
            (sym (subst (λ (o : ℕ). born_at ns o ≡ here) same changes.here_are)) (at c (sym same))
        | inr other ↦
            subst (λ (xs : List Process). Lives app after xs (position (is_named c) xs) (entries_by (Acting c) after)) (sym (changes.others c.object other))
            (all_later (born_at ps c.object) (position (is_named c) (born_at ps c.object)) (entries_by (Acting c) trace) (entries_by (Acting c) after)
            (elim (same_birth b c) [ inl is ↦ absurd (other (ap (λ (x : Birth). x.object) (sym is))) | inr off ↦ others c off ])
            (live c))
      ]

pub no_more : (trace : List Entry) → GoesOn trace trace
no_more trace o = ([], sym (append-nil (entries_on o trace)))

-- where a process was not found there is none, so its entries are none
pub not_found : (app : App) (trace : List Entry) (ps : List Process) (d : Process) (o : Option ℕ) (es : List Entry) → es ≡ [] → Lives app trace ps o es → o ≡ None
not_found app trace ps d None es none l = refl
not_found app trace ps d (Some i) es none l = let on : LivesOn app trace (get_or ps i d) es = l d in let some : es ≡ on.birth ∷ on.later = on.entries_are in absurd (cc)

-- none is ended
pub not_ended : (app : App) (trace : List Entry) (o : Option ℕ) (want : Want) → o ≡ None → IfSome o (IsEnded app trace want)
not_ended app trace o want none = subst (λ (x : Option ℕ). IfSome x (IsEnded app trace want)) (sym none) tt

-- ---- with one entry more, after the last of its object and of its actor

module _ (app : App) (ps : List AtObject) (trace after : List Entry) (live : AllLive app ps trace) (e : Entry) (goes : GoesOn trace after)
    (own : entries_by e.actor after ≡ entries_by e.actor trace ++ e ∷ [])
    (others : (a : Actor) → (e.actor ≡ a → ⊥) → entries_by a after ≡ entries_by a trace) where
  -- a carrier's entry is none of a process
  pub live_kept : ((b : Birth) → e.actor ≡ Acting b → ⊥) → AllLive app ps after
  live_kept none b = all_later app trace after goes (born_at ps b.object) (position (is_named b) (born_at ps b.object)) (entries_by (Acting b) trace) (entries_by (Acting b) after) (others (Acting b) (none b)) (live b)

  live_at : (o : ℕ) → LiveAt app o (born_at ps o) trace
  live_at = live_here app ps trace live

  module _ (b : Birth) (actor : e.actor ≡ Acting b) where
    other_births : (c : Birth) → same_actor (Acting c) (Acting b) ≡ false → entries_by (Acting c) after ≡ entries_by (Acting c) trace
    other_births c off = others (Acting c) (λ is.
        let same : Acting b ≡ Acting c = sym actor ∙ is in
        let on : same_actor (Acting c) (Acting b) ≡ true = ap (λ (a : Actor). same_actor (Acting c) a) same ∙ same_actor_itself (Acting c) in
        true≢false (sym on ∙ off))

    own_entries : entries_by (Acting b) after ≡ entries_by (Acting b) trace ++ e ∷ []
    own_entries = subst (λ (a : Actor). entries_by a after ≡ entries_by a trace ++ e ∷ []) actor own

    -- a process that is born by the entry
    module _ (p : Process) (named : birth_of p ≡ b) (unborn : entries_by (Acting b) trace ≡ [])
        (tree : process_of app p ≡ tree_of app e) (clock : clock_of p ≡ e.stamp) (going : full_of p ≡ None)
        (runs : IsRunOf app p) (role : role_of app e ≡ Some (its_role p)) where
      on_new : LivesOn app after p (entries_by (Acting b) after)
      on_new = subst (λ (es : List Entry). LivesOn app after p es) (sym (own_entries ∙ ap (λ (x : List Entry). x ++ e ∷ []) unborn)) (record {
        birth = e;
        later = [];
        entries_are = refl;
        run = runs;
        role = role;
        tree = λ none. tree;
        clock = clock ∙ (let one : e.stamp ≡ last_stamp (e ∷ []) = omega arith in one);
        full = not_ended app after (full_of p) (want_of (process_after app (e ∷ []))) going;
      })

      pub live_born : (ns : List AtObject) → Changes ps ns b.object (born_at ps b.object ++ p ∷ []) → AllLive app ns after
      live_born ns changes =
          live_with app trace after goes ps ns (born_at ps b.object ++ p ∷ []) b live changes other_births
          (live_pushed app trace after goes (born_at ps b.object) b (live_at b.object) other_births p named
          (not_found app trace (born_at ps b.object) p (position (is_named b) (born_at ps b.object)) (entries_by (Acting b) trace) unborn (live b)) on_new)

    -- a process that the entry is the next of
    module _ (p : Process) (i : ℕ) (found : position (is_named b) (born_at ps b.object) ≡ Some i)
        (named : (d : Process) → birth_of p ≡ birth_of (get_or (born_at ps b.object) i d))
        (tree : (d : Process) → process_of app p ≡ branch (process_of app (get_or (born_at ps b.object) i d)) e.reply) (clock : clock_of p ≡ e.stamp) (going : full_of p ≡ None)
        (went : (d : Process) → full_of (get_or (born_at ps b.object) i d) ≡ None)
        (last : All (λ d. d.stamp < e.stamp) (entries_by (Acting b) trace)) (runs : IsRunOf app p)
        (role : (d : Process) → its_role p ≡ its_role (get_or (born_at ps b.object) i d)) where
      old : LivesOn app trace (get_or (born_at ps b.object) i p) (entries_by (Acting b) trace)
      old = (subst (λ (o : Option ℕ). Lives app trace (born_at ps b.object) o (entries_by (Acting b) trace)) found (live b)) p

      entries_then : entries_by (Acting b) after ≡ old.birth ∷ (old.later ++ e ∷ [])
      entries_then = own_entries ∙ ap (λ (x : List Entry). x ++ e ∷ []) old.entries_are

      on_then : LivesOn app after p (entries_by (Acting b) after)
      on_then = record {
        birth = old.birth;
        later = old.later ++ e ∷ [];
        entries_are = entries_then;
        run = runs;
        role = old.role ∙ ap Some (sym (role p));
        tree = λ none. tree p
            ∙ ap (λ (x : Tree). branch x e.reply) (old.tree (went p) ∙ ap (λ (x : List Entry). process_after app x) old.entries_are)
            ∙ sym (process_after_more app old.birth old.later e)
            ∙ sym (ap (λ (x : List Entry). process_after app x) entries_then);
        clock = clock ∙ sym (last_is (entries_by (Acting b) trace) e last) ∙ sym (ap (λ (x : List Entry). last_stamp x) own_entries);
        full = not_ended app after (full_of p) (want_of (process_after app (entries_by (Acting b) after))) going;
      }

      pub live_went : (ns : List AtObject) → Changes ps ns b.object (slice_set (born_at ps b.object) i p) → AllLive app ns after
      live_went ns changes =
          live_with app trace after goes ps ns (slice_set (born_at ps b.object) i p) b live changes other_births
          (live_set app trace after goes (born_at ps b.object) b (live_at b.object) other_births p i found named on_then)
