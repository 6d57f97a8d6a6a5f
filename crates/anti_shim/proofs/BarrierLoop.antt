-- A barrier that has looked at some of its stores, and its next look.
use Rattle.std.proofs.Common.{◌≡◌, ⊎_elim, inl, inr, ℕ, zero, suc, ◌+◌, ◌<◌, Bool, true, false, cond, not, List, [], ◌∷◌, ◌++◌, length, get_or, take, filter, All, refl, ap, sym, ◌∙◌, subst, append_assoc, append-nil, arith}
use Rattle.std.specs.Prelude.{Contains, Option, Result, Ok, Err}
use Rattle.std.proofs.lemmas.Bool.{cases_eq}
use Rattle.std.proofs.lemmas.List.{same_from_push}
use Rattle.std.proofs.lemmas.List.Elements.{All-contains, All-more, All-weaker, Contains-get_or, Contains-push, Contains-append_left}
use Rattle.anti_ids.specs.declared.id.WriteId.{WriteId}
use Rattle.anti_kind.specs.declared.actor.Actor.{Actor}
use Rattle.anti_kind.specs.declared.call.Call.TheVariants.{Look}
use Rattle.anti_kind.specs.declared.entry.Entry.{Entry}
use Rattle.anti_kind.specs.declared.call.Reply.{Reply}
use Rattle.anti_kind.specs.declared.call.Reply.TheVariants.{Missing}
use Rattle.anti_kind.specs.declared.port.Answer.{Answer}
use Rattle.anti_kind.specs.declared.port.Answer.TheVariants as port
use Rattle.anti_kind.specs.declared.refusal.Refusal.{Refusal}
use Rattle.anti_kind.specs.declared.refusal.Refusal.TheVariants.{NotYet}
use Rattle.anti_kind.specs.Objects.{Start}
use Rattle.anti_kind.specs.Ports.{View, Answered}
use Rattle.anti_kind.specs.Entries.{named}
use Rattle.anti_shim.specs.declared.barrier_answer.BarrierAnswer.{BarrierAnswer}
use Rattle.anti_shim.specs.declared.caller.Caller.{Caller}
use Rattle.anti_shim.specs.declared.caller.Made.{Made}
use Rattle.anti_shim.specs.declared.fault.ShimFault.{ShimFault}
use Rattle.anti_shim.specs.declared.fault.ShimFault.TheVariants.{Refused, Unwritten, LineageFull, NoMemory}
use Rattle.anti_shim.specs.declared.barrier_answer.BarrierAnswer.TheVariants as answers
use Rattle.anti_shim.specs.declared.looks.PlannedLook.{PlannedLook}
use Rattle.anti_shim.specs.declared.sight.Sight.{Sight}
use Rattle.anti_shim.specs.Steps.{Step, asking, IsAsked, MayAsk, IsAdded}
use Rattle.anti_shim.specs.Shims.{SeeGives, Sees}
use Rattle.anti_shim.specs.Sights.{has_sight, unseen, HasSights}
use Rattle.anti_shim.specs.Looks.{IsLookedAt, SomeLook, OnlyLooks}
use Rattle.anti_shim.specs.Barriers.{sights_after, sight_of, KeepsSights, NotRefused, idle, found, wanted, BarrierGives, BarrierDoes}
use Rattle.anti_shim.specs.inner.Looks.{Keeps, LooksOnce, IsRefusal}
use Rattle.anti_shim.proofs.NextCall.{none_more, nothing, Entered, entered, answered_made, none_added, last, whole, idle_more}
use Rattle.anti_shim.proofs.LookLemmas.{IsRight, misses, look_stays, looked_whole, no_looks, only_more, Refuses, refuses, refused, wanting, not_asked}
use Rattle.anti_shim.proofs.SightLemmas.{has_still, has_last, none_before, none_last, sights_stay, sights_more, sights_of}

-- What holds after some looks, also after one that was refused.
pub record Went (s : Step) (region : ℕ) (planned : List PlannedLook) (given sights : List Sight) : Type 0 where
  pub only : OnlyLooks s region false (unseen given planned)
  pub seen : HasSights s.new s.before region planned sights
  pub kept : KeepsSights s given sights

-- what a barrier has done that answers so after these looks
pub done : (s : Step) (region : ℕ) (planned : List PlannedLook) (given sights left : List Sight) (answer : BarrierAnswer) → Went s region planned given sights
    → sights_after answer left ≡ sights → BarrierGives s region planned (unseen given planned) left answer → BarrierDoes s region planned given left answer
done s region planned given sights left answer w are gives =
    record {
      gives = gives;
      sights = subst (λ (xs : List Sight). HasSights s.new s.after region planned xs) (sym are) (sights_of s.new s.before s.after region planned sights w.only.caller.actor w.only.caller.span w.seen);
      kept = subst (λ (xs : List Sight). KeepsSights s given xs) (sym are) w.kept;
      only = w.only;
    }

-- A store of which there is no sight was not asked, but the last one.
abbrev pub Unasked : Step → List Sight → Type 0
Unasked s sights = (o : ℕ) → has_sight sights o ≡ false → s.new o ≡ s.old o

-- Before the first look.

pub went_start : (starts : ℕ → Option Start) (views : ℕ → View) (who : Caller) (region : ℕ) (planned : List PlannedLook) (given : List Sight)
    → HasSights views who region planned given → Went (nothing starts views who) region planned given given
went_start starts views who region planned given h =
    record {
      only = no_looks starts views who region false (unseen given planned);
      seen = h;
      kept = record { more = []; front = sym (append-nil given); kept = λ o e added clear. absurd (none_more (views o).made e added) };
    }

-- What passes a test stays.

kept_or_not : {X : Type 0} (b : Bool) (y x : X) (rest : List X) → Contains rest x → Contains (cond b (y ∷ rest) rest) x
kept_or_not true y x rest c = (suc c.0, omega (arith, c.1), c.2)
kept_or_not false y x rest c = c

kept_first : {X : Type 0} (b : Bool) (y x : X) (rest : List X) → b ≡ true → y ≡ x → Contains (cond b (y ∷ rest) rest) x
kept_first true y x rest on is = (0, omega arith, is)
kept_first false y x rest on is = absurd (cc)

contains_at : {X : Type 0} (p : X → Bool) (xs : List X) (x : X) (k : ℕ) → k < length xs → get_or xs k x ≡ x → p x ≡ true → Contains (filter p xs) x
contains_at p [] x k within is passes = absurd (omega arith)
contains_at p (y ∷ ys) x zero within is passes = kept_first (p y) y x (filter p ys) (ap p is ∙ passes) is
contains_at p (y ∷ ys) x (suc k) within is passes = kept_or_not (p y) y x (filter p ys) (contains_at p ys x k (omega arith) is passes)

-- The next look, of a store of which there is no sight, where none so far was refused.

pub record Turn (s : Step) (region : ℕ) (planned : List PlannedLook) (given sights : List Sight) (i : ℕ) (look : PlannedLook) : Type 0 where
  pub right : All (IsRight s.starts region) planned
  pub went : Went s region planned given sights
  pub not_refused : (o : ℕ) → NotRefused s region (unseen given planned) o
  pub unasked : Unasked s sights
  pub covered : All (λ l. has_sight sights l.store ≡ true) (take i planned)
  pub within : i < length planned
  pub is : look ≡ get_or planned i look
  pub fresh : has_sight sights look.store ≡ false

module _ {s : Step} {region : ℕ} {planned : List PlannedLook} {given sights : List Sight} {i : ℕ} {look : PlannedLook} (t : Turn s region planned given sights i look) where
  is_planned : Contains planned look
  is_planned = subst (λ (l : PlannedLook). Contains planned l) (sym t.is) (Contains-get_or planned i look t.within)

  is_unseen : Contains (unseen given planned) look
  is_unseen =
      let none : has_sight (given ++ t.went.kept.more) look.store ≡ false = ap (λ (xs : List Sight). has_sight xs look.store) (sym t.went.kept.front) ∙ t.fresh in
      contains_at (λ (l : PlannedLook). not (has_sight given l.store)) planned look is_planned.0 is_planned.1 is_planned.2 (ap not (none_before given t.went.kept.more look.store none))

  pub is_right : IsRight s.starts region look
  is_right = All-contains (IsRight s.starts region) planned look t.right is_planned

  same : s.new look.store ≡ s.old look.store
  same = t.unasked look.store t.fresh

  other : (o : ℕ) → has_sight sights o ≡ true → o ≡ look.store → ⊥
  other o there is = let none : has_sight sights o ≡ false = subst (λ (n : ℕ). has_sight sights n ≡ false) (sym is) t.fresh in absurd (cc)

  module _ {new : ℕ → View} {next : Caller} where
    abbrev the_look : (clock : ℕ) (answer : Answer) → IsLookedAt (last s new next) region false look clock answer → SomeLook (whole s new next) region false (unseen given planned) clock answer
    the_look clock answer at = record { look = look; planned = is_unseen; looked = looked_whole s new next region false look clock answer same t.went.only.caller at }

    not_refused_same : (o : ℕ) → new o ≡ s.new o → NotRefused s region (unseen given planned) o → NotRefused (whole s new next) region (unseen given planned) o
    not_refused_same o is (idle untouched) = idle (is ∙ untouched)
    not_refused_same o is (found {clock} {place} {stamp} l here) =
        found (look_stays s new next region false (unseen given planned) o clock (port.Made place stamp (Missing [] [])) is l here) here
    not_refused_same o is (wanted {clock} l here) = wanted (look_stays s new next region false (unseen given planned) o clock port.NoMemory is l here) here

    -- where the look itself was not refused
    not_refused_more : ((o : ℕ) → (o ≡ look.store → ⊥) → new o ≡ s.new o) → NotRefused (whole s new next) region (unseen given planned) look.store
        → (o : ℕ) → NotRefused (whole s new next) region (unseen given planned) o
    not_refused_more others its o =
        ⊎_elim (λ (here : o ≡ look.store). subst (λ (n : ℕ). NotRefused (whole s new next) region (unseen given planned) n) (sym here) its)
        (λ (off : o ≡ look.store → ⊥). not_refused_same o (others o off) (t.not_refused o))
        (cases_eq o look.store)

    -- the sights after it, where each entry of it that found nothing missing has one
    keeps : (outcome : Result Made ShimFault) (more after : List Sight) → IsAsked (last s new next) look.store (Look region look.ids false) outcome → after ≡ sights ++ more
        → ((e : Entry) → IsAdded (last s new next) look.store e → e.reply ≡ Missing [] [] → Contains (sights ++ more) (sight_of look.store e))
        → KeepsSights (whole s new next) given after
    keeps outcome more after asked is its =
        record {
          more = t.went.kept.more ++ more;
          front = is ∙ ap (λ (xs : List Sight). xs ++ more) t.went.kept.front ∙ append_assoc given t.went.kept.more more;
          kept = λ o e added clear. subst (λ (xs : List Sight). Contains xs (sight_of o e)) (sym is) (⊎_elim
              (λ (here : o ≡ look.store).
              let at : IsAdded (last s new next) look.store e = subst (λ (n : ℕ). IsAdded (whole s new next) n e) here added ∙ ap (λ (v : View). v.made ++ e ∷ []) (sym same) in
              subst (λ (n : ℕ). Contains (sights ++ more) (sight_of n e)) (sym here) (its e at clear))
              (λ (off : o ≡ look.store → ⊥).
              let before : IsAdded s o e = ap (λ (v : View). v.made) (sym (asked.others o off)) ∙ added in
              Contains-append_left sights more (sight_of o e) (t.went.kept.kept o e before clear))
              (cases_eq o look.store));
        }

    went_with : (outcome : Result Made ShimFault) (after : List Sight) → IsAsked (last s new next) look.store (Look region look.ids false) outcome
        → HasSights new s.before region planned after → KeepsSights (whole s new next) given after → Went (whole s new next) region planned given after
    went_with outcome after asked seen kept =
        record {
          only = only_more s new next region false (unseen given planned) look outcome is_unseen same (inl asked) t.went.only;
          seen = seen;
          kept = kept;
        }

    seen_still : (outcome : Result Made ShimFault) → IsAsked (last s new next) look.store (Look region look.ids false) outcome → HasSights new s.before region planned sights
    seen_still outcome asked = sights_stay s.new new s.before region planned sights (λ o there. asked.others o (other o there)) t.went.seen

    went_refused : (fault : ShimFault) → IsAsked (last s new next) look.store (Look region look.ids false) (Err fault) → Went (whole s new next) region planned given sights
    went_refused fault asked =
        went_with (Err fault) sights asked (seen_still (Err fault) asked) (keeps (Err fault) [] sights asked (sym (append-nil sights))
        (λ e added clear. absurd (none_more (s.new look.store).made e (sym (none_added (last s new next) look.store (Look region look.ids false) fault asked look.store) ∙ added))))

    module _ (made : Made) (asked : IsAsked (last s new next) look.store (Look region look.ids false) (Ok made)) where
      its_entry : Entered (last s new next) look.store (Look region look.ids false) made
      its_entry = entered (last s new next) look.store (Look region look.ids false) made asked

      is_its : (e : Entry) → IsAdded (last s new next) look.store e → its_entry.entry ≡ e
      is_its e added = (same_from_push (s.new look.store).made (s.new look.store).made its_entry.entry e (sym its_entry.added ∙ added)).1

      went_unwritten : (missing further : List WriteId) (id : WriteId) → made.reply ≡ Missing missing (id ∷ further) → Went (whole s new next) region planned given sights
      went_unwritten missing further id said =
          went_with (Ok made) sights asked (seen_still (Ok made) asked) (keeps (Ok made) [] sights asked (sym (append-nil sights))
          (λ e added clear.
          let no : Missing missing (id ∷ further) ≡ Missing [] [] = sym said ∙ sym its_entry.reply ∙ ap (λ (x : Entry). x.reply) (is_its e added) ∙ clear in
          absurd (cc)))

      went_seen : made.reply ≡ Missing [] [] → Went (whole s new next) region planned given (sights ++ record { store = look.store; place = made.place; stamp = made.stamp } ∷ [])
      went_seen said =
          let sight : Sight = record { store = look.store; place = made.place; stamp = made.stamp } in
          let e = its_entry in
          went_with (Ok made) (sights ++ sight ∷ []) asked
          (sights_more new s.before region planned sights look sight (seen_still (Ok made) asked) t.fresh is_planned (record {
            store = refl;
            entry = e.entry;
            place = e.stands;
            stamp = e.stamp;
            actor = e.actor ∙ ap (λ (a : Actor). named a look.store made.place) t.went.only.caller.actor;
            span = e.span ∙ t.went.only.caller.span;
            call = e.call;
            reply = e.reply ∙ said;
          }))
          (keeps (Ok made) (sight ∷ []) (sights ++ sight ∷ []) asked refl
          (λ x added clear.
          let place : x.place ≡ made.place = ap (λ (y : Entry). y.place) (sym (is_its x added)) ∙ e.place in
          let stamp : x.stamp ≡ made.stamp = ap (λ (y : Entry). y.stamp) (sym (is_its x added)) ∙ e.stamp in
          let is : sight_of look.store x ≡ sight = cc in
          subst (λ (y : Sight). Contains (sights ++ sight ∷ []) y) (sym is) (Contains-push sights sight)))

    -- after the look, whatever came of it
    went_after : (after : List Sight) (result : Result (Unit {0}) ShimFault) (sight : Result Sight ShimFault) (outcome : Result Made ShimFault) → MayAsk (last s new next) look.store (Look region look.ids false) outcome
        → SeeGives look.store outcome sight → Keeps sights after sight result → Went (whole s new next) region planned given after
    went_after after result (Ok sight) (Ok made) (inl asked) gives kept =
        subst (λ (xs : List Sight). Went (whole s new next) region planned given xs) (ap (λ (x : Sight). sights ++ x ∷ []) (sym gives.0) ∙ sym kept.1) (went_seen made asked gives.1)
    went_after after result (Err fault) (Ok made) (inl asked) gives kept =
        subst (λ (xs : List Sight). Went (whole s new next) region planned given xs) (sym kept.1) (went_unwritten made asked gives.1 gives.2 gives.0 gives.4)
    went_after after result sight (Ok made) (inr none) gives kept = let no : ◌≡◌ {A = Result Made ShimFault} (Ok made) (Err NoMemory) = none.1 in absurd (cc)
    went_after after result (Ok sight) (Err refusal) asked gives kept = let no : ◌≡◌ {A = Result Sight ShimFault} (Ok sight) (Err refusal) = gives in absurd (cc)
    went_after after result (Err fault) (Err refusal) (inl asked) gives kept =
        subst (λ (xs : List Sight). Went (whole s new next) region planned given xs) (sym kept.1) (went_refused refusal asked)
    went_after after result (Err fault) (Err refusal) (inr none) gives kept =
        subst (λ (xs : List Sight). Went (whole s new next) region planned given xs) (sym kept.1) (idle_more s new next none.0 (λ x. Went x region planned given sights) t.went)

    pub turn_went : {after : List Sight} {result : Result (Unit {0}) ShimFault} → LooksOnce (last s new next) region look sights after result → Went (whole s new next) region planned given after
    turn_went {after} {result} l = went_after after result l.sight l.seen.outcome l.seen.asked l.seen.gives l.kept

    found_here : (made : Made) → IsAsked (last s new next) look.store (Look region look.ids false) (Ok made) → made.reply ≡ Missing [] []
        → NotRefused (whole s new next) region (unseen given planned) look.store
    found_here made asked said =
        let call = Look region look.ids false in
        let at = subst (λ (r : Reply). IsLookedAt (last s new next) region false look s.after.clock (port.Made made.place made.stamp r)) said (answered_made (last s new next) look.store call made asked) in
        found (the_look s.after.clock (port.Made made.place made.stamp (Missing [] [])) at) refl

    -- a look whose sight was kept: only its store was asked, and has a sight now
    seen_after : (after : List Sight) (sight : Result Sight ShimFault) (outcome : Result Made ShimFault) → MayAsk (last s new next) look.store (Look region look.ids false) outcome
        → SeeGives look.store outcome sight → Keeps sights after sight (Ok tt)
        → ((o : ℕ) → NotRefused (whole s new next) region (unseen given planned) o)
        × Unasked (whole s new next) after × All (λ l. has_sight after l.store ≡ true) (take (i + 1) planned)
    seen_after after (Ok sight) (Ok made) (inl asked) gives kept =
        let store : sight.store ≡ look.store = ap (λ (x : Sight). x.store) gives.0 in
        let still : (l : PlannedLook) → has_sight sights l.store ≡ true → has_sight after l.store ≡ true =
        λ l there. ap (λ (xs : List Sight). has_sight xs l.store) kept.1 ∙ has_still sights sight l.store there in
        let here : has_sight after (get_or planned i look).store ≡ true =
        ap (λ (l : PlannedLook). has_sight after l.store) (sym t.is) ∙ ap (λ (xs : List Sight). has_sight xs look.store) kept.1 ∙ has_last sights sight look.store store in (
          not_refused_more asked.others (found_here made asked gives.1),
          λ o none.
              let none_now : has_sight (sights ++ sight ∷ []) o ≡ false = ap (λ (xs : List Sight). has_sight xs o) (sym kept.1) ∙ none in
              asked.others o (λ is. none_last sights sight o none_now (store ∙ sym is)) ∙ t.unasked o (none_before sights (sight ∷ []) o none_now),
          All-more (λ (l : PlannedLook). has_sight after l.store ≡ true) planned i look t.within
              (All-weaker (λ (l : PlannedLook). has_sight sights l.store ≡ true) (λ (l : PlannedLook). has_sight after l.store ≡ true) still (take i planned) t.covered) here,
        )
    seen_after after (Ok sight) (Ok made) (inr none) gives kept = let no : ◌≡◌ {A = Result Made ShimFault} (Ok made) (Err NoMemory) = none.1 in absurd (cc)
    seen_after after (Ok sight) (Err refusal) asked gives kept = let no : ◌≡◌ {A = Result Sight ShimFault} (Ok sight) (Err refusal) = gives in absurd (cc)
    seen_after after (Err fault) outcome asked gives kept = let no : ◌≡◌ {A = Result (Unit {0}) ShimFault} (Ok tt) (Err fault) = kept.0 in absurd (cc)

    pub turn_seen : {after : List Sight} → LooksOnce (last s new next) region look sights after (Ok tt)
        → ((o : ℕ) → NotRefused (whole s new next) region (unseen given planned) o)
        × Unasked (whole s new next) after × All (λ l. has_sight after l.store ≡ true) (take (i + 1) planned)
    turn_seen {after} l = seen_after after l.sight l.seen.outcome l.seen.asked l.seen.gives l.kept

-- A look that gave a fault.

pub data Fails (s : Step) (region : ℕ) (look : PlannedLook) : ShimFault → Type 0 where
  not_made : {fault : ShimFault} → Refuses s region false look fault → Fails s region look fault
  unwritten : {id : WriteId} (clock place : ℕ) (missing further : List WriteId)
      → IsLookedAt s region false look clock (port.Made place s.after.clock (Missing missing (id ∷ further))) → Fails s region look (Unwritten id)

module _ {s : Step} {region : ℕ} {look : PlannedLook} {fault : ShimFault} where
  fails_so : (outcome : Result Made ShimFault) → MayAsk s look.store (Look region look.ids false) outcome → SeeGives look.store outcome (Err fault) → Fails s region look fault
  fails_so (Ok made) (inl asked) gives =
      let call = Look region look.ids false in
      let named = subst (λ (r : Reply). Answered (s.starts look.store) (asking s.before look.store call) (s.old look.store) (s.new look.store) (port.Made made.place made.stamp r)) gives.4
      (answered_made s look.store call made asked) in
      let stamped = subst (λ (n : ℕ). IsLookedAt s region false look s.before.clock (port.Made made.place n (Missing gives.1 (gives.0 ∷ gives.2)))) (ap (λ (c : Caller). c.clock) (sym asked.caller)) named in
      subst (λ (f : ShimFault). Fails s region look f) (sym gives.3) (unwritten s.before.clock made.place gives.1 gives.2 stamped)
  fails_so (Ok made) (inr none) gives = let no : ◌≡◌ {A = Result Made ShimFault} (Ok made) (Err NoMemory) = none.1 in absurd (cc)
  fails_so (Err refusal) asked gives =
      let same : refusal ≡ fault = let is : ◌≡◌ {A = Result Sight ShimFault} (Err fault) (Err refusal) = gives in cc in
      not_made (refuses s region false look fault (subst (λ (f : ShimFault). MayAsk s look.store (Look region look.ids false) (Err f)) same asked))

  fails_at : (before after : List Sight) (sight : Result Sight ShimFault) → Sees s look.store region look.ids sight → Keeps before after sight (Err fault) → Fails s region look fault
  fails_at before after (Ok sight) seen kept = let no : ◌≡◌ {A = Result (Unit {0}) ShimFault} (Err fault) (Ok tt) = kept.0 in absurd (cc)
  fails_at before after (Err told_fault) seen kept =
      let same : told_fault ≡ fault = let is : ◌≡◌ {A = Result (Unit {0}) ShimFault} (Err fault) (Err told_fault) = kept.0 in cc in
      let told : Sees s look.store region look.ids (Err fault) = subst (λ (f : ShimFault). Sees s look.store region look.ids (Err f)) same seen in
      fails_so told.outcome told.asked told.gives

  pub fails : {before after : List Sight} → LooksOnce s region look before after (Err fault) → Fails s region look fault
  fails {before} {after} l = fails_at before after l.sight l.seen l.kept

-- the barrier's answer to it
module _ {s : Step} {region : ℕ} {planned : List PlannedLook} {given sights : List Sight} {i : ℕ} {look : PlannedLook} (t : Turn s region planned given sights i look) where
  abbrev pub Tells : (ℕ → View) → Caller → List Sight → BarrierAnswer → Type 0
  Tells new next after answer = BarrierGives (whole s new next) region planned (unseen given planned) after answer × (sights_after answer after ≡ after)

  pub turn_gives : {fault : ShimFault} (new : ℕ → View) (next : Caller) (after : List Sight) → Fails (last s new next) region look fault → (answer : BarrierAnswer) → IsRefusal fault answer → Tells new next after answer
  turn_gives new next after (not_made (refused {refusal} at)) answer is =
      let one = the_look t next.clock (port.Refused refusal) at in
      subst (Tells new next after) (sym is) (
        (
          one,
          λ not_yet. misses (whole s new next) region look (is_right t) next.clock (subst (λ (r : Refusal). IsLookedAt (whole s new next) region false look next.clock (port.Refused r)) not_yet one.looked),
        ),
        refl,
      )
  turn_gives new next after (not_made (wanting at others)) answer is =
      subst (Tells new next after) (sym is) (not_refused_more t others (wanted (the_look t next.clock port.NoMemory at) refl), refl)
  turn_gives new next after (not_made (not_asked none)) answer is =
      subst (Tells new next after) (sym is) (idle_more s new next none (λ x. (o : ℕ) → NotRefused x region (unseen given planned) o) t.not_refused, refl)
  turn_gives new next after (unwritten {id} clock place missing further at) answer is =
      let named = the_look t clock (port.Made place next.clock (Missing missing (id ∷ further))) at in
      subst (Tells new next after) (sym is) (record { clock = clock; place = place; missing = missing; further = further; look = named }, refl)

-- only a fault that says so is answered as not ready
pub not_refused_so : (fault : ShimFault) (answer : BarrierAnswer) → IsRefusal fault answer → (fault ≡ Refused NotYet → ⊥) → answer ≡ answers.Refused NotYet → ⊥
not_refused_so (Refused refusal) answer is other said =
    let same : answers.Refused refusal ≡ answers.Refused NotYet = sym is ∙ said in
    let which : refusal ≡ NotYet = cc in
    other (ap Refused which)
not_refused_so (Unwritten id) answer is other said = let no : answers.Unwritten id ≡ answers.Refused NotYet = sym is ∙ said in absurd (cc)
not_refused_so (LineageFull id) answer is other said = is
not_refused_so NoMemory answer is other said = let no : answers.NoMemory ≡ answers.Refused NotYet = sym is ∙ said in absurd (cc)
