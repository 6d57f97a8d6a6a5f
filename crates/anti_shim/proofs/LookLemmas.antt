-- Looks at one store, as its table says, and with a step before them.
use Rattle.std.proofs.Common.{◌≡◌, ⊎_elim, inl, inr, ℕ, suc, ◌+◌, ◌≤◌, Bool, true, false, not, cond, ◌&&◌, ◌||◌, List, [], ◌∷◌, length, get_or, filter, refl, ap, sym, ◌∙◌, subst, ◌==◌, eq-eqb, arith}
use Rattle.std.specs.Prelude.{Contains, Option, None, Some, Result, Ok, Err}
use Rattle.std.specs.List.{list_all}
use Rattle.std.proofs.lemmas.Bool.{and_parts, and_cases, or_cases, cases_eq}
use Rattle.std.proofs.lemmas.List.Folds.{list_any_at}
use Rattle.anti_ids.specs.declared.id.WriteId.{WriteId}
use Rattle.anti_ids.specs.Ids.{has_id}
use Rattle.anti_ids.proofs.IdLemmas.{among_filter}
use Rattle.anti_kind.specs.declared.asking.Asking.{Asking}
use Rattle.anti_kind.specs.declared.call.Call.TheVariants.{Look}
use Rattle.anti_kind.specs.declared.call.Reply.{Reply}
use Rattle.anti_kind.specs.declared.call.Reply.TheVariants.{Missing}
use Rattle.anti_kind.specs.declared.entry.Entry.{Entry}
use Rattle.anti_kind.specs.declared.port.Answer.{Answer}
use Rattle.anti_kind.specs.declared.port.Answer.TheVariants as port
use Rattle.anti_kind.specs.declared.refusal.Refusal.{Refusal}
use Rattle.anti_kind.specs.declared.refusal.Refusal.TheVariants.{NotYet}
use Rattle.anti_kind.specs.Store.{Store, is_replica, is_visible, is_written, can_look}
use Rattle.anti_kind.specs.Objects.{Start, store, inbox, Follows}
use Rattle.anti_kind.specs.Ports.{View, Answered}
use Rattle.anti_kind.specs.Entries.{entry_of}
use Rattle.anti_shim.specs.declared.caller.Caller.{Caller}
use Rattle.anti_shim.specs.declared.caller.Made.{Made}
use Rattle.anti_shim.specs.declared.fault.ShimFault.{ShimFault}
use Rattle.anti_shim.specs.declared.fault.ShimFault.TheVariants.{Refused, NoMemory}
use Rattle.anti_shim.specs.declared.looks.PlannedLook.{PlannedLook}
use Rattle.anti_shim.specs.Steps.{Step, IsIdle, asking, outcome_of, IsAsked, MayAsk, CallerAfter}
use Rattle.anti_shim.specs.Looks.{looking, IsLookedAt, SomeLook, AtMostOneLook, idle, looked, looks_at, OnlyLooks}
use Rattle.anti_shim.specs.Barriers.{Misses}
use Rattle.anti_shim.proofs.NextCall.{nothing, after_nothing, last, whole, idle_more, caller_more, one_answer, answered_made}

-- Tests and filters.

nil_first : {X : Type 0} (x : X) (others : List X) (b more : Bool) → cond (not b) (x ∷ others) others ≡ [] → (others ≡ [] → more ≡ true) → (b && more) ≡ true
nil_first x others true more e rest = rest e
nil_first x others false more e rest = absurd (cc)

-- where none fails, all pass
none_fails : {X : Type 0} (p : X → Bool) (xs : List X) → filter (λ x. not (p x)) xs ≡ [] → list_all p xs ≡ true
none_fails p [] e = refl
none_fails p (x ∷ xs) e = nil_first x (filter (λ y. not (p y)) xs) (p x) (list_all p xs) e (λ rest. none_fails p xs rest)

all_pass : {X : Type 0} (p : X → Bool) (xs : List X) → list_all p xs ≡ true → filter (λ x. not (p x)) xs ≡ []
all_pass p [] e = refl
all_pass p (x ∷ xs) e =
    let both : (p x ≡ true) × (list_all p xs ≡ true) = and_parts (p x) (list_all p xs) e in
    let rest : filter (λ y. not (p y)) xs ≡ [] = all_pass p xs both.1 in
    let first : p x ≡ true = both.0 in
    rw (first, rest) refl

contains_more : {X : Type 0} (x y : X) (xs : List X) → Contains xs y → Contains (x ∷ xs) y
contains_more x y xs c = (suc c.0, omega (arith, c.1), c.2)

-- where not all pass, one fails
one_fails : {X : Type 0} (p : X → Bool) (xs : List X) → list_all p xs ≡ false → (x : X) × Contains xs x × (p x ≡ false)
one_fails p [] e = absurd (cc)
one_fails {X = X} p (x ∷ xs) e =
    elim (and_cases (p x) (list_all p xs) e) [
      | inl here ↦ (x, (0, omega arith, refl), here)
      | inr further ↦ let more : (y : X) × Contains xs y × (p y ≡ false) = one_fails p xs further in (more.0, contains_more x more.0 xs more.1, more.2)
    ]

kept_first : {X : Type 0} (p : X → Bool) (x : X) (rest : List X) (b : Bool) → p x ≡ b → list_all p rest ≡ true → list_all p (cond b (x ∷ rest) rest) ≡ true
kept_first p x rest true is e = rw (is, e) refl
kept_first p x rest false is e = e

-- what is filtered passes
pub all_kept : {X : Type 0} (p : X → Bool) (xs : List X) → list_all p (filter p xs) ≡ true
all_kept p [] = refl
all_kept p (x ∷ xs) = kept_first p x (filter p xs) (p x) refl (all_kept p xs)

-- What the table says of a look that was made: it was ready, and named the ids that are missing and those that are unwritten.

pub record Named (region : ℕ) (ids : List WriteId) (dry : Bool) (named nobody : List WriteId) : Type 0 where
  pub start : Store
  pub history : List Entry
  pub is_ready : can_look start history region ids dry ≡ true
  pub missing_is : named ≡ filter (λ i. not (is_visible start history region i)) ids
  pub unwritten_is : nobody ≡ filter (λ i. not (is_written history i)) ids

pub named_by : (start : Option Start) (who : Caller) (object region : ℕ) (ids : List WriteId) (dry : Bool) (old new : View) (place stamp : ℕ) (named nobody : List WriteId)
    → Answered start (asking who object (Look region ids dry)) old new (port.Made place stamp (Missing named nobody)) → Named region ids dry named nobody
named_by None who object region ids dry old new place stamp named nobody a = let no : port.Made place stamp (Missing named nobody) ≡ port.Refused NotYet = a.0 in absurd (cc)
named_by (Some (store s)) who object region ids dry old new place stamp named nobody a =
    let h = a.0.0 in
    let f : Follows (store s) h (entry_of (asking who object (Look region ids dry)) a.0.1.0 place stamp (Missing named nobody)) = a.0.1.1.follows in
    let said : Missing named nobody ≡ Missing (filter (λ i. not (is_visible s h region i)) ids) (filter (λ i. not (is_written h i)) ids) = f.reply in
    record { start = s; history = h; is_ready = f.is_ready; missing_is = cc; unwritten_is = cc }
named_by (Some (inbox requests)) who object region ids dry old new place stamp named nobody a =
    let f : Follows (inbox requests) a.0.0 (entry_of (asking who object (Look region ids dry)) a.0.1.0 place stamp (Missing named nobody)) = a.0.1.1.follows in
    let no : false ≡ true = f.is_ready in
    absurd (cc)

-- a look names ids that were asked for
pub named_part : (region : ℕ) (ids : List WriteId) (dry : Bool) (named nobody : List WriteId) → Named region ids dry named nobody → (id : WriteId) → has_id id named ≡ true → has_id id ids ≡ true
named_part region ids dry named nobody n id has =
    among_filter (λ (i : WriteId). not (is_visible n.start n.history region i)) ids id (subst (λ (xs : List WriteId). has_id id xs ≡ true) n.missing_is has)

-- a look that is not dry and named nothing as unwritten named nothing as missing
clear : (region : ℕ) (ids named : List WriteId) → Named region ids false named [] → named ≡ []
clear region ids named n =
    let s = n.start in
    let h = n.history in
    let own = and_parts (is_replica s region) (list_all (λ id. id.store == s.number) ids && (false || (list_all (is_visible s h region) ids || not (list_all (is_written h) ids)))) n.is_ready in
    let seen = and_parts (list_all (λ id. id.store == s.number) ids) (list_all (is_visible s h region) ids || not (list_all (is_written h) ids)) own.1 in
    let written : list_all (is_written h) ids ≡ true = none_fails (is_written h) ids (sym n.unwritten_is) in
    n.missing_is ∙ all_pass (is_visible s h region) ids
    (elim (or_cases (list_all (is_visible s h region) ids) (not (list_all (is_written h) ids)) seen.1) [ inl visible ↦ visible | inr not_all ↦ absurd (cc) ])

pub see_clear : (s : Step) (object region : ℕ) (ids : List WriteId) (made : Made) (named nobody : List WriteId)
    → IsAsked s object (Look region ids false) (Ok made) → made.reply ≡ Missing named nobody → nobody ≡ [] → made.reply ≡ Missing [] []
see_clear s object region ids made named nobody asked said none =
    let reply : made.reply ≡ Missing named [] = said ∙ ap (λ (xs : List WriteId). Missing named xs) none in
    let answered = subst (λ (r : Reply). Answered (s.starts object) (asking s.before object (Look region ids false)) (s.old object) (s.new object) (port.Made made.place made.stamp r)) reply
    (answered_made s object (Look region ids false) made asked) in
    let named_here = named_by (s.starts object) s.before object region ids false (s.old object) (s.new object) made.place made.stamp named [] answered in
    reply ∙ ap (λ (xs : List WriteId). Missing xs []) (clear region ids named named_here)

-- A planned look whose ids are of its store, where the store has a replica.
pub record IsRight (starts : ℕ → Option Start) (region : ℕ) (look : PlannedLook) : Type 0 where
  pub start : Store
  pub is_start : starts look.store ≡ Some (store start)
  pub number : start.number ≡ look.store
  pub replica : is_replica start region ≡ true
  pub own : list_all (λ id. id.store == look.store) look.ids ≡ true

-- a look for these ids there that is not ready: an id is not visible
hidden_id : (s : Store) (h : List Entry) (g : ℕ) (ids : List WriteId) → is_replica s g ≡ true → list_all (λ id. id.store == s.number) ids ≡ true
    → can_look s h g ids false ≡ false → (id : WriteId) × Contains ids id × (is_visible s h g id ≡ false)
hidden_id s h g ids replica own refused =
    one_fails (is_visible s h g) ids (neither (is_replica s g) (list_all (λ id. id.store == s.number) ids) (list_all (is_visible s h g) ids) (list_all (is_written h) ids) replica own refused)
  where
    neither : (a b c d : Bool) → a ≡ true → b ≡ true → (a && (b && (false || (c || not d)))) ≡ false → c ≡ false
    neither a b true d x y e = let on : (a && (b && true)) ≡ true = rw (x, y) refl in absurd (cc)
    neither a b false d x y e = refl

module _ (s : Step) (region : ℕ) (look : PlannedLook) (right : IsRight s.starts region look) (clock : ℕ) where
  -- the answer that such a look is not ready, with its store
  not_ready : (dry : Bool) → IsLookedAt s region dry look clock (port.Refused NotYet)
      → Answered (Some (store right.start)) (looking s.before region dry look clock) (s.old look.store) (s.new look.store) (port.Refused NotYet)
  not_ready dry a = subst (λ (x : Option Start). Answered x (looking s.before region dry look clock) (s.old look.store) (s.new look.store) (port.Refused NotYet)) right.is_start a

  own_ids : list_all (λ id. id.store == right.start.number) look.ids ≡ true
  own_ids = rw right.number right.own

  pub misses : IsLookedAt s region false look clock (port.Refused NotYet) → Misses s region look
  misses a =
      let refused = not_ready false a in
      let hidden = hidden_id right.start (s.new look.store).seen region look.ids right.replica own_ids refused.0.1 in
      record {
        start = right.start;
        is_start = right.is_start;
        visits = refused.0.0.visits;
        id = hidden.0;
        planned = hidden.1;
        hidden = hidden.2;
      }

  -- a dry look is ready
  pub never_not_yet : IsLookedAt s region true look clock (port.Refused NotYet) → ⊥
  never_not_yet a = ready_dry (is_replica right.start region) (list_all (λ id. id.store == right.start.number) look.ids) right.replica own_ids (not_ready true a).0.1
    where
      ready_dry : (a b : Bool) → a ≡ true → b ≡ true → (a && (b && true)) ≡ false → ⊥
      ready_dry a b x y e = let on : (a && (b && true)) ≡ true = rw (x, y) refl in absurd (cc)

-- How many entries there are more.

a_look : (looks : List PlannedLook) (look : PlannedLook) (o : ℕ) → Contains looks look → look.store ≡ o → looks_at o looks ≡ 1
a_look looks look o there is =
    let at : (get_or looks there.0 look).store ≡ o = ap (λ (l : PlannedLook). l.store) there.2 ∙ is in
    ap (λ (b : Bool). cond b 1 0) (list_any_at (λ (l : PlannedLook). l.store == o) looks there.0 look there.1 (eq-eqb (get_or looks there.0 look).store o at))

made_bound : (s : Step) (region : ℕ) (dry : Bool) (looks : List PlannedLook) (o : ℕ) → AtMostOneLook s region dry looks o → length (s.new o).made ≤ length (s.old o).made + looks_at o looks
made_bound s region dry looks o (idle same) = let e : length (s.new o).made ≡ length (s.old o).made = ap (λ (v : View). length v.made) same in omega arith
made_bound s region dry looks o (looked {clock} {answer} l here) =
    let one : length (s.new l.look.store).made ≤ length (s.old l.look.store).made + 1 =
    one_answer (s.starts l.look.store) (looking s.before region dry l.look clock) (s.old l.look.store) (s.new l.look.store) answer l.looked in
    let at : length (s.new o).made ≤ length (s.old o).made + 1 = subst (λ (n : ℕ). length (s.new n).made ≤ length (s.old n).made + 1) here one in
    omega (arith, a_look looks l.look o l.planned here)

-- Only looks.

pub only_looks : (s : Step) (region : ℕ) (dry : Bool) (looks : List PlannedLook) → ((o : ℕ) → AtMostOneLook s region dry looks o) → CallerAfter s → OnlyLooks s region dry looks
only_looks s region dry looks each caller = record { once = each; made = λ o. made_bound s region dry looks o (each o); caller = caller }

pub no_looks : (starts : ℕ → Option Start) (views : ℕ → View) (who : Caller) (region : ℕ) (dry : Bool) (looks : List PlannedLook) → OnlyLooks (nothing starts views who) region dry looks
no_looks starts views who region dry looks = only_looks (nothing starts views who) region dry looks (λ o. idle refl) (after_nothing starts views who)

-- One look more, at a store that was as it was.

module _ (s : Step) (new : ℕ → View) (next : Caller) (region : ℕ) (dry : Bool) where
  pub looked_whole : (look : PlannedLook) (clock : ℕ) (answer : Answer) → s.new look.store ≡ s.old look.store → CallerAfter s
      → IsLookedAt (last s new next) region dry look clock answer → IsLookedAt (whole s new next) region dry look clock answer
  looked_whole look clock answer same caller at =
      let actor : s.after.actor ≡ s.before.actor = caller.actor in
      let span : s.after.span ≡ s.before.span = caller.span in
      let asks : looking s.after region dry look clock ≡ looking s.before region dry look clock = cc in
      subst (λ (q : Asking). Answered (s.starts look.store) q (s.old look.store) (new look.store) answer) asks
      (subst (λ (v : View). Answered (s.starts look.store) (looking s.after region dry look clock) v (new look.store) answer) same at)

  -- a look at an object that is as it was
  abbrev pub look_stays : (looks : List PlannedLook) (o clock : ℕ) (answer : Answer) → new o ≡ s.new o → (l : SomeLook s region dry looks clock answer) → l.look.store ≡ o → SomeLook (whole s new next) region dry looks clock answer
  look_stays looks o clock answer same l here =
      let there : s.new l.look.store ≡ new l.look.store = sym (subst (λ (n : ℕ). new n ≡ s.new n) (sym here) same) in
      record {
        look = l.look;
        planned = l.planned;
        looked = subst (λ (v : View). Answered (s.starts l.look.store) (looking s.before region dry l.look clock) (s.old l.look.store) v answer) there l.looked;
      }

  at_most_same : (looks : List PlannedLook) (o : ℕ) → new o ≡ s.new o → AtMostOneLook s region dry looks o → AtMostOneLook (whole s new next) region dry looks o
  at_most_same looks o same (idle untouched) = idle (same ∙ untouched)
  at_most_same looks o same (looked {clock} {answer} l here) = looked (look_stays looks o clock answer same l here) here

  looks_more : (looks : List PlannedLook) (look : PlannedLook) (outcome : Result Made ShimFault) → Contains looks look → s.new look.store ≡ s.old look.store → CallerAfter s
      → MayAsk (last s new next) look.store (Look region look.ids dry) outcome
      → ((o : ℕ) → AtMostOneLook s region dry looks o) → (o : ℕ) → AtMostOneLook (whole s new next) region dry looks o
  looks_more looks look outcome planned same caller (inl asked) so_far o =
      ⊎_elim (λ (here : look.store ≡ o). looked (record { look = look; planned = planned; looked = looked_whole look s.after.clock asked.answer same caller asked.answered }) here)
      (λ (off : look.store ≡ o → ⊥). at_most_same looks o (asked.others o (λ is. off (sym is))) (so_far o))
      (cases_eq look.store o)
  looks_more looks look outcome planned same caller (inr none) so_far o = idle_more s new next none.0 (λ x. AtMostOneLook x region dry looks o) (so_far o)

  pub only_more : (looks : List PlannedLook) (look : PlannedLook) (outcome : Result Made ShimFault) → Contains looks look → s.new look.store ≡ s.old look.store
      → MayAsk (last s new next) look.store (Look region look.ids dry) outcome → OnlyLooks s region dry looks → OnlyLooks (whole s new next) region dry looks
  only_more looks look outcome planned same asked only =
      only_looks (whole s new next) region dry looks (looks_more looks look outcome planned same only.caller asked only.once)
      (caller_more s new next look.store (Look region look.ids dry) same only.caller outcome asked)

-- Looks that were refused, or of which there was no memory: the last stamp of the caller is still what it was.

pub data Refuses (s : Step) (region : ℕ) (dry : Bool) (look : PlannedLook) : ShimFault → Type 0 where
  refused : {refusal : Refusal} → IsLookedAt s region dry look s.after.clock (port.Refused refusal) → Refuses s region dry look (Refused refusal)
  wanting : IsLookedAt s region dry look s.after.clock port.NoMemory → ((o : ℕ) → (o ≡ look.store → ⊥) → s.new o ≡ s.old o) → Refuses s region dry look NoMemory
  not_asked : IsIdle s → Refuses s region dry look NoMemory

module _ (s : Step) (region : ℕ) (dry : Bool) (look : PlannedLook) (fault : ShimFault) where
  refuses_so : (a : Answer) → ◌≡◌ {A = Result Made ShimFault} (Err fault) (outcome_of a) → IsLookedAt s region dry look s.after.clock a
      → ((o : ℕ) → (o ≡ look.store → ⊥) → s.new o ≡ s.old o) → Refuses s region dry look fault
  refuses_so (port.Made place stamp reply) is at others = absurd (cc)
  refuses_so (port.Refused refusal) is at others = let e : Refused refusal ≡ fault = cc in subst (λ (f : ShimFault). Refuses s region dry look f) e (refused at)
  refuses_so port.NoMemory is at others = let e : NoMemory ≡ fault = cc in subst (λ (f : ShimFault). Refuses s region dry look f) e (wanting at others)

  pub refuses : MayAsk s look.store (Look region look.ids dry) (Err fault) → Refuses s region dry look fault
  refuses (inl asked) = refuses_so asked.answer asked.outcome_is (subst (λ (n : ℕ). IsLookedAt s region dry look n asked.answer) (ap (λ (c : Caller). c.clock) (sym asked.caller)) asked.answered) asked.others
  refuses (inr none) =
      let e : NoMemory ≡ fault = let is : ◌≡◌ {A = Result Made ShimFault} (Err fault) (Err NoMemory) = none.1 in cc in
      subst (λ (f : ShimFault). Refuses s region dry look f) e (not_asked none.0)
