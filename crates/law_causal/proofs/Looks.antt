-- The looks of a legal trace: what they ask for and where, how one follows another, and that those of a barrier or a dry run leave out nothing
-- that is carried.
use Rattle.std.proofs.Common.{◌≡◌, ℕ, zero, suc, ◌<◌, ◌==◌, ◌&&◌, ◌||◌, ◌++◌, ◌⊎◌, Bool, true, List, [], ◌∷◌, length, length-append, map, refl, sym, ap, ap₂, ◌∙◌, subst, eqb-true, inl, inr, arith}
use Rattle.std.specs.Prelude.{Option, Some, None, slice_get, take, drop, option_and_then}
use Rattle.std.proofs.lemmas.Bool.{and_from, and_parts, cases_order, or_cases}
use Rattle.anti_ids.specs.Ids.{has_id, ids_of}
use Rattle.anti_ids.specs.declared.id.WriteId.{WriteId}
use Rattle.anti_ids.proofs.IdLemmas.{has_id-ids_of}
use Rattle.anti_kind.specs.declared.actor.Actor.{Actor}
use Rattle.anti_kind.specs.declared.call.Call.{Call}
use Rattle.anti_kind.specs.declared.call.Call.TheVariants as calls
use Rattle.anti_kind.specs.declared.entry.Entry.{Entry}
use Rattle.anti_shim.specs.declared.looks.PlannedLook.{PlannedLook}
use Rattle.anti_shim.specs.Plans.{plan}
use Rattle.anti_app.specs.declared.app.App.{App}
use Rattle.anti_app.specs.Objects.{is_store_here, region_of, stores_here}
use Rattle.anti_proc.specs.declared.task.Task.{Task}
use Rattle.anti_proc.specs.Barriers.{AllLookInARow, is_asked, next_look}
use Rattle.anti_proc.specs.Looks.{is_look}
use Rattle.anti_proc.specs.Carrying.{HandsOn, IsMadeIn}
use Rattle.anti_proc.specs.Meaning.{process_after, reply_of, tree_of}
use Rattle.anti_proc.specs.Tasks.{task_of}
use Rattle.anti_proc.specs.Trees.{Tree, Ask, Asks, Ends, after, ask_of}
use Rattle.anti_proc.proofs.InARow.{process_looks}
use Rattle.anti_proc.proofs.LooksAreDue.{AreDue, FollowsLook, IsDue, LooksAreDue, process_due}
use Rattle.anti_proc.proofs.Plans.{among_here, asked_of}
use Rattle.anti_trace.specs.Legal.{GoAlong, IsLegalTrace}
use Rattle.anti_trace.specs.Traces.{entries_by, is_by}
use Rattle.anti_trace.proofs.Puts.{same_actor_itself}
use Rattle.law_causal.specs.Words.{hands_all, reads}
use Rattle.law_causal.specs.Carried.{ask_at, carried_at}
use Rattle.law_causal.specs.Settled.{AskedFor, is_dry_look, left_at, region_named}
use Rattle.law_causal.proofs.Lists.{kept_between, kept_in_front, same_at}
use Rattle.law_causal.proofs.Places.{made_at}
use Rattle.law_causal.proofs.Processes.{IsAsked, asking, at_home, carried_is, handed, hands_asked, tree_asks}

-- ---- trees

-- the last call before so many replies
abbrev pub last_ask : Option Ask → Tree → List Entry → Option Ask
last_ask last tree [] = last
last_ask last (Asks ask go) (e ∷ es) = last_ask (Some ask) (go e.reply) es
last_ask last (Ends end) (e ∷ es) = last_ask last (Ends end) es

due_after : (app : App) (tree : Tree) (es : List Entry) (last : Option Ask) (ask : Ask) → LooksAreDue app last tree
    → ask_of (after tree (map reply_of es)) ≡ Some ask → IsDue app (last_ask last tree es) ask ask.left ask.call
due_after app (Asks first go) [] last ask due is = let same : first ≡ ask = cc in subst (λ (a : Ask). IsDue app last a a.left a.call) same due.0
due_after app (Asks first go) (e ∷ es) last ask due is = due_after app (go e.reply) es (Some first) ask (due.1 e.reply) is
due_after app (Ends end) [] last ask due is = absurd (cc)
due_after app (Ends end) (e ∷ es) last ask due is = due_after app (Ends end) es last ask tt is

-- the entry of the last call
record IsLast (tree : Tree) (es : List Entry) (ask : Ask) : Type 0 where
  front : List Entry
  entry : Entry
  cut : es ≡ front ++ entry ∷ []
  asked : ask_of (after tree (map reply_of front)) ≡ Some ask

last_entry : (tree : Tree) (es : List Entry) (last : Option Ask) (ask : Ask) → GoAlong tree es → last_ask last tree es ≡ Some ask
    → ((es ≡ []) × (last ≡ Some ask)) ⊎ IsLast tree es ask
last_entry tree [] last ask along is = inl (refl, is)
last_entry (Asks first go) (e ∷ es) last ask along is =
    elim (last_entry (go e.reply) es (Some first) ask along.3 is) [
      | inl none ↦ inr (record { front = []; entry = e; cut = ap (λ rest. e ∷ rest) none.0; asked = none.1 })
      | inr further ↦ inr (record { front = e ∷ further.front; entry = further.entry; cut = ap (λ rest. e ∷ rest) further.cut; asked = further.asked })
    ]
last_entry (Ends end) (e ∷ es) last ask along is = absurd along

-- behind a look that leaves further ones comes the first of them
row_after : (tree : Tree) (es : List Entry) (e : Entry) (ask : Ask) (first : PlannedLook) (later : List PlannedLook) → AllLookInARow tree
    → ask_of (after tree (map reply_of es)) ≡ Some ask → ask.left ≡ Some (first ∷ later)
    → ask_of (after tree (map reply_of (es ++ e ∷ []))) ≡ Some (next_look ask first later)
row_after (Asks asked go) [] e ask first later row is left =
    let same : asked ≡ ask = cc in
    let its : asked.left ≡ Some (first ∷ later) = ap (λ (a : Ask). a.left) same ∙ left in
    row.0.next first later its e.reply ∙ ap (λ (a : Ask). Some (next_look a first later)) same
row_after (Asks asked go) (x ∷ xs) e ask first later row is left = row_after (go x.reply) xs e ask first later (row.1 x.reply) is left
row_after (Ends end) [] e ask first later row is left = absurd (cc)
row_after (Ends end) (x ∷ xs) e ask first later row is left = row_after (Ends end) xs e ask first later tt is left

-- ---- regions

-- whether a call is made in a region
abbrev pub is_regional : Call → Bool
is_regional call = reads call || is_look call

home_region : (home : ℕ) (call : Call) → IsMadeIn home call → is_regional call ≡ true → region_named call ≡ home
home_region home (calls.Read region key) made is = made
home_region home (calls.Scan region prefix) made is = made
home_region home (calls.Poll region key) made is = made
home_region home (calls.Look region ids dry) made is = made
home_region home call made is = absurd (cc)

regional_hands : (call : Call) → is_regional call ≡ true → hands_all call ≡ true
regional_hands (calls.Read region key) is = refl
regional_hands (calls.Scan region prefix) is = refl
regional_hands (calls.Poll region key) is = refl
regional_hands (calls.Look region ids dry) is = refl
regional_hands call is = absurd (cc)

-- ---- looks

-- a look for other ids, as the one that it is of the same barrier or dry run with
pub as_asked : (c : Call) (region : ℕ) (others : List WriteId) (dry : Bool) → c ≡ calls.Look region others dry → (ids : List WriteId)
    → calls.Look (region_named c) ids (is_dry_look c) ≡ calls.Look region ids dry
as_asked c region others dry is ids = ap (λ (k : Call). calls.Look (region_named k) ids (is_dry_look k)) is

-- Between the last of what an actor did before a place, and this place, stands nothing of its own.
none_between : (trace : List Entry) (who : Actor) (i : ℕ) (a : Entry) (j : ℕ) → slice_get trace i ≡ Some a → a.actor ≡ who
    → entries_by who (take j trace) ≡ entries_by who (take i trace) ++ a ∷ []
    → (k : ℕ) (d : Entry) → i < k → k < j → slice_get trace k ≡ Some d → d.actor ≡ who → ⊥
none_between trace who i a j there own is k d after before at by =
    let first = kept_between (is_by who) trace i k a there (by_it a own) after in
    let second = kept_between (is_by who) trace k j d at (by_it d by) before in
    let one = ap length first.1 ∙ length-append (entries_by who (take i trace)) (a ∷ first.0) in
    let other = ap length second.1 ∙ length-append (entries_by who (take k trace)) (d ∷ second.0) in
    let all = ap length is ∙ length-append (entries_by who (take i trace)) (a ∷ []) in
    omega (arith, one, other, all)
  where
    by_it : (e : Entry) → e.actor ≡ who → is_by who e ≡ true
    by_it e own = ap (λ b. is_by b e) (sym own) ∙ same_actor_itself e.actor

-- The look before the one at place j, of the same barrier or dry run. These are the looks that are left after it, and the process does
-- nothing between the two.
pub record LookBefore (app : App) (trace : List Entry) (j : ℕ) (e : Entry) (region : ℕ) (dry : Bool) (looks : List PlannedLook) : Type 0 where
  pub place : ℕ
  pub entry : Entry
  pub early : place < j
  pub there : slice_get trace place ≡ Some entry
  pub ids : List WriteId
  pub call : entry.call ≡ calls.Look region ids dry
  pub left : left_at app trace place entry ≡ Some looks
  pub actor : entry.actor ≡ e.actor
  pub span : entry.span ≡ e.span
  pub carried : carried_at app trace place entry ≡ carried_at app trace j e
  pub next : (k : ℕ) (d : Entry) → place < k → k < j → slice_get trace k ≡ Some d → d.actor ≡ e.actor → ⊥

-- what is planned asks for each id that is carried and here
pub planned_for : (app : App) (region : ℕ) (ids : List WriteId) (w : WriteId) → has_id w ids ≡ true → is_store_here app region w.store ≡ true
    → is_asked w (plan (stores_here app region) ids) ≡ true
planned_for app region ids w has here =
    asked_of w (stores_here app region) ids
    ∙ ap (λ (b : Bool). b && has_id w ids) (among_here region 0 w.store w.store app.stores.items (omega arith))
    ∙ and_from (is_store_here app region w.store) (has_id w ids) here has

left_is : (app : App) (trace : List Entry) (j : ℕ) (e : Entry) (a : IsAsked app trace j e) → left_at app trace j e ≡ a.ask.left
left_is app trace j e a = ap (λ found. option_and_then (λ (ask : Ask). ask.left) found) a.asked

module _ (app : App) (trace : List Entry) (legal : IsLegalTrace app trace) where
  -- A look asks for what is carried and is of its store.
  pub look_ids : (j : ℕ) (e : Entry) → slice_get trace j ≡ Some e → (region : ℕ) (ids : List WriteId) (dry : Bool) → e.call ≡ calls.Look region ids dry
      → ids ≡ ids_of e.object (carried_at app trace j e)
  look_ids j e at region ids dry is =
      let a : IsAsked app trace j e = hands_asked app trace legal j e at (ap hands_all is) in
      let its : HandsOn app (carried_at app trace j e) e.object (calls.Look region ids dry) =
      subst (λ c. HandsOn app (carried_at app trace j e) e.object c) is (handed app trace legal j e at a) in
      its

  -- So an id that it asks for is of its store, and carried.
  pub looked_id : (j : ℕ) (e : Entry) → slice_get trace j ≡ Some e → (region : ℕ) (ids : List WriteId) (dry : Bool) → e.call ≡ calls.Look region ids dry
      → (w : WriteId) → has_id w ids ≡ true → (has_id w (carried_at app trace j e) ≡ true) × (w.store ≡ e.object)
  looked_id j e at region ids dry is w has =
      let carried : List WriteId = carried_at app trace j e in
      let among : has_id w (ids_of e.object carried) ≡ true = sym (ap (has_id w) (look_ids j e at region ids dry is)) ∙ has in
      let parts = and_parts (has_id w carried) (w.store == e.object) (sym (has_id-ids_of w e.object carried) ∙ among) in
      (parts.0, eqb-true w.store e.object parts.1)

  -- The reads and looks of a process are made in the region of its service.
  pub region_is : (j : ℕ) (e : Entry) (at : slice_get trace j ≡ Some e) (a : IsAsked app trace j e) → is_regional e.call ≡ true
      → (task : Task) × (task_of app a.birth ≡ Some task) × (region_named e.call ≡ region_of app task.role.service)
  region_is j e at a regional =
      let home = at_home app trace legal j e at a in
      (home.0, home.1, home_region (region_of app home.0.role.service) e.call home.2 regional)

  -- a process has one birth
  pub one_birth : (i : ℕ) (d : Entry) (a : IsAsked app trace i d) (j : ℕ) (e : Entry) (b : IsAsked app trace j e) → d.actor ≡ e.actor → a.birth ≡ b.birth
  one_birth i d a j e b actor =
      let one : entries_by e.actor trace ≡ a.birth ∷ (a.later ++ entries_by e.actor (drop i trace)) =
      kept_in_front (is_by e.actor) trace i
      ∙ ap (λ es. es ++ entries_by e.actor (drop i trace)) (ap (λ who. entries_by who (take i trace)) (sym actor) ∙ a.before) in
      let other : entries_by e.actor trace ≡ b.birth ∷ (b.later ++ entries_by e.actor (drop j trace)) =
      kept_in_front (is_by e.actor) trace j ∙ ap (λ es. es ++ entries_by e.actor (drop j trace)) b.before in
      let both : a.birth ∷ (a.later ++ entries_by e.actor (drop i trace)) ≡ b.birth ∷ (b.later ++ entries_by e.actor (drop j trace)) = sym one ∙ other in
      cc

  -- So all of them are made in one region.
  pub one_region : (i : ℕ) (d : Entry) → slice_get trace i ≡ Some d → (j : ℕ) (e : Entry) → slice_get trace j ≡ Some e → d.actor ≡ e.actor
      → is_regional d.call ≡ true → is_regional e.call ≡ true → region_named d.call ≡ region_named e.call
  one_region i d first j e second actor one other =
      let a : IsAsked app trace i d = hands_asked app trace legal i d first (regional_hands d.call one) in
      let b : IsAsked app trace j e = hands_asked app trace legal j e second (regional_hands e.call other) in
      let here = region_is i d first a one in
      let there = region_is j e second b other in
      let same : Some here.0 ≡ Some there.0 = sym here.1 ∙ ap (task_of app) (one_birth i d a j e b actor) ∙ there.1 in
      let task : here.0 ≡ there.0 = cc in
      here.2 ∙ ap (λ (t : Task). region_of app t.role.service) task ∙ sym there.2

  -- what leaves looks is asked for
  leaving : (j : ℕ) (e : Entry) → slice_get trace j ≡ Some e → (looks : List PlannedLook) → left_at app trace j e ≡ Some looks
      → (a : IsAsked app trace j e) × (a.ask.left ≡ Some looks)
  leaving j e at looks left = by_ask (ask_at app trace j e) refl
    where
      by_ask : (found : Option Ask) → ask_at app trace j e ≡ found → (a : IsAsked app trace j e) × (a.ask.left ≡ Some looks)
      by_ask None is = absurd (let none : None ≡ Some looks = sym (ap (λ found. option_and_then (λ (ask : Ask). ask.left) found) is) ∙ left in cc)
      by_ask (Some ask) is = let a = (asking app trace legal j e at ask is).0 in (a, sym (left_is app trace j e a) ∙ left)

  -- Behind a look that leaves further ones the process makes the first of them.
  pub looks_on : (j : ℕ) (e : Entry) → slice_get trace j ≡ Some e → (first : PlannedLook) (later : List PlannedLook)
      → left_at app trace j e ≡ Some (first ∷ later) → (k : ℕ) (f : Entry) → f.actor ≡ e.actor
      → entries_by e.actor (take k trace) ≡ entries_by e.actor (take j trace) ++ e ∷ []
      → (a : IsAsked app trace j e) × (ask_at app trace k f ≡ Some (next_look a.ask first later))
  looks_on j e at first later left k f actor behind =
      let its = leaving j e at (first ∷ later) left in
      let a : IsAsked app trace j e = its.0 in
      let did : entries_by f.actor (take k trace) ≡ a.birth ∷ (a.later ++ e ∷ []) =
      ap (λ who. entries_by who (take k trace)) actor ∙ behind ∙ ap (λ es. es ++ e ∷ []) a.before in (
        a,
        ap (λ es. ask_of (process_after app es)) did
            ∙ row_after (tree_of app a.birth) a.later e a.ask first later (process_looks app a.birth) (tree_asks app trace j e a) its.1,
      )

  -- ---- a look among the others of its barrier

  module _ (j : ℕ) (e : Entry) (at : slice_get trace j ≡ Some e) (region : ℕ) (ids : List WriteId) (dry : Bool) (later : List PlannedLook)
      (call : e.call ≡ calls.Look region ids dry) (left : left_at app trace j e ≡ Some later) where
    -- this look, and those that are left after it
    abbrev looks_from : ℕ → List PlannedLook
    looks_from store = record { store = store; ids = ids } ∷ later

    module _ (a : IsAsked app trace j e) where
      due : AreDue app (last_ask None (tree_of app a.birth) a.later) region dry a.ask.carried a.ask.span (looks_from a.ask.object)
      due =
          let last : Option Ask = last_ask None (tree_of app a.birth) a.later in
          let its : IsDue app last a.ask a.ask.left a.ask.call =
          due_after app (tree_of app a.birth) a.later None a.ask (process_due app a.birth) (tree_asks app trace j e a) in
          let left_so : a.ask.left ≡ Some later = sym (left_is app trace j e a) ∙ left in
          let call_so : a.ask.call ≡ calls.Look region ids dry = sym a.call ∙ call in
          let same : IsDue app last a.ask a.ask.left a.ask.call ≡ IsDue app last a.ask (Some later) (calls.Look region ids dry) =
          λ i. IsDue app last a.ask (left_so i) (call_so i) in
          subst (λ (t : Type 0). t) same its

      behind : FollowsLook (last_ask None (tree_of app a.birth) a.later) region dry a.ask.carried a.ask.span (looks_from a.ask.object)
          → LookBefore app trace j e region dry (looks_from e.object)
      behind follows =
          elim (last_entry (tree_of app a.birth) a.later None follows.before a.along follows.is) [
            | inl none ↦ absurd (let is = none.1 in cc)
            | inr its ↦
                let cut = a.before ∙ ap (λ es. a.birth ∷ es) its.cut in
                let place = made_at trace e.actor j (a.birth ∷ its.front) its.entry [] cut in
                let asks : ask_at app trace place.0 its.entry ≡ Some follows.before =
                ap (λ who. ask_of (process_after app (entries_by who (take place.0 trace)))) place.3
                ∙ ap (λ es. ask_of (process_after app es)) (sym place.4) ∙ its.asked in
                let found = asking app trace legal place.0 its.entry place.2 follows.before asks in
                let b : IsAsked app trace place.0 its.entry = found.0 in
                let same : b.ask ≡ follows.before = found.1 in
                record {
                  place = place.0;
                  entry = its.entry;
                  early = place.1;
                  there = place.2;
                  ids = follows.ids;
                  call = b.call ∙ ap (λ (k : Ask). k.call) same ∙ follows.call;
                  left = left_is app trace place.0 its.entry b ∙ ap (λ (k : Ask). k.left) same ∙ follows.left
                      ∙ ap (λ store. Some (looks_from store)) (sym a.object);
                  actor = place.3;
                  span = b.span ∙ ap (λ (k : Ask). k.span) same ∙ follows.span ∙ sym a.span;
                  carried = carried_is app trace place.0 its.entry b ∙ ap (λ (k : Ask). k.carried) same ∙ follows.carried ∙ sym (carried_is app trace j e a);
                  next = none_between trace e.actor place.0 its.entry j place.2 place.3 (cut ∙ ap (λ es. es ++ its.entry ∷ []) place.4);
                }
          ]

      by_due : AreDue app (last_ask None (tree_of app a.birth) a.later) region dry a.ask.carried a.ask.span (looks_from a.ask.object)
          → (plan (stores_here app region) (carried_at app trace j e) ≡ looks_from e.object) ⊎ LookBefore app trace j e region dry (looks_from e.object)
      by_due (inl begins) = inl (ap (plan (stores_here app region)) (carried_is app trace j e a) ∙ begins ∙ ap looks_from (sym a.object))
      by_due (inr follows) = inr (behind follows)

    -- A look begins all that is planned, or a look of the same barrier stands before it, which left it.
    pub look_before : (plan (stores_here app region) (carried_at app trace j e) ≡ looks_from e.object) ⊎ LookBefore app trace j e region dry (looks_from e.object)
    look_before = let a : IsAsked app trace j e = hands_asked app trace legal j e at (ap hands_all call) in by_due a (due a)

    -- it looks itself for an id that it asks for
    looks_itself : (w : WriteId) → has_id w ids ≡ true → AskedFor app trace j e w
    looks_itself w has = record {
      place = j;
      look = e;
      there = at;
      ids = ids;
      call = call ∙ sym (as_asked e.call region ids dry call ids);
      asked = has;
      store = sym (looked_id j e at region ids dry call w has).1;
      actor = refl;
      span = refl;
      carried = refl;
      upto = omega arith;
      since = λ i d from before there own none. omega (arith, from, before);
    }

    -- what it asks for it looks for, and the others are left
    itself_or_left : (w : WriteId) → is_asked w (looks_from e.object) ≡ true → (is_asked w later ≡ true) ⊎ AskedFor app trace j e w
    itself_or_left w asked = elim (or_cases (has_id w ids) (is_asked w later) asked) [ inl own ↦ inr (looks_itself w own) | inr left ↦ inl left ]

  module _ (region : ℕ) (dry : Bool) (w : WriteId) where
    -- what the look before looked for
    looked_before : (j : ℕ) (e : Entry) (ids : List WriteId) → e.call ≡ calls.Look region ids dry → (first : PlannedLook) (later : List PlannedLook)
        → (b : LookBefore app trace j e region dry (first ∷ later)) → AskedFor app trace b.place b.entry w → AskedFor app trace j e w
    looked_before j e ids call first later b l = record {
      place = l.place;
      look = l.look;
      there = l.there;
      ids = l.ids;
      call = l.call ∙ as_asked b.entry.call region b.ids dry b.call l.ids ∙ sym (as_asked e.call region ids dry call l.ids);
      asked = l.asked;
      store = l.store;
      actor = l.actor ∙ b.actor;
      span = l.span ∙ b.span;
      carried = l.carried ∙ b.carried;
      upto = let one = l.upto in let other = b.early in omega arith;
      since = λ i d from before at own none. elim (cases_order i b.place) [
        | inl here ↦
            let same = same_at trace b.place d b.entry (ap (slice_get trace) (sym here) ∙ at) b.there in
            let ended : Some (first ∷ later) ≡ Some [] = sym b.left ∙ sym (ap₂ (left_at app trace) here same) ∙ none in
            absurd (cc)
        | inr (inl before_it) ↦ l.since i d from before_it at (own ∙ sym b.actor) none
        | inr (inr behind_it) ↦ b.next i d behind_it before at own
      ];
    }

    -- An id that is planned to be looked for was looked for, or is left.
    looked_or_left : (n j : ℕ) → j < n → (e : Entry) → slice_get trace j ≡ Some e → (ids : List WriteId) (later : List PlannedLook)
        → e.call ≡ calls.Look region ids dry → left_at app trace j e ≡ Some later → is_asked w (plan (stores_here app region) (carried_at app trace j e)) ≡ true
        → (is_asked w later ≡ true) ⊎ AskedFor app trace j e w
    looked_or_left zero j below e at ids later call left asked = absurd (omega arith)
    looked_or_left (suc n) j below e at ids later call left asked =
        elim (look_before j e at region ids dry later call left) [
          | inl begins ↦ itself_or_left j e at region ids dry later call left w (sym (ap (is_asked w) begins) ∙ asked)
          | inr b ↦
              let early = b.early in
              let planned : is_asked w (plan (stores_here app region) (carried_at app trace b.place b.entry)) ≡ true =
              ap (λ ids. is_asked w (plan (stores_here app region) ids)) b.carried ∙ asked in
              elim (looked_or_left n b.place (omega arith) b.entry b.there b.ids (record { store = e.object; ids = ids } ∷ later) b.call b.left planned) [
                | inl further ↦ itself_or_left j e at region ids dry later call left w further
                | inr looked ↦ inr (looked_before j e ids call (record { store = e.object; ids = ids }) later b looked)
              ]
        ]

  -- With the last look of a barrier or a dry run all that is carried, of stores with a replica in the region, was looked for.
  pub all_looked : (j : ℕ) (e : Entry) → slice_get trace j ≡ Some e → (region : ℕ) (ids : List WriteId) (dry : Bool) → e.call ≡ calls.Look region ids dry
      → left_at app trace j e ≡ Some [] → (w : WriteId) → has_id w (carried_at app trace j e) ≡ true → is_store_here app region w.store ≡ true
      → AskedFor app trace j e w
  all_looked j e at region ids dry call left w has here =
      elim (looked_or_left region dry w (suc j) j (omega arith) e at ids [] call left (planned_for app region (carried_at app trace j e) w has here)) [
        | inl none ↦ absurd (cc)
        | inr looked ↦ looked
      ]
