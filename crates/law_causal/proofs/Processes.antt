-- What an entry of a legal trace is by its actor: the birth of a process, what a process asks for, or what a carrier does. And what a
-- process carries into its entries, and hands on by them.
use Rattle.std.proofs.Common.{◌≡◌, ℕ, suc, ◌==◌, ◌++◌, ◌⊎◌, Bool, true, false, List, [], ◌∷◌, map, refl, sym, ap, ◌∙◌, subst, eqb-true, inl, inr, arith}
use Rattle.std.specs.Prelude.{All, Contains, IsTrue, Option, Some, None, Result, slice_get, take, drop, unwrap_or, option_and_then, if◌then◌else◌}
use Rattle.std.specs.Option.{option_map_or}
use Rattle.std.specs.Result.{result_ok}
use Rattle.std.proofs.lemmas.List.Elements.{All-filter, All-take}
use Rattle.anti_ids.specs.Ids.{has_id}
use Rattle.anti_ids.specs.List.{Listed, plain}
use Rattle.anti_ids.specs.declared.id.WriteId.{WriteId}
use Rattle.anti_kind.specs.declared.actor.Actor.{Actor}
use Rattle.anti_kind.specs.declared.actor.Actor.TheVariants.{Carrier, Process, Newborn}
use Rattle.anti_kind.specs.declared.call.Call.{Call}
use Rattle.anti_kind.specs.declared.call.Call.TheVariants as calls
use Rattle.anti_kind.specs.declared.call.Reply.{Reply}
use Rattle.anti_kind.specs.declared.call.Reply.TheVariants as replies
use Rattle.anti_kind.specs.declared.entry.Entry.{Entry}
use Rattle.anti_kind.specs.declared.message.Message.{Message}
use Rattle.anti_baggage.specs.Texts.{lineage_text}
use Rattle.anti_baggage.specs.Reading.{read_lineage}
use Rattle.anti_baggage.specs.declared.fault.BaggageFault.{BaggageFault}
use Rattle.anti_baggage.proofs.TextLaws.{states_its_lineage}
use Rattle.anti_app.specs.declared.app.App.{App}
use Rattle.anti_app.specs.declared.objects.ObjectAt.{ObjectAt}
use Rattle.anti_app.specs.declared.objects.ObjectAt.TheVariants as objects
use Rattle.anti_app.specs.Objects.{object_at, region_of, store_names}
use Rattle.anti_app.specs.Sound.{is_sound}
use Rattle.anti_app.proofs.SoundLemmas.{app_known}
use Rattle.anti_proc.specs.declared.task.Task.{Task}
use Rattle.anti_proc.specs.declared.end.BodyEnd.TheVariants.{Fine}
use Rattle.anti_proc.specs.Births.{birth_at}
use Rattle.anti_proc.specs.Brought.{brought_by, came_first, made}
use Rattle.anti_proc.specs.Carrying.{HandsOn, HandsOnWhatIsCarried, IsAtHome, IsMadeIn, OfEachCall}
use Rattle.anti_proc.specs.Known.{AllKnown, IsEntryOf, IsOverApp}
use Rattle.anti_proc.specs.Meaning.{process_after, reply_of, stated_in, task_tree, tree_of}
use Rattle.anti_proc.specs.Tasks.{role_at, task_for, task_of}
use Rattle.anti_proc.specs.Trees.{Tree, Ask, Asks, Ends, after, ask_of}
use Rattle.anti_proc.proofs.Bringing.{process_carries}
use Rattle.anti_proc.proofs.Carrying.{process_at_home, process_hands_on}
use Rattle.anti_proc.proofs.Knowing.{process_known}
use Rattle.anti_proc.proofs.Served.{stores_named}
use Rattle.anti_trace.specs.Legal.{GoAlong, IsCarried, IsLegalTrace, IsOfActor, bears, carries}
use Rattle.anti_trace.specs.Traces.{entries_by, is_by}
use Rattle.anti_trace.proofs.OfLegal.{at_cut, known_of_legal, none_cut}
use Rattle.law_causal.specs.Words.{Letter, hands_all, id_written, posts_in, wrote}
use Rattle.law_causal.specs.Causal.{is_process}
use Rattle.law_causal.specs.Carried.{Brought, ask_at, carried_at}
use Rattle.law_causal.proofs.Coming.{IsBroughtBy, by_entries, first_within}
use Rattle.law_causal.proofs.Ids.{in_either}
use Rattle.law_causal.proofs.Places.{did, made_at}

-- ---- trees

-- an entry that a process makes behind others is what it asks for then
pub ask_along : (tree : Tree) (xs : List Entry) (e : Entry) (ys : List Entry) → GoAlong tree (xs ++ e ∷ ys)
    → (ask : Ask) × (ask_of (after tree (map reply_of xs)) ≡ Some ask) × (e.object ≡ ask.object) × (e.span ≡ ask.span) × (e.call ≡ ask.call)
ask_along (Asks ask go) [] e ys along = (ask, refl, along.0, along.1, along.2)
ask_along (Ends end) [] e ys along = absurd along
ask_along (Asks ask go) (x ∷ xs) e ys along = ask_along (go x.reply) xs e ys along.3
ask_along (Ends end) (x ∷ xs) e ys along = absurd along

along_front : (tree : Tree) (xs ys : List Entry) → GoAlong tree (xs ++ ys) → GoAlong tree xs
along_front tree [] ys along = tt
along_front (Asks ask go) (x ∷ xs) ys along = (along.0, along.1, along.2, along_front (go x.reply) xs ys along.3)
along_front (Ends end) (x ∷ xs) ys along = absurd along

-- what is so of each call of a process is so of what it asks for
pub each_asked : (Is : Ask → Type 0) (tree : Tree) (rs : List Reply) (ask : Ask) → OfEachCall Is tree → ask_of (after tree rs) ≡ Some ask → Is ask
each_asked Is (Asks first go) [] ask each is = let same : first ≡ ask = cc in subst Is same each.0
each_asked Is (Asks first go) (r ∷ rs) ask each is = each_asked Is (go r) rs ask (each.1 r) is
each_asked Is (Ends end) [] ask each is = absurd (cc)
each_asked Is (Ends end) (r ∷ rs) ask each is = each_asked Is (Ends end) rs ask tt is

-- and known
known_asked : (app : App) (tree : Tree) (ask : Ask) → AllKnown app tree → ask_of tree ≡ Some ask → IsOverApp app ask.carried
known_asked app (Asks first go) ask known is = let same : first ≡ ask = cc in subst (λ (a : Ask). IsOverApp app a.carried) same known.2
known_asked app (Ends end) ask known is = absurd (cc)

-- what has ended asks for nothing
ended_asks : (tree : Tree) (rs : List Reply) (ask : Ask) → tree ≡ Ends Fine → ask_of (after tree rs) ≡ Some ask → ⊥
ended_asks (Asks first go) rs ask ended is = absurd (cc)
ended_asks (Ends end) [] ask ended is = absurd (cc)
ended_asks (Ends end) (r ∷ rs) ask ended is = ended_asks (Ends end) rs ask ended is

-- ---- calls

-- whether a call is one that a process asks for
abbrev pub acts : Call → Bool
acts (calls.Write key value lineage) = true
acts (calls.Read region key) = true
acts (calls.Scan region prefix) = true
acts (calls.Poll region key) = true
acts (calls.Look region ids dry) = true
acts (calls.Post message) = true
acts (calls.Ack version) = true
acts (calls.Nack version) = true
acts (calls.TakeReply number) = true
acts call = false

-- ---- carriers start nothing

module _ (app : App) where
  no_role : (o : ℕ) (call : Call) (reply : Reply) (found : Option ObjectAt) → carries call ≡ true → option_and_then (λ at. role_at app o at call reply) found ≡ None
  no_role o call reply None is = refl
  no_role o (calls.Ship region version part) reply (Some (objects.Store store)) is = refl
  no_role o (calls.Again region version part) reply (Some (objects.Store store)) is = refl
  no_role o (calls.Repost number) reply (Some (objects.Store store)) is = refl
  no_role o (calls.Ship region version part) reply (Some (objects.Inbox service)) is = refl
  no_role o (calls.Again region version part) reply (Some (objects.Inbox service)) is = refl
  no_role o (calls.Repost number) reply (Some (objects.Inbox service)) is = refl
  no_role o call reply (Some at) is = absurd (cc)

  starts_nothing : (e : Entry) → carries e.call ≡ true → tree_of app e ≡ Ends Fine
  starts_nothing e is =
      ap (λ role. option_map_or (task_tree app) (option_and_then (task_for app e.object e.reply) role) (Ends Fine))
      (no_role e.object e.call e.reply (object_at app e.object) is)

-- ---- what an entry is

-- the birth of its process
pub record IsBorn (trace : List Entry) (j : ℕ) (e : Entry) : Type 0 where
  pub first : entries_by e.actor (take j trace) ≡ []
  pub call : bears e.call ≡ true
  pub span : e.span ≡ 1
  pub named : e.actor ≡ Process (birth_at e)

-- what its process asks for, behind its birth and the later entries
pub record IsAsked (app : App) (trace : List Entry) (j : ℕ) (e : Entry) : Type 0 where
  pub ask : Ask
  pub asked : ask_at app trace j e ≡ Some ask
  pub object : e.object ≡ ask.object
  pub span : e.span ≡ ask.span
  pub call : e.call ≡ ask.call
  pub process : is_process e.actor ≡ true
  pub birth : Entry
  pub later : List Entry
  pub before : entries_by e.actor (take j trace) ≡ birth ∷ later
  pub bears : bears birth.call ≡ true
  pub first_span : birth.span ≡ 1
  pub along : GoAlong (tree_of app birth) later

-- it is what its process asks for then
pub tree_asks : (app : App) (trace : List Entry) (j : ℕ) (e : Entry) → (a : IsAsked app trace j e)
    → ask_of (after (tree_of app a.birth) (map reply_of a.later)) ≡ Some a.ask
tree_asks app trace j e a = sym (ap (λ es. ask_of (process_after app es)) a.before) ∙ a.asked

pub carried_is : (app : App) (trace : List Entry) (j : ℕ) (e : Entry) (a : IsAsked app trace j e) → carried_at app trace j e ≡ a.ask.carried
carried_is app trace j e a = ap (λ found. option_map_or (λ (ask : Ask). ask.carried) found []) a.asked

-- a write is one of a process, which hands in what is carried into it
pub record HandsIn (app : App) (trace : List Entry) (j : ℕ) (e : Entry) : Type 0 where
  pub process : is_process e.actor ≡ true
  pub key : List ℕ
  pub value : List ℕ
  pub lineage : List WriteId
  pub call : e.call ≡ calls.Write key value lineage
  pub carried : lineage ≡ carried_at app trace j e

-- the message that is posted states what is carried into the post
pub record PostsCarried (app : App) (trace : List Entry) (j : ℕ) (e : Entry) (m : Message) : Type 0 where
  pub process : is_process e.actor ≡ true
  pub hands : hands_all e.call ≡ true
  pub stated : stated_in app m ≡ carried_at app trace j e

module _ (app : App) (trace : List Entry) (legal : IsLegalTrace app trace) (j : ℕ) (e : Entry) (at : slice_get trace j ≡ Some e) where
  of_actor : (a : Actor) → e.actor ≡ a → (es : List Entry) → entries_by e.actor (take j trace) ≡ es → (rest : List Entry)
      → IsOfActor app a (es ++ e ∷ rest) → is_process a ≡ true → IsBorn trace j e ⊎ IsAsked app trace j e
  of_actor (Carrier number) is es before rest its process = absurd (cc)
  of_actor Newborn is es before rest its process = absurd (cc)
  of_actor (Process b) is [] before rest its process =
      inl (record { first = before; call = its.0.call; span = its.0.span; named = is ∙ ap Process (sym its.0.named) })
  of_actor (Process b) is (birth ∷ later) before rest its process =
      let found = ask_along (tree_of app birth) later e rest its.1 in
      inr (record {
        ask = found.0;
        asked = ap (λ es. ask_of (process_after app es)) before ∙ found.1;
        object = found.2;
        span = found.3;
        call = found.4;
        process = ap is_process is;
        birth = birth;
        later = later;
        before = before;
        bears = its.0.call;
        first_span = its.0.span;
        along = along_front (tree_of app birth) later (e ∷ rest) its.1;
      })

  -- An entry of a process is its birth, or what it asks for.
  pub of_process : is_process e.actor ≡ true → IsBorn trace j e ⊎ IsAsked app trace j e
  of_process process =
      of_actor e.actor refl (entries_by e.actor (take j trace)) refl (entries_by e.actor (drop (suc j) trace)) (did app trace legal j e at) process

  of_other : (a : Actor) (es : List Entry) → e.actor ≡ a → entries_by e.actor (take j trace) ≡ es → (rest : List Entry)
      → IsOfActor app a (es ++ e ∷ rest) → is_process a ≡ false → All IsCarried (es ++ e ∷ rest)
  of_other (Carrier number) es is before rest its other = its
  of_other (Process b) es is before rest its other = absurd (cc)
  of_other Newborn es is before rest its other = absurd (none_cut es e rest (sym its))

  -- all that it did, and more
  others : is_process e.actor ≡ false → All IsCarried (entries_by e.actor (take j trace) ++ e ∷ entries_by e.actor (drop (suc j) trace))
  others other =
      of_other e.actor (entries_by e.actor (take j trace)) refl refl (entries_by e.actor (drop (suc j) trace)) (did app trace legal j e at) other

  -- An entry of no process is a carrier's.
  pub of_carrier : is_process e.actor ≡ false → (carries e.call ≡ true) × (e.span ≡ 0)
  of_carrier other =
      let its : IsCarried e = at_cut IsCarried (entries_by e.actor (take j trace)) e (entries_by e.actor (drop (suc j) trace)) (others other) in
      (its.call, its.span)

  -- So a call by which no process is born, and which is not one of the carriers, is what a process asks for.
  pub is_asked : bears e.call ≡ false → carries e.call ≡ false → IsAsked app trace j e
  is_asked bears_none carries_none = by_test (is_process e.actor) refl
    where
      by_test : (t : Bool) → is_process e.actor ≡ t → IsAsked app trace j e
      by_test true process = elim (of_process process) [ inl born ↦ absurd (let is = born.call in cc) | inr asked ↦ asked ]
      by_test false other = let is = (of_carrier other).0 in absurd (cc)

  -- So are all calls that processes make, ..
  pub acting : acts e.call ≡ true → IsAsked app trace j e
  acting is = let none = by_call e.call is in is_asked none.0 none.1
    where
      by_call : (call : Call) → acts call ≡ true → (bears call ≡ false) × (carries call ≡ false)
      by_call (calls.Write key value lineage) is = (refl, refl)
      by_call (calls.Read region key) is = (refl, refl)
      by_call (calls.Scan region prefix) is = (refl, refl)
      by_call (calls.Poll region key) is = (refl, refl)
      by_call (calls.Look region ids dry) is = (refl, refl)
      by_call (calls.Post message) is = (refl, refl)
      by_call (calls.Ack version) is = (refl, refl)
      by_call (calls.Nack version) is = (refl, refl)
      by_call (calls.TakeReply number) is = (refl, refl)
      by_call call is = absurd (cc)

  -- .. and those at which one is to carry what came to it.
  pub hands_asked : hands_all e.call ≡ true → IsAsked app trace j e
  hands_asked hands = acting (by_call e.call hands)
    where
      by_call : (call : Call) → hands_all call ≡ true → acts call ≡ true
      by_call (calls.Write key value lineage) is = refl
      by_call (calls.Read region key) is = refl
      by_call (calls.Scan region prefix) is = refl
      by_call (calls.Poll region key) is = refl
      by_call (calls.Look region ids dry) is = refl
      by_call (calls.Post message) is = refl
      by_call call is = absurd (cc)

  -- Where an actor has something to ask for, its entry is that.
  pub asking : (ask : Ask) → ask_at app trace j e ≡ Some ask → (a : IsAsked app trace j e) × (a.ask ≡ ask)
  asking ask is = by_test (is_process e.actor) refl
    where
      carriers : (es rest : List Entry) → All IsCarried (es ++ e ∷ rest) → ask_of (process_after app es) ≡ Some ask → ⊥
      carriers [] rest its asked = absurd (cc)
      carriers (x ∷ xs) rest its asked =
          ended_asks (tree_of app x) (map reply_of xs) ask (starts_nothing app x (at_cut IsCarried [] x (xs ++ e ∷ rest) its).call) asked

      by_test : (t : Bool) → is_process e.actor ≡ t → (a : IsAsked app trace j e) × (a.ask ≡ ask)
      by_test true process = elim (of_process process) [
        | inl born ↦ absurd (let none : Some ask ≡ None = sym is ∙ ap (λ es. ask_of (process_after app es)) born.first in cc)
        | inr asked ↦ (asked, let same : Some asked.ask ≡ Some ask = sym asked.asked ∙ is in cc)
      ]
      by_test false other = absurd (carriers (entries_by e.actor (take j trace)) (entries_by e.actor (drop (suc j) trace)) (others other) is)

  -- where it carries something, too
  pub carrying : (w : WriteId) → has_id w (carried_at app trace j e) ≡ true → IsAsked app trace j e
  carrying w has = by_ask (ask_at app trace j e) refl
    where
      by_ask : (found : Option Ask) → ask_at app trace j e ≡ found → IsAsked app trace j e
      by_ask None is = absurd (let none : has_id w (carried_at app trace j e) ≡ false = ap (λ found. has_id w (option_map_or (λ (ask : Ask). ask.carried) found [])) is in cc)
      by_ask (Some ask) is = (asking ask is).0

  -- ---- what came

  brought_first : (a : IsAsked app trace j e) (w : WriteId) → (t : Bool) → (a.ask.span == 1) ≡ t
      → has_id w (if t then came_first app a.birth else []) ≡ true → Brought app trace j e w
  brought_first a w true first has =
      let place = made_at trace e.actor j [] a.birth a.later a.before in
      record {
        place = place.0;
        entry = a.birth;
        there = place.2;
        earlier = record {
          before = place.1;
          process = ap is_process place.3 ∙ a.process;
          actor = place.3;
          span = a.first_span ∙ sym (a.span ∙ eqb-true a.ask.span 1 first);
        };
        came = first_within app w a.birth has;
      }
  brought_first a w false first has = absurd (cc)

  brought_later : (a : IsAsked app trace j e) (w : WriteId) → IsBroughtBy app a.ask.span w a.later → Brought app trace j e w
  brought_later a w b =
      let place = made_at trace e.actor j (a.birth ∷ b.before) b.entry b.behind (a.before ∙ ap (λ es. a.birth ∷ es) b.cut) in
      record {
        place = place.0;
        entry = b.entry;
        there = place.2;
        earlier = record {
          before = place.1;
          process = ap is_process place.3 ∙ a.process;
          actor = place.3;
          span = b.span ∙ sym a.span;
        };
        came = b.came;
      }

  -- What is carried into an entry came to its span before.
  pub came : (w : WriteId) → has_id w (carried_at app trace j e) ≡ true → Brought app trace j e w
  came w has =
      let a : IsAsked app trace j e = carrying w has in
      let rs : List Reply = map reply_of a.later in
      let first : List WriteId = if a.ask.span == 1 then came_first app a.birth else [] in
      let further : List WriteId = brought_by app a.ask.span (made (tree_of app a.birth) rs) in
      let inside : has_id w a.ask.carried ≡ true = sym (ap (has_id w) (carried_is app trace j e a)) ∙ has in
      let both : has_id w (first ++ further) ≡ true = process_carries app a.birth rs a.ask (tree_asks app trace j e a) w inside in
      elim ((in_either w first further).0 both) [
        | inl here ↦ brought_first a w (a.ask.span == 1) refl here
        | inr later ↦ brought_later a w (by_entries app a.ask.span w (tree_of app a.birth) a.later a.along later)
      ]

  -- ---- what is handed on

  -- what is in its hands is what is carried into it
  pub handed : (a : IsAsked app trace j e) → HandsOn app (carried_at app trace j e) e.object e.call
  handed a =
      let its : HandsOn app a.ask.carried a.ask.object a.ask.call =
      each_asked (HandsOnWhatIsCarried app) (tree_of app a.birth) (map reply_of a.later) a.ask (process_hands_on app a.birth) (tree_asks app trace j e a) in
      let same : HandsOn app (carried_at app trace j e) e.object e.call ≡ HandsOn app a.ask.carried a.ask.object a.ask.call =
      λ i. HandsOn app (carried_is app trace j e a i) (a.object i) (a.call i) in
      subst (λ (t : Type 0). t) (sym same) its

  -- it is made in the region of its process's service
  pub at_home : (a : IsAsked app trace j e) → (task : Task) × (task_of app a.birth ≡ Some task) × IsMadeIn (region_of app task.role.service) e.call
  at_home a = by_task (task_of app a.birth) refl
    where
      by_task : (found : Option Task) → task_of app a.birth ≡ found
          → (task : Task) × (task_of app a.birth ≡ Some task) × IsMadeIn (region_of app task.role.service) e.call
      by_task None is =
          absurd (ended_asks (tree_of app a.birth) (map reply_of a.later) a.ask (ap (λ found. option_map_or (task_tree app) found (Ends Fine)) is) (tree_asks app trace j e a))
      by_task (Some task) is =
          let home : ℕ = region_of app task.role.service in
          let its : IsMadeIn home a.ask.call =
          each_asked (IsAtHome home) (tree_of app a.birth) (map reply_of a.later) a.ask (process_at_home app a.birth task is) (tree_asks app trace j e a) in
          (task, is, subst (IsMadeIn home) (sym a.call) its)

  -- A write is one of a process, which hands in what is carried into it.
  pub hands_in : (w : WriteId) → has_id w (wrote e) ≡ true → HandsIn app trace j e
  hands_in w has = by_call e.call e.reply refl has
    where
      by_call : (call : Call) (reply : Reply) → e.call ≡ call → has_id w (id_written e.object call reply) ≡ true → HandsIn app trace j e
      by_call (calls.Write key value lineage) (replies.Written name version over) is has =
          let a : IsAsked app trace j e = hands_asked (ap hands_all is) in
          let carried : HandsOn app (carried_at app trace j e) e.object (calls.Write key value lineage) =
          subst (λ c. HandsOn app (carried_at app trace j e) e.object c) is (handed a) in
          record { process = a.process; key = key; value = value; lineage = lineage; call = is; carried = carried }
      by_call call reply is has = absurd (cc)

  -- ---- messages

  module _ (sound : IsTrue (is_sound app)) where
    -- what is carried into what a process asks for is a lineage over the stores
    pub carried_known : (a : IsAsked app trace j e) → IsOverApp app (carried_at app trace j e)
    carried_known a =
        let own : All (IsEntryOf app) (entries_by e.actor (take j trace)) =
        All-filter (is_by e.actor) (IsEntryOf app) (take j trace) (All-take (IsEntryOf app) j trace (known_of_legal app trace legal sound)) in
        let all : All (IsEntryOf app) (a.birth ∷ a.later) = subst (All (IsEntryOf app)) a.before own in
        subst (IsOverApp app) (sym (carried_is app trace j e a))
        (known_asked app (process_after app (a.birth ∷ a.later)) a.ask (process_known app a.birth a.later sound all) (tree_asks app trace j e a))

    -- a message with the text of a lineage states it
    stated_again : (m : Message) (ids : List WriteId) → m.baggage ≡ plain (lineage_text (store_names app) ids) → IsOverApp app ids → stated_in app m ≡ ids
    stated_again m ids is over =
        ap (λ (text : Listed ℕ). unwrap_or (result_ok (read_lineage (store_names app) text.items)) []) is
        ∙ ap (λ (found : Result (List WriteId) BaggageFault). unwrap_or (result_ok found) [])
        (states_its_lineage (store_names app) ids (stores_named app (app_known app sound)) over)

    -- A message is posted by a process, and states what is carried into the post.
    pub posts_carried : (m : Message) → e.call ≡ calls.Post m → PostsCarried app trace j e m
    posts_carried m is =
        let hands : hands_all e.call ≡ true = ap hands_all is in
        let a : IsAsked app trace j e = hands_asked hands in
        let text : HandsOn app (carried_at app trace j e) e.object (calls.Post m) =
        subst (λ c. HandsOn app (carried_at app trace j e) e.object c) is (handed a) in
        record { process = a.process; hands = hands; stated = stated_again m (carried_at app trace j e) text (carried_known a) }

-- What is posted is a message.
pub post_of : (e : Entry) (letter : Letter) → Contains (posts_in e.call e.reply) letter → (m : Message) × (e.call ≡ calls.Post m)
post_of e letter among = by_call e.call e.reply among refl
  where
    none : Contains [] letter → ⊥
    none (i, short, is) = absurd (omega arith)

    by_call : (call : Call) (reply : Reply) → Contains (posts_in call reply) letter → e.call ≡ call → (m : Message) × (e.call ≡ calls.Post m)
    by_call (calls.Post m) reply among is = (m, is)
    by_call call reply among is = absurd (none among)
