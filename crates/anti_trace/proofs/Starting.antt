-- An entry that may come next at its object, by whose call a process is born, starts one.
use Rattle.std.proofs.Common.{◌≡◌, ℕ, ◌-◌, ◌≤◌, Bool, true, false, not, cond, List, [], ◌∷◌, length, get_or, refl, sym, ap, ◌∙◌, subst, arith, is_some, unwrap_or}
use Rattle.std.specs.Prelude.{IsTrue, Option, None, Some, nat_le, option_map, option_and_then, slice_get}
use Rattle.std.proofs.lemmas.Bool.{and_parts, leb-true, lt-ltb}
use Rattle.std.proofs.lemmas.List.Elements.{All-filter}
use Rattle.std.proofs.lemmas.Option.{slice_get-get_or}
use Rattle.anti_kind.specs.Kinds.{facts_of}
use Rattle.anti_kind.specs.declared.call.Call.{Call}
use Rattle.anti_kind.specs.declared.call.Call.TheVariants as calls
use Rattle.anti_kind.specs.declared.call.Reply.TheVariants.{Got}
use Rattle.anti_kind.specs.declared.entry.Entry.{Entry}
use Rattle.anti_kind.specs.declared.message.Message.{Message}
use Rattle.anti_kind.specs.declared.store_kind.Sub.{Sub}
use Rattle.anti_kind.specs.Inbox.{deliveries, free, got_of, handed, inbox_due, inbox_ready, is_taken, messages, numbered}
use Rattle.anti_kind.specs.Objects.{Start, store, inbox, Follows, IsLegal, due, ready}
use Rattle.anti_kind.specs.Caches.{store_with}
use Rattle.anti_kind.specs.Store.{Store, next, store_due, store_ready, was_pulled, absent, next_of}
use Rattle.anti_kind.specs.Stored.{row_of}
use Rattle.anti_kind.proofs.Deliveries.{counted}
use Rattle.anti_kind.proofs.Pulls.{no_sub_pulled}
use Rattle.anti_app.specs.declared.app.App.{App}
use Rattle.anti_app.specs.declared.app.ServiceDef.{ServiceDef}
use Rattle.anti_app.specs.declared.app.StoreDef.{StoreDef}
use Rattle.anti_app.specs.declared.app.SubDef.{SubDef}
use Rattle.anti_app.specs.declared.objects.ObjectAt.{ObjectAt}
use Rattle.anti_app.specs.declared.objects.ObjectAt.TheVariants.{Store as AStore, Inbox as AnInbox}
use Rattle.anti_app.specs.Numbers.{IsInbox, IsStore}
use Rattle.anti_app.specs.Objects.{object_at}
use Rattle.anti_app.specs.Sound.{is_sound}
use Rattle.anti_app.specs.Subs.{sub_on, subs_on}
use Rattle.anti_app.proofs.SubsOn.{sub_found}
use Rattle.anti_object.specs.Starts.{inbox_start, requests_to, start_at, start_of, store_start, room_of, tries_of}
use Rattle.anti_proc.specs.declared.task.Role.{Role}
use Rattle.anti_proc.specs.declared.task.Task.{Task}
use Rattle.anti_proc.specs.Known.{IsReplyAt}
use Rattle.anti_proc.specs.Tasks.{role_of, task_of}
use Rattle.anti_proc.proofs.Knowing.{birth_known, pulled_known, repulled_known, taken_known}
use Rattle.anti_trace.specs.Legal.{bears}
use Rattle.anti_trace.proofs.Numbers.{inbox_is, store_is}

-- ---- what an inbox hands out

-- a take that is ready gets a message
pub record Gets (requests : List Message) (h : List Entry) (nth : ℕ) : Type 0 where
  pub number : ℕ
  pub message : Message
  pub reply : inbox_due requests h (calls.Take nth) ≡ Got number message

numbered_at : {A : Type 0} (xs : List A) (n : ℕ) (d : A) → 1 ≤ n → n ≤ length xs → numbered xs n ≡ Some (get_or xs (n - 1) d)
numbered_at xs n d some few =
    ap (λ (t : Bool). cond t (slice_get xs (n - 1)) None) (lt-ltb 0 n (omega arith)) ∙ slice_get-get_or xs (n - 1) d (omega arith)

module _ (requests : List Message) (h : List Entry) (legal : IsLegal (inbox requests) h) (nth : ℕ) (is_ready : inbox_ready requests h (calls.Take nth) ≡ true) where
  -- the number of the message
  abbrev number_of : ℕ
  number_of = get_or (free requests h) (nth - 1) 0

  within : (1 ≤ nth) × (nth ≤ length (free requests h))
  within =
      let parts = and_parts (nat_le 1 nth) (nat_le nth (length (free requests h))) is_ready in
      (leb-true 1 nth parts.0, leb-true nth (length (free requests h)) parts.1)

  is_number : (1 ≤ number_of) × (number_of ≤ length (messages requests h))
  is_number =
      All-filter (λ n. not (is_taken h n)) (λ n. (1 ≤ n) × (n ≤ length (messages requests h))) (deliveries requests h) (counted requests h legal).delivered_within
      (nth - 1) 0 (let all = within in omega (arith, all.0, all.1))

  pub gets : Gets requests h nth
  gets = by_messages (messages requests h) refl
    where
      by_messages : (ms : List Message) → messages requests h ≡ ms → Gets requests h nth
      by_messages [] none = absurd (let few = is_number in let no_message : length (messages requests h) ≡ 0 = ap (λ (xs : List Message). length xs) none in omega (arith, few.0, few.1))
      by_messages (first ∷ rest) some = record {
        number = number_of;
        message = get_or (messages requests h) (number_of - 1) first;
        reply =
            ap (handed (messages requests h)) (numbered_at (free requests h) nth 0 within.0 within.1)
            ∙ ap (got_of number_of) (numbered_at (messages requests h) number_of first is_number.0 is_number.1);
      }

-- ---- what is started

-- a store that has something for a subscription to pull has the subscription
sub_with : (s : Store) (h : List Entry) (position : ℕ) → is_some (next s h position) ≡ true → (sub : Sub) × (slice_get s.subs position ≡ Some sub)
sub_with s h position some = by_sub (slice_get s.subs position) refl some
  where
    by_sub : (found : Option Sub) → slice_get s.subs position ≡ found → is_some (option_and_then (next_of (facts_of s.kind).tried (facts_of s.kind).polled s h position) found) ≡ true → (sub : Sub) × (slice_get s.subs position ≡ Some sub)
    by_sub None at some = absurd (cc)
    by_sub (Some sub) at some = (sub, at)

-- and so has one from which something was pulled
sub_of_pulled : (s : Store) (h : List Entry) (position version : ℕ) → IsLegal (store s) h → was_pulled h position version ≡ true
    → (sub : Sub) × (slice_get s.subs position ≡ Some sub)
sub_of_pulled s h position version legal was = by_sub (slice_get s.subs position) refl
  where
    by_sub : (found : Option Sub) → slice_get s.subs position ≡ found → (sub : Sub) × (slice_get s.subs position ≡ Some sub)
    by_sub None at = absurd (let both : true ≡ false = sym was ∙ no_sub_pulled s position at h legal version in cc)
    by_sub (Some sub) at = (sub, at)

module _ (app : App) (sound : IsTrue (is_sound app)) where
  module _ (h : List Entry) (e : Entry) (bearing : bears e.call ≡ true) (known : IsReplyAt app e.object e.reply) (start : Start) (legal : IsLegal start h) (follows : Follows start h e) where
    -- a handler for which there is what it needs is started
    is_started : (role : Role) → role_of app e ≡ Some role → task_of app e ≡ None → ⊥
    is_started role starts none =
        let task : (task : Task) × (task_of app e ≡ Some task) = birth_known app e role starts known in
        absurd (let both : None ≡ Some task.0 = sym none ∙ task.1 in cc)

    -- what is pulled is a known row, and so starts the handler of its subscription
    by_pull : (it : Store) → it.subs ≡ subs_on app e.object → IsStore app e.object → IsLegal (store it) h → (call : Call) → e.call ≡ call → bears call ≡ true
        → store_ready it h call ≡ true → e.reply ≡ store_due it h call → task_of app e ≡ None → ⊥
    by_pull it subs there legal_there (calls.Pull position) is bearing is_ready is_due =
        let has : (sub : Sub) × (slice_get it.subs position ≡ Some sub) = sub_with it h position is_ready in
        let def : (def : SubDef) × (sub_on app e.object position ≡ Some def) =
        sub_found app e.object position has.0 (sym (ap (λ (subs : List Sub). slice_get subs position) subs) ∙ has.1) in
        is_started _ (pulled_known app e position (unwrap_or (next it h position) (absent [])) def.0 there is is_due def.1)
    by_pull it subs there legal_there (calls.Repull position version) is bearing is_ready is_due =
        let was : was_pulled h position version ≡ true = (and_parts (facts_of it.kind).polled (was_pulled h position version) is_ready).1 in
        let has : (sub : Sub) × (slice_get it.subs position ≡ Some sub) = sub_of_pulled it h position version legal_there was in
        let def : (def : SubDef) × (sub_on app e.object position ≡ Some def) =
        sub_found app e.object position has.0 (sym (ap (λ (subs : List Sub). slice_get subs position) subs) ∙ has.1) in
        is_started _ (repulled_known app e position version (unwrap_or (row_of h version) (absent [])) def.0 there is is_due def.1)
    by_pull it subs there legal_there (calls.Take nth) is bearing is_ready is_due = absurd (cc)
    by_pull it subs there legal_there _ is bearing is_ready is_due = absurd (cc)

    at_store : IsStore app e.object → (found : Option StoreDef) → option_map (store_start app e.object) found ≡ Some start → task_of app e ≡ None → ⊥
    at_store there None is none = absurd (cc)
    at_store there (Some s) is none =
        let it : Store = store_with s.kind e.object s.replicas.items (subs_on app e.object) (tries_of s) (room_of s) in
        let same : start ≡ store it = (let both : store it ≡ start = cc in sym both) in
        by_pull it refl there (subst (λ (x : Start). IsLegal x h) same legal) e.call refl bearing
        (subst (λ (x : Start). ready x h e.call ≡ true) same follows.is_ready) (subst (λ (x : Start). e.reply ≡ due x h e.call) same follows.reply) none

    -- what is taken from an inbox is a known message, and so starts the handler that it names
    by_take : (requests : List Message) → IsInbox app e.object → IsLegal (inbox requests) h → (call : Call) → e.call ≡ call → bears call ≡ true
        → inbox_ready requests h call ≡ true → e.reply ≡ inbox_due requests h call → task_of app e ≡ None → ⊥
    by_take requests there legal_there (calls.Take nth) is bearing is_ready is_due =
        let got : Gets requests h nth = gets requests h legal_there nth is_ready in
        let reply : e.reply ≡ Got got.number got.message = is_due ∙ got.reply in
        is_started _ (taken_known app e nth got.number got.message there is reply (subst (IsReplyAt app e.object) reply known))
    by_take requests there legal_there (calls.Pull sub) is bearing is_ready is_due = absurd (cc)
    by_take requests there legal_there (calls.Repull sub version) is bearing is_ready is_due = absurd (cc)
    by_take requests there legal_there _ is bearing is_ready is_due = absurd (cc)

    at_inbox : IsInbox app e.object → (service : ℕ) (found : Option ServiceDef) → option_map (inbox_start app service) found ≡ Some start → task_of app e ≡ None → ⊥
    at_inbox there service None is none = absurd (cc)
    at_inbox there service (Some s) is none =
        let same : start ≡ inbox (requests_to app s service) = (let both : inbox (requests_to app s service) ≡ start = cc in sym both) in
        by_take (requests_to app s service) there (subst (λ (x : Start). IsLegal x h) same legal) e.call refl bearing
        (subst (λ (x : Start). ready x h e.call ≡ true) same follows.is_ready) (subst (λ (x : Start). e.reply ≡ due x h e.call) same follows.reply) none

    -- An entry that may come next at its object, by whose call a process is born, starts one.
    pub starts : start_of app e.object ≡ Some start → task_of app e ≡ None → ⊥
    starts there none = by_object (object_at app e.object) refl there
      where
        by_object : (at : Option ObjectAt) → object_at app e.object ≡ at → option_and_then (start_at app) at ≡ Some start → ⊥
        by_object None at is = absurd (cc)
        by_object (Some (AStore n)) at is =
            let known_store = store_is app e.object n at in
            at_store known_store.1 (slice_get app.stores.items e.object)
            (subst (λ (k : ℕ). option_map (store_start app k) (slice_get app.stores.items k) ≡ Some start) known_store.0 is) none
        by_object (Some (AnInbox service)) at is = at_inbox (inbox_is app e.object service at).1 service (slice_get app.services.items service) is none
