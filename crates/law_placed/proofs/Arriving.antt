-- Each process of a legal trace came by name: a line calls its handler where it owes a reply, and one whose handler nothing names carries
-- nothing at first.
use Rattle.std.proofs.Common.{◌≡◌, ℕ, ◌==◌, ◌&&◌, ◌||◌, Bool, true, false, List, [], map, IsTrue, Option, Some, None, option_map, option_and_then, slice_get, if◌then◌else◌, inl, inr, refl, sym, ap, ◌∙◌, subst, eq-eqb, unwrap_or}
use Rattle.std.specs.List.{list_any}
use Rattle.std.specs.Option.{option_map_or}
use Rattle.std.proofs.lemmas.Bool.{and_from, or_left, or_right}
use Rattle.anti_ids.specs.Ids.{has_id, with_ids}
use Rattle.anti_ids.specs.declared.id.WriteId.{WriteId}
use Rattle.anti_kind.specs.declared.call.Call.{Call}
use Rattle.anti_kind.specs.declared.call.Call.TheVariants as calls
use Rattle.anti_kind.specs.declared.call.Reply.{Reply}
use Rattle.anti_kind.specs.declared.call.Reply.TheVariants as replies
use Rattle.anti_kind.specs.declared.entry.Entry.{Entry}
use Rattle.anti_kind.specs.declared.message.Message.{Message}
use Rattle.anti_kind.specs.declared.message.MessageKind.{MessageKind}
use Rattle.anti_kind.specs.declared.message.MessageKind.TheVariants as kinds
use Rattle.anti_kind.specs.declared.row.Row.{Row}
use Rattle.anti_app.specs.declared.app.App.{App}
use Rattle.anti_app.specs.declared.app.SubDef.{SubDef}
use Rattle.anti_app.specs.declared.objects.ObjectAt.{ObjectAt}
use Rattle.anti_app.specs.declared.objects.ObjectAt.TheVariants.{Store, Inbox}
use Rattle.anti_app.specs.Objects.{handler_number, is_queue_at, object_at}
use Rattle.anti_app.specs.Numbers.{service_at}
use Rattle.anti_app.specs.Sound.{is_sound}
use Rattle.anti_app.specs.Subs.{number_on, sub_on}
use Rattle.anti_place.specs.Placements.{is_called, is_named, sends_it, some_line}
use Rattle.anti_proc.specs.declared.task.Duty.TheVariants as duties
use Rattle.anti_proc.specs.declared.task.Role.{Role}
use Rattle.anti_proc.specs.declared.task.Task.{Task}
use Rattle.anti_proc.specs.Brought.{came_first}
use Rattle.anti_proc.specs.Stated.{has_stores, stated_lineage}
use Rattle.anti_proc.specs.Local.{row_ids}
use Rattle.anti_proc.specs.Meaning.{reply_of, stated_in, tree_of}
use Rattle.anti_proc.specs.Tasks.{duty_to, is_for, role_at, role_in, role_of, role_on, task_for, task_of, task_with}
use Rattle.anti_trace.specs.Legal.{IsLegalTrace}
use Rattle.anti_trace.proofs.Numbers.{inbox_is}
use Rattle.law_causal.specs.Words.{brings, comes_with, hands_all}
use Rattle.law_causal.proofs.Coming.{first_within}
use Rattle.law_causal.proofs.Processes.{IsAsked, each_asked, hands_asked, tree_asks}
use Rattle.law_placed.proofs.Asking.{owes_reply}
use Rattle.law_placed.proofs.Posting.{IsByName, PostsByName, any_found, process_posts}
use Rattle.law_placed.proofs.Sending.{IsRequest, WasSent, message_from}
use Rattle.law_placed.proofs.Starting.{CameByName}

-- ---- the role of a task

module _ (app : App) (o : ℕ) (task : Task) where
  its_role : (reply : Reply) (role : Role) → task_for app o reply role ≡ Some task → role ≡ task.role
  its_role (replies.Got number m) role is = by_stated (stated_lineage app m) is
    where
      by_stated : (found : Option (List WriteId)) → option_map (task_with role m.value) found ≡ Some task → role ≡ task.role
      by_stated None is = absurd (cc)
      by_stated (Some ids) is = let same : task_with role m.value ids ≡ task = cc in ap (λ (t : Task). t.role) same
  its_role (replies.Pulled row) role is =
      by_stores (has_stores app row.lineage) (task_with role row.value (with_ids (row_ids o row) [])) is
    where
      by_stores : (over : Bool) (begun : Task) → (if over then Some begun else None) ≡ Some task → begun.role ≡ task.role
      by_stores true begun is = let same : begun ≡ task = cc in ap (λ (t : Task). t.role) same
      by_stores false begun is = absurd (cc)
  its_role reply role is = absurd (cc)

  by_role : (reply : Reply) (found : Option Role) → option_and_then (task_for app o reply) found ≡ Some task → found ≡ Some task.role
  by_role reply None is = absurd (cc)
  by_role reply (Some role) is = ap Some (its_role reply role is)

-- ---- rows

-- a process in this role owes no reply, and something names its handler
abbrev IsBySub : App → Role → Type 0
IsBySub app role = (is_named app role.service role.handler ≡ true) × (owes_reply role.duty ≡ false)

module _ (app : App) (store : ℕ) where
  -- a subscription that is found names its handler
  sub_names : (position : ℕ) (sub : SubDef) → sub_on app store position ≡ Some sub → is_named app sub.service sub.handler ≡ true
  sub_names position sub at = by_number (number_on app store position) at
    where
      service : ℕ
      service = sub.service

      handler : ℕ
      handler = sub.handler

      test : SubDef → Bool
      test other = other.service == sub.service && other.handler == sub.handler

      is_sent : Bool
      is_sent = some_line (sends_it app sub.service sub.handler) app

      itself : test sub ≡ true
      itself = and_from (service == service) (handler == handler) (eq-eqb service service refl) (eq-eqb handler handler refl)

      by_number : (found : Option ℕ) → option_and_then (λ number. slice_get app.subs.items number) found ≡ Some sub
          → is_named app sub.service sub.handler ≡ true
      by_number None is = absurd (cc)
      by_number (Some number) is =
          or_right (is_called app service handler) (is_sent || list_any test app.subs.items)
          (or_right is_sent (list_any test app.subs.items) (any_found test app.subs.items number sub is itself))

  owes_queue : (queue : Bool) (version : ℕ) → owes_reply (if queue then duties.Works store version else duties.Free) ≡ false
  owes_queue true version = refl
  owes_queue false version = refl

  by_sub : (row : Row) (position : ℕ) (role : Role)
      → option_map (role_on app store row.version) (sub_on app store position) ≡ Some role → IsBySub app role
  by_sub row position role is = by_found (sub_on app store position) refl is
    where
      by_found : (found : Option SubDef) → sub_on app store position ≡ found → option_map (role_on app store row.version) found ≡ Some role
          → IsBySub app role
      by_found None at is = absurd (cc)
      by_found (Some sub) at is =
          let same : role_on app store row.version sub ≡ role = cc in
          subst (IsBySub app) same (sub_names position sub at, owes_queue (is_queue_at app store) row.version)

  by_row : (call : Call) (reply : Reply) (role : Role) → role_at app store (Store store) call reply ≡ Some role → IsBySub app role
  by_row (calls.Pull position) (replies.Pulled row) role is = by_sub row position role is
  by_row (calls.Pull position) reply role is = absurd (cc)
  by_row (calls.Repull position version) (replies.Pulled row) role is = by_sub row position role is
  by_row (calls.Repull position version) reply role is = absurd (cc)
  by_row call reply role is = absurd (cc)

-- ---- messages

-- a call and a reply by which a message is taken, in whose role the process is
record IsTaking (app : App) (o service : ℕ) (c : Call) (r : Reply) (its : Role) : Type 0 where
  nth : ℕ
  number : ℕ
  message : Message
  call : c ≡ calls.Take nth
  reply : r ≡ replies.Got number message
  role : role_in app o service number message ≡ its

module _ (app : App) (o service : ℕ) where
  by_taking : (call : Call) (reply : Reply) (role : Role) → role_at app o (Inbox service) call reply ≡ Some role
      → IsTaking app o service call reply role
  by_taking (calls.Take nth) (replies.Got number m) role is = by_test (is_for app service m) is
    where
      by_test : (good : Bool) → (if good then Some (role_in app o service number m) else None) ≡ Some role
          → IsTaking app o service (calls.Take nth) (replies.Got number m) role
      by_test true is = record { nth = nth; number = number; message = m; call = refl; reply = refl; role = cc }
      by_test false is = absurd (cc)
  by_taking (calls.Take nth) reply role is = absurd (cc)
  by_taking call reply role is = absurd (cc)

-- a process that owes a reply took a call
owing_is_call : (kind : MessageKind) (inbox number : ℕ) (handler : List ℕ) → owes_reply (duty_to kind inbox number handler) ≡ true
    → kind ≡ kinds.Call
owing_is_call kinds.Call inbox number handler owes = refl
owing_is_call kind inbox number handler owes = absurd (cc)

module _ (app : App) (trace : List Entry) (sound : IsTrue (is_sound app)) (legal : IsLegalTrace app trace) where
  -- what was sent was sent by name
  sent_by_name : (j o : ℕ) (m : Message) → WasSent trace j o m → IsByName app o m
  sent_by_name j o m w =
      let hands : hands_all w.entry.call ≡ true = ap hands_all w.sent.call in
      let a : IsAsked app trace w.place w.entry = hands_asked app trace legal w.place w.entry w.there hands in
      let named : PostsByName app a.ask =
      each_asked (PostsByName app) (tree_of app a.birth) (map reply_of a.later) a.ask (process_posts app a.birth)
      (tree_asks app trace w.place w.entry a) in
      subst (λ (n : ℕ). IsByName app n m) (sym a.object ∙ w.object) (named m (sym a.call ∙ w.sent.call))

  -- a call or a send names its handler
  sent_names : (j o : ℕ) (m : Message) → WasSent trace j o m
      → is_named app (service_at app o) (handler_number app (service_at app o) m.handler) ≡ true
  sent_names j o m w =
      let service : ℕ = service_at app o in
      let handler : ℕ = handler_number app service m.handler in
      let named : IsByName app o m = sent_by_name j o m w in
      let subs : Bool = list_any (λ (sub : SubDef). sub.service == service && sub.handler == handler) app.subs.items in
      elim w.sent.kind [
        | inl call ↦ or_left (is_called app service handler) (some_line (sends_it app service handler) app || subs) (named.call call)
        | inr send ↦ or_right (is_called app service handler) (some_line (sends_it app service handler) app || subs)
            (or_left (some_line (sends_it app service handler) app) subs (named.send send))
      ]

  module _ (j : ℕ) (b : Entry) (at : slice_get trace j ≡ Some b) (task : Task) (starts : task_of app b ≡ Some task) where
    role_is : role_of app b ≡ Some task.role
    role_is = by_role app b.object task b.reply (role_of app b) starts

    of_row : IsBySub app task.role → CameByName app task
    of_row its = record {
      called = λ owes. absurd (let none = its.1 in cc);
      unnamed = λ none ids fits i has. absurd (let some = its.0 in cc);
    }

    -- what its birth brings is the lineage that the message states
    carried_stated : (nth number : ℕ) (m : Message) → b.call ≡ calls.Take nth → b.reply ≡ replies.Got number m
        → (ids : List WriteId) → task.carried ≡ Some ids → (i : WriteId) → has_id i ids ≡ true → has_id i (stated_in app m) ≡ true
    carried_stated nth number m call reply ids fits i has =
        let first : came_first app b ≡ ids =
        ap (λ (found : Option Task). option_map_or (λ (t : Task). unwrap_or t.carried []) found []) starts
        ∙ ap (λ (carried : Option (List WriteId)). unwrap_or carried []) fits in
        let brought : has_id i (brings app b) ≡ true = first_within app i b (ap (has_id i) first ∙ has) in
        let same : brings app b ≡ comes_with app b.object (calls.Take nth) (replies.Got number m) =
        λ k. comes_with app b.object (call k) (reply k) in
        sym (ap (has_id i) same) ∙ brought

    module _ (t : IsTaking app b.object (service_at app b.object) b.call b.reply task.role) where
      owed_to_call : owes_reply task.role.duty ≡ true → t.message.kind ≡ kinds.Call
      owed_to_call owes =
          owing_is_call t.message.kind b.object t.number t.message.handler (ap (λ (role : Role). owes_reply role.duty) t.role ∙ owes)

      of_request : IsRequest app t.message → CameByName app task
      of_request r = record {
        called = λ owes. absurd (let call = owed_to_call owes in let request = r.kind in cc);
        unnamed = λ none ids fits i has.
            let stated : has_id i (stated_in app t.message) ≡ true =
            carried_stated t.nth t.number t.message t.call t.reply ids fits i has in
            let never : has_id i [] ≡ true = sym (ap (has_id i) r.stated) ∙ stated in
            cc;
      }

      of_sent : WasSent trace j b.object t.message → CameByName app task
      of_sent w = record {
        called = λ owes.
            let named : IsByName app b.object t.message = sent_by_name j b.object t.message w in
            subst (λ (role : Role). is_called app role.service role.handler ≡ true) t.role (named.call (owed_to_call owes));
        unnamed = λ none ids fits i has.
            let some : is_named app task.role.service task.role.handler ≡ true =
            subst (λ (role : Role). is_named app role.service role.handler ≡ true) t.role (sent_names j b.object t.message w) in
            cc;
      }

      of_message : CameByName app task
      of_message =
          elim (message_from app trace sound legal j b at t.nth t.number t.message t.call t.reply) [
            | inl request ↦ of_request request
            | inr sent ↦ of_sent sent
          ]

    -- The process that an entry starts came by name.
    pub came_by_name : CameByName app task
    came_by_name = by_object (object_at app b.object) refl role_is
      where
        by_object : (found : Option ObjectAt) → object_at app b.object ≡ found
            → option_and_then (λ at. role_at app b.object at b.call b.reply) found ≡ Some task.role → CameByName app task
        by_object None is role = absurd (cc)
        by_object (Some (Store store)) is role = of_row (by_row app store b.call b.reply task.role role)
        by_object (Some (Inbox service)) is role =
            let own : service ≡ service_at app b.object = (inbox_is app b.object service is).0 in
            of_message (by_taking app b.object (service_at app b.object) b.call b.reply task.role
            (subst (λ (n : ℕ). role_at app b.object (Inbox n) b.call b.reply ≡ Some task.role) own role))
