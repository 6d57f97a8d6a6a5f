-- What is of the application is not foreign and starts the handler that it is for, and what is left of a process stays known.
use Rattle.std.proofs.Common.{◌≡◌, ℕ, ◌<◌, Bool, true, false, not, List, [], ◌∷◌, length, Option, Some, None, if◌then◌else◌, option_map, option_and_then, refl, ap, ◌∙◌, arith}
use Rattle.std.specs.Prelude.{is_some, nat_lt, nat_le}
use Rattle.std.specs.List.{list_all}
use Rattle.std.proofs.lemmas.Bool.{and_from, lt-ltb, le-leb, le-ltb}
use Rattle.std.proofs.lemmas.List.{length-map}
use Rattle.std.proofs.lemmas.Option.{none-some}
use Rattle.anti_ids.specs.Each.{Each}
use Rattle.anti_ids.specs.Ids.{with_ids}
use Rattle.anti_ids.specs.declared.id.WriteId.{WriteId}
use Rattle.anti_ids.specs.declared.limits.TheConstants.{MOST_DEPTH}
use Rattle.anti_kind.specs.declared.call.Call.{Call}
use Rattle.anti_kind.specs.declared.call.Call.TheVariants as calls
use Rattle.anti_kind.specs.declared.call.Reply.{Reply}
use Rattle.anti_kind.specs.declared.call.Reply.TheVariants as replies
use Rattle.anti_kind.specs.declared.entry.Entry.{Entry}
use Rattle.anti_kind.specs.declared.message.Message.{Message}
use Rattle.anti_kind.specs.declared.row.Row.{Row}
use Rattle.anti_app.specs.declared.app.App.{App}
use Rattle.anti_app.specs.declared.app.StoreDef.{StoreDef}
use Rattle.anti_app.specs.declared.app.SubDef.{SubDef}
use Rattle.anti_app.specs.declared.objects.ObjectAt.{ObjectAt}
use Rattle.anti_app.specs.declared.objects.ObjectAt.TheVariants.{Store, Inbox}
use Rattle.anti_app.specs.Numbers.{IsInbox, IsStore, service_at}
use Rattle.anti_app.specs.Objects.{has_handler, inbox_at, object_at, store_names}
use Rattle.anti_app.specs.Subs.{sub_on}
use Rattle.anti_proc.specs.declared.task.Role.{Role}
use Rattle.anti_proc.specs.declared.task.Task.{Task}
use Rattle.anti_proc.specs.Calls.{IsOfProcess}
use Rattle.anti_proc.specs.Stated.{has_stores, stated_lineage}
use Rattle.anti_proc.specs.Foreign.{is_foreign}
use Rattle.anti_proc.specs.Known.{AllKnown, AreIdsOf, IsCallAt, IsMessageTo, IsReplyAt, IsRowOf}
use Rattle.anti_proc.specs.Local.{row_ids}
use Rattle.anti_proc.specs.Tasks.{is_for, role_at, role_in, role_of, role_on, task_for, task_of, task_with}
use Rattle.anti_proc.specs.Trees.{Tree, Asks, Ends, Make, want_of}
use Rattle.anti_proc.specs.Asked.{IsAskedAt}
pub use Rattle.anti_proc.proofs.KnownCalls.{process_known, tree_known}

-- ---- known messages and replies are not foreign

-- ids over the stores have stores
pub ids_known : (app : App) (ids : List WriteId) → AreIdsOf app ids → has_stores app ids ≡ true
ids_known app [] known = refl
ids_known app (i ∷ is) known =
    let count : length (store_names app) ≡ length app.stores.items = length-map app.stores.items (λ (s : StoreDef). s.name) in
    let within : i.store < length (store_names app) = known.0.0 in
    and_from (nat_lt i.store (length app.stores.items)) (has_stores app is) (lt-ltb i.store (length app.stores.items) (omega (arith, count, within))) (ids_known app is known.1)

rows_known : (app : App) (o : ℕ) (rows : List Row) → Each (IsRowOf app o) rows → list_all (λ row. has_stores app row.lineage) rows ≡ true
rows_known app o [] known = refl
rows_known app o (r ∷ rs) known =
    and_from (has_stores app r.lineage) (list_all (λ row. has_stores app row.lineage) rs) (ids_known app r.lineage known.0.lineage.each) (rows_known app o rs known.1)

-- a reply of the application is not foreign
pub reply_known : (app : App) (o : ℕ) (r : Reply) → IsReplyAt app o r → is_foreign app r ≡ false
reply_known app o (replies.Shown rows) known = ap not (rows_known app o rows.items known)
reply_known app o (replies.Missing missing unwritten) known =
    ap not (and_from (has_stores app missing) (has_stores app unwritten) (ids_known app missing known.0) (ids_known app unwritten known.1))
reply_known app o (replies.Pulled row) known = ap not (ids_known app row.lineage known.lineage.each)
reply_known app o (replies.Got number m) known = ap not known.baggage
reply_known app o (replies.Written key version (Some kept)) known = ap not (ids_known app kept known.1.each)
reply_known app o (replies.Written key version None) known = refl
reply_known app o replies.Moved known = refl
reply_known app o (replies.Posted number) known = refl
reply_known app o replies.Done known = refl

-- ---- known messages and rows start a process

-- a known message is for a handler of its service, and not too deep
is_for_known : (app : App) (o : ℕ) (m : Message) → IsMessageTo app o m → is_for app (service_at app o) m ≡ true
is_for_known app o m known =
    and_from (has_handler app (service_at app o) m.handler) (nat_le m.depth MOST_DEPTH) known.handler (le-leb m.depth MOST_DEPTH known.depth)

-- the object of a store, and that of an inbox
store_found : (app : App) (o : ℕ) → IsStore app o → object_at app o ≡ Some (Store o)
store_found app o at =
    ap (λ (here : Bool). if here then Some (Store o) else inbox_at (length app.services.items) (service_at app o)) (lt-ltb o (length app.stores.items) at)

inbox_found : (app : App) (o : ℕ) → IsInbox app o → object_at app o ≡ Some (Inbox (service_at app o))
inbox_found app o at =
    let within : service_at app o < length app.services.items = omega (arith, at.0, at.1) in
    ap (λ (here : Bool). if here then Some (Store o) else inbox_at (length app.services.items) (service_at app o)) (le-ltb o (length app.stores.items) at.0)
    ∙ ap (λ (here : Bool). if here then Some (Inbox (service_at app o)) else None) (lt-ltb (service_at app o) (length app.services.items) within)

-- what a call on an inbox or a store starts
role_by_inbox : (app : App) (e : Entry) → IsInbox app e.object → role_of app e ≡ role_at app e.object (Inbox (service_at app e.object)) e.call e.reply
role_by_inbox app e at =
    ap (λ (found : Option ObjectAt). option_and_then (λ (at : ObjectAt). role_at app e.object at e.call e.reply) found) (inbox_found app e.object at)

role_by_store : (app : App) (e : Entry) → IsStore app e.object → role_of app e ≡ role_at app e.object (Store e.object) e.call e.reply
role_by_store app e at =
    ap (λ (found : Option ObjectAt). option_and_then (λ (at : ObjectAt). role_at app e.object at e.call e.reply) found) (store_found app e.object at)

-- a known message that was taken is for the handler that it names
pub taken_known : (app : App) (e : Entry) (nth number : ℕ) (m : Message) → IsInbox app e.object → e.call ≡ calls.Take nth
    → e.reply ≡ replies.Got number m → IsMessageTo app e.object m
    → role_of app e ≡ Some (role_in app e.object (service_at app e.object) number m)
taken_known app e nth number m at call reply known =
    role_by_inbox app e at
    ∙ ap (λ (c : Call). role_at app e.object (Inbox (service_at app e.object)) c e.reply) call
    ∙ ap (λ (r : Reply). role_at app e.object (Inbox (service_at app e.object)) (calls.Take nth) r) reply
    ∙ ap (λ (good : Bool). if good then Some (role_in app e.object (service_at app e.object) number m) else None) (is_for_known app e.object m known)

-- a row that was pulled is for the handler of its subscription
pub pulled_known : (app : App) (e : Entry) (position : ℕ) (row : Row) (sub : SubDef) → IsStore app e.object → e.call ≡ calls.Pull position
    → e.reply ≡ replies.Pulled row → sub_on app e.object position ≡ Some sub
    → role_of app e ≡ Some (role_on app e.object row.version sub)
pulled_known app e position row sub at call reply found =
    role_by_store app e at
    ∙ ap (λ (c : Call). role_at app e.object (Store e.object) c e.reply) call
    ∙ ap (λ (r : Reply). role_at app e.object (Store e.object) (calls.Pull position) r) reply
    ∙ ap (λ (sub : Option SubDef). option_map (role_on app e.object row.version) sub) found

pub repulled_known : (app : App) (e : Entry) (position version : ℕ) (row : Row) (sub : SubDef) → IsStore app e.object
    → e.call ≡ calls.Repull position version → e.reply ≡ replies.Pulled row → sub_on app e.object position ≡ Some sub
    → role_of app e ≡ Some (role_on app e.object row.version sub)
repulled_known app e position version row sub at call reply found =
    role_by_store app e at
    ∙ ap (λ (c : Call). role_at app e.object (Store e.object) c e.reply) call
    ∙ ap (λ (r : Reply). role_at app e.object (Store e.object) (calls.Repull position version) r) reply
    ∙ ap (λ (sub : Option SubDef). option_map (role_on app e.object row.version) sub) found

-- ---- the task of a known message or row

module _ (app : App) where
  -- what starts in a role
  abbrev Begins : ℕ → Reply → Role → Type 0
  Begins o r role = (task : Task) × (task_for app o r role ≡ Some task)

  stated_begins : (role : Role) (m : Message) (found : Option (List WriteId)) → is_some found ≡ true
      → (task : Task) × (option_map (task_with role m.value) found ≡ Some task)
  stated_begins role m None some = absurd (cc)
  stated_begins role m (Some ids) some = (task_with role m.value ids, refl)

  row_begins : (o : ℕ) (row : Row) (role : Role) → IsRowOf app o row → Begins o (replies.Pulled row) role
  row_begins o row role known =
      let task : Task = task_with role row.value (with_ids (row_ids o row) []) in
      (task, ap (λ (over : Bool). if over then Some task else None) (ids_known app row.lineage known.lineage.each))

  by_call : (o : ℕ) (at : ObjectAt) (call : Call) (r : Reply) (role : Role) → role_at app o at call r ≡ Some role → IsReplyAt app o r → Begins o r role
  by_call o (Inbox service) (calls.Take nth) (replies.Got number m) role starts known = stated_begins role m (stated_lineage app m) known.baggage
  by_call o (Inbox service) (calls.Take nth) r role starts known = absurd (none-some role starts)
  by_call o (Inbox service) call r role starts known = absurd (none-some role starts)
  by_call o (Store store) (calls.Pull position) (replies.Pulled row) role starts known = row_begins o row role known
  by_call o (Store store) (calls.Pull position) r role starts known = absurd (none-some role starts)
  by_call o (Store store) (calls.Repull position version) (replies.Pulled row) role starts known = row_begins o row role known
  by_call o (Store store) (calls.Repull position version) r role starts known = absurd (none-some role starts)
  by_call o (Store store) call r role starts known = absurd (none-some role starts)

  by_object : (e : Entry) (found : Option ObjectAt) (role : Role) → option_and_then (λ at. role_at app e.object at e.call e.reply) found ≡ Some role
      → IsReplyAt app e.object e.reply → Begins e.object e.reply role
  by_object e None role starts known = absurd (cc)
  by_object e (Some at) role starts known = by_call e.object at e.call e.reply role starts known

  -- What is known starts the handler that it is for.
  pub birth_known : (e : Entry) (role : Role) → role_of app e ≡ Some role → IsReplyAt app e.object e.reply
      → (task : Task) × (task_of app e ≡ Some task)
  birth_known e role starts known =
      let begins : Begins e.object e.reply role = by_object e (object_at app e.object) role starts known in
      (begins.0, ap (λ (found : Option Role). option_and_then (task_for app e.object e.reply) found) starts ∙ begins.1)

-- the next call of a known process
pub next_known : (app : App) (tree : Tree) (object span : ℕ) (call : Call) → AllKnown app tree → want_of tree ≡ Make object span call
    → IsOfProcess app object span call × IsCallAt app object call × IsAskedAt object tree
next_known app (Asks ask go) object span call known next =
    let at : ask.object ≡ object = cc in
    let in_span : ask.span ≡ span = cc in
    let same : ask.call ≡ call = cc in
    (rw (← at, ← in_span, ← same) known.0, rw (← at, ← same) known.1, at)
next_known app (Ends end) object span call known next = absurd (cc)
