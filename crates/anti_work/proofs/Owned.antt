-- The processes that a worker bears by deliveries to its services and by pulls of its subscriptions run handlers of its services.
use Rattle.std.proofs.Common.{◌≡◌, ℕ, Bool, true, false, cond, sym, ◌∙◌, subst, refl, arith}
use Rattle.std.specs.Prelude.{None, Option, Some, IfSome, option_and_then, option_map, slice_get}
use Rattle.std.proofs.lemmas.Bool.{eq-eqb}
use Rattle.anti_kind.specs.declared.call.Call.{Call}
use Rattle.anti_kind.specs.declared.call.Call.TheVariants as calls
use Rattle.anti_kind.specs.declared.call.Reply.{Reply}
use Rattle.anti_kind.specs.declared.call.Reply.TheVariants as replies
use Rattle.anti_kind.specs.declared.entry.Entry.{Entry}
use Rattle.anti_kind.specs.declared.message.Message.{Message}
use Rattle.anti_app.specs.declared.app.App.{App}
use Rattle.anti_app.specs.declared.app.SubDef.{SubDef}
use Rattle.anti_app.specs.declared.objects.ObjectAt.{ObjectAt}
use Rattle.anti_app.specs.declared.objects.ObjectAt.TheVariants.{Inbox, Store}
use Rattle.anti_app.specs.Objects.{inbox_number, object_at}
use Rattle.anti_app.specs.Subs.{position_on, sub_on}
use Rattle.anti_app.proofs.SubsOn.{sub_back}
use Rattle.anti_proc.specs.declared.task.Role.{Role}
use Rattle.anti_proc.specs.Tasks.{is_for, role_at, role_in, role_of, role_on}
use Rattle.anti_trace.proofs.Numbers.{inbox_is, store_is}
use Rattle.anti_work.specs.Workers.{worker_at}
use Rattle.anti_work.specs.inner.Tries.{BearsOwn}

module _ (app : App) (number : ℕ) where
  -- a handler that is found is of a service of the worker
  abbrev Own : Option Role → Type 0
  Own found = IfSome found (λ role. worker_at app role.service ≡ number)

  -- by what the object is
  own_at : (e : Entry) → ((at : ObjectAt) → object_at app e.object ≡ Some at → Own (role_at app e.object at e.call e.reply)) → Own (role_of app e)
  own_at e each = by_object (object_at app e.object) refl
    where
      by_object : (found : Option ObjectAt) → object_at app e.object ≡ found → Own (option_and_then (λ at. role_at app e.object at e.call e.reply) found)
      by_object None is = tt
      by_object (Some at) is = each at is

  -- ---- deliveries

  module _ (service : ℕ) (dealt : worker_at app service ≡ number) where
    own_if : (t : Bool) (o msg : ℕ) (m : Message) → Own (cond t (Some (role_in app o service msg m)) None)
    own_if true o msg m = dealt
    own_if false o msg m = tt

    own_take : (o nth : ℕ) (at : ObjectAt) (reply : Reply) → o ≡ inbox_number app service → object_at app o ≡ Some at → Own (role_at app o at (calls.Take nth) reply)
    own_take o nth (Store n) reply here is = tt
    own_take o nth (Inbox s) (replies.Got msg m) here is =
        let its : s ≡ service = (inbox_is app o s is).0 ∙ (omega (arith, here)) in
        subst (λ (k : ℕ). Own (role_at app o (Inbox k) (calls.Take nth) (replies.Got msg m))) (sym its) (own_if (is_for app service m) o msg m)
    own_take o nth (Inbox s) _ here is = tt

    pub take_bears : (nth : ℕ) → BearsOwn app number (inbox_number app service) (calls.Take nth)
    take_bears nth e here call =
        own_at e (λ at is. subst (λ (c : Call). Own (role_at app e.object at c e.reply)) (sym call) (own_take e.object nth at e.reply here is))

  -- ---- pulls

  module _ (n : ℕ) (sub : SubDef) (there : slice_get app.subs.items n ≡ Some sub) (dealt : worker_at app sub.service ≡ number) where
    abbrev position : ℕ
    position = position_on app sub.store n

    found : sub_on app sub.store position ≡ Some sub
    found = sub_back app sub.store n sub there (eq-eqb sub.store sub.store refl)

    own_row : (o version : ℕ) → o ≡ sub.store → Own (option_map (role_on app o version) (sub_on app o position))
    own_row o version here =
        subst (λ (k : ℕ). Own (option_map (role_on app k version) (sub_on app k position))) (sym here)
        (subst (λ (s : Option SubDef). Own (option_map (role_on app sub.store version) s)) (sym found) dealt)

    own_pull : (o : ℕ) (at : ObjectAt) (reply : Reply) → o ≡ sub.store → object_at app o ≡ Some at → Own (role_at app o at (calls.Pull position) reply)
    own_pull o (Inbox s) reply here is = tt
    own_pull o (Store k) (replies.Pulled row) here is = own_row k row.version ((store_is app o k is).0 ∙ here)
    own_pull o (Store k) _ here is = tt

    own_repull : (o version : ℕ) (at : ObjectAt) (reply : Reply) → o ≡ sub.store → object_at app o ≡ Some at → Own (role_at app o at (calls.Repull position version) reply)
    own_repull o version (Inbox s) reply here is = tt
    own_repull o version (Store k) (replies.Pulled row) here is = own_row k row.version ((store_is app o k is).0 ∙ here)
    own_repull o version (Store k) _ here is = tt

    pub pull_bears : BearsOwn app number sub.store (calls.Pull position)
    pull_bears e here call =
        own_at e (λ at is. subst (λ (c : Call). Own (role_at app e.object at c e.reply)) (sym call) (own_pull e.object at e.reply here is))

    pub repull_bears : (version : ℕ) → BearsOwn app number sub.store (calls.Repull position version)
    repull_bears version e here call =
        own_at e (λ at is. subst (λ (c : Call). Own (role_at app e.object at c e.reply)) (sym call) (own_repull e.object version at e.reply here is))
