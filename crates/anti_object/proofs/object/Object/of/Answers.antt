use Rattle.std.proofs.Common.{◌≡◌, ◌∙◌, List, ap, sym, subst, rules}
use Rattle.std.specs.Prelude.{Some}
use Rattle.anti_ids.specs.List.{Listed}
use Rattle.anti_kind.specs.declared.message.Message.{Message}
use Rattle.anti_kind.specs.Starts.{IsStart}
use Rattle.anti_kind.specs.Objects.{inbox}
use Rattle.anti_kind.specs.declared.store_kind.Sub.{Sub}
use Rattle.anti_object.specs.Standing.{IsNewStore, start_with}
use Rattle.anti_app.specs.declared.objects.ObjectAt.TheVariants.{Store, Inbox}
use Rattle.anti_app.specs.Objects.{object_at}
use Rattle.anti_object.proofs.News.{new_store, new_inbox}
use Rattle.anti_object.proofs.Starts.{store_sound, none_on, inbox_sound}
use Rattle.anti_object.proofs.object.Object.of.Goals as goal

pub store_of-requires-clause-keyed : goal.store_of-requires-clause-keyed
store_of-requires-clause-keyed c =
    λ keyed. c.deref.ensures.value ∙ (c.in_ok-subs-in-Some-Store.ensures ∙ none_on c.args.app.now c.in-Some-Store.store c.at.result.now c.requires c.at.ensures keyed)

pub store_of-requires-clause-start : goal.store_of-requires-clause-start
store_of-requires-clause-start c =
    let app = c.args.app.now in
    let subs = c.deref.ensures.value ∙ c.in_ok-subs-in-Some-Store.ensures in
    subst (λ (xs : List Sub). IsStart (start_with c.in-Some-Store.store c.at.result.now xs)) (sym subs)
    (store_sound app c.in-Some-Store.store c.at.result.now c.requires c.at.ensures)

pub returns-in_ok-object-in-Some-Store : goal.returns-in_ok-object-in-Some-Store
returns-in_ok-object-in-Some-Store c =
    let app = c.args.app.now in
    let at : object_at app c.args.number ≡ Some (Store c.in-Some-Store.store) = search rules in
    let subs = c.deref.ensures.value ∙ c.in_ok-subs-in-Some-Store.ensures in
    let object = c.in_ok-object-in-Some-Store.object in
    new_store app c.requires c.args.number c.in-Some-Store.store c.at.result.now object at c.at.ensures
    (subst (λ (xs : List Sub). IsNewStore c.in-Some-Store.store c.at.result.now xs object) subs c.in_ok-object-in-Some-Store.ensures)

pub new-requires : goal.new-requires
new-requires c = rw c.in_ok-requests-in-Some-Inbox.ensures (inbox_sound c.args.app.now c.in-Some-Inbox.service c.at-handlers.result.now c.requires)

pub returns-in_ok-inbox-in-Some-Inbox : goal.returns-in_ok-inbox-in-Some-Inbox
returns-in_ok-inbox-in-Some-Inbox c =
    let at : object_at c.args.app.now c.args.number ≡ Some (Inbox c.in-Some-Inbox.service) = search rules in
    new_inbox c.args.app.now c.requires c.args.number c.in-Some-Inbox.service c.at-handlers.result.now c.in_ok-inbox-in-Some-Inbox.inbox at c.at-handlers.ensures
    (c.in_ok-inbox-in-Some-Inbox.ensures.start ∙ ap (λ (ms : Listed Message). inbox ms.items) c.in_ok-requests-in-Some-Inbox.ensures)
    c.in_ok-inbox-in-Some-Inbox.ensures.stands
