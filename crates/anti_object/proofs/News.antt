-- Objects on which nothing has happened, and the messages that wait in an inbox then.
use Rattle.std.proofs.Common.{◌≡◌, ℕ, ◌-◌, ◌<◌, ◌≤◌, max, ◌++◌, ◌∷◌, List, [], Bool, true, false, cond, length, get_or, nat_eq, refl, sym, ap, ◌∙◌, subst, arith, append-nil}
use Rattle.std.specs.Prelude.{IsTrue, Option, None, Some, option_map, slice_get}
use Rattle.std.proofs.lemmas.Bool.{eq-eqb, cond-true}
use Rattle.std.proofs.lemmas.Option.{slice_get-get_or, slice_get_past}
use Rattle.std.specs.Option.{option_and_then}
use Rattle.anti_ids.specs.List.{Listed, plain}
use Rattle.anti_ids.specs.ListCalls.{pushed, reserved}
use Rattle.anti_kind.specs.declared.message.Message.{Message}
use Rattle.anti_kind.specs.Objects.{Start}
use Rattle.anti_inbox.specs.declared.inbox.Inbox.{Inbox}
use Rattle.anti_inbox.specs.inner.Inboxes as inboxes
use Rattle.anti_app.specs.declared.app.App.{App}
use Rattle.anti_app.specs.declared.app.StoreDef.{StoreDef}
use Rattle.anti_app.specs.declared.app.ServiceDef.{ServiceDef}
use Rattle.anti_app.specs.declared.app.HandlerDef.{HandlerDef}
use Rattle.anti_app.specs.declared.app.RequestDef.{RequestDef}
use Rattle.anti_app.specs.declared.objects.ObjectAt.TheVariants.{Store, Inbox as InboxAt}
use Rattle.anti_app.specs.Objects.{object_at}
use Rattle.anti_app.specs.Sound.{is_sound}
use Rattle.anti_app.specs.Subs.{subs_on}
use Rattle.anti_object.specs.declared.object.Object.{Object}
use Rattle.anti_object.specs.declared.object.Object.TheVariants.{Inbox as InboxObject}
use Rattle.anti_object.specs.Starts.{start_at, start_of, store_start, inbox_start, message_of, message_to}
use Rattle.anti_object.specs.Standing.{object_start, ObjectStands, IsNew, IsNewStore}
use Rattle.anti_object.proofs.Starts.{start_sound}

-- ---- lists

-- the item at an index of a list that is read
pub found : {X : Type 0} (xs ys : List X) (i : ℕ) (x : X) → ys ≡ xs → i < length ys → x ≡ get_or ys i x → slice_get xs i ≡ Some x
found {X} xs ys i x same lt at = subst (λ (zs : List X). slice_get zs i ≡ Some x) same (slice_get-get_or ys i x lt ∙ ap Some (sym at))

-- and none past its end
pub missed : {X : Type 0} (xs ys : List X) (i : ℕ) → ys ≡ xs → length ys ≤ i → slice_get xs i ≡ None
missed {X} xs ys i same past = subst (λ (zs : List X). slice_get zs i ≡ None) same (slice_get_past ys i past)

-- an item put into the room that was made for it leaves no room
pub added : {T : Type 0} (l : Listed T) (x : T) (more : List T) → l.spare ≡ 0 → x ∷ [] ≡ more → pushed (reserved l 1) x ≡ plain (l.items ++ more)
added {T} l x more full is =
    let spare : max l.spare 1 - 1 ≡ 0 = omega arith in
    ap (λ (n : ℕ). record { items = l.items ++ x ∷ []; spare = n }) spare ∙ ap (λ (xs : List T). plain (l.items ++ xs)) is

-- ---- messages

cond_same : {X : Type 0} (b : Bool) (x : X) → cond b x x ≡ x
cond_same true x = refl
cond_same false x = refl

-- a request to a handler that is not there has no message
pub no_message : (s : ServiceDef) (service : ℕ) (r : RequestDef) → slice_get s.handlers.items r.handler ≡ None → message_of s service r ≡ []
no_message s service r none =
    ap (λ (h : Option HandlerDef). cond (nat_eq r.service service) (message_to r h) []) none ∙ cond_same (nat_eq r.service service) []

pub one_message : (s : ServiceDef) (service : ℕ) (r : RequestDef) (h : HandlerDef) → r.service ≡ service → slice_get s.handlers.items r.handler ≡ Some h
    → message_of s service r ≡ message_to r (Some h)
one_message s service r h here found =
    cond-true (nat_eq r.service service) (message_to r (slice_get s.handlers.items r.handler)) [] (eq-eqb r.service service here) ∙ ap (message_to r) found

pub unchanged : (m : Listed Message) (more : List Message) → m.spare ≡ 0 → more ≡ [] → m ≡ plain (m.items ++ more)
unchanged m more full none =
    ap (λ (n : ℕ). record { items = m.items; spare = n }) full ∙ ap (λ (xs : List Message). plain xs) (sym (append-nil m.items) ∙ ap (λ (xs : List Message). m.items ++ xs) (sym none))

-- ---- objects

module _ (app : App) (sound : IsTrue (is_sound app)) (number : ℕ) where
  is_new : (o : Object) (start : Start) → start_of app number ≡ Some start → object_start o ≡ start → ObjectStands o [] → IsNew app number o
  is_new o start there same stands =
      let at : start_of app number ≡ Some (object_start o) = there ∙ ap Some (sym same) in
      record { start = at; stands = record { sane = start_sound app number (object_start o) sound at; legal = tt; state = stands } }

  pub new_store : (n : ℕ) (s : StoreDef) (o : Object) → object_at app number ≡ Some (Store n) → slice_get app.stores.items n ≡ Some s → IsNewStore n s (subs_on app n) o → IsNew app number o
  new_store n s o at there new =
      is_new o (store_start app n s) (ap (option_and_then (start_at app)) at ∙ ap (option_map (store_start app n)) there)
      new.start new.stands

  pub new_inbox : (service : ℕ) (s : ServiceDef) (m : Inbox) → object_at app number ≡ Some (InboxAt service) → slice_get app.services.items service ≡ Some s
      → inboxes.start_of m ≡ inbox_start app service s → inboxes.InboxStands m [] → IsNew app number (InboxObject m)
  new_inbox service s m at there start stands =
      is_new (InboxObject m) (inbox_start app service s) (ap (option_and_then (start_at app)) at ∙ ap (option_map (inbox_start app service)) there) start stands

  pub none_there : object_at app number ≡ None → start_of app number ≡ None
  none_there at = ap (option_and_then (start_at app)) at
