-- The calls of a process of a sound application are made at stores and inboxes that are there.
use Rattle.std.proofs.Common.{◌≡◌, ℕ, zero, suc, ◌<◌, ◌≤◌, true, false, List, [], ◌∷◌, length, slice_get, Some, IsTrue, arith}
use Rattle.std.specs.Option.{option_map_or}
use Rattle.anti_ids.specs.declared.id.WriteId.{WriteId}
use Rattle.anti_kind.specs.declared.call.Call.{Call}
use Rattle.anti_kind.specs.declared.call.Call.TheVariants as calls
use Rattle.anti_kind.specs.declared.entry.Entry.{Entry}
use Rattle.anti_app.specs.declared.app.App.{App}
use Rattle.anti_app.specs.declared.app.ServiceDef.{ServiceDef}
use Rattle.anti_app.specs.Numbers.{IsInbox, IsStore, service_at}
use Rattle.anti_app.specs.Objects.{has_named}
use Rattle.anti_app.specs.Sound.{is_sound}
use Rattle.anti_app.proofs.SoundLemmas.{app_known}
use Rattle.anti_proc.specs.Calls.{AllOfProcess, IsMadeOn, IsOfProcess, LooksWhereItMay}
use Rattle.anti_proc.specs.Meaning.{begun, setting_of, tree_of}
use Rattle.anti_proc.specs.Trees.{Tree, Asks, Ends}
use Rattle.anti_proc.proofs.Keeping.{AnyReply, Good, IsMade, Keeps, begun_good, nothing_more}
use Rattle.anti_proc.proofs.Owed.{owed_there}
use Rattle.anti_proc.proofs.Plans.{here_within}
use Rattle.anti_proc.proofs.Served.{HasInbox, body_there}
use Rattle.anti_proc.proofs.Started.{its_body, started_each}

-- ---- an inbox of a service that has a handler

served_within : (handler : List ℕ) (services : List ServiceDef) (at : ℕ)
    → option_map_or (λ (s : ServiceDef). has_named handler s.handlers.items) (slice_get services at) false ≡ true → at < length services
served_within handler [] at has = absurd (cc)
served_within handler (s ∷ ss) zero has = omega arith
served_within handler (s ∷ ss) (suc at) has = let within = served_within handler ss at has in omega arith

-- what is carried may be anything
abbrev Anything : Unit {0} → ℕ → List WriteId → Type 0
Anything h n ids = Unit {0}

keeps_nothing : (app : App) → Keeps app (Unit {0}) Anything Anything nothing_more AnyReply
keeps_nothing app = record {
  none_carried = λ h n. tt;
  with_carried = λ h n ids carried brings carries. tt;
  none_brought = λ h n. tt;
  added = λ h n further ids brings carries short. tt;
  taken_out = λ h n i ids carries. tt;
  carried_on = λ h ask r n ids carries. tt;
  brought_on = λ h ask r n ids brings. tt;
  comes = λ h ask r fair. tt;
}

module _ (app : App) where
  inbox_is : (o : ℕ) (handler : List ℕ) → HasInbox app o handler → IsInbox app o
  inbox_is o handler there =
      let within : service_at app o < length app.services.items = served_within handler app.services.items (service_at app o) there.1 in
      (there.0, omega (arith, there.0, within))

  -- ---- how a call comes about says where it is made

  made_on : (o : ℕ) (carried : List WriteId) (call : Call) → IsMade app (IsStore app) (HasInbox app) o carried call → IsMadeOn app o call
  made_on o carried (calls.Write key value lineage) made = made.0
  made_on o carried (calls.Read region key) made = made
  made_on o carried (calls.Scan region prefix) made = made
  made_on o carried (calls.Poll region key) made = made
  made_on o carried (calls.Look region ids dry) made = here_within region o app.stores.items made.0.0
  made_on o carried (calls.Ack version) made = made
  made_on o carried (calls.Nack version) made = made
  made_on o carried (calls.Post m) made = inbox_is o m.handler made.0
  made_on o carried (calls.TakeReply number) made = inbox_is o made.0 made.1
  made_on o carried _ made = made

  looks_at : (o : ℕ) (carried : List WriteId) (call : Call) → IsMade app (IsStore app) (HasInbox app) o carried call → LooksWhereItMay app o call
  looks_at o carried (calls.Look region ids dry) made = made.0
  looks_at o carried _ made = tt

  pub of_process : (o n : ℕ) (carried : List WriteId) (call : Call) → 1 ≤ n → IsMade app (IsStore app) (HasInbox app) o carried call → IsOfProcess app o n call
  of_process o n carried call span made = record { span = span; call = made_on o carried call made; look = looks_at o carried call made }

  each_of_process : (tree : Tree) → Good app (IsStore app) (HasInbox app) (Unit {0}) Anything nothing_more AnyReply tt tree → AllOfProcess app tree
  each_of_process (Asks ask go) good = (
    of_process ask.object ask.span ask.carried ask.call good.0.0 good.0.1,
    λ reply. each_of_process (go reply) (good.1 reply tt),
  )
  each_of_process (Ends end) good = tt

  pub tree_on : (birth : Entry) → IsTrue (is_sound app) → AllOfProcess app (tree_of app birth)
  tree_on birth sound =
      started_each (AllOfProcess app) app birth (λ end. tt)
      (λ task ids is has.
      each_of_process (begun (its_body app task) (setting_of app task) (Some ids))
      (begun_good (setting_of app task) (IsStore app) (HasInbox app) (Unit {0}) Anything Anything nothing_more AnyReply (keeps_nothing app)
      (owed_there app birth task is) (its_body app task) (body_there app (app_known app sound) task.role.service task.role.handler) ids tt tt))
