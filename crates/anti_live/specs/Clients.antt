-- What contracts see of stores that are shared and of a client, and what calls make of a client.
use Rattle.std.specs.Prelude.{◌≡◌, ℕ, ◌+◌, ◌<◌, nat_lt, max, min, Bool, true, List, [], ◌∷◌, map, All, Option, Some, slice_get}
use Rattle.std.specs.List.{AllZip, list_any}
use Rattle.std.specs.Option.{option_and_then, option_map_or}
use Rattle.anti_ids.specs.List.{Listed}
use Rattle.anti_ids.specs.declared.id.WriteId.{WriteId}
use Rattle.anti_kind.specs.declared.actor.Actor.TheVariants.{Carrier}
use Rattle.anti_kind.specs.declared.call.Call.{Call}
use Rattle.anti_kind.specs.declared.entry.Entry.{Entry}
use Rattle.anti_kind.specs.declared.port.Answer.{Answer}
use Rattle.anti_kind.specs.Objects.{Start}
use Rattle.anti_kind.specs.Ports.{View}
use Rattle.anti_object.specs.declared.object.Object.{Object}
use Rattle.anti_object.specs.Standing.{ObjectAt, object_start}
use Rattle.anti_shared.specs.Passes.{Identity, IsJoined, IsPass, IsSplit, PassView, SharedView, first_pass, numbers_of, rest_of, start_of, view_of, with_count}
use Rattle.anti_turn.specs.Lists.{times}
use Rattle.anti_shim.specs.declared.barrier_answer.BarrierAnswer.{BarrierAnswer}
use Rattle.anti_shim.specs.declared.caller.Caller.{Caller}
use Rattle.anti_shim.specs.declared.looks.PlannedLook.{PlannedLook}
use Rattle.anti_shim.specs.declared.sight.Sight.{Sight}
use Rattle.anti_shim.specs.Barriers.{BarrierDoes}
use Rattle.anti_shim.specs.Plans.{plan}
use Rattle.anti_shim.specs.Steps.{Step, IsAnswered, asking, caller_after, outcome_of}
use Rattle.anti_live.specs.declared.stores.LiveStore.{LiveStore}
use Rattle.anti_live.specs.Stores.{here_of}

-- The stores, and each as it is shared, in the order of their numbers.
pub record LiveView : Type 0 where
  pub stores : List LiveStore
  pub shareds : List (SharedView Object)

-- A client: its passes, one for each store, who it is, its region with the stores that have a replica there, and what it carries.
pub record ClientView : Type 0 where
  pub passes : List (PassView Object)
  pub who : Caller
  pub region : ℕ
  pub here : List ℕ
  pub lineage : List WriteId

abbrev pub id_of_pass : PassView Object → Identity Object
id_of_pass pass = pass.id

abbrev pub id_of_shared : SharedView Object → Identity Object
id_of_shared shared = shared.id

-- The client is one of these stores': it has a pass of each, and knows which of them its region has.
pub record IsOf (live : LiveView) (client : ClientView) : Type 0 where
  pub passes : map id_of_pass client.passes ≡ map id_of_shared live.shareds
  pub here : client.here ≡ here_of client.region live.stores

-- The actor of a client's entries is the carrier with the number of its pass of store 0.
abbrev pub IsClient : List (PassView Object) → Caller → Type 0
IsClient passes who = (pass : PassView Object) → slice_get passes 0 ≡ Some pass → who.actor ≡ Carrier pass.number

-- The port that a client is.

-- the store of a number, by the client's pass of it
abbrev pub starts_in : List (PassView Object) → ℕ → Option Start
starts_in passes o = option_and_then (λ p. start_of object_start p.id) (slice_get passes o)

abbrev pub views_in : List (PassView Object) → ℕ → View
views_in passes o = option_map_or view_of (slice_get passes o) (record { seen = []; made = []; visits = 0 })

-- a client before a call and after it
abbrev pub step_of : ClientView → ClientView → Step
step_of old new = record {
  starts = starts_in old.passes;
  old = views_in old.passes;
  new = views_in new.passes;
  before = old.who;
  after = new.who;
}

-- What calls on the stores leave: all of the passes but what they have seen and made and how often they were asked, the region, and the
-- stores there.
pub record Stays (old new : ClientView) : Type 0 where
  pub passes : map rest_of new.passes ≡ map rest_of old.passes
  pub region : new.region ≡ old.region
  pub here : new.here ≡ old.here

-- Just this call was made on the store, with span 0, and answered.
pub record Ships (step : Step) (object : ℕ) (call : Call) (answer : Answer) : Type 0 where
  pub answered : IsAnswered step (asking (record step.before { span = 0 }) object call) answer
  pub others : (o : ℕ) → (o ≡ object → ⊥) → step.new o ≡ step.old o
  pub caller : step.after ≡ caller_after (outcome_of answer) step.before

-- the looks of a barrier and of a dry run: at each store of the client's region of which it carries ids
abbrev pub looks_of : LiveView → ClientView → List PlannedLook
looks_of live client = plan (here_of client.region live.stores) client.lineage

-- A barrier that begins with no sight.
abbrev pub Barriers : LiveView → ClientView → ClientView → BarrierAnswer → Type 0
Barriers live old new answer = (left : List Sight) × BarrierDoes (step_of old new) old.region (looks_of live old) [] left answer

-- Clients that are made, and joined.

-- the first client of all
pub record IsFirst (live : LiveView) (region : ℕ) (client : ClientView) : Type 0 where
  pub of : IsOf live client
  pub passes : client.passes ≡ map (λ s. first_pass (id_of_shared s)) live.shareds
  pub who : client.who ≡ record { actor = Carrier 1; span = 1; clock = 0 }
  pub region_is : client.region ≡ region
  pub lineage : client.lineage ≡ []

-- the least room of these passes
abbrev pub least_room : List (PassView Object) → ℕ
least_room [] = 4294967294
least_room (pass ∷ rest) = min pass.room (least_room rest)

-- One client becomes two, each of their passes by a split. The new one is in its region, and carries nothing.
pub record IsSplitOff (live : LiveView) (region : ℕ) (old rest new : ClientView) : Type 0 where
  pub rest_of_it : IsOf live rest
  pub new_of_it : IsOf live new
  pub rest_is : rest ≡ record old { passes = rest.passes }
  pub split : (o : ℕ) (was left made : PassView Object) → slice_get old.passes o ≡ Some was → slice_get rest.passes o ≡ Some left → slice_get new.passes o ≡ Some made → IsSplit was left made
  pub region_is : new.region ≡ region
  pub lineage : new.lineage ≡ []
  pub span : new.who.span ≡ 1
  pub clock : new.who.clock ≡ 0

-- Two clients become one: each of their passes is joined. The one that stays goes on, with the later of the two clocks.
pub record IsJoinedTo (live : LiveView) (into from new : ClientView) : Type 0 where
  pub of : IsOf live new
  pub new_is : new ≡ record into { passes = new.passes; who = record into.who { clock = max into.who.clock from.who.clock } }
  pub joined : (o : ℕ) (one other both : PassView Object) → slice_get into.passes o ≡ Some one → slice_get from.passes o ≡ Some other → slice_get new.passes o ≡ Some both → IsJoined one other both

-- the client with what it carries
abbrev pub carries : List WriteId → ClientView → ClientView
carries lineage client = record client { lineage = lineage }

-- the client with an empty lineage, in the next span
abbrev pub begins_span : ClientView → ClientView
begins_span client = record client { lineage = []; who = record client.who { span = client.who.span + 1 } }

-- The end.

-- What is left of a store: the history that the client had seen, and the object, which stands for it. All entries are the client's, or
-- those of clients that were joined into it.
pub record IsLeft (pass : PassView Object) (kept : Object × Listed Entry) : Type 0 where
  pub start : start_of object_start pass.id ≡ Some (object_start kept.0)
  pub history_is : kept.1.items ≡ pass.seen
  pub stands : ObjectAt kept.0 kept.1.items
  pub own : All (λ e. 0 < times e.seat (numbers_of pass)) kept.1.items
  pub objects : All (λ e. e.object ≡ pass.id.object) kept.1.items
  pub knows : IsPass object_start pass

-- a pass that was answered that no other is out
abbrev pub asked_alone : PassView Object → PassView Object
asked_alone pass = with_count pass 1

-- A pass was asked once more how many are out, and this was the answer.
abbrev pub IsAsked : PassView Object → PassView Object → Type 0
IsAsked was now = (now ≡ with_count was now.out) × (0 < now.out)

-- whether a pass was answered that another is out
abbrev pub is_another_out : PassView Object → Bool
is_another_out pass = nat_lt 1 pass.out

-- What comes back where another client is out: the stores as they were, and the client, whose passes were each asked once more.
pub record ComesBack (live : LiveView) (client : ClientView) (back : LiveView × ClientView) : Type 0 where
  pub stores : back.0 ≡ live
  pub client_is : back.1 ≡ record client { passes = back.1.passes }
  pub asked : AllZip IsAsked client.passes back.1.passes
  pub another : list_any is_another_out back.1.passes ≡ true
