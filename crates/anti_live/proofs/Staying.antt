-- What calls leave of a client.
use Rattle.std.proofs.Common.{◌≡◌, ℕ, ◌<◌, List, [], ◌∷◌, length, map, Some, Result, Ok, Err, refl, sym, ap, ◌∙◌, arith, inl, inr}
use Rattle.std.specs.Prelude.{slice_get, option_map}
use Rattle.std.proofs.lemmas.List.{length-map}
use Rattle.std.proofs.lemmas.Option.{slice_get-map, slice_get_within}
use Rattle.anti_kind.specs.declared.actor.Actor.TheVariants.{Carrier}
use Rattle.anti_kind.specs.declared.call.Call.{Call}
use Rattle.anti_object.specs.declared.object.Object.{Object}
use Rattle.anti_shared.specs.Passes.{Identity, PassView, rest_of}
use Rattle.anti_shim.specs.declared.caller.Caller.{Caller}
use Rattle.anti_shim.specs.declared.caller.Made.{Made}
use Rattle.anti_shim.specs.declared.fault.ShimFault.{ShimFault}
use Rattle.anti_shim.specs.Steps.{Step, IsAsked, MayAsk, caller_after}
use Rattle.anti_live.specs.Clients.{ClientView, IsClient, IsOf, LiveView, Stays, id_of_pass}
use Rattle.anti_live.specs.Stores.{here_of}
use Rattle.anti_live.proofs.Places.{item_at}

ids_of_rests : (passes : List (PassView Object)) → map id_of_pass (map rest_of passes) ≡ map id_of_pass passes
ids_of_rests [] = refl
ids_of_rests (pass ∷ passes) = ap (λ (ids : List (Identity Object)). pass.id ∷ ids) (ids_of_rests passes)

-- the passes are of the same objects
pub same_ids : (old new : List (PassView Object)) → map rest_of new ≡ map rest_of old → map id_of_pass new ≡ map id_of_pass old
same_ids old new same = sym (ids_of_rests new) ∙ ap (map id_of_pass) same ∙ ids_of_rests old

-- the client is of the same stores
pub still_of : (live : LiveView) (old new : ClientView) → Stays old new → IsOf live old → IsOf live new
still_of live old new stays of = record {
  passes = same_ids old.passes new.passes stays.passes ∙ of.passes;
  here = stays.here ∙ of.here ∙ ap (λ (region : ℕ). here_of region live.stores) (sym stays.region);
}

-- it is the same carrier
pub still_client : (old new : List (PassView Object)) (was is : Caller) → map rest_of new ≡ map rest_of old → is.actor ≡ was.actor → IsClient old was → IsClient new is
still_client old new was is same actor client pass at =
    let there : slice_get (map rest_of old) 0 ≡ Some (rest_of pass) =
    ap (λ (rests : List (PassView Object)). slice_get rests 0) (sym same) ∙ slice_get-map rest_of new 0 ∙ ap (option_map rest_of) at in
    let low : 0 < length old = (let many = slice_get_within (map rest_of old) 0 (rest_of pass) there in omega (arith, many, length-map old rest_of)) in
    let before = item_at old 0 low in
    let both : Some (rest_of before.0) ≡ Some (rest_of pass) = ap (option_map rest_of) (sym before.1) ∙ sym (slice_get-map rest_of old 0) ∙ there in
    let rests : rest_of before.0 ≡ rest_of pass = cc in
    actor ∙ client before.0 before.1 ∙ ap Carrier (ap (λ (p : PassView Object). p.number) rests)

-- a call leaves the actor
actor_after : (outcome : Result Made ShimFault) (who : Caller) → (caller_after outcome who).actor ≡ who.actor
actor_after (Ok made) who = refl
actor_after (Err fault) who = refl

pub asked_actor : (step : Step) (object : ℕ) (call : Call) (outcome : Result Made ShimFault) → IsAsked step object call outcome → step.after.actor ≡ step.before.actor
asked_actor step object call outcome asked = ap (λ (who : Caller). who.actor) asked.caller ∙ actor_after outcome step.before

pub may_asked_actor : (step : Step) (object : ℕ) (call : Call) (outcome : Result Made ShimFault) → MayAsk step object call outcome → step.after.actor ≡ step.before.actor
may_asked_actor step object call outcome (inl asked) = asked_actor step object call outcome asked
may_asked_actor step object call outcome (inr idle) = ap (λ (who : Caller). who.actor) idle.0.caller
