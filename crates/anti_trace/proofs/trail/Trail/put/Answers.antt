use Rattle.std.proofs.Common.{List, refl, subst}
use Rattle.std.specs.Prelude.{IfSome, Option}
use Rattle.anti_ids.specs.declared.id.WriteId.{WriteId}
use Rattle.anti_trace.specs.declared.trail.OnObject.{OnObject}
use Rattle.anti_trace.specs.inner.Trails.{HasRoomAt, has_room}
use Rattle.anti_trace.proofs.Trails.{becomes_none, becomes_put, object_is}
use Rattle.anti_trace.proofs.trail.Trail.put.Goals as goal

pub returns-in_default : goal.returns-in_default
returns-in_default c = becomes_none c.args.self.now c.args.object c.args.carried c.in_default.not-Some

pub push_reserved-requires : goal.push_reserved-requires
push_reserved-requires c =
    let t = c.args.self.now in
    let here : OnObject = c.index_mut-here.result.now in
    subst has_room (object_is t c.args.object here here c.index_mut-here.ensures.value c.requires.object)
    (subst (λ (ids : Option (List WriteId)). IfSome ids (λ _. HasRoomAt t c.args.object)) c.in-Some.is c.requires.room)

pub returns : goal.returns
returns c =
    let here : OnObject = c.index_mut-here.result.now in
    let new : OnObject = record { carried = c.push_reserved.new.self } in
    becomes_put c.args.self.now c.args.object here new c.index_mut-here.ensures.value c.requires.object _ refl refl c.args.carried c.in-Some.ids c.in-Some.is
    c.push_reserved.ensures.items
