use Rattle.std.proofs.Common.{◌≡◌, OnOk, sym, subst, true}
use Rattle.anti_app.specs.declared.app.Choice.{Choice}
use Rattle.anti_trace.specs.Legal.{bears, carries}
use Rattle.anti_trace.specs.inner.Living.{lists}
use Rattle.anti_play.specs.declared.choice_call.ChoiceCall.TheVariants.{GoesOn}
use Rattle.anti_play.specs.Schedule.{bearing, carrying, chosen}
use Rattle.anti_play.specs.inner.Choosing.{AsksFor, IsAskedAs}
use Rattle.anti_play.specs.inner.Standing.{Chose, StopsBy}
use Rattle.anti_play.proofs.Choose.{asked_made, asked_stops}
use Rattle.anti_play.proofs.world.World.choose.Goals as goal
use Rattle.anti_play.proofs.world.World.choose.Goals.{In-Bears, In-Carries, In-GoesOn}

-- what the choice asks for
birth : (c : In-Bears) → (bears c.in-Bears.call ≡ true) × IsAskedAs c.args.app.now c.args.choice.now (λ trace. bearing trace c.in-Bears.object c.in-Bears.call)
birth c = subst (AsksFor c.args.app.now c.args.choice.now) c.in-Bears.is c.of.ensures

carriage : (c : In-Carries) → (carries c.in-Carries.call ≡ true) × IsAskedAs c.args.app.now c.args.choice.now (λ trace. carrying trace c.in-Carries.object c.in-Carries.call)
carriage c = subst (AsksFor c.args.app.now c.args.choice.now) c.in-Carries.is c.of.ensures

pub bear-requires-clause-born : goal.bear-requires-clause-born
bear-requires-clause-born c = (birth ((goal.at.bear-requires-clause-born c).In-Bears)).0

pub returns-in-Bears-clause-chose : goal.returns-in-Bears-clause-chose
returns-in-Bears-clause-chose c = λ trace s.
    asked_made c.args.app.now c.args.choice.now _ (birth ((goal.at.returns-in-Bears-clause-chose c).In-Bears)).1 trace _ _ (c.bear.ensures trace s)

pub returns-in-Bears-clause-ended : goal.returns-in-Bears-clause-ended
returns-in-Bears-clause-ended c = λ trace s.
    asked_stops c.args.app.now c.args.choice.now _ (birth ((goal.at.returns-in-Bears-clause-ended c).In-Bears)).1 trace _ _

pub carry-requires-clause-carried : goal.carry-requires-clause-carried
carry-requires-clause-carried c = (carriage ((goal.at.carry-requires-clause-carried c).In-Carries)).0

pub returns-in-Carries-clause-chose : goal.returns-in-Carries-clause-chose
returns-in-Carries-clause-chose c = λ trace s.
    asked_made c.args.app.now c.args.choice.now _ (carriage ((goal.at.returns-in-Carries-clause-chose c).In-Carries)).1 trace _ _
    (c.carry.ensures c.args.app.now trace c.requires.sound s)

pub returns-in-Carries-clause-ended : goal.returns-in-Carries-clause-ended
returns-in-Carries-clause-ended c = λ trace s.
    asked_stops c.args.app.now c.args.choice.now _ (carriage ((goal.at.returns-in-Carries-clause-ended c).In-Carries)).1 trace _ _

-- the process that it names
named : (c : In-GoesOn) → AsksFor c.args.app.now c.args.choice.now (GoesOn c.in-GoesOn.birth)
named c = subst (AsksFor c.args.app.now c.args.choice.now) c.in-GoesOn.is c.of.ensures

pub returns-in-GoesOn-clause-chose : goal.returns-in-GoesOn-clause-chose
returns-in-GoesOn-clause-chose c = λ trace s.
    subst (λ (x : Choice). Chose c.args.app.now trace (chosen c.args.app.now trace x) c.go.result c.go.new.self)
    (sym (named ((goal.at.returns-in-GoesOn-clause-chose c).In-GoesOn))) (c.go.ensures.chose trace s)

pub returns-in-GoesOn-clause-ended : goal.returns-in-GoesOn-clause-ended
returns-in-GoesOn-clause-ended c = λ trace s.
    subst (λ (x : Choice). OnOk c.go.result (StopsBy c.args.app.now trace x (lists c.go.new.self.processes)))
    (sym (named ((goal.at.returns-in-GoesOn-clause-ended c).In-GoesOn))) (c.go.ensures.ended trace s)
