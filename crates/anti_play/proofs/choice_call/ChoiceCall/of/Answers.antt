use Rattle.anti_app.proofs.Runnable.{can_run}
use Rattle.anti_kind.specs.declared.call.Call.TheVariants as calls
use Rattle.anti_app.specs.declared.app.Choice.TheVariants as choices
use Rattle.anti_play.specs.declared.choice_call.ChoiceCall.TheVariants.{Bears, Carries}
use Rattle.anti_play.proofs.Choose.{again_asks, asks_as, pull_asks, pull_named, repost_asks, repost_named, repull_asks, repull_named, ship_asks, take_asks, take_named}
use Rattle.anti_play.proofs.choice_call.ChoiceCall.of.Goals as goal

pub inbox_number-requires-clause-runs : goal.inbox_number-requires-clause-runs
inbox_number-requires-clause-runs c = can_run c.args.app.now c.requires.sound

pub inbox_number-requires-clause-named : goal.inbox_number-requires-clause-named
inbox_number-requires-clause-named c = take_named c.args.app.now c.args.choice.now c.in-Take.service c.in-Take.nth c.in-Take.is c.requires.named

pub returns-in-Take : goal.returns-in-Take
returns-in-Take c =
    asks_as c.args.app.now c.args.choice.now (choices.Take c.in-Take.service c.in-Take.nth)
    (Bears c.inbox_number.result (calls.Take c.in-Take.nth)) c.in-Take.is
    (take_asks c.args.app.now c.in-Take.service c.in-Take.nth _ c.inbox_number.ensures)

pub inbox_number-requires-in-Repost-clause-runs : goal.inbox_number-requires-in-Repost-clause-runs
inbox_number-requires-in-Repost-clause-runs c = can_run c.args.app.now c.requires.sound

pub inbox_number-requires-in-Repost-clause-named : goal.inbox_number-requires-in-Repost-clause-named
inbox_number-requires-in-Repost-clause-named c =
    repost_named c.args.app.now c.args.choice.now c.in-Repost.service c.in-Repost.number c.in-Repost.is c.requires.named

pub returns-in-Repost : goal.returns-in-Repost
returns-in-Repost c =
    asks_as c.args.app.now c.args.choice.now (choices.Repost c.in-Repost.service c.in-Repost.number)
    (Carries c.inbox_number-in-Repost.result (calls.Repost c.in-Repost.number)) c.in-Repost.is
    (repost_asks c.args.app.now c.in-Repost.service c.in-Repost.number _ c.inbox_number-in-Repost.ensures)

pub at-requires : goal.at-requires
at-requires c = pull_named c.args.app.now c.args.choice.now c.in-Pull.sub c.in-Pull.is c.requires.named

pub returns-in-Pull : goal.returns-in-Pull
returns-in-Pull c =
    asks_as c.args.app.now c.args.choice.now (choices.Pull c.in-Pull.sub)
    (Bears c.at.result.now.store (calls.Pull c.position_on-sub.result)) c.in-Pull.is
    (pull_asks c.args.app.now c.in-Pull.sub c.position_on-sub.result c.at.result.now c.at.ensures c.position_on-sub.ensures)

pub at-requires-in-Repull : goal.at-requires-in-Repull
at-requires-in-Repull c = repull_named c.args.app.now c.args.choice.now c.in-Repull.sub c.in-Repull.version c.in-Repull.is c.requires.named

pub returns-in-Repull : goal.returns-in-Repull
returns-in-Repull c =
    asks_as c.args.app.now c.args.choice.now (choices.Repull c.in-Repull.sub c.in-Repull.version)
    (Bears c.at-in-Repull.result.now.store (calls.Repull c.position_on-sub-in-Repull.result c.in-Repull.version)) c.in-Repull.is
    (repull_asks c.args.app.now c.in-Repull.sub c.position_on-sub-in-Repull.result c.at-in-Repull.result.now c.at-in-Repull.ensures
    c.position_on-sub-in-Repull.ensures c.in-Repull.version)

pub returns-in-Ship : goal.returns-in-Ship
returns-in-Ship c =
    asks_as c.args.app.now c.args.choice.now (choices.Ship c.in-Ship.store c.in-Ship.region c.in-Ship.version c.in-Ship.part)
    (Carries c.in-Ship.store (calls.Ship c.in-Ship.region c.in-Ship.version c.unwrap_or-part.result)) c.in-Ship.is
    (ship_asks c.args.app.now c.in-Ship.store c.in-Ship.region c.in-Ship.version c.in-Ship.part c.unwrap_or-part.result c.unwrap_or-part.ensures)

pub returns-in-Again : goal.returns-in-Again
returns-in-Again c =
    asks_as c.args.app.now c.args.choice.now (choices.Again c.in-Again.store c.in-Again.region c.in-Again.version c.in-Again.part)
    (Carries c.in-Again.store (calls.Again c.in-Again.region c.in-Again.version c.unwrap_or-part-in-Again.result)) c.in-Again.is
    (again_asks c.args.app.now c.in-Again.store c.in-Again.region c.in-Again.version c.in-Again.part c.unwrap_or-part-in-Again.result
    c.unwrap_or-part-in-Again.ensures)
