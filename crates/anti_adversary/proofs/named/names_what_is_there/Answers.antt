use Rattle.std.proofs.Common.{ℕ, refl, ap, ◌∙◌}
use Rattle.anti_adversary.proofs.Sounds.{again_sound, finish_sound, go_sound, numbered, pull_sound, repost_sound, repull_sound, ship_sound, take_sound}
use Rattle.anti_adversary.proofs.named.names_what_is_there.Goals as goal

pub returns-in-Take : goal.returns-in-Take
returns-in-Take c =
    take_sound c.args.app.now c.args.choice.now c.is_numbered.result c.len.result c.in-Take.service c.in-Take.nth c.in-Take.is c.len.ensures
    (c.is_numbered.ensures ∙ ap (λ (n : ℕ). numbered c.len.result c.in-Take.service n) c.from.ensures)

pub returns-in-Repost : goal.returns-in-Repost
returns-in-Repost c =
    repost_sound c.args.app.now c.args.choice.now c.is_numbered-in-Repost.result c.len-in-Repost.result c.in-Repost.service c.in-Repost.number
    c.in-Repost.is c.len-in-Repost.ensures
    (c.is_numbered-in-Repost.ensures ∙ ap (λ (n : ℕ). numbered c.len-in-Repost.result c.in-Repost.service n) c.from-in-Repost.ensures)

pub returns-in-Pull : goal.returns-in-Pull
returns-in-Pull c = pull_sound c.args.app.now c.args.choice.now _ c.len-in-Pull.result c.in-Pull.sub c.in-Pull.is c.len-in-Pull.ensures refl

pub returns-in-Repull : goal.returns-in-Repull
returns-in-Repull c =
    repull_sound c.args.app.now c.args.choice.now c.is_numbered-in-Repull.result c.len-in-Repull.result c.in-Repull.sub c.in-Repull.version
    c.in-Repull.is c.len-in-Repull.ensures c.is_numbered-in-Repull.ensures

pub returns-in-Ship : goal.returns-in-Ship
returns-in-Ship c =
    ship_sound c.args.app.now c.args.choice.now c.is_shipment.result c.in-Ship.store c.in-Ship.region c.in-Ship.version c.in-Ship.part
    c.in-Ship.is c.is_shipment.ensures

pub returns-in-Again : goal.returns-in-Again
returns-in-Again c =
    again_sound c.args.app.now c.args.choice.now c.is_shipment-in-Again.result c.in-Again.store c.in-Again.region c.in-Again.version
    c.in-Again.part c.in-Again.is c.is_shipment-in-Again.ensures

pub returns-in-Go : goal.returns-in-Go
returns-in-Go c =
    go_sound c.args.app.now c.args.choice.now c.is_birth.result c.in-Go.object c.in-Go.place c.in-Go.is c.is_birth.ensures

pub returns-in-Finish : goal.returns-in-Finish
returns-in-Finish c = finish_sound c.args.app.now c.args.choice.now c.in-Finish.is
