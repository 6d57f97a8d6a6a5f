use Rattle.std.proofs.Common.{◌≡◌, ◌+◌, ◌≤◌, ◌∙◌, List, length, true, refl, sym, arith}
use Rattle.std.specs.Prelude.{Ok}
use Rattle.anti_ids.specs.declared.limits.TheConstants.{MOST_UNITS}
use Rattle.anti_kind.specs.declared.entry.Entry.{Entry}
use Rattle.anti_play.proofs.Tried.{came_as}
use Rattle.anti_play.specs.Schedule.{chosen}
use Rattle.anti_play.specs.inner.Standing.{Chose, WorldStands}
use Rattle.anti_adversary.proofs.Made.{few_before, made_more, world_of}
use Rattle.anti_adversary.proofs.player.Player.make.Goals as goal
use Rattle.anti_adversary.proofs.player.Player.make.Goals.{In_ok-choose}

-- the choice was made
chose : (c : In_ok-choose) → c.in_ok-choose.field-0 ≡ true → (trace : List Entry) → WorldStands c.args.app.now c.args.self.now.world trace
    → Chose c.args.app.now trace (chosen c.args.app.now trace c.args.choice) (Ok true) c.choose.new.self
chose c made trace stands =
    came_as c.args.app.now trace (chosen c.args.app.now trace c.args.choice) c.choose.new.self c.in_ok-choose.field-0 true made
    (c.in_ok-choose.ensures.chose trace stands)

-- few entries are before its own
few : (c : In_ok-choose) → c.in_ok-choose.field-0 ≡ true → length c.in-Some-history.history.now ≤ MOST_UNITS + 1
few c made =
    few_before c.args.app.now c.args.self.now.world c.choose.new.self c.args.choice c.in-Some.object c.in-Some-history.history.now
    c.in-Some.ensures.some (c.in-Some-history.ensures.some c.args.app.now) (chose c made) (world_of c.args.app.now c.args.self.now c.requires.player)

pub overflow_cast-mark : goal.overflow_cast-mark
overflow_cast-mark c =
    let low : length c.in-Some-history.history.now ≤ MOST_UNITS + 1 = few ((goal.at.overflow_cast-mark c).In_ok-choose) c.if-not-branch.false in omega arith

pub overflow_add-mark : goal.overflow_add-mark
overflow_add-mark c =
    let low : length c.in-Some-history.history.now ≤ MOST_UNITS + 1 = few ((goal.at.overflow_add-mark c).In_ok-choose) c.if-not-branch.false in omega arith

pub returns : goal.returns
returns c = λ choices has.
    made_more c.args.app.now c.args.self.now.world c.choose.new.self c.args.choice c.in-Some.object c.in-Some-history.history.now
    c.in-Some.ensures.some (c.in-Some-history.ensures.some c.args.app.now) (chose ((goal.at.returns c).In_ok-choose) c.if-not-branch.false)
    c.args.self.now.marks (length c.in-Some-history.history.now + 1) c.add.new.self choices has
    (sym c.names_what_is_there.ensures ∙ c.if-not-names_what_is_there.false) refl c.in_ok-add.ensures.ok
