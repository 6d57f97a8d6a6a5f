use Rattle.std.proofs.Common.{arith, refl, ap, sym, ◌∙◌}
use Rattle.std.proofs.lemmas.Grind.{common_steps}
use Rattle.anti_proc.specs.Trees.{Make}
use Rattle.anti_play.proofs.GoOn.{IsFound, go_over, stops_over}
use Rattle.anti_play.proofs.world.World.go_on.Goals as goal
use Rattle.anti_play.proofs.world.World.go_on.Goals.{After-get-process}

-- the process is the one that was found
goes : (c : After-get-process) → IsFound c.args.self.now c.args.birth c.args.at c.get-process.result.now
goes c = record { found = c.requires.found; is = c.get-process.ensures }

pub returns-in_default-clause-chose : goal.returns-in_default-clause-chose
returns-in_default-clause-chose c = λ trace s.
    go_over c.args.app.now c.args.self.now trace c.args.birth c.args.at c.get-process.result.now s (goes ((goal.at.returns-in_default-clause-chose c).After-get-process)) c.requires.sound
    (c.in_default.ensures.none c.args.app.now)

pub returns-in_default-clause-ended : goal.returns-in_default-clause-ended
returns-in_default-clause-ended c = λ trace s.
    stops_over c.args.app.now c.args.self.now trace c.args.birth c.args.at c.get-process.result.now s (goes ((goal.at.returns-in_default-clause-ended c).After-get-process))
    (c.in_default.ensures.none c.args.app.now)

pub get-process-requires-clause-at : goal.get-process-requires-clause-at
get-process-requires-clause-at c = grind (arith, common_steps)

pub returns-in_err-copy-clause-chose : goal.returns-in_err-copy-clause-chose
returns-in_err-copy-clause-chose c = grind arith

pub make_next-requires-clause-next : goal.make_next-requires-clause-next
make_next-requires-clause-next c = record {
  process = c.get-process.result.now;
  there = c.get-process.ensures;
  going = c.in-Some.ensures.going;
  asks = λ app. c.in-Some.ensures.some app ∙ ap (Make c.in-Some.asked.object c.in-Some.asked.span) (sym c.in_ok-copy.ensures);
  actor = refl;
  clock = c.clock.ensures;
}
