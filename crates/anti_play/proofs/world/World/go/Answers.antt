use Rattle.std.proofs.Common.{sym, ◌∙◌}
use Rattle.anti_trace.specs.inner.Living.{lists}
use Rattle.anti_trace.proofs.Followed.{found_there}
use Rattle.anti_play.proofs.GoOn.{none_goes, stops_none}
use Rattle.anti_play.proofs.world.World.go.Goals as goal

pub find-requires : goal.find-requires
find-requires c = record { app = c.args.app.now; trace = c.requires.world.trace; legal = c.requires.world.stands.run; are = c.requires.world.stands.processes }

pub go_on-requires-clause-object : goal.go_on-requires-clause-object
go_on-requires-clause-object c = found_there (lists c.args.self.now.processes) c.args.birth c.in-Some.at (sym c.find.ensures ∙ c.in-Some.is)

pub go_on-requires-clause-found : goal.go_on-requires-clause-found
go_on-requires-clause-found c = sym c.find.ensures ∙ c.in-Some.is

pub returns-in-None-clause-chose : goal.returns-in-None-clause-chose
returns-in-None-clause-chose c = λ trace s. none_goes c.args.app.now c.args.self.now trace c.args.birth s (sym c.find.ensures ∙ c.in-None.is)

pub returns-in-None-clause-ended : goal.returns-in-None-clause-ended
returns-in-None-clause-ended c = λ trace s. stops_none c.args.app.now c.args.self.now trace c.args.birth s (sym c.find.ensures ∙ c.in-None.is)
