use Rattle.std.proofs.Common.{◌+◌, ◌∷◌, ◌++◌, [], max, length, refl, sym, ap, subst, ◌∙◌}
use Rattle.anti_kind.specs.declared.entry.Entry.{Entry}
use Rattle.anti_kind.specs.Objects.{Follows, last_stamp}
use Rattle.anti_kind.specs.Entries.{entry_of}
use Rattle.anti_kind.proofs.Making.{made_follows}
use Rattle.anti_kind.proofs.recorded.Recorded.go.Goals as goal
use Rattle.anti_kind.proofs.recorded.Recorded.go.Goals.{After-entry-entry}
use Rattle.anti_kind.proofs.recorded.Recorded.go.Given as given

abbrev entry : (g : given.Over) (c : After-entry-entry g) → Entry
entry g c =
    entry_of c.args.asking c.args.seat (length c.args.self.now.history + 1) (max c.args.asking.clock (last_stamp c.args.self.now.history) + 1) c.in-Ok-copy.due

follows : (g : given.Over) (c : After-entry-entry g) → Follows (g.M.Machine.start c.args.self.now.machine) c.args.self.now.history (entry g c)
follows g c =
    made_follows (g.M.Machine.start c.args.self.now.machine) c.args.self.now.history c.args.asking c.args.seat
    (length c.args.self.now.history + 1) (max c.args.asking.clock (last_stamp c.args.self.now.history) + 1) c.in-Ok-copy.due c.requires.goes refl refl (c.in-Ok-copy.ensures.is ∙ c.in-Ok.ensures.due)

pub make-requires-clause-follows : goal.make-requires-clause-follows
make-requires-clause-follows g c =
    let d = (goal.at.make-requires-clause-follows g c).After-entry-entry in
    subst (Follows (g.M.Machine.start c.args.self.now.machine) c.args.self.now.history) (sym c.entry-entry.ensures) (follows g d)

pub returns-clause-gives : goal.returns-clause-gives
returns-clause-gives g c =
    let d = (goal.at.returns-clause-gives g c).After-entry-entry in
    let h = c.args.self.now.history in
    let is = c.entry-entry.ensures in
    let place = ap (λ (e : Entry). e.place) is in
    let stamp = ap (λ (e : Entry). e.stamp) is in
    let reply = sym c.in-Ok-copy.ensures.is in
    let made = c.in-Ok-make.ensures.made ∙ ap (λ (e : Entry). h ++ e ∷ []) is in
    rw (place, stamp, reply) (follows g d, refl, made)
