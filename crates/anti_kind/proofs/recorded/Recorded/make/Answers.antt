use Rattle.std.proofs.Common.{◌≡◌, ◌+◌, refl, sym, ap, subst, ◌∙◌, arith}
use Rattle.anti_ids.specs.List.{Listed}
use Rattle.anti_ids.specs.ListCalls.{pushed, reserved}
use Rattle.anti_kind.specs.declared.entry.Entry.{Entry}
use Rattle.anti_kind.specs.Objects.{Start, Follows, IsLegal, owed, need}
use Rattle.anti_kind.specs.Records.{IsRecorded}
use Rattle.anti_kind.proofs.Histories.{legal_more}
use Rattle.anti_kind.proofs.Making.{recorded_more, owed_after}
use Rattle.anti_kind.proofs.recorded.Recorded.make.Goals as goal
use Rattle.anti_kind.proofs.recorded.Recorded.make.Goals.{After-reserve, After-put}
use Rattle.anti_kind.proofs.recorded.Recorded.make.Given as given

follows : (g : given.Over) (c : After-reserve g) → Follows (g.M.Machine.start c.self.inside.machine) c.self.inside.history.items c.args.entry
follows g c = rw (← c.self.view_is) at c.requires.follows

room_is : (g : given.Over) (c : After-reserve g) → c.args.room ≡ owed (g.M.Machine.start c.self.inside.machine) c.self.inside.history.items + need (g.M.Machine.start c.self.inside.machine) c.self.inside.history.items c.args.entry.call
room_is g c = rw (← c.self.view_is) at c.requires.room

pub apply-requires : goal.apply-requires
apply-requires g c =
    let f = follows g (goal.at.apply-requires g c).After-reserve in
    record {
      may = record { history = c.self.inside.history.items; stands_for = c.self.invariant.stands_for; is_ready = f.is_ready; fits = f.fits };
      is_due = f.reply;
    }

-- the reserved room is that of one entry at least
pub put-requires : goal.put-requires
put-requires g c =
    let d = (goal.at.put-requires g c).After-reserve in
    let at = c.self.invariant.stands_for in
    let spare = ap (λ (l : Listed Entry). l.spare) c.in_ok-reserve.ensures.ok in
    omega (arith, spare, room_is g d, owed_after (g.M.Machine.start c.self.inside.machine) c.self.inside.history.items c.args.entry at.sane at.legal (follows g d))

new_is : (g : given.Over) (c : After-put g) → c.put.new.self ≡ pushed (reserved c.self.inside.history c.args.room) c.args.entry
new_is g c = c.put.ensures ∙ ap (λ (l : Listed Entry). pushed l c.args.entry) c.in_ok-reserve.ensures.ok

pub returns-clause-legal : goal.returns-clause-legal
returns-clause-legal g c =
    let d = (goal.at.returns-clause-legal g c).After-put in
    let start = g.M.Machine.start c.self.inside.machine in
    let h = c.self.inside.history.items in
    let items = ap (λ (l : Listed Entry). l.items) (new_is g d) in
    rw (← c.self.view_is) (subst (IsLegal start) (sym items) (legal_more start h c.args.entry c.self.invariant.stands_for.legal (follows g (goal.at.returns-clause-legal g c).After-reserve)))

pub invariant_of-self-2 : goal.invariant_of-self-2
invariant_of-self-2 g c =
    let d = (goal.at.invariant_of-self-2 g c).After-reserve in
    let h = c.self.inside.history.items in
    let start = g.M.Machine.start c.self.inside.machine in
    let f = follows g d in
    subst (λ (s : Start). IsRecorded s (g.M.Machine.Stands c.apply.new.self) c.args.entry.stamp c.put.new.self) (sym c.apply.ensures.start)
    (recorded_more start (g.M.Machine.Stands c.self.inside.machine) (g.M.Machine.Stands c.apply.new.self) c.self.inside.last c.args.room c.self.inside.history c.put.new.self c.args.entry
    c.self.invariant f (c.in_ok-apply.ensures.stands h c.args.entry c.self.invariant.stands_for f refl refl) (room_is g d) (new_is g (goal.at.invariant_of-self-2 g c).After-put))
