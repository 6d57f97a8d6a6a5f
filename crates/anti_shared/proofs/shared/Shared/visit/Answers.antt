use Rattle.std.proofs.Common.{◌≡◌, ℕ, ap, sym, ◌∙◌, subst}
use Rattle.anti_kind.specs.declared.entry.Entry.{Entry}
use Rattle.anti_kind.specs.Objects.{IsLegal}
use Rattle.anti_kind.specs.Ports.{Answered}
use Rattle.anti_kind.specs.Records.{Gives}
use Rattle.anti_kind.proofs.Histories.{legal_front}
use Rattle.anti_turn.specs.Lists.{Adds, top}
use Rattle.anti_turn.specs.Places.{Place, without_turn}
use Rattle.anti_shared.specs.Passes.{PassView, HasLoaded, seat_of, start_of, view_of}
use Rattle.anti_shared.specs.inner.Seating.{pass_of}
use Rattle.anti_shared.proofs.Seated.{visited_seat, seated_visit, visited_pass, visited_own, told_there, has_loaded, started}
use Rattle.anti_shared.proofs.Answering.{adds, reached_still, answered, ended_stay}
use Rattle.anti_shared.proofs.shared.Shared.visit.Goals as goal
use Rattle.anti_shared.proofs.shared.Shared.visit.Goals.{After-offer-answer, After-tell}
use Rattle.anti_shared.proofs.shared.Shared.visit.Given as given

-- what was answered under the turn, to the number of the seat
offered : (g : given.Over) (c : After-offer-answer g)
    → Gives (g.M.Machine.start c.enter-held.result.value.first) c.enter-held.result.value.history c.pass.inside.seat.number c.args.asking c.offer-answer.new.self.history c.offer-answer.result
offered g c =
    subst (λ (n : ℕ). Gives (g.M.Machine.start c.enter-held.result.value.first) c.enter-held.result.value.history n c.args.asking c.offer-answer.new.self.history c.offer-answer.result)
    c.number-number.ensures.is c.offer-answer.ensures.gives

-- what the seat had seen is a front of what was found
seen_legal : (g : given.Over) (c : After-offer-answer g) → IsLegal (g.M.Machine.start c.enter-held.result.value.first) c.pass.inside.seat.seen
seen_legal g c =
    let front = c.enter-held.ensures.list.front in
    legal_front (g.M.Machine.start c.enter-held.result.value.first) c.pass.inside.seat.seen front.0 (subst (IsLegal (g.M.Machine.start c.enter-held.result.value.first)) front.1 c.offer-answer.ensures.before)

left_seat : (g : given.Over) (c : After-tell g) → c.leave.new.seat ≡ visited_seat c.pass.inside.seat c.offer-answer.new.self.history c.pass.inside.seat.raised
left_seat g c = c.leave.ensures ∙ ap (λ (s : Place Entry (ℕ × g.row.M.Denot)). without_turn s c.offer-answer.new.self.history) c.enter-held.ensures.seat

moved : (g : given.Over) (c : After-tell g) → c.tell.new.seat ≡ visited_seat c.pass.inside.seat c.offer-answer.new.self.history c.tell.new.seat.raised
moved g c = c.tell.ensures.seat ∙ ap (λ (s : Place Entry (ℕ × g.row.M.Denot)). record s { raised = c.tell.new.seat.raised }) (left_seat g c)

pub leave-requires-clause-list : goal.leave-requires-clause-list
leave-requires-clause-list g c =
    let d = (goal.at.leave-requires-clause-list g c).After-offer-answer in
    subst (λ (s : Place Entry (ℕ × g.row.M.Denot)). Adds seat_of s.number s.seen c.offer-answer.new.self.history) (sym c.enter-held.ensures.seat)
    (adds (g.M.Machine.start c.enter-held.result.value.first) c.args.asking c.pass.inside.seat.number c.enter-held.result.value.history c.offer-answer.new.self.history
    c.offer-answer.result (offered g d))

pub invariant_of-pass : goal.invariant_of-pass
invariant_of-pass g c =
    let start = g.M.Machine.start in
    let seat = c.pass.inside.seat in
    let left = c.offer-answer.new.self.history in
    let part : ℕ × g.row.M.Denot = (c.enter-held.result.value.object, c.enter-held.result.value.first) in
    seated_visit start seat c.tell.new.seat c.pass.inside.raised c.tell.new.raised part left (moved g c) c.enter-held.ensures.fixed c.offer-answer.ensures.after
    (told_there start seat c.leave.new.seat part left c.tell.new.seat.raised (left_seat g c) c.enter-held.ensures.fixed c.tell.ensures.told) c.tell.ensures.noted c.pass.invariant

pub returns-clause-answered : goal.returns-clause-answered
returns-clause-answered g c =
    let at = goal.at.returns-clause-answered g c in
    let start = g.M.Machine.start in
    let seat = c.pass.inside.seat in
    let part : ℕ × g.row.M.Denot = (c.enter-held.result.value.object, c.enter-held.result.value.first) in
    let is = started start seat part c.enter-held.ensures.fixed in
    subst (λ (z : PassView g.row.M.Denot × Place Entry (ℕ × g.row.M.Denot)). Answered (start_of start z.0.id) c.args.asking (view_of z.0) (view_of (pass_of z.1)) c.offer-answer.result)
    (λ i. (c.pass.view_is i, sym (moved g c) i))
    (answered (start part.1) c.args.asking seat.number c.enter-held.result.value.history c.offer-answer.new.self.history seat.seen seat.ended seat.visits
    c.enter-held.ensures.list (start_of start (pass_of seat).id) is c.offer-answer.result (offered g at.After-offer-answer) (seen_legal g at.After-offer-answer) c.offer-answer.ensures.after)

pub returns-clause-pass : goal.returns-clause-pass
returns-clause-pass g c =
    let at = goal.at.returns-clause-pass g c in
    let seat = c.pass.inside.seat in
    visited_pass seat c.tell.new.seat c.args.pass.now c.offer-answer.new.self.history c.pass.view_is (moved g c)
    (ended_stay (g.M.Machine.start c.enter-held.result.value.first) c.args.asking seat.number c.enter-held.result.value.history c.offer-answer.new.self.history seat.seen seat.ended seat.visits
    c.enter-held.ensures.list c.pass.invariant.distinct c.offer-answer.result (offered g at.After-offer-answer))

pub returns-clause-own : goal.returns-clause-own
returns-clause-own g c =
    let at = goal.at.returns-clause-own g c in
    visited_own c.pass.inside.seat c.tell.new.seat c.args.pass.now c.offer-answer.new.self.history c.pass.view_is (moved g c)

pub returns-clause-loaded : goal.returns-clause-loaded
returns-clause-loaded g c =
    let at = goal.at.returns-clause-loaded g c in
    let start = g.M.Machine.start in
    let seat = c.pass.inside.seat in
    let part : ℕ × g.row.M.Denot = (c.enter-held.result.value.object, c.enter-held.result.value.first) in
    subst (λ (z : PassView g.row.M.Denot × Place Entry (ℕ × g.row.M.Denot)). HasLoaded start z.0 z.1.seen) (λ i. (c.pass.view_is i, sym (moved g c) i))
    (has_loaded start seat part c.offer-answer.new.self.history c.enter-held.ensures.fixed
    (λ region. reached_still (start part.1) c.args.asking seat.number c.enter-held.result.value.history c.offer-answer.new.self.history c.offer-answer.result
    (offered g at.After-offer-answer) region (top region seat.loaded) (c.enter-held.ensures.loaded region)))
