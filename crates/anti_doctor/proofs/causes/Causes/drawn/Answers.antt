use Rattle.std.proofs.Common.{ℕ, List, sym, ap, ◌∙◌, subst}
use Rattle.std.specs.Prelude.{Option}
use Rattle.law_causal.specs.Words.{shown}
use Rattle.law_causal.specs.inner.Taken.{told}
use Rattle.anti_order.specs.inner.NumberSets.{room_for}
use Rattle.anti_doctor.specs.declared.passages.Passage.{Passage}
use Rattle.anti_doctor.specs.inner.Gathered.{AreClosed, IsReady, Joins, has_passed, have_kept}
use Rattle.anti_doctor.proofs.Closed.{all_drawn, ready_none, still_ready}
use Rattle.anti_doctor.proofs.causes.Causes.drawn.Goals as goal
use Rattle.anti_doctor.proofs.causes.Causes.drawn.Goals.{After-span_of}

-- the set is as it should be at first
begins : (c : After-span_of) → IsReady c.args.self.now c.in_ok-set.set
begins c =
    ready_none c.args.self.now (room_for c.len.result) c.in_ok-set.set c.in_ok-set.ensures.room
    (subst (λ (n : ℕ). AreClosed (room_for n) c.args.self.now) (sym c.len.ensures) c.requires.sets) c.in_ok-set.ensures.none

pub add_passed-requires : goal.add_passed-requires
add_passed-requires c = begins c

pub add_passed-requires-2 : goal.add_passed-requires-2
add_passed-requires-2 c =
    let causes = c.args.self.now in
    still_ready causes (has_passed causes c.span_of.result) c.in_ok-set.set c.add_passed.new.set
    (begins (goal.at.add_passed-requires-2 c).After-span_of) c.add_passed.ensures

pub add_shown-requires : goal.add_shown-requires
add_shown-requires c =
    let causes = c.args.self.now in
    still_ready causes (has_passed causes c.taken_of.result) c.add_passed.new.set c.add_passed-2.new.set
    (still_ready causes (has_passed causes c.span_of.result) c.in_ok-set.set c.add_passed.new.set
    (begins (goal.at.add_shown-requires c).After-span_of) c.add_passed.ensures)
    c.add_passed-2.ensures

pub add_told-requires : goal.add_told-requires
add_told-requires c =
    let causes = c.args.self.now in
    still_ready causes (have_kept causes c.args.writes.now (shown c.args.entry.now)) c.add_passed-2.new.set c.add_shown.new.set
    (still_ready causes (has_passed causes c.taken_of.result) c.add_passed.new.set c.add_passed-2.new.set
    (still_ready causes (has_passed causes c.span_of.result) c.in_ok-set.set c.add_passed.new.set
    (begins (goal.at.add_told-requires c).After-span_of) c.add_passed.ensures)
    c.add_passed-2.ensures)
    c.add_shown.ensures

pub returns : goal.returns
returns c =
    let causes = c.args.self.now in
    let writes = c.args.writes.now in
    let e = c.args.entry.now in
    let none : List ℕ = c.in_ok-set.set in
    let first : List ℕ = c.add_passed.new.set in
    let second : List ℕ = c.add_passed-2.new.set in
    let third : List ℕ = c.add_shown.new.set in
    let all : List ℕ = c.add_told.new.set in
    record {
      room = c.add_told.ensures.closed.room
          ∙ c.add_shown.ensures.closed.room
          ∙ c.add_passed-2.ensures.closed.room
          ∙ c.add_passed.ensures.closed.room
          ∙ c.in_ok-set.ensures.room
          ∙ ap room_for c.len.ensures;
      closed = still_ready causes (have_kept causes writes (told e)) third all
          (still_ready causes (have_kept causes writes (shown e)) second third
          (still_ready causes (has_passed causes c.taken_of.result) first second
          (still_ready causes (has_passed causes c.span_of.result) none first (begins (goal.at.returns c).After-span_of)
          c.add_passed.ensures)
          c.add_passed-2.ensures)
          c.add_shown.ensures)
          c.add_told.ensures;
      drawn = all_drawn causes writes e none first second third all c.in_ok-set.ensures.none
          (subst (λ (p : Option Passage). Joins causes.kept.items (has_passed causes p) none first) c.span_of.ensures c.add_passed.ensures)
          (subst (λ (p : Option Passage). Joins causes.kept.items (has_passed causes p) first second) c.taken_of.ensures
          c.add_passed-2.ensures)
          c.add_shown.ensures c.add_told.ensures;
    }
