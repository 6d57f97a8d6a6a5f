use Rattle.std.proofs.Common.{ℕ, ◌+◌, ◌<◌, sym, ap, ◌∙◌, length, arith}
use Rattle.std.specs.Prelude.{slice_get}
use Rattle.anti_app.proofs.Numbered.{from, from_it, from_next, get_behind}
use Rattle.anti_app.proofs.positions.number_on.Goals as goal
use Rattle.anti_app.proofs.positions.number_on.Goals.{then-is_number_on+else-left-eq0, else-is_number_on}

pub loop-number-preserved : goal.loop-number-preserved
loop-number-preserved c =
    let app = c.args.app.now in
    let store : ℕ = c.args.store in
    let n : ℕ = c.loop-number.number in
    let within : n < length app.subs.items = omega (arith, c.loop-number-test.true, c.len-number-end.ensures) in
    elim c.if-is_number_on.branch [
      | then-is_number_on+else-left-eq0 w ↦
          c.loop-number.invariant
          ∙ ap (λ ns. slice_get ns c.loop-number.left) (from_it app store n within (sym c.is_number_on.ensures ∙ w.if-is_number_on.true))
          ∙ get_behind n (from app store (n + 1)) c.loop-number.left w.if-left-eq0.false
          ∙ ap (slice_get (from app store (n + 1))) (sym w.left-is)
      | else-is_number_on w ↦
          c.loop-number.invariant
          ∙ ap (λ ns. slice_get ns c.loop-number.left) (from_next app store n within (sym c.is_number_on.ensures ∙ w.if-is_number_on.false))
          ∙ ap (slice_get (from app store (n + 1))) (sym w.left-is)
    ]
