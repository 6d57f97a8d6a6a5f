-- Small rows, by computation.
use Rattle.std.proofs.Common.{◌≡◌, true, false, [], ◌∷◌, refl}
use Rattle.anti_app.specs.declared.app.App.{App}
use Rattle.anti_app.specs.declared.app.Choice.TheVariants.{Finish}
use Rattle.anti_ids.specs.List.{empty}
use Rattle.anti_order.specs.declared.answer.OrderAnswer.TheVariants.{Lossy, Order}
use Rattle.anti_trace.specs.declared.mark.Mark.{Mark}
use Rattle.anti_adversary.specs.Runs.{run_of}
use Rattle.anti_adversary.specs.inner.Examining.{is_barred}

-- no choices make nothing, and `finish` is no wait
run_of_none : (app : App) → run_of app [] ≡ record { trace = []; waits = [] }
run_of_none app = refl

finish_no_wait : (app : App) → (run_of app (Finish ∷ [])).waits ≡ []
finish_no_wait app = refl

-- a loss bars an order, an order does not
barred_rows : (mark : Mark) → (is_barred (Lossy mark) ≡ true) × (is_barred (Order empty) ≡ false)
barred_rows mark = (refl, refl)
