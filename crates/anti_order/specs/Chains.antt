-- Orders of reads of which each is causally before the next.
use Rattle.std.specs.Prelude.{ℕ, List}
use Rattle.anti_kind.specs.declared.entry.Entry.{Entry}
use Rattle.anti_app.specs.declared.app.App.{App}
use Rattle.law_serial.specs.Causes.{IsChain}
use Rattle.anti_order.specs.declared.answer.OrderAnswer.{OrderAnswer}
use Rattle.anti_order.specs.Answers.{IsAnswer, IsExplained}

-- Each order that is answered for reads of which each is causally before the next explains them.
abbrev pub ChainsAreExplained : App → List Entry → Type 0
ChainsAreExplained app trace =
    (reads : List ℕ) → IsChain trace reads → (answer : OrderAnswer) → IsAnswer app trace reads answer → IsExplained trace reads answer
