-- How many spans have which answer.
use Rattle.std.specs.Prelude.{ℕ, Bool, true, false, List, count_by}
use Rattle.anti_order.specs.declared.answer.OrderAnswer.{OrderAnswer}
use Rattle.anti_order.specs.declared.answer.OrderAnswer.TheVariants.{Lossy, Unguarded, Order}
use Rattle.anti_order.specs.declared.answer.SpanAnswer.{SpanAnswer}

abbrev pub is_ordered : OrderAnswer → Bool
is_ordered (Order marks) = true
is_ordered answer = false

abbrev pub is_unguarded : OrderAnswer → Bool
is_unguarded (Unguarded mark) = true
is_unguarded answer = false

abbrev pub is_lossy : OrderAnswer → Bool
is_lossy (Lossy mark) = true
is_lossy answer = false

-- how many of these spans have such an answer
abbrev pub how_many : (OrderAnswer → Bool) → List SpanAnswer → ℕ
how_many test answers = count_by (λ a. test a.answer) answers
