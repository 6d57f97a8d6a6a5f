-- Marks, answers and their counts, on worked traces: one whose reads are settled, one with a read that is not, and one that loses a write.
use Rattle.std.proofs.Common.{◌≡◌, ℕ, zero, suc, List, [], ◌∷◌, Contains, map, refl, ap, subst, arith}
use Rattle.std.specs.Prelude.{None, Some}
use Rattle.anti_ids.specs.Ids.{has_id}
use Rattle.anti_ids.specs.List.{plain}
use Rattle.anti_trace.specs.declared.mark.Mark.{Mark}
use Rattle.anti_lang.proofs.PlainLemmas.{block_again}
use Rattle.law_causal.specs.Settled.{IsSettled}
use Rattle.law_causal.proofs.WorkedLoss as loss
use Rattle.law_causal.proofs.WorkedNote as note
use Rattle.law_serial.specs.Order.{order_of}
use Rattle.law_serial.specs.Serial.{IsSettledRead}
use Rattle.law_serial.proofs.Worked.{order_with}
use Rattle.anti_order.specs.Answers.{AreMarksOf, IsAnswer, mark_at}
use Rattle.anti_order.specs.Counts.{how_many, is_lossy, is_ordered, is_unguarded}
use Rattle.anti_order.specs.declared.answer.OrderAnswer.{OrderAnswer}
use Rattle.anti_order.specs.declared.answer.OrderAnswer.TheVariants.{Lossy, Unguarded, Order}
use Rattle.anti_order.specs.declared.answer.SpanAnswer.{SpanAnswer}

-- ---- marks

abbrev marked : ℕ → ℕ → Mark
marked object place = record { object = object; place = place }

of_the_read : mark_at note.trace 8 ≡ Some (marked 0 4)
of_the_read = refl

past_the_end : mark_at note.trace 10 ≡ None
past_the_end = refl

-- ---- an order: the read is settled

-- the post, the note of it, and the read of the post
abbrev marks : List Mark
marks = marked 0 1 ∷ marked 1 1 ∷ marked 0 4 ∷ []

are_its_marks : AreMarksOf note.trace (order_of note.app note.trace (8 ∷ [])) marks
are_its_marks = ap (λ body. map (mark_at note.trace) (order_with note.app note.trace (8 ∷ []) body)) (block_again note.note_body)

settled : (r : ℕ) → Contains (8 ∷ []) r → IsSettledRead note.app note.trace r
settled r (zero, short, is) =
    subst (IsSettledRead note.app note.trace) is (record { entry = note.read; there = refl; read = refl; settled = note.settled })
settled r (suc k, short, is) = absurd (omega (arith, short))

ordered : IsAnswer note.app note.trace (8 ∷ []) (Order (plain marks))
ordered = (note.lossless, settled, are_its_marks)

-- where nothing is lost, no entry is named as the first loss
not_lossy : (mark : Mark) → IsAnswer note.app note.trace (8 ∷ []) (Lossy mark) → ⊥
not_lossy mark a =
    let has = note.lossless a.place a.entry a.there a.loses.hands a.loses.id a.loses.brought in
    let lost = a.loses.lost in
    absurd (cc)

-- ---- a read that is not settled

not_settled : IsSettledRead loss.unguarded loss.short 2 → ⊥
not_settled s =
    let there = s.there in
    let same : s.entry ≡ loss.read_own = cc in
    loss.not_settled (subst (IsSettled loss.unguarded loss.short 2) same s.settled)

unguarded : IsAnswer loss.unguarded loss.short (2 ∷ []) (Unguarded (marked 0 2))
unguarded = (
  loss.lossless,
  record {
    before = [];
    read = 2;
    after = [];
    cut = refl;
    settled = λ r none. absurd (omega (arith, none.1));
    unsettled = not_settled;
    marked = refl;
  },
)

-- so no order is answered for it
not_ordered : (marks : List Mark) → IsAnswer loss.unguarded loss.short (2 ∷ []) (Order (plain marks)) → ⊥
not_ordered marks a = not_settled (a.1 2 (0, omega arith, refl))

-- ---- a write that loses another

lossy : IsAnswer loss.lossy loss.long (4 ∷ []) (Lossy (marked 0 4))
lossy = record {
  place = 5;
  entry = loss.last;
  there = refl;
  marked = refl;
  loses = record { hands = refl; id = loss.its; brought = loss.came_to_last; lost = ap (has_id loss.its) loss.into_last };
  first = λ i a before at l.
      let has = loss.loses_none_before i a before at l.hands l.id l.brought in
      let lost = l.lost in
      absurd (cc);
}

-- then no other answer is given, whatever the reads
nothing_else : (reads : List ℕ) (mark : Mark) → IsAnswer loss.lossy loss.long reads (Unguarded mark) → ⊥
nothing_else reads mark a = loss.loses a.0

-- ---- counts

abbrev answered : OrderAnswer → SpanAnswer
answered answer = record { span = record { birth = record { object = 4; place = 1 }; span = 1 }; answer = answer }

abbrev answers : List SpanAnswer
answers = answered (Order (plain marks)) ∷ answered (Unguarded (marked 0 2)) ∷ answered (Order (plain [])) ∷ []

two_orders : how_many is_ordered answers ≡ 2
two_orders = refl

one_unguarded : how_many is_unguarded answers ≡ 1
one_unguarded = refl

none_lossy : how_many is_lossy answers ≡ 0
none_lossy = refl
