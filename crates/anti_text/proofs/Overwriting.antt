-- Bytes that are written over others, one piece behind another.
use Rattle.std.proofs.Common.{ℕ, List, ◌++◌, take, ap, ◌∙◌, arith, append_assoc, length-append}
use Rattle.anti_text.specs.inner.Overwritten.{Overwritten}

pub behind : {old middle new first second : List ℕ} {at edge end : ℕ} → Overwritten old middle at first edge → Overwritten middle new edge second end
    → Overwritten old new at (first ++ second) end
behind {old} {middle} {new} {first} {second} {at} p q = record {
  front = q.front ∙ ap (λ l. l ++ second) p.front ∙ append_assoc (take at old) first second;
  moved = omega (arith, p.moved, q.moved, length-append first second);
  kept = q.kept ∙ p.kept;
}
