-- What is read of the messages.
use Rattle.std.proofs.Common.{◌≡◌, ℕ, ◌+◌, ◌-◌, ◌<◌, ◌≤◌, true, false, List, length, get_or, Some, slice_get, subst, ◌⊎◌, ⊎_elim, arith}
use Rattle.std.proofs.lemmas.Bool.{false_from_ne_true}
use Rattle.std.proofs.lemmas.Option.{slice_get_within, get_or_from_slice_get}
use Rattle.anti_kind.specs.Kinds.{facts_of}
use Rattle.anti_kind.specs.declared.entry.Entry.{Entry}
use Rattle.anti_kind.specs.Stored.{rows}
use Rattle.anti_kind.specs.Store.{Store, is_out}
use Rattle.anti_kind.specs.Objects.{store, IsLegal}
use Rattle.anti_kind.proofs.Handed.{out_within}
use Rattle.anti_queue.specs.declared.message_states.MessageState.{MessageState}
use Rattle.anti_queue.specs.declared.message_states.MessageStates.{MessageStates}
use Rattle.anti_queue.specs.inner.Marks.{IsMessage, AreMessages}

-- what is found for a version is its message
pub message_is : (m : MessageStates) (h : List Entry) → AreMessages m h → (v : ℕ) (x : MessageState) → 1 ≤ v → slice_get m.list.items (v - 1) ≡ Some x → IsMessage h v x
message_is m h are v x first is =
    let short : v - 1 < length m.list.items = slice_get_within m.list.items (v - 1) x is in
    let at : get_or m.list.items (v - 1) x ≡ x = get_or_from_slice_get m.list.items (v - 1) x x is in
    let number : v - 1 + 1 ≡ v = omega arith in
    subst (λ (n : ℕ). IsMessage h n x) number (subst (IsMessage h (v - 1 + 1)) at (are.each (v - 1) x short))

-- a version that was not written is not out
pub never_out : (s : Store) (h : List Entry) → (facts_of s.kind).tried ≡ true → IsLegal (store s) h → (v : ℕ) → (v ≡ 0) ⊎ (length (rows h) < v) → is_out h v ≡ false
never_out s h queue l v outside =
    false_from_ne_true (is_out h v) (λ out.
    let within : (1 ≤ v) × (v ≤ length (rows h)) = out_within s queue h l v out in
    ⊎_elim (λ (none : v ≡ 0). absurd (omega (arith, within.0))) (λ (above : length (rows h) < v). absurd (omega (arith, within.1))) outside)
