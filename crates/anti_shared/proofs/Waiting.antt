-- What a pass keeps while its call waits.
use Rattle.std.proofs.Common.{◌≡◌, ℕ, ◌+◌, ◌≤◌, List, [], ◌∷◌, ◌++◌, All, Option, None, Some, refl, sym, ap, subst, ◌∙◌, ⊎_elim, inl, inr, arith}
use Rattle.anti_ids.specs.Counts.{Rose}
use Rattle.anti_kind.specs.declared.asking.Asking.{Asking}
use Rattle.anti_kind.specs.declared.entry.Entry.{Entry}
use Rattle.anti_kind.specs.declared.port.Answer.{Answer}
use Rattle.anti_kind.specs.declared.port.Answer.TheVariants.{Made, Refused, NoMemory}
use Rattle.anti_kind.specs.declared.refusal.Refusal.TheVariants.{NotYet}
use Rattle.anti_kind.specs.Objects.{Start, IsLegal}
use Rattle.anti_kind.specs.Ports.{View, IsRefused, Answers, Answered}
use Rattle.anti_kind.specs.Entries.{entry_of}
use Rattle.anti_kind.proofs.Histories.{legal_front}
use Rattle.anti_turn.specs.Lists.{IsFront}
use Rattle.anti_turn.proofs.Fronts.{front_self, front_trans}
use Rattle.anti_shared.specs.Passes.{Identity, PassView, start_of, view_of, after_calls, after_call}

-- it has seen more, and made no call
pub record Waits {M : Type 0} (old now : PassView M) : Type 0 where
  pub front : IsFront old.seen now.seen
  pub now_is : now ≡ after_calls old now.seen old.mine now.raised now.visits
  pub visits : old.visits ≤ now.visits

-- the same of what a port over it has seen and made
record Since (old now : View) : Type 0 where
  front : IsFront old.seen now.seen
  made : now.made ≡ old.made
  visits : old.visits ≤ now.visits

rose_since : (a b c : ℕ) → a ≤ b → Rose b c → Rose a c
rose_since a b c le rose = ⊎_elim (λ less. inl (omega arith)) (λ last. inr last) rose

module _ (start : Start) (q : Asking) (old now new : View) (since : Since old now) where
  refused_since : IsRefused now new → IsRefused old new
  refused_since r = record {
    front = front_trans old.seen now.seen new.seen since.front r.front;
    made = r.made ∙ since.made;
    visits = rose_since old.visits now.visits new.visits since.visits r.visits;
  }

  answers_since : (a : Answer) → Answers start q now new a → Answers start q old new a
  answers_since (Made place stamp reply) (h, (seat, m)) = (
    h,
    (
      seat,
      record {
        front = front_trans old.seen now.seen h since.front m.front;
        follows = m.follows;
        stamp = m.stamp;
        seen = m.seen;
        made = m.made ∙ ap (λ (es : List Entry). es ++ entry_of q seat place stamp reply ∷ []) since.made;
        visits = rose_since old.visits now.visits new.visits since.visits m.visits;
      },
    ),
  )
  answers_since (Refused refusal) answers = (refused_since answers.0, answers.1)
  answers_since NoMemory answers = record {
    front = front_trans old.seen now.seen new.seen since.front answers.front;
    made = answers.made ∙ since.made;
    visits = omega (arith, since.visits, answers.visits);
    goes = answers.goes;
  }

legal_since : (start : Start) (xs ys : List Entry) → IsFront xs ys → IsLegal start ys → IsLegal start xs
legal_since start xs ys front legal = legal_front start xs front.0 (subst (IsLegal start) front.1 legal)

answered_since : (s : Option Start) (q : Asking) (old now new : View) (a : Answer) → Since old now → (a ≡ Refused NotYet → ⊥) → Answered s q now new a → Answered s q old new a
answered_since None q old now new a since waits answered = absurd (waits answered.0)
answered_since (Some start) q old now new a since waits answered =
    (answers_since start q old now new since a answered.0, legal_since start old.seen now.seen since.front answered.1, answered.2)

-- nothing was made yet
still_front : (s : Option Start) (q : Asking) (old new : View) → Answered s q old new (Refused NotYet) → IsFront old.seen new.seen × (new.made ≡ old.made)
still_front None q old new answered = subst (λ (v : View). IsFront old.seen v.seen × (v.made ≡ old.made)) (sym answered.1) (front_self old.seen, refl)
still_front (Some start) q old new answered = (answered.0.0.front, answered.0.0.made)

module _ {M : Type 0} (start : M → Start) where
  since : (old now : PassView M) → Waits old now → Since (view_of old) (view_of now)
  since old now w = record { front = w.front; made = ap (λ (p : PassView M). p.mine) w.now_is; visits = w.visits }

  pub waits_first : (pass : PassView M) → Waits pass pass
  waits_first pass = record { front = front_self pass.seen; now_is = refl; visits = omega arith }

  pub waits_on : (q : Asking) (old now new : PassView M) → Waits old now → Answered (start_of start now.id) q (view_of now) (view_of new) (Refused NotYet)
      → new ≡ after_call now new.seen new.mine new.raised → Waits old new
  waits_on q old now new w answered is =
      let s = still_front (start_of start now.id) q (view_of now) (view_of new) answered in
      let mine : new.mine ≡ old.mine = s.1 ∙ ap (λ (p : PassView M). p.mine) w.now_is in
      let visits : new.visits ≡ now.visits + 1 = ap (λ (p : PassView M). p.visits) is in
      record {
        front = front_trans old.seen now.seen new.seen w.front s.0;
        now_is = is ∙ ap (λ (p : PassView M). after_call p new.seen new.mine new.raised) w.now_is ∙ (λ i. after_calls old new.seen (mine i) new.raised (sym visits i));
        visits = omega (arith, w.visits);
      }

  pub since_answered : (q : Asking) (old now new : PassView M) (a : Answer) → Waits old now → (a ≡ Refused NotYet → ⊥) → Answered (start_of start now.id) q (view_of now) (view_of new) a
      → Answered (start_of start old.id) q (view_of old) (view_of new) a
  since_answered q old now new a w waits answered =
      subst (λ (i : Identity M). Answered (start_of start i) q (view_of old) (view_of new) a) (ap (λ (p : PassView M). p.id) w.now_is)
      (answered_since (start_of start now.id) q (view_of old) (view_of now) (view_of new) a (since old now w) waits answered)

module _ {M : Type 0} where
  pub since_pass : (old now new : PassView M) → Waits old now → new ≡ after_call now new.seen new.mine new.raised → new ≡ after_calls old new.seen new.mine new.raised new.visits
  since_pass old now new w is =
      let visits : new.visits ≡ now.visits + 1 = ap (λ (p : PassView M). p.visits) is in
      is ∙ (λ i. after_calls (w.now_is i) new.seen new.mine new.raised (sym visits i))

  pub since_own : (old now new : PassView M) → Waits old now → All (λ e. e.seat ≡ now.number) new.mine → All (λ e. e.seat ≡ old.number) new.mine
  since_own old now new w own = subst (λ (n : ℕ). All (λ e. e.seat ≡ n) new.mine) (ap (λ (p : PassView M). p.number) w.now_is) own
