-- What a pass is answered, from what the object answers under the turn.
use Rattle.std.proofs.Common.{◌≡◌, ◌≢◌, ℕ, ◌+◌, ◌<◌, ◌≤◌, List, [], ◌∷◌, ◌++◌, map, Option, Some, refl, sym, ap, subst, ◌∙◌, append-nil, inl, arith}
use Rattle.std.proofs.lemmas.List.Elements.{All-nil, All-cons}
use Rattle.anti_kind.specs.declared.asking.Asking.{Asking}
use Rattle.anti_kind.specs.declared.entry.Entry.{Entry}
use Rattle.anti_kind.specs.declared.port.Answer.{Answer}
use Rattle.anti_kind.specs.declared.port.Answer.TheVariants.{Made, Refused, NoMemory}
use Rattle.anti_kind.specs.Objects.{Start, IsLegal}
use Rattle.anti_kind.specs.Shipments.{upto}
use Rattle.anti_kind.specs.Ports.{View, IsRefused, Goes, Answers, Answered}
use Rattle.anti_kind.specs.Entries.{entry_of}
use Rattle.anti_kind.specs.Records.{Gives}
use Rattle.anti_turn.specs.Lists.{times, IsFront, GoesOn, Adds}
use Rattle.anti_turn.proofs.Fronts.{entries_of_others}
use Rattle.anti_shared.specs.Passes.{seat_of, calls_of}
use Rattle.anti_shared.specs.inner.Seating.{ended_in}
use Rattle.anti_shared.specs.inner.Reaching.{upto_rises}
use Rattle.anti_shared.proofs.Numbered.{times_first, times_later, ended_same, calls_more}

-- what a pass of the number n has seen and made
abbrev pub sight : ℕ → List Entry → ℕ → View
sight n seen visits = record { seen = seen; made = calls_of n seen; visits = visits }

module _ (start : Start) (q : Asking) (n : ℕ) (found left : List Entry) where
  -- nothing is added, or one entry of this number
  adds_none : left ≡ found → Adds seat_of n found left
  adds_none same = record { more = []; whole = same ∙ sym (append-nil found); own = All-nil (λ (e : Entry). seat_of e ≡ n) }

  pub adds : (a : Answer) → Gives start found n q left a → Adds seat_of n found left
  adds (Made place stamp reply) gives =
      let e = entry_of q n place stamp reply in
      record { more = e ∷ []; whole = gives.2; own = All-cons (λ (e : Entry). seat_of e ≡ n) e [] refl (All-nil (λ (e : Entry). seat_of e ≡ n)) }
  adds (Refused refusal) gives = adds_none gives.0
  adds NoMemory gives = adds_none gives.0

  -- what the history had reached it has reached still
  pub reached_still : (a : Answer) → Gives start found n q left a → (region most : ℕ) → most ≤ upto start found region → most ≤ upto start left region
  reached_still a gives region most there =
      let more = adds a gives in
      subst (λ (h : List Entry). most ≤ upto start h region) (sym more.whole) (let rises = upto_rises start region found more.more in omega arith)

  module _ (seen : List Entry) (ended : List ℕ) (visits : ℕ) (goes : GoesOn seat_of (n ∷ ended) seen found) where
    mine : calls_of n found ≡ calls_of n seen
    mine = goes.own n (let first = times_first n ended in omega arith)

    refused : left ≡ found → IsRefused (sight n seen visits) (sight n left (visits + 1))
    refused same = record {
      front = subst (IsFront seen) (sym same) goes.front;
      made = ap (calls_of n) same ∙ mine;
      visits = inl (omega arith);
    }

    answers : (a : Answer) → Gives start found n q left a → Answers start q (sight n seen visits) (sight n left (visits + 1)) a
    answers (Made place stamp reply) gives =
        let e = entry_of q n place stamp reply in (
          found,
          (
            n,
            record {
              front = goes.front;
              follows = gives.0;
              stamp = gives.1;
              seen = gives.2;
              made = ap (calls_of n) gives.2 ∙ calls_more n found e refl ∙ ap (λ (es : List Entry). es ++ e ∷ []) mine;
              visits = inl (omega arith);
            },
          ),
        )
    answers (Refused refusal) gives = (refused gives.0, rw gives.0 gives.1)
    answers NoMemory gives = record {
      front = (refused gives.0).front;
      made = (refused gives.0).made;
      visits = omega arith;
      goes = subst (λ (h : List Entry). Goes start h q) (sym gives.0) gives.1;
    }

    pub answered : (s : Option Start) → s ≡ Some start → (a : Answer) → Gives start found n q left a → IsLegal start seen → IsLegal start left
        → Answered s q (sight n seen visits) (sight n left (visits + 1)) a
    answered s is a gives legal later =
        subst (λ (t : Option Start). Answered t q (sight n seen visits) (sight n left (visits + 1)) a) (sym is) (answers a gives, legal, later)

    -- the calls of the passes that ended stay
    pub ended_stay : ((m : ℕ) → times m (n ∷ ended) ≤ 1) → (a : Answer) → Gives start found n q left a → map (ended_in left) ended ≡ map (ended_in seen) ended
    ended_stay distinct a gives =
        ended_same ended seen left (λ m stands.
        let apart : n ≢ m = λ same. absurd (
        let once = distinct n in
        let first = times_first n ended in
        let here : 0 < times n ended = subst (λ (k : ℕ). 0 < times k ended) (sym same) stands in omega arith) in
        entries_of_others seat_of n m apart found left (adds a gives) ∙ goes.own m (let later = times_later m n ended in omega arith))
