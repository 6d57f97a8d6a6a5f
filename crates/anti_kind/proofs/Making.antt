-- A port over one object: when a call is made, what it adds to the history, and what it answers.
use Rattle.std.proofs.Common.{◌≡◌, ℕ, ◌+◌, ◌-◌, ◌^◌, ◌<◌, ◌≤◌, max, min, true, List, [], ◌∷◌, ◌++◌, length, refl, sym, ap, subst, ◌∙◌, append-nil, eq-eqb, arith}
use Rattle.std.proofs.lemmas.Bool.{le-leb}
use Rattle.anti_ids.specs.List.{Listed}
use Rattle.anti_ids.specs.ListCalls.{pushed, reserved}
use Rattle.anti_ids.specs.declared.limits.TheConstants.{MOST_UNITS}
use Rattle.anti_kind.specs.declared.call.Reply.{Reply}
use Rattle.anti_kind.specs.declared.entry.Entry.{Entry}
use Rattle.anti_kind.specs.declared.port.Answer.{Answer}
use Rattle.anti_kind.specs.declared.port.Answer.TheVariants.{Made, Refused, NoMemory}
use Rattle.anti_kind.specs.Objects.{Start, ready, due, need, held, owed, fits, last_stamp, Follows, IsLegal}
use Rattle.anti_kind.specs.Starts.{IsStart}
use Rattle.anti_kind.specs.Ports.{View, IsFront, IsRefused, IsSpent, Goes, Answers, Answered}
use Rattle.anti_kind.specs.Entries.{entry_of}
use Rattle.anti_kind.specs.declared.asking.Asking.{Asking}
use Rattle.anti_ids.specs.Counts.{Rose}
use Rattle.anti_kind.specs.Records.{IsRecorded, Gives}
use Rattle.anti_kind.specs.Lones.{Alone, lone_start, lone_view}
use Rattle.anti_kind.proofs.Histories.{below_last, held_more, weighs, last_of_follows, legal_more}
use Rattle.anti_kind.proofs.Bounds.{units}

-- Whether a call is made.

module _ (start : Start) (h : List Entry) (q : Asking) (a b n : ℕ) (held_is : a ≡ held h) (owed_is : b ≡ owed start h) (need_is : n ≡ need start h q.call) (within : a + b + n ≤ MOST_UNITS) where
  it_fits : fits start h q.call ≡ true
  it_fits = le-leb (held h + owed start h + need start h q.call) MOST_UNITS (omega arith)

  -- a call that is ready goes, as long as there are stamps
  pub goes : ready start h q.call ≡ true → max q.clock (last_stamp h) < 2 ^ 64 - 1 → Goes start h q
  goes can stamps = record { is_ready = can; fits = it_fits; stamp = stamps }

  pub is_spent : (last : ℕ) → ready start h q.call ≡ true → last ≡ max q.clock (last_stamp h) → last ≡ 2 ^ 64 - 1 → IsSpent start h q last
  is_spent last can clock none = record {
    is_ready = can;
    fits = it_fits;
    clock_is = clock;
    last = none;
  }

-- What a call adds.

-- an entry takes a unit at least of what its call found and needed
pub owed_after : (start : Start) (h : List Entry) (e : Entry) → IsStart start → IsLegal start h → Follows start h e → owed start (h ++ e ∷ []) + 1 ≤ owed start h + need start h e.call
owed_after start h e sane l f =
    let before : held (h ++ e ∷ []) + owed start (h ++ e ∷ []) ≡ held h + owed start h + need start h e.call = units start h e sane l f in
    omega (arith, held_more h e, weighs e.reply)

-- the entry of a call that goes follows the history
pub made_follows : (start : Start) (h : List Entry) (q : Asking) (seat place stamp : ℕ) (reply : Reply) → Goes start h q
    → place ≡ length h + 1 → stamp ≡ max q.clock (last_stamp h) + 1 → reply ≡ due start h q.call → Follows start h (entry_of q seat place stamp reply)
made_follows start h q seat place stamp reply goes place_is stamp_is reply_is = record {
  place = place_is;
  is_ready = goes.is_ready;
  fits = goes.fits;
  reply = reply_is;
  stamp = λ i d short. omega (arith, below_last h i d short);
}

-- the state after it
pub recorded_more : (start : Start) (stands next : List Entry → Type 0) (last room : ℕ) (old new : Listed Entry) (e : Entry) → IsRecorded start stands last old
    → Follows start old.items e → next (old.items ++ e ∷ []) → room ≡ owed start old.items + need start old.items e.call
    → new ≡ pushed (reserved old room) e → IsRecorded start next e.stamp new
recorded_more start stands next last room old new e recorded f state room_is new_is =
    let items_are : new.items ≡ old.items ++ e ∷ [] = ap (λ (l : Listed Entry). l.items) new_is in
    let spare_is : new.spare ≡ max old.spare room - 1 = ap (λ (l : Listed Entry). l.spare) new_is in
    let less : owed start (old.items ++ e ∷ []) + 1 ≤ owed start old.items + need start old.items e.call = owed_after start old.items e recorded.stands_for.sane recorded.stands_for.legal f in
    record {
      stands_for = record {
        sane = recorded.stands_for.sane;
        legal = subst (IsLegal start) (sym items_are) (legal_more start old.items e recorded.stands_for.legal f);
        state = subst next (sym items_are) state;
      };
      last_is = sym (ap last_stamp items_are ∙ last_of_follows start old.items e f);
      room = omega (arith, ap (owed start) items_are);
    }

-- What is answered.

-- all of the object is seen, and all that is seen was made
abbrev pub sight : List Entry → ℕ → View
sight h visits = record { seen = h; made = h; visits = visits }

pub whole_front : (h : List Entry) → IsFront h h
whole_front h = ([], sym (append-nil h))

-- a count in 64 bits that stays at its last value
pub rises : (before now : ℕ) → before < 2 ^ 64 → now ≡ min (before + 1) (2 ^ 64 - 1) → Rose before now
rises before now fits is = grind arith

module _ (start : Start) (h : List Entry) (q : Asking) (before now : ℕ) (in_range : before < 2 ^ 64) (is : now ≡ min (before + 1) (2 ^ 64 - 1)) where
  pub refused : IsRefused (sight h before) (sight h now)
  refused = record { front = whole_front h; made = refl; visits = rises before now in_range is }

  pub given_answers : (new : List Entry) (answer : Answer) → Gives start h 0 q new answer → Answers start q (sight h before) (sight new now) answer
  given_answers new (Made place stamp reply) makes = (
    h,
    (
      0,
      record {
        front = whole_front h;
        follows = makes.0;
        stamp = makes.1;
        seen = makes.2;
        made = makes.2;
        visits = rises before now in_range is;
      },
    ),
  )
  given_answers new (Refused refusal) gives = rw gives.0 (refused, gives.1)
  given_answers new NoMemory gives = record {
    front = subst (IsFront h) (sym gives.0) (whole_front h);
    made = gives.0;
    visits = omega arith;
    goes = subst (λ (after : List Entry). Goes start after q) (sym gives.0) gives.1;
  }

-- the same in the words of a port
pub answered : {M : Type 0} (start : M → Start) (a b : Alone M) (q : Asking) → q.object ≡ a.object → b.object ≡ a.object → (answer : Answer)
    → Answers (start a.machine) q (sight a.history a.visits) (sight b.history b.visits) answer → IsLegal (start a.machine) a.history → IsLegal (start a.machine) b.history
    → Answered (lone_start start a q.object) q (lone_view a q.object) (lone_view b q.object) answer
answered start a b q here there answer answers legal later =
    rw (eq-eqb q.object a.object here, eq-eqb q.object b.object (here ∙ sym there)) (answers, legal, later)
