-- By which passages an entry draws from another.
use Rattle.std.proofs.Common.{◌≡◌, ℕ, zero, suc, ◌<◌, true, [], ◌∷◌, Contains, refl, sym, ap, ◌∙◌, subst, inl, inr, arith}
use Rattle.std.specs.Prelude.{Option, None, Some}
use Rattle.std.proofs.lemmas.Bool.{or_cases, or_left, or_right}
use Rattle.std.proofs.lemmas.Option.{same_Some}
use Rattle.anti_kind.specs.declared.actor.Actor.{Actor}
use Rattle.anti_kind.specs.declared.actor.Actor.TheVariants.{Process}
use Rattle.anti_kind.specs.declared.actor.Birth.{Birth}
use Rattle.anti_kind.specs.declared.call.Call.{Call}
use Rattle.anti_kind.specs.declared.call.Call.TheVariants as calls
use Rattle.anti_kind.specs.declared.call.Reply.{Reply}
use Rattle.anti_kind.specs.declared.call.Reply.TheVariants as replies
use Rattle.anti_kind.specs.declared.entry.Entry.{Entry}
use Rattle.law_causal.specs.Causal.{Delivers, Earlier, is_process}
use Rattle.law_causal.specs.Words.{Letter, answered, asked, posts_in, takes_in}
use Rattle.anti_doctor.specs.declared.passages.Passage.{Passage}
use Rattle.anti_doctor.specs.inner.Passages.{answered_on, asked_on, feeds, is_by, posted_by, posted_of, span_by, span_of, taken_by, taken_of}
use Rattle.anti_doctor.proofs.PassageOrder.{same_passage_is, same_passage_itself}

-- ---- what a passage is

abbrev span_for : Birth → ℕ → Passage
span_for birth span = record { kind = 0; object = birth.object; number = birth.place; span = span }

abbrev letter_on : ℕ → Letter → Passage
letter_on o (asked number) = asked_on o number
letter_on o (answered number) = answered_on o number

is_letter : (o : ℕ) (l : Letter) → 0 < (letter_on o l).kind
is_letter o (asked number) = omega arith
is_letter o (answered number) = omega arith

span_is : (actor : Actor) (span : ℕ) (q : Passage) → span_by actor span ≡ Some q
    → (birth : Birth) × (actor ≡ Process birth) × (q ≡ span_for birth span)
span_is (Process birth) span q is = (birth, refl, sym (same_Some (span_for birth span) q is))
span_is actor span q is = absurd (cc)

process_is : (actor : Actor) → is_process actor ≡ true → (birth : Birth) × (actor ≡ Process birth)
process_is (Process birth) is = (birth, refl)
process_is actor is = absurd (cc)

posted_is : (o : ℕ) (c : Call) (r : Reply) (q : Passage) → posted_by o c r ≡ Some q
    → (l : Letter) × Contains (posts_in c r) l × (q ≡ letter_on o l)
posted_is o (calls.Post m) (replies.Posted number) q is = (asked number, (0, omega arith, refl), sym (same_Some (asked_on o number) q is))
posted_is o (calls.Post m) replies.Done q is = (answered m.to, (0, omega arith, refl), sym (same_Some (answered_on o m.to) q is))
posted_is o c r q is = absurd (cc)

taken_is : (o : ℕ) (c : Call) (r : Reply) (q : Passage) → taken_by o c r ≡ Some q
    → (l : Letter) × Contains (takes_in c r) l × (q ≡ letter_on o l)
taken_is o (calls.Take nth) (replies.Got number m) q is = (asked number, (0, omega arith, refl), sym (same_Some (asked_on o number) q is))
taken_is o (calls.TakeReply number) r q is = (answered number, (0, omega arith, refl), sym (same_Some (answered_on o number) q is))
taken_is o c r q is = absurd (cc)

only : (x y : Letter) → Contains (x ∷ []) y → x ≡ y
only x y (zero, low, is) = is
only x y (suc k, low, is) = absurd (omega (arith, low))

its_post : (o : ℕ) (c : Call) (r : Reply) (l : Letter) → Contains (posts_in c r) l → posted_by o c r ≡ Some (letter_on o l)
its_post o (calls.Post m) (replies.Posted number) l at = ap (λ (x : Letter). Some (letter_on o x)) (only (asked number) l at)
its_post o (calls.Post m) replies.Done l at = ap (λ (x : Letter). Some (letter_on o x)) (only (answered m.to) l at)
its_post o c r l at = absurd (omega (arith, at.1))

its_take : (o : ℕ) (c : Call) (r : Reply) (l : Letter) → Contains (takes_in c r) l → taken_by o c r ≡ Some (letter_on o l)
its_take o (calls.Take nth) (replies.Got number m) l at = ap (λ (x : Letter). Some (letter_on o x)) (only (asked number) l at)
its_take o (calls.TakeReply number) r l at = ap (λ (x : Letter). Some (letter_on o x)) (only (answered number) l at)
its_take o c r l at = absurd (omega (arith, at.1))

-- a letter is known by its passage
same_letter : (o p : ℕ) (l k : Letter) → letter_on o l ≡ letter_on p k → (o ≡ p) × (l ≡ k)
same_letter o p (asked n) (asked m) same = (ap (λ (q : Passage). q.object) same, ap (λ (q : Passage). asked q.number) same)
same_letter o p (answered n) (answered m) same = (ap (λ (q : Passage). q.object) same, ap (λ (q : Passage). answered q.number) same)
same_letter o p (asked n) (answered m) same = let kinds : 1 ≡ 2 = ap (λ (q : Passage). q.kind) same in absurd (omega (arith, kinds))
same_letter o p (answered n) (asked m) same = let kinds : 2 ≡ 1 = ap (λ (q : Passage). q.kind) same in absurd (omega (arith, kinds))

-- ---- what is handed on by a passage

by_is : (q : Passage) (passage : Option Passage) → is_by q passage ≡ true → passage ≡ Some q
by_is q None is = absurd (cc)
by_is q (Some p) is = ap Some (same_passage_is p q is)

is_by_it : (q : Passage) (passage : Option Passage) → passage ≡ Some q → is_by q passage ≡ true
is_by_it q passage is = ap (is_by q) is ∙ same_passage_itself q

-- from an earlier entry of the span
pub feeds_span : (q : Passage) (a b : Entry) → span_of b ≡ Some q → feeds q a ≡ true
    → (is_process a.actor ≡ true) × (a.actor ≡ b.actor) × (a.span ≡ b.span)
feeds_span q a b is fed =
    let (birth, by, span) = span_is b.actor b.span q is in
    elim (or_cases (is_by q (span_of a)) (is_by q (posted_of a)) fed) [
      | inl here ↦
          let (other, by_a, span_a) = span_is a.actor a.span q (by_is q (span_of a) here) in
          let same : span_for other a.span ≡ span_for birth b.span = sym span_a ∙ span in
          let births : other ≡ birth = ap (λ (p : Passage). record { object = p.object; place = p.number }) same in (
            ap is_process by_a,
            by_a ∙ ap Process births ∙ sym by,
            ap (λ (p : Passage). p.span) same,
          )
      | inr post ↦
          let (l, at, letter) = posted_is a.object a.call a.reply q (by_is q (posted_of a) post) in
          let some = is_letter a.object l in
          let kinds : (letter_on a.object l).kind ≡ 0 = ap (λ (p : Passage). p.kind) (sym letter ∙ span) in
          absurd (omega (arith, some, kinds))
    ]

-- from the post of the letter that is taken
pub feeds_letter : (q : Passage) (a b : Entry) → taken_of b ≡ Some q → feeds q a ≡ true → Delivers a b
feeds_letter q a b is fed =
    let (k, taken, letter) = taken_is b.object b.call b.reply q is in
    elim (or_cases (is_by q (span_of a)) (is_by q (posted_of a)) fed) [
      | inl here ↦
          let (other, by_a, span_a) = span_is a.actor a.span q (by_is q (span_of a) here) in
          let some = is_letter b.object k in
          let kinds : (letter_on b.object k).kind ≡ 0 = ap (λ (p : Passage). p.kind) (sym letter ∙ span_a) in
          absurd (omega (arith, some, kinds))
      | inr post ↦
          let (l, posted, its) = posted_is a.object a.call a.reply q (by_is q (posted_of a) post) in
          let same = same_letter a.object b.object l k (sym its ∙ letter) in
          record {
            inbox = same.0;
            letter = k;
            posted = subst (Contains (posts_in a.call a.reply)) same.1 posted;
            taken = taken;
          }
    ]

-- and the other way round
pub span_feeds : (i : ℕ) (a : Entry) (j : ℕ) (b : Entry) → Earlier i a j b → (q : Passage) × (span_of b ≡ Some q) × (feeds q a ≡ true)
span_feeds i a j b e =
    let (birth, by) = process_is a.actor e.process in
    let q = span_for birth b.span in
    let here : span_of a ≡ Some q = ap (λ (x : Actor). span_by x a.span) by ∙ ap (λ (n : ℕ). Some (span_for birth n)) e.span in (
      q,
      ap (λ (x : Actor). span_by x b.span) (sym e.actor ∙ by),
      or_left (is_by q (span_of a)) (is_by q (posted_of a)) (is_by_it q (span_of a) here),
    )

pub letter_feeds : (a b : Entry) → Delivers a b → (q : Passage) × (taken_of b ≡ Some q) × (feeds q a ≡ true)
letter_feeds a b d =
    let q = letter_on b.object d.letter in
    let post : posted_of a ≡ Some q =
    its_post a.object a.call a.reply d.letter d.posted ∙ ap (λ (o : ℕ). Some (letter_on o d.letter)) d.inbox in (
      q,
      its_take b.object b.call b.reply d.letter d.taken,
      or_right (is_by q (span_of a)) (is_by q (posted_of a)) (is_by_it q (posted_of a) post),
    )
