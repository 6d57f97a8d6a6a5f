-- Marks stand for those who sleep.
use Rattle.std.proofs.Common.{◌≡◌, ℕ, ◌+◌, ◌*◌, true, false, Option, Some, IfSome, refl, sym, subst, inl, inr}
use Rattle.std.specs.Prelude.{slice_index_or}
use Rattle.std.specs.BTreeSet.{BTreeSet, Updates}
use Rattle.std.proofs.lemmas.Bool.{false_from_ne_true, false≢true}
use Rattle.anti_kind.specs.declared.awaited.Awaited.{Awaited}
use Rattle.anti_kind.specs.declared.awaited.Awaited.TheVariants.{Delivery, Handout, Reply, Version, Writing}
use Rattle.anti_kind.specs.declared.awaited.Brought.{Brought}
use Rattle.anti_kind.specs.declared.awaited.Brought.TheVariants as came
use Rattle.anti_agenda.specs.Agendas.{sleeper}
use Rattle.anti_agenda.specs.declared.marks.Marks.{Marks}
use Rattle.anti_agenda.specs.declared.marks.TheConstants.{MOST_OBJECTS}
use Rattle.anti_agenda.specs.declared.offer.Sleeper.{Sleeper}
use Rattle.anti_agenda.specs.inner.Marking.{AreMarked, MarksOne, is_marked, kind}
use Rattle.anti_agenda.specs.inner.Waking.{NoneWaits, brings, first_brought}
use Rattle.anti_agenda.proofs.KeySets.{with_key}
use Rattle.anti_agenda.proofs.Orders.{sleeper_cmp, sleepers_exact, sleepers_total}

-- One who sleeps more, for whom a mark is set.
pub marked_with : (old new : BTreeSet Sleeper) (marks after : Marks) (one : Sleeper) → AreMarked old marks
    → Updates sleeper_cmp old new one true → MarksOne one.object one.awaited marks after → AreMarked new after
marked_with old new marks after one were updates set other is =
    elim ((with_key sleepers_total sleepers_exact old new one updates other).0 is) [
      | inl it ↦ subst (λ (s : Sleeper). is_marked after s.object s.awaited ≡ true) (sym it) set.is
      | inr had ↦ set.still other.object other.awaited (were other had)
    ]

-- all that something brings is of one kind
one_kind : (what : Brought) (awaited : Awaited) → brings what awaited ≡ true → IfSome (first_brought what) (λ first. kind awaited ≡ kind first)
one_kind came.Delivered Delivery is = refl
one_kind (came.Answered to) (Reply number) is = refl
one_kind came.Written Writing is = refl
one_kind (came.Shipped region version) (Version at awaited) is = refl
one_kind came.HandedBack (Handout sub) is = refl
one_kind what awaited is = absurd (false≢true is)

-- where there is no mark, nobody sleeps for what is brought
pub none_marked : (asleep : BTreeSet Sleeper) (marks : Marks) (object : ℕ) (what : Brought) (first : Awaited) → first_brought what ≡ Some first
    → AreMarked asleep marks → is_marked marks object first ≡ false → NoneWaits object what asleep
none_marked asleep marks object what first is_first are off awaited offer sleeps =
    false_from_ne_true (brings what awaited)
    (λ is.
    let same : kind awaited ≡ kind first = subst (λ (o : Option Awaited). IfSome o (λ a. kind awaited ≡ kind a)) is_first (one_kind what awaited is) in
    let on : is_marked marks object first ≡ true =
    subst (λ (k : ℕ). slice_index_or marks.at (k * MOST_OBJECTS + object) true ≡ true) same (are (sleeper object awaited offer) sleeps) in
    absurd (cc))
