-- Passes are split off the first ones, and a worker begins with one of each object.
use Rattle.std.proofs.Common.{◌≡◌, ◌≢◌, ◌==◌, ℕ, zero, suc, ◌+◌, ◌-◌, ◌*◌, ◌/◌, ◌^◌, ◌<◌, ◌≤◌, ◌⊎◌, Bool, true, false, cond, List, [], ◌∷◌, ◌++◌, length, get_or, inl, inr, refl, sym, ap, subst, ◌∙◌, ⊎_elim, length-append, arith}
use Rattle.std.specs.Prelude.{Option, Some, slice_get}
use Rattle.std.proofs.Math.Nat.{pow-suc}
use Rattle.std.proofs.lemmas.List.{length_push}
use Rattle.std.proofs.lemmas.List.Elements.{All-nil}
use Rattle.std.proofs.lemmas.Nat.{pow_pos}
use Rattle.std.proofs.lemmas.Option.{same_Some, slice_get-get_or, slice_get_cases, slice_get_within}
use Rattle.anti_kind.specs.declared.entry.Entry.{Entry}
use Rattle.anti_kind.specs.Objects.{Start as Origin}
use Rattle.anti_turn.specs.Lists.{IsFront, top}
use Rattle.anti_app.specs.declared.app.App.{App}
use Rattle.anti_app.specs.Objects.{object_count}
use Rattle.anti_object.specs.declared.object.Object.{Object}
use Rattle.anti_object.specs.Standing.{object_start}
use Rattle.anti_object.specs.Starts.{start_of}
use Rattle.anti_object.proofs.Starts.{start_there}
use Rattle.anti_shared.specs.Passes.{Identity, IsPass, IsSplit, LegalFrom, PassView, SharedView, calls_of, upto_from}
use Rattle.anti_shared.specs.Passes as passes
use Rattle.anti_shared.specs.inner.Reaching.{upto_none}
use Rattle.anti_trace.specs.Traces.{entries_on}
use Rattle.anti_trace.proofs.PutLegal.{legal_none}
use Rattle.anti_work.specs.declared.start.Start.{Start}
use Rattle.anti_work.specs.inner.Closing.{AreSharedBy}
use Rattle.anti_work.specs.inner.Joining.{HaveJoined}
use Rattle.anti_work.specs.inner.Knowing.{AreOf, IsPassAt, KnowsCalls, mine_at, mine_of, seen_at}
use Rattle.anti_work.specs.inner.Firsts.{AllMaySplit, AreSplit, AreStarting, IsSplitAt, IsStartOf, MaySplit}
use Rattle.anti_work.specs.inner.Works.{IsWork}
use Rattle.anti_work.proofs.Joined.{at_set, set_of}

-- ---- one item more at the end of a list

at_push : {X : Type 0} (xs : List X) (y : X) (k : ℕ) (z : X) → slice_get (xs ++ y ∷ []) k ≡ Some z → ((k ≡ length xs) × (y ≡ z)) ⊎ (slice_get xs k ≡ Some z)
at_push [] y zero z at = inl (refl, same_Some y z at)
at_push [] y (suc k) z at = absurd (let low = slice_get_within (y ∷ []) (suc k) z at in omega arith)
at_push (x ∷ xs) y zero z at = inr at
at_push (x ∷ xs) y (suc k) z at =
    ⊎_elim (λ (last : (k ≡ length xs) × (y ≡ z)). inl (ap suc last.0, last.1)) (λ (before : slice_get xs k ≡ Some z). inr before) (at_push xs y k z at)

-- ---- one pass is split

module _ (more : ℕ) (pass : PassView Object) (may : MaySplit (suc more) pass) where
  twice : 2 ^ suc more ≡ 2 ^ more * 2
  twice = pow-suc 2 more

  pub some_room : 0 < pass.room
  some_room = let room = may.room in let double = twice in let some = pow_pos more in omega arith

  module _ (after new : PassView Object) (split : IsSplit pass after new) where
    rest_room : 2 ^ more ≤ after.room
    rest_room =
        let left : after.room ≡ (pass.room - 1) - (pass.room - 1) / 2 = ap (λ (p : PassView Object). p.room) split.rest_is in
        let room = may.room in
        let double = twice in
        omega arith

    rest_may : MaySplit more after
    rest_may = record {
      room = rest_room;
      seen = ap (λ (p : PassView Object). p.seen) split.rest_is ∙ may.seen;
      mine = ap (λ (p : PassView Object). p.mine) split.rest_is ∙ may.mine;
      ended = ap (λ (p : PassView Object). p.ended) split.rest_is ∙ may.ended;
    }

at_most_one : (b : Bool) → cond b 1 0 + 0 ≤ 1
at_most_one true = omega arith
at_most_one false = omega arith

-- a pass that is split off one that has seen nothing
fresh_is : (pass new : PassView Object) (after : PassView Object) (start : Origin) → passes.start_of object_start pass.id ≡ Some start → pass.seen ≡ [] → IsSplit pass after new
    → IsPass object_start new
fresh_is pass new after start start_is none split =
    subst (IsPass object_start) (sym split.new_is) (record {
      legal = subst (λ (z : Option Origin × List Entry). LegalFrom z.0 z.1) (λ i. (sym start_is i, sym none i)) tt;
      positive = split.positive;
      mine_is = ap (calls_of new.number) (sym none);
      ended_are = All-nil (λ (pair : ℕ × List Entry). pair.1 ≡ calls_of pair.0 pass.seen);
      distinct = λ n. at_most_one (new.number == n);
      told = λ region small. subst (λ (z : Option Origin × List Entry). upto_from z.0 z.1 region ≤ top region pass.raised) (λ i. (sym start_is i, sym none i))
          (let nothing = upto_none start region in omega arith);
    })

-- ---- a pass of each object is split

pub split_first : (shared : List (SharedView Object)) (firsts : List (PassView Object)) → AreOf shared firsts → AreSplit shared firsts firsts []
split_first shared firsts of = record {
  few = omega arith;
  of = of;
  split = λ o pass after more was now at. absurd (let low = slice_get_within [] o more at in omega arith);
  others = λ o pass past at. at;
}

same_split : (p q r s t u : PassView Object) → p ≡ s → q ≡ t → r ≡ u → IsSplit p q r → IsSplit s t u
same_split p q r s t u first second third split =
    subst (λ (z : PassView Object × PassView Object × PassView Object). IsSplit z.0 z.1 z.2) (λ i. (first i, second i, third i)) split

module _ (shared : List (SharedView Object)) (old rest new : List (PassView Object)) (s : AreSplit shared old rest new) where
  -- the next one is as it was
  pub next_was : (pass : PassView Object) → slice_get rest (length new) ≡ Some pass → slice_get old (length new) ≡ Some pass
  next_was pass at = s.others (length new) pass (omega arith) at

  module _ (later : List (PassView Object)) (one : PassView Object) (t : IsSplitAt (length new) rest later one) where
    now_at : (o : ℕ) (pass : PassView Object) → slice_get later o ≡ Some pass → ((length new ≡ o) × (t.after ≡ pass)) ⊎ ((length new ≢ o) × (slice_get rest o ≡ Some pass))
    now_at o pass at = at_set rest (length new) o t.after pass (ap (λ (ps : List (PassView Object)). slice_get ps o) (sym t.is) ∙ at)

    pub split_more : AreSplit shared old later (new ++ one ∷ [])
    split_more =
        let longer : length (new ++ one ∷ []) ≡ length new + 1 = length_push new one in
        let low = slice_get_within rest (length new) t.pass t.was in
        let many = s.of.count in
        record {
          few = omega arith;
          of = subst (AreOf shared) (sym t.is) (set_of shared rest (length new) t.pass t.after s.of t.was (ap (λ (p : PassView Object). p.id) t.split.rest_is));
          split = λ o pass after more was now at. ⊎_elim
              (λ (last : (o ≡ length new) × (one ≡ more)). ⊎_elim
              (λ (here : (length new ≡ o) × (t.after ≡ after)).
              let first : slice_get old o ≡ Some t.pass = subst (λ (k : ℕ). slice_get old k ≡ Some t.pass) here.0 (next_was t.pass t.was) in
              same_split t.pass t.after one pass after more (same_Some t.pass pass (sym first ∙ was)) here.1 last.1 t.split)
              (λ (other : (length new ≢ o) × (slice_get rest o ≡ Some after)). absurd (other.0 (sym last.0)))
              (now_at o after now))
              (λ (before : slice_get new o ≡ Some more). ⊎_elim
              (λ (here : (length new ≡ o) × (t.after ≡ after)). absurd (let within = slice_get_within new o more before in let same = here.0 in omega arith))
              (λ (other : (length new ≢ o) × (slice_get rest o ≡ Some after)). s.split o pass after more was other.1 before)
              (now_at o after now))
              (at_push new one o more at);
          others = λ o pass past at. ⊎_elim
              (λ (here : (length new ≡ o) × (t.after ≡ pass)). absurd (let same = here.0 in omega arith))
              (λ (other : (length new ≢ o) × (slice_get rest o ≡ Some pass)). s.others o pass (omega arith) other.1)
              (now_at o pass at);
        }

-- ---- a worker begins

-- who made no call did the work of a worker
no_work : (app : App) (histories : ℕ → List Entry) (number : ℕ) → IsWork app histories number []
no_work app histories number = record {
  actors = λ a. (legal_none app).actors a;
  stamps = λ before e after is. absurd (let none : length (before ++ e ∷ after) ≡ 0 = ap length (sym is) in let parts = length-append before (e ∷ after) in omega arith);
  carrier = λ n other. refl;
}

module _ (app : App) (shared : List (SharedView Object)) (by : AreSharedBy app shared) (old rest new : List (PassView Object)) (of : AreOf shared old)
    (split : AreSplit shared old rest new) (full : length new ≡ length shared) (more : ℕ) (may : AllMaySplit (suc more) old) where
  -- where a pass comes from
  split_from : (o : ℕ) → o < length shared → (first : PassView Object) × (after : PassView Object) × (pass : PassView Object) × (slice_get old o ≡ Some first)
      × (slice_get rest o ≡ Some after) × (slice_get new o ≡ Some pass) × IsSplit first after pass
  split_from o low =
      let many = of.count in
      let many_rest = split.of.count in
      elim ((slice_get_cases old o).1) [
        | inr past ↦ absurd (let beyond = past.0 in omega arith)
        | inl found ↦
            let first : PassView Object = found.0 in
            let was : slice_get old o ≡ Some first = found.2 in
            let after : PassView Object = get_or rest o first in
            let pass : PassView Object = get_or new o first in
            let now : slice_get rest o ≡ Some after = slice_get-get_or rest o first (omega arith) in
            let at : slice_get new o ≡ Some pass = slice_get-get_or new o first (omega arith) in
            (first, after, pass, was, now, at, split.split o first after pass was now at)
      ]

  -- the shared object of a first pass, and its start
  its_start : (o : ℕ) (first : PassView Object) → slice_get old o ≡ Some first → passes.start_of object_start first.id ≡ start_of app o
  its_start o first was =
      let low = slice_get_within old o first was in
      let many = of.count in
      elim ((slice_get_cases shared o).1) as (λ _. passes.start_of object_start first.id ≡ start_of app o) [
        | inl found ↦ ap (passes.start_of object_start) (of.each o found.0 first found.2 was) ∙ by.each o found.0 found.2
        | inr past ↦ absurd (let beyond = past.0 in omega arith)
      ]

  -- what is known of a pass that was split off
  record IsOff (o : ℕ) (pass : PassView Object) : Type 0 where
    first : PassView Object
    was : slice_get old o ≡ Some first
    id_is : pass.id ≡ first.id
    mine : pass.mine ≡ []
    at : IsPassAt app o pass

  off_at : (o : ℕ) (pass : PassView Object) → slice_get new o ≡ Some pass → IsOff o pass
  off_at o pass at =
      let low = slice_get_within new o pass at in
      let all = split_from o (omega arith) in
      let same : all.2 ≡ pass = same_Some all.2 pass (sym all.5 ∙ at) in
      let cut : IsSplit all.0 all.1 pass = same_split all.0 all.1 all.2 all.0 all.1 pass refl refl same all.6 in
      let id_is : pass.id ≡ all.0.id = ap (λ (p : PassView Object). p.id) cut.new_is in
      let start : (s : Origin) × (start_of app o ≡ Some s) = start_there app o (let count = by.count in let there : o < object_count app = omega arith in there) in
      let start_is : passes.start_of object_start all.0.id ≡ start_of app o = its_start o all.0 all.3 in
      record {
        first = all.0;
        was = all.3;
        id_is = id_is;
        mine = ap (λ (p : PassView Object). p.mine) cut.new_is;
        at = record {
          object = ap (λ (i : Identity Object). i.object) id_is ∙ of.numbered o all.0 all.3;
          start = ap (passes.start_of object_start) id_is ∙ start_is;
          single = ap (λ (p : PassView Object). p.ended) cut.new_is;
          knows = fresh_is all.0 pass all.1 start.0 (start_is ∙ start.1) (may o all.0 all.3).seen cut;
        };
      }

  off_of : AreOf shared new
  off_of = record {
    count = full;
    each = λ o one pass there at. let off = off_at o pass at in off.id_is ∙ of.each o one off.first there off.was;
    numbered = λ o pass at. (off_at o pass at).at.object;
  }

  pub off_knows : (number : ℕ) → KnowsCalls app number new []
  off_knows number = record {
    are = record { count = full ∙ by.count; each = λ o pass at. (off_at o pass at).at };
    mine = λ o. elim ((slice_get_cases new o).1) as (λ _. mine_at new o ≡ entries_on o []) [
      | inl found ↦ ap mine_of found.2 ∙ (off_at o found.0 found.2).mine
      | inr past ↦ ap mine_of past.1
    ];
    placed = All-nil (λ (e : Entry). e.place ≤ length (seen_at new e.object));
    work = no_work app (seen_at new) number;
  }

  rest_all : AllMaySplit more rest
  rest_all o after now =
      let low = slice_get_within rest o after now in
      let many = split.of.count in
      let all = split_from o (omega arith) in
      let same : all.1 ≡ after = same_Some all.1 after (sym all.4 ∙ now) in
      subst (MaySplit more) same (rest_may more all.0 (may o all.0 all.3) all.1 all.2 all.6)

-- ---- all workers begin

pub starting_first : (app : App) (shared : List (SharedView Object)) (firsts : List (PassView Object)) → AreOf shared firsts → AllMaySplit app.workers firsts → AreStarting app shared [] firsts
starting_first app shared firsts of may = record {
  few = omega arith;
  of = of;
  room = (let same : app.workers ≡ app.workers - 0 = omega arith in subst (λ (n : ℕ). AllMaySplit n firsts) same may);
  starts = λ w start at. absurd (let low = slice_get_within [] w start at in omega arith);
}

module _ (app : App) (shared : List (SharedView Object)) (by : AreSharedBy app shared) (all : List Start) (old : List (PassView Object)) (s : AreStarting app shared all old)
    (low : length all < app.workers) where
  abbrev more : ℕ
  more = app.workers - (length all + 1)

  one_less : app.workers - length all ≡ suc more
  one_less = omega arith

  may_now : AllMaySplit (suc more) old
  may_now = subst (λ (n : ℕ). AllMaySplit n old) one_less s.room

  -- each pass can be split once more
  pub rooms : (o : ℕ) (pass : PassView Object) → slice_get old o ≡ Some pass → 0 < pass.room
  rooms o pass at = some_room more pass (may_now o pass at)

  pub starting_more : (rest : List (PassView Object)) (start : Start) → start.number ≡ length all + 1 → AreSplit shared old rest start.passes.items
      → length start.passes.items ≡ length shared → AreStarting app shared (all ++ start ∷ []) rest
  starting_more rest start number split full =
      let longer : length (all ++ start ∷ []) ≡ length all + 1 = length_push all start in
      let new : List (PassView Object) = start.passes.items in
      let its : IsStartOf app shared (length all) start = record {
        number_is = number;
        may = record {
          of = off_of app shared by old rest new s.of split full more may_now;
          knows = off_knows app shared by old rest new s.of split full more may_now start.number;
        };
      } in
      record {
        few = omega arith;
        of = split.of;
        room = subst (λ (n : ℕ). AllMaySplit (app.workers - n) rest) (sym longer) (rest_all app shared by old rest new s.of split full more may_now);
        starts = λ w other at. ⊎_elim
            (λ (last : (w ≡ length all) × (start ≡ other)). subst (λ (z : ℕ × Start). IsStartOf app shared z.0 z.1) (λ i. (sym last.0 i, last.1 i)) its)
            (λ (before : slice_get all w ≡ Some other). s.starts w other before)
            (at_push all start w other at);
      }

-- no pass was joined into the first ones, which made no call
pub none_joined : (left : ℕ) (firsts : List (PassView Object)) → AllMaySplit left firsts → HaveJoined [] firsts
none_joined left firsts may o pass at = record {
  none = (may o pass at).mine;
  ended = (may o pass at).ended;
  fronts = All-nil (λ (ps : List (PassView Object)). IsFront (seen_at ps o) pass.seen);
}
