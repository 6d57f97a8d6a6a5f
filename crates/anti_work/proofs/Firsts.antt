-- The objects of an application are shared, one by one, each with its first pass.
use Rattle.std.proofs.Common.{◌≡◌, ℕ, zero, suc, ◌+◌, ◌^◌, ◌<◌, ◌≤◌, List, [], ◌∷◌, ◌++◌, length, reverse, get_or, inl, inr, refl, sym, ap, subst, ◌∙◌, arith}
use Rattle.std.specs.Prelude.{IsTrue, Some, option_map, slice_get}
use Rattle.std.proofs.Math.Nat.{pow-le-pow_right}
use Rattle.std.proofs.lemmas.List.{get_or_append_left, get_or_push, length-reverse, length_push, reverse-append}
use Rattle.std.proofs.lemmas.Option.{same_Some, slice_get_cases, slice_get_within}
use Rattle.anti_ids.specs.declared.limits.TheConstants.{MOST_WORKERS}
use Rattle.anti_kind.specs.Lones.{IsNumbered}
use Rattle.anti_app.specs.declared.app.App.{App}
use Rattle.anti_app.specs.Objects.{object_count}
use Rattle.anti_app.specs.Sound.{is_sound}
use Rattle.anti_app.proofs.SoundLemmas.{app_known}
use Rattle.anti_object.specs.declared.object.Object.{Object}
use Rattle.anti_object.specs.Standing.{ObjectAt, object_start}
use Rattle.anti_object.proofs.Starts.{start_numbered}
use Rattle.anti_shared.specs.Passes.{PassView, SharedView}
use Rattle.anti_trace.specs.inner.After.{AreFirst, IsAfter}
use Rattle.anti_work.specs.inner.Closing.{AreSharedBy}
use Rattle.anti_work.specs.inner.Knowing.{AreOf}
use Rattle.anti_work.specs.inner.Firsts.{AllMaySplit, AreSharedFrom, AreSharing, IsSharedAt, IsSharedOf, MaySplit}

-- ---- one more is shared

pub sharing_first : (app : App) (objects : List Object) → AreFirst app (object_count app) objects → AreSharing app objects [] []
sharing_first app objects first = record {
  many = let many = first.many in omega arith;
  first = subst (λ (n : ℕ). AreFirst app n objects) (sym first.many) first;
  behind = tt;
}

module _ (app : App) (whole left : List Object) (object : Object) (is : whole ≡ left ++ object ∷ []) (shared : List (SharedView Object)) (firsts : List (PassView Object))
    (s : AreSharing app whole shared firsts) where
  one_more : length whole ≡ suc (length left)
  one_more = let more : length whole ≡ length left + 1 = ap length is ∙ length_push left object in omega arith

  last_is : IsAfter app [] (length left) object
  last_is =
      let more = one_more in
      let low : length left < length whole = omega arith in
      subst (IsAfter app [] (length left)) (ap (λ (xs : List Object). get_or xs (length left) object) is ∙ get_or_push left object object (length left) refl)
      (s.first.each (length left) object low)

  pub next_fresh : ObjectAt object []
  next_fresh = last_is.stands

  pub next_numbered : IsNumbered (object_start object) (length left)
  next_numbered = start_numbered app (length left) (object_start object) last_is.start

  pub next_few : length left < object_count app
  next_few = let more = one_more in let many = s.many in omega arith

  left_first : AreFirst app (length left) left
  left_first = record {
    many = refl;
    each = λ o d low.
        let more = one_more in
        let within : o < length whole = omega arith in
        subst (IsAfter app [] o) (ap (λ (xs : List Object). get_or xs o d) is ∙ get_or_append_left left (object ∷ []) d o low) (s.first.each o d within);
  }

  pub sharing_more : (one : SharedView Object) (first : PassView Object) → IsSharedOf (length left) object (one, first)
      → AreSharing app left (shared ++ one ∷ []) (firsts ++ first ∷ [])
  sharing_more one first made =
      let more = one_more in
      let many = s.many in
      let longer : length (shared ++ one ∷ []) ≡ length shared + 1 = length_push shared one in
      let at : IsSharedAt app (length left) one first = record {
        object_is = made.object_is;
        start_is = ap (option_map object_start) made.first_is ∙ sym last_is.start;
        pass_is = made.pass_is;
      } in
      record {
        many = omega arith;
        first = left_first;
        behind = subst (λ (z : List (SharedView Object) × List (PassView Object)). AreSharedFrom app (length left) z.0 z.1)
            (λ i. (sym (reverse-append shared (one ∷ [])) i, sym (reverse-append firsts (first ∷ [])) i))
            (at, subst (λ (n : ℕ). AreSharedFrom app n (reverse shared) (reverse firsts)) more s.behind);
      }

pub sharing_all : (app : App) (left : List Object) (shared : List (SharedView Object)) (firsts : List (PassView Object)) → left ≡ [] → AreSharing app left shared firsts
    → AreSharedFrom app 0 (reverse shared) (reverse firsts) × (length (reverse shared) ≡ object_count app)
sharing_all app left shared firsts none s =
    let empty : length left ≡ 0 = ap length none in
    let many = s.many in
    let long = length-reverse shared in (
      subst (λ (n : ℕ). AreSharedFrom app n (reverse shared) (reverse firsts)) empty s.behind,
      omega arith,
    )

-- ---- all are shared

same_many : (app : App) (n : ℕ) (shared : List (SharedView Object)) (firsts : List (PassView Object)) → AreSharedFrom app n shared firsts → length firsts ≡ length shared
same_many app n [] [] all = refl
same_many app n [] (first ∷ firsts) all = absurd all
same_many app n (one ∷ shared) [] all = absurd all
same_many app n (one ∷ shared) (first ∷ firsts) all = ap suc (same_many app (suc n) shared firsts all.1)

shared_at : (app : App) (n : ℕ) (shared : List (SharedView Object)) (firsts : List (PassView Object)) → AreSharedFrom app n shared firsts → (o : ℕ) (one : SharedView Object)
    → slice_get shared o ≡ Some one → (first : PassView Object) × (slice_get firsts o ≡ Some first) × IsSharedAt app (n + o) one first
shared_at app n [] firsts all o one at = absurd (let low = slice_get_within [] o one at in omega arith)
shared_at app n (s ∷ shared) [] all o one at = absurd all
shared_at app n (s ∷ shared) (first ∷ firsts) all zero one at =
    let here : IsSharedAt app n one first = subst (λ (x : SharedView Object). IsSharedAt app n x first) (same_Some s one at) all.0 in
    let number : n ≡ n + zero = omega arith in
    (first, refl, subst (λ (k : ℕ). IsSharedAt app k one first) number here)
shared_at app n (s ∷ shared) (first ∷ firsts) all (suc o) one at =
    let rest = shared_at app (suc n) shared firsts all.1 o one at in
    let number : suc n + o ≡ n + suc o = omega arith in
    (rest.0, rest.1, subst (λ (k : ℕ). IsSharedAt app k one rest.0) number rest.2)

module _ (app : App) (shared : List (SharedView Object)) (firsts : List (PassView Object)) (all : AreSharedFrom app 0 shared firsts) where
  one_at : (o : ℕ) (one : SharedView Object) → slice_get shared o ≡ Some one → (first : PassView Object) × (slice_get firsts o ≡ Some first) × IsSharedAt app o one first
  one_at o one at =
      let found = shared_at app 0 shared firsts all o one at in
      let number : 0 + o ≡ o = omega arith in
      (found.0, found.1, subst (λ (k : ℕ). IsSharedAt app k one found.0) number found.2)

  first_at : (o : ℕ) (first : PassView Object) → slice_get firsts o ≡ Some first → (one : SharedView Object) × IsSharedAt app o one first
  first_at o first at =
      let low = slice_get_within firsts o first at in
      let many = same_many app 0 shared firsts all in
      elim ((slice_get_cases shared o).1) as (λ _. (one : SharedView Object) × IsSharedAt app o one first) [
        | inl found ↦
            let its = one_at o found.0 found.2 in
            (found.0, subst (λ (p : PassView Object). IsSharedAt app o found.0 p) (same_Some its.0 first (sym its.1 ∙ at)) its.2)
        | inr past ↦ absurd (let beyond = past.0 in omega arith)
      ]

  pub are_shared : length shared ≡ object_count app → AreSharedBy app shared
  are_shared many = record { count = many; each = λ o one at. (one_at o one at).2.start_is }

  pub are_of : AreOf shared firsts
  are_of = record {
    count = same_many app 0 shared firsts all;
    each = λ o one pass there at.
        let its = one_at o one there in
        ap (λ (p : PassView Object). p.id) (sym (same_Some its.0 pass (sym its.1 ∙ at)) ∙ its.2.pass_is);
    numbered = λ o pass at. let its = first_at o pass at in ap (λ (p : PassView Object). p.id.object) its.1.pass_is ∙ its.1.object_is;
  }

  -- a first pass has room for as many further ones as there are workers, and for many more
  pub may_split : IsTrue (is_sound app) → AllMaySplit app.workers firsts
  may_split sound o pass at =
      let its = first_at o pass at in
      let few : app.workers ≤ MOST_WORKERS = (app_known app sound).few_workers in
      let eight : app.workers ≤ 8 = omega arith in
      let most : 2 ^ app.workers ≤ 2 ^ 8 = pow-le-pow_right {n = 2} (omega arith) {i = app.workers} {j = 8} eight in
      let room : 2 ^ app.workers ≤ 4294967294 = omega arith in
      subst (MaySplit app.workers) (sym its.1.pass_is) (record { room = room; seen = refl; mine = refl; ended = refl })
