-- The shared objects are closed, one by one, and what was kept of them is what `HaveEnded` says.
use Rattle.std.proofs.Common.{◌≡◌, ℕ, zero, suc, ◌+◌, ◌<◌, List, [], ◌∷◌, ◌++◌, length, reverse, All, inl, inr, refl, sym, ap, subst, ◌∙◌, append_assoc, append-nil, length-append, arith}
use Rattle.std.specs.Prelude.{Some, slice_get}
use Rattle.std.specs.List.{AllZip}
use Rattle.std.proofs.lemmas.List.{length-reverse, reverse-append, reverse-reverse}
use Rattle.std.proofs.lemmas.Option.{same_Some, slice_get_cases, slice_get_past, slice_get_within}
use Rattle.std.proofs.lemmas.Slice.Zip.{AllZip-long, all_zipped_more}
use Rattle.anti_kind.specs.declared.entry.Entry.{Entry}
use Rattle.anti_shared.specs.Passes.{Identity, PassView, SharedView}
use Rattle.anti_shared.specs.Passes as passes
use Rattle.anti_app.specs.declared.app.App.{App}
use Rattle.anti_app.specs.Objects.{object_count}
use Rattle.anti_object.specs.declared.object.Object.{Object}
use Rattle.anti_object.specs.Standing.{object_start}
use Rattle.anti_object.specs.Starts.{start_of}
use Rattle.anti_play.specs.inner.Kepts.{AreKept, IsKeptAt, Kept, history_at, history_of}
use Rattle.anti_work.specs.inner.Closing.{AreClosedBy, AreClosing, AreSharedBy, IsClosedBy, IsOfShared, KnowAll}
use Rattle.anti_work.specs.inner.Gathering.{HaveEnded, IsEndOf}
use Rattle.anti_work.specs.inner.Joining.{HaveJoined}
use Rattle.anti_work.specs.inner.Knowing.{AreOf}

-- ---- items of two lists

all_same : (shared : List (SharedView Object)) (firsts : List (PassView Object)) → length firsts ≡ length shared
    → ((o : ℕ) (s : SharedView Object) (p : PassView Object) → slice_get shared o ≡ Some s → slice_get firsts o ≡ Some p → p.id ≡ s.id) → AllZip IsOfShared shared firsts
all_same [] [] count each = tt
all_same [] (p ∷ firsts) count each = absurd (omega arith)
all_same (s ∷ shared) [] count each = absurd (omega arith)
all_same (s ∷ shared) (p ∷ firsts) count each = (each 0 s p refl refl, all_same shared firsts (omega arith) (λ o. each (suc o)))

closed_there : (firsts : List (PassView Object)) (kepts : List Kept) (o : ℕ) → AreClosedBy firsts kepts → o < length firsts
    → (pass : PassView Object) × (kept : Kept) × (slice_get firsts o ≡ Some pass) × (slice_get kepts o ≡ Some kept) × IsClosedBy pass kept
closed_there [] kepts o closed low = absurd (omega arith)
closed_there (p ∷ firsts) [] o closed low = absurd closed
closed_there (p ∷ firsts) (kept ∷ kepts) zero closed low = (p, kept, refl, refl, closed.0)
closed_there (p ∷ firsts) (kept ∷ kepts) (suc o) closed low = closed_there firsts kepts o closed.1 (omega arith)

-- ---- one more is closed

pub closing_first : (shared : List (SharedView Object)) (firsts : List (PassView Object)) → AreOf shared firsts → AreClosing firsts (reverse shared) (reverse firsts) []
closing_first shared firsts of = record {
  gone = [];
  whole = reverse-reverse firsts;
  same = subst (λ (z : List (SharedView Object) × List (PassView Object)). AllZip IsOfShared z.0 z.1) (λ i. (sym (reverse-reverse shared) i, sym (reverse-reverse firsts) i))
      (all_same shared firsts of.count of.each);
  closed = tt;
}

same_long : (shared : List (SharedView Object)) (left : List (PassView Object)) → AllZip IsOfShared (reverse shared) (reverse left) → length left ≡ length shared
same_long shared left same =
    sym (length-reverse left) ∙ AllZip-long IsOfShared (reverse shared) (reverse left) same ∙ length-reverse shared

module _ (firsts : List (PassView Object)) (whole objects : List (SharedView Object)) (s : SharedView Object) (kepts : List Kept) (is : whole ≡ objects ++ s ∷ []) where
  -- there is a pass for each object that is left
  pub some_pass : (all : List (PassView Object)) → AreClosing firsts whole all kepts → length all ≡ 0 → ⊥
  some_pass all c none =
      let long = same_long whole all c.same in
      let more : length whole ≡ length objects + 1 = ap length is ∙ length-append objects (s ∷ []) in
      omega arith

  module _ (all left : List (PassView Object)) (p : PassView Object) (also : all ≡ left ++ p ∷ []) (c : AreClosing firsts whole all kepts) where
    turned : reverse all ≡ p ∷ reverse left
    turned = ap reverse also ∙ reverse-append left (p ∷ [])

    next_same : AllZip IsOfShared (s ∷ reverse objects) (p ∷ reverse left)
    next_same =
        let objects_turned : reverse whole ≡ s ∷ reverse objects = ap reverse is ∙ reverse-append objects (s ∷ []) in
        subst (λ (z : List (SharedView Object) × List (PassView Object)). AllZip IsOfShared z.0 z.1) (λ i. (objects_turned i, turned i)) c.same

    pub next_id : p.id ≡ s.id
    next_id = next_same.0

    pub closing_more : (kept : Kept) → IsClosedBy p kept → AreClosing firsts objects left (kepts ++ kept ∷ [])
    closing_more kept closed = record {
      gone = c.gone ++ p ∷ [];
      whole = append_assoc c.gone (p ∷ []) (reverse left) ∙ ap (λ (ps : List (PassView Object)). c.gone ++ ps) (sym turned) ∙ c.whole;
      same = next_same.1;
      closed = all_zipped_more IsClosedBy c.gone kepts p kept c.closed closed;
    }

pub closing_all : (firsts : List (PassView Object)) (shared : List (SharedView Object)) (left : List (PassView Object)) (kepts : List Kept) → length shared ≡ 0
    → AreClosing firsts shared left kepts → AreClosedBy firsts kepts
closing_all firsts shared [] kepts none c = subst (λ (ps : List (PassView Object)). AreClosedBy ps kepts) (sym (append-nil c.gone) ∙ c.whole) c.closed
closing_all firsts shared (p ∷ left) kepts none c = absurd (let long = same_long shared (p ∷ left) c.same in omega arith)

-- ---- what was kept of all

module _ (app : App) (shared : List (SharedView Object)) (firsts : List (PassView Object)) (kepts : List Kept) (is : AreSharedBy app shared) (of : AreOf shared firsts)
    (closed : AreClosedBy firsts kepts) where
  many : length firsts ≡ object_count app
  many = of.count ∙ is.count

  many_kept : length kepts ≡ object_count app
  many_kept = AllZip-long IsClosedBy firsts kepts closed ∙ many

  -- the start of a pass is that of the application
  start_is : (o : ℕ) (p : PassView Object) → slice_get firsts o ≡ Some p → passes.start_of object_start p.id ≡ start_of app o
  start_is o p at =
      let low = slice_get_within firsts o p at in
      let count = of.count in
      elim ((slice_get_cases shared o).1) [
        | inl found ↦ ap (passes.start_of object_start) (of.each o found.0 p found.2 at) ∙ is.each o found.0 found.2
        | inr past ↦ absurd (let beyond = past.0 in omega arith)
      ]

  pub have_kept : AreKept app kepts
  have_kept = record {
    count = many_kept;
    each = λ o kept at.
        let low = slice_get_within kepts o kept at in
        let count = many in
        let count_kept = many_kept in
        let found = closed_there firsts kepts o closed (omega arith) in
        subst (IsKeptAt app o) (same_Some found.1 kept (sym found.3 ∙ at)) (record {
          start = sym (start_is o found.0 found.2) ∙ found.4.start;
          stands = found.4.stands;
          own = subst (λ (n : ℕ). All (λ (e : Entry). e.object ≡ n) found.1.1.items) (of.numbered o found.0 found.2) found.4.objects;
        });
  }

  module _ (all : List (List (PassView Object))) (have : HaveJoined all firsts) where
    end_of : (o : ℕ) (p : PassView Object) (kept : Kept) → slice_get firsts o ≡ Some p → IsClosedBy p kept → IsEndOf app all o kept.1.items
    end_of o p kept at by = record {
      pass = p;
      joined = have o p at;
      history_is = by.history_is;
      own = by.own;
      knows = by.knows;
      start = start_is o p at;
      objects = subst (λ (n : ℕ). All (λ (e : Entry). e.object ≡ n) kept.1.items) (of.numbered o p at) by.objects;
    }

    pub have_ended : (works : ℕ → List Entry) → KnowAll app all works → HaveEnded app all (history_at kepts) works
    have_ended works know = record {
      ends = λ o low.
          let count = many in
          let found = closed_there firsts kepts o closed (omega arith) in
          subst (IsEndOf app all o) (sym (ap history_of found.3)) (end_of o found.0 found.1 found.2 found.4);
      none = λ o past. let count = many_kept in ap history_of (slice_get_past kepts o (omega arith));
      knows = know;
    }
