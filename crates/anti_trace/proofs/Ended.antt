-- How the processes of a legal trace ended.
use Rattle.std.proofs.Common.{◌≡◌, ℕ, suc, ◌+◌, ◌<◌, ◌++◌, List, [], ◌∷◌, Bool, true, length, map, get_or, if◌then◌else◌, refl, sym, ap, ◌∙◌, subst, arith}
use Rattle.std.specs.Prelude.{All, Option, None, Some, IfSome, IsTrue, position}
use Rattle.std.specs.List.{flat_map, range_with_len}
use Rattle.std.specs.Option.{option_map_or}
use Rattle.std.proofs.lemmas.Bool.{eq-eqb}
use Rattle.std.proofs.lemmas.List.{get_or_default, flat_map_more}
use Rattle.std.proofs.lemmas.List.Concat.{flat_map-cons}
use Rattle.std.proofs.lemmas.List.Folds.{flat_map-map}
use Rattle.std.proofs.lemmas.List.FromFn.{map-range_with_len_more}
use Rattle.std.proofs.lemmas.List.Elements.{All-filter, All-head, All-weaker}
use Rattle.anti_kind.specs.declared.actor.Actor.TheVariants.{Process as Acting}
use Rattle.anti_kind.specs.declared.actor.Birth.{Birth}
use Rattle.anti_kind.specs.declared.entry.Entry.{Entry}
use Rattle.anti_app.specs.declared.app.App.{App}
use Rattle.anti_app.specs.Sound.{is_sound}
use Rattle.anti_proc.specs.declared.end.End.{End}
use Rattle.anti_proc.specs.declared.end.End.TheVariants.{StoreFull}
use Rattle.anti_proc.specs.declared.process.Process.{Process}
use Rattle.anti_proc.specs.declared.task.Role.{Role}
use Rattle.anti_proc.specs.Births.{birth_at, births, is_birth}
use Rattle.anti_proc.specs.Calls.{IsMadeOn}
use Rattle.anti_proc.specs.Meaning.{process_after}
use Rattle.anti_proc.specs.Tasks.{role_of}
use Rattle.anti_proc.specs.Trees.{Tree, Asks, Ends, Want, Make, Over, ask_of, want_of}
use Rattle.anti_proc.specs.Asked.{end_of}
use Rattle.anti_proc.specs.inner.Standing.{birth_of, full_of, its_role, process_of}
use Rattle.anti_proc.proofs.Knowing.{next_known}
use Rattle.anti_trace.specs.Traces.{entries_by, entries_on, is_by, is_on}
use Rattle.anti_trace.specs.Ends.{end_by, end_in, end_of as ends_as, ends_on, process_end}
use Rattle.anti_trace.specs.Legal.{IsLegalTrace, IsLife}
use Rattle.anti_trace.specs.declared.ends.ProcessEnd.{ProcessEnd}
use Rattle.anti_trace.specs.declared.processes.AtObject.{AtObject}
use Rattle.anti_trace.specs.inner.Living.{AreInOrder, AreProcessesOf, IsEnded, Lives, LivesItself, born_at, is_named}
use Rattle.anti_trace.specs.inner.Shown.{shown_end}
use Rattle.anti_trace.proofs.InOrder.{as_many, birth_is, found_itself, in_order, placed_on}
use Rattle.anti_trace.proofs.OfLegal.{known_calls}
use Rattle.anti_trace.proofs.Puts.{All-from_filter}
use Rattle.anti_trace.proofs.ReadyStays.{is_full_still}

-- ---- one process

module _ (app : App) (sound : IsTrue (is_sound app)) (trace : List Entry) (legal : IsLegalTrace app trace) (p : Process) (on : LivesItself app trace p) where
  abbrev left : Tree
  left = process_after app (entries_by (Acting (birth_of p)) trace)

  -- it goes on: what it wants is what is left
  pub going_wants : full_of p ≡ None → want_of (process_of app p) ≡ want_of left
  going_wants going = ap want_of (on.tree going)

  -- it was ended since its call did not fit: the call is full still
  full_ends : (want : Want) (at : ℕ) → want_of left ≡ want → IsEnded app trace want at → end_by app trace want ≡ Some (StoreFull at)
  full_ends (Over end) at wants ended = elim ended [ ]
  full_ends (Make object span call) at wants ended =
      let made : IsMadeOn app object call = (next_known app left object span call (known_calls app trace legal sound (birth_of p)) wants).0.call in
      ap (λ (t : Bool). if t then Some (StoreFull object) else None) (is_full_still app trace legal sound object call ended.1 made)
      ∙ ap (λ (o : ℕ). Some (StoreFull o)) ended.0

  over_is : (tree : Tree) → ask_of tree ≡ None → end_of tree ≡ end_by app trace (want_of tree)
  over_is (Asks ask go) none = absurd (cc)
  over_is (Ends end) none = refl

  -- it makes no further call
  pub end_none : (end : Option End) → ask_of (process_of app p) ≡ None → (full_of p ≡ None → end ≡ end_of (process_of app p))
      → ((object : ℕ) → full_of p ≡ Some object → end ≡ Some (StoreFull object)) → end ≡ end_in app trace (birth_of p)
  end_none end none going full = by_full (full_of p) refl on.full
    where
      by_full : (o : Option ℕ) → full_of p ≡ o → IfSome o (IsEnded app trace (want_of left)) → end ≡ end_in app trace (birth_of p)
      by_full None is ended =
          going is ∙ over_is (process_of app p) none ∙ ap (end_by app trace) (going_wants is)
      by_full (Some at) is ended = full at is ∙ sym (full_ends (want_of left) at refl ended)

-- ---- the processes of one object

-- no two entries of an object have one place
same_mark : (o : ℕ) (trace h : List Entry) → h ≡ entries_on o trace → ((i : ℕ) (d : Entry) → i < length h → (get_or h i d).place ≡ i + 1)
    → All (λ e. All (λ x. x.place ≡ e.place → x ≡ e) h) h
same_mark o trace h is placed i d lt j c short same =
    let one = placed i d lt in
    let two = placed j c short in
    let index : j ≡ i = omega arith in
    ap (λ (k : ℕ). get_or h k c) index ∙ get_or_default h i c d lt

-- two lists of as many, of which each item of the one is made of the one in the other
zipped : {X Y Z : Type 0} (f : X → Z) (g : Y → List Z) (xs : List X) (ys : List Y) → length xs ≡ length ys
    → ((i : ℕ) (x : X) (y : Y) → i < length xs → g (get_or ys i y) ≡ f (get_or xs i x) ∷ []) → map f xs ≡ flat_map g ys
zipped f g [] [] same each = refl
zipped f g [] (y ∷ ys) same each = absurd (omega arith)
zipped f g (x ∷ xs) [] same each = absurd (omega arith)
zipped {X} {Y} {Z} f g (x ∷ xs) (y ∷ ys) same each =
    let rest : map f xs ≡ flat_map g ys = zipped f g xs ys (omega arith) (λ i a b lt. each (suc i) a b (omega arith)) in
    sym (flat_map-cons g y ys ∙ ap (λ (zs : List Z). zs ++ flat_map g ys) (each 0 x y (omega arith)) ∙ ap (λ (zs : List Z). f x ∷ zs) (sym rest))

module _ (app : App) (trace : List Entry) (legal : IsLegalTrace app trace) (all : List AtObject) (are : AreProcessesOf app all trace) (o : ℕ) where
  abbrev ps : List Process
  ps = born_at all o

  abbrev es : List Entry
  es = births (entries_on o trace)

  order : AreInOrder o ps
  order = in_order app trace legal o all are.born

  -- each lives on as that of its birth
  pub each_lives : All (LivesItself app trace) ps
  each_lives i d lt =
      let b : Birth = birth_of (get_or ps i d) in
      let at : position (is_named b) ps ≡ Some i = found_itself o ps order i d lt in
      let live : Lives app trace (born_at all b.object) (position (is_named b) (born_at all b.object)) (entries_by (Acting b) trace) = are.live b in
      let here : Lives app trace ps (position (is_named b) ps) (entries_by (Acting b) trace) =
      subst (λ (k : ℕ). Lives app trace (born_at all k) (position (is_named b) (born_at all k)) (entries_by (Acting b) trace)) (order.here i d lt) live in
      (subst (λ (x : Option ℕ). Lives app trace ps x (entries_by (Acting b) trace)) at here) d

  -- the entry that started it is the one of its birth
  births_same : All (λ e. All (λ x. x.object ≡ o → x.place ≡ e.place → x ≡ e) trace) es
  births_same = All-filter is_birth (λ (e : Entry). All (λ x. x.object ≡ o → x.place ≡ e.place → x ≡ e) trace) (entries_on o trace)
      (λ i d lt.
      let e : Entry = get_or (entries_on o trace) i d in
      All-weaker (λ x. is_on o x ≡ true → x.place ≡ e.place → x ≡ e) (λ x. x.object ≡ o → x.place ≡ e.place → x ≡ e)
      (λ x same here. same (eq-eqb x.object o here)) trace
      (All-from_filter (λ x. x.place ≡ e.place → x ≡ e) (is_on o) trace
      (same_mark o trace (entries_on o trace) refl (placed_on app trace legal o) i d lt)))

  module _ (i : ℕ) (d : Process) (c : Entry) (lt : i < length ps) where
    abbrev p : Process
    p = get_or ps i d

    abbrev e : Entry
    e = get_or es i c

    on : LivesItself app trace p
    on = each_lives i d lt

    named : birth_of p ≡ birth_at e
    named = birth_is trace o all are.born i d c lt

    birth_same : on.birth ≡ e
    birth_same =
        let count = as_many trace o all are.born in
        let life : IsLife app (birth_of p) (on.birth ∷ on.later) = subst (IsLife app (birth_of p)) on.entries_are (legal.actors (Acting (birth_of p))) in
        let here : on.birth.object ≡ o = ap (λ (b : Birth). b.object) life.0.named ∙ order.here i d lt in
        let place : on.birth.place ≡ e.place = ap (λ (b : Birth). b.place) (life.0.named ∙ named) in
        let Same : Entry → Type 0 = λ x. x.object ≡ o → x.place ≡ e.place → x ≡ e in
        let own : All Same (on.birth ∷ on.later) =
        subst (All Same) on.entries_are (All-filter (is_by (Acting (birth_of p))) Same trace (births_same i c (omega (arith, count, lt)))) in
        All-head Same on.birth on.later own here place

    ends_shown : ends_as app trace e ≡ shown_end app trace p ∷ []
    ends_shown =
        let role : role_of app e ≡ Some (its_role p) = ap (role_of app) (sym birth_same) ∙ on.role in
        ap (λ (r : Option Role). option_map_or (λ role. process_end app trace e role ∷ []) r []) role
        ∙ ap (λ (b : Birth). record { birth = b; service = (its_role p).service; handler = (its_role p).handler; end = end_in app trace b } ∷ []) (sym named)

  pub ends_here : map (shown_end app trace) ps ≡ ends_on app trace o
  ends_here =
      zipped (shown_end app trace) (ends_as app trace) ps es (sym (as_many trace o all are.born))
      (λ i d c lt. ends_shown i d c lt)

-- ---- object by object

pub ends_more : (app : App) (trace : List Entry) (o : ℕ) (ends here : List ProcessEnd) → ends ≡ flat_map (ends_on app trace) (range_with_len 0 o)
    → here ≡ ends_on app trace o → ends ++ here ≡ flat_map (ends_on app trace) (range_with_len 0 (o + 1))
ends_more app trace o ends here is more =
    let each : ℕ → List ProcessEnd = ends_on app trace in
    let before : flat_map each (map (λ (k : ℕ). k) (range_with_len 0 o)) ≡ flat_map each (range_with_len 0 o) = flat_map-map each (λ (k : ℕ). k) (range_with_len 0 o) in
    ap (λ (xs : List ProcessEnd). xs ++ here) is
    ∙ ap (λ (xs : List ProcessEnd). flat_map each (range_with_len 0 o) ++ xs) more
    ∙ ap (λ (xs : List ProcessEnd). xs ++ each o) (sym before)
    ∙ flat_map_more each [] (map (λ (k : ℕ). k) (range_with_len 0 o)) o
    ∙ ap (flat_map each) (sym (map-range_with_len_more (λ (k : ℕ). k) 0 o o (omega arith)))
    ∙ flat_map-map each (λ (k : ℕ). k) (range_with_len 0 (o + 1))
