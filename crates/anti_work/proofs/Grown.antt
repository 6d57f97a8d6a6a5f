-- What is known of a worker's calls stays known as the histories grow, and is known of one call more.
use Rattle.std.proofs.Common.{◌≡◌, ℕ, ◌+◌, ◌-◌, ◌<◌, ◌≤◌, ◌++◌, max, false, List, [], ◌∷◌, length, take, refl, sym, ap, ◌∙◌, subst, inl, inr, arith, append-nil}
use Rattle.std.specs.Prelude.{All}
use Rattle.std.proofs.Math.Seq.{take-append_seam}
use Rattle.std.proofs.lemmas.Bool.{cases_Bool, false_from_ne_true}
use Rattle.std.proofs.lemmas.List.{take-append-le}
use Rattle.std.proofs.lemmas.List.Elements.{All-filter, All-head, All-weaker, filter-append}
use Rattle.anti_turn.specs.Lists.{IsFront}
use Rattle.anti_turn.proofs.Fronts.{front_length}
use Rattle.anti_kind.specs.declared.actor.Actor.{Actor}
use Rattle.anti_kind.specs.declared.actor.Actor.TheVariants.{Carrier, Process}
use Rattle.anti_kind.specs.declared.actor.Birth.{Birth}
use Rattle.anti_kind.specs.declared.entry.Entry.{Entry}
use Rattle.anti_kind.specs.Objects.{last_stamp}
use Rattle.anti_app.specs.declared.app.App.{App}
use Rattle.anti_proc.specs.Births.{birth_at}
use Rattle.anti_trace.specs.Legal.{IsLife, IsOfActor}
use Rattle.anti_trace.specs.Traces.{entries_by, is_by}
use Rattle.anti_trace.proofs.OfLegal.{at_cut, filter_cut, none_cut}
use Rattle.anti_trace.proofs.PutLegal.{Cut, cut}
use Rattle.anti_trace.proofs.Puts.{filter-no, same_actor_itself, same_actor_true}
use Rattle.anti_work.specs.inner.Works.{AreStampsOf, IsWork, stamp_before}

-- ---- what an actor did, with an entry behind

entries_by_off : (a : Actor) (calls : List Entry) (e : Entry) → is_by a e ≡ false → entries_by a (calls ++ e ∷ []) ≡ entries_by a calls
entries_by_off a calls e off =
    filter-append (is_by a) calls (e ∷ [])
    ∙ ap (λ (es : List Entry). entries_by a calls ++ es) (filter-no (is_by a) e [] off)
    ∙ append-nil (entries_by a calls)

pub entries_by_next : (calls : List Entry) (e : Entry) → entries_by e.actor (calls ++ e ∷ []) ≡ entries_by e.actor calls ++ e ∷ []
entries_by_next calls e = filter_cut (is_by e.actor) calls e [] (same_actor_itself e.actor)

pub entries_by_past : (a : Actor) (calls : List Entry) (e : Entry) → (e.actor ≡ a → ⊥) → entries_by a (calls ++ e ∷ []) ≡ entries_by a calls
entries_by_past a calls e other = entries_by_off a calls e (false_from_ne_true (is_by a e) (λ same. other (sym (same_actor_true a e.actor same))))

-- ---- as the histories grow

-- the stamp before a place that is within the front
stamp_front : (old new : List Entry) (place : ℕ) → IsFront old new → place ≤ length old → stamp_before new place ≡ stamp_before old place
stamp_front old new place front within =
    ap (λ (h : List Entry). last_stamp (take (place - 1) h)) front.1
    ∙ ap last_stamp (take-append-le (place - 1) old front.0 (omega arith))

module _ (old new : ℕ → List Entry) (grown : (o : ℕ) → IsFront (old o) (new o)) (calls : List Entry) (placed : All (λ e. e.place ≤ length (old e.object)) calls) where
  pub placed_later : All (λ e. e.place ≤ length (new e.object)) calls
  placed_later = All-weaker (λ e. e.place ≤ length (old e.object)) (λ e. e.place ≤ length (new e.object))
      (λ e low. let longer = front_length (old e.object) (new e.object) (grown e.object) in omega arith) calls placed

  pub work_later : (app : App) (number : ℕ) → IsWork app old number calls → IsWork app new number calls
  work_later app number work = record {
    actors = work.actors;
    stamps = λ before e after is.
        let within : e.place ≤ length (old e.object) =
        at_cut (λ x. x.place ≤ length (old x.object)) before e after (subst (All (λ x. x.place ≤ length (old x.object))) is placed) in
        work.stamps before e after is
        ∙ ap (λ (n : ℕ). max (last_stamp (entries_by e.actor before)) n + 1) (sym (stamp_front (old e.object) (new e.object) e.place (grown e.object) within));
    carrier = work.carrier;
  }

-- ---- a process that is not born yet

module _ (app : App) (histories : ℕ → List Entry) (calls : List Entry) (placed : All (λ e. e.place ≤ length (histories e.object)) calls) where
  -- where its birth is none that was seen it did nothing
  pub unborn : (b : Birth) → IsLife app b (entries_by (Process b) calls) → length (histories b.object) < b.place → entries_by (Process b) calls ≡ []
  unborn b did past = by_items (entries_by (Process b) calls) refl did
    where
      by_items : (es : List Entry) → entries_by (Process b) calls ≡ es → IsLife app b es → entries_by (Process b) calls ≡ []
      by_items [] is life = is
      by_items (birth ∷ later) is life =
          let named : birth_at birth ≡ b = life.0.named in
          let place : birth.place ≡ b.place = ap (λ (x : Birth). x.place) named in
          let object : length (histories birth.object) ≡ length (histories b.object) = ap (λ (x : Birth). length (histories x.object)) named in
          let low : birth.place ≤ length (histories birth.object) =
          All-head (λ e. e.place ≤ length (histories e.object)) birth later
          (subst (All (λ e. e.place ≤ length (histories e.object))) is (All-filter (is_by (Process b)) (λ e. e.place ≤ length (histories e.object)) calls placed)) in
          absurd (omega arith)

  -- so what a process does behind its first entry, at a place that was not seen, is not its birth
  pub not_birth : (b : Birth) → IsLife app b (entries_by (Process b) calls) → (first : Entry) (later : List Entry) → entries_by (Process b) calls ≡ first ∷ later
      → (e : Entry) → length (histories e.object) < e.place → b ≡ birth_at e → ⊥
  not_birth b did first later some e past same =
      let none : entries_by (Process b) calls ≡ [] =
      unborn b did (subst (λ (x : Birth). length (histories x.object) < x.place) (sym same) past) in
      absurd (let both : first ∷ later ≡ [] = sym some ∙ none in cc)

-- ---- with one call more

-- It stands last in what is seen of its object, its stamp is one more than the last of its actor and the last on the object, and its actor may
-- do it.
module _ (app : App) (histories : ℕ → List Entry) (number : ℕ) (calls : List Entry) (work : IsWork app histories number calls) (e : Entry) (h : List Entry)
    (seen : histories e.object ≡ h ++ e ∷ []) (place : e.place ≡ length h + 1) (stamp : e.stamp ≡ max (last_stamp (entries_by e.actor calls)) (last_stamp h) + 1)
    (did : IsOfActor app e.actor (entries_by e.actor calls ++ e ∷ [])) (own : (n : ℕ) → e.actor ≡ Carrier n → n ≡ number) where
  before_it : stamp_before (histories e.object) e.place ≡ last_stamp h
  before_it =
      let long : e.place - 1 ≡ length h = omega arith in
      ap (λ (x : List Entry). last_stamp (take (e.place - 1) x)) seen
      ∙ ap (λ (n : ℕ). last_stamp (take n (h ++ e ∷ []))) long
      ∙ ap last_stamp (take-append_seam h (e ∷ []))

  more_actors : (a : Actor) → IsOfActor app a (entries_by a (calls ++ e ∷ []))
  more_actors a =
      elim (cases_Bool (is_by a e)) as (λ _. IsOfActor app a (entries_by a (calls ++ e ∷ []))) [
        | inl by ↦ subst (λ (x : Actor). IsOfActor app x (entries_by x (calls ++ e ∷ []))) (sym (same_actor_true a e.actor by))
            (subst (IsOfActor app e.actor) (sym (entries_by_next calls e)) did)
        | inr off ↦ subst (IsOfActor app a) (sym (entries_by_off a calls e off)) (work.actors a)
      ]

  abbrev StampAfter : List Entry → Entry → Type 0
  StampAfter before x = x.stamp ≡ max (last_stamp (entries_by x.actor before)) (stamp_before (histories x.object) x.place) + 1

  more_stamps : AreStampsOf histories (calls ++ e ∷ [])
  more_stamps before x after is = by_cut (cut calls e [] before x after is)
    where
      by_cut : Cut calls e [] before x after → StampAfter before x
      by_cut (inl earlier) = work.stamps before x earlier.0 earlier.1
      by_cut (inr (inl here)) =
          let at_e : StampAfter calls e = stamp ∙ ap (λ (n : ℕ). max (last_stamp (entries_by e.actor calls)) n + 1) (sym before_it) in
          subst (λ (front : List Entry). StampAfter front x) (sym here.0) (subst (StampAfter calls) (sym here.1) at_e)
      by_cut (inr (inr behind)) = absurd (none_cut behind.0 x after behind.2)

  pub work_more : IsWork app histories number (calls ++ e ∷ [])
  work_more = record {
    actors = more_actors;
    stamps = more_stamps;
    carrier = λ n other. entries_by_past (Carrier n) calls e (λ is. other (own n is)) ∙ work.carrier n other;
  }
