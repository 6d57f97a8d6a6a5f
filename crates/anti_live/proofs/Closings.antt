-- The passes of a client are asked whether others are out, and the shared objects are closed by them.
use Rattle.std.proofs.Common.{◌≡◌, ℕ, zero, suc, ◌+◌, ◌<◌, ◌≤◌, ◌==◌, nat_lt, Bool, true, false, not, ◌&&◌, ◌||◌, List, [], ◌∷◌, ◌++◌, length, map, reverse, take, drop, get_or, All, refl, sym, ap, subst, ◌∙◌, append_assoc, append-nil, length-append, arith}
use Rattle.std.specs.Prelude.{slice_set}
use Rattle.std.specs.List.{AllZip, list_any}
use Rattle.std.proofs.Math.Seq.{get_or-append_seam}
use Rattle.std.proofs.lemmas.Bool.{not-true}
use Rattle.std.proofs.lemmas.List.{get_or-map, length-map, length-reverse, length_push, reverse-append, reverse-reverse, take_more_set}
use Rattle.std.proofs.lemmas.List.Folds.{list_any-append}
use Rattle.std.proofs.lemmas.Slice.Zip.{all_zipped_more}
use Rattle.anti_ids.specs.List.{Listed}
use Rattle.anti_ids.specs.ListCalls.{pushed}
use Rattle.anti_kind.specs.declared.entry.Entry.{Entry}
use Rattle.anti_object.specs.declared.object.Object.{Object}
use Rattle.anti_shared.specs.Passes.{Identity, PassView, SharedView, with_count}
use Rattle.anti_shim.specs.declared.caller.Caller.{Caller}
use Rattle.anti_live.specs.Clients.{ClientView, IsAsked, IsClient, IsLeft, IsOf, LiveView, asked_alone, id_of_pass, id_of_shared, is_another_out}
use Rattle.anti_live.specs.inner.Closing.{AreAsking, AreClosing}
use Rattle.anti_live.specs.inner.Lives.{AreOf}
use Rattle.anti_live.proofs.Belonging.{client_stays, id_at, of_others, same_long}
use Rattle.anti_live.proofs.Changed.{changed_all, changed_first, changed_more, next_same, zipped_at}

-- ---- each is asked

-- of at least one pass another is out exactly where they are not one
lone : (n : ℕ) → 0 < n → (n == 1) ≡ not (nat_lt 1 n)
lone zero some = absurd (omega arith)
lone (suc zero) some = refl
lone (suc (suc n)) some = grind arith

neither : (a b : Bool) → (not a && not b) ≡ not (a || (b || false))
neither true b = refl
neither false true = refl
neither false false = refl

pub asking_first : (old : List (PassView Object)) → AreAsking old 0 old true
asking_first old = record { asked = changed_first IsAsked old; answer = refl }

module _ (old : List (PassView Object)) (at : ℕ) (now : List (PassView Object)) (alone : Bool) (low : at < length old) (a : AreAsking old at now alone)
    (was : PassView Object) (is : was ≡ get_or now at was) where
  pub asking_id : (shareds : List (SharedView Object)) (shared : SharedView Object) → AreOf shareds old → shared ≡ get_or shareds at shared → was.id ≡ shared.id
  asking_id shareds shared of there =
      let long = same_long shareds old of in
      id_at shareds old of at shared was (omega arith) there (next_same IsAsked old at now low a.asked was is)

  pub asking_more : (next : PassView Object) (one : Bool) → next ≡ with_count was next.out → 0 < next.out → next.alone ≡ one
      → AreAsking old (at + 1) (slice_set now at next) (alone && one)
  asking_more next one next_is some noted =
      let long = a.asked.long in
      let tells : one ≡ not (is_another_out next) = sym noted ∙ ap (λ (p : PassView Object). p.alone) next_is ∙ lone next.out some in
      record {
        asked = changed_more IsAsked old at now low a.asked was next is (next_is, some);
        answer = (λ i. a.answer i && tells i) ∙ neither (list_any is_another_out (take at now)) (is_another_out next)
            ∙ ap not (sym (ap (list_any is_another_out) (take_more_set now at next (omega arith)) ∙ list_any-append is_another_out (take at now) (next ∷ [])));
      }

pub asking_all : (old : List (PassView Object)) (at : ℕ) (now : List (PassView Object)) (alone : Bool) → length old ≤ at → AreAsking old at now alone → AllZip IsAsked old now
asking_all old at now alone past a = changed_all IsAsked old at now past a.asked

-- all were answered that no other is out
all_alone : (old now : List (PassView Object)) → AllZip IsAsked old now → list_any is_another_out now ≡ false → now ≡ map asked_alone old
all_alone [] [] asked none = refl
all_alone [] (q ∷ now) asked none = absurd asked
all_alone (p ∷ old) [] asked none = absurd asked
all_alone (p ∷ old) (q ∷ now) asked none = grind (arith, all_alone old now, asked)

-- ---- what a client has whose passes were asked

module _ (live : LiveView) (client : ClientView) (of : IsOf live client) (was now : List (PassView Object)) (same : was ≡ client.passes) (asked : AllZip IsAsked was now) where
  was_of : AreOf live.shareds was
  was_of = ap (map id_of_pass) same ∙ of.passes

  pub asked_of : AreOf live.shareds now
  asked_of = of_others live.shareds was was_of IsAsked (λ one next is. ap id_of_pass is.0) now asked

  pub asked_stays : (who : Caller) → IsClient was who → IsClient now who
  asked_stays who is =
      client_stays live.shareds was now was_of asked_of who who refl is
      (λ one next before after. ap (λ (p : PassView Object). p.number) (zipped_at IsAsked was now asked 0 one next before after).0)

  pub asked_without_another : (alone : Bool) → alone ≡ not (list_any is_another_out now) → alone ≡ true → now ≡ map asked_alone client.passes
  asked_without_another alone answer is = all_alone was now asked (not-true (list_any is_another_out now) (sym answer ∙ is)) ∙ ap (map asked_alone) same

pub are_noted : (old : List (PassView Object)) → All (λ (p : PassView Object). p.alone ≡ true) (map asked_alone old)
are_noted old k d low = ap (λ (p : PassView Object). p.alone) (get_or-map asked_alone old k d d (let long = length-map old asked_alone in omega arith))

-- ---- one more is closed

pub closing_first : (shareds : List (SharedView Object)) (passes : List (PassView Object)) (kepts : Listed (Object × Listed Entry)) → AreOf shareds passes → kepts.items ≡ []
    → length shareds ≤ kepts.spare → AreClosing passes (reverse shareds) (reverse passes) kepts
closing_first shareds passes kepts of none room = record {
  gone = [];
  whole = sym (reverse-reverse passes);
  of = ap (map id_of_pass) (reverse-reverse passes) ∙ of ∙ ap (map id_of_shared) (sym (reverse-reverse shareds));
  closed = subst (AllZip IsLeft []) (sym none) tt;
  room = let long = length-reverse shareds in omega arith;
}

-- there is a pass for each object
pub closing_long : (passes : List (PassView Object)) (shareds : List (SharedView Object)) (left : List (PassView Object)) (kepts : Listed (Object × Listed Entry))
    → AreClosing passes shareds left kepts → length left ≡ length shareds
closing_long passes shareds left kepts c =
    sym (length-reverse left) ∙ same_long (reverse shareds) (reverse left) c.of ∙ length-reverse shareds

module _ (passes : List (PassView Object)) (whole objects : List (SharedView Object)) (shared : SharedView Object) (is : whole ≡ objects ++ shared ∷ [])
    (all left : List (PassView Object)) (pass : PassView Object) (also : all ≡ left ++ pass ∷ []) (kepts : Listed (Object × Listed Entry)) (c : AreClosing passes whole all kepts) where
  turned : reverse all ≡ pass ∷ reverse left
  turned = ap reverse also ∙ reverse-append left (pass ∷ [])

  next_whole : passes ≡ c.gone ++ pass ∷ reverse left
  next_whole = c.whole ∙ ap (λ (ps : List (PassView Object)). c.gone ++ ps) turned

  both_of : AreOf (shared ∷ reverse objects) (pass ∷ reverse left)
  both_of = ap (map id_of_pass) (sym turned) ∙ c.of ∙ ap (map id_of_shared) (ap reverse is ∙ reverse-append objects (shared ∷ []))

  pub closing_id : pass.id ≡ shared.id
  closing_id = ap (λ (ids : List (Identity Object)). get_or ids 0 pass.id) both_of

  pub closing_noted : All (λ (p : PassView Object). p.alone ≡ true) passes → pass.alone ≡ true
  closing_noted alone =
      subst (λ (p : PassView Object). p.alone ≡ true) (ap (λ (ps : List (PassView Object)). get_or ps (length c.gone) pass) next_whole ∙ get_or-append_seam c.gone pass (reverse left) pass)
      (alone (length c.gone) pass
      (let long : length passes ≡ length c.gone + length (pass ∷ reverse left) = ap length next_whole ∙ length-append c.gone (pass ∷ reverse left) in omega arith))

  one_more : length whole ≡ length objects + 1
  one_more = ap length is ∙ length_push objects shared

  pub closing_room : 0 < kepts.spare
  closing_room = let more = one_more in let room = c.room in omega arith

  pub closing_more : (kept : Object × Listed Entry) → IsLeft pass kept → AreClosing passes objects left (pushed kepts kept)
  closing_more kept closed = record {
    gone = c.gone ++ pass ∷ [];
    whole = next_whole ∙ sym (append_assoc c.gone (pass ∷ []) (reverse left));
    of = ap (λ (ids : List (Identity Object)). drop 1 ids) both_of;
    closed = all_zipped_more IsLeft c.gone kepts.items pass kept c.closed closed;
    room = let more = one_more in let room = c.room in omega arith;
  }

pub closing_all : (passes : List (PassView Object)) (shareds : List (SharedView Object)) (left : List (PassView Object)) (kepts : Listed (Object × Listed Entry)) → length shareds ≡ 0
    → AreClosing passes shareds left kepts → AllZip IsLeft passes kepts.items
closing_all passes shareds [] kepts none c = subst (λ (ps : List (PassView Object)). AllZip IsLeft ps kepts.items) (sym (c.whole ∙ append-nil c.gone)) c.closed
closing_all passes shareds (pass ∷ left) kepts none c = absurd (let long = closing_long passes shareds (pass ∷ left) kepts c in omega arith)
