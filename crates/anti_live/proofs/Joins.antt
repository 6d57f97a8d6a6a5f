-- The passes of a client are joined into those of another.
use Rattle.std.proofs.Common.{◌≡◌, ℕ, zero, suc, ◌+◌, ◌<◌, List, [], ◌∷◌, ◌++◌, length, map, max, take, drop, get_or, refl, sym, ap, subst, ◌∙◌, append_assoc, append-nil, length-append, arith}
use Rattle.std.specs.Prelude.{Some, slice_get, slice_set}
use Rattle.std.proofs.Math.Seq.{get_or-append_seam, set-append_seam}
use Rattle.std.proofs.lemmas.List.{drop_all, drop_more, length-take-le, length_push, take_all, take_more}
use Rattle.std.proofs.lemmas.Option.{same_Some, slice_get_within}
use Rattle.anti_object.specs.declared.object.Object.{Object}
use Rattle.anti_shared.specs.Passes.{IsJoined, PassView, SharedView}
use Rattle.anti_shim.specs.declared.caller.Caller.{Caller}
use Rattle.anti_live.specs.Clients.{ClientView, IsClient, IsJoinedTo, IsOf, LiveView, id_of_pass}
use Rattle.anti_live.specs.inner.Joining.{AllJoined, AreJoining}
use Rattle.anti_live.specs.inner.Lives.{AreJoined, AreOf}
use Rattle.anti_live.proofs.Belonging.{client_stays, id_at, same_long, stands_too}

-- what stands at a place of the three lists
joined_at : (old from new : List (PassView Object)) → AllJoined old from new → (o : ℕ) (one other both : PassView Object)
    → slice_get old o ≡ Some one → slice_get from o ≡ Some other → slice_get new o ≡ Some both → IsJoined one other both
joined_at [] from new all o one other both first second third = absurd (let low = slice_get_within [] o one first in omega arith)
joined_at (a ∷ old) [] new all o one other both first second third = absurd all
joined_at (a ∷ old) (b ∷ from) [] all o one other both first second third = absurd all
joined_at (a ∷ old) (b ∷ from) (c ∷ new) all zero one other both first second third =
    subst (λ (z : PassView Object × PassView Object × PassView Object). IsJoined z.0 z.1 z.2)
    (λ i. (same_Some a one first i, same_Some b other second i, same_Some c both third i)) all.0
joined_at (a ∷ old) (b ∷ from) (c ∷ new) all (suc o) one other both first second third = joined_at old from new all.1 o one other both first second third

-- they stay of the same objects
joined_ids : (old from new : List (PassView Object)) → AllJoined old from new → map id_of_pass new ≡ map id_of_pass old
joined_ids [] [] [] all = refl
joined_ids [] [] (c ∷ new) all = absurd all
joined_ids [] (b ∷ from) new all = absurd all
joined_ids (a ∷ old) [] new all = absurd all
joined_ids (a ∷ old) (b ∷ from) [] all = absurd all
joined_ids (a ∷ old) (b ∷ from) (c ∷ new) all = λ i. ap id_of_pass all.0.new_is i ∷ joined_ids old from new all.1 i

pub joining_first : (old from : List (PassView Object)) → length old ≡ length from → AreJoining old from from old
joining_first old from long = record {
  gone = [];
  done = [];
  whole = sym (append-nil from);
  now = sym (append-nil (take (length from) old) ∙ take_all (length from) old (omega arith));
  joined = subst (λ (ps : List (PassView Object)). AllJoined ps [] []) (sym (drop_all (length from) old (omega arith))) tt;
}

module _ (shareds : List (SharedView Object)) (old from all left new : List (PassView Object)) (pass : PassView Object) (is : all ≡ left ++ pass ∷ [])
    (old_of : AreOf shareds old) (from_of : AreOf shareds from) (j : AreJoining old from all new) where
  next_whole : from ≡ left ++ pass ∷ j.gone
  next_whole = j.whole ∙ ap (λ (ps : List (PassView Object)). ps ++ j.gone) is ∙ append_assoc left (pass ∷ []) j.gone

  one_more : length all ≡ length left + 1
  one_more = ap length is ∙ length_push left pass

  pub next_there : length left < length shareds
  next_there =
      let long = same_long shareds from from_of in
      let whole : length from ≡ length left + length (pass ∷ j.gone) = ap length next_whole ∙ length-append left (pass ∷ j.gone) in
      omega arith

  within : length left < length old
  within = let there = next_there in let long = same_long shareds old old_of in omega arith

  pub next_from : (shared : SharedView Object) → shared ≡ get_or shareds (length left) shared → pass.id ≡ shared.id
  next_from shared there =
      id_at shareds from from_of (length left) shared pass next_there there
      (sym (ap (λ (ps : List (PassView Object)). get_or ps (length left) pass) next_whole ∙ get_or-append_seam left pass j.gone pass))

  module _ (one : PassView Object) (at : one ≡ get_or new (length left) one) where
    abbrev before : List (PassView Object)
    before = take (length left) old

    before_long : length before ≡ length left
    before_long = let low = within in length-take-le (length left) old (omega arith)

    next_now : new ≡ before ++ get_or old (length left) one ∷ j.done
    next_now =
        j.now ∙ ap (λ (n : ℕ). take n old ++ j.done) one_more ∙ ap (λ (ps : List (PassView Object)). ps ++ j.done) (take_more old (length left) one within)
        ∙ append_assoc before (get_or old (length left) one ∷ []) j.done

    as_it_was : one ≡ get_or old (length left) one
    as_it_was =
        at ∙ ap (λ (ps : List (PassView Object)). get_or ps (length left) one) next_now ∙ ap (λ (n : ℕ). get_or (before ++ get_or old (length left) one ∷ j.done) n one) (sym before_long)
        ∙ get_or-append_seam before (get_or old (length left) one) j.done one

    pub next_into : (shared : SharedView Object) → shared ≡ get_or shareds (length left) shared → one.id ≡ shared.id
    next_into shared there = id_at shareds old old_of (length left) shared one next_there there as_it_was

    pub joining_more : (both : PassView Object) → IsJoined one pass both → AreJoining old from left (slice_set new (length left) both)
    joining_more both joined = record {
      gone = pass ∷ j.gone;
      done = both ∷ j.done;
      whole = next_whole;
      now = (λ i. slice_set (next_now i) (sym before_long i) both) ∙ set-append_seam before (get_or old (length left) one) j.done both;
      joined = subst (λ (ps : List (PassView Object)). AllJoined ps (pass ∷ j.gone) (both ∷ j.done))
          (sym (drop_more old (length left) one within ∙ (λ i. sym as_it_was i ∷ drop (sym one_more i) old)))
          (joined, j.joined);
    }

pub joining_all : (shareds : List (SharedView Object)) (old from left new : List (PassView Object)) → AreOf shareds old → length left ≡ 0 → AreJoining old from left new → AreJoined shareds old from new
joining_all shareds old from [] new of none j =
    let all : AllJoined old from new = subst (λ (z : List (PassView Object) × List (PassView Object)). AllJoined old z.0 z.1) (λ i. (sym j.whole i, sym j.now i)) j.joined in
    record {
      of = joined_ids old from new all ∙ of;
      joined = joined_at old from new all;
    }
joining_all shareds old from (pass ∷ left) new of none j = absurd (omega arith)

-- ---- a client takes another in

module _ (live : LiveView) (into from : ClientView) (new : List (PassView Object)) (into_of : IsOf live into) (from_of : IsOf live from) (joined : AreJoined live.shareds into.passes from.passes new) where
  pub join_stays : (was who : Caller) → who.actor ≡ was.actor → IsClient into.passes was → IsClient new who
  join_stays was who same is =
      client_stays live.shareds into.passes new into_of.passes joined.of was who same is
      (λ one both before after. ap (λ (p : PassView Object). p.number)
      (joined.joined 0 one (get_or from.passes 0 both) both before (stands_too live.shareds from.passes new from_of.passes joined.of 0 both both after) after).new_is)

  pub joined_to : (clock : ℕ) → clock ≡ max into.who.clock from.who.clock → IsJoinedTo live into from (record into { passes = new; who = record into.who { clock = clock } })
  joined_to clock is = record {
    of = record { passes = joined.of; here = into_of.here };
    new_is = λ i. record into { passes = new; who = record into.who { clock = is i } };
    joined = joined.joined;
  }
