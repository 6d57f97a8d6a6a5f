-- A further pass is split off each pass of a client.
use Rattle.std.proofs.Common.{◌≡◌, ℕ, zero, suc, ◌+◌, ◌<◌, ◌≤◌, List, [], ◌∷◌, ◌++◌, length, map, get_or, refl, sym, ap, subst, ◌∙◌, arith}
use Rattle.std.specs.Prelude.{slice_get, slice_set}
use Rattle.std.specs.List.{AllZip}
use Rattle.std.proofs.lemmas.List.{take_all}
use Rattle.std.proofs.lemmas.List.Elements.{all_zip_more}
use Rattle.anti_object.specs.declared.object.Object.{Object}
use Rattle.anti_shared.specs.Passes.{IsSplit, PassView, SharedView}
use Rattle.anti_shim.specs.declared.caller.Caller.{Caller}
use Rattle.anti_live.specs.Clients.{ClientView, IsClient, IsOf, IsSplitOff, LiveView, id_of_pass, least_room}
use Rattle.anti_live.specs.Stores.{here_of}
use Rattle.anti_live.specs.inner.Lives.{AreOf, AreSplit}
use Rattle.anti_live.specs.inner.Splitting.{AreSplitting, IsLeftOf, IsSplitFrom}
use Rattle.anti_live.proofs.Belonging.{client_stays, id_at, of_others, same_long, stands_too}
use Rattle.anti_live.proofs.Changed.{changed_all, changed_first, changed_more, next_same, zipped_at}

-- no pass has less room than the least
least_at : (passes : List (PassView Object)) (o : ℕ) (d : PassView Object) → o < length passes → least_room passes ≤ (get_or passes o d).room
least_at [] o d low = absurd (omega arith)
least_at (pass ∷ rest) zero d low = omega arith
least_at (pass ∷ rest) (suc o) d low = let more = least_at rest o d (omega arith) in omega arith

pub splitting_first : (old : List (PassView Object)) → AreSplitting old old [] 0
splitting_first old = record { rest_are = changed_first IsLeftOf old; new_are = tt }

module _ (shareds : List (SharedView Object)) (old rest new : List (PassView Object)) (at : ℕ) (of : AreOf shareds old) (low : at < length shareds) (s : AreSplitting old rest new at)
    (was : PassView Object) (is : was ≡ get_or rest at was) where
  within : at < length old
  within = let long = same_long shareds old of in omega arith

  as_it_was : was ≡ get_or old at was
  as_it_was = next_same IsLeftOf old at rest within s.rest_are was is

  pub next_id : (shared : SharedView Object) → shared ≡ get_or shareds at shared → was.id ≡ shared.id
  next_id shared there = id_at shareds old of at shared was low there as_it_was

  pub next_room : 0 < least_room old → 0 < was.room
  next_room some =
      let least = least_at old at was within in
      let same : was.room ≡ (get_or old at was).room = ap (λ (p : PassView Object). p.room) as_it_was in
      omega arith

  pub splitting_more : (left more : PassView Object) → IsSplit was left more → AreSplitting old (slice_set rest at left) (new ++ more ∷ []) (at + 1)
  splitting_more left more split = record {
    rest_are = changed_more IsLeftOf old at rest within s.rest_are was left is split.rest_is;
    new_are = all_zip_more IsSplitFrom old new at was more within as_it_was s.new_are (subst (λ (p : PassView Object). IsSplit was p more) split.rest_is split);
  }

pub splitting_all : (shareds : List (SharedView Object)) (old rest new : List (PassView Object)) (at : ℕ) → AreOf shareds old → length shareds ≤ at → AreSplitting old rest new at
    → AreSplit shareds old rest new
splitting_all shareds old rest new at of past s =
    let long = same_long shareds old of in
    let lefts : AllZip IsLeftOf old rest = changed_all IsLeftOf old at rest (omega arith) s.rest_are in
    let mades : AllZip IsSplitFrom old new = subst (λ (ps : List (PassView Object)). AllZip IsSplitFrom ps new) (take_all at old (omega arith)) s.new_are in
    record {
      rest_of_them = of_others shareds old of IsLeftOf (λ was left is. ap id_of_pass is) rest lefts;
      new_of_them = of_others shareds old of IsSplitFrom (λ was made split. ap id_of_pass split.new_is) new mades;
      split = λ o was left made before after there.
          subst (λ (p : PassView Object). IsSplit was p made) (sym (zipped_at IsLeftOf old rest lefts o was left before after))
          (zipped_at IsSplitFrom old new mades o was made before there);
    }

-- ---- a client is made of another

module _ (live : LiveView) (old : ClientView) (rest made : List (PassView Object)) (of : IsOf live old) (split : AreSplit live.shareds old.passes rest made) where
  pub split_stays : (who : Caller) → IsClient old.passes who → IsClient rest who
  split_stays who is =
      client_stays live.shareds old.passes rest of.passes split.rest_of_them who who refl is
      (λ one left was now. ap (λ (p : PassView Object). p.number)
      (split.split 0 one left (get_or made 0 left) was now (stands_too live.shareds made rest split.new_of_them split.rest_of_them 0 left left now)).rest_is)

  pub split_off : (region : ℕ) (new : ClientView) → new.passes ≡ made → new.region ≡ region → new.here ≡ here_of region live.stores → new.lineage ≡ [] → new.who.span ≡ 1 → new.who.clock ≡ 0
      → IsSplitOff live region old (record old { passes = rest }) new
  split_off region new passes_are region_is here_is lineage span clock = record {
    rest_of_it = record { passes = split.rest_of_them; here = of.here };
    new_of_it = record {
      passes = ap (map id_of_pass) passes_are ∙ split.new_of_them;
      here = here_is ∙ ap (λ (r : ℕ). here_of r live.stores) (sym region_is);
    };
    rest_is = refl;
    split = λ o was left one before after there. split.split o was left one before after (ap (λ (ps : List (PassView Object)). slice_get ps o) (sym passes_are) ∙ there);
    region_is = region_is;
    lineage = lineage;
    span = span;
    clock = clock;
  }
