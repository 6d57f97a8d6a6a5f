-- Runs that were tried, where one more is.
use Rattle.std.proofs.Common.{◌≡◌, ℕ, ◌+◌, ◌++◌, ◌∷◌, true, List, [], length, refl, sym, ap, ◌∙◌, subst, length-append}
use Rattle.std.specs.Prelude.{Option, None, Some, IfSome, is_some}
use Rattle.std.proofs.lemmas.List.Elements.{All-nil, All-push}
use Rattle.anti_kind.specs.declared.entry.Entry.{Entry}
use Rattle.anti_app.specs.declared.app.App.{App}
use Rattle.anti_adversary.specs.Runs.{MissesNothing}
use Rattle.anti_adversary.specs.Verdicts.{AreTriedInVain, IsLong, IsMiss, IsTriedInVain}
use Rattle.anti_adversary.specs.declared.searching.Missed.{Missed}
use Rattle.anti_adversary.specs.declared.searching.Searched.{Searched}
use Rattle.anti_adversary.specs.inner.Playing.{IsWhole}
use Rattle.anti_adversary.specs.inner.Searching.{IsSearched}

-- before the first
pub none_tried : (app : App) (s : Searched) → s.runs ≡ 0 → s.long ≡ None → IsSearched app s
none_tried app s none short = record {
  runs = subst (AreTriedInVain app) (sym none) (record { tries = []; count_is = refl; each = All-nil (IsTriedInVain app) });
  long = subst (λ (o : Option Missed). IfSome o (λ m. IsLong app m.entries m.span)) (sym short) tt;
}

-- one that missed nothing
tried_more : (app : App) (count : ℕ) (trace : List Entry) → AreTriedInVain app count → IsWhole app trace → MissesNothing trace
    → AreTriedInVain app (count + 1)
tried_more app count trace tried whole nothing = record {
  tries = tried.tries ++ whole.choices ∷ [];
  count_is = length-append tried.tries (whole.choices ∷ []) ∙ ap (λ (n : ℕ). n + 1) tried.count_is;
  each = All-push (IsTriedInVain app) tried.tries whole.choices tried.each (record { trace = trace; whole = whole.whole; sound = nothing });
}

pub searched_more : (app : App) (old now : Searched) (trace : List Entry) → IsSearched app old → now.runs ≡ old.runs + 1 → now.long ≡ old.long
    → IsWhole app trace → MissesNothing trace → IsSearched app now
searched_more app old now trace searched runs long whole nothing = record {
  runs = subst (AreTriedInVain app) (sym runs) (tried_more app old.runs trace searched.runs whole nothing);
  long = subst (λ (o : Option Missed). IfSome o (λ m. IsLong app m.entries m.span)) (sym long) searched.long;
}

-- one that missed something
pub searched_long : (app : App) (old now : Searched) (missed : Missed) (trace : List Entry) → IsSearched app old → now.runs ≡ old.runs
    → (old.long ≡ None → now.long ≡ Some missed) → (is_some old.long ≡ true → now.long ≡ old.long)
    → IsWhole app trace → length trace ≡ missed.entries → IsMiss trace missed.span → IsSearched app now
searched_long app old now missed trace searched runs first later whole entries miss = record {
  runs = subst (AreTriedInVain app) (sym runs) searched.runs;
  long = by_long old.long first later searched.long;
}
  where
    by_long : (o : Option Missed) → (o ≡ None → now.long ≡ Some missed) → (is_some o ≡ true → now.long ≡ o)
        → IfSome o (λ m. IsLong app m.entries m.span) → IfSome now.long (λ m. IsLong app m.entries m.span)
    by_long None first later long =
        subst (λ (o : Option Missed). IfSome o (λ m. IsLong app m.entries m.span)) (sym (first refl))
        (record { choices = whole.choices; trace = trace; whole = whole.whole; entries_are = entries; found = miss })
    by_long (Some m) first later long = subst (λ (o : Option Missed). IfSome o (λ x. IsLong app x.entries x.span)) (sym (later refl)) long
