-- A mark without a dot names no birth.
use Rattle.std.proofs.Common.{◌≡◌, ℕ, ◌+◌, ◌==◌, List, [], Bool, true, false, cond, nat_lt, length, take, drop, Option, None, Some, refl, ap, ◌∙◌, arith}
use Rattle.std.specs.Prelude.{position}
use Rattle.std.specs.List.{position_or_len}
use Rattle.std.proofs.lemmas.Bool.{ltb-false}
use Rattle.std.proofs.lemmas.List.{drop_all}
use Rattle.anti_ids.specs.Ascii.{dot}
use Rattle.anti_app.specs.declared.app.App.{App}
use Rattle.anti_app.specs.declared.app.Choice.{Choice}
use Rattle.anti_app.specs.declared.app.Choice.TheVariants.{Go}
use Rattle.anti_app.specs.Chosen.{number_of, object_named, if_both, go_to}

no_number : number_of [] ≡ None
unfolding number_of
no_number = refl

none_made : (make : ℕ → ℕ → Choice) (first second : Option ℕ) → second ≡ None → if_both make first second ≡ None
none_made make None second none = refl
none_made make (Some x) None none = refl
none_made make (Some x) (Some y) none = absurd (cc)

pub no_dot : (app : App) (mark : List ℕ) → position (λ b. b == dot) mark ≡ None → go_to app mark ≡ None
unfolding go_to
no_dot app mark none = by_place (nat_lt first (length mark)) refl none
  where
    first : ℕ
    first = position_or_len (λ b. b == dot) mark

    by_place : (there : Bool) → nat_lt first (length mark) ≡ there → cond there (Some first) None ≡ None
        → if_both Go (object_named app (take first mark)) (number_of (drop (first + 1) mark)) ≡ None
    by_place true at none = absurd (cc)
    by_place false past none =
        let behind = ltb-false first (length mark) past in
        let nothing : drop (first + 1) mark ≡ [] = drop_all (first + 1) mark (omega (arith, behind)) in
        none_made Go (object_named app (take first mark)) (number_of (drop (first + 1) mark)) (ap number_of nothing ∙ no_number)
