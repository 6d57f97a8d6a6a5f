use Rattle.std.proofs.Common.{◌≡◌, ◌++◌, [], cond, false, ◌+◌, refl, sym, ap, ◌∙◌, subst}
use Rattle.std.specs.Prelude.{IsSome, Option, Some, option_map, unwrap_or}
use Rattle.std.proofs.lemmas.Result.{IfOk-weaker}
use Rattle.anti_past.specs.declared.came.AllCame.{AllCame}
use Rattle.anti_past.specs.declared.came.Came.{Came}
use Rattle.anti_past.specs.inner.Came.{Follows, IsKnown, TellsLoss, brought_at, ids_known}
use Rattle.anti_past.specs.inner.Keys.{key_of, same_key}
use Rattle.anti_past.proofs.Losing.{first_told, further_told, handed_came, none_known, none_lost}
use Rattle.anti_past.proofs.came.AllCame.follow.Goals as goal

pub returns-in_default : goal.returns-in_default
returns-in_default c = λ legal at handed known.
    let app = c.args.app.now in
    let trace = c.args.trace.now in
    let e = c.args.entry.now in
    let none = sym c.key_of.ensures ∙ c.in_default.is in
    (none_lost app trace c.args.index e at none, λ _. none_known app trace c.args.index e at none c.args.self.now known)

pub returns-in-Some-get_mut : goal.returns-in-Some-get_mut
returns-in-Some-get_mut c = λ legal at handed known.
    let app = c.args.app.now in
    let trace = c.args.trace.now in
    let k = c.args.index in
    let e = c.args.entry.now in
    let key = c.in-Some.key in
    let is : key_of e ≡ Some key = sym c.key_of.ensures ∙ c.in-Some.is in
    let was : Came = c.in-Some-get_mut.came.now in
    let now : Came = c.follow.new.self in
    let new : AllCame = record { spans = c.get_mut.follows.lender now } in
    let there = sym c.in-Some-get_mut.ensures.value in
    let updates = (c.get_mut.follows.holds now).3 (subst (λ (o : Option Came). IsSome o) c.in-Some-get_mut.ensures.value refl) in
    let ids = option_map (λ ids. ids.now) c.args.handed in
    IfOk-weaker c.follow.result (Follows app trace k ids was now)
    (λ lost. TellsLoss app trace k e lost × (lost ≡ false → IsKnown app trace (k + 1) new))
    (further_told app trace k e at key is c.args.self.now new known legal was now there updates ids handed)
    (c.follow.ensures (handed_came app trace k e at key is c.args.self.now new known legal was now there updates ids handed))

pub returns-in_ok-begin-in-None : goal.returns-in_ok-begin-in-None
returns-in_ok-begin-in-None c = λ legal at handed known.
    let app = c.args.app.now in
    let trace = c.args.trace.now in
    let k = c.args.index in
    let e = c.args.entry.now in
    let key = c.in-Some.key in
    let is : key_of e ≡ Some key = sym c.key_of.ensures ∙ c.in-Some.is in
    let ids = option_map (λ ids. ids.now) c.args.handed in
    let told = first_told app trace k e at key is c.args.self.now c.begin.new.self known legal ids handed (sym c.in-None.ensures.value)
    (λ q. c.in_ok-begin-in-None.ensures app trace q
    ∙ ap (λ spans. cond (same_key key q) (unwrap_or ids [] ++ (brought_at app trace k ++ [])) (ids_known app trace (record { spans = spans }) q))
    c.get_mut.follows.holds-at-none) in
    (told.0, λ _. told.1)
