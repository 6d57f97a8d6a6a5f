use Rattle.std.proofs.Common.{◌≡◌, [], ◌∷◌, cond, refl, sym, ap, ◌∙◌, subst, ℕ}
use Rattle.std.specs.Prelude.{IsSome, Option, None, Some, option_map}
use Rattle.std.specs.Global.{Vec}
use Rattle.std.proofs.lemmas.Result.{on_ok_weaker}
use Rattle.anti_past.specs.inner.Keys.{same_key}
use Rattle.anti_past.specs.inner.Reading.{noted_for}
use Rattle.anti_past.proofs.SpansRead.{noted_further, noted_new}
use Rattle.anti_past.proofs.span_reads.note_under.Goals as goal

pub returns-in-Ok : goal.returns-in-Ok
returns-in-Ok c = λ q.
    let was = c.in-Some.reads.now in
    let now = c.push.new.self in
    noted_further c.args.noted.now (c.get_mut.follows.lender now) c.args.key c.args.index was now
    (sym c.in-Some.ensures.value) c.in-Ok.ensures.items
    ((c.get_mut.follows.holds now).3 (subst (λ (o : Option (Vec ℕ)). IsSome o) c.in-Some.ensures.value refl)) q

pub returns-in-None : goal.returns-in-None
returns-in-None c = λ q.
    let key = c.args.key in
    let m = c.args.noted.now in
    let none : noted_for m key ≡ None = ap (option_map (λ (v : Vec ℕ). v.items)) (sym c.in-None.ensures.value) in
    on_ok_weaker c.note_first.result
    (λ is. noted_new m c.note_first.new.noted key c.args.index none q
    (is ∙ ap (λ old. cond (same_key key q) (Some (c.args.index ∷ [])) (noted_for old q)) c.get_mut.follows.holds-at-none))
    (c.note_first.ensures q)
