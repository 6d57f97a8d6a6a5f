use Rattle.std.proofs.Common.{[], ◌∷◌, ℕ, cond, refl, sym, ap, ◌∙◌, subst}
use Rattle.std.specs.Prelude.{IsSome, Option}
use Rattle.std.specs.Global.{Vec}
use Rattle.std.proofs.lemmas.Result.{on_ok_weaker}
use Rattle.anti_doctor.specs.inner.Indexes.{places_under, same_key}
use Rattle.anti_doctor.proofs.Indexing.{under_first, under_further}
use Rattle.anti_doctor.proofs.write_index.note.Goals as goal

pub returns-in-Ok : goal.returns-in-Ok
returns-in-Ok c = λ q.
    let was = c.in-Some.places.now in
    let now = c.push.new.self in
    under_further c.args.index.now (c.get_mut.follows.lender now) c.args.key c.args.place was now
    (sym c.in-Some.ensures.value) c.in-Ok.ensures.items
    ((c.get_mut.follows.holds now).3 (subst (λ (o : Option (Vec ℕ)). IsSome o) c.in-Some.ensures.value refl)) q

pub returns-in-None : goal.returns-in-None
returns-in-None c = λ q.
    let m = c.args.index.now in
    on_ok_weaker c.note_first.result
    (λ is. under_first m c.note_first.new.index c.args.key c.args.place (sym c.in-None.ensures.value) q
    (is ∙ ap (λ old. cond (same_key c.args.key q) (c.args.place ∷ []) (places_under old q)) c.get_mut.follows.holds-at-none))
    (c.note_first.ensures q)
